pub mod Calculating
pub mod Places
pub mod Runs
pub mod Promises
pub mod Filling
pub mod Examples
pub mod Recorded
