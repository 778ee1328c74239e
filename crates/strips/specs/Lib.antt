pub mod Filled
pub mod Taking
pub mod Marks
pub mod Starts
pub mod Writing
