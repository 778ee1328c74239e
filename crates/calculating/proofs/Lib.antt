pub mod Runs
pub mod Inside
pub mod InnerRing
pub mod Patches
