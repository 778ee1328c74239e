pub mod Writing
pub mod Long
pub mod Counting
pub mod Agreeing
pub mod Inward
pub mod Patches
