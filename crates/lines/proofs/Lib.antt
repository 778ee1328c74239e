pub mod Runs
pub mod LongStrip
pub mod Drawing
pub mod Agreeing
pub mod Inward
pub mod Patches
