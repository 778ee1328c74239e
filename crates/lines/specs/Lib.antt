pub mod Drawing
pub mod ViewStrips
