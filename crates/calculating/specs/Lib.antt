pub mod Rules
pub mod Calculating
pub mod ViewWrites
