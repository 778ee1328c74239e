pub mod Slices
pub mod Sides
pub mod Held
pub mod Positions
pub mod Views
pub mod Rows
