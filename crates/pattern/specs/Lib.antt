pub mod Amounts
pub mod Laws
pub mod Place
pub mod Ring
pub mod Sides
pub mod Spot
pub mod Step
pub mod Vertex
