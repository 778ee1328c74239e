pub mod Pyramids
