pub mod InRing
pub mod OfCount
pub mod Agree
pub mod Shown
pub mod Patches
pub mod Propositions
pub mod Opening
