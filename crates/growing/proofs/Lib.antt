mod ByPosition
mod Lengthening
mod Unchanged
mod RingSteps
pub mod Counts
mod Moving
mod InTurn
mod Subdividing
pub mod Tables
pub mod FromBare
