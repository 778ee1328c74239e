pub mod Edges
pub mod Placed
pub mod RingGrowth
pub mod Stepping
pub mod SteppingAll
pub mod Standing
