pub mod FewVertices
pub mod Stepping
