pub mod Tests
pub mod Answer
pub mod Laws
