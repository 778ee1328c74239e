pub mod InTurn
pub mod InTable
pub mod Answering
