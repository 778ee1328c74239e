pub mod Accepting
pub mod Marks
pub mod Refusing
pub mod Starts
pub mod Fitting
