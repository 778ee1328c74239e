pub mod Written
pub mod Writer
pub mod Formulas
pub mod Viewed
