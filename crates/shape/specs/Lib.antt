pub mod Lists
pub mod Listing
pub mod Tables
pub mod Sides
pub mod Questions
pub mod Verdict
