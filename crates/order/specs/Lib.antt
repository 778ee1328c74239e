pub mod Reports
pub mod Drafts
pub mod Reading
