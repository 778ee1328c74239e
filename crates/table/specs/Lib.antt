pub mod Made
pub mod Lists
pub mod Forwards
pub mod Sound
pub mod Views
pub mod Tables
