pub mod Readings
pub mod Copied
pub mod Facts
pub mod Viewing
pub mod Propositions
pub mod Growing
pub mod SoundAsMade
