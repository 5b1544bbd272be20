pub mod Back
pub mod Sound
pub mod SoundCommands
pub mod Plain
pub mod Lines
pub mod Feeds
pub mod OneEach
