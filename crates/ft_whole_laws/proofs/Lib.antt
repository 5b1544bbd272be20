pub mod Asked
pub mod Answered
pub mod Caused
pub mod Exported
pub mod Checked
