pub mod Options
pub mod Commands
pub mod OwnLines
pub mod Posted
pub mod Talk
pub mod Standing
pub mod Turns
pub mod Conversation
