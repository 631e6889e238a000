pub mod Found
pub mod Sound
pub mod Complete
pub mod Exactly
pub mod Answering
