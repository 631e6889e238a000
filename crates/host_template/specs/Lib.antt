pub mod Answers
pub mod DoorsState
