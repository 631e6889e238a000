pub mod Read
pub mod Gives
pub mod From
pub mod Tokens
pub mod References
pub mod Law
pub mod Group
