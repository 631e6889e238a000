pub mod Paths
pub mod Positions
pub mod Ways
pub mod Typing
pub mod Halts
pub mod View
