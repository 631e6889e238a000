pub mod Arms
pub mod Crossings
pub mod Objects
pub mod Turns
