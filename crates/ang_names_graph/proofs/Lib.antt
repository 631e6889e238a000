pub mod Begun
pub mod Blocks
pub mod Closure
pub mod Rings
pub mod Rows
pub mod Within
