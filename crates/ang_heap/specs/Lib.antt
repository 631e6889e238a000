pub mod Globals
pub mod Numbers
pub mod Parts
pub mod Heaps
pub mod Stores
