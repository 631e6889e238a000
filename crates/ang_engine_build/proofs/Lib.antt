pub mod SoFar
pub mod Scripts
pub mod Programs
pub mod Placed
pub mod Narrowing
pub mod Lookups
pub mod Declaring
pub mod Declared
