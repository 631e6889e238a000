pub mod Sources
pub mod Spellings
pub mod Types
pub mod Declarations
pub mod Earlier
pub mod Taken
