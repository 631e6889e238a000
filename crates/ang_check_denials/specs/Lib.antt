pub mod Added
pub mod Denials
pub mod Masked
pub mod Names
pub mod Others
pub mod Takers
pub mod Telling
