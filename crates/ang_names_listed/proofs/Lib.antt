pub mod Lists
pub mod Codes
pub mod Among
pub mod Counts
pub mod Few
pub mod HostNames
pub mod NamesSoFar
