pub mod Access
pub mod Casts
pub mod Members
pub mod Names
pub mod Numbered
pub mod Operands
pub mod Scope
