pub mod Operands
pub mod Refusals
pub mod View
pub mod Operations
