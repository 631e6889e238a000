pub mod Calls
pub mod Methods
pub mod Operands
pub mod Typing
