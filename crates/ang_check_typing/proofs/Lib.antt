pub mod Contending
pub mod Families
pub mod Operands
pub mod Passing
pub mod SoFar
pub mod ToldMethods
