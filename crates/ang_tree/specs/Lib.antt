pub mod Kinds
pub mod TypeNames
pub mod Tree
pub mod Stmt
pub mod Depth
pub mod Declarations
pub mod View
