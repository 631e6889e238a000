pub mod ReadVars
pub mod ReadParams
pub mod Params
pub mod Ahead
pub mod ReadStmt
pub mod Parts
