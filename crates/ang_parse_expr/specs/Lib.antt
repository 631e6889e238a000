pub mod ReadType
pub mod ReadExpr
