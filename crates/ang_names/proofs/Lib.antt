pub mod InRows
pub mod Inherited
pub mod Few
pub mod Named
pub mod Numbered
pub mod Ranks
pub mod Among
pub mod Nearest
