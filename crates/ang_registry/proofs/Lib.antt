pub mod FirstRow
pub mod Declared
pub mod Tables
pub mod Values
pub mod Among
pub mod Grouping
