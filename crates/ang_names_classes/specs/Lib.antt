pub mod Headings
pub mod Hierarchy
pub mod Keys
pub mod Slots
pub mod Tables
pub mod Placed
pub mod Resolved
