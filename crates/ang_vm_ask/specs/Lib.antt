pub mod Counts
pub mod Fields
pub mod Asks
pub mod Askings
pub mod Entities
pub mod Fitting
pub mod Handing
pub mod Replies
