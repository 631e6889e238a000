pub mod Hosting
pub mod Heaping
pub mod Giving
pub mod Storing
pub mod Puts
pub mod Numbering
pub mod Spending
