pub mod Listing
pub mod Rising
pub mod Values
pub mod Tests
