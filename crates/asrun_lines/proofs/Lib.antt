pub mod ValueLists
pub mod Cuts
pub mod FirstLines
pub mod Headers
pub mod Numerals
pub mod Joined
