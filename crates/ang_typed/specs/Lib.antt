pub mod Typed
pub mod View
pub mod Uses
pub mod Marked
