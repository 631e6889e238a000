pub mod Text
pub mod Denied
pub mod Trace
