pub mod Texts
pub mod Streams
pub mod Reading
pub mod Holding
pub mod Moving
pub mod Cores
