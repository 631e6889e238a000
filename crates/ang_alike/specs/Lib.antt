pub mod SourcesAlike
pub mod Alike
pub mod Read
pub mod Misfits
pub mod Moved
pub mod Places
