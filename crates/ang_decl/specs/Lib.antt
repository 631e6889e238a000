pub mod Grammar
pub mod Signatures
pub mod Read
pub mod Parsed
pub mod Meaning
