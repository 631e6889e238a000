pub mod Script
pub mod Reading
pub mod Build
pub mod Answer
pub mod Named
pub mod Narrowed
pub mod Declares
pub mod Placed
