pub mod Lightening
pub mod Steps
pub mod Telling
