pub mod Speed
