pub mod Views
pub mod Checked
pub mod Parts
pub mod Built
pub mod Seen
pub mod Placed
