pub mod Budget
pub mod Fields
pub mod Values
pub mod Limits
pub mod Lines
pub mod ProfileLines
pub mod SessionLines
pub mod Texts
