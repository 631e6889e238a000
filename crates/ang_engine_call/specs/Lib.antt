pub mod Declaration
pub mod Headings
pub mod Named
pub mod Calls
pub mod Texts
pub mod Declarations
