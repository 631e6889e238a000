pub mod Globals
pub mod Asked
pub mod Determined
pub mod Counting
pub mod Alike
pub mod Causes
