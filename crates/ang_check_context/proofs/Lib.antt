pub mod Classes
pub mod NumberedLocals
