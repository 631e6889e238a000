pub mod Typing
pub mod Positions
pub mod View
pub mod Bodies
pub mod Judging
pub mod Denials
