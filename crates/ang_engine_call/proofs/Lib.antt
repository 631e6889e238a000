pub mod Found
pub mod Joined
pub mod Lengths
pub mod OneHeading
pub mod SameHeading
pub mod SoFar
pub mod Spelled
