pub mod Sequences
pub mod Parameters
pub mod Slots
pub mod Stacks
pub mod Tables
pub mod Arms
