pub mod Types
pub mod Guarded
pub mod Paths
pub mod TypedProgram
pub mod Runs
