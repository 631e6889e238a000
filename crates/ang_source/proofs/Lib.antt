pub mod Worked
mod Unplaced
