pub mod Meaning
pub mod Sound
pub mod Hosts
pub mod Unplaced
