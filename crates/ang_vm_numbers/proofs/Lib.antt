pub mod Congruence
pub mod Parts
pub mod Working
pub mod Signed
