pub mod Beginning
pub mod NoWay
pub mod SoFar
pub mod Stopping
