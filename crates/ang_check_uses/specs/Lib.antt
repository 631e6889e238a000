pub mod CallableKinds
pub mod Callables
pub mod Choosing
pub mod Contenders
pub mod Uses
