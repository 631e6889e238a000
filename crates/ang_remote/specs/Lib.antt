pub mod Asks
pub mod Said
pub mod Lines
pub mod Ledger
pub mod KeysLedger
pub mod Wires
pub mod RemoteState
