pub mod Tickets
pub mod TicketsState
