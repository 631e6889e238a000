pub mod Answers
pub mod Tickets
pub mod TicketsState
