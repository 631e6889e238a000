pub mod TicketsLaws
