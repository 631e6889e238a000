pub mod Graphs
pub mod Tables
pub mod Marks
