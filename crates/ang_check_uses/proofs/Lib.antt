pub mod Beside
pub mod ChosenLaws
pub mod Contests
pub mod ToldChoices
