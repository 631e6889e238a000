pub mod Turns
pub mod Outcomes
pub mod DependsOnPrefix
pub mod Tokens
pub mod Referred
pub mod Loops
pub mod Whole
pub mod PrefixGroup
