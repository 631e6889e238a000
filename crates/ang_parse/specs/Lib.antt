pub mod ReadFunction
pub mod Parts
pub mod ReadClass
pub mod MemberParts
pub mod Faults
pub mod ReadScript
pub mod Answers
