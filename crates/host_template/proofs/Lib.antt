pub mod DoorsLaws
