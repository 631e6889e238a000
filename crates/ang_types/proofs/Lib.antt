pub mod BestLaws
pub mod MarkLaws
pub mod RivalLaws
pub mod StandingLaws
pub mod PlaceLaws
