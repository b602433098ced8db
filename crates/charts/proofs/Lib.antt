pub mod RoundingLaws
pub mod RoundingCases
pub mod StandingLaws
pub mod ChartLaws
pub mod ChartCases
pub mod CastLaws
