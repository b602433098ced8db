pub mod LineLaws
pub mod OutputLaws
pub mod Behind
pub mod TellingLaws
