pub mod Taking
pub mod Calls
pub mod RoomLaws
pub mod Statement
pub mod Answered
pub mod Closings
pub mod Messages
