pub mod FitLaws
pub mod RoomLaws
mod TakeLaws
mod PassLaws
