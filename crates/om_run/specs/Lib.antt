pub mod Run
pub mod Departure
pub mod Table
pub mod Replay
pub mod Position
