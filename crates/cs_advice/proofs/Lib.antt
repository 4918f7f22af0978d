pub mod Advising
pub mod Appended
pub mod Hexes
pub mod Knowing
pub mod Payloads
pub mod Telling
