pub mod Appended
pub mod Steps
pub mod Tests
pub mod Shown
