pub mod Calls
pub mod Crashes
pub mod Images
pub mod Moments
pub mod OnlyRead
pub mod Whole
