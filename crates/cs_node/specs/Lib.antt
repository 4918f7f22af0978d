pub mod Accounts
pub mod Answers
pub mod Behind
pub mod Choices
pub mod Closes
pub mod Dues
pub mod Jobs
pub mod Locks
pub mod Looks
pub mod Mirror
pub mod Numbers
pub mod Starts
pub mod Streams
pub mod Sweeps
pub mod Tallies
pub mod Told
pub mod Under
pub use Rattle.cs_core.specs as cs_core
