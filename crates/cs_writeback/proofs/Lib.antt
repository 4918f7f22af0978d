pub mod Histories
pub mod Runs
pub mod MadeRoom
pub mod Asked
pub mod Turned
pub mod SyncSteps
pub mod SweepSteps
pub mod DueRefusals
