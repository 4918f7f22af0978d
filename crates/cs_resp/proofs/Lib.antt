pub mod Readers
pub mod Digits
pub mod RequestReaders
pub mod Progressed
pub mod ArgumentSteps
