pub mod Counts
pub mod ListingSteps
pub mod Places
pub mod Firsts
pub mod Nested
pub mod Covered
pub mod Linked
pub mod Numerals
pub mod ValueSteps
pub mod Entries
pub mod Alike
pub mod Said
pub mod Listed
pub mod Writing
pub mod WrittenEntries
pub mod Agrees
pub mod Bound
pub mod Documented
mod Held
mod RunSteps
mod Permuted
mod BeforeSteps
mod Backs
mod Holders
mod Spelling
