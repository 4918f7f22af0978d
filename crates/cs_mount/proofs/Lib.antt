pub mod Ones
pub mod Spelling
pub mod Saying
pub mod Twins
pub mod Unpaired
pub mod Telling
pub mod Making
pub mod Mounting
pub mod Lowering
pub mod Sealing
pub mod Repaging
pub mod Aging
pub mod Blank
pub mod Refinding
pub mod Keeping
pub mod First
pub mod Aged
pub mod Looking
pub mod Opened
pub mod Torn
pub mod Laying
pub mod NewPages
pub mod Halves
pub mod Laid
pub mod NewShown
pub mod NewOn
pub mod NewRead
pub mod Once
pub mod NewStore
pub mod Steps
pub mod Cleared
pub mod NewMade
pub mod Sectored
pub mod Hiding
pub mod Ending
pub mod Unread
pub mod EndsFound
pub mod Fenced
pub mod OtherHalf
pub mod Resectioning
pub mod Respelling
pub mod SealedImages
pub mod Sealings
pub mod Closing
pub mod LivingOn
pub mod Crossings
pub mod CrossedImages
pub mod Leaving
pub mod SealedRoots
mod Regiven
mod Resections
mod MadeMaps
mod MadeWrites
mod MadeShown
mod MadeLaw
mod LiveAdded
mod PagesRemade
mod MadeRuns
mod MadeRead
mod MadeWhy
mod MadeFound
mod MadeListed
pub mod Versioned
pub mod Rising
pub mod Taken
pub mod TakenInTwo
pub mod LeftOver
pub mod Lying
