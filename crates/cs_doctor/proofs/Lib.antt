pub mod DoctorCounting
pub mod DoctorOpening
pub mod DoctorSections
pub mod DoctorWriting
pub mod Doctoring
pub mod Stepping
