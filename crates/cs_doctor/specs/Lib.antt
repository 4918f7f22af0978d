pub mod Doctor
pub mod DoctorCounts
pub mod DoctorReports
pub mod DoctorStores
pub mod Steps
