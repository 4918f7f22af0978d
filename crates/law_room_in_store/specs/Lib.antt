pub mod Cores
pub mod Images
pub mod Lives
pub mod Puts
pub mod Reclaims
pub mod Roomy
pub mod Sweeps
