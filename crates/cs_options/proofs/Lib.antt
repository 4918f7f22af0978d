pub mod CutSteps
pub mod ExtentSteps
pub mod GeometrySteps
pub mod IdSteps
pub mod LargestSteps
pub mod NumberSteps
pub mod SearchSteps
