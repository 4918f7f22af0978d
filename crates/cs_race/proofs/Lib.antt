pub mod RaceSteps
