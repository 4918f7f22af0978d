pub mod RaceNumbers
