-- How a store lies on a device.
use Rattle.std.specs.Prelude.{ℕ}
use Rattle.law_machine.specs.Format.{Format, Four, Two}

-- the format of the same store on a device of so many pages; format 2 doesn't say how many it has
abbrev pub on_pages : Format → (pages : ℕ) → Format
on_pages Two pages = Two
on_pages (Four store device) pages = Four store pages
