-- What a get answers.
use Rattle.std.specs.Prelude.{Option, Result, Ok, Err, Vec, ℕ}
use Rattle.std.specs.declared.alloc.Global.{Global}
use Rattle.law_machine.specs.Element.{Content}
use Rattle.cs_core.specs.Lookups.{IsReading}
use Rattle.cs_store.specs.declared.errors.GetError.{GetError}
use Rattle.cs_store.specs.Errors.{get_refusal}

-- what a get gives of an identifier that has this in the map: None where there is nothing; where there is something its
-- bytes, or the error that its damage has, unless the device or memory refuses
abbrev pub IsGot : Option Content → Result (Option (Vec ℕ Global)) GetError → Type 0
IsGot content (Ok found) = IsReading content (Ok found)
IsGot content (Err error) = IsReading content (Err (get_refusal error))
