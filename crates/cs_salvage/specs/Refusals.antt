-- The number and the name of each refusal of a get.
use Rattle.std.specs.Prelude.{ℕ, List, codes}
use Rattle.cs_refusal.specs.Refusals.{name_of as refusal_name, number_of as refusal_number}
use Rattle.cs_salvage.specs.declared.rescues.RescueRefusal.{RescueRefusal}
use Rattle.cs_salvage.specs.declared.rescues.RescueRefusal.TheVariants.{Refused, RunLost}

-- the number that operators see
abbrev pub number_of : RescueRefusal → ℕ
number_of (Refused r) = refusal_number r
number_of RunLost = 28

-- the name that operators see, in ASCII
abbrev pub name_of : RescueRefusal → List ℕ
name_of (Refused r) = refusal_name r
name_of RunLost = codes "RunLost"
