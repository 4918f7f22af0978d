-- How far a reclaim is asked to go.
use Rattle.std.specs.Prelude.{ℕ, Bool, true, false, List, Option, None, Some, Result, Ok, Err}
use Rattle.cs_options.specs.Sizes.{size_of}
use Rattle.cs_options.specs.declared.reclaim_options.NoReach.{NoReach}
use Rattle.cs_options.specs.declared.reclaim_options.NoReach.TheVariants.{Both, NoSize}
use Rattle.cs_options.specs.declared.reclaim_options.Reach.{Reach}
use Rattle.cs_options.specs.declared.reclaim_options.Reach.TheVariants.{Brim, Put, Usual}

-- as far as a put of this size needs, if a text is one
abbrev pub reach_to_put : Option ℕ → Result Reach NoReach
reach_to_put None = Err NoSize
reach_to_put (Some bytes) = Ok (Put bytes)

-- as far as the text of --for says, or as --all does, but not both
abbrev pub reach_by : (put : Option (List ℕ)) → (all : Bool) → Result Reach NoReach
reach_by None false = Ok Usual
reach_by None true = Ok Brim
reach_by (Some text) true = Err Both
reach_by (Some text) false = reach_to_put (size_of text)
