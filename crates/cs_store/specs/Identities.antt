-- Identities of new stores.
use Rattle.std.specs.Prelude.{ℕ, List, replicate}
use Rattle.law_machine.specs.Format.{Format, Four, Two}

-- the identity of a store that was given none
abbrev pub no_identity : List ℕ
no_identity = replicate 16 0

-- the format of a store with this identity, on a device of as many pages: in format 2 it has none
abbrev pub with_identity : Format → (id : List ℕ) → Format
with_identity Two id = Two
with_identity (Four store device) id = Four id device
