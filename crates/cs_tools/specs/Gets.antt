-- What the command `get` does.
use Rattle.std.specs.Prelude.{◌≡◌, ℕ, List, Option, Some, None, Err}
use Rattle.std.specs.Io.KnownBytes.{Appends}
use Rattle.cs_core.specs.Lookups.{AreMeantBytes, IsReading}
use Rattle.cs_core.specs.Stored.{Stored}
use Rattle.law_machine.specs.Element.{Bytes, Content}
use Rattle.cs_advice.specs.declared.outcomes.Outcome.{Outcome}
use Rattle.cs_advice.specs.declared.outcomes.Outcome.TheVariants.{Absent, Damaged, Done, Failed, MayBeLost, NoStore, Refused, Unopened, Unread}

-- Of an identifier that has this in the map: its bytes are written out, and nothing else; or nothing is written, as there is nothing, or as it
-- can't be read; or the writer failed.
abbrev pub Gets : Option Content → (before after : Option (List ℕ)) → Outcome → Type 0
Gets content before after Done = (bytes : List ℕ) × (content ≡ Some (Bytes bytes)) × Appends before after bytes
Gets content before after Absent = (content ≡ None) × (after ≡ before)
Gets content before after (Unread r) = IsReading content (Err r) × (after ≡ before)
Gets content before after Failed = Unit {0}
Gets content before after Damaged = ⊥
Gets content before after (Refused r) = ⊥
Gets content before after (NoStore r) = ⊥
Gets content before after (Unopened f) = ⊥
Gets content before after MayBeLost = ⊥

-- Whatever the disk does, of the shard with this identifier: bytes that its places in the index mean are written out, and nothing else; or nothing is written; or the
-- writer failed.
abbrev pub MeansGet : Stored → (id : ℕ) → (before after : Option (List ℕ)) → Outcome → Type 0
MeansGet v id before after Done = (bytes : List ℕ) × AreMeantBytes v id bytes × Appends before after bytes
MeansGet v id before after Absent = after ≡ before
MeansGet v id before after (Unread r) = after ≡ before
MeansGet v id before after Failed = Unit {0}
MeansGet v id before after Damaged = ⊥
MeansGet v id before after (Refused r) = ⊥
MeansGet v id before after (NoStore r) = ⊥
MeansGet v id before after (Unopened f) = ⊥
MeansGet v id before after MayBeLost = ⊥
