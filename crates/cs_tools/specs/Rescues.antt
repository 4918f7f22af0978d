-- What `get` answers of a store that is read for what can be got of it.
use Rattle.std.specs.Prelude.{◌≡◌, ℕ, List, Option}
use Rattle.std.specs.Io.KnownBytes.{Appends}
use Rattle.cs_salvage.specs.Answers.{AreMeantBytes, AreReadBytes, IsAbsent, IsUnknown, IsWhyNoChunks, places_of}
use Rattle.cs_salvage.specs.Founds.{Found}
use Rattle.cs_advice.specs.Outcomes.{status_of}
use Rattle.cs_advice.specs.Tellings.{run_lost_told, told_text}
use Rattle.cs_advice.specs.declared.knowns.Known.{Known}
use Rattle.cs_advice.specs.declared.outputs.Style.{Style}
use Rattle.cs_advice.specs.declared.outcomes.Outcome.TheVariants.{Absent, Damaged, Done, Failed, MayBeLost, NoStore, Refused, Unopened, Unread}
use Rattle.cs_tools.specs.declared.rescues.Got.{Got}
use Rattle.cs_tools.specs.declared.rescues.Got.TheVariants.{Ended, RunLost}

-- On a disk that is honest and holds these pages: the bytes of chunks at the identifier's places are written out, and nothing else; or nothing is written, as the runs that were read
-- name it as deleted, or as all were read and none names it, or as chunks can't be read at its places, or as none names it and a run couldn't be read; or the writer failed.
abbrev pub Rescues : Found → (view : ℕ → List ℕ) → (id : ℕ) → (before after : Option (List ℕ)) → Got → Type 0
Rescues f view id before after (Ended Done) = (bytes : List ℕ) × AreReadBytes f view id bytes × AreMeantBytes f id bytes × Appends before after bytes
Rescues f view id before after (Ended Absent) = IsAbsent f id × (after ≡ before)
Rescues f view id before after (Ended (Unread r)) = IsWhyNoChunks f.extents view (places_of f id) r × (after ≡ before)
Rescues f view id before after (Ended Failed) = Unit {0}
Rescues f view id before after (Ended Damaged) = ⊥
Rescues f view id before after (Ended (Refused r)) = ⊥
Rescues f view id before after (Ended (NoStore r)) = ⊥
Rescues f view id before after (Ended (Unopened fault)) = ⊥
Rescues f view id before after (Ended MayBeLost) = ⊥
Rescues f view id before after RunLost = IsUnknown f id × (after ≡ before)

-- Whatever the disk does: bytes that the identifier's places mean are written out, and nothing else; or nothing is written; or the writer failed.
abbrev pub MeansGot : Found → (id : ℕ) → (before after : Option (List ℕ)) → Got → Type 0
MeansGot f id before after (Ended Done) = (bytes : List ℕ) × AreMeantBytes f id bytes × Appends before after bytes
MeansGot f id before after (Ended Absent) = after ≡ before
MeansGot f id before after (Ended (Unread r)) = after ≡ before
MeansGot f id before after (Ended Failed) = Unit {0}
MeansGot f id before after (Ended Damaged) = ⊥
MeansGot f id before after (Ended (Refused r)) = ⊥
MeansGot f id before after (Ended (NoStore r)) = ⊥
MeansGot f id before after (Ended (Unopened fault)) = ⊥
MeansGot f id before after (Ended MayBeLost) = ⊥
MeansGot f id before after RunLost = after ≡ before

-- the exit status of each
abbrev pub status_of_got : Got → ℕ
status_of_got (Ended outcome) = status_of outcome
status_of_got RunLost = 5

-- what is told of how a get ended over what is left of a store
abbrev pub got_text : Style → Got → Known → List ℕ
got_text style (Ended outcome) known = told_text style outcome known
got_text style RunLost known = run_lost_told style
