-- What a core answers outside of its history.
use Rattle.std.specs.Prelude.{◌≡◌, ◌≢◌, ◌⊎◌, ℕ, List, [], MatchResult, Option, Some, None, Result, Ok, Err, Vec, length, map}
use Rattle.std.specs.declared.alloc.Global.{Global}
use Rattle.cs_chunk.specs.Chunks.{AreMeant, TwoAgree}
use Rattle.cs_chunk.specs.Lengths.{AreHeadersIn, IsHeaderRefusal, IsOfHeaderIn, lengths_at}
use Rattle.cs_chunk.specs.Reads.{IsNoAnswer}
use Rattle.cs_refusal.specs.declared.refusals.Refusal.{Refusal}
use Rattle.cs_disk.specs.Disk.{State as DiskState}
use Rattle.cs_extent.specs.State.{State as ExtentsState, shape}
use Rattle.cs_frame.specs.declared.locators.Locator.{Locator}
use Rattle.cs_frame.specs.Formats.{as_locator, formats_of}
use Rattle.cs_index.specs.State.{index_of}
use Rattle.law_machine.specs.Element.{Bytes, Content, Damaged}
use Rattle.law_machine.specs.Index.{joined_bodies, live_at}
use Rattle.law_machine.specs.Refusal.{Refusal as Ground}
use Rattle.law_machine.specs.State.{State, map_now}
use Rattle.law_refinement.specs.Devices.{IsDiskOf}
use Rattle.law_refinement.specs.Refusals.{refusal_for}
use Rattle.cs_core.specs.States.{IsStateOf}
use Rattle.cs_core.specs.Stored.{Stored}

-- what a read gives of an identifier that has this in the map: None where there is nothing; where there is something
-- its bytes, or the refusal that its damage has, unless the device or memory refuses
abbrev pub IsReading : Option Content → Result (Option (Vec ℕ Global)) Refusal → Type 0
IsReading content (Ok None) = content ≡ None
IsReading content (Ok (Some bytes)) = content ≡ Some (Bytes bytes.items)
IsReading content (Err r) = ((content ≢ None) × IsNoAnswer r) ⊎ ((f : Ground) × (r ≡ refusal_for f) × (content ≡ Some (Damaged f)))

-- what is told of the size of an identifier that has this in the map: None where there is nothing; where there are
-- bytes, how many, unless the device or memory refuses; of a damaged shard some number, or it is refused as a header is
abbrev pub IsSize : Option Content → Result (Option ℕ) Refusal → Type 0
IsSize None result = result ≡ Ok None
IsSize (Some (Bytes bytes)) result = MatchResult result (λ found. found ≡ Some (length bytes)) IsNoAnswer
IsSize (Some (Damaged f)) result = MatchResult result (λ found. found ≢ None) IsHeaderRefusal

-- bytes that the places of an identifier mean: the pieces of the chunks whose frames these are, one after another
abbrev pub AreMeantBytes : Stored → (id : ℕ) → (bytes : List ℕ) → Type 0
AreMeantBytes v id bytes = (cs : List (List ℕ)) × AreMeant (shape v.extents) (map as_locator (live_at (index_of v.index) id)) cs × (bytes ≡ joined_bodies (formats_of (shape v.extents)) cs)

-- What is told is these bytes; or the places of the identifier mean chunks of both, and a chunk of what is told and the
-- one of these bytes at its place are two different texts that agree so.
abbrev pub SameOrTwoAgree : Stored → (id : ℕ) → (bytes told : List ℕ) → Type 0
SameOrTwoAgree v id bytes told = (told ≡ bytes)
    ⊎ ((is_told : AreMeantBytes v id told) × (had : AreMeantBytes v id bytes) × TwoAgree is_told.0 had.0)

-- whichever state store and disk are in, this is told of the size of what its map has
unfoldable pub TellsSize : Stored → DiskState → (id : ℕ) → Result (Option ℕ) Refusal → Type 0
TellsSize v disk id result = (s : State) → IsStateOf v s → IsDiskOf (shape v.extents) (formats_of (shape v.extents)) s disk → IsSize (map_now s id) result

-- what the headers at these places say, as far as frames may reach in these extents: how many bytes together, None
-- where there are no places; a refusal is that of the first header that fails, or the device or memory refused
abbrev pub IsSaid : ExtentsState → (view : ℕ → List ℕ) → List Locator → Result (Option ℕ) Refusal → Type 0
IsSaid x view ls (Ok None) = ls ≡ []
IsSaid x view ls (Ok (Some count)) = AreHeadersIn x view ls × (count ≡ lengths_at (shape x) view ls)
IsSaid x view ls (Err r) = IsOfHeaderIn x view ls r
