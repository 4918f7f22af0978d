-- What a sweep copies where chunks and runs lie apart: the copies so far, and what copying one more does.
use Rattle.std.specs.Prelude.{◌≡◌, ◌⊎◌, ◌<◌, ◌∷◌, ℕ, true, List, [], Option, None, Some}
use Rattle.cs_deps.specs.State.{State as GraphState}
use Rattle.cs_extent.specs.Appended.{IsAppendedBy}
use Rattle.cs_extent.specs.State.{State as ExtentsState}
use Rattle.cs_frame.specs.declared.locators.Locator.{Locator}
use Rattle.cs_frame.specs.Formats.{place_of}
use Rattle.cs_index.specs.Copies.{IsBehind}
use Rattle.cs_index.specs.State.{State, index_of}
use Rattle.law_machine.specs.Apart.{FirstUncopied, IsCopyOf}
use Rattle.law_machine.specs.Element.{Copy, Entry, Locator as Place}
use Rattle.law_machine.specs.Extents.{ForMove}
use Rattle.law_machine.specs.Index.{live_at}
use Rattle.law_machine.specs.Lists.{Descends, nth}
use Rattle.cs_reclaim.specs.Moves.{chunk_frame}

-- a copy is of a chunk before that of another, by identifier and then by chunk
abbrev pub IsBefore : Copy → Copy → Type 0
IsBefore c d = (c.id < d.id) ⊎ ((c.id ≡ d.id) × (c.chunk < d.chunk))

-- newest first, each copy is of a chunk before that of the copies ahead of it
abbrev pub AreInOrder : List Copy → Type 0
AreInOrder copies = Descends IsBefore copies

-- the chunk that was copied last, if one was
abbrev pub last_of : List Copy → Option (ℕ × ℕ)
last_of [] = None
last_of (c ∷ cs) = Some (c.id, c.chunk)

-- where the last copy lies, if there is one
abbrev pub last_place_of : List Copy → Option Place
last_place_of [] = None
last_place_of (c ∷ cs) = Some c.to

-- of an index each chunk that lives on the extent is copied, up to the one that was copied last
abbrev pub AllUpTo : (index : List Entry) → List Copy → ℕ → Type 0
AllUpTo index copies e = (id chunk : ℕ) (l : Place) → nth (live_at index id) chunk ≡ Some l → l.extent ≡ e
    → (IsBehind (last_of copies) id chunk → ⊥) → IsCopyOf copies id chunk l

-- The first chunk that lives on an extent and isn't copied was copied: a frame of this payload was appended, of the
-- mark that the chunk has, and the copy is noted. The chunk counts where it lay.
pub record IsCopyMade (s : State) (x : ExtentsState) (g : GraphState) (copies : List Copy) (e id chunk : ℕ) (payload : List ℕ) (after : List Copy) (y : ExtentsState) (h : GraphState) : Type 0 where
  pub from : Place
  pub to : Locator
  pub first : FirstUncopied (index_of s) copies e id chunk from
  pub appended : IsAppendedBy true x g ForMove (chunk_frame x payload) to y h
  pub mark : to.mark ≡ from.mark
  pub noted : after ≡ record { id = id; chunk = chunk; from = from; to = place_of to } ∷ copies
