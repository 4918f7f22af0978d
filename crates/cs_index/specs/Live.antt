-- What lives on an extent, place by place and identifier by identifier.
use Rattle.std.specs.Prelude.{◌≡◌, ◌≢◌, ◌⊎◌, ◌<◌, ◌≤◌, ℕ, List, Option, Some, option_map}
use Rattle.cs_index.specs.declared.live.Cleared.{Cleared}
use Rattle.cs_index.specs.State.{IsAfter, id_number}
use Rattle.law_machine.specs.Element.{Entry, Locator as Place}
use Rattle.law_machine.specs.Index.{live_at}
use Rattle.law_machine.specs.Lists.{nth}

-- none of these places is on the extent
abbrev pub NoneOn : List Place → ℕ → Type 0
NoneOn ls e = (k : ℕ) (l : Place) → nth ls k ≡ Some l → l.extent ≢ e

-- place k is the first of these that is on the extent
pub record IsFirstOn (ls : List Place) (e k : ℕ) : Type 0 where
  pub place : Place
  pub there : nth ls k ≡ Some place
  pub on_it : place.extent ≡ e
  pub first : (j : ℕ) (l : Place) → nth ls j ≡ Some l → l.extent ≡ e → k ≤ j

-- nothing of the identifiers up to this one is on the extent
abbrev pub NoneUpTo : (index : List Entry) → Option ℕ → ℕ → Type 0
NoneUpTo index after e = (d : ℕ) → (IsAfter after d → ⊥) → NoneOn (live_at index d) e

-- an extent is as clear as was noted
abbrev pub IsClear : (index : List Entry) → Cleared → Type 0
IsClear index cleared = NoneUpTo index (option_map id_number cleared.up_to) cleared.extent

-- none of the places behind number k is on the extent
abbrev pub NoneOnBehind : List Place → (k e : ℕ) → Type 0
NoneOnBehind ls k e = (j : ℕ) (l : Place) → k < j → nth ls j ≡ Some l → l.extent ≢ e

-- place j is the first of those behind number k that is on the extent
pub record IsFirstOnBehind (ls : List Place) (k e j : ℕ) (l : Place) : Type 0 where
  pub there : nth ls j ≡ Some l
  pub on_it : l.extent ≡ e
  pub behind : k < j
  pub first : (i : ℕ) (x : Place) → k < i → nth ls i ≡ Some x → x.extent ≡ e → j ≤ i

-- nothing of the identifiers after this one is on the extent
abbrev pub NoneAfter : (index : List Entry) → Option ℕ → ℕ → Type 0
NoneAfter index after e = (d : ℕ) → IsAfter after d → NoneOn (live_at index d) e

-- the first live chunk on an extent of the identifiers after this one, by identifier and chunk
pub record FirstAfter (index : List Entry) (after : Option ℕ) (e id chunk : ℕ) (l : Place) : Type 0 where
  pub there : nth (live_at index id) chunk ≡ Some l
  pub on_it : l.extent ≡ e
  pub later : IsAfter after id
  pub first : (d k : ℕ) (x : Place) → nth (live_at index d) k ≡ Some x → x.extent ≡ e → IsAfter after d
      → (id < d) ⊎ ((id ≡ d) × (chunk ≤ k))
