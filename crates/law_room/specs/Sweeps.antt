-- Whole sweeps, and sweeps of pairs of extents with the least that lives.
use Rattle.std.specs.Prelude.{◌≡◌, ◌≢◌, ◌⊎◌, ◌+◌, ◌-◌, ◌*◌, ◌<◌, ◌≤◌, ℕ, zero, suc, List, Some, length, sum}
use Rattle.law_machine.specs.Device.{Shape}
use Rattle.law_machine.specs.Index.{joined}
use Rattle.law_machine.specs.Lists.{◌∈◌}
use Rattle.law_room.specs.Events.{BeginSweep, Does, End, Event, MoveOne, Retire, Stage}
use Rattle.law_room.specs.Rooms.{OfChunks, Room, chunk_extents, live_pages}

module _ (S : Shape) (J : ℕ) where
  -- so many chunks are moved one after another
  abbrev pub Moves : ℕ → Room → Room → Type 0
  Moves zero s t = t ≡ s
  Moves (suc n) s t = (mid : Room) × Does S J s MoveOne mid × Moves n mid t

  -- the events of a sync that matter for room: its Stage, and the ends of rounds
  abbrev pub IsOfSync : Event → Type 0
  IsOfSync (Stage newest pages all) = Unit {0}
  IsOfSync (End waiting) = Unit {0}
  IsOfSync event = ⊥

  -- so many such events come one after another
  abbrev pub Syncs : ℕ → Room → Room → Type 0
  Syncs zero s t = t ≡ s
  Syncs (suc n) s t = (event : Event) × (mid : Room) × IsOfSync event × Does S J s event mid × Syncs n mid t

  -- e is swept: begun, moved and retired, with no other event between; and then there may be syncs
  pub record IsSwept (s : Room) (e : ℕ) (t : Room) : Type 0 where
    pub begun : Room
    pub moved : Room
    pub retired : Room
    pub moves : ℕ
    pub newest : ℕ
    pub pages : ℕ
    pub all : ℕ
    pub events : ℕ
    pub begins : Does S J s (BeginSweep e) begun
    pub goes : Moves moves begun moved
    pub retires : Does S J moved (Retire newest pages all) retired
    pub syncs : Syncs events retired t

  -- so many whole sweeps are made one after another
  abbrev pub SweepsMade : ℕ → Room → Room → Type 0
  SweepsMade zero s t = t ≡ s
  SweepsMade (suc n) s t = (e : ℕ) × (mid : Room) × IsSwept s e mid × SweepsMade n mid t

  -- e is an extent of chunks
  abbrev pub IsChunkExtent : Room → ℕ → Type 0
  IsChunkExtent s e = (e < S.extents) × (s.holds e ≡ OfChunks)

  -- of all extents of chunks the least lives on a and b, and on b no less than on a
  pub record IsLeastPair (s : Room) (a b : ℕ) : Type 0 where
    pub two : a ≢ b
    pub first : IsChunkExtent s a
    pub second : IsChunkExtent s b
    pub order : live_pages s.chunks a ≤ live_pages s.chunks b
    pub least : (e : ℕ) → IsChunkExtent s e → e ≢ a → live_pages s.chunks b ≤ live_pages s.chunks e

  -- the first of such a pair is swept and, where no fewer extents hold chunks then, the second
  abbrev pub IsPairSwept : Room → Room → Type 0
  IsPairSwept s t = (a : ℕ) × (b : ℕ) × (mid : Room) × IsLeastPair s a b × IsSwept s a mid
      × (((chunk_extents mid S.extents < chunk_extents s S.extents) × (t ≡ mid))
      ⊎ ((chunk_extents s S.extents ≤ chunk_extents mid S.extents) × IsSwept mid b t))

  -- so many pairs are swept one after another
  abbrev pub PairsSwept : ℕ → Room → Room → Type 0
  PairsSwept zero s t = t ≡ s
  PairsSwept (suc n) s t = (mid : Room) × IsPairSwept s mid × PairsSwept n mid t

  -- c is chosen for a sweep: an extent of chunks, but not the one to which the last copy of any sweep went, on which no more lives than on
  -- any other but that one; and what lives there and on another one has room on one extent
  pub record IsChosen (s : Room) (c : ℕ) : Type 0 where
    pub chunks : IsChunkExtent s c
    pub not_last : s.last ≢ Some c
    pub fewest : (e : ℕ) → IsChunkExtent s e → s.last ≢ Some e → live_pages s.chunks c ≤ live_pages s.chunks e
    pub partner : (b : ℕ) × (c ≢ b) × IsChunkExtent s b × (live_pages s.chunks c + live_pages s.chunks b ≤ S.pages)

  -- so many extents are chosen and swept one after another, with syncs between a choice and its sweep or none
  abbrev pub ChosenSwept : ℕ → Room → Room → Type 0
  ChosenSwept zero s t = t ≡ s
  ChosenSwept (suc n) s t = (c : ℕ) × (rested : Room) × (mid : Room) × (syncs : ℕ) × IsChosen s c × Syncs syncs s rested
      × IsSwept rested c mid × ChosenSwept n mid t

  -- what lives on two extents of chunks has no room on one, whichever they are
  abbrev pub NoTwoFit : Room → Type 0
  NoTwoFit s = (a b : ℕ) → a ≢ b → IsChunkExtent s a → IsChunkExtent s b
      → S.pages < live_pages s.chunks a + live_pages s.chunks b

  -- so many pages of chunks are less than half of the device, but for J + 1 + n extents
  abbrev pub AreFewPages : (n pages : ℕ) → Type 0
  AreFewPages n pages = 2 * pages < (S.extents - (J + 1 + n)) * (S.pages + 1)

-- frames of these numbers of pages fill at most n extents in their order
abbrev pub FillsAtMost : (pages n : ℕ) → List ℕ → Type 0
FillsAtMost pages n sizes = (parts : List (List ℕ)) × (joined parts ≡ sizes) × (length parts ≤ n)
    × ((part : List ℕ) → part ∈ parts → sum part ≤ pages)
