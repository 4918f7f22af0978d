-- Sweeps up to the brim: dead pages, and the rule by which an extent is swept next, or none.
use Rattle.std.specs.Prelude.{◌≡◌, ◌⊎◌, ◌+◌, ◌-◌, ◌*◌, ◌<◌, ◌≤◌, ◌∷◌, ◌==◌, ℕ, zero, suc, max, nat_lt, List, [], sum, if◌then◌else◌}
use Rattle.law_machine.specs.Device.{Shape}
use Rattle.law_machine.specs.Lists.{◌∈◌}
use Rattle.law_room.specs.Rooms.{Chunk, Room, all_pages, how_many, is_of_chunks, live_pages}
use Rattle.law_room.specs.Sweeps.{IsChosen, IsChunkExtent, IsSwept, NoTwoFit, Syncs}

-- the sum over the numbers below n
abbrev pub sum_to : (ℕ → ℕ) → ℕ → ℕ
sum_to h zero = 0
sum_to h (suc n) = h n + sum_to h n

-- the dead pages of an extent of chunks: those that are given, but no chunk on it lives there
abbrev pub dead_pages : Room → ℕ → ℕ
dead_pages s e = if is_of_chunks (s.holds e) then s.pointer e - live_pages s.chunks e else 0

-- the dead pages of all extents below n, and how many of these have one
abbrev pub all_dead : Room → ℕ → ℕ
all_dead s n = sum_to (dead_pages s) n

abbrev pub dead_extents : Room → ℕ → ℕ
dead_extents s n = how_many (λ e. nat_lt 0 (dead_pages s e)) n

-- how many pages the greatest of the chunks takes
abbrev pub greatest_chunk : List Chunk → ℕ
greatest_chunk [] = 0
greatest_chunk (c ∷ cs) = max c.pages (greatest_chunk cs)

module _ (S : Shape) where
  -- how many pages of copies are sure to go to e while x is swept, before an empty extent is taken: all that are left after its
  -- pointer, but for one less than the greatest chunk that lives takes
  abbrev pub sure_pages : Room → (x e : ℕ) → ℕ
  sure_pages s x e = if e == x then 0
      else if is_of_chunks (s.holds e) then (S.pages - s.pointer e) - (greatest_chunk s.chunks - 1) else 0

  -- a sweep of x is sure to gain an extent: something lives there, and all of it goes to other extents of chunks
  abbrev pub IsSure : Room → ℕ → Type 0
  IsSure s x = (0 < live_pages s.chunks x) × (live_pages s.chunks x ≤ sum_to (sure_pages s x) S.extents)

  -- no extent has a dead page
  abbrev pub NothingDead : Room → Type 0
  NothingDead s = (e : ℕ) → e < S.extents → dead_pages s e ≡ 0

module _ (S : Shape) (J : ℕ) where
  -- of all extents of chunks the least lives on x
  abbrev pub IsFewest : Room → ℕ → Type 0
  IsFewest s x = IsChunkExtent S J s x
      × ((e : ℕ) → IsChunkExtent S J s e → live_pages s.chunks x ≤ live_pages s.chunks e)

  -- of those with a dead page the least lives on x
  abbrev pub IsFewestDead : Room → ℕ → Type 0
  IsFewestDead s x = IsChunkExtent S J s x × (0 < dead_pages s x)
      × ((e : ℕ) → IsChunkExtent S J s e → 0 < dead_pages s e → live_pages s.chunks x ≤ live_pages s.chunks e)

  -- x is to be swept next. If what lives on two extents has room on one, it is one that is chosen for that; else, of the extents
  -- with a dead page, one on which the least lives; else, as nothing is dead, one on which the least lives, if that is sure to gain
  abbrev pub IsNext : Room → ℕ → Type 0
  IsNext s x = IsChosen S J s x
      ⊎ (NoTwoFit S J s × IsFewestDead s x)
      ⊎ (NoTwoFit S J s × NothingDead S s × IsFewest s x × IsSure S s x)

  -- none is to be swept: no two fit, nothing is dead, and no sweep of one on which the least lives is sure to gain
  pub record NoneNext (s : Room) : Type 0 where
    pub no_two : NoTwoFit S J s
    pub nothing : NothingDead S s
    pub unsure : (x : ℕ) → IsFewest s x → IsSure S s x → ⊥

  -- so many extents are swept one after another by this rule, with syncs between a choice and its sweep or none
  abbrev pub NextSwept : ℕ → Room → Room → Type 0
  NextSwept zero s t = t ≡ s
  NextSwept (suc n) s t = (x : ℕ) × (rested : Room) × (mid : Room) × (syncs : ℕ) × IsNext s x × Syncs S J syncs s rested
      × IsSwept S J rested x mid × NextSwept n mid t

  -- Frames of these numbers of pages have room beside so many pages that live: each has at most `most`, and they and what lives
  -- are fewer than N (P - most + 1) + most, if N extents of P pages may hold chunks
  pub record FitBeside (live : ℕ) (sizes : List ℕ) : Type 0 where
    pub most : ℕ
    pub each : (k : ℕ) → k ∈ sizes → k ≤ most
    pub one_fits : most ≤ S.pages
    pub extents : J + 3 ≤ S.extents
    pub few : live + sum sizes < (S.extents - (J + 2)) * (S.pages + 1 - most) + most

  -- Chunks of at most c pages each live, and take no more pages than N - n extents have that lack c - 1 pages each
  pub record AreFewFor (n c : ℕ) (s : Room) : Type 0 where
    pub each : (d : Chunk) → d ∈ s.chunks → d.pages ≤ c
    pub few : all_pages s.chunks ≤ (S.extents - (J + 2 + n)) * (S.pages + 1 - c)
