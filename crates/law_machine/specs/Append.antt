-- What is staged with a frame.
use Rattle.std.specs.Prelude.{◌≡◌, ◌≢◌, ◌⊎◌, ◌+◌, ◌<◌, ◌≤◌, ◌∷◌, ℕ, suc, Bool, false, List, length, Option, []}
use Rattle.law_machine.specs.Device.{Page, Shape, mark_of}
use Rattle.law_machine.specs.Element.{Entry, Locator, Run, Superblock, superblocks_of}
use Rattle.law_machine.specs.Extents.{Extents, ForPut, Goes, Purpose, noted_by, open_after}
use Rattle.law_machine.specs.Formats.{ChunkFrame, Formats, FrameKind, RunFrame}
use Rattle.law_machine.specs.Index.{IsMergedRun, live_at}
use Rattle.law_machine.specs.Lists.{◌∈◌}
use Rattle.law_machine.specs.Machine.{PastGreatest, StagePage, StageSuperblock, World, happens}
use Rattle.law_machine.specs.State.{State}

module _ (S : Shape) where
  -- the version of the root that the next version of a section needs: the least that is below neither what the last
  -- version needs nor the root of any reset of the section's extents
  pub record IsNeed (w : World) (j r : ℕ) : Type 0 where
    pub resets : (e : ℕ) → e < S.extents → S.section e ≡ j → w.extents.reset e ≤ r
    pub last : (u : Superblock) → u ∈ superblocks_of w.elements → u.section ≡ j → u.root ≤ r
    pub least : (q : ℕ) → ((e : ℕ) → e < S.extents → S.section e ≡ j → w.extents.reset e ≤ q)
        → ((u : Superblock) → u ∈ superblocks_of w.elements → u.section ≡ j → u.root ≤ q) → r ≤ q

  -- these pages are staged in order, from page i of extent e on
  abbrev pub stage_pages : World → (e i : ℕ) → List Page → World
  stage_pages w e i [] = w
  stage_pages w e i (b ∷ bs) = stage_pages (happens S w (StagePage (S.address e i) b)) e (suc i) bs

  -- the same world with another extent open
  abbrev pub with_open : World → Option ℕ → World
  with_open w o = record w { extents = record w.extents { open_extent = o } }

  -- a frame of these pages is staged behind the pointer of e, and then the superblock version behind it
  abbrev pub appended : World → (e need : ℕ) → List Page → World
  appended w e need bs = with_open
      (happens S (stage_pages w e (w.extents.pointer e) bs) (StageSuperblock (S.section e) need))
      (open_after S e (w.extents.pointer e + length bs))

  -- the world v, with what is noted of its extents where k pages of e were given that x had left
  abbrev pub noting : (apart : Bool) → Purpose → (x : Extents) → (e k : ℕ) → (v : World) → World
  noting apart purpose x e k v = record v { extents = noted_by S apart purpose x e k v.extents }

  -- the same of an append, where chunks and runs lie apart or not
  abbrev pub appended_by : (apart : Bool) → Purpose → World → (e need : ℕ) → List Page → World
  appended_by apart purpose w e need bs = noting apart purpose w.extents e (length bs)
      (happens S (stage_pages w e (w.extents.pointer e) bs) (StageSuperblock (S.section e) need))

  -- the locator of a frame of these pages that begins at the pointer of e
  abbrev pub next_locator : World → (e : ℕ) → List Page → Locator
  next_locator w e bs = record {
    extent = e;
    page = w.extents.pointer e;
    generation = w.extents.generation e;
    mark = mark_of S bs;
  }

  -- a frame of these pages is appended, and l is where it begins
  pub record AppendBy (apart : Bool) (w : World) (purpose : Purpose) (bs : List Page) (l : Locator)
      (v : World) : Type 0 where
    pub extent : ℕ
    pub need : ℕ
    pub placed : Goes S apart w.extents purpose (length bs) extent
    pub needs : IsNeed w (S.section extent) need
    pub at : l ≡ next_locator w extent bs
    pub after : v ≡ appended_by apart purpose w extent need bs

  abbrev pub Append : World → Purpose → List Page → Locator → World → Type 0
  Append w purpose bs l v = AppendBy false w purpose bs l v

  -- frames of these pages are appended one after another
  abbrev pub AppendAllBy : (apart : Bool) → World → Purpose → List (List Page) → List Locator → World → Type 0
  AppendAllBy apart w purpose [] [] v = v ≡ w
  AppendAllBy apart w purpose (bs ∷ frames) (l ∷ ls) v =
      (mid : World) × AppendBy apart w purpose bs l mid × AppendAllBy apart mid purpose frames ls v
  AppendAllBy apart w purpose [] (l ∷ ls) v = ⊥
  AppendAllBy apart w purpose (bs ∷ frames) [] v = ⊥

  abbrev pub AppendAll : World → Purpose → List (List Page) → List Locator → World → Type 0
  AppendAll w purpose frames ls v = AppendAllBy false w purpose frames ls v

  -- an append would take a number past its greatest
  abbrev pub AppendWorn : World → Purpose → List Page → Type 0
  AppendWorn w purpose bs = (l : Locator) × (v : World) × Append w purpose bs l v × PastGreatest S v

  -- a reset of e would take its generation past the greatest
  abbrev pub ResetWorn : Extents → ℕ → Type 0
  ResetWorn x e = S.greatest_generation ≤ x.generation e

-- the number of pages of each frame
abbrev pub page_counts : List (List Page) → List ℕ
page_counts [] = []
page_counts (bs ∷ frames) = length bs ∷ page_counts frames

module _ (S : Shape) (F : Formats) where
  -- the frames of these chunks
  abbrev pub chunk_frames : List (List ℕ) → List (List Page)
  chunk_frames [] = []
  chunk_frames (c ∷ cs) = F.frame ChunkFrame c ∷ chunk_frames cs

  -- all that is live in an index becomes one run, or none where nothing is
  abbrev pub MergesTo : World → List Entry → Purpose → World → List Run → Type 0
  MergesTo w index purpose v runs =
      ((entries : List Entry) × (l : Locator) × (entries ≢ []) × IsMergedRun index entries
      × Append S w purpose (F.frame RunFrame (F.run entries)) l v
      × (runs ≡ record { place = l; entries = entries } ∷ []))
      ⊎ (((id : ℕ) → live_at index id ≡ []) × (v ≡ w) × (runs ≡ []))

  -- in a state: a frame of this payload is appended
  abbrev pub AppendsFrameBy : (apart : Bool) → State → Purpose → FrameKind → List ℕ → Locator → State → Type 0
  AppendsFrameBy apart s purpose kind payload l t =
      (v : World) × AppendBy S apart s.world purpose (F.frame kind payload) l v × (t ≡ record s { world = v })

  abbrev pub AppendsFrame : State → Purpose → FrameKind → List ℕ → Locator → State → Type 0
  AppendsFrame s purpose kind payload l t = AppendsFrameBy false s purpose kind payload l t

  -- in a state: the chunks of a put are appended
  abbrev pub AppendsChunksBy : (apart : Bool) → State → List (List ℕ) → List Locator → State → Type 0
  AppendsChunksBy apart s cs ls t = (v : World) × AppendAllBy S apart s.world ForPut (chunk_frames cs) ls v
      × (t ≡ record s { world = v })

  abbrev pub AppendsChunks : State → List (List ℕ) → List Locator → State → Type 0
  AppendsChunks s cs ls t = AppendsChunksBy false s cs ls t
