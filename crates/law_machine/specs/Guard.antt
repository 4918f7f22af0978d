-- Why a crash leaves what the greatest root locates.
use Rattle.std.specs.Prelude.{◌≡◌, ◌⊎◌, ◌<◌, ◌≤◌, ℕ, List}
use Rattle.law_machine.specs.Cut.{Cut, held_by, page_in, section_of}
use Rattle.law_machine.specs.Device.{Page, Place, Shape}
use Rattle.law_machine.specs.Element.{Log, Root, Superblock, Write}
use Rattle.law_machine.specs.Lists.{◌∈◌}

module _ (S : Shape) where
  -- these pointers and generations have the place
  pub record Records (pointers generations : ℕ → ℕ) (h : Place) : Type 0 where
    pub generation : generations (S.extent h.page) ≡ h.generation
    pub below : S.index h.page < pointers (S.extent h.page)

  -- the root was staged while the place was given, so it may locate it
  abbrev pub Covers : Root → Place → Type 0
  Covers r h = Records r.pointers r.generations h

  -- what a root counts on in an extent's section is needed by the version that it needs of that section, or by itself
  abbrev pub Needed : Log → Root → ℕ → Type 0
  Needed log r e = (u : Superblock) × (u ∈ log.superblocks) × (u.section ≡ S.section e)
      × (u.version ≡ r.superblocks u.section) × ((r.writes u.section ≤ u.writes) ⊎ (r.writes u.section ≤ r.pages))

  -- why a crash that leaves this root, and no later one, leaves what lies at this place
  pub record Guarded (log : Log) (r : Root) (h : Place) : Type 0 where
    -- a later write to the page needs a later root
    pub kept : (w : Write) → w ∈ log.writes → w.page ≡ h.page
        → (w.number ≤ r.writes (section_of S h.page)) ⊎ (r.version < w.root)
    -- from the one on that the root needs, a superblock that doesn't record the place needs a later root
    pub recorded : (u : Superblock) → u ∈ log.superblocks → u.section ≡ section_of S h.page
        → r.superblocks u.section ≤ u.version → Records u.pointers u.generations h ⊎ (r.version < u.root)

  -- the page as it was when the root was staged
  abbrev pub page_as_staged : Root → (ℕ → Page) → List Write → ℕ → Page
  page_as_staged r opened ws p = page_in (held_by r (section_of S p)) opened ws p

  -- in the image of X what the root holds is as it was staged, of the superblock's generation and below its pointer
  pub record Intact (log : Log) (opened : ℕ → Page) (X : Cut) (h : Place) (r : Root) : Type 0 where
    pub same : page_in X opened log.writes h.page ≡ page_as_staged r opened log.writes h.page
    pub found : (u : Superblock) → u ∈ log.superblocks → u.section ≡ section_of S h.page
        → u.version ≡ X.superblocks u.section → Records u.pointers u.generations h
