-- The map of an image with sections that are made.
use Rattle.std.proofs.Common.{◌≡◌, ◌⊎◌, inl, inr, ⊎_elim, ℕ, ◌+◌, ◌-◌, ◌<◌, ◌≤◌, ◌==◌, Bool, true, false, List, length, Some, if◌then◌else◌, le_of_eq, le_trans, true≢false, refl, sym, ◌∙◌, subst, arith}
use Rattle.cs_frame.proofs.GeometryLaws.{lies_in_device}
use Rattle.cs_frame.specs.declared.locators.Locator.{Locator}
use Rattle.cs_frame.specs.Formats.{as_locator, formats_of}
use Rattle.cs_frame.specs.Geometries.{Dimensions, IsGeometry}
use Rattle.cs_reader.specs.ImageReads.{ArePages}
use Rattle.law_machine.proofs.Filled.{damage_here, limit_here, limit_low, reach_off, reads_own}
use Rattle.law_machine.specs.Device.{Inside, Page, Shape, is_meant}
use Rattle.law_machine.specs.Element.{Locator as Place, Map, Run}
use Rattle.law_machine.specs.Formats.{ChunkFrame, Formats, Stand, damage_in, fault_for, is_long_frame, limit_in, opening_in, pages_from}
use Rattle.law_machine.specs.Format.{Format, Four, Two}
use Rattle.law_machine.specs.Geometry.{hidden_stand_in, twins_in}
use Rattle.law_machine.specs.Index.{Passes, Reads, entries_of, live_at}
use Rattle.law_machine.specs.Lists.{◌∈◌}
use Rattle.law_machine.specs.Recovery.{Recovers}
use Rattle.law_machine.specs.Refusal.{Refusal}
use Rattle.law_refinement.proofs.Chunks.{chunk_or_fault}
use Rattle.cs_mount.specs.MadeSections.{IsUnhurt, made_section}
use Rattle.cs_mount.specs.StorePairs.{pages_of, store_shape}
use Rattle.cs_mount.proofs.Regiven.{map_given, regives, same_unhurt}
use Rattle.cs_mount.proofs.Resections.{fits, h, keeps, made_there, q, rest_there}

-- These sections of an image were made, in these versions, by what is named, and the rest of it is as in another one.
pub record HasMade (d : Dimensions) (named : List Locator) (made : ℕ → Bool) (newer : ℕ → ℕ) (view other : ℕ → Page) : Type 0 where
  pub root : other 1 ≡ view 1
  pub frames : (e i : ℕ) → Inside (store_shape d) e i → other ((store_shape d).address e i) ≡ view ((store_shape d).address e i)
  pub there : (j : ℕ) → j < d.sections → made j ≡ true → other ((store_shape d).section_page j) ≡ made_section d named (newer j) j
  pub fit : (j : ℕ) → j < d.sections → made j ≡ true → (1 ≤ newer j) × (newer j ≤ 9223372036854775807)
  pub rest : (j : ℕ) → j < d.sections → made j ≡ false → other ((store_shape d).section_page j) ≡ view ((store_shape d).section_page j)

module _ (d : Dimensions) (geometry : IsGeometry d.format d.extents d.pages d.sections) (twins : twins_in d.format ≡ true) (named : List Locator)
    (view other : ℕ → Page) (n : ℕ) (m : Map) (found : Recovers (store_shape d) (formats_of (store_shape d)) view n m) (made : ℕ → Bool) (newer : ℕ → ℕ)
    (has : HasMade d named made newer view other) (are : ArePages (pages_of d) other)
    (its : (l : Locator) → l ∈ named → found.generations l.extent ≡ l.generation)
    (runs_named : (run : Run) → run ∈ found.runs → as_locator run.place ∈ named)
    (live_named : (id : ℕ) (l : Place) → l ∈ live_at (entries_of found.runs) id → as_locator l ∈ named) where
  abbrev p' : ℕ → ℕ
  p' = q d geometry twins named view other n m found made newer

  abbrev g' : ℕ → ℕ
  g' = h d geometry twins named view other n m found made newer

  abbrev Sh : Shape
  Sh = store_shape d

  abbrev Fo : Formats
  Fo = formats_of (store_shape d)

  fit : (e : ℕ) → (p' e ≤ d.pages) × (g' e ≤ 4294967295)
  fit = fits d geometry twins named view other n m found made newer its

  -- a chunk is at a place that passes, or a damaged one
  chunk : (l : Place) → Passes Sh Fo other p' g' l
      → ((payload : List ℕ) × Reads Sh Fo (opening_in Sh Fo other p' g') other p' g' l (Fo.frame ChunkFrame payload)) ⊎ ((f : Refusal) × (damage_in Sh Fo other p' g' l ≡ Some f))
  chunk l is = ⊎_elim
      (λ (c : (payload : List ℕ) × (l.page + length (Fo.frame ChunkFrame payload) ≤ end)
      × Stand Sh Fo other l.extent l.page (Fo.frame ChunkFrame payload)
      × (is_meant Sh l.mark (Fo.frame ChunkFrame payload) ≡ true) × (is_long_frame Fo (Fo.frame ChunkFrame payload) ≡ true)).
      inl (
        c.0,
        reads_own Sh Fo other p' g' l (Fo.frame ChunkFrame c.0) is
            (λ on. le_trans c.1 (le_of_eq (limit_here Sh Fo other p' g' l is on))) (le_trans c.1 low) c.2 c.3 c.4,
      ))
      (λ (b : (f : Refusal) × (fault_for Sh Fo ChunkFrame l.mark (pages_from Sh Fo other l.extent l.page (end - l.page)) ≡ Some f)).
      inr (b.0, damage_here Sh Fo other p' g' l is ∙ b.1))
      (chunk_or_fault Sh other (pages_of d) (lies_in_device d.format d.extents d.pages d.sections geometry) are l.extent l.page end l.mark
      is.inside.0 (above Sh.fills refl) low)
    where
      end : ℕ
      end = limit_in Sh Fo p' g' l

      low : end ≤ d.pages
      low = limit_low Sh Fo p' g' (λ e. (fit e).0) l

      above : (b : Bool) → Sh.fills ≡ b → l.page < end
      above true on = subst (λ (k : ℕ). l.page < k) (sym (limit_here Sh Fo other p' g' l is on)) is.below
      above false off = subst (λ (k : ℕ). l.page < k) (sym (reach_off Sh (if g' l.extent == l.generation then p' l.extent else 0) l.page off)) is.inside.1

  hidden : Sh.hidden_stand ≡ false
  hidden = four d.format twins
    where
      four : (f : Format) → twins_in f ≡ true → hidden_stand_in f ≡ false
      four Two on = absurd (true≢false (sym on))
      four (Four store device) on = refl

  keep : (l : Locator) → l ∈ named → (g' l.extent ≡ found.generations l.extent) × (found.pointers l.extent ≤ p' l.extent)
  keep = keeps d geometry twins named view other n m found made newer its

  pub map_made : Map
  map_made = map_given Sh Fo view other found.pointers found.generations p' g' has.frames (λ e. (fit e).0) chunk hidden found.runs m found.gives
      (λ run among. keep (as_locator run.place) (runs_named run among)) (λ id l among. keep (as_locator l) (live_named id l among))

  pub same_made : (id : ℕ) → IsUnhurt (m id) → map_made id ≡ m id
  unfolding map_made
  same_made = same_unhurt Sh Fo view other found.pointers found.generations p' g' has.frames (λ e. (fit e).0) chunk hidden found.runs m found.gives
      (λ run among. keep (as_locator run.place) (runs_named run among)) (λ id l among. keep (as_locator l) (live_named id l among))

  section_there : (j : ℕ) → j < d.sections → (b : Bool) → made j ≡ b
      → other (Sh.section_page j) ≡ Fo.superblock (if b then 4 else found.formats j) j (if b then newer j else found.versions j) (if b then 0 else found.recorded j) p' g'
  section_there j lt true on = made_there d geometry twins named view other n m found made newer j lt on (has.there j lt on)
  section_there j lt false off = rest_there d geometry twins named view other n m found made newer j lt off (has.rest j lt off)

  pub made_recovers : Recovers Sh Fo other n map_made
  unfolding map_made
  made_recovers = record {
    formats = λ j. if made j then 4 else found.formats j;
    versions = λ j. if made j then newer j else found.versions j;
    recorded = λ j. if made j then 0 else found.recorded j;
    pointers = p';
    generations = g';
    superblock = λ j lt. section_there j lt (made j) refl;
    versions_fit = λ j lt. version j lt (made j) refl;
    extents_fit = fit;
    version = found.version;
    recorded_fit = λ j lt. recorded j lt (made j);
    runs = found.runs;
    root = has.root ∙ found.root;
    root_fits = found.root_fits;
    runs_fit = found.runs_fit;
    bounds = found.bounds;
    gives = regives Sh Fo view other found.pointers found.generations p' g' has.frames (λ e. (fit e).0) chunk hidden found.runs m found.gives
        (λ run among. keep (as_locator run.place) (runs_named run among)) (λ id l among. keep (as_locator l) (live_named id l among));
  }
    where
      version : (j : ℕ) → j < d.sections → (b : Bool) → made j ≡ b → (1 ≤ (if b then newer j else found.versions j)) × ((if b then newer j else found.versions j) ≤ 9223372036854775807)
      version j lt true on = has.fit j lt on
      version j lt false off = found.versions_fit j lt

      recorded : (j : ℕ) → j < d.sections → (b : Bool) → (if b then 0 else found.recorded j) ≤ found.version
      recorded j lt true = omega arith
      recorded j lt false = found.recorded_fit j lt
