-- The map of a store of which sections were lost.
use Rattle.std.proofs.Common.{◌≡◌, ◌⊎◌, inl, inr, ⊎_elim, if◌then◌else◌, ◌==◌, ◌&&◌, ◌||◌, ℕ, zero, suc, ◌+◌, ◌++◌, ◌<◌, ◌≤◌, Bool, true, false, List, [], ◌∷◌, length, map, Option, Some, None, refl, sym, ◌∙◌, ap, subst, arith, true≢false}
use Rattle.std.specs.Prelude.{reverse}
use Rattle.std.specs.List.{AllByRecursion}
use Rattle.cs_disk.specs.Disk.{Image, IsWhole, Write, latest, page}
use Rattle.cs_frame.proofs.RootLaws as roots
use Rattle.cs_frame.specs.Bytes.{IsPage}
use Rattle.cs_frame.specs.declared.locators.Locator.{Locator}
use Rattle.cs_frame.specs.Formats.{as_locator, formats_of, place_of}
use Rattle.cs_frame.specs.Geometries.{Dimensions, IsGeometry}
use Rattle.cs_frame.specs.Roots.{SpellsRoot, identity_in}
use Rattle.cs_index.specs.declared.stored_runs.StoredRun.{StoredRun}
use Rattle.cs_index.specs.State.{newest_first, run_of}
use Rattle.cs_reader.proofs.Listed.{in_all, to_all}
use Rattle.cs_reader.proofs.Readable.{root_spelled}
use Rattle.cs_reader.proofs.Runs.{StandsAt, same_listed, same_runs}
use Rattle.cs_reader.specs.ImageReads.{ArePages}
use Rattle.cs_twin.proofs.Leaving.{whole_shown}
use Rattle.cs_twin.specs.Pairs.{ArePairs, shown_state}
use Rattle.cs_frame.proofs.FormatLaws.{is_format}
use Rattle.cs_index.proofs.Sorted.{all_append}
use Rattle.cs_twin.proofs.Shown.{length-shown}
use Rattle.law_machine.specs.Device.{Inside, Page, Shape}
use Rattle.law_machine.specs.Element.{Locator as Place, Map, Run}
use Rattle.law_machine.specs.Formats.{Formats, RunFrame, Stand, places}
use Rattle.law_machine.specs.Geometry.{twins_in}
use Rattle.law_machine.specs.Index.{AllPass, Passes, entries_of, live, live_at, lookup}
use Rattle.law_machine.specs.Lists.{◌∈◌}
use Rattle.law_machine.specs.Recovery.{Recovers}
use Rattle.cs_mount.specs.MadeSections.{AgreeOnWhole, AreMade, HasFrames, IsWithOthers, StandsThere, all_made, halves_lost, made_section, made_writes, section_pair}
use Rattle.cs_mount.specs.Remaking.{remade}
use Rattle.cs_mount.specs.Showing.{shown_of, shown_on}
use Rattle.cs_mount.specs.StorePairs.{dimensions_on, pages_of, store_pairs, store_shape, store_version}
use Rattle.cs_mount.proofs.MadeMaps.{HasMade, made_recovers, map_made, same_made}
use Rattle.cs_mount.proofs.MadeShown.{after, found_after, frame_shows, frame_stays, is_made, made, root_stays, section_made, section_stays, shown_after, shows_at, size, spells_made}
use Rattle.cs_mount.proofs.MadeWrites.{does, newer, own, twin}
use Rattle.cs_mount.proofs.PagesRemade.{latest_page}
use Rattle.cs_mount.proofs.Repaging.{whole_repaged}
use Rattle.cs_mount.proofs.Sealing.{length-spelled, spelled_bytes}
use Rattle.cs_mount.proofs.Unpaired.{are_pairs}

-- ---- members

pub in_first : {A : Type 0} (xs ys : List A) (z : A) → z ∈ xs → z ∈ xs ++ ys
in_first [] ys z has = absurd has
in_first (x ∷ xs) ys z (inl is) = inl is
in_first (x ∷ xs) ys z (inr has) = inr (in_first xs ys z has)

pub in_last : {A : Type 0} (xs ys : List A) (z : A) → z ∈ ys → z ∈ xs ++ ys
in_last [] ys z has = has
in_last (x ∷ xs) ys z has = inr (in_last xs ys z has)

in_either : {A : Type 0} (xs ys : List A) (z : A) → z ∈ xs ++ ys → (z ∈ xs) ⊎ (z ∈ ys)
in_either [] ys z has = inr has
in_either (x ∷ xs) ys z (inl is) = inl (inl is)
in_either (x ∷ xs) ys z (inr has) = ⊎_elim (λ first. inl (inr first)) (λ last. inr last) (in_either xs ys z has)

-- the places of runs
place_has_run : (runs : List StoredRun) (l : Locator) → l ∈ map (λ run. run.place) runs → (run : Run) × (run ∈ newest_first runs) × (run.place ≡ place_of l)
place_has_run [] l has = absurd has
place_has_run (run ∷ runs) l (inl is) = (run_of run, in_last (newest_first runs) (run_of run ∷ []) (run_of run) (inl refl), ap place_of (sym is))
place_has_run (run ∷ runs) l (inr has) = let there = place_has_run runs l has in (there.0, in_first (newest_first runs) (run_of run ∷ []) there.0 there.1, there.2)

run_has_place : (runs : List StoredRun) (run : Run) → run ∈ newest_first runs → as_locator run.place ∈ map (λ it. it.place) runs
run_has_place [] run has = absurd has
run_has_place (it ∷ runs) run has = ⊎_elim
    (λ (older : run ∈ newest_first runs). inr (run_has_place runs run older))
    (λ (here : run ∈ run_of it ∷ []). inl (⊎_elim (λ (is : run ≡ run_of it). ap (λ (r : Run). as_locator r.place) is) (λ none. absurd none) here))
    (in_either (newest_first runs) (run_of it ∷ []) run has)

-- what an entry has passes where the entry does
live_passes : (S : Shape) (F : Formats) (img : ℕ → Page) (p g : ℕ → ℕ) (o : Option (List Place)) → AllPass S F img p g o → (l : Place) → l ∈ live o → Passes S F img p g l
live_passes S F img p g None pass l has = absurd has
live_passes S F img p g (Some ls) pass l has = pass l has

-- frames stand in images that have the same pages of extents
pub stands_too : (S : Shape) (F : Formats) (img other : ℕ → Page) → ((e i : ℕ) → Inside S e i → other (S.address e i) ≡ img (S.address e i)) → (e i : ℕ) (bs : List Page) → e < S.extents → i + length bs ≤ S.pages → Stand S F img e i bs → Stand S F other e i bs
stands_too S F img other frames e i [] there fits stand = tt
stands_too S F img other frames e i (b ∷ bs) there fits stand = (frames e i (there, omega (arith, fits)) ∙ stand.0, stands_too S F img other frames e (suc i) bs there (omega (arith, fits)) stand.1)

-- runs that stand at the places of those that are recovered are these
pub same_found : (d : Dimensions) → IsGeometry d.format d.extents d.pages d.sections → (view other : ℕ → Page) (n : ℕ) (m : Map) (found : Recovers (store_shape d) (formats_of (store_shape d)) view n m) → HasFrames d other view
    → (runs : List StoredRun) → map as_locator (reverse (places found.runs)) ≡ map (λ run. run.place) runs → AllByRecursion (StandsThere d other) (newest_first runs) → newest_first runs ≡ found.runs
same_found d g view other n m found frames runs listed read = same_runs (store_shape d) view (is_format d.format d.extents d.pages d.sections g) (newest_first runs) found.runs
    (same_listed found.runs runs listed)
    (to_all (StandsAt (store_shape d) view) (newest_first runs) (λ run has. let is = in_all (StandsThere d other) (newest_first runs) read run has in record {
      fits = is.fits;
      inside = is.inside;
      stand = stands_too (store_shape d) (formats_of (store_shape d)) other view frames run.place.extent run.place.page ((formats_of (store_shape d)).frame RunFrame ((formats_of (store_shape d)).run run.entries)) is.extent is.inside is.stand;
    }))
    (to_all (StandsAt (store_shape d) view) found.runs (λ run has. record { fits = found.runs_fit run has; inside = (found.gives.runs_read run has).inside; stand = (found.gives.runs_read run has).stand }))

-- nothing is written of a section that isn't made
none_written : (served : Bool) (own twin p q : ℕ) (bytes : List ℕ) → is_made served own twin ≡ false
    → ◌≡◌ {A = List Write} (if served then [] else map (λ (z : ℕ). (z, bytes)) ((if own == 0 then p ∷ [] else []) ++ (if twin == 0 then q ∷ [] else []))) []
none_written true own twin p q bytes off = refl
none_written false own twin p q bytes off = by (own == 0) (twin == 0) off
  where
    by : (a b : Bool) → (true && (a || b)) ≡ false → ◌≡◌ {A = List Write} (map (λ (z : ℕ). (z, bytes)) ((if a then p ∷ [] else []) ++ (if b then q ∷ [] else []))) []
    by true b off = absurd (true≢false off)
    by false true off = absurd (true≢false off)
    by false false off = refl

module _ (d : Dimensions) (g : IsGeometry d.format d.extents d.pages d.sections) (twins : twins_in d.format ≡ true) (image : Image) (long : length image ≡ pages_of d) (before : dimensions_on (pages_of d) image ≡ Some d)
    (whole : IsWhole (record { durable = image; volatile = [] })) (writes : List Write) (done : AreMade d image writes)
    (view : ℕ → Page) (n : ℕ) (m : Map) (found : Recovers (store_shape d) (formats_of (store_shape d)) view n m) (others : IsWithOthers d image done.version done.named view) where
  abbrev S : Shape
  S = store_shape d

  abbrev F : Formats
  F = formats_of (store_shape d)

  abbrev runs : List StoredRun
  runs = done.by_runs.runs

  -- the root that was read is the one that is recovered
  same_places : map as_locator (reverse (places found.runs)) ≡ map (λ run. run.place) done.by_runs.runs
  same_places =
      let here = root_spelled d.format d.extents d.pages d.sections g view n m found in
      let read = subst (λ (bytes : List ℕ). SpellsRoot bytes (identity_in d.format) done.version done.commands done.places)
      (sym (others.rest.root_page ∙ shows_at d g twins 1 image g.fewest_sections long)) done.root in
      sym (roots.one_root (view 1) (identity_in d.format) found.version n _ here).of_runs ∙ (roots.one_root (view 1) (identity_in d.format) done.version done.commands done.places read).of_runs ∙ sym done.by_runs.listed

  frames_raw : (e i : ℕ) → Inside S e i → view (S.address e i) ≡ page image (S.address e i)
  frames_raw e i there = others.rest.frames e i there ∙ frame_shows d g twins image long e i there

  -- and so are its runs
  runs_are : newest_first done.by_runs.runs ≡ found.runs
  runs_are = same_found d g view (page image) n m found frames_raw done.by_runs.runs same_places done.by_runs.read

  -- what is named is in its extent's generation
  its : (l : Locator) → l ∈ done.named → found.generations l.extent ≡ l.generation
  its l has = ⊎_elim
      (λ (of_run : l ∈ map (λ run. run.place) done.by_runs.runs).
      let run = place_has_run done.by_runs.runs l of_run in
      let passes = (found.gives.runs_read run.0 (subst (λ (rs : List Run). run.0 ∈ rs) runs_are run.1)).passes in
      subst (λ (k : Place). found.generations k.extent ≡ k.generation) run.2 passes.generation)
      (λ (of_shard : (id : ℕ) × (place_of l ∈ live_at (entries_of (newest_first done.by_runs.runs)) id)).
      let there = subst (λ (rs : List Run). place_of l ∈ live_at (entries_of rs) of_shard.0) runs_are of_shard.1 in
      (live_passes S F view found.pointers found.generations (lookup of_shard.0 (entries_of found.runs)) (found.gives.visible_pass of_shard.0) (place_of l) there).generation)
      (done.by_runs.are_named.only l has)

  runs_named : (run : Run) → run ∈ found.runs → as_locator run.place ∈ done.named
  runs_named run has = done.by_runs.are_named.all (as_locator run.place) (inl (run_has_place done.by_runs.runs run (subst (λ (rs : List Run). run ∈ rs) (sym runs_are) has)))

  live_named : (id : ℕ) (l : Place) → l ∈ live_at (entries_of found.runs) id → as_locator l ∈ done.named
  live_named id l has = done.by_runs.are_named.all (as_locator l) (inr (id, subst (λ (rs : List Run). l ∈ live_at (entries_of rs) id) (sym runs_are) has))

  low : (l : Locator) → l ∈ done.named → l.generation ≤ 4294967295
  low l has = subst (λ (v : ℕ). v ≤ 4294967295) (its l has) (found.extents_fit l.extent).1

  -- ---- what shows

  abbrev other : Image
  other = after d g twins image done.version done.named long before low done.fit

  abbrev is_one : ℕ → Bool
  is_one = made d g twins image done.version done.named long before low done.fit

  shown_is : shown_on (pages_of d) other ≡ shown_of d other
  shown_is = shown_after d g twins image done.version done.named long before low done.fit

  unserved : (j : ℕ) → is_one j ≡ true → does d g twins image done.version done.named j ≡ false
  unserved j on = by (does d g twins image done.version done.named j) on
    where
      by : (t : Bool) → is_made t (own d g twins image done.version done.named j) (twin d g twins image done.version done.named j) ≡ true → t ≡ false
      by true on = absurd (true≢false (sym on))
      by false on = refl

  has_made : HasMade d done.named is_one (newer d g twins image done.version done.named) view (page (shown_of d other))
  has_made = record {
    root = root_stays d g twins image done.version done.named long before low done.fit ∙ sym others.rest.root_page;
    frames = λ e i there. frame_stays d g twins image done.version done.named long before low done.fit e i there ∙ sym (others.rest.frames e i there);
    there = section_made d g twins image done.version done.named long before low done.fit;
    fit = λ j lt on. (omega arith, (let few = done.fit j lt (unserved j on) in omega (arith, few)));
    rest = λ j lt off. section_stays d g twins image done.version done.named long before low done.fit j lt off
        ∙ sym (others.sections j lt (none_written (does d g twins image done.version done.named j) (own d g twins image done.version done.named j) (twin d g twins image done.version done.named j) _ _ _ off));
  }

  -- each page that shows is one
  written_whole : (k : ℕ) → k ≤ d.sections → AllByRecursion (λ (w : Write). IsPage w.1) (all_made d image done.version done.named k)
  written_whole zero le = tt
  written_whole (suc k) le = all_append (λ (w : Write). IsPage w.1) (all_made d image done.version done.named k) (made_writes d image done.version done.named k) (written_whole k (omega (arith, le))) (one k (omega (arith, le)) (does d g twins image done.version done.named k) refl)
    where
      each : (bytes : List ℕ) (ps : List ℕ) → IsPage bytes → AllByRecursion (λ (w : Write). IsPage w.1) (map (λ p. (p, bytes)) ps)
      each bytes [] is = tt
      each bytes (p ∷ ps) is = (is, each bytes ps is)

      spelled : (j : ℕ) → j < d.sections → does d g twins image done.version done.named j ≡ false → IsPage (made_section d done.named (newer d g twins image done.version done.named j) j)
      spelled j lt off =
          let is = spells_made d g twins done.named low j (newer d g twins image done.version done.named j) lt (omega arith) (done.fit j lt off) in
          subst IsPage (sym is.spelled) (record { size = length-spelled d.format _ 0 d.extents d.pages d.sections j _ is.fits; bytes = spelled_bytes d.format _ 0 d.extents d.pages d.sections j _ is.fits })

      one : (j : ℕ) → j < d.sections → (t : Bool) → does d g twins image done.version done.named j ≡ t
          → AllByRecursion (λ (w : Write). IsPage w.1) (if t then [] else map (λ p. (p, made_section d done.named (newer d g twins image done.version done.named j) j)) (halves_lost (section_pair d j) (own d g twins image done.version done.named j) (twin d g twins image done.version done.named j)))
      one j lt true is = tt
      one j lt false is = each (made_section d done.named (newer d g twins image done.version done.named j) j) (halves_lost (section_pair d j) (own d g twins image done.version done.named j) (twin d g twins image done.version done.named j)) (spelled j lt is)

  shown_whole : IsWhole (shown_state (store_version (Some d)) (store_pairs d) (record { durable = other; volatile = [] }))
  shown_whole = whole_shown (store_version (Some d)) (store_pairs d) (record { durable = other; volatile = [] })
      (subst (λ (k : ℕ). ArePairs (store_pairs d) k) (sym (size d g twins image done.version done.named long before low done.fit)) (are_pairs d g twins))
      (whole_repaged (latest (all_made d image done.version done.named d.sections)) (record { durable = image; volatile = [] })
      (λ p bytes is. latest_page (all_made d image done.version done.named d.sections) p bytes (written_whole d.sections (omega arith)) is) whole)

  are : ArePages (pages_of d) (page (shown_of d other))
  are p lt =
      let long_too : length (shown_of d other) ≡ pages_of d = length-shown (store_version (Some d)) (store_pairs d) other ∙ size d g twins image done.version done.named long before low done.fit in
      record { size = shown_whole.durable p [] (omega (arith, lt, long_too)); bytes = shown_whole.durable_bytes p [] (omega (arith, lt, long_too)) }

  abbrev Result : Image → Type 0
  Result i = (o : Map) × Recovers (store_shape d) (formats_of (store_shape d)) (page (shown_on (pages_of d) i)) n o × AgreeOnWhole m o

  pub made_gives : (dimensions_on (pages_of d) (remade writes image) ≡ Some d) × Result (remade writes image)
  made_gives = subst (λ (ws : List Write). (dimensions_on (pages_of d) (remade ws image) ≡ Some d) × Result (remade ws image)) (sym done.made) (
    found_after d g twins image done.version done.named long before low done.fit,
    (
      map_made d g twins done.named view (page (shown_of d other)) n m found is_one (newer d g twins image done.version done.named) has_made are its runs_named live_named,
      subst (λ (i : Image). Recovers (store_shape d) (formats_of (store_shape d)) (page i) n (map_made d g twins done.named view (page (shown_of d other)) n m found is_one (newer d g twins image done.version done.named) has_made are its runs_named live_named)) (sym shown_is)
          (made_recovers d g twins done.named view (page (shown_of d other)) n m found is_one (newer d g twins image done.version done.named) has_made are its runs_named live_named),
      same_made d g twins done.named view (page (shown_of d other)) n m found is_one (newer d g twins image done.version done.named) has_made are its runs_named live_named,
    ),
  )
