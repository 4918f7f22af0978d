-- Why no sections are made: nothing of it is so of an image that recovers something with other sections.
use Rattle.std.proofs.Common.{◌≡◌, ◌⊎◌, inl, inr, ◌∙◌, ◌<◌, ◌≤◌, ℕ, List, Some, None, Result, Ok, Err, IfErr, length, map, true, arith, sym, ap, subst}
use Rattle.std.specs.Prelude.{reverse}
use Rattle.std.specs.List.{AllByRecursion}
use Rattle.cs_core.specs.cs_chunk.Reads.{IsNoAnswer}
use Rattle.cs_disk.specs.Disk.{Image, page}
use Rattle.cs_frame.proofs.RootLaws as roots
use Rattle.cs_frame.specs.declared.formats.FormatNumber.{FormatNumber}
use Rattle.cs_frame.specs.declared.locators.Locator.{Locator}
use Rattle.cs_frame.specs.FormatNumbers.{number_in}
use Rattle.cs_frame.specs.Formats.{as_locator, formats_of}
use Rattle.cs_frame.specs.Geometries.{Dimensions, IsGeometry}
use Rattle.cs_frame.specs.Roots.{SpellsRoot, identity_in, root_fault, root_identity}
use Rattle.cs_index.specs.declared.stored_runs.StoredRun.{StoredRun}
use Rattle.cs_index.specs.State.{newest_first}
use Rattle.cs_reader.proofs.Readable.{root_spelled}
use Rattle.cs_reader.specs.Openings.{IsWhyNoRoot}
use Rattle.cs_refusal.specs.declared.refusals.Refusal.{Refusal}
use Rattle.cs_refusal.specs.declared.refusals.Refusal.TheVariants.{WornOut}
use Rattle.law_machine.specs.Device.{Page}
use Rattle.law_machine.specs.Element.{Map, Run}
use Rattle.law_machine.specs.Formats.{places}
use Rattle.law_machine.specs.Geometry.{most_weight_in, twins_in, weigh_in}
use Rattle.law_machine.specs.Index.{entries_of, named_weight}
use Rattle.law_machine.specs.Recovery.{Recovers}
use Rattle.cs_mount.specs.MadeSections.{HasFrames, HasRoot, IsOneWorn, StandsThere, shown_half}
use Rattle.cs_mount.specs.StorePairs.{pages_of, store_pair, store_shape}
use Rattle.cs_mount.proofs.MadeLaw.{same_found}
use Rattle.cs_mount.proofs.MadeShown.{frame_shows, shows_at}

-- what is so of a refusal
pub if_refused : {T E : Type 0} (r : Result T E) (P Q : E → Type 0) → ((e : E) → P e → Q e) → IfErr r P → IfErr r Q
if_refused (Ok x) P Q then_so is = tt
if_refused (Err e) P Q then_so is = then_so e is

module _ (d : Dimensions) (g : IsGeometry d.format d.extents d.pages d.sections) (twins : twins_in d.format ≡ true) (image : Image) (long : length image ≡ pages_of d)
    (view : ℕ → Page) (n : ℕ) (m : Map) (found : Recovers (store_shape d) (formats_of (store_shape d)) view n m) (has : HasRoot d image view) where
  -- the root that shows is the one that is recovered
  spelled : SpellsRoot (shown_half d image (store_pair d 1)) (identity_in d.format) found.version n (map as_locator (reverse (places found.runs)))
  spelled = subst (λ (bytes : List ℕ). SpellsRoot bytes (identity_in d.format) found.version n (map as_locator (reverse (places found.runs))))
      (has.root_page ∙ shows_at d g twins 1 image g.fewest_sections long) (root_spelled d.format d.extents d.pages d.sections g view n m found)

  pub same_listed : (version commands : ℕ) (listed : List Locator) → SpellsRoot (shown_half d image (store_pair d 1)) (identity_in d.format) version commands listed
      → map as_locator (reverse (places found.runs)) ≡ listed
  same_listed version commands listed other =
      sym (roots.one_root (shown_half d image (store_pair d 1)) (identity_in d.format) found.version n _ spelled).of_runs
      ∙ (roots.one_root (shown_half d image (store_pair d 1)) (identity_in d.format) version commands listed other).of_runs

  -- and no test of it fails
  pub root_there : (q : Refusal) → IsWhyNoRoot d.format (shown_half d image (store_pair d 1)) q → ⊥
  root_there q (inl fault) =
      let none : root_fault (number_in d.format) (shown_half d image (store_pair d 1)) ≡ None =
      ap (λ (i : FormatNumber). root_fault i (shown_half d image (store_pair d 1))) (sym (roots.number_of_identity d.format)) ∙ roots.spelled_has_none (shown_half d image (store_pair d 1)) _ _ _ _ spelled in
      let clash : None ≡ Some fault.0 = sym none ∙ fault.1 in
      cc clash
  root_there q (inr other) = other.other
      (sym (roots.one_root (shown_half d image (store_pair d 1)) other.store other.version other.commands other.places other.root).of_store
      ∙ ap (λ (i : FormatNumber). root_identity i (shown_half d image (store_pair d 1)))
      (roots.one_format (shown_half d image (store_pair d 1)) other.store (identity_in d.format) other.version found.version other.commands n other.places _ other.root spelled)
      ∙ (roots.one_root (shown_half d image (store_pair d 1)) (identity_in d.format) found.version n _ spelled).of_store)

  -- its pages of extents are those that show
  pub frames_there : HasFrames d (page image) view
  frames_there e i there = has.frames e i there ∙ frame_shows d g twins image long e i there

-- the runs that are recovered weigh no more than may be
pub not_heavy : (d : Dimensions) → IsGeometry d.format d.extents d.pages d.sections → (view other : ℕ → Page) (n : ℕ) (m : Map) (found : Recovers (store_shape d) (formats_of (store_shape d)) view n m) → HasFrames d other view
    → (runs : List StoredRun) → map as_locator (reverse (places found.runs)) ≡ map (λ run. run.place) runs → AllByRecursion (StandsThere d other) (newest_first runs)
    → (limit : ℕ) → limit ≡ most_weight_in d.format d.pages → limit < named_weight (weigh_in d.format) (entries_of (newest_first runs)) → ⊥
not_heavy d g view other n m found frames runs listed read limit is many =
    let same = same_found d g view other n m found frames runs listed read in
    let few : named_weight (weigh_in d.format) (entries_of (newest_first runs)) ≤ most_weight_in d.format d.pages =
    subst (λ (rs : List Run). named_weight (weigh_in d.format) (entries_of rs) ≤ most_weight_in d.format d.pages) (sym same) found.bounds.weight_fits in
    omega (arith, is, many, few)

-- why none are made of the store that is found
abbrev Why : {T : Type 0} → Dimensions → Image → Result T Refusal → (view : ℕ → Page) (n : ℕ) (m : Map) → Type 0
Why d image r view n m = Recovers (store_shape d) (formats_of (store_shape d)) view n m → HasRoot d image view → IfErr r (λ q. IsNoAnswer q ⊎ ((q ≡ WornOut) × IsOneWorn d image))

pub why_found : {T : Type 0} (geometry d : Dimensions) → geometry ≡ d → (after before : Image) → after ≡ before → (r : Result T Refusal) (view : ℕ → Page) (n : ℕ) (m : Map) → Why geometry after r view n m → Why d before r view n m
why_found geometry d same after before still r view n m why = subst (λ (z : Dimensions). Why z before r view n m) same (subst (λ (i : Image). Why geometry i r view n m) still why)
