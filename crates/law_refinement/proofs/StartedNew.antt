-- The state in which a new store starts, by either rule.
use Rattle.std.proofs.Common.{◌≡◌, inl, inr, ℕ, zero, suc, ◌<◌, ◌≤◌, Bool, true, false, not, nat_le, nat_lt, ◌==◌, ◌&&◌, ◌||◌, if◌then◌else◌, List, [], ◌∷◌, ◌++◌, length, None, le_trans, refl, sym, ap, ◌∙◌, subst}
use Rattle.std.proofs.lemmas.Bool.{cases_Bool}
use Rattle.std.specs.Prelude.{replicate}
use Rattle.cs_disk.proofs.Images.{page-applied}
use Rattle.cs_disk.specs.Disk.{Image, State as DiskState, Write as PageWrite, flushed, latest, page, seen}
use Rattle.cs_extent.specs.State.{State as ExtentsState, extents_at, extents_of, shape}
use Rattle.cs_frame.proofs.GeometryLaws.{lies_in_device}
use Rattle.cs_frame.specs.Formats.{formats_of}
use Rattle.cs_frame.specs.Geometries.{IsGeometry, device_pages, section_length, section_size}
use Rattle.cs_frame.specs.Roots.{SpellsRoot, identity_in}
use Rattle.cs_frame.specs.Superblocks.{SpellsSuperblock}
use Rattle.cs_reader.proofs.Listed.{all_default}
use Rattle.law_refinement.proofs.New.{new_found, new_whole}
use Rattle.law_refinement.specs.Images.{AreNewSections}
use Rattle.cs_reader.specs.Loads.{graph_at, index_at}
use Rattle.law_machine.specs.Apart.{any_run_on, is_blank_by, is_held_by, reset_all}
use Rattle.law_machine.specs.Device.{Page}
use Rattle.law_machine.specs.Extents.{Extents, emptied, forgotten}
use Rattle.law_machine.specs.Format.{Format}
use Rattle.law_machine.specs.Geometry.{shape_of}
use Rattle.law_machine.specs.Local.{LiesBelow}
use Rattle.law_machine.specs.Open.{opened_state}
use Rattle.law_machine.specs.Recovery.{Recovers}
use Rattle.law_machine.specs.Tally.{lives_on}
use Rattle.cs_reclaim.specs.Rooted.{lying_apart}
use Rattle.law_refinement.specs.Openings.{IsStartOf}
use Rattle.law_refinement.proofs.Started.{started}
use Rattle.law_refinement.proofs.StartedApart.{started as started_apart}

-- what is written as a store is made
module _ (image : Image) (format : Format) (extents pages sections limit : ℕ) (geometry : IsGeometry format extents pages sections)
    (superblocks : AreNewSections (page image) format extents pages sections) (root : SpellsRoot (page image 1) (identity_in format) 1 0 []) where
  abbrev new_extents : ExtentsState
  new_extents = extents_at format pages sections (replicate extents (0, 0))

  -- nothing lies on any of its extents, so that none is freed
  none_given : (e : ℕ) → (extents_of new_extents).pointer e ≡ 0
  none_given e = ap (λ (row : ℕ × ℕ). row.0) (all_default extents e (0, 0))

  -- what else is asked of a blank extent
  abbrev rest : ℕ → Bool
  rest e = not (any_run_on [] e || is_held_by (shape new_extents) (extents_of new_extents) [] e)
      && nat_lt ((extents_of new_extents).generation e) (shape new_extents).greatest_generation

  none_freed : (k : ℕ) → extents_of new_extents
      ≡ reset_all (lying_apart (shape new_extents)) (extents_of new_extents) 1 (is_blank_by (shape new_extents) (extents_of new_extents) [] [] []) k
  none_freed zero = refl
  none_freed (suc k) = none_freed k ∙ stays (is_blank_by (shape new_extents) (extents_of new_extents) [] [] [] k) (not_blank k)
      (reset_all (lying_apart (shape new_extents)) (extents_of new_extents) 1 (is_blank_by (shape new_extents) (extents_of new_extents) [] [] []) k)
      (forgotten true (emptied (reset_all (lying_apart (shape new_extents)) (extents_of new_extents) 1 (is_blank_by (shape new_extents) (extents_of new_extents) [] [] []) k) k 1) k)
    where
      stays : (b : Bool) → b ≡ false → (old other : Extents) → old ≡ (if b then other else old)
      stays b not old other = ap (λ (c : Bool). if c then other else old) (sym not)

      not_blank : (e : ℕ) → is_blank_by (shape new_extents) (extents_of new_extents) [] [] [] e ≡ false
      not_blank e = ap (λ (p : ℕ). (nat_lt 0 p && nat_le (lives_on e []) 0) && rest e) (none_given e)

  pub new_started : (found : Recovers (shape new_extents) (formats_of (shape new_extents)) (page image) 0 (λ id. None))
      × IsStartOf new_extents (graph_at (replicate sections 1) 1) (index_at [] format limit) image (opened_state (shape new_extents) (formats_of (shape new_extents)) (page image) 0 (λ id. None) found)
  new_started = let f = new_found (page image) format extents pages sections geometry superblocks root in (
    f.0,
    elim (cases_Bool (shape new_extents).apart) [
      | inl on ↦ (started_apart new_extents new_extents image (replicate sections 1) 1 format limit 0 [] (λ id. None) f.0 on
          (new_whole (page image) format extents pages sections geometry superblocks root) f.1 refl (none_freed (shape new_extents).extents)).0
      | inr not ↦ started new_extents image (replicate sections 1) 1 format limit 0 [] (λ id. None) f.0
          (new_whole (page image) format extents pages sections geometry superblocks root) f.1 not
    ],
  )

latest_append : (first more : List PageWrite) (p : ℕ) (bytes : List ℕ) → latest (first ++ more) p bytes ≡ latest more p (latest first p bytes)
latest_append [] more p bytes = refl
latest_append (w ∷ first) more p bytes = latest_append first more p (if w.0 == p then w.1 else bytes)

-- after these writes, and a flush
module _ (old : DiskState) (writes : List PageWrite) (format : Format) (extents pages sections limit : ℕ) (geometry : IsGeometry format extents pages sections)
    (enough : device_pages format extents pages sections ≤ length old.durable) where
  -- what each page reads as then
  abbrev view : ℕ → Page
  view p = latest writes p (page (seen old) p)

  abbrev image : Image
  image = (flushed (record { durable = old.durable; volatile = old.volatile ++ writes })).durable

  as_viewed : (p : ℕ) → p < device_pages format extents pages sections → page image p ≡ view p
  as_viewed p lt = page-applied old.durable (old.volatile ++ writes) p (le_trans lt enough) ∙ latest_append old.volatile writes p (page old.durable p)
      ∙ ap (latest writes p) (sym (page-applied old.durable old.volatile p (le_trans lt enough)))

  below : LiesBelow (shape_of extents pages sections (section_size extents sections) format) (device_pages format extents pages sections)
  below = lies_in_device format extents pages sections geometry

  pub written_started : AreNewSections view format extents pages sections → SpellsRoot (view 1) (identity_in format) 1 0 []
      → (let x = extents_at format pages sections (replicate extents (0, 0)) in
      (found : Recovers (shape x) (formats_of (shape x)) (page image) 0 (λ id. None))
      × IsStartOf x (graph_at (replicate sections 1) 1) (index_at [] format limit) image (opened_state (shape x) (formats_of (shape x)) (page image) 0 (λ id. None) found))
  written_started superblocks root = new_started image format extents pages sections limit geometry
      (λ j lt. subst (λ (b : Page). SpellsSuperblock b format 1 0 extents pages sections j (replicate (section_length extents sections j) (0, 0)))
      (sym (as_viewed ((shape_of extents pages sections (section_size extents sections) format).section_page j) (below.sections j lt))) (superblocks j lt))
      (subst (λ (b : Page). SpellsRoot b (identity_in format) 1 0 []) (sym (as_viewed 1 below.root)) root)
