-- The state in which a store starts where chunks and runs lie apart.
use Rattle.std.proofs.Common.{◌≡◌, inl, ℕ, ◌+◌, Bool, true, false, if◌then◌else◌, List, [], ◌++◌, length, true≢false, refl, sym, ap, ◌∙◌, subst, arith}
use Rattle.cs_disk.specs.Disk.{Image, page}
use Rattle.cs_extent.specs.State.{IsWhole, State as ExtentsState, extents_at, extents_of, shape}
use Rattle.cs_frame.specs.Formats.{formats_of}
use Rattle.cs_frame.specs.Geometries.{device_pages}
use Rattle.law_refinement.proofs.Found.{noted_recovers}
use Rattle.law_refinement.specs.Images.{IsFoundAs, AreExtentsNoted}
use Rattle.cs_reader.specs.Loads.{by_family, graph_at, index_at}
use Rattle.cs_reader.specs.ImageReads.{ArePages, IsVisibleStoreRead}
use Rattle.cs_index.specs.declared.stored_runs.StoredRun.{StoredRun}
use Rattle.cs_index.specs.State.{newest_first}
use Rattle.law_machine.proofs.Opens.{opens_bounded, opens_sound}
use Rattle.law_machine.specs.Apart.{freed, is_blank, is_blank_by, reset_all}
use Rattle.law_machine.specs.Device.{Shape}
use Rattle.law_machine.specs.Element.{Map, Run}
use Rattle.law_machine.specs.Extents.{Extents}
use Rattle.law_machine.specs.Format.{Format}
use Rattle.law_machine.specs.Index.{entries_of}
use Rattle.law_machine.specs.Open.{extents_read, opened_state, opened_world, state_read}
use Rattle.law_machine.specs.Recovery.{Recovers}
use Rattle.law_machine.specs.Sound.{Bounded, Sound}
use Rattle.law_machine.specs.State.{State}
use Rattle.cs_reclaim.specs.Rooted.{freed_under}
use Rattle.law_refinement.specs.Copying.{AreAllPartsOf}
use Rattle.law_refinement.specs.Devices.{IsDiskOf}
use Rattle.law_refinement.specs.Openings.{IsStartOf}
use Rattle.law_refinement.specs.Parts.{ArePartsOf}
use Rattle.law_refinement.specs.Stores.{IsWorldOf}
use Rattle.law_refinement.proofs.Freed.{after_others, reset_each}
use Rattle.law_refinement.proofs.Opening.{opened}
use Rattle.law_refinement.proofs.Shapes.{some_sections, store_shape}
use Rattle.law_refinement.proofs.StagesApart.{lies_apart}
use Rattle.law_refinement.proofs.Started.{persistent_as_read}

module _ (x y : ExtentsState) (image : Image) (versions : List ℕ) (root : ℕ) (format : Format) (limit n : ℕ) (runs : List Run) (m : Map)
    (found : Recovers (shape x) (formats_of (shape x)) (page image) n m) (on : (shape x).apart ≡ true) (whole : IsWhole x)
    (as_found : IsFoundAs (shape x) (formats_of (shape x)) (page image) n m found x versions root runs)
    (same : shape y ≡ shape x) (extents : extents_of y ≡ freed_under (shape x) (extents_of x) (index_at runs format limit) [] root) where
  abbrev S : Shape
  S = shape x

  abbrev start : State
  start = opened_state S (formats_of S) (page image) n m found

  -- the state as it was read, and its extents once the blank ones are freed
  abbrev as_read : State
  as_read = state_read S (formats_of S) (page image) n m found

  abbrev then_freed : Extents
  then_freed = (freed S as_read).world.extents

  -- so they are freed by the parts
  abbrev freed_by : Shape → Extents → List Run → ℕ → Extents
  freed_by T z rs r = reset_all T z r (is_blank_by S z ([] ++ entries_of rs) rs []) S.extents

  are_freed : extents_of y ≡ then_freed
  are_freed = extents
      ∙ ap (λ (T : Shape). freed_by T (extents_of x) runs root) (lies_apart S on)
      ∙ ap (λ (z : Extents). freed_by S z runs root) as_found.extents
      ∙ ap (λ (rs : List Run). freed_by S as_read.world.extents rs root) (sym as_found.same_runs)
      ∙ ap (λ (r : ℕ). freed_by S as_read.world.extents as_read.runs r) (sym as_found.root_version)

  world_read : IsWorldOf x (graph_at versions root) (opened_world S (formats_of S) (page image) n m found)
  world_read = opened x (graph_at versions root) (formats_of S) (page image) n m found versions (some_sections x whole) as_found.all_sections as_found.versions as_found.extents
      (ap (λ (v : ℕ). record { pending = record { persistent = by_family versions v; waiting = [] }; staged = 0; latest = by_family versions v }) (sym as_found.root_version))

  world_freed : IsWorldOf y (graph_at versions root) start.world
  world_freed = subst (λ (z : Extents). IsWorldOf y (graph_at versions root) (record (opened_world S (formats_of S) (page image) n m found) { extents = z }))
      (ap (λ (b : Bool). if b then then_freed else extents_read S (formats_of S) (page image) n m found) (sym on))
      (after_others x y (graph_at versions root) (opened_world S (formats_of S) (page image) n m found) world_read same then_freed
      (reset_each S as_read.world.extents as_read.world.root (is_blank S as_read) S.extents) are_freed)

  parts : ArePartsOf y (graph_at versions root) (index_at runs format limit) start
  parts = record { world = world_freed; index = record { lookups = λ id. refl; same_runs = sym as_found.same_runs } }

  pub started : IsStartOf y (graph_at versions root) (index_at runs format limit) image start × AreAllPartsOf y (graph_at versions root) (index_at runs format limit) [] start
  started = (
    record {
      sound = subst (λ (T : Shape). Sound T (formats_of T) start) (sym same) (opens_sound S (formats_of S) (store_shape x whole) (page image) n m found);
      bounded = subst (λ (T : Shape). Bounded T (formats_of T) start) (sym same) (opens_bounded S (formats_of S) (store_shape x whole) (page image) n m found);
      parts = parts;
      disk = subst (λ (T : Shape). IsDiskOf T (formats_of T) start (record { durable = image; volatile = [] })) (sym same)
          (record { durable = λ p inside. sym (persistent_as_read x (formats_of S) (page image) n m found (store_shape x whole) p); volatile = refl });
      frontier = (_, inl refl, refl, (let alike : n ≡ n + 0 = omega arith in alike));
    },
    record { parts = parts; same_copies = refl },
  )

module _ (image : Image) (format : Format) (versions records : List ℕ) (pages : ℕ) (written : List (ℕ × ℕ)) (root commands limit : ℕ) (runs : List StoredRun)
    (are : ArePages (device_pages format (length written) pages (length versions)) (page image)) (read : IsVisibleStoreRead (page image) format versions records pages written root commands runs) where
  abbrev there : ExtentsState
  there = extents_at format pages (length versions) written

  abbrev Starts : ExtentsState → Shape → Type 0
  Starts y T = (m : Map) × (found : Recovers T (formats_of T) (page image) commands m)
      × IsStartOf y (graph_at versions root) (index_at (newest_first runs) format limit) image (opened_state T (formats_of T) (page image) commands m found)
      × AreAllPartsOf y (graph_at versions root) (index_at (newest_first runs) format limit) [] (opened_state T (formats_of T) (page image) commands m found)

  abbrev IsFound : ExtentsState → Shape → Type 0
  IsFound noted T = (m : Map) × (found : Recovers T (formats_of T) (page image) commands m)
      × IsFoundAs T (formats_of T) (page image) commands m found noted versions root (newest_first runs)

  pub read_started : (noted y : ExtentsState) → (shape there).hidden_stand ≡ false → (shape there).apart ≡ true → IsWhole noted
      → AreExtentsNoted there (newest_first runs) noted → shape y ≡ shape noted
      → extents_of y ≡ freed_under (shape noted) (extents_of noted) (index_at (newest_first runs) format limit) [] root → Starts y (shape there)
  read_started noted y not on whole is same extents =
      let f = subst (λ (T : Shape). IsFound noted T) (sym is.same_shape)
      (noted_recovers (page image) format versions records pages written root commands runs read (λ stand. absurd (true≢false (sym stand ∙ not))) are noted on is) in
      let s = started noted y image versions root format limit commands (newest_first runs) f.0 f.1
      (subst (λ (T : Shape). T.apart ≡ true) (sym is.same_shape) on) whole f.2 same extents in
      subst (λ (T : Shape). Starts y T) is.same_shape (f.0, f.1, s.0, s.1)
