-- How it is read what can be read, from one part to the next.
use Rattle.std.proofs.Common.{◌≡◌, ◌∙◌, ◌⊎◌, inl, inr, ⊎_elim, ℕ, ◌+◌, ◌*◌, ◌<◌, ◌≤◌, List, Option, Some, None, Result, Ok, Err, IfErr, IfOk, length, sym, ap, subst, arith}
use Rattle.cs_chunk.specs.Reads.{IsCaused, IsNoAnswer}
use Rattle.cs_refusal.specs.declared.refusals.Refusal.{Refusal}
use Rattle.cs_refusal.specs.declared.refusals.Refusal.TheVariants.{DeviceFault, NotAStore, OutOfMemory}
use Rattle.cs_disk.specs.Disk.{Image, State as DiskState, page, seen}
use Rattle.cs_extent.specs.State.{State as ExtentsState, shape}
use Rattle.cs_frame.proofs.GeometryLaws.{pages_on_device}
use Rattle.cs_frame.specs.Roots.{SpellsRoot, identity_in}
use Rattle.cs_reader.specs.Loads.{index_at}
use Rattle.cs_reader.specs.ImageReads.{AreSectionsRead}
use Rattle.cs_index.specs.declared.stored_runs.StoredRun.{StoredRun}
use Rattle.cs_index.specs.State.{State as IndexState, newest_first}
use Rattle.law_machine.specs.Format.{Format}
use Rattle.law_machine.specs.Geometry.{weigh_in}
use Rattle.law_machine.specs.Index.{entries_of, named_weight}
use Rattle.cs_reader.specs.declared.heads.Head.{Head}
use Rattle.cs_reader.specs.Heads.{IsHeadRead, IsWhyNoHead}
use Rattle.cs_salvage.specs.declared.rescued_runs.DamagedRun.{DamagedRun}
use Rattle.cs_salvage.specs.Founds.{Found, IsRoomFor}
use Rattle.cs_salvage.specs.Rescued.{IsFoundIn, IsRescued, IsWhyNotRescued, most_taken}
use Rattle.cs_salvage.specs.Runs.{AreNewestRead, IsDamageCaused}
use Rattle.cs_salvage.proofs.Newest.{newest_before}

-- ---- what is found

module _ (honest : Type 0) (count : ℕ) (view : ℕ → List ℕ) (head : Head) (is : IsHeadRead honest count view head) where
  pub rescued : (index : IndexState) (damaged : Option DamagedRun) (runs : List StoredRun) → AreNewestRead honest head.extents view head.root.runs.items runs damaged → index ≡ index_at (newest_first runs) head.extents.format most_taken
      → IsRescued honest count view (record { extents = head.extents; root = head.root.version; commands = head.root.commands; places = head.root.runs.items; lost = head.root_lost; index = index; damaged = damaged })
  rescued index damaged runs newest loaded = (
    is.format,
    is.versions,
    is.records,
    is.pages,
    is.written,
    record {
      sized = is.sized;
      geometry = is.geometry;
      extents = is.extents;
      sections = is.sections;
      root = is.root;
      lost = is.lost;
      runs = record { runs = runs; newest = newest; index = loaded };
    },
  )

  -- too much is named
  pub too_heavy : honest → (runs : List StoredRun) (damaged : Option DamagedRun) → AreNewestRead (Unit {0}) head.extents view head.root.runs.items runs damaged → (r : Refusal)
      → (r ≡ OutOfMemory) ⊎ ((r ≡ NotAStore) × (most_taken < named_weight (weigh_in head.extents.format) (entries_of (newest_first runs)))) → IsNoAnswer r ⊎ IsWhyNotRescued count view r
  too_heavy h runs damaged read r why = ⊎_elim (λ m. inl (inr m))
      (λ (w : (r ≡ NotAStore) × (most_taken < named_weight (weigh_in head.extents.format) (entries_of (newest_first runs)))). inr (inr (inr (inr (inr (inr (inr (inr (record {
        format = is.format;
        versions = is.versions;
        records = is.records;
        pages = is.pages;
        written = is.written;
        places = head.root.runs.items;
        root = record { extents = record { sections = is.sections h; sized = is.sized }; version = head.root.version; commands = head.root.commands; root = is.root h };
        runs = runs;
        damaged = damaged;
        read = subst (λ (y : ExtentsState). AreNewestRead (Unit {0}) y view head.root.runs.items runs damaged) is.extents read;
        heavy = subst (λ (f : Format). most_taken < named_weight (weigh_in f) (entries_of (newest_first runs))) (ap (λ (y : ExtentsState). y.format) is.extents) w.1;
        refusal = w.0;
      }))))))))) why

-- where no head is read nothing is found
pub not_rescued : (count : ℕ) (view : ℕ → List ℕ) (r : Refusal) → IsNoAnswer r ⊎ IsWhyNoHead count view r → IsNoAnswer r ⊎ IsWhyNotRescued count view r
not_rescued count view r (inl none) = inl none
not_rescued count view r (inr (inl why)) = inr (inr (inl why))
not_rescued count view r (inr (inr (inl why))) = inr (inr (inr (inl why)))
not_rescued count view r (inr (inr (inr (inl why)))) = inr (inr (inr (inr (inl why))))
not_rescued count view r (inr (inr (inr (inr (inl why))))) = inr (inr (inr (inr (inr (inl why)))))
not_rescued count view r (inr (inr (inr (inr (inr (inl why)))))) = inr (inr (inr (inr (inr (inr (inl why))))))
not_rescued count view r (inr (inr (inr (inr (inr (inr why)))))) = inr (inr (inr (inr (inr (inr (inr (inl why)))))))

-- what was read later was there before
module _ (old mid : DiskState) (before now : Type 0) (later : before → now) (same : before → seen mid ≡ seen old) (count after : ℕ) (size : after ≡ count) where
  view_same : before → page (seen mid) ≡ page (seen old)
  view_same h = ap page (same h)

  in_before : (format : Format) (versions records : List ℕ) (pages : ℕ) (written : List (ℕ × ℕ)) (f : Found) → IsFoundIn now after (page (seen mid)) format versions records pages written f → IsFoundIn before count (page (seen old)) format versions records pages written f
  in_before format versions records pages written f is = record {
    sized = sym size ∙ is.sized;
    geometry = is.geometry;
    extents = is.extents;
    sections = λ h. subst (λ (i : Image). AreSectionsRead (page i) format versions records pages written) (same h) (is.sections (later h));
    root = λ h. subst (λ (i : Image). SpellsRoot (page i 1) (identity_in format) f.root f.commands f.places) (same h) (is.root (later h));
    lost = is.lost;
    runs = record {
      runs = is.runs.runs;
      newest = newest_before before now later f.extents (page (seen old)) (page (seen mid)) view_same f.places is.runs.runs f.damaged is.runs.newest;
      index = is.runs.index;
    };
  }

  pub rescued_before : (result : Result Found Refusal) → IfOk result (IsRescued now after (page (seen mid))) → IfOk result (IsRescued before count (page (seen old)))
  rescued_before (Ok f) is = (is.0, is.1, is.2, is.3, is.4, in_before is.0 is.1 is.2 is.3 is.4 f is.5)
  rescued_before (Err r) is = tt

  pub why_before : (result : Result Found Refusal) → (now → IfErr result (λ r. IsNoAnswer r ⊎ IsWhyNotRescued after (page (seen mid)) r)) → before → IfErr result (λ r. IsNoAnswer r ⊎ IsWhyNotRescued count (page (seen old)) r)
  why_before result why h =
      subst (λ (n : ℕ). IfErr result (λ r. IsNoAnswer r ⊎ IsWhyNotRescued n (page (seen old)) r)) size
      (subst (λ (i : Image). IfErr result (λ r. IsNoAnswer r ⊎ IsWhyNotRescued after (page i) r)) (same h) (why (later h)))

-- root and extents have their pages
pub room_for : (honest : Type 0) (count : ℕ) (view : ℕ → List ℕ) (f : Found) → IsRescued honest count view f → IsRoomFor f count
room_for honest count view f (format, versions, records, pages, written, is) =
    let some : 1 ≤ length versions = is.geometry.fewest_sections in
    let on = pages_on_device format (length written) pages (length versions) is.geometry in
    let there : 2 + length written * pages ≤ count = omega (arith, some, on, is.sized) in
    subst (λ (y : ExtentsState). 2 + (shape y).extents * (shape y).pages ≤ count) (sym is.extents) there

-- ---- its cause

-- where the device isn't to blame, its count has to rise for nothing
pub caused_otherwise : {T : Type 0} (before now : ℕ) → before ≤ now → (r : Refusal) → (r ≡ OutOfMemory) ⊎ (r ≡ NotAStore) → IsCaused {T = T} before now (Err r)
caused_otherwise before now le r why = record {
  later = le;
  failed = λ e. let is : r ≡ DeviceFault = cc e in absurd (⊎_elim
      (λ (m : r ≡ OutOfMemory). let clash : OutOfMemory ≡ DeviceFault = sym m ∙ is in cc clash)
      (λ (n : r ≡ NotAStore). let clash : NotAStore ≡ DeviceFault = sym n ∙ is in cc clash)
      why);
}

-- what rose later has risen since before
later_caused : (before mid now : ℕ) → before ≤ mid → (damaged : Option DamagedRun) → IsDamageCaused mid now damaged → IsDamageCaused before now damaged
later_caused before mid now le None caused = tt
later_caused before mid now le (Some d) caused = λ device. let rise = caused device in omega (arith, rise, le)

pub failed_before : (before mid now : ℕ) → before ≤ mid → (result : Result Found Refusal) → IfOk result (λ f. IsDamageCaused mid now f.damaged) → IfOk result (λ f. IsDamageCaused before now f.damaged)
failed_before before mid now le (Ok f) caused = later_caused before mid now le f.damaged caused
failed_before before mid now le (Err r) caused = tt
