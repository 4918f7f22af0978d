-- How an opening goes on, from one part that is read to the next.
use Rattle.std.proofs.Common.{◌≡◌, ◌≢◌, ◌⊎◌, inl, inr, ⊎_elim, ◌∙◌, true, false, ℕ, ◌<◌, ◌≤◌, List, Result, Ok, Err, IfOk, IfErr, OnErr, OnOk, [], length, map, refl, sym, ap, subst}
use Rattle.std.specs.List.{AllByRecursion}
use Rattle.std.specs.Prelude.{slice_index}
use Rattle.cs_chunk.specs.Reads.{IsCaused, IsNoAnswer}
use Rattle.cs_refusal.specs.declared.refusals.Refusal.{Refusal}
use Rattle.cs_refusal.specs.declared.refusals.Refusal.TheVariants.{DeviceFault, NotAStore, OutOfMemory, RootLost}
use Rattle.cs_disk.proofs.Moments.{flushes_or_not, stays, started}
use Rattle.cs_disk.specs.Disk.{Elapses, Image, LeavesOnly, MayLeave, State as DiskState, flushed, page, seen}
use Rattle.cs_extent.specs.State.{State as ExtentsState, extents_at, shape}
use Rattle.cs_frame.specs.declared.locators.Locator.{Locator}
use Rattle.cs_frame.specs.Geometries.{device_pages}
use Rattle.cs_frame.specs.Roots.{SpellsRoot, identity_in}
use Rattle.cs_reader.specs.Counts.{HasCount}
use Rattle.cs_reader.specs.ImageReads.{IsRunRead}
use Rattle.cs_index.specs.declared.stored_runs.StoredRun.{StoredRun}
use Rattle.cs_index.specs.State.{newest_first}
use Rattle.law_machine.specs.Format.{Format}
use Rattle.law_machine.specs.Index.{entries_of, live_at, named_weight}
use Rattle.cs_core.specs.declared.core_openings.OpenedStore.{OpenedStore}
use Rattle.cs_reader.specs.declared.heads.Head.{Head}
use Rattle.cs_reader.specs.Heads.{IsHeadRead, IsWhyNoHead}
use Rattle.cs_reader.proofs.Loading.{failed, passed}
use Rattle.cs_reader.specs.Openings.{AreExtentsRead, AreLocatedBy, AreRecordedBy, IsStoreReadBy, IsWhyNoRuns, IsWhyNotOpened}
use Rattle.cs_core.specs.Openings.{IsLoaded, IsStoreMade}

-- ---- the store that is made, and why none is

module _ (honest : Type 0) (count : ℕ) (view : ℕ → List ℕ) (head : Head) (is : IsHeadRead honest count view head) where
  there : honest → AreExtentsRead count view is.format is.versions is.records is.pages is.written
  there h = record { sections = is.sections h; sized = is.sized }

  abbrev IsLater : Type 0
  IsLater = (j : ℕ) × (j < length is.versions) × (head.root.version < slice_index is.records j)

  abbrev IsNewest : Type 0
  IsNewest = AreRecordedBy (length is.versions) is.records head.root.version

  -- a section records a later root
  pub root_lost : honest → head.root_lost ≡ true → IsNoAnswer RootLost ⊎ IsWhyNotOpened count view RootLost
  root_lost h lost =
      let later : IsLater = passed IsLater IsNewest head.root_lost is.lost lost in
      inr (inr (inr (inr (inr (inr (inr (inr (inl (record {
        format = is.format;
        versions = is.versions;
        records = is.records;
        pages = is.pages;
        written = is.written;
        places = head.root.runs.items;
        root = record { extents = there h; version = head.root.version; commands = head.root.commands; root = is.root h };
        section = later.0;
        one_of_them = later.1;
        later = later.2;
        refusal = refl;
      })))))))))

  -- or none does
  pub is_newest : head.root_lost ≡ false → IsNewest
  is_newest kept = failed IsLater IsNewest head.root_lost is.lost kept

  -- the runs are read at the places of the root
  module _ (newest : IsNewest) (places : List Locator) (listed : places ≡ head.root.runs.items) where
    root_there : honest → SpellsRoot (view 1) (identity_in is.format) head.root.version head.root.commands places
    root_there h = subst (λ (ls : List Locator). SpellsRoot (view 1) (identity_in is.format) head.root.version head.root.commands ls) (sym listed) (is.root h)

    pub run_damaged : honest → (r : Refusal) → IsNoAnswer r ⊎ IsWhyNoRuns head.extents view places r → IsNoAnswer r ⊎ IsWhyNotOpened count view r
    run_damaged h r why = ⊎_elim (λ n. inl n)
        (λ (w : IsWhyNoRuns head.extents view places r).
        let v : IsWhyNoRuns (extents_at is.format is.pages (length is.versions) is.written) view places r = subst (λ (y : ExtentsState). IsWhyNoRuns y view places r) is.extents w in
        inr (inr (inr (inr (inr (inr (inr (inr (inr (inl (record {
          format = is.format;
          versions = is.versions;
          records = is.records;
          pages = is.pages;
          written = is.written;
          places = places;
          root = record { extents = there h; version = head.root.version; commands = head.root.commands; root = root_there h };
          recorded_fit = newest;
          runs = v.runs;
          older = v.older;
          place = v.place;
          next = v.next;
          why = v.why;
        })))))))))))
        why

    module _ (runs : List StoredRun) (read : honest → (map (λ run. run.place) runs ≡ places) × AllByRecursion (IsRunRead head.extents view) runs) where
      root_page : honest → SpellsRoot (view 1) (identity_in is.format) head.root.version head.root.commands (map (λ run. run.place) runs)
      root_page h = subst (λ (ps : List Locator). SpellsRoot (view 1) (identity_in is.format) head.root.version head.root.commands ps) (sym (read h).0) (root_there h)

      runs_read : honest → AllByRecursion (IsRunRead (extents_at is.format is.pages (length is.versions) is.written) view) runs
      runs_read h = subst (λ (y : ExtentsState). AllByRecursion (IsRunRead y view) runs) is.extents (read h).1

      -- what was read, by the rule of the format
      read_by : AreLocatedBy head.extents runs → named_weight (shape head.extents).weigh (entries_of (newest_first runs)) ≤ (shape head.extents).most_weight
          → honest → IsStoreReadBy view is.format is.versions is.records is.pages is.written head.root.version head.root.commands runs
      read_by located named h =
          let by = subst (λ (y : ExtentsState). AreLocatedBy y runs) is.extents located in
          let few = subst (λ (y : ExtentsState). named_weight (shape y).weigh (entries_of (newest_first runs)) ≤ (shape y).most_weight) is.extents named in
          record {
            whole = λ stand. record { sections = is.sections h; root_page = root_page h; runs_read = runs_read h; located = by.whole stand; weight_fits = few; recorded_fit = newest };
            visible = λ gone. record { sections = is.sections h; root_page = root_page h; runs_read = runs_read h; located = by.visible gone; weight_fits = few; recorded_fit = newest };
          }

      pub store_made : (result : Result OpenedStore Refusal)
          → IfOk result (λ found. IsLoaded head.extents head.graph head.root.version head.root.commands runs found.store)
          → IfOk result (λ found. found.commands ≡ head.root.commands)
          → IfOk result (λ found. HasCount (λ id. live_at (entries_of (newest_first runs)) id ≢ []) found.live)
          → OnOk result (AreLocatedBy head.extents runs) → OnOk result (named_weight (shape head.extents).weigh (entries_of (newest_first runs)) ≤ (shape head.extents).most_weight)
          → IfOk result (λ found. (format : Format) × (versions : List ℕ) × (records : List ℕ) × (pages : ℕ) × (written : List (ℕ × ℕ)) × (count ≡ device_pages format (length written) pages (length versions))
          × IsStoreMade honest view format versions records pages written found.commands found.live found.store)
      store_made (Ok found) made same counted located named =
          let loaded = subst (λ (y : ExtentsState). IsLoaded y head.graph head.root.version head.root.commands runs found.store) is.extents made in (
            is.format,
            is.versions,
            is.records,
            is.pages,
            is.written,
            is.sized,
            subst (λ (n : ℕ). IsStoreMade honest view is.format is.versions is.records is.pages is.written n found.live found.store) (sym same) (record {
              root = head.root.version;
              runs = runs;
              extents = loaded.extents;
              opened = loaded.opened;
              made = loaded.made is.versions refl is.graph;
              counted = counted;
              read = read_by located named;
            }),
          )
      store_made (Err r) made same counted located named = tt

      -- why none is made
      pub index_damaged : honest → (result : Result OpenedStore Refusal)
          → IfErr result (λ r. (r ≡ OutOfMemory) ⊎ ((r ≡ NotAStore) × ((¬ AreLocatedBy head.extents runs) ⊎ ((shape head.extents).most_weight < named_weight (shape head.extents).weigh (entries_of (newest_first runs))))))
          → IfErr result (λ r. IsNoAnswer r ⊎ IsWhyNotOpened count view r)
      index_damaged h (Ok found) why = tt
      index_damaged h (Err r) why = ⊎_elim
          (λ (m : r ≡ OutOfMemory). inl (inr m))
          (λ (w : (r ≡ NotAStore) × ((¬ AreLocatedBy head.extents runs) ⊎ ((shape head.extents).most_weight < named_weight (shape head.extents).weigh (entries_of (newest_first runs))))).
          inr (inr (inr (inr (inr (inr (inr (inr (inr (inr (record {
            format = is.format;
            versions = is.versions;
            records = is.records;
            pages = is.pages;
            written = is.written;
            runs = runs;
            root = record { extents = there h; version = head.root.version; commands = head.root.commands; root = root_page h };
            recorded_fit = newest;
            runs_read = runs_read h;
            why = subst (λ (y : ExtentsState). (¬ AreLocatedBy y runs) ⊎ ((shape y).most_weight < named_weight (shape y).weigh (entries_of (newest_first runs)))) is.extents w.1;
            refusal = w.0;
          })))))))))))
          why

-- if no head is read, no store is
pub not_opened : (count : ℕ) (view : ℕ → List ℕ) (r : Refusal) → IsNoAnswer r ⊎ IsWhyNoHead count view r → IsNoAnswer r ⊎ IsWhyNotOpened count view r
not_opened count view r (inl none) = inl none
not_opened count view r (inr (inl why)) = inr (inr (inl why))
not_opened count view r (inr (inr (inl why))) = inr (inr (inr (inl why)))
not_opened count view r (inr (inr (inr (inl why)))) = inr (inr (inr (inr (inl why))))
not_opened count view r (inr (inr (inr (inr (inl why))))) = inr (inr (inr (inr (inr (inl why)))))
not_opened count view r (inr (inr (inr (inr (inr (inl why)))))) = inr (inr (inr (inr (inr (inr (inl why))))))
not_opened count view r (inr (inr (inr (inr (inr (inr why)))))) = inr (inr (inr (inr (inr (inr (inr (inl why)))))))

-- where runs aren't read no store is, for the same cause
pub caused_still : {T U : Type 0} (before now : ℕ) (read : Result U Refusal) (r : Refusal) → read ≡ Err r → IsCaused before now read → IsCaused {T = T} before now (Err r)
caused_still before now read r is caused = record { later = caused.later; failed = λ e. let device : r ≡ DeviceFault = cc in caused.failed (is ∙ ap Err device) }

-- ---- what was read later was there before

module _ (old mid : DiskState) (before now : Type 0) (later : before → now) (same : before → seen mid ≡ seen old) where
  made_before : (format : Format) (versions records : List ℕ) (pages : ℕ) (written : List (ℕ × ℕ)) (result : Result OpenedStore Refusal)
      → IfOk result (λ found. IsStoreMade now (page (seen mid)) format versions records pages written found.commands found.live found.store)
      → IfOk result (λ found. IsStoreMade before (page (seen old)) format versions records pages written found.commands found.live found.store)
  made_before format versions records pages written (Ok found) made = record {
    root = made.root;
    runs = made.runs;
    extents = made.extents;
    opened = made.opened;
    made = made.made;
    counted = made.counted;
    read = λ h. subst (λ (i : Image). IsStoreReadBy (page i) format versions records pages written made.root found.commands made.runs) (same h) (made.read (later h));
  }
  made_before format versions records pages written (Err r) made = tt

  pub some_made : (count after : ℕ) (result : Result OpenedStore Refusal) → after ≡ count
      → IfOk result (λ found. (format : Format) × (versions : List ℕ) × (records : List ℕ) × (pages : ℕ) × (written : List (ℕ × ℕ)) × (after ≡ device_pages format (length written) pages (length versions)) × IsStoreMade now (page (seen mid)) format versions records pages written found.commands found.live found.store)
      → IfOk result (λ found. (format : Format) × (versions : List ℕ) × (records : List ℕ) × (pages : ℕ) × (written : List (ℕ × ℕ)) × (count ≡ device_pages format (length written) pages (length versions)) × IsStoreMade before (page (seen old)) format versions records pages written found.commands found.live found.store)
  some_made count after (Ok found) size made = (made.0, made.1, made.2, made.3, made.4, sym size ∙ made.5, made_before made.0 made.1 made.2 made.3 made.4 (Ok found) made.6)
  some_made count after (Err r) size made = tt

-- ---- a crash

module _ {D : Type 0} (state : D → DiskState) (moment : D → ℕ) (left_since : D → ℕ → Image → Type 0) where
  -- a flush and then reads: a crash leaves what it might have left before
  pub flush_and_reads : {T E : Type 0} (flush : Result T E) (old mid new : D) → ((c : Image) → left_since old (moment old) c → MayLeave (state old) c)
      → Elapses (moment old) (moment mid) (left_since old) (left_since mid) (state mid) → OnOk flush (state mid ≡ flushed (state old)) → OnErr flush (state mid ≡ state old)
      → Elapses (moment mid) (moment new) (left_since mid) (left_since new) (state new) → state new ≡ state mid
      → LeavesOnly moment left_since old new (MayLeave (state old))
  flush_and_reads flush old mid new only_now time ok err more same =
      (stays state moment left_since old mid new (MayLeave (state old))
      (flushes_or_not state moment left_since flush old old mid (MayLeave (state old)) (started state moment left_since old (MayLeave (state old)) (λ c left. left) only_now) time ok err)
      more same).any_moment
