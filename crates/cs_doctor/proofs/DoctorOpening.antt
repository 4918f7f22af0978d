-- What a store that was opened for a diagnosis was found to be, and what is left of its disk.
use Rattle.std.proofs.Common.{◌≡◌, ◌≢◌, ◌∙◌, ◌⊎◌, ◌↔◌, ◌≤◌, ◌<◌, ◌+◌, ℕ, inl, inr, ⊎_elim, List, [], ◌∷◌, ◌++◌, None, get_or, length, take, refl, sym, ap, subst, arith}
use Rattle.std.specs.Prelude.{IfOk, MatchOption, OnOk, MatchResult, Option, Some, Result, Ok, Err}
use Rattle.cs_chunk.specs.Newest.{AreNewest}
use Rattle.cs_chunk.specs.Reads.{IsNoAnswer}
use Rattle.cs_core.specs.Openings.{IfStoreOn, IsOpened, IsOpenedAs}
use Rattle.cs_core.specs.Stored.{Stored}
use Rattle.cs_deps.specs.State.{NoneOn}
use Rattle.cs_disk.specs.declared.disk.PageDisk.{Ghosts as PageDisk}
use Rattle.cs_disk.specs.Disk.{Image, Rises, State, flushed, page, seen}
use Rattle.cs_disk.specs.Reads.{OnlyReads}
use Rattle.cs_extent.specs.State.{State as ExtentsState}
use Rattle.cs_frame.specs.declared.locators.Locator.{Locator}
use Rattle.cs_index.specs.declared.stored_runs.StoredRun.{StoredRun}
use Rattle.cs_inspect.specs.Scrubs.{IsScrubbed}
use Rattle.cs_inspect.specs.declared.scrubs.Scrubbed.{Scrubbed}
use Rattle.cs_reader.specs.Heads.{IsHeadRead, IsWhyNoHead}
use Rattle.cs_reader.specs.ImageReads.{IsRunRead}
use Rattle.cs_reader.specs.Openings.{IsWhyNotOpened, IsWhyNotRead}
use Rattle.cs_reader.specs.declared.heads.Head.{Head}
use Rattle.cs_reader.proofs.HeadReads.{still_head}
use Rattle.cs_reader.proofs.Loading.{fresh_view}
use Rattle.cs_refusal.specs.declared.refusals.Refusal.{Refusal}
use Rattle.cs_refusal.specs.declared.refusals.Refusal.TheVariants.{DeviceFault, NotAStore, OutOfMemory}
use Rattle.cs_salvage.proofs.Zips.{zip_all}
use Rattle.law_machine.specs.Device.{Page, Shape}
use Rattle.law_machine.specs.Element.{Map}
use Rattle.cs_doctor.specs.DoctorStores.{AreRunsFound, IsHeadFound, IsKept, IsOfHead, IsOpeningOn, IsOpeningShown, IsRunFound, IsStateKept, IsUnwritten, OpensAs}
use Rattle.cs_doctor.specs.declared.diagnoses.HeadFound.{HeadFound}
use Rattle.cs_doctor.specs.declared.diagnoses.Rest.{Rest}
use Rattle.cs_doctor.specs.declared.diagnoses.RootFound.{RootFound}
use Rattle.cs_doctor.specs.declared.diagnoses.RunFound.{RunFound}
use Rattle.cs_doctor.specs.declared.diagnoses.StoreFound.{StoreFound}
use Rattle.cs_mount.specs.Hidden.{state_without, without_hidden}
use Rattle.cs_mount.specs.Identities.{AreOfTwo, IsOfOne}
use Rattle.cs_mount.specs.Unreadable.{AreOfStore}
use Rattle.cs_mount.proofs.Hiding.{seen_chosen}
use Rattle.cs_doctor.proofs.Doctoring.{Widens, rises_within, told_more}
use Rattle.cs_doctor.specs.declared.diagnoses.Opening.{Opening}
use Rattle.cs_doctor.specs.declared.diagnoses.Opening.TheVariants.{Opened, Refused}

-- ---- runs

read_around : (x : ExtentsState) (view : ℕ → List ℕ) (a b d e : ℕ) (place : Locator) (entries : Result ℕ Refusal) → a ≤ b → d ≤ e
    → MatchResult entries (λ n. (run : StoredRun) × IsRunRead x view run × (run.place ≡ place) × (n ≡ length run.entries.items)) (λ r. ((r ≡ DeviceFault) × Rises b d) ⊎ IsWhyNotRead x view place r)
    → MatchResult entries (λ n. (run : StoredRun) × IsRunRead x view run × (run.place ≡ place) × (n ≡ length run.entries.items)) (λ r. ((r ≡ DeviceFault) × Rises a e) ⊎ IsWhyNotRead x view place r)
read_around x view a b d e place (Ok n) le le' h = h
read_around x view a b d e place (Err r) le le' h = ⊎_elim (λ (failed : (r ≡ DeviceFault) × Rises b d). inl (failed.0, rises_within a b d e le le' failed.1)) (λ (why : IsWhyNotRead x view place r). inr why) h

pub run_around : (x : ExtentsState) (view : ℕ → List ℕ) → Widens (IsRunFound x view)
run_around x view a b d e place found le le' is = record { at = is.at; read = read_around x view a b d e place found.entries le le' is.read }

-- a loop's step over runs, and its end
module _ (x : ExtentsState) (before mid after : ℕ) (here first : Image) (places : List Locator) (k : ℕ) (founds next : List RunFound) where
  pub runs_step : (a : Locator) (b : RunFound) → k < length places → a ≡ get_or places k a → before ≤ mid → mid ≤ after → here ≡ first → AreRunsFound x (page first) before mid (take k places) founds
      → IsRunFound x (page here) mid after a b → next ≡ founds ++ b ∷ [] → AreRunsFound x (page first) before after (take (k + 1) places) next
  runs_step a b lt at le le' same was is new =
      told_more (IsRunFound x (page first)) (run_around x (page first)) before mid after k places founds next a b lt at le le' was (subst (λ (i : Image). IsRunFound x (page i) mid after a b) same is) new

  pub runs_end : length places ≤ k → AreRunsFound x (page first) before mid (take k places) founds → AreRunsFound x (page first) before mid places founds
  runs_end le was = zip_all (IsRunFound x (page first) before mid) places founds k le was

-- the runs of what was found at one time, with counts around
runs_around : (x : ExtentsState) (view : ℕ → List ℕ) (a b d e : ℕ) (places : List Locator) (found : List RunFound) → a ≤ b → d ≤ e → AreRunsFound x view b d places found → AreRunsFound x view a e places found
runs_around x view a b d e [] [] le le' h = tt
runs_around x view a b d e [] (f ∷ found) le le' h = absurd h
runs_around x view a b d e (p ∷ places) [] le le' h = absurd h
runs_around x view a b d e (p ∷ places) (f ∷ found) le le' h = (run_around x view a b d e p f le le' h.0, runs_around x view a b d e places found le le' h.1)

-- ---- heads

module _ {D : Type 0} (disks : PageDisk D) (first mid : D) (reads : OnlyReads disks first mid) where
  -- what was read of a disk stands on it still
  pub head_there : (head : Head) → IsHeadRead (disks.honest first) (disks.page_count first) (page (seen (disks.state first))) head → IsHeadRead (disks.honest mid) (disks.page_count mid) (page (seen (disks.state mid))) head
  head_there head is = still_head (disks.state mid) (disks.state first) (disks.honest mid) (disks.honest first) (λ h. reads.honesty.1 h) (λ h. sym (ap seen (reads.same (reads.honesty.1 h)))) (disks.page_count mid) (disks.page_count first) (sym reads.pages) head is

-- of an honest disk it was read so
pub head_known : (honest : Type 0) (s : State) (count : ℕ) (head : Head) → honest → IsHeadRead honest count (page (seen s)) head → IsHeadRead (Unit {0}) count (page (seen s)) head
head_known honest s count head h is = still_head s s (Unit {0}) honest (λ u. h) (λ u. refl) count count refl head is

head_widened : (count : ℕ) (view : ℕ → List ℕ) (a b d : ℕ) (runs : List RunFound) (worn : List ℕ) (root : Option RootFound) → a ≤ b
    → MatchOption root (Rises b d ⊎ ((r : Refusal) × IsWhyNoHead count view r)) (IsOfHead count view b d runs worn)
    → MatchOption root (Rises a d ⊎ ((r : Refusal) × IsWhyNoHead count view r)) (IsOfHead count view a d runs worn)
head_widened count view a b d runs worn None le it = ⊎_elim (λ (rise : Rises b d). inl (rises_within a b d d le (omega arith) rise)) (λ (why : (r : Refusal) × IsWhyNoHead count view r). inr why) it
head_widened count view a b d runs worn (Some root) le it = record {
  head = it.head;
  read = it.read;
  root_is = it.root_is;
  runs_are = runs_around it.head.extents view a b d d it.head.root.runs.items runs le (omega arith) it.runs_are;
  worn_are = it.worn_are;
}

-- what was found of a disk's head is so of the disk before it was read
pub head_before : {E : Type 0} (n m : ℕ) (i j : Image) (a b d : ℕ) (result : Result HeadFound E) → m ≡ n → j ≡ i → a ≤ b → IfOk result (IsHeadFound m (page j) b d) → IfOk result (IsHeadFound n (page i) a d)
head_before n m i j a b d (Err e) size same le is = tt
head_before n m i j a b d (Ok found) size same le is =
    head_widened n (page i) a b d found.runs.items found.worn.items found.root le
    (subst (λ (k : ℕ). IsHeadFound k (page i) b d found) size (subst (λ (it : Image). IsHeadFound m (page it) b d found) same is))

-- none was found, for this reason
pub none_found : {E : Type 0} (count : ℕ) (view : ℕ → List ℕ) (a b : ℕ) (r : Refusal) (result : Result HeadFound E) → IsNoAnswer r ⊎ IsWhyNoHead count view r → (r ≡ DeviceFault → Rises a b)
    → OnOk result (r ≢ OutOfMemory) → IfOk result (λ found. found.root ≡ None) → IfOk result (IsHeadFound count view a b)
none_found count view a b r (Err e) why cause other none = tt
none_found count view a b r (Ok found) why cause other none =
    subst (λ (root : Option RootFound). MatchOption root (Rises a b ⊎ ((r : Refusal) × IsWhyNoHead count view r)) (IsOfHead count view a b found.runs.items found.worn.items)) (sym none)
    (⊎_elim (λ (answer : IsNoAnswer r). ⊎_elim (λ (device : r ≡ DeviceFault). inl (cause device)) (λ (memory : r ≡ OutOfMemory). absurd (other memory)) answer) (λ (it : IsWhyNoHead count view r). inr (r, it)) why)

-- ---- a run

pub run_read : (x : ExtentsState) (view : ℕ → List ℕ) (a b : ℕ) (place : Locator) (run : StoredRun) (n : ℕ) → IsRunRead x view run → run.place ≡ place → n ≡ length run.entries.items → IsRunFound x view a b place (record { place = place; entries = Ok n })
run_read x view a b place run n read at count = record { at = refl; read = (run, read, at, count) }

pub run_unread : {E : Type 0} (x : ExtentsState) (view : ℕ → List ℕ) (a b : ℕ) (place : Locator) (r : Refusal) (result : Result RunFound E) → IsNoAnswer r ⊎ IsWhyNotRead x view place r → (r ≡ DeviceFault → Rises a b)
    → OnOk result (r ≢ OutOfMemory) → IfOk result (λ found. found ≡ record { place = place; entries = Err r }) → IfOk result (IsRunFound x view a b place)
run_unread x view a b place r (Err e) why cause other is = tt
run_unread x view a b place r (Ok found) why cause other is =
    subst (IsRunFound x view a b place) (sym is) (record {
      at = refl;
      read = ⊎_elim (λ (answer : IsNoAnswer r). ⊎_elim (λ (device : r ≡ DeviceFault). inl (device, cause device)) (λ (memory : r ≡ OutOfMemory). absurd (other memory)) answer) (λ (it : IsWhyNotRead x view place r). inr it) why;
    })

-- ---- a store that was opened

module _ (honest : Type 0) (opened : Image) (found : ℕ × ℕ) (store : Stored) (is : IsOpened honest opened found store) where
  -- nothing waits in it
  none_waits : (p : ℕ) → NoneOn store.graph p
  none_waits p = subst (λ (s : Stored). NoneOn s.graph p) (sym is.made) (λ n w waits kept. let clash : None ≡ Some w = kept in absurd (cc clash))

  known : honest → IsOpened (Unit {0}) opened found store
  known h = record {
    format = is.format;
    versions = is.versions;
    records = is.records;
    pages = is.pages;
    written = is.written;
    root = is.root;
    runs = is.runs;
    extents = is.extents;
    opened = is.opened;
    made = is.made;
    read = λ u. is.read h;
  }

  -- so what a scrub found of it is so of what the disk holds
  pub scrubbed_on : {D E : Type 0} (count : ℕ) (image : Image) (t : State) (result : Result (Opening × D) E) → honest → opened ≡ image → seen t ≡ image
      → IfOk result (λ it. (scrubbed : Scrubbed) × (it.0 ≡ Opened found.1 scrubbed) × ((view : ℕ → List ℕ) → AreNewest store.graph (seen t) view → IsScrubbed store.extents view store.index scrubbed))
      → IfOk result (λ it. IsOpeningOn count image it.0)
  scrubbed_on count image t (Err e) h same there told = tt
  scrubbed_on count image t (Ok it) h same there told =
      let newest : AreNewest store.graph (seen t) (page image) = subst (λ (i : Image). AreNewest store.graph i (page image)) (sym there) (fresh_view store.graph image none_waits) in
      subst (IsOpeningOn count image) (sym told.1)
      (store, found.0, subst (λ (i : Image). IsOpened (Unit {0}) i (found.0, found.1) store) same (known h), told.2 (page image) newest)

-- it isn't opened, for this reason
pub refused_so : {D E : Type 0} (count : ℕ) (image : Image) (r : Refusal) (result : Result (Opening × D) E) → IsNoAnswer r ⊎ IsWhyNotOpened count (page image) r → OnOk result (r ≢ OutOfMemory)
    → IfOk result (λ it. (rest : Option Rest) × (it.0 ≡ Refused r rest)) → IfOk result (λ it. IsOpeningOn count image it.0)
refused_so count image r (Err e) why other told = tt
refused_so count image r (Ok it) why other told =
    subst (IsOpeningOn count image) (sym told.1)
    (⊎_elim (λ (answer : IsNoAnswer r). ⊎_elim (λ (device : r ≡ DeviceFault). inl device) (λ (memory : r ≡ OutOfMemory). absurd (other memory)) answer) (λ (it : IsWhyNotOpened count (page image) r). inr it) why)

-- it has as many shards as the map
opens_with : {D E : Type 0} (S : Shape) (n : ℕ) (m : Map) (store : Stored) (found : ℕ × ℕ) (result : Result (Opening × D) E) → IfOk result (λ it. (scrubbed : Scrubbed) × (it.0 ≡ Opened found.1 scrubbed)) → IsOpenedAs S n m store found → IfOk result (λ it. OpensAs m it.0)
opens_with S n m store found (Err e) told is = tt
opens_with S n m store found (Ok it) told is = subst (OpensAs m) (sym told.1) is.2

pub opens_so : {D E : Type 0} (count : ℕ) (view : ℕ → Page) (store : Stored) (found : ℕ × ℕ) (result : Result (Opening × D) E) → IfOk result (λ it. (scrubbed : Scrubbed) × (it.0 ≡ Opened found.1 scrubbed))
    → IfStoreOn count view (λ S n m. IsOpenedAs S n m store found) → IfStoreOn count view (λ S n m. IfOk result (λ it. OpensAs m it.0))
opens_so count view store found result told on format extents pages sections geometry sized n m recovers = opens_with _ n m store found result told (on format extents pages sections geometry sized n m recovers)

no_store : {D E : Type 0} (m : Map) (r : Refusal) (result : Result (Opening × D) E) → OnOk result (r ≢ OutOfMemory) → IfOk result (λ it. (rest : Option Rest) × (it.0 ≡ Refused r rest)) → IsNoAnswer r → IfOk result (λ it. OpensAs m it.0)
no_store m r (Err e) other told answer = tt
no_store m r (Ok it) other told answer = subst (OpensAs m) (sym told.1) (⊎_elim (λ (device : r ≡ DeviceFault). device) (λ (memory : r ≡ OutOfMemory). absurd (other memory)) answer)

pub opens_not : {D E : Type 0} (count : ℕ) (view : ℕ → Page) (r : Refusal) (result : Result (Opening × D) E) → OnOk result (r ≢ OutOfMemory) → IfOk result (λ it. (rest : Option Rest) × (it.0 ≡ Refused r rest))
    → IfStoreOn count view (λ S n m. IsNoAnswer r) → IfStoreOn count view (λ S n m. IfOk result (λ it. OpensAs m it.0))
opens_not count view r result other told on format extents pages sections geometry sized n m recovers = no_store m r result other told (on format extents pages sections geometry sized n m recovers)

-- ---- what is left of its disk

kept_twice : (a b c : State) → IsStateKept a b → IsStateKept b c → IsStateKept a c
kept_twice a b c (inl first) (inl more) = inl (more ∙ first)
kept_twice a b c (inl first) (inr more) = inr (more ∙ ap flushed first)
kept_twice a b c (inr first) (inl more) = inr (more ∙ first)
kept_twice a b c (inr first) (inr more) = inr (more ∙ ap flushed first)

pub state_kept_twice : (a b c : State) → IsStateKept a b → IsStateKept b c → IsStateKept a c
state_kept_twice a b c first more = kept_twice a b c first more

module _ {D : Type 0} (disks : PageDisk D) where
  pub kept_of_reads : (a b : D) → OnlyReads disks a b → IsKept disks a b
  kept_of_reads a b reads = record { honesty = reads.honesty; pages = reads.pages; state = λ h. inl (reads.same h) }

  pub unwritten_of_reads : (a b : D) → OnlyReads disks a b → IsUnwritten disks a b
  unwritten_of_reads a b reads = record { kept = kept_of_reads a b reads; device = λ h. inl (reads.device h) }

  pub unwritten_on : (a b c : D) → IsUnwritten disks a b → IsUnwritten disks b c → IsUnwritten disks a c
  unwritten_on a b c first more = record {
    kept = record {
      honesty = ((λ h. more.kept.honesty.0 (first.kept.honesty.0 h)), (λ h. first.kept.honesty.1 (more.kept.honesty.1 h)));
      pages = more.kept.pages ∙ first.kept.pages;
      state = λ h. kept_twice _ _ _ (first.kept.state h) (more.kept.state (first.kept.honesty.0 h));
    };
    device = λ h. kept_twice _ _ _ (first.device h) (more.device (first.kept.honesty.0 h));
  }

  -- a flush, and nothing else
  pub unwritten_if_flushed : (a b : D) → (disks.honest a ↔ disks.honest b) → disks.page_count b ≡ disks.page_count a → (disks.honest a → disks.state b ≡ flushed (disks.state a)) → (disks.honest a → disks.device b ≡ flushed (disks.device a)) → IsUnwritten disks a b
  unwritten_if_flushed a b honesty pages state device = record { kept = record { honesty = honesty; pages = pages; state = λ h. inr (state h) }; device = λ h. inr (device h) }

  -- what reads leave of the disk in a result
  pub unwritten_then_read : {T E : Type 0} (a b : D) (result : Result (T × D) E) → IsUnwritten disks a b → IfOk result (λ it. OnlyReads disks b it.1) → IfOk result (λ it. IsUnwritten disks a it.1)
  unwritten_then_read a b (Err e) first more = tt
  unwritten_then_read a b (Ok it) first more = unwritten_on a b it.1 first (unwritten_of_reads b it.1 more)

-- ---- what is found of a disk by another one, which shows it

pub opening_moved : (n m : ℕ) (i j : Image) (o : Opening) → m ≡ n → j ≡ i → IsOpeningOn m j o → IsOpeningOn n i o
opening_moved n m i j o size same is = subst (λ (k : ℕ). IsOpeningOn k i o) size (subst (λ (it : Image). IsOpeningOn m it o) same is)

pub shown_moved : (n m : ℕ) (i j : Image) (o : Opening) → m ≡ n → j ≡ i → IsOpeningShown m j o → IsOpeningShown n i o
shown_moved n m i j o size same is = subst (λ (k : ℕ). IsOpeningShown k i o) size (subst (λ (it : Image). IsOpeningShown m it o) same is)

pub store_moved : (n m : ℕ) (i j : Image) (P : Shape → ℕ → Map → Type 0) → m ≡ n → j ≡ i → IfStoreOn m (page j) P → IfStoreOn n (page i) P
store_moved n m i j P size same is = subst (λ (k : ℕ). IfStoreOn k (page i) P) size (subst (λ (it : Image). IfStoreOn m (page it) P) same is)

pub head_moved : (n m : ℕ) (i j : Image) (a b : ℕ) (found : HeadFound) → m ≡ n → j ≡ i → IsHeadFound m (page j) a b found → IsHeadFound n (page i) a b found
head_moved n m i j a b found size same is = subst (λ (k : ℕ). IsHeadFound k (page i) a b found) size (subst (λ (it : Image). IsHeadFound m (page it) a b found) same is)

-- ---- a store that is refused before it is opened

-- what is found then: no root, this refusal, and the disk
abbrev pub IsRefusedWith : {D E : Type 0} → Refusal → D → Result (StoreFound × D) E → Type 0
IsRefusedWith r disk result = IfOk result (λ it. (it.0.head.root ≡ None) × (it.0.opening ≡ Refused r None) × (it.1 ≡ disk))

rises_to_one : Rises 0 1
rises_to_one = omega arith

pub refused_head : {D E : Type 0} (count : ℕ) (view : ℕ → List ℕ) (r : Refusal) (disk : D) (result : Result (StoreFound × D) E) → IsRefusedWith r disk result → IfOk result (λ it. (before : ℕ) × (after : ℕ) × IsHeadFound count view before after it.0.head)
refused_head count view r disk (Err e) is = tt
refused_head count view r disk (Ok it) is = (0, 1, subst (λ (root : Option RootFound). MatchOption root (Rises 0 1 ⊎ ((r : Refusal) × IsWhyNoHead count view r)) (IsOfHead count view 0 1 it.0.head.runs.items it.0.head.worn.items)) (sym is.0) (inl rises_to_one))

pub refused_kept : {D E : Type 0} (disks : PageDisk D) (r : Refusal) (a b : D) (result : Result (StoreFound × D) E) → IsKept disks a b → IsRefusedWith r b result → IfOk result (λ it. IsKept disks a it.1)
refused_kept disks r a b (Err e) kept is = tt
refused_kept disks r a b (Ok it) kept is = subst (IsKept disks a) (sym is.2) kept

pub refused_shown : {D E : Type 0} (count : ℕ) (image : Image) (r : Refusal) (disk : D) (result : Result (StoreFound × D) E) → IsNoAnswer r ⊎ ((r ≡ NotAStore) × AreOfTwo count image) → OnOk result (r ≢ OutOfMemory)
    → IsRefusedWith r disk result → IfOk result (λ it. IsOpeningShown count image it.0.opening)
refused_shown count image r disk (Err e) why other is = tt
refused_shown count image r disk (Ok it) why other is =
    subst (IsOpeningShown count image) (sym is.1)
    (⊎_elim (λ (answer : IsNoAnswer r). ⊎_elim (λ (device : r ≡ DeviceFault). inl (inl device)) (λ (memory : r ≡ OutOfMemory). absurd (other memory)) answer) (λ (two : (r ≡ NotAStore) × AreOfTwo count image). inr (two.1, two.0)) why)

-- where it holds pages of one store alone
opens_nothing : {D E : Type 0} (count : ℕ) (image : Image) (m : Map) (r : Refusal) (disk : D) (result : Result (StoreFound × D) E) → IsOfOne count image → IsNoAnswer r ⊎ ((r ≡ NotAStore) × AreOfTwo count image) → OnOk result (r ≢ OutOfMemory)
    → IsRefusedWith r disk result → IfOk result (λ it. OpensAs m it.0.opening)
opens_nothing count image m r disk (Err e) one why other is = tt
opens_nothing count image m r disk (Ok it) one why other is =
    subst (OpensAs m) (sym is.1)
    (⊎_elim (λ (answer : IsNoAnswer r). ⊎_elim (λ (device : r ≡ DeviceFault). device) (λ (memory : r ≡ OutOfMemory). absurd (other memory)) answer) (λ (two : (r ≡ NotAStore) × AreOfTwo count image). absurd (two.1 one)) why)

pub refused_opens : {D E : Type 0} (count : ℕ) (image : Image) (view : ℕ → Page) (r : Refusal) (disk : D) (result : Result (StoreFound × D) E) → IsOfOne count image → IsNoAnswer r ⊎ ((r ≡ NotAStore) × AreOfTwo count image) → OnOk result (r ≢ OutOfMemory)
    → IsRefusedWith r disk result → IfStoreOn count view (λ S n m. IfOk result (λ it. OpensAs m it.0.opening))
refused_opens count image view r disk result one why other is format extents pages sections geometry sized n m recovers = opens_nothing count image m r disk result one why other is

-- ---- a disk of which pages were passed over

-- what shows where some pages are hidden is what the disk holds without them
pub shown_without : (hidden passed : List ℕ) (shows s : State) → shows ≡ state_without hidden s → hidden ≡ passed → seen shows ≡ without_hidden passed (seen s)
shown_without hidden passed shows s is those = ap seen is ∙ seen_chosen hidden passed s s those refl

pub of_store_moved : (n m : ℕ) (passed : List ℕ) (i j : Image) → m ≡ n → j ≡ i → AreOfStore m passed passed j → AreOfStore n passed passed i
of_store_moved n m passed i j size same are = subst (λ (k : ℕ). AreOfStore k passed passed i) size (subst (λ (it : Image). AreOfStore m passed passed it) same are)

-- a device of fewer pages than any store
pub small_shown : (count : ℕ) (image : Image) (o : Opening) → count < 10 → o ≡ Refused NotAStore None → IsOpeningShown count image o
small_shown count image o lt is = subst (IsOpeningShown count image) (sym is) (inl (inr (inl (record { small = lt; refusal = refl }))))

-- one that refuses the reads that an opening needs
pub device_shown : (count : ℕ) (image : Image) (o : Opening) → o ≡ Refused DeviceFault None → IsOpeningShown count image o
device_shown count image o is = subst (IsOpeningShown count image) (sym is) (inl (inl refl))

-- ---- what a disk in pairs leaves of the one below

module _ {D : Type 0} (disks : PageDisk D) (a b c d : D) (there : disks.state b ≡ flushed (disks.state a)) where
  pub below_kept : disks.honest a → IsStateKept (disks.state b) (disks.state c) → d ≡ c → IsStateKept (disks.state a) (disks.state d)
  below_kept h more same = subst (λ (it : D). IsStateKept (disks.state a) (disks.state it)) (sym same) (kept_twice (disks.state a) (disks.state b) (disks.state c) (inr there) more)
