-- Reading header after header.
use Rattle.std.proofs.Common.{◌≡◌, ◌≢◌, ◌∙◌, ◌⊎◌, inl, inr, ⊎_elim, ◌≤◌, ◌<◌, ◌+◌, ◌-◌, ◌^◌, ℕ, zero, suc, add-one, min, List, [], ◌∷◌, ◌++◌, Option, None, Some, refl, sym, ap, subst, arith, length, map, take, drop, replicate, get_or}
use Rattle.std.proofs.Math.Seq.{take-append_seam}
use Rattle.std.proofs.lemmas.Option.{slice_get-get_or}
use Rattle.std.specs.Prelude.{slice_get}
use Rattle.std.specs.List.{AllByRecursion}
use Rattle.cs_chunk.specs.Lengths.{header_fault_in, length_at}
use Rattle.cs_chunk.specs.Newest.{AreNewest}
use Rattle.cs_chunk.specs.Reads.{IsNoAnswer, IsOfFault}
use Rattle.cs_core.specs.Views.{View}
use Rattle.cs_refusal.specs.declared.refusals.Refusal.{Refusal}
use Rattle.cs_refusal.specs.declared.refusals.Refusal.TheVariants.{DeviceFault, OutOfMemory}
use Rattle.cs_deps.specs.State.{State as Graph}
use Rattle.cs_disk.specs.Reads.{OnlyReads}
use Rattle.cs_disk.specs.declared.disk.PageDisk.{Ghosts as PageDisk}
use Rattle.cs_disk.specs.Disk.{Rises, State as DiskState, seen}
use Rattle.cs_extent.specs.State.{State as Extents, shape}
use Rattle.cs_frame.specs.declared.faults.FormatFault.{FormatFault}
use Rattle.cs_frame.specs.declared.frames.FrameKind.TheVariants.{Chunk as ChunkKind}
use Rattle.cs_frame.specs.declared.locators.Locator.{Locator}
use Rattle.cs_frame.specs.Frames.{page_count}
use Rattle.cs_index.specs.declared.live.LiveChunk.{LiveChunk}
use Rattle.law_machine.specs.Device.{Shape}
use Rattle.cs_inspect.specs.Chunks.{BeginsInside, chunk_of}
use Rattle.cs_inspect.specs.Uses.{AreRead, AreReadAs, AreSums, AreTallied, Head, head_of, heads_of, IsReadAs, lost_in, lost_one, pages_said, unless_fault}
use Rattle.cs_inspect.specs.Failures.{RisesBy}
use Rattle.cs_inspect.proofs.Risen.{risen_none, risen_one, risen_so, risen_still}
use Rattle.cs_inspect.proofs.Tallied.{lost_at_most, lost_more, lost_none, read_more}

-- ---- failures

pub rises_later : (a b c : ℕ) → Rises a b → b ≤ c → Rises a c
rises_later a b c rise le = omega (arith, rise, le)

pub rises_since : (a b c : ℕ) → a ≤ b → Rises b c → Rises a c
rises_since a b c le rise = omega (arith, rise, le)

-- ---- a core whose disk was read

module _ {D : Type 0} (first mid : View D) (same : mid ≡ record first { disk = mid.disk }) where
  pub extents_there : mid.store.extents ≡ first.store.extents
  extents_there = ap (λ (v : View D). v.store.extents) same

  pub shape_there : shape mid.store.extents ≡ shape first.store.extents
  shape_there = ap shape extents_there

  pub same_on : (last : View D) → last ≡ record mid { disk = last.disk } → last ≡ record first { disk = last.disk }
  same_on last more = more ∙ ap (λ (v : View D). record v { disk = last.disk }) same

  module _ (disks : PageDisk D) (reads : OnlyReads disks first.disk mid.disk) where
    -- what a page reads as is the same
    pub newest_there : disks.honest first.disk → (view : ℕ → List ℕ) → AreNewest first.store.graph (seen (disks.state first.disk)) view → AreNewest mid.store.graph (seen (disks.state mid.disk)) view
    newest_there h view are =
        subst (λ (g : Graph). AreNewest g (seen (disks.state mid.disk)) view) (sym (ap (λ (v : View D). v.store.graph) same))
        (subst (λ (s : DiskState). AreNewest first.store.graph (seen s) view) (sym (reads.same h)) are)

-- ---- counts

-- all counts were written back, and there are as many
pub all_written : (items new : List ℕ) (len : ℕ) → len ≡ length items → length new ≡ length items → take len (new ++ drop (length new) items) ≡ new
all_written items new len is same = ap (λ (n : ℕ). take n (new ++ drop (length new) items)) (is ∙ sym same) ∙ take-append_seam new (drop (length new) items)

pub tallied_so : (heads : List Head) (live unreadable live' unreadable' : List ℕ) → live' ≡ live → unreadable' ≡ unreadable → AreTallied heads live unreadable → AreTallied heads live' unreadable'
tallied_so heads live unreadable live' unreadable' is is' tallied =
    subst (λ (l : List ℕ). AreTallied heads l unreadable') (sym is) (subst (λ (u : List ℕ). AreTallied heads live u) (sym is') tallied)

-- ---- heads

pub no_sums : (count : Option ℕ → ℕ) (n : ℕ) → AreSums count [] (replicate n 0)
no_sums count n e lt = zeros n e ∙ least
  where
    zeros : (n e : ℕ) → ◌≡◌ {A = ℕ} (get_or (replicate n 0) e 0) 0
    zeros zero e = refl
    zeros (suc n) zero = refl
    zeros (suc n) (suc e) = zeros n e

    least : ◌≡◌ {A = ℕ} 0 (min 0 (2 ^ 64 - 1))
    least = omega arith

pub heads_more : (x : Extents) (view : ℕ → List ℕ) (cs : List LiveChunk) (k : ℕ) (c : LiveChunk) → slice_get cs k ≡ Some c
    → heads_of x view (map chunk_of (take (k + 1) cs)) ≡ heads_of x view (map chunk_of (take k cs)) ++ head_of x view (chunk_of c) ∷ []
heads_more x view cs k c at = ap (λ n. heads_of x view (map chunk_of (take n cs))) (add-one k) ∙ go cs k at
  where
    go : (cs : List LiveChunk) (k : ℕ) → slice_get cs k ≡ Some c → heads_of x view (map chunk_of (take (suc k) cs)) ≡ heads_of x view (map chunk_of (take k cs)) ++ head_of x view (chunk_of c) ∷ []
    go [] k at = absurd (cc at)
    go (d ∷ cs) zero at = ap (λ (o : Option LiveChunk). first_of o) at
      where
        first_of : Option LiveChunk → List Head
        first_of None = []
        first_of (Some y) = head_of x view (chunk_of y) ∷ []
    go (d ∷ cs) (suc k) at = ap (λ (hs : List Head). head_of x view (chunk_of d) ∷ hs) (go cs k at)

pub inside_at : (S : Shape) (cs : List LiveChunk) (k : ℕ) (c : LiveChunk) → slice_get cs k ≡ Some c → AllByRecursion (BeginsInside S) (map chunk_of cs) → BeginsInside S (chunk_of c)
inside_at S [] k c at all = absurd (cc at)
inside_at S (d ∷ cs) zero c at all = subst (λ (o : Option LiveChunk). inside_of o) at all.0
  where
    inside_of : Option LiveChunk → Type 0
    inside_of None = Unit {0}
    inside_of (Some x) = BeginsInside S (chunk_of x)
inside_at S (d ∷ cs) (suc k) c at all = inside_at S cs k c at all.1

pub place_inside : (S : Shape) (cs : List LiveChunk) (k : ℕ) (d : LiveChunk) → k < length cs → AllByRecursion (BeginsInside S) (map chunk_of cs) → BeginsInside S (chunk_of (get_or cs k d))
place_inside S cs k d lt all = inside_at S cs k (get_or cs k d) (slice_get-get_or cs k d lt) all

-- one header more was read, from the first count of failures a, over b, to d
module _ (heads read : List Head) (e : ℕ) (said pages : Option ℕ) (a b d : ℕ) (was : AreRead a b heads read) (here : (pages ≡ said) ⊎ ((pages ≡ None) × Rises b d)) (le : a ≤ b) (le' : b ≤ d) where
  each_more : AreReadAs (Rises a d) (heads ++ (e, said) ∷ []) (read ++ (e, pages) ∷ [])
  each_more = read_more (Rises a b) (Rises a d) heads read (e, said) (e, pages) (λ rise. rises_later a b d rise le') was.each
      (⊎_elim
      (λ (is : pages ≡ said). inl (ap (λ (p : Option ℕ). (e, p)) is))
      (λ (lost : (pages ≡ None) × Rises b d). inr (ap (λ (p : Option ℕ). (e, p)) lost.0, rises_since a b d le lost.1))
      here)

  lost_now : RisesBy (lost_in heads read + lost_one said pages) a d
  lost_now = ⊎_elim
      (λ (is : pages ≡ said). risen_still (lost_in heads read) (lost_one said pages) a b d (lost_none said pages is) le' was.lost)
      (λ (lost : (pages ≡ None) × Rises b d). risen_one (lost_in heads read) (lost_one said pages) a b d (lost_at_most said pages) lost.1 was.lost)
      here

  one_read : AreRead a d (heads ++ (e, said) ∷ []) (read ++ (e, pages) ∷ [])
  one_read = record {
    each = each_more;
    lost = risen_so (lost_in heads read + lost_one said pages) (lost_in (heads ++ (e, said) ∷ []) (read ++ (e, pages) ∷ [])) a d (lost_more (Rises a b) heads read (e, said) (e, pages) was.each) lost_now;
  }

pub heads_step : (x y : Extents) (view : ℕ → List ℕ) (cs : List LiveChunk) (k : ℕ) (c : LiveChunk) (read : List Head) (pages : Option ℕ) (a b d : ℕ) → y ≡ x → slice_get cs k ≡ Some c
    → a ≤ b → b ≤ d
    → AreRead a b (heads_of x view (map chunk_of (take k cs))) read
    → IsReadAs (Rises b d) (pages_said y view c.place) pages
    → AreRead a d (heads_of x view (map chunk_of (take (k + 1) cs))) (read ++ (c.place.extent, pages) ∷ [])
heads_step x y view cs k c read pages a b d same at le le' was here =
    subst (λ (hs : List Head). AreRead a d hs (read ++ (c.place.extent, pages) ∷ [])) (sym (heads_more x view cs k c at))
    (one_read (heads_of x view (map chunk_of (take k cs))) read c.place.extent (pages_said x view c.place) pages a b d was
    (⊎_elim
    (λ (is : pages ≡ pages_said y view c.place).
    inl (is ∙ ap (λ (z : Extents). pages_said z view c.place) same))
    (λ (lost : (pages ≡ None) × Rises b d). inr lost)
    here)
    le le')

-- and none at first
pub none_read : (a : ℕ) → AreRead a a [] []
none_read a = record { each = tt; lost = risen_none 0 a refl }

-- ---- what was read of a header

module _ (x : Extents) (view : ℕ → List ℕ) (l : Locator) where
  abbrev counted : Option ℕ
  counted = pages_said x view l

  pub told_pages : (pages count : ℕ) → pages ≡ page_count count → count ≡ length_at (shape x) view l → header_fault_in x view ChunkKind l ≡ None → Some pages ≡ counted
  told_pages pages count is told none = ap Some (is ∙ ap page_count told) ∙ sym (ap (λ (o : Option FormatFault). unless_fault o (page_count (length_at (shape x) view l))) none)

  pub fault_pages : (pages : Option ℕ) → pages ≡ None → (before later : ℕ) (r : Refusal) → r ≢ OutOfMemory → (r ≡ DeviceFault → Rises before later) → IsNoAnswer r ⊎ IsOfFault (header_fault_in x view ChunkKind l) r
      → (pages ≡ counted) ⊎ ((pages ≡ None) × Rises before later)
  fault_pages pages is before later r not cause (inl (inl device)) = inr (is, cause device)
  fault_pages pages is before later r not cause (inl (inr memory)) = absurd (not memory)
  fault_pages pages is before later r not cause (inr f) = inl (is ∙ sym (ap (λ (o : Option FormatFault). unless_fault o (page_count (length_at (shape x) view l))) f.1))
