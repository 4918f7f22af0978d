-- Sums of live pages, and shards that are within a reserve.
use Rattle.std.proofs.Common.{◌≡◌, ◌≢◌, ◌⊎◌, ◌∙◌, ◌+◌, ◌-◌, ◌^◌, ◌<◌, ◌≤◌, ℕ, List, [], ◌∷◌, ◌++◌, Option, Some, Bool, true, false, arith, ap, inl, inr, length, min, refl, subst, sum, sym, take, take_all, get_or}
use Rattle.std.proofs.lemmas.List.{take_more}
use Rattle.std.specs.Prelude.{◌↔◌, IsTrue, MatchBool}
use Rattle.cs_chunk.specs.Cuts.{IsCut, IsOversized, pages_of}
use Rattle.cs_chunk.specs.declared.cuts.Cut.{Cut}
use Rattle.cs_refusal.specs.declared.refusals.Refusal.{Refusal}
use Rattle.cs_refusal.specs.declared.refusals.Refusal.TheVariants.{Halted, OutOfMemory, Reserved, TooLarge}
use Rattle.cs_disk.proofs.OnlyRead.{reads_none}
use Rattle.cs_disk.specs.declared.disk.PageDisk.{Ghosts as PageDisk}
use Rattle.cs_extent.specs.State.{State as ExtentsState, extents_of, shape}
use Rattle.cs_frame.specs.declared.identifiers.ShardId.{ShardId}
use Rattle.cs_frame.specs.Geometries.{Dimensions}
use Rattle.cs_index.specs.State.{id_number, index_of}
use Rattle.cs_inspect.specs.Uses.{AreCountedAsRead, AreExtents, HoldsOfHeads}
use Rattle.cs_inspect.specs.declared.surveys.ExtentUse.{ExtentUse}
use Rattle.cs_core.specs.declared.events.Event.TheVariants.{Put}
use Rattle.cs_core.specs.Views.{View}
use Rattle.law_machine.specs.Element.{Locator as Place}
use Rattle.law_machine.specs.Index.{live_at}
use Rattle.cs_store.specs.declared.reserves.Reserve.{Reserve}
use Rattle.cs_store.specs.Events.{DeclinesCopy}
use Rattle.cs_store.specs.Reserves.{Compares, IsOverSize, IsReserved, PutsAfterReads, PutsWithin, RefusesPut, most_live, most_live_in, total_live}

-- ---- sums

total_last : (uses : List ExtentUse) (used : ExtentUse) → total_live (uses ++ used ∷ []) ≡ total_live uses + used.live
total_last [] used = omega arith
total_last (x ∷ xs) used = let rest = total_last xs used in omega (arith, rest)

-- the sum over the first extents
abbrev pub IsTotal : List ExtentUse → (count live : ℕ) → Type 0
IsTotal uses count live = live ≡ min (total_live (take count uses)) (2 ^ 64 - 1)

pub total_more : (uses : List ExtentUse) (count live : ℕ) (other : ExtentUse) (new : ℕ) → IsTotal uses count live → count < length uses
    → new ≡ min (live + (get_or uses count other).live) (2 ^ 64 - 1) → IsTotal uses (count + 1) new
total_more uses count live other new was lt is =
    let more : total_live (take (count + 1) uses) ≡ total_live (take count uses) + (get_or uses count other).live =
    ap total_live (take_more uses count other lt) ∙ total_last (take count uses) (get_or uses count other) in
    omega (arith, was, is, more)

pub total_all : (uses : List ExtentUse) (count live : ℕ) → length uses ≤ count → IsTotal uses count live → live ≡ min (total_live uses) (2 ^ 64 - 1)
total_all uses count live enough was = was ∙ ap (λ (xs : List ExtentUse). min (total_live xs) (2 ^ 64 - 1)) (take_all count uses enough)

-- ---- a look

-- nothing is there where an identifier isn't live
pub none_there : (places : List Place) (there : Bool) → IsTrue there ↔ (places ≢ []) → there ≡ false → places ≡ []
none_there [] there lookup is = refl
none_there (l ∷ ls) there lookup is = let live : there ≡ true = lookup.1 (λ none. cc none) in absurd (cc (sym live ∙ is))

-- what a reserve leaves in a store of this geometry
pub leaves_so : (held : Reserve) (x store : ExtentsState) (d : Dimensions) (left : Option ℕ) → x ≡ store → d.format ≡ (shape x).format → d.extents ≡ (shape x).extents → d.pages ≡ (shape x).pages
    → left ≡ most_live held d.format d.extents d.pages → left ≡ most_live_in held (shape store)
leaves_so held x store d left same format extents pages is =
    is ∙ ap (λ f. most_live held f d.extents d.pages) format ∙ ap (λ (n : ℕ). most_live held (shape x).format n d.pages) extents ∙ ap (λ (n : ℕ). most_live held (shape x).format (shape x).extents n) pages
    ∙ ap (λ (y : ExtentsState). most_live_in held (shape y)) same

-- what was tested of the pages
pub more_live : (uses items : List ExtentUse) (live others most : ℕ) (b : Bool) → uses ≡ items → live ≡ min (total_live uses) (2 ^ 64 - 1)
    → ((total : ℕ) → live ≡ min total (2 ^ 64 - 1) → MatchBool b (most < total + others) (total + others ≤ most)) → b ≡ true → most < total_live items + others
more_live uses items live others most b same is tests more =
    subst (λ (us : List ExtentUse). most < total_live us + others) same (subst (λ (x : Bool). MatchBool x (most < total_live uses + others) (total_live uses + others ≤ most)) more (tests (total_live uses) is))

pub few_live : (uses items : List ExtentUse) (live others most : ℕ) (b : Bool) → uses ≡ items → live ≡ min (total_live uses) (2 ^ 64 - 1)
    → ((total : ℕ) → live ≡ min total (2 ^ 64 - 1) → MatchBool b (most < total + others) (total + others ≤ most)) → b ≡ false → total_live items + others ≤ most
few_live uses items live others most b same is tests few =
    subst (λ (us : List ExtentUse). total_live us + others ≤ most) same (subst (λ (x : Bool). MatchBool x (most < total_live uses + others) (total_live uses + others ≤ most)) few (tests (total_live uses) is))

module _ {D : Type 0} (disks : PageDisk D) (held : Reserve) (id : ShardId) (bytes : ℕ) (old read : View D) where
  pub compared : (Holds : (live most : ℕ) → Type 0) (most : ℕ) (cut : Cut) (x : ExtentsState) (uses : List ExtentUse) → x ≡ old.store.extents
      → live_at (index_of old.store.index) (id_number id) ≡ [] → most_live_in held (shape old.store.extents) ≡ Some most → IsCut (shape x) bytes cut
      → AreExtents (shape old.store.extents).extents (extents_of old.store.extents) uses
      → (disks.honest old.disk → HoldsOfHeads disks old (λ heads. AreCountedAsRead (disks.failure_count old.disk) (disks.failure_count read.disk) heads uses))
      → Holds (total_live uses + sum (pages_of cut)) most → Compares disks held id bytes old read Holds
  compared Holds most cut x uses same absent leaves is_cut extents counted holds = record {
    absent = absent;
    most = most;
    leaves = leaves;
    cut = cut;
    is_cut = subst (λ (y : ExtentsState). IsCut (shape y) bytes cut) same is_cut;
    counted = λ honest view chunks are live. record { uses = uses; extents = extents; counted = counted honest view chunks are live; holds = holds };
  }

-- what a look refuses
pub by_size : {D : Type 0} (disks : PageDisk D) (held : Reserve) (id : ShardId) (bytes : List ℕ) (refusal : Refusal) (old read : View D)
    → (refusal ≡ OutOfMemory) ⊎ ((refusal ≡ TooLarge) × IsOversized (shape old.store.extents) (length bytes)) ⊎ (refusal ≡ Reserved)
    → (refusal ≡ Reserved → IsReserved disks held id (length bytes) old read)
    → (IsOverSize disks old read id (length bytes) refusal × (read ≡ read)) ⊎ DeclinesCopy disks read (Put id bytes) refusal read
by_size disks held id bytes refusal old read (inl memory) reserved = inr (inr (inl (memory, refl)))
by_size disks held id bytes refusal old read (inr (inl large)) reserved = inl (inl large, refl)
by_size disks held id bytes refusal old read (inr (inr is)) reserved = inl (inr (is, held, reserved is), refl)

module _ {D : Type 0} (disks : PageDisk D) where
  -- a halted store
  pub halted_put : (id : ShardId) (bytes : List ℕ) (v : View D) → v.store.halted ≡ true → RefusesPut disks v id bytes Halted v
  halted_put id bytes v halted = (v, (refl, reads_none disks v.disk), inr (inl (halted, refl, refl)))

  pub puts_so : (held : Reserve) (old : View D) (id : ShardId) (bytes : List ℕ) (number : ℕ) (new : View D) → PutsWithin disks held old id bytes number new → PutsAfterReads disks old id bytes number new
  puts_so held old id bytes number new (read, reads, within, does) = (read, reads, does)
