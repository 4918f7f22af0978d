-- Disks that are readied to be opened for writing: what of their pairs can't be read is given up, or refuses the opening.
use Rattle.std.proofs.Common.{◌≡◌, ◌≢◌, inl, inr, ◌∙◌, ◌≤◌, ◌+◌, ◌-◌, ◌^◌, ◌∷◌, [], ℕ, List, Result, Ok, Err, length, min, ap, arith, refl, subst, sym}
use Rattle.cs_chunk.specs.Reads.{IsNoAnswer}
use Rattle.cs_disk.proofs.Crashes.{seen_MayLeave}
use Rattle.cs_disk.specs.Disk.{Rises, State, flushed, seen}
use Rattle.cs_mount.proofs.Fenced.{crash_fenced}
use Rattle.cs_mount.specs.Makings.{after_writes}
use Rattle.cs_mount.specs.Showing.{shown_on}
use Rattle.cs_reader.specs.Openings.{IsOpeningRefusal}
use Rattle.cs_refusal.specs.Refusals.{number_of}
use Rattle.cs_refusal.specs.declared.refusals.Refusal.{Refusal}
use Rattle.cs_refusal.specs.declared.refusals.Refusal.TheVariants.{Unreadable}
use Rattle.cs_store.specs.Opening.{IsPartlyGivenUp, given_up}
use Rattle.cs_mount.specs.Unreadable.{AreOfStore, LeavesFenced, RisesBy, fences_on}

module _ (n m : ℕ) (s t : State) (size : n ≡ m) (same : s ≡ t) where
  -- what is so of a size and of what a disk holds is so of the same by other names
  pub moved : (P : ℕ → State → Type 0) → P n s → P m t
  moved P fact = subst (λ k. P k t) size (subst (P n) same fact)

  pub moved_back : (P : ℕ → State → Type 0) → P m t → P n s
  moved_back P fact = subst (λ k. P k s) (sym size) (subst (P m) (sym same) fact)

  pub shows_moved : shown_on n (seen s) ≡ shown_on m (seen t)
  shows_moved = moved (λ k z. shown_on n (seen s) ≡ shown_on k (seen z)) refl

-- some pages that weren't read are a count that rose
pub rises_by_some : (pages : List ℕ) (before now : ℕ) → pages ≢ [] → RisesBy (length pages) before now → Rises before now
rises_by_some [] before now some risen = absurd (some refl)
rises_by_some (p ∷ pages) before now some risen = grind arith

-- a disk in pairs that refused nothing itself, before and now, counts what the disk below counted
pub rises_below : (before now refused later : ℕ) → refused ≡ 0 → later ≡ 0 → Rises (min (before + refused) (2 ^ 64 - 1)) (min (now + later) (2 ^ 64 - 1)) → Rises before now
rises_below before now refused later none still risen = grind arith

-- a count that rose since later on rose since
pub rises_from : (first before now : ℕ) → first ≤ before → Rises before now → Rises first now
rises_from first before now later risen = grind arith

-- fences of some pages are these pages given up
pub fenced_given_up : (pages : List ℕ) (s : State) → pages ≢ [] → flushed (after_writes s (fences_on pages)) ≡ given_up pages s
fenced_given_up [] s some = absurd (some refl)
fenced_given_up (p ∷ pages) s some = refl

-- if none is given up the disk holds what it held
pub none_given_up : (pages : List ℕ) (s t : State) → pages ≡ [] → t ≡ given_up pages s → t ≡ s
none_given_up pages s t none is = is ∙ ap (λ l. given_up l s) none

-- 29 is neither an answer of the device or the memory nor a refusal of an opening
pub answered : {T : Type 0} (r : Refusal) → IsNoAnswer r → r ≡ Unreadable → T
answered r (inl one) is =
    let number : number_of r ≡ 29 = ap number_of is in
    let own : number_of r ≡ 1 = ap number_of one in
    absurd (omega (arith, number, own))
answered r (inr nine) is =
    let number : number_of r ≡ 29 = ap number_of is in
    let own : number_of r ≡ 9 = ap number_of nine in
    absurd (omega (arith, number, own))

pub opened_readable : {T : Type 0} (r : Refusal) → IsOpeningRefusal r → r ≡ Unreadable → T
opened_readable r (inl answer) is = answered r answer is
opened_readable r (inr (inl range)) is =
    let number : number_of r ≡ 29 = ap number_of is in
    let most : number_of r ≤ 27 = range.1 in
    absurd (omega (arith, number, most))
opened_readable r (inr (inr none)) is =
    let number : number_of r ≡ 29 = ap number_of is in
    let own : number_of r ≡ 43 = ap number_of none in
    absurd (omega (arith, number, own))

-- the errors of two results that are the same
abbrev err_of : {T E : Type 0} → E → Result T E → E
err_of d (Ok x) = d
err_of d (Err e) = e

pub same_Err : {T E : Type 0} (a b : E) → ◌≡◌ {A = Result T E} (Err a) (Err b) → a ≡ b
same_Err a b is = ap (err_of a) is

-- ---- a loss that is accepted

-- pages that were all given up are some of them
pub given_up_partly : (n : ℕ) (s : State) (pages : List ℕ) → AreOfStore n pages pages (seen s) → IsPartlyGivenUp n s (seen (given_up pages s))
given_up_partly n s [] are = inl refl
given_up_partly n s (p ∷ pages) are = inr (p ∷ pages, are, crash_fenced s (p ∷ pages) (seen (after_writes s (fences_on (p ∷ pages)))) (seen_MayLeave (after_writes s (fences_on (p ∷ pages)))))

-- a disk that was only read before some were
pub read_partly : (n : ℕ) (old mid new : State) (pages : List ℕ) → mid ≡ old → AreOfStore n pages pages (seen old) → LeavesFenced pages mid (seen new) → IsPartlyGivenUp n old (seen new)
read_partly n old mid new pages same are left = inr (pages, are, subst (λ (s : State). LeavesFenced pages s (seen new)) same left)
