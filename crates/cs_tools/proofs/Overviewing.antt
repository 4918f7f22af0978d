-- What is seen of a store.
use Rattle.std.proofs.Common.{◌≡◌, ◌∙◌, ◌⊎◌, inl, inr, ℕ, zero, suc, ◌+◌, ◌-◌, ◌^◌, ◌<◌, ◌≤◌, List, [], ◌∷◌, ap, add-one, arith, get_or, length, min, refl, subst, sym, take, take_all}
use Rattle.cs_core.specs.Views.{View}
use Rattle.cs_disk.specs.Disk.{Rises}
use Rattle.cs_disk.specs.declared.disk.PageDisk.{Ghosts as PageDisk}
use Rattle.cs_extent.specs.State.{State as Extents, IsWhole, shape}
use Rattle.cs_frame.specs.Geometries.{greatest_pages}
use Rattle.cs_inspect.specs.Brim.{AreSurveyed}
use Rattle.cs_inspect.specs.Uses.{AreBounded, AreCounted, HoldsOfHeads}
use Rattle.cs_inspect.specs.declared.surveys.ExtentUse.{ExtentUse}
use Rattle.cs_inspect.proofs.Tallied.{bounded_then, counted_then}
use Rattle.law_machine.specs.Format.{Format, Four, Two}
use Rattle.cs_tools.specs.Overviews.{live_pages}
use Rattle.cs_advice.specs.declared.outcomes.Outcome.{Outcome}
use Rattle.cs_advice.specs.declared.outcomes.Outcome.TheVariants.{Damaged, Done}
use Rattle.cs_tools.proofs.Aiming.{few_extents}

-- ---- pages that live

live_taken : (uses : List ExtentUse) (i : ℕ) (d : ExtentUse) → i < length uses → live_pages (take (suc i) uses) ≡ live_pages (take i uses) + (get_or uses i d).live
live_taken [] i d lt = absurd (omega (arith, lt))
live_taken (u ∷ us) zero d lt = omega arith
live_taken (u ∷ us) (suc i) d lt = let rest = live_taken us i d (omega (arith, lt)) in omega (arith, rest)

pub live_more : (uses : List ExtentUse) (i : ℕ) (d : ExtentUse) (n m : ℕ) → i < length uses → n ≡ min (live_pages (take i uses)) (2 ^ 64 - 1) → m ≡ min (n + (get_or uses i d).live) (2 ^ 64 - 1)
    → m ≡ min (live_pages (take (i + 1) uses)) (2 ^ 64 - 1)
live_more uses i d n m lt so_far sum =
    let one : live_pages (take (i + 1) uses) ≡ live_pages (take i uses) + (get_or uses i d).live = ap (λ (k : ℕ). live_pages (take k uses)) (add-one i) ∙ live_taken uses i d lt in
    omega (arith, one, so_far, sum)

pub live_all : (uses : List ExtentUse) (i n : ℕ) → length uses ≤ i → n ≡ min (live_pages (take i uses)) (2 ^ 64 - 1) → n ≡ min (live_pages uses) (2 ^ 64 - 1)
live_all uses i n le is = subst (λ (us : List ExtentUse). n ≡ min (live_pages us) (2 ^ 64 - 1)) (take_all i uses le) is

-- of so many the room has no more than all
pub live_within : (live all capped n : ℕ) → capped ≡ min live (2 ^ 64 - 1) → all ≤ 503308800 → n ≡ min capped all → n ≡ min live all
live_within live all capped n is few least = omega (arith, is, few, least)

-- ---- the dimensions of a store

few_in : (format : Format) → greatest_pages format ≤ 65535
few_in Two = omega arith
few_in (Four store device) = omega arith

pub some_pages : (x : Extents) → IsWhole x → 1 ≤ (shape x).pages
some_pages x whole = let least : 2 ≤ (shape x).pages = whole.geometry.fewest_pages in omega (arith, least)

pub short_extents : (x : Extents) → IsWhole x → (shape x).pages ≤ 65535
short_extents x whole =
    let bound : greatest_pages x.format ≤ 65535 = few_in x.format in
    let most : (shape x).pages ≤ greatest_pages x.format = whole.geometry.most_pages in
    omega (arith, bound, most)

-- ---- what was read

module _ {D : Type 0} (disks : PageDisk D) (old new : View D) (uses : List ExtentUse) (greatest : ℕ)
    (read : disks.honest old.disk → HoldsOfHeads disks old (λ heads. AreSurveyed (disks.failure_count old.disk) (disks.failure_count new.disk) heads uses greatest)) where
  pub seen_bounded : disks.honest old.disk → HoldsOfHeads disks old (λ heads. AreBounded heads uses)
  seen_bounded honest view chunks are live =
      let it = read honest view chunks are live in
      bounded_then (disks.failure_count old.disk) (disks.failure_count new.disk) _ uses (it.0, it.1, it.2)

  pub seen_counted : disks.honest old.disk → ¬ Rises (disks.failure_count old.disk) (disks.failure_count new.disk) → HoldsOfHeads disks old (λ heads. AreCounted heads uses)
  seen_counted honest still view chunks are live =
      let it = read honest view chunks are live in
      counted_then (disks.failure_count old.disk) (disks.failure_count new.disk) _ uses (it.0, it.1, it.2) still

-- ---- the room for chunks

pub few_left : (x : Extents) (extents : ℕ) → IsWhole x → extents ≡ (shape x).extents - (shape x).run_extents - 2 → extents ≤ 7680
few_left x extents whole is =
    let few : (shape x).extents ≤ 7680 = few_extents x (shape x).extents whole refl in
    omega (arith, few, is)

-- ---- how it ends

pub when_done : (o : Outcome) (P Q : Type 0) → ((o ≡ Done) × P) ⊎ ((o ≡ Damaged) × Q) → o ≡ Done → P
when_done o P Q (inl is) done = is.1
when_done o P Q (inr is) done = let clash : Done ≡ Damaged = sym done ∙ is.0 in cc clash

pub when_damaged : (o : Outcome) (P Q : Type 0) → ((o ≡ Done) × P) ⊎ ((o ≡ Damaged) × Q) → o ≡ Damaged → Q
when_damaged o P Q (inl is) damaged = let clash : Done ≡ Damaged = sym is.0 ∙ damaged in cc clash
when_damaged o P Q (inr is) damaged = is.1
