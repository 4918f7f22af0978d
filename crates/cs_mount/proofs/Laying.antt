-- Writes that are laid on a disk one after another, and what a crash meanwhile leaves.
use Rattle.std.proofs.Common.{◌≡◌, ◌⊎◌, inl, ⊎_elim, if◌then◌else◌, ◌==◌, ◌-◌, ℕ, zero, suc, ◌+◌, ◌≤◌, Bool, true, false, List, [], ◌∷◌, ◌++◌, Result, Ok, Err, OnOk, OnErr, length, length-append, append_assoc, replicate, refl, sym, ◌∙◌, ap, subst, arith}
use Rattle.std.proofs.lemmas.Bool.Decides.{nat_tests}
use Rattle.std.proofs.lemmas.List.{append-nil, length-replicate}
use Rattle.cs_disk.specs.declared.disk.PageDisk.{Ghosts as PageDisk}
use Rattle.cs_disk.specs.Disk.{Elapses, Image, Leaves, MayLeave, State, Write, applied, flushed, kept, seen, written}
use Rattle.cs_disk.proofs.Crashes.{seen_MayLeave, MayLeave-flushed}
use Rattle.cs_disk.proofs.Moments.{IsSafe, goes_on, narrows, started, weakens}
use Rattle.cs_frame.specs.Geometries.{Dimensions}
use Rattle.cs_mount.specs.Makings.{LeavesLaying, LeavesSome, after_writes, both_halves, clearing, halves_up_to, pair_of_section}

-- ---- some of the writes are some of more

kept_none : (n : ℕ) (writes : List Write) → kept (replicate n false) writes ≡ []
kept_none zero writes = refl
kept_none (suc n) [] = refl
kept_none (suc n) (w ∷ writes) = kept_none n writes

kept_front : (mask : List Bool) (writes more : List Write) → length mask ≡ length writes → kept (mask ++ replicate (length more) false) (writes ++ more) ≡ kept mask writes
kept_front [] [] more same = kept_none (length more) more
kept_front [] (w ∷ writes) more same = absurd (omega arith)
kept_front (b ∷ mask) [] more same = absurd (omega arith)
kept_front (true ∷ mask) (w ∷ writes) more same = ap (λ (l : List Write). w ∷ l) (kept_front mask writes more (omega (arith, same)))
kept_front (false ∷ mask) (w ∷ writes) more same = kept_front mask writes more (omega (arith, same))

pub leaves_more : (s : State) (more : List Write) (c : Image) → MayLeave s c → MayLeave (after_writes s more) c
leaves_more s more c left = (
  left.0 ++ replicate (length more) false,
  length-append left.0 (replicate (length more) false) ∙ ap (λ n. n + length (replicate {A = Bool} (length more) false)) left.1 ∙ ap (λ n. length s.volatile + n) (length-replicate {A = Bool} (length more) false)
      ∙ sym (length-append s.volatile more),
  left.2 ∙ ap (applied s.durable) (sym (kept_front left.0 s.volatile more left.1)),
)

-- writes in two parts
pub after_both : (s : State) (first more : List Write) → after_writes (after_writes s first) more ≡ after_writes s (first ++ more)
after_both s first more = ap (λ (l : List Write). record { durable = s.durable; volatile = l }) (append_assoc s.volatile first more)

pub after_none : (s : State) → after_writes s [] ≡ s
after_none s = ap (λ (l : List Write). record { durable = s.durable; volatile = l }) (append-nil s.volatile)

-- so a crash after the first of them leaves some of all
pub leaves_longer : (s : State) (first more : List Write) (c : Image) → MayLeave (after_writes s first) c → MayLeave (after_writes s (first ++ more)) c
leaves_longer s first more c left = subst (λ (z : State). MayLeave z c) (after_both s first more) (leaves_more (after_writes s first) more c left)

module _ {D : Type 0} (disks : PageDisk D) where
  abbrev Safe : D → D → List Write → Type 0
  Safe old new writes = IsSafe disks.state disks.moment disks.left_since old new (MayLeave (after_writes (disks.state old) writes))

  pub some_of : (old new : D) (writes : List Write) → Safe old new writes → LeavesSome disks old new writes
  some_of old new writes safe = record { meanwhile = safe.any_moment; now = safe.now }

  pub safe_of : (old new : D) (writes : List Write) → LeavesSome disks old new writes → Safe old new writes
  safe_of old new writes is = record { any_moment = is.meanwhile; now = is.now }

  -- before the first of them
  pub none_yet : (old : D) (writes : List Write) → ((c : Image) → disks.left_since old (disks.moment old) c → MayLeave (disks.state old) c) → LeavesSome disks old old writes
  none_yet old writes only = some_of old old writes (started disks.state disks.moment disks.left_since old (MayLeave (after_writes (disks.state old) writes)) (λ c left. leaves_more (disks.state old) writes c left) only)

  -- some were made, then some more of the same
  pub then_more : (old mid new : D) (first more : List Write) → LeavesSome disks old mid first → disks.state mid ≡ after_writes (disks.state old) first → LeavesSome disks mid new more → LeavesSome disks old new (first ++ more)
  then_more old mid new first more before is rest =
      let s = disks.state old in
      some_of old new (first ++ more)
      (narrows disks.state disks.moment disks.left_since old mid new (MayLeave (after_writes s (first ++ more))) (MayLeave (after_writes (disks.state mid) more))
      (weakens disks.state disks.moment disks.left_since old mid (MayLeave (after_writes s (first ++ more))) (MayLeave (after_writes s first)) (safe_of old mid first before) (leaves_longer s first more))
      (λ c left. subst (λ (z : State). MayLeave z c) (ap (λ (z : State). after_writes z more) is ∙ after_both s first more) left)
      (safe_of mid new more rest))

  -- of more than were meant
  pub of_more : (old new : D) (first more : List Write) → LeavesSome disks old new first → LeavesSome disks old new (first ++ more)
  of_more old new first more some =
      some_of old new (first ++ more) (weakens disks.state disks.moment disks.left_since old new (MayLeave (after_writes (disks.state old) (first ++ more))) (MayLeave (after_writes (disks.state old) first)) (safe_of old new first some)
      (leaves_longer (disks.state old) first more))

  -- one write, whatever it answers
  pub one_write : (old new : D) (p : ℕ) (bytes : List ℕ) → ((c : Image) → disks.left_since old (disks.moment old) c → MayLeave (disks.state old) c)
      → Elapses (disks.moment old) (disks.moment new) (disks.left_since old) (disks.left_since new) (disks.state new)
      → (disks.state new ≡ disks.state old) ⊎ (disks.state new ≡ written (disks.state old) p bytes) → LeavesSome disks old new ((p, bytes) ∷ [])
  one_write old new p bytes only time is =
      let s = disks.state old in
      some_of old new ((p, bytes) ∷ [])
      (goes_on disks.state disks.moment disks.left_since old old new (MayLeave (after_writes s ((p, bytes) ∷ []))) (safe_of old old ((p, bytes) ∷ []) (none_yet old ((p, bytes) ∷ []) only)) time
      (λ c left. ⊎_elim (λ same. leaves_more s ((p, bytes) ∷ []) c (subst (λ (z : State). MayLeave z c) same left)) (λ (new_is : disks.state new ≡ written s p bytes). subst (λ (z : State). MayLeave z c) new_is left) is))

  -- the flush at the end, whatever it answers
  pub and_flush : {T E : Type 0} (result : Result T E) (old mid new : D) (writes : List Write) → LeavesSome disks old mid writes → disks.state mid ≡ after_writes (disks.state old) writes
      → Elapses (disks.moment mid) (disks.moment new) (disks.left_since mid) (disks.left_since new) (disks.state new)
      → OnOk result (disks.state new ≡ flushed (disks.state mid)) → OnErr result (disks.state new ≡ disks.state mid) → LeavesSome disks old new writes
  and_flush result old mid new writes some is time ok err =
      let s = disks.state old in
      some_of old new writes (goes_on disks.state disks.moment disks.left_since old mid new (MayLeave (after_writes s writes)) (safe_of old mid writes some) time (then_is result ok err))
    where
      flushed_leaves : disks.state new ≡ flushed (disks.state mid) → Leaves (disks.state new) (MayLeave (after_writes (disks.state old) writes))
      flushed_leaves is_then c left =
          let seen_is : c ≡ seen (disks.state mid) = MayLeave-flushed (disks.state mid) c (subst (λ (z : State). MayLeave z c) is_then left) in
          subst (MayLeave (after_writes (disks.state old) writes)) (sym (seen_is ∙ ap seen is)) (seen_MayLeave (after_writes (disks.state old) writes))

      then_is : {T E : Type 0} (r : Result T E) → OnOk r (disks.state new ≡ flushed (disks.state mid)) → OnErr r (disks.state new ≡ disks.state mid) → Leaves (disks.state new) (MayLeave (after_writes (disks.state old) writes))
      then_is (Ok t) ok err = flushed_leaves ok
      then_is (Err e) ok err = λ c left. some.now c (subst (λ (z : State). MayLeave z c) err left)

-- ---- the halves of a store's pairs

-- those up to a place are the first of those up to a later one
pub halves_from : (d : Dimensions) (k m : ℕ) → (more : List Write) × (halves_up_to d (k + m) ≡ halves_up_to d k ++ more)
halves_from d k zero = let here : k + zero ≡ k = omega arith in ([], ap (halves_up_to d) here ∙ sym (append-nil (halves_up_to d k)))
halves_from d k (suc m) =
    let before = halves_from d k m in
    let next : k + suc m ≡ suc (k + m) = omega arith in (
      before.0 ++ both_halves d (suc (k + m)),
      ap (halves_up_to d) next ∙ ap (λ (l : List Write). l ++ both_halves d (suc (k + m))) before.1 ∙ append_assoc (halves_up_to d k) before.0 (both_halves d (suc (k + m))),
    )

-- so what some of the first of them leave some of all leave
pub some_of_all : {D : Type 0} (disks : PageDisk D) (d : Dimensions) (old new : D) (k n : ℕ) → k ≤ n → LeavesSome disks old new (halves_up_to d k) → LeavesSome disks old new (halves_up_to d n)
some_of_all disks d old new k n le some =
    let from = halves_from d k (n - k) in
    let all : k + (n - k) ≡ n = omega (arith, le) in
    subst (λ (l : List Write). LeavesSome disks old new l) (sym from.1 ∙ ap (halves_up_to d) all) (of_more disks old new (halves_up_to d k) from.0 some)

-- one section more
next_pair : (k : ℕ) → 1 ≤ k → (if k == 0 then 0 else k + 1) ≡ suc k
next_pair k some = grind (arith, nat_tests)

pub next_halves : (d : Dimensions) (k : ℕ) → 1 ≤ k → halves_up_to d k ++ both_halves d (pair_of_section k) ≡ halves_up_to d (k + 1)
next_halves d k some =
    let next : suc k ≡ k + 1 = omega arith in
    ap (λ (n : ℕ). halves_up_to d k ++ both_halves d n) (next_pair k some) ∙ ap (halves_up_to d) next

pub next_state : (d : Dimensions) (s mid new : State) (k : ℕ) → 1 ≤ k → mid ≡ after_writes s (halves_up_to d k) → new ≡ after_writes mid (both_halves d (pair_of_section k)) → new ≡ after_writes s (halves_up_to d (k + 1))
next_state d s mid new k some before is =
    is ∙ ap (λ (z : State). after_writes z (both_halves d (pair_of_section k))) before ∙ after_both s (halves_up_to d k) (both_halves d (pair_of_section k)) ∙ ap (after_writes s) (next_halves d k some)

pub next_some : {D : Type 0} (disks : PageDisk D) (d : Dimensions) (old mid new : D) (k : ℕ) → 1 ≤ k → LeavesSome disks old mid (halves_up_to d k) → disks.state mid ≡ after_writes (disks.state old) (halves_up_to d k)
    → LeavesSome disks mid new (both_halves d (pair_of_section k)) → LeavesSome disks old new (halves_up_to d (k + 1))
next_some disks d old mid new k some before is more =
    subst (λ (l : List Write). LeavesSome disks old new l) (next_halves d k some) (then_more disks old mid new (halves_up_to d k) (both_halves d (pair_of_section k)) before is more)

-- a flush of what was written
pub flush_made : {T E : Type 0} (r : Result T E) (mid new target : State) → mid ≡ target → OnOk r (new ≡ flushed mid) → OnOk r (new ≡ flushed target)
flush_made (Ok t) mid new target same is = is ∙ ap flushed same
flush_made (Err e) mid new target same is = tt

-- what a flush leaves a crash before it might have left
pub flushed_left : (s : State) (c : Image) → MayLeave (flushed s) c → MayLeave s c
flushed_left s c left = subst (MayLeave s) (sym (MayLeave-flushed s c left)) (seen_MayLeave s)

-- a disk on which nothing was laid yet
pub not_laid : (d : Dimensions) (s now : State) → now ≡ s → Leaves now (LeavesLaying d s)
not_laid d s now same c left = inl (leaves_more s (clearing d) c (subst (λ (z : State). MayLeave z c) same left))
