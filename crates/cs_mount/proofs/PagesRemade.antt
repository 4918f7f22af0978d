-- Pages that are shown or written anew, one after another.
use Rattle.std.proofs.Common.{◌≡◌, ◌≢◌, ◌⊎◌, inl, inr, ⊎_elim, if◌then◌else◌, ◌==◌, ◌<◌, ◌+◌, ℕ, zero, suc, Bool, true, false, List, [], ◌∷◌, ◌++◌, Some, Result, Ok, Err, OnOk, drop, length, map, take, refl, sym, ◌∙◌, ap, subst, arith}
use Rattle.std.specs.Prelude.{All, slice_get}
use Rattle.std.specs.List.{AllByRecursion}
use Rattle.cs_frame.specs.Bytes.{IsPage}
use Rattle.std.proofs.lemmas.List.{ext_get_or, take-append-drop}
use Rattle.cs_disk.specs.declared.disk.PageDisk.{Ghosts as PageDisk}
use Rattle.cs_disk.specs.Disk.{Elapses, Image, IsBytes, MayLeave, State, Write, flushed, latest, page, seen, written}
use Rattle.cs_disk.proofs.Images.{length-applied}
use Rattle.cs_disk.proofs.Moments.{IsSafe, narrows, weakens}
use Rattle.cs_index.proofs.Sorted.{take_at_get}
use Rattle.cs_twin.proofs.Roles.{if_other, if_same}
use Rattle.cs_twin.specs.Pairs.{fence}
use Rattle.cs_mount.specs.Makings.{LeavesSome, after_writes}
use Rattle.cs_mount.specs.Remaking.{LeavesRemaking, fenced_first, fencing, remade, remade_on, remade_state}
use Rattle.cs_mount.specs.Repaged.{repaged_write}
use Rattle.cs_mount.proofs.Halves.{latest_append}
use Rattle.cs_mount.proofs.Laying.{after_both, of_more, one_write, safe_of, then_more}
use Rattle.cs_mount.proofs.Laid.{length-after, seen_after}
use Rattle.cs_mount.proofs.Repaging.{length-repaged, page-repaged}

-- one page more
next_taken : {X : Type 0} (xs : List X) (k : ℕ) (x : X) → slice_get xs k ≡ Some x → take (k + 1) xs ≡ take k xs ++ x ∷ []
next_taken xs k x at = ap (λ (n : ℕ). take n xs) (let same : k + 1 ≡ suc k = omega arith in same) ∙ take_at_get xs k x at

pub shown_more : (pages : List Write) (k number : ℕ) (e : Write) (b was : List ℕ) → slice_get pages k ≡ Some e → b ≡ latest (take k pages) number was
    → (if e.0 == number then e.1 else b) ≡ latest (take (k + 1) pages) number was
shown_more pages k number e b was at is =
    ap (λ (z : List ℕ). if e.0 == number then e.1 else z) is
    ∙ sym (ap (λ (ws : List Write). latest ws number was) (next_taken pages k e at) ∙ latest_append (take k pages) (e ∷ []) number was)

-- where it is written, and where it isn't
pub shown_here : (pages : List Write) (k number : ℕ) (e : Write) (b was : List ℕ) → slice_get pages k ≡ Some e → b ≡ latest (take k pages) number was → e.0 ≡ number
    → e.1 ≡ latest (take (k + 1) pages) number was
shown_here pages k number e b was at is here = sym (ap (λ (n : ℕ). if e.0 == n then e.1 else b) (sym here) ∙ if_same e.0 e.1 b) ∙ shown_more pages k number e b was at is

pub shown_there : (pages : List Write) (k number : ℕ) (e : Write) (b was : List ℕ) → slice_get pages k ≡ Some e → b ≡ latest (take k pages) number was → e.0 ≢ number
    → b ≡ latest (take (k + 1) pages) number was
shown_there pages k number e b was at is other = sym (if_other e.0 number e.1 b other) ∙ shown_more pages k number e b was at is

-- what some writes of pages leave of a page is one
pub latest_page : (writes : List Write) (p : ℕ) (bytes : List ℕ) → AllByRecursion (λ (w : Write). IsPage w.1) writes → IsPage bytes → IsPage (latest writes p bytes)
latest_page [] p bytes all is = is
latest_page (w ∷ writes) p bytes all is = latest_page writes p (if w.0 == p then w.1 else bytes) all.1 (pick (w.0 == p))
  where
    pick : (b : Bool) → IsPage (if b then w.1 else bytes)
    pick true = all.0
    pick false = is

-- such writes, by what their types say
pub by_all : (writes : List Write) → All (λ (w : Write). length w.1 ≡ 4096) writes → All (λ (w : Write). IsBytes w.1) writes → AllByRecursion (λ (w : Write). IsPage w.1) writes
by_all [] sizes bytes = tt
by_all (w ∷ writes) sizes bytes = (
  record { size = sizes 0 w (let lt : 0 < suc (length writes) = omega arith in lt); bytes = bytes 0 w (let lt : 0 < suc (length writes) = omega arith in lt) },
  by_all writes (λ i x lt. sizes (suc i) x (let more : suc i < suc (length writes) = omega (arith, lt) in more)) (λ i x lt. bytes (suc i) x (let more : suc i < suc (length writes) = omega (arith, lt) in more)),
)

at_each : (P : List ℕ → Type 0) (writes : List Write) → ((bytes : List ℕ) → IsPage bytes → P bytes) → AllByRecursion (λ (w : Write). IsPage w.1) writes → All (λ (w : Write). P w.1) writes
at_each P [] says all i x lt = absurd (let none : i < 0 = lt in omega arith)
at_each P (w ∷ writes) says all zero x lt = says w.1 all.0
at_each P (w ∷ writes) says all (suc i) x lt = at_each P writes says all.1 i x (let more : suc i < suc (length writes) = lt in omega (arith, more))

pub all_sizes : (writes : List Write) → AllByRecursion (λ (w : Write). IsPage w.1) writes → All (λ (w : Write). length w.1 ≡ 4096) writes
all_sizes writes all = at_each (λ bytes. length bytes ≡ 4096) writes (λ bytes is. is.size) all

pub all_bytes : (writes : List Write) → AllByRecursion (λ (w : Write). IsPage w.1) writes → All (λ (w : Write). IsBytes w.1) writes
all_bytes writes all = at_each IsBytes writes (λ bytes is. is.bytes) all

-- ---- the writes one after another

fencing_append : (xs ys : List Write) → fencing (xs ++ ys) ≡ fencing xs ++ fencing ys
fencing_append [] ys = refl
fencing_append (w ∷ xs) ys = ap (λ (l : List Write). (w.0, fence) ∷ l) (fencing_append xs ys)

pub next_fence : (pages : List Write) (k : ℕ) (e : Write) → slice_get pages k ≡ Some e → fencing (take (k + 1) pages) ≡ fencing (take k pages) ++ (e.0, fence) ∷ []
next_fence pages k e at = ap fencing (next_taken pages k e at) ∙ fencing_append (take k pages) (e ∷ [])

pub next_write : (pages : List Write) (k : ℕ) (e : Write) → slice_get pages k ≡ Some e → take (k + 1) pages ≡ take k pages ++ e ∷ []
next_write pages k e at = next_taken pages k e at

-- the rest of them
pub all_fences : (pages : List Write) (k : ℕ) → fencing (take k pages) ++ fencing (drop k pages) ≡ fencing pages
all_fences pages k = sym (fencing_append (take k pages) (drop k pages)) ∙ ap fencing (take-append-drop k pages)

module _ {D : Type 0} (disks : PageDisk D) where
  -- one write more
  pub state_more : (s mid new : State) (before next : List Write) (p : ℕ) (bytes : List ℕ) → next ≡ before ++ (p, bytes) ∷ [] → mid ≡ after_writes s before → new ≡ written mid p bytes → new ≡ after_writes s next
  state_more s mid new before next p bytes more was is =
      is ∙ ap (λ (z : State). after_writes z ((p, bytes) ∷ [])) was ∙ after_both s before ((p, bytes) ∷ []) ∙ ap (after_writes s) (sym more)

  pub some_more : (old mid new : D) (before next : List Write) (p : ℕ) (bytes : List ℕ) → next ≡ before ++ (p, bytes) ∷ [] → LeavesSome disks old mid before → disks.state mid ≡ after_writes (disks.state old) before
      → ((c : Image) → disks.left_since mid (disks.moment mid) c → MayLeave (disks.state mid) c)
      → Elapses (disks.moment mid) (disks.moment new) (disks.left_since mid) (disks.left_since new) (disks.state new)
      → (disks.state new ≡ disks.state mid) ⊎ (disks.state new ≡ written (disks.state mid) p bytes) → LeavesSome disks old new next
  some_more old mid new before next p bytes more some is only time step =
      subst (λ (ws : List Write). LeavesSome disks old new ws) (sym more) (then_more disks old mid new before ((p, bytes) ∷ []) some is (one_write disks mid new p bytes only time step))

  -- of all of them
  pub some_of_fences : (old new : D) (pages : List Write) (k : ℕ) → LeavesSome disks old new (fencing (take k pages)) → LeavesSome disks old new (fencing pages)
  some_of_fences old new pages k some = subst (λ (ws : List Write). LeavesSome disks old new ws) (all_fences pages k) (of_more disks old new (fencing (take k pages)) (fencing (drop k pages)) some)

  pub some_of_writes : (old new : D) (pages : List Write) (k : ℕ) → LeavesSome disks old new (take k pages) → LeavesSome disks old new pages
  some_of_writes old new pages k some = subst (λ (ws : List Write). LeavesSome disks old new ws) (take-append-drop k pages) (of_more disks old new (take k pages) (drop k pages) some)

  -- ---- the two steps

  abbrev SafeRemaking : List Write → D → D → Type 0
  SafeRemaking writes old new = IsSafe disks.state disks.moment disks.left_since old new (LeavesRemaking writes (disks.state old))

  pub safe_fenced : (writes : List Write) (old mid : D) → LeavesSome disks old mid (fencing writes) → SafeRemaking writes old mid
  safe_fenced writes old mid some =
      weakens disks.state disks.moment disks.left_since old mid (LeavesRemaking writes (disks.state old)) (MayLeave (after_writes (disks.state old) (fencing writes))) (safe_of disks old mid (fencing writes) some) (λ c left. inl left)

  pub safe_written : (writes : List Write) (old mid new : D) → SafeRemaking writes old mid → disks.state mid ≡ fenced_first writes (disks.state old) → LeavesSome disks mid new writes → SafeRemaking writes old new
  safe_written writes old mid new before is some =
      narrows disks.state disks.moment disks.left_since old mid new (LeavesRemaking writes (disks.state old)) (MayLeave (after_writes (disks.state mid) writes)) before
      (λ c left. inr (subst (λ (z : State). MayLeave (after_writes z writes) c) is left)) (safe_of disks mid new writes some)

pub remade_is : {T E : Type 0} (r : Result T E) (writes : List Write) (s mid new : State) → mid ≡ fenced_first writes s → OnOk r (new ≡ flushed (after_writes mid writes)) → OnOk r (new ≡ remade_on writes s)
remade_is (Ok t) writes s mid new before is = is ∙ ap (λ (z : State). flushed (after_writes z writes)) before
remade_is (Err e) writes s mid new before is = tt

-- ---- what shows then

-- a page is written, whatever it held, or isn't
written_or_not : (writes : List Write) (p : ℕ) (b c : List ℕ) → (latest writes p b ≡ latest writes p c) ⊎ (latest (fencing writes) p b ≡ b)
written_or_not [] p b c = inr refl
written_or_not (w ∷ writes) p b c = by (w.0 == p) (written_or_not writes p b c)
  where
    by : (t : Bool) → (latest writes p b ≡ latest writes p c) ⊎ (latest (fencing writes) p b ≡ b)
        → (latest writes p (if t then w.1 else b) ≡ latest writes p (if t then w.1 else c)) ⊎ (latest (fencing writes) p (if t then fence else b) ≡ b)
    by true rest = inl refl
    by false rest = rest

over_fences : (writes : List Write) (p : ℕ) (b : List ℕ) → latest writes p (latest (fencing writes) p b) ≡ latest writes p b
over_fences writes p b = ⊎_elim (λ same. sym same) (λ none. ap (latest writes p) none) (written_or_not writes p b (latest (fencing writes) p b))

pub seen_remade : (writes : List Write) (s : State) → seen (remade_on writes s) ≡ remade writes (seen s)
seen_remade writes s =
    let size = length-after (fenced_first writes s) writes ∙ length-after s (fencing writes) in
    let there = length-repaged (latest writes) (seen s) ∙ length-applied s.durable s.volatile in
    ext_get_or [] (seen (remade_on writes s)) (remade writes (seen s)) (size ∙ sym there) (λ p lt.
    let inside : p < length s.durable = omega (arith, lt, size) in
    seen_after (fenced_first writes s) writes p (omega (arith, inside, length-after s (fencing writes)))
    ∙ ap (latest writes p) (seen_after s (fencing writes) p inside)
    ∙ over_fences writes p (page (seen s) p)
    ∙ sym (page-repaged (latest writes) (seen s) p (omega (arith, inside, length-applied s.durable s.volatile))))

pub seen_then : {T E : Type 0} (r : Result T E) (writes : List Write) (s new : State) → OnOk r (new ≡ remade_on writes s) → OnOk r (seen new ≡ remade writes (seen s))
seen_then (Ok t) writes s new is = ap seen is ∙ seen_remade writes s
seen_then (Err e) writes s new is = tt

-- no writes show all as it is
pub remade_none : (image : Image) → remade [] image ≡ image
remade_none image = ext_get_or [] (remade [] image) image (length-repaged (latest []) image) (λ p lt. page-repaged (latest []) image p (let size = length-repaged (latest []) image in omega (arith, lt, size)))

pub remade_none_state : (s : State) → remade_state [] s ≡ s
remade_none_state s = λ i. record { durable = remade_none s.durable i; volatile = same s.volatile i }
  where
    same : (writes : List Write) → map (repaged_write (latest [])) writes ≡ writes
    same [] = refl
    same (w ∷ writes) = ap (λ (ws : List Write). w ∷ ws) (same writes)
