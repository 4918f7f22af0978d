-- Pages that are filled with fences, one after another.
use Rattle.std.proofs.Common.{◌≡◌, ◌≢◌, ◌⊎◌, inl, inr, ⊎_elim, if◌then◌else◌, ◌==◌, ◌||◌, ◌++◌, ◌+◌, ℕ, ◌<◌, ◌≤◌, Bool, true, false, List, [], ◌∷◌, drop, get_or, length, replicate, take, take-append-drop, refl, sym, ◌∙◌, ap, subst, arith}
use Rattle.std.proofs.lemmas.Bool.{cases_eq}
use Rattle.std.proofs.lemmas.List.{length-set, map-append, take_all, take_more}
use Rattle.std.proofs.lemmas.List.Folds.{list_any_at}
use Rattle.cs_disk.specs.declared.disk.PageDisk.{Ghosts as PageDisk}
use Rattle.cs_disk.specs.Disk.{Image, MayLeave, State, Write, applied, flushed, latest, page, seen, written}
use Rattle.cs_disk.proofs.Crashes.{MayLeave-written}
use Rattle.cs_disk.proofs.Images.{applied-append, length-applied, page-applied, page_other, page_same}
use Rattle.cs_twin.specs.Pairs.{fence}
use Rattle.cs_mount.specs.Hidden.{is_among}
use Rattle.cs_mount.specs.Makings.{LeavesSome, after_writes}
use Rattle.cs_mount.specs.Unreadable.{IsFencedFrom, LeavesFenced, fences_on}
use Rattle.cs_mount.proofs.Laying.{after_both, after_none, of_more, then_more}

-- ---- one page more

pub fences_next : (pages : List ℕ) (k d : ℕ) → k < length pages → fences_on (take (k + 1) pages) ≡ fences_on (take k pages) ++ (get_or pages k d, fence) ∷ []
fences_next pages k d lt = ap fences_on (take_more pages k d lt) ∙ map-append (λ (p : ℕ). (p, fence)) (take k pages) (get_or pages k d ∷ [])

pub fences_split : (pages : List ℕ) (k : ℕ) → fences_on pages ≡ fences_on (take k pages) ++ fences_on (drop k pages)
fences_split pages k = ap fences_on (sym (take-append-drop k pages)) ∙ map-append (λ (p : ℕ). (p, fence)) (take k pages) (drop k pages)

pub state_next : (pages : List ℕ) (s mid now : State) (k d : ℕ) → k < length pages → mid ≡ after_writes s (fences_on (take k pages)) → now ≡ written mid (get_or pages k d) fence → now ≡ after_writes s (fences_on (take (k + 1) pages))
state_next pages s mid now k d lt before is =
    is ∙ ap (λ (z : State). after_writes z ((get_or pages k d, fence) ∷ [])) before ∙ after_both s (fences_on (take k pages)) ((get_or pages k d, fence) ∷ []) ∙ ap (after_writes s) (sym (fences_next pages k d lt))

module _ {D : Type 0} (disks : PageDisk D) (pages : List ℕ) (old mid now : D) (k d : ℕ) (lt : k < length pages) where
  pub some_next : LeavesSome disks old mid (fences_on (take k pages)) → disks.state mid ≡ after_writes (disks.state old) (fences_on (take k pages)) → LeavesSome disks mid now ((get_or pages k d, fence) ∷ [])
      → LeavesSome disks old now (fences_on (take (k + 1) pages))
  some_next before is one =
      subst (λ (l : List Write). LeavesSome disks old now l) (sym (fences_next pages k d lt)) (then_more disks old mid now (fences_on (take k pages)) ((get_or pages k d, fence) ∷ []) before is one)

pub some_of_fences : {D : Type 0} (disks : PageDisk D) (pages : List ℕ) (old now : D) (k : ℕ) → LeavesSome disks old now (fences_on (take k pages)) → LeavesSome disks old now (fences_on pages)
some_of_fences disks pages old now k some =
    subst (λ (l : List Write). LeavesSome disks old now l) (sym (fences_split pages k)) (of_more disks old now (fences_on (take k pages)) (fences_on (drop k pages)) some)

-- ---- what each page holds

latest_fence : (pages : List ℕ) (p : ℕ) (bytes : List ℕ) → latest (fences_on pages) p bytes ≡ (if is_among pages p then fence else bytes)
latest_fence [] p bytes = refl
latest_fence (q ∷ pages) p bytes = latest_fence pages p (if q == p then fence else bytes) ∙ both (q == p) (is_among pages p)
  where
    both : (a b : Bool) → (if b then fence else (if a then fence else bytes)) ≡ (if (a || b) then fence else bytes)
    both true true = refl
    both true false = refl
    both false b = refl

pub fenced_page : (s : State) (pages : List ℕ) (p : ℕ) → p < length s.durable → page (flushed (after_writes s (fences_on pages))).durable p ≡ (if is_among pages p then fence else page (seen s) p)
fenced_page s pages p lt =
    ap (λ (image : Image). page image p) (applied-append s.durable s.volatile (fences_on pages)) ∙ page-applied (seen s) (fences_on pages) p (omega (arith, lt, length-applied s.durable s.volatile))
    ∙ latest_fence pages p (page (seen s) p)

-- ---- what a crash leaves

one_fenced : (q : ℕ) (pages : List ℕ) (d before c : Image) → (before ≡ d) ⊎ (before ≡ applied d ((q, fence) ∷ [])) → IsFencedFrom pages before c → IsFencedFrom (q ∷ pages) d c
one_fenced q pages d before c (inl same) is = record {
  size = is.size ∙ ap (λ (i : Image). length i) same;
  each = λ p lt. ⊎_elim
      (λ (was : page c p ≡ page before p). inl (was ∙ ap (λ (i : Image). page i p) same))
      (λ (new : (is_among pages p ≡ true) × (page c p ≡ fence)). inr (or_true (q == p) (is_among pages p) new.0, new.1))
      (is.each p (subst (λ (i : Image). p < length i) (sym same) lt));
}
  where
    or_true : (a b : Bool) → b ≡ true → (a || b) ≡ true
    or_true true b is = refl
    or_true false b is = is
one_fenced q pages d before c (inr set) is = record {
  size = is.size ∙ size;
  each = λ p lt. ⊎_elim
      (λ (was : page c p ≡ page before p). one p lt was (cases_eq q p))
      (λ (new : (is_among pages p ≡ true) × (page c p ≡ fence)). inr (or_true (q == p) (is_among pages p) new.0, new.1))
      (is.each p (omega (arith, lt, size)));
}
  where
    size : length before ≡ length d
    size = ap (λ (i : Image). length i) set ∙ length-set d q fence

    or_true : (a b : Bool) → b ≡ true → (a || b) ≡ true
    or_true true b is = refl
    or_true false b is = is

    true_or : (a b : Bool) → a ≡ true → (a || b) ≡ true
    true_or true b is = refl
    true_or false b is = cc is

    one : (p : ℕ) → p < length d → page c p ≡ page before p → (q ≡ p) ⊎ (q ≢ p) → (page c p ≡ page d p) ⊎ ((is_among (q ∷ pages) p ≡ true) × (page c p ≡ fence))
    one p lt was (inl same) =
        let fenced : page c p ≡ fence = was ∙ ap (λ (i : Image). page i p) set ∙ subst (λ (r : ℕ). page (applied d ((r, fence) ∷ [])) p ≡ fence) (sym same) (page_same d p fence lt) in
        inr (true_or (q == p) (is_among pages p) (subst (λ (r : ℕ). (q == r) ≡ true) same (self q)), fenced)
      where
        self : (q : ℕ) → (q == q) ≡ true
        self q = grind arith
    one p lt was (inr other) = inl (was ∙ ap (λ (i : Image). page i p) set ∙ page_other d q p fence (λ same. other (sym same)))

pub crash_fenced : (s : State) (pages : List ℕ) (c : Image) → MayLeave (after_writes s (fences_on pages)) c → LeavesFenced pages s c
crash_fenced s [] c left = (c, subst (λ (z : State). MayLeave z c) (after_none s) left, record { size = refl; each = λ p lt. inl refl })
crash_fenced s (q ∷ pages) c left =
    let rest = crash_fenced (written s q fence) pages c (subst (λ (z : State). MayLeave z c) (sym (after_both s ((q, fence) ∷ []) (fences_on pages))) left) in
    let before = MayLeave-written s q fence rest.0 rest.1 in
    (before.0, before.1, one_fenced q pages before.0 rest.0 c before.2 rest.2)

-- ---- at the ends of a loop

pub fence_is : fence ≡ replicate 4096 255
unfolding fence
fence_is = refl

pub none_written : (s : State) (pages : List ℕ) → s ≡ after_writes s (fences_on (take 0 pages))
none_written s pages = sym (after_none s)

pub all_written : (pages : List ℕ) (k : ℕ) → length pages ≤ k → fences_on (take k pages) ≡ fences_on pages
all_written pages k done = ap fences_on (take_all k pages done)

-- each page of a list is among them
pub among_at : (pages : List ℕ) (k d : ℕ) → k < length pages → is_among pages (get_or pages k d) ≡ true
among_at pages k d lt = list_any_at (λ q. q == get_or pages k d) pages k d lt (itself (get_or pages k d))
  where
    itself : (p : ℕ) → (p == p) ≡ true
    itself p = grind arith
