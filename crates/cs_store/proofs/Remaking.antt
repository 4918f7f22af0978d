-- Disks on which the lost sections of a store were made.
use Rattle.std.proofs.Common.{◌≡◌, ◌≢◌, ◌∙◌, ◌+◌, ◌++◌, ◌==◌, ◌≤◌, ◌⊎◌, ⊎_elim, IfOk, Ok, Result, Err, inl, inr, subst, arith, ℕ, zero, suc, true, false, length, true≢false, List, [], ◌∷◌, Some, None, map, take, ap, refl, sym}
use Rattle.std.specs.Prelude.{slice_get}
use Rattle.std.proofs.lemmas.Bool.{eqb-true}
use Rattle.std.proofs.lemmas.List.{ext_get_or}
use Rattle.std.proofs.lemmas.Option.{same_Some}
use Rattle.cs_chunk.specs.Reads.{IsCaused, IsNoAnswer}
use Rattle.cs_disk.specs.declared.disk.PageDisk.{Ghosts as PageDisk}
use Rattle.cs_disk.specs.declared.fault.DiskFault.{DiskFault}
use Rattle.cs_disk.specs.declared.fault.DiskFault.TheVariants as fault
use Rattle.cs_disk.specs.Disk.{HasCause, Image, Leaves, LeavesOnly, MayLeave, Rises, State, Write, latest, page, seen}
use Rattle.cs_disk.specs.Reads.{OnlyReads}
use Rattle.cs_disk.proofs.Moments.{IsSafe, narrows, started, stays}
use Rattle.cs_mount.proofs.Laying.{leaves_more}
use Rattle.cs_refusal.specs.declared.refusals.Refusal.{Refusal}
use Rattle.cs_refusal.specs.declared.refusals.Refusal.TheVariants.{DeviceFault, NotAStore}
use Rattle.cs_mount.proofs.Repaging.{length-repaged, page-repaged}
use Rattle.cs_mount.specs.Remaking.{LeavesRemaking, fencing, remade, remade_on}
use Rattle.cs_mount.specs.Identities.{AreOfTwo}
use Rattle.cs_mount.specs.MadeSections.{AreMadeOn}
use Rattle.cs_mount.specs.Showing.{findings_on, shown_on}
use Rattle.cs_reader.specs.Openings.{IsWhyNotOpened}
use Rattle.cs_store.specs.LostSections.{FailsThough, IsOpenedRemade, IsWhyRefused, made_on}
use Rattle.cs_twin.specs.declared.findings.Finding.{Finding}

-- no writes show all as it is
remade_none : (image : Image) → remade [] image ≡ image
remade_none image = ext_get_or [] (remade [] image) image (length-repaged (latest []) image) (λ p lt. page-repaged (latest []) image p (let size = length-repaged (latest []) image in omega (arith, lt, size)))

-- none were made
pub none_made : (writes : List Write) (s t : State) → writes ≡ [] → t ≡ s → t ≡ made_on writes s
none_made writes s t none same = same ∙ sym (ap (λ ws. made_on ws s) none)

pub none_seen : (writes : List Write) (s t : State) → writes ≡ [] → t ≡ s → seen t ≡ remade writes (seen s)
none_seen writes s t none same = ap seen same ∙ sym (remade_none (seen s)) ∙ sym (ap (λ ws. remade ws (seen s)) none)

-- some were
pub some_made : (writes given : List Write) (s mid t : State) → writes ≢ [] → given ≡ writes → mid ≡ s → t ≡ remade_on given mid → t ≡ made_on writes s
some_made writes given s mid t some same still is = is ∙ ap (λ ws. remade_on ws mid) same ∙ ap (remade_on writes) still ∙ by writes some
  where
    by : (ws : List Write) → ws ≢ [] → remade_on ws s ≡ made_on ws s
    by [] empty = absurd (empty refl)
    by (w ∷ ws) empty = refl

pub some_seen : (writes given : List Write) (s mid t : State) → given ≡ writes → mid ≡ s → seen t ≡ remade given (seen mid) → seen t ≡ remade writes (seen s)
some_seen writes given s mid t same still is = is ∙ ap (λ ws. remade ws (seen mid)) same ∙ ap (λ z. remade writes (seen z)) still

-- one page more is told
pub page_more : (writes : List Write) (k : ℕ) (w : Write) (pages : List ℕ) → slice_get writes k ≡ Some w → pages ≡ map (λ x. x.0) (take k writes) → pages ++ w.0 ∷ [] ≡ map (λ x. x.0) (take (k + 1) writes)
page_more [] k w pages at is = absurd (let clash : None ≡ Some w = at in cc clash)
page_more (v ∷ writes) zero w pages at is = ap (λ ps. ps ++ w.0 ∷ []) is ∙ ap (λ (x : Write). x.0 ∷ []) (sym (same_Some v w at))
page_more (v ∷ writes) (suc k) w pages at is = ap (λ ps. ps ++ w.0 ∷ []) is ∙ ap (λ ps. v.0 ∷ ps) (page_more writes k w (map (λ x. x.0) (take k writes)) at refl)
    ∙ ap (λ (n : ℕ). map (λ (x : Write). x.0) (take n (v ∷ writes))) (let same : suc (k + 1) ≡ suc k + 1 = omega arith in same)

-- a list by its length
pub empty_items : {X : Type 0} (xs : List X) (n : ℕ) → length xs ≡ n → (n == 0) ≡ true → xs ≡ []
empty_items [] n size test = refl
empty_items (x ∷ xs) n size test = let is : n ≡ 0 = eqb-true n 0 test in absurd (omega (arith, size, is))

pub some_items : {X : Type 0} (xs : List X) (n : ℕ) → length xs ≡ n → (n == 0) ≡ false → xs ≢ []
some_items [] n size test none = true≢false (ap (λ k. k == 0) size ∙ test)
some_items (x ∷ xs) n size test none = let clash : x ∷ xs ≡ [] = none in cc clash

-- what a crash leaves: before a disk that was only read is written, and after
module _ {D : Type 0} (disks : PageDisk D) (old mid new : D) (honest : disks.honest old) (reads : OnlyReads disks old mid) (only : (c : Image) → disks.left_since old (disks.moment old) c → MayLeave (disks.state old) c) (writes : List Write) where
  safe_reads : IsSafe disks.state disks.moment disks.left_since old mid (LeavesRemaking writes (disks.state old))
  safe_reads = stays disks.state disks.moment disks.left_since old old mid (LeavesRemaking writes (disks.state old))
      (started disks.state disks.moment disks.left_since old (LeavesRemaking writes (disks.state old)) (λ c left. inl (leaves_more (disks.state old) (fencing writes) c left)) only)
      (reads.time honest) (reads.same honest)

  pub none_leaves : LeavesOnly disks.moment disks.left_since old mid (LeavesRemaking writes (disks.state old))
  none_leaves = safe_reads.any_moment

  -- these were given to be written
  module _ (given : List Write) (same : given ≡ writes) where
    its : (c : Image) → LeavesRemaking given (disks.state mid) c → LeavesRemaking writes (disks.state old) c
    its c left = subst (λ ws. LeavesRemaking ws (disks.state old) c) same (subst (λ z. LeavesRemaking given z c) (reads.same honest) left)

    pub some_leave : LeavesOnly disks.moment disks.left_since mid new (LeavesRemaking given (disks.state mid)) → Leaves (disks.state new) (LeavesRemaking given (disks.state mid))
        → LeavesOnly disks.moment disks.left_since old new (LeavesRemaking writes (disks.state old))
    some_leave crash left = (narrows disks.state disks.moment disks.left_since old mid new (LeavesRemaking writes (disks.state old)) (LeavesRemaking given (disks.state mid)) safe_reads its
        (record { any_moment = crash; now = left })).any_moment

    pub left_so : Leaves (disks.state new) (LeavesRemaking given (disks.state mid)) → Leaves (disks.state new) (LeavesRemaking writes (disks.state old))
    left_so left c is = its c (left c is)

-- 1 is an answer of the device, also after reads
pub caused_after : {T U : Type 0} (a b c : ℕ) (result : Result T DiskFault) (r : Refusal) (f : DiskFault) → a ≤ b → result ≡ Err f → HasCause b c result → (r ≡ DeviceFault → f ≡ fault.DeviceFault) → IsCaused {T = U} a c (Err r)
caused_after a b c result r f before is cause device = record {
  later = let later = cause.later in omega (arith, before, later);
  failed = λ e. let same : r ≡ DeviceFault = cc e in let rises : Rises b c = cause.failed (is ∙ ap Err (device same)) in grind arith;
}

-- ---- what is opened

module _ (count pages : ℕ) (now image : Image) (writes : List Write) (sized : count ≡ pages) (shows : now ≡ remade writes image) (made : AreMadeOn pages image writes) where
  pub opened_remade : (told : List ℕ) (findings : List Finding) (opened : Image) (shown : State) → told ≡ map (λ w. w.0) writes → (opened ≡ shown_on count now) × (shown ≡ record { durable = shown_on count now; volatile = [] })
      → findings ≡ findings_on count now → IsOpenedRemade pages image told findings opened shown
  opened_remade told findings opened shown pages_told is found =
      let same : shown_on count now ≡ shown_on pages (remade writes image) = ap (shown_on count) shows ∙ ap (λ (k : ℕ). shown_on k (remade writes image)) sized in
      record {
        writes = writes;
        made = made;
        pages_told = pages_told;
        image_is = is.0 ∙ same;
        shown_is = is.1 ∙ ap (λ (z : Image). record { durable = z; volatile = [] }) same;
        findings_are = found ∙ ap (findings_on count) shows ∙ ap (λ (k : ℕ). findings_on k (remade writes image)) sized;
      }

  pub fails_though : (r : Refusal) (W : Type 0) → IsNoAnswer r ⊎ ((r ≡ NotAStore) × AreOfTwo count now) ⊎ IsWhyNotOpened count (page (shown_on count now)) r → IsNoAnswer r ⊎ W ⊎ FailsThough pages image r
  fails_though r W why = ⊎_elim (λ none. inl none) (λ fails. inr (inr (
    writes,
    made,
    subst (λ (i : Image). IsWhyRefused pages i r) shows (subst (λ (k : ℕ). IsWhyRefused k now r) sized fails),
  ))) why

-- what is so of all that was opened
pub if_opened : {T E : Type 0} (r : Result T E) (P Q : T → Type 0) → ((x : T) → P x → Q x) → IfOk r P → IfOk r Q
if_opened (Ok x) P Q then_so is = then_so x is
if_opened (Err e) P Q then_so is = tt
