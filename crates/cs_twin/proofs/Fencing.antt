-- Which halves are whole or a fence, and what writes leave of them.
use Rattle.std.proofs.Common.{◌≡◌, ◌⊎◌, inl, inr, ⊎_elim, if◌then◌else◌, ◌==◌, ◌&&◌, not, ℕ, zero, suc, ◌<◌, ◌≤◌, Bool, true, false, List, [], ◌∷◌, Some, slice_get, length, replicate, refl, sym, ◌∙◌, ap, subst, arith}
use Rattle.std.specs.List.{list_all}
use Rattle.std.proofs.lemmas.Bool.{and_parts, cases_lt, eqb-true}
use Rattle.std.proofs.lemmas.List.{length-replicate}
use Rattle.std.proofs.lemmas.Option.{same_Some}
use Rattle.cs_disk.specs.Disk.{Image, MayLeave, State, Write, applied, kept, page}
use Rattle.cs_disk.proofs.Images.{length-applied, page-applied}
use Rattle.cs_twin.specs.declared.findings.Half.TheVariants.{Damaged, Fence, Whole}
use Rattle.cs_twin.specs.declared.pairs.Pair.{Pair}
use Rattle.cs_twin.specs.Fences.{AreFenced, AreOverKnown, AreWhole, IsGuarded, IsWholeOrFence}
use Rattle.cs_twin.specs.Findings.{are_known, finding_in, half_in, half_with, is_damaged, is_fence, is_known}
use Rattle.cs_twin.specs.Pairs.{AreNoOlder, Versions, fence, half, version_at}
use Rattle.cs_twin.proofs.Leaving.{kept_among}
use Rattle.cs_twin.proofs.Roles.{if_other}
use Rattle.cs_twin.proofs.Shown.{IsLast, latest_none, latest_of}

-- ---- bytes of 255

all_same : (bytes : List ℕ) → list_all (λ b. b == 255) bytes ≡ true → bytes ≡ replicate (length bytes) 255
all_same [] is = refl
all_same (b ∷ bytes) is =
    let both = and_parts (b == 255) (list_all (λ c. c == 255) bytes) is in
    ap (λ n. n ∷ bytes) (eqb-true b 255 both.0) ∙ ap (λ (l : List ℕ). 255 ∷ l) (all_same bytes both.1)

same_all : (n : ℕ) → list_all (λ b. b == 255) (replicate n 255) ≡ true
same_all zero = refl
same_all (suc n) = same_all n

pub fence_is : (bytes : List ℕ) → length bytes ≡ 4096 → is_fence bytes ≡ true → bytes ≡ fence
unfolding fence
fence_is bytes size is = all_same bytes is ∙ ap (λ n. replicate n 255) size

pub fence_tests : is_fence fence ≡ true
unfolding fence
fence_tests = same_all 4096

pub length-fence : length fence ≡ 4096
unfolding fence
length-fence = length-replicate {A = ℕ} 4096 255

-- ---- what is known of a half

-- It is whole or a fence where it isn't damaged.
with_known : (version : ℕ) (bytes : List ℕ) → length bytes ≡ 4096 → is_damaged (half_with version bytes) ≡ false → version ≡ 0 → bytes ≡ fence
with_known zero bytes size known none = by_test (is_fence bytes) refl known
  where
    by_test : (b : Bool) → is_fence bytes ≡ b → is_damaged (if b then Fence else Damaged) ≡ false → bytes ≡ fence
    by_test true test known = fence_is bytes size test
    by_test false test known = cc
with_known (suc n) bytes size known none = absurd (omega (arith, none))

known_with : (version : ℕ) (bytes : List ℕ) → (version ≡ 0 → bytes ≡ fence) → is_damaged (half_with version bytes) ≡ false
known_with zero bytes is = ap (λ b. is_damaged (if b then Fence else Damaged)) (ap is_fence (is refl) ∙ fence_tests)
known_with (suc n) bytes is = ap is_damaged (if_other (suc n) 0 (if is_fence bytes then Fence else Damaged) (Whole (suc n)) (λ e. absurd (omega (arith, e))))

not_true : (b : Bool) → not b ≡ true → b ≡ false
not_true true is = cc
not_true false is = refl

module _ (V : Versions) (image : Image) where
  pub half_known : (x : Pair) (twin : Bool) → length (page image (half x twin)) ≡ 4096 → is_damaged (half_in V image x twin) ≡ false → IsWholeOrFence V x.page (page image (half x twin))
  half_known x twin size known none = with_known (version_at V image x twin) (page image (half x twin)) size known none

  pub known_half : (x : Pair) (twin : Bool) → IsWholeOrFence V x.page (page image (half x twin)) → is_damaged (half_in V image x twin) ≡ false
  known_half x twin known = known_with (version_at V image x twin) (page image (half x twin)) known

  pair_known : (x : Pair) → is_known (finding_in V image x) ≡ true → (twin : Bool) → is_damaged (half_in V image x twin) ≡ false
  pair_known x known =
      let both = and_parts (not (is_damaged (half_in V image x false))) (not (is_damaged (half_in V image x true))) known in
      of_half both.0 both.1
    where
      of_half : not (is_damaged (half_in V image x false)) ≡ true → not (is_damaged (half_in V image x true)) ≡ true → (twin : Bool) → is_damaged (half_in V image x twin) ≡ false
      of_half own twin true = not_true (is_damaged (half_in V image x true)) twin
      of_half own twin false = not_true (is_damaged (half_in V image x false)) own

  -- all that were found so are fenced
  pub found_fenced : (pairs : List Pair) → ((k : ℕ) (x : Pair) (twin : Bool) → slice_get pairs k ≡ Some x → length (page image (half x twin)) ≡ 4096) → are_known V image pairs ≡ true → AreFenced V pairs image
  found_fenced [] size known k x twin at = cc
  found_fenced (y ∷ pairs) size known zero x twin at =
      let both = and_parts (is_known (finding_in V image y)) (are_known V image pairs) known in
      subst (λ (z : Pair). IsWholeOrFence V z.page (page image (half z twin))) (same_Some y x at) (half_known y twin (size 0 y twin refl) (pair_known y both.0 twin))
  found_fenced (y ∷ pairs) size known (suc k) x twin at =
      let both = and_parts (is_known (finding_in V image y)) (are_known V image pairs) known in
      found_fenced pairs (λ j z b at_j. size (suc j) z b at_j) both.1 k x twin at

  -- and those that are fenced are found so
  pub fenced_found : (pairs : List Pair) → AreFenced V pairs image → are_known V image pairs ≡ true
  fenced_found [] fenced = refl
  fenced_found (y ∷ pairs) fenced =
      ap (λ b. not b && not (is_damaged (half_in V image y true)) && are_known V image pairs) (known_with (version_at V image y false) (page image (half y false)) (fenced 0 y false refl))
      ∙ ap (λ b. not b && are_known V image pairs) (known_with (version_at V image y true) (page image (half y true)) (fenced 0 y true refl))
      ∙ fenced_found pairs (λ k x twin at. fenced (suc k) x twin at)

-- ---- what a crash leaves of a page

-- what a volatile write to the page wrote
pub record IsWritten (s : State) (p : ℕ) (bytes : List ℕ) : Type 0 where
  pub place : ℕ
  pub write : Write
  pub at : slice_get s.volatile place ≡ Some write
  pub goes : write.0 ≡ p
  pub is : bytes ≡ write.1

past_default : (image : Image) (p : ℕ) → length image ≤ p → page image p ≡ []
past_default [] p le = refl
past_default (bytes ∷ image) zero le = absurd (omega (arith, le))
past_default (bytes ∷ image) (suc p) le = past_default image p (omega (arith, le))

pub left_at : (s : State) (mask : List Bool) (p : ℕ) → (page (applied s.durable (kept mask s.volatile)) p ≡ page s.durable p) ⊎ IsWritten s p (page (applied s.durable (kept mask s.volatile)) p)
left_at s mask p = ⊎_elim (λ (lt : p < length s.durable). inside lt (latest_of (kept mask s.volatile) p))
    (λ (le : length s.durable ≤ p). inl (past_default (applied s.durable (kept mask s.volatile)) p (omega (arith, le, length-applied s.durable (kept mask s.volatile))) ∙ sym (past_default s.durable p le)))
    (cases_lt p (length s.durable))
  where
    inside : p < length s.durable → IsLast (kept mask s.volatile) p ⊎ ((i : ℕ) (w : Write) → slice_get (kept mask s.volatile) i ≡ Some w → w.0 ≡ p → ⊥)
        → (page (applied s.durable (kept mask s.volatile)) p ≡ page s.durable p) ⊎ IsWritten s p (page (applied s.durable (kept mask s.volatile)) p)
    inside lt (inl last) =
        let found = kept_among mask s.volatile last.place last.write last.at in
        inr (record { place = found.0; write = last.write; at = found.1; goes = last.goes; is = page-applied s.durable (kept mask s.volatile) p lt ∙ last.is (page s.durable p) })
    inside lt (inr none) = inl (page-applied s.durable (kept mask s.volatile) p lt ∙ latest_none (kept mask s.volatile) p (page s.durable p) none)

-- Halves that were whole or a fence are left so.
pub fenced_left : (V : Versions) (pairs : List Pair) (s : State) (c : Image) → AreNoOlder V pairs s → AreFenced V pairs s.durable → MayLeave s c → AreFenced V pairs c
fenced_left V pairs s c newer fenced left k x twin at =
    subst (λ (image : Image). IsWholeOrFence V x.page (page image (half x twin))) (sym left.2) (from (left_at s left.0 (half x twin)))
  where
    from : (page (applied s.durable (kept left.0 s.volatile)) (half x twin) ≡ page s.durable (half x twin)) ⊎ IsWritten s (half x twin) (page (applied s.durable (kept left.0 s.volatile)) (half x twin))
        → IsWholeOrFence V x.page (page (applied s.durable (kept left.0 s.volatile)) (half x twin))
    from (inl same) none = same ∙ fenced k x twin at (ap (V x.page) (sym same) ∙ none)
    from (inr w) none = w.is ∙ (newer.each k w.place x w.write at w.at twin w.goes).2 (ap (V x.page) (sym w.is) ∙ none)

-- ---- what is so where all halves are known, or all writes whole

pub guarded_fenced : (V : Versions) (pairs : List Pair) (s : State) → AreFenced V pairs s.durable → IsGuarded V pairs s
guarded_fenced V pairs s fenced k i x w twin other at at_i goes some = fenced k x other at

pub alike_whole : (V : Versions) (pairs : List Pair) (s : State) → AreWhole V pairs s → (k i j : ℕ) (x : Pair) (v w : Write) (b c : Bool) → slice_get pairs k ≡ Some x → slice_get s.volatile i ≡ Some v
    → slice_get s.volatile j ≡ Some w → v.0 ≡ half x b → w.0 ≡ half x c → V x.page v.1 ≡ 0 → V x.page w.1 ≡ 0
alike_whole V pairs s whole k i j x v w b c at at_i at_j there goes none = absurd (let some = whole k i x v b at at_i there in omega (arith, some, none))

pub over_known : (V : Versions) (pairs : List Pair) (s : State) → IsGuarded V pairs s → AreWhole V pairs s → AreOverKnown V pairs s
over_known V pairs s guarded whole k i x w twin at at_i goes = guarded k i x w twin twin at at_i goes (whole k i x w twin at at_i goes)
