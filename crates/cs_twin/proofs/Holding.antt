-- What is noted of pairs, as it is read, written and flushed.
use Rattle.std.proofs.Common.{◌≡◌, ℕ, zero, suc, ◌+◌, ◌<◌, ◌≤◌, ◌&&◌, Bool, true, false, if◌then◌else◌, List, [], ◌∷◌, ◌++◌, get_or, set, take, length, map, nat_le, refl, sym, ◌∙◌, ap, subst, add-one, arith}
use Rattle.std.proofs.lemmas.List.{map_more, take_all, take_more_set}
use Rattle.std.proofs.lemmas.Option.{slice_get-get_or}
use Rattle.cs_disk.specs.Disk.{Image, State, page, seen}
use Rattle.cs_twin.specs.declared.findings.Finding.{Finding}
use Rattle.cs_twin.specs.declared.findings.Half.TheVariants.{Damaged, Fence, Whole}
use Rattle.cs_twin.specs.declared.pairs.Held.{Held}
use Rattle.cs_twin.specs.declared.pairs.Pair.{Pair}
use Rattle.cs_twin.specs.Findings.{are_known, finding_in, half_in, half_version, half_with, held_of, is_fence, is_known}
use Rattle.cs_twin.specs.Pairs.{ArePairs, Versions, half, held_in, is_turned, version_at}
use Rattle.cs_twin.proofs.Roles.{if_other}

-- ---- reads

-- the version of a half is the one that its bytes spell
pub version_with : (version : ℕ) (bytes : List ℕ) → half_version (half_with version bytes) ≡ version
version_with zero bytes = by_test (is_fence bytes)
  where
    by_test : (b : Bool) → half_version (if b then Fence else Damaged) ≡ 0
    by_test true = refl
    by_test false = refl
version_with (suc n) bytes = ap half_version (if_other (suc n) 0 (if is_fence bytes then Fence else Damaged) (Whole (suc n)) (λ e. absurd (omega (arith, e))))

pub version_found : (V : Versions) (image : Image) (x : Pair) (twin : Bool) → half_version (half_in V image x twin) ≡ version_at V image x twin
version_found V image x twin = version_with (version_at V image x twin) (page image (half x twin))

-- what a finding says is what is held
pub held_found : (V : Versions) (image : Image) (x : Pair) → held_of (finding_in V image x) ≡ held_in V image x
held_found V image x =
    ap (λ n. holds n (half_version (half_in V image x true))) (version_found V image x false) ∙ ap (holds (version_at V image x false)) (version_found V image x true)
    ∙ ap (λ n. record { turned = is_turned V image x; version = n }) (by_case (is_turned V image x))
  where
    holds : ℕ → ℕ → Held
    holds own twin = record { turned = nat_le own twin; version = if nat_le own twin then twin else own }

    by_case : (t : Bool) → (if t then version_at V image x true else version_at V image x false) ≡ version_at V image x t
    by_case true = refl
    by_case false = refl

-- one pair more was read
pub held_more : (V : Versions) (image : Image) (pairs : List Pair) (held : List Held) (k : ℕ) (d : Pair) (new : Held) → k < length pairs → length held ≡ length pairs
    → take k held ≡ map (held_in V image) (take k pairs) → new ≡ held_in V image (get_or pairs k d) → take (k + 1) (set held k new) ≡ map (held_in V image) (take (k + 1) pairs)
held_more V image pairs held k d new lt size before is =
    take_more_set held k new (omega (arith, lt, size)) ∙ ap (λ (l : List Held). l ++ new ∷ []) before ∙ ap (λ (h : Held). map (held_in V image) (take k pairs) ++ h ∷ []) is
    ∙ sym (map_more (held_in V image) pairs k d lt)

-- and all
pub held_all : (V : Versions) (image : Image) (pairs : List Pair) (held : List Held) (k : ℕ) → length pairs ≤ k → length held ≡ length pairs
    → take k held ≡ map (held_in V image) (take k pairs) → held ≡ map (held_in V image) pairs
held_all V image pairs held k le size before = sym (take_all k held (omega (arith, le, size))) ∙ before ∙ ap (map (held_in V image)) (take_all k pairs le)

-- a pair at a place lies on the device
pub inside_at : (pairs : List Pair) (n m k : ℕ) (d : Pair) (twin : Bool) → ArePairs pairs n → m ≡ n → k < length pairs → half (get_or pairs k d) twin < m
inside_at pairs n m k d twin are same lt = subst (λ p. half (get_or pairs k d) twin < p) (sym same) (are.inside k (get_or pairs k d) twin (slice_get-get_or pairs k d lt))

-- what was found of a disk in this state is held
pub found_held : (V : Versions) (s before : State) (x : Pair) (it : Finding) (held : Held) → s ≡ before → held ≡ held_of it → it ≡ finding_in V (seen s) x → held ≡ held_in V (seen before) x
found_held V s before x it held same is found =
    is ∙ ap held_of found ∙ held_found V (seen s) x ∙ ap (λ (z : State). held_in V (seen z) x) same

-- one finding more
pub found_more : (V : Versions) (s before : State) (pairs : List Pair) (found new : List Finding) (k : ℕ) (d : Pair) (it : Finding) → k < length pairs → s ≡ before
    → found ≡ map (finding_in V (seen before)) (take k pairs) → it ≡ finding_in V (seen s) (get_or pairs k d) → new ≡ found ++ it ∷ [] → new ≡ map (finding_in V (seen before)) (take (k + 1) pairs)
found_more V s before pairs found new k d it lt same was is pushed =
    pushed ∙ ap (λ (l : List Finding). l ++ it ∷ []) was
    ∙ ap (λ (f : Finding). map (finding_in V (seen before)) (take k pairs) ++ f ∷ []) (is ∙ ap (λ (z : State). finding_in V (seen z) (get_or pairs k d)) same)
    ∙ sym (map_more (finding_in V (seen before)) pairs k d lt)

-- whether one pair more is known
known_suc : (V : Versions) (image : Image) (pairs : List Pair) (k : ℕ) (d : Pair) → k < length pairs → are_known V image (take (suc k) pairs) ≡ (are_known V image (take k pairs) && is_known (finding_in V image (get_or pairs k d)))
known_suc V image [] k d lt = absurd (omega (arith, lt))
known_suc V image (x ∷ pairs) zero d lt = either_way (is_known (finding_in V image x))
  where
    either_way : (b : Bool) → (b && true) ≡ (true && b)
    either_way true = refl
    either_way false = refl
known_suc V image (x ∷ pairs) (suc k) d lt =
    ap (λ b. is_known (finding_in V image x) && b) (known_suc V image pairs k d (omega (arith, lt)))
    ∙ in_order (is_known (finding_in V image x)) (are_known V image (take k pairs)) (is_known (finding_in V image (get_or pairs k d)))
  where
    in_order : (a b c : Bool) → (a && (b && c)) ≡ ((a && b) && c)
    in_order true b c = refl
    in_order false b c = refl

known_more : (V : Versions) (image : Image) (pairs : List Pair) (k : ℕ) (d : Pair) → k < length pairs → are_known V image (take (k + 1) pairs) ≡ (are_known V image (take k pairs) && is_known (finding_in V image (get_or pairs k d)))
known_more V image pairs k d lt = rw (add-one k) (known_suc V image pairs k d lt)

pub known_next : (V : Versions) (s before : State) (pairs : List Pair) (k : ℕ) (d : Pair) (it : Finding) (was now found : Bool) → k < length pairs → s ≡ before → was ≡ are_known V (seen before) (take k pairs)
    → it ≡ finding_in V (seen s) (get_or pairs k d) → found ≡ is_known it → now ≡ (was && found) → now ≡ are_known V (seen before) (take (k + 1) pairs)
known_next V s before pairs k d it was now found lt same so_far is tested both =
    both ∙ ap (λ b. b && found) so_far
    ∙ ap (λ b. are_known V (seen before) (take k pairs) && b) (tested ∙ ap is_known (is ∙ ap (λ (z : State). finding_in V (seen z) (get_or pairs k d)) same))
    ∙ sym (known_more V (seen before) pairs k d lt)

pub known_all : (V : Versions) (image : Image) (pairs : List Pair) (known : Bool) (k : ℕ) → length pairs ≤ k → known ≡ are_known V image (take k pairs) → known ≡ are_known V image pairs
known_all V image pairs known k le is = is ∙ ap (are_known V image) (take_all k pairs le)
