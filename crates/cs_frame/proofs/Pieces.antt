-- Values spelled in pieces of one size, one after another.
use Rattle.std.proofs.Common.{◌<◌, add-one, get_or, subst, sym, ◌≡◌, ℕ, zero, suc, ◌+◌, ◌*◌, List, [], ◌∷◌, ◌++◌, length, take, drop, map, refl, ap, ◌∙◌, arith, length-append}
use Rattle.std.specs.List.{AllByRecursion, flat_map}
use Rattle.std.specs.Simd.{first_chunks}
use Rattle.std.proofs.lemmas.List.{take_at, drop_at, length-drop, length-take-le, take-append-drop}
use Rattle.cs_frame.specs.Bytes.{IsBytes}
use Rattle.cs_frame.proofs.Fields.{IsBytes-take, IsBytes-drop}

-- what holds of bytes of the size holds of each piece
pub each_piece : (P : List ℕ → Type 0) (size count : ℕ) (bytes : List ℕ) → ((piece : List ℕ) → IsBytes piece → length piece ≡ size → P piece) → IsBytes bytes → length bytes ≡ size * count → AllByRecursion P (first_chunks size count bytes)
each_piece P size zero bytes h are long = tt
each_piece P size (suc count) bytes h are long =
    let whole : size * suc count ≡ size + size * count = omega arith in
    (h (take size bytes) (IsBytes-take size bytes are) (length-take-le size bytes (omega arith)), each_piece P size count (drop size bytes) h (IsBytes-drop size bytes are) (omega (arith, length-drop size bytes)))

module _ {X : Type 0} (spell : X → List ℕ) (read : List ℕ → X) (size : ℕ) where
  -- pieces that are spelled by what is read from them are all of the bytes
  pub spelled_pieces : (count : ℕ) (bytes : List ℕ) → AllByRecursion (λ piece. spell (read piece) ≡ piece) (first_chunks size count bytes) → length bytes ≡ size * count → flat_map spell (map read (first_chunks size count bytes)) ≡ bytes
  spelled_pieces zero [] h long = refl
  spelled_pieces zero (b ∷ bytes) h long = absurd (omega arith)
  spelled_pieces (suc count) bytes h long =
      let whole : size * suc count ≡ size + size * count = omega arith in
      ap (λ (xs : List ℕ). xs ++ flat_map spell (map read (first_chunks size count (drop size bytes)))) h.0
      ∙ ap (λ (xs : List ℕ). take size bytes ++ xs) (spelled_pieces count (drop size bytes) h.1 (omega (arith, length-drop size bytes)))
      ∙ take-append-drop size bytes

  -- so many bytes for each
  pub length-spelled : ((x : X) → length (spell x) ≡ size) → (xs : List X) → length (flat_map spell xs) ≡ size * length xs
  length-spelled each [] = omega arith
  length-spelled each (x ∷ xs) =
      let whole : size * suc (length xs) ≡ size + size * length xs = omega arith in
      omega (arith, length-append (spell x) (flat_map spell xs), each x, length-spelled each xs)

  -- what is spelled is read again
  pub read_pieces : (Fits : X → Type 0) → ((x : X) → length (spell x) ≡ size) → ((x : X) → Fits x → read (spell x) ≡ x) → (xs : List X) → AllByRecursion Fits xs → map read (first_chunks size (length xs) (flat_map spell xs)) ≡ xs
  read_pieces Fits each again [] h = refl
  read_pieces Fits each again (x ∷ xs) h =
      let front : take size (spell x ++ flat_map spell xs) ≡ spell x = take_at (spell x) (flat_map spell xs) size (each x) in
      let rest : drop size (spell x ++ flat_map spell xs) ≡ flat_map spell xs = drop_at (spell x) (flat_map spell xs) size (each x) in
      ap (λ (b : List ℕ). read b ∷ map read (first_chunks size (length xs) (drop size (spell x ++ flat_map spell xs)))) front
      ∙ ap (λ (b : List ℕ). read (spell x) ∷ map read (first_chunks size (length xs) b)) rest
      ∙ ap (λ (y : X). y ∷ map read (first_chunks size (length xs) (flat_map spell xs))) (again x h.0)
      ∙ ap (λ (ys : List X). x ∷ ys) (read_pieces Fits each again xs h.1)

pub length-first_chunks : {X : Type 0} (n k : ℕ) (xs : List X) → length (first_chunks n k xs) ≡ k
length-first_chunks n zero xs = refl
length-first_chunks n (suc k) xs = ap (λ (j : ℕ). suc j) (length-first_chunks n k (drop n xs))

pub AllByRecursion-map : {X Y : Type 0} (P : Y → Type 0) (f : X → Y) (xs : List X) → AllByRecursion (λ x. P (f x)) xs → AllByRecursion P (map f xs)
AllByRecursion-map P f [] h = tt
AllByRecursion-map P f (x ∷ xs) h = (h.0, AllByRecursion-map P f xs h.1)

-- two facts of each
pub AllByRecursion-and : {X : Type 0} (P Q R : X → Type 0) → ((x : X) → P x → Q x → R x) → (xs : List X) → AllByRecursion P xs → AllByRecursion Q xs → AllByRecursion R xs
AllByRecursion-and P Q R f [] p q = tt
AllByRecursion-and P Q R f (x ∷ xs) p q = (f x p.0 q.0, AllByRecursion-and P Q R f xs p.1 q.1)

-- lists of one size, joined and cut again
pub length-joined : (size : ℕ) (xs : List (List ℕ)) → AllByRecursion (λ (x : List ℕ). length x ≡ size) xs → length (flat_map (λ x. x) xs) ≡ size * length xs
length-joined size [] h = omega arith
length-joined size (x ∷ xs) h =
    let whole : size * suc (length xs) ≡ size + size * length xs = omega arith in
    omega (arith, length-append x (flat_map (λ y. y) xs), h.0, length-joined size xs h.1)

pub chunks_of_joined : (size : ℕ) (xs : List (List ℕ)) → AllByRecursion (λ (x : List ℕ). length x ≡ size) xs → first_chunks size (length xs) (flat_map (λ x. x) xs) ≡ xs
chunks_of_joined size [] h = refl
chunks_of_joined size (x ∷ xs) h =
    ap (λ (b : List ℕ). b ∷ first_chunks size (length xs) (drop size (x ++ flat_map (λ y. y) xs))) (take_at x (flat_map (λ y. y) xs) size h.0)
    ∙ ap (λ (b : List ℕ). x ∷ first_chunks size (length xs) b) (drop_at x (flat_map (λ y. y) xs) size h.0)
    ∙ ap (λ (ys : List (List ℕ)). x ∷ ys) (chunks_of_joined size xs h.1)

-- and cut and joined again
pub joined_chunks : (size count : ℕ) (bytes : List ℕ) → length bytes ≡ size * count → flat_map (λ x. x) (first_chunks size count bytes) ≡ bytes
joined_chunks size zero [] long = refl
joined_chunks size zero (b ∷ bytes) long = absurd (omega arith)
joined_chunks size (suc count) bytes long =
    let whole : size * suc count ≡ size + size * count = omega arith in
    ap (λ (xs : List ℕ). take size bytes ++ xs) (joined_chunks size count (drop size bytes) (omega (arith, length-drop size bytes))) ∙ take-append-drop size bytes

-- the same where the size is that of what fits
module _ {X : Type 0} (spell : X → List ℕ) (size : ℕ) (Fits : X → Type 0) (each : (x : X) → Fits x → length (spell x) ≡ size) where
  pub length-spelled_fit : (xs : List X) → AllByRecursion Fits xs → length (flat_map spell xs) ≡ size * length xs
  length-spelled_fit [] h = omega arith
  length-spelled_fit (x ∷ xs) h =
      let whole : size * suc (length xs) ≡ size + size * length xs = omega arith in
      omega (arith, length-append (spell x) (flat_map spell xs), each x h.0, length-spelled_fit xs h.1)

  pub cut_spelled : (xs : List X) → AllByRecursion Fits xs → first_chunks size (length xs) (flat_map spell xs) ≡ map spell xs
  cut_spelled [] h = refl
  cut_spelled (x ∷ xs) h =
      ap (λ (b : List ℕ). b ∷ first_chunks size (length xs) (drop size (spell x ++ flat_map spell xs))) (take_at (spell x) (flat_map spell xs) size (each x h.0))
      ∙ ap (λ (b : List ℕ). spell x ∷ first_chunks size (length xs) b) (drop_at (spell x) (flat_map spell xs) size (each x h.0))
      ∙ ap (λ (ys : List (List ℕ)). spell x ∷ ys) (cut_spelled xs h.1)

-- one element more
pub all_more : {X : Type 0} (P : X → Type 0) (xs : List X) (i : ℕ) (d : X) → i < length xs → AllByRecursion P (take i xs) → P (get_or xs i d) → AllByRecursion P (take (i + 1) xs)
all_more {X = X} P xs i d inside before here = subst (λ (n : ℕ). AllByRecursion P (take n xs)) (sym (add-one i)) (by xs i inside before here)
  where
    by : (xs : List X) (i : ℕ) → i < length xs → AllByRecursion P (take i xs) → P (get_or xs i d) → AllByRecursion P (take (suc i) xs)
    by [] i inside before here = absurd (omega arith)
    by (x ∷ xs) zero inside before here = (here, tt)
    by (x ∷ xs) (suc i) inside before here = (before.0, by xs i (omega arith) before.1 here)
