-- The pieces that bytes are cut in, each with its head.
use Rattle.std.proofs.Common.{◌≡◌, ◌∙◌, ℕ, zero, suc, ◌+◌, ◌-◌, ◌<◌, ◌≤◌, List, [], ◌∷◌, ◌++◌, length, take, drop, replicate, set, append-nil, append_assoc, sym, ap, arith}
use Rattle.std.specs.Prelude.{All, map, min}
use Rattle.std.proofs.lemmas.List.{length-replicate, take_more_set, take-replicate, take_min, drop_min, map_push}
use Rattle.cs_chunk.specs.Cuts.{pieces}
use Rattle.law_machine.specs.Events.{headed}
use Rattle.law_machine.specs.Formats.{Formats}

-- one more piece is cut off what is left, and gets its head
pub heads_more : {X : Type 0} (F : Formats) (f : List ℕ → X) (id total command size count k : ℕ) (done all : List X) (rest : List ℕ) → k < count
    → done ++ map f (headed F id k total command (pieces size (count - k) rest)) ≡ all
    → (done ++ f (F.chunk id k total command (take size rest)) ∷ []) ++ map f (headed F id (k + 1) total command (pieces size (count - (k + 1)) (drop size rest))) ≡ all
heads_more F f id total command size count k done all rest lt was =
    let next : count - k ≡ suc (count - (k + 1)) = omega arith in
    let up : k + 1 ≡ suc k = omega arith in
    append_assoc done (f (F.chunk id k total command (take size rest)) ∷ []) (map f (headed F id (k + 1) total command (pieces size (count - (k + 1)) (drop size rest))))
    ∙ ap (λ n. done ++ f (F.chunk id k total command (take size rest)) ∷ map f (headed F id n total command (pieces size (count - (k + 1)) (drop size rest)))) up
    ∙ ap (λ n. done ++ map f (headed F id k total command (pieces size n rest))) (sym next) ∙ was

-- nothing is left
pub heads_done : {X : Type 0} (F : Formats) (f : List ℕ → X) (id total command size count k : ℕ) (done all : List X) (rest : List ℕ) → count ≤ k
    → done ++ map f (headed F id k total command (pieces size (count - k) rest)) ≡ all → done ≡ all
heads_done F f id total command size count k done all rest le was =
    let none : count - k ≡ 0 = omega arith in
    sym (append-nil done) ∙ ap (λ n. done ++ map f (headed F id k total command (pieces size n rest))) (sym none) ∙ was

-- no piece is cut off yet
pub heads_begun : {V X : Type 0} (F : Formats) (g : V → X) (f : List ℕ → X) (id total command : ℕ) (xs : List V) (size count : ℕ) (bytes : List ℕ) → xs ≡ []
    → map g xs ++ map f (headed F id 0 total command (pieces size (count - 0) bytes)) ≡ map f (headed F id 0 total command (pieces size count bytes))
heads_begun {V} {X} F g f id total command xs size count bytes none =
    let same : count - 0 ≡ count = omega arith in
    ap (λ (vs : List V). map g vs ++ map f (headed F id 0 total command (pieces size (count - 0) bytes))) none
    ∙ ap (λ n. map f (headed F id 0 total command (pieces size n bytes))) same

-- one more is listed
pub heads_pushed : {V X : Type 0} (F : Formats) (g : V → X) (f : List ℕ → X) (id total command : ℕ) (xs ys : List V) (v : V) (size count k n : ℕ) (all : List X) (rest piece behind : List ℕ) → k < count
    → ys ≡ xs ++ v ∷ [] → g v ≡ f (F.chunk id k total command piece) → n ≡ min size (length rest) → piece ≡ take n rest → behind ≡ drop n rest
    → map g xs ++ map f (headed F id k total command (pieces size (count - k) rest)) ≡ all
    → map g ys ++ map f (headed F id (k + 1) total command (pieces size (count - (k + 1)) behind)) ≡ all
heads_pushed {V} {X} F g f id total command xs ys v size count k n all rest piece behind lt pushed is least front back was =
    let cut : piece ≡ take size rest = front ∙ ap (λ m. take m rest) least ∙ take_min size rest in
    let left : behind ≡ drop size rest = back ∙ ap (λ m. drop m rest) least ∙ drop_min size rest in
    ap (λ (vs : List V). map g vs ++ map f (headed F id (k + 1) total command (pieces size (count - (k + 1)) behind))) pushed
    ∙ ap (λ (zs : List X). zs ++ map f (headed F id (k + 1) total command (pieces size (count - (k + 1)) behind))) (map_push g xs v)
    ∙ ap (λ (x : X). (map g xs ++ x ∷ []) ++ map f (headed F id (k + 1) total command (pieces size (count - (k + 1)) behind)))
    (is ∙ ap (λ (zs : List ℕ). f (F.chunk id k total command zs)) cut)
    ∙ ap (λ zs. (map g xs ++ f (F.chunk id k total command (take size rest)) ∷ []) ++ map f (headed F id (k + 1) total command (pieces size (count - (k + 1)) zs))) left
    ∙ heads_more F f id total command size count k (map g xs) all rest lt was

-- the frames' numbers of pages, in an array
pub pages_in_array : (ps : List ℕ) (n count p last : ℕ) → ps ≡ replicate n p → 1 ≤ count → count ≤ n → take count (set ps (count - 1) last) ≡ replicate (count - 1) p ++ last ∷ []
pages_in_array ps n count p last same some few =
    let m : ℕ = count - 1 in
    let is : count ≡ (count - 1) + 1 = omega arith in
    let lt : count - 1 < length (replicate n p) = omega (arith, length-replicate n p) in
    ap (λ (xs : List ℕ). take count (set xs (count - 1) last)) same
    ∙ ap (λ k. take k (set (replicate n p) (count - 1) last)) is
    ∙ take_more_set (replicate n p) (count - 1) last lt
    ∙ ap (λ (xs : List ℕ). xs ++ last ∷ []) (take-replicate (count - 1) n p (omega arith))

-- each frame has a page, and no more than an extent
pub each_in_range : (m p last most : ℕ) → 1 ≤ last → last ≤ p → p ≤ most → All (λ k. (1 ≤ k) × (k ≤ most)) (replicate m p ++ last ∷ [])
each_in_range zero p last most some le same zero d lt = (some, omega (arith, le, same))
each_in_range zero p last most some le same (suc k) d lt = absurd (omega (arith, lt))
each_in_range (suc m) p last most some le same zero d lt = (omega (arith, some, le), omega (arith, same))
each_in_range (suc m) p last most some le same (suc k) d lt = each_in_range m p last most some le same k d (omega (arith, lt))
