-- The bytes of a put have one list of chunks.
use Rattle.std.proofs.Common.{◌≡◌, ◌≢◌, inl, inr, ℕ, zero, suc, ◌+◌, ◌<◌, ◌≤◌, List, [], ◌∷◌, ◌++◌, length, length-append, take, drop, append-nil, refl, sym, ap, ap₂, ◌∙◌, le_refl, arith}
use Rattle.std.proofs.lemmas.Bool.{cases_lt}
use Rattle.std.proofs.lemmas.List.{take-append-drop, length-take-le}
use Rattle.law_machine.specs.Events.{AllFullButLast, Chunked}
use Rattle.law_machine.specs.Index.{joined}

head_some : (most : ℕ) (c : List ℕ) (cs : List (List ℕ)) → 0 < most → 0 < length (joined (c ∷ cs))
    → AllFullButLast most (c ∷ cs) → c ≢ []
head_some most c [] some more all = λ none.
    (let e : length (c ++ []) ≡ 0 = ap (λ (x : List ℕ). length (x ++ [])) none in omega arith)
head_some most c (d ∷ cs) some more all = λ none.
    (let e : length c ≡ 0 = ap length none in let f : length c ≡ most = all.0 in omega arith)

pub chunking : (most fuel : ℕ) (bytes : List ℕ) → 0 < most → length bytes ≤ fuel → (c : List ℕ)
    × (cs : List (List ℕ)) × (joined (c ∷ cs) ≡ bytes) × AllFullButLast most (c ∷ cs)
chunking most zero bytes some small =
    (bytes, [], append-nil bytes, (let small_enough : length bytes ≤ most = omega arith in small_enough))
chunking most (suc fuel) bytes some small = elim (cases_lt most (length bytes)) [
  | inr le ↦ (bytes, [], append-nil bytes, le)
  | inl lt ↦ (
      let front : length (take most bytes) ≡ most = length-take-le most bytes (omega arith) in
      let whole : length (take most bytes) + length (drop most bytes) ≡ length bytes = sym
      (length-append (take most bytes) (drop most bytes)) ∙ ap length (take-append-drop most bytes) in
      let rest = chunking most fuel (drop most bytes) some (omega arith) in
      let same : length (joined (rest.0 ∷ rest.1)) ≡ length (drop most bytes) = ap length rest.2 in (
        take most bytes,
        rest.0 ∷ rest.1,
        ap (λ (y : List ℕ). take most bytes ++ y) rest.2 ∙ take-append-drop most bytes,
        (front, head_some most rest.0 rest.1 some (omega arith) rest.3, rest.3),
      ))
]

same_front : (xs ys us vs : List ℕ) → length xs ≡ length ys → xs ++ us ≡ ys ++ vs → (xs ≡ ys) × (us ≡ vs)
same_front [] [] us vs len is = (refl, is)
same_front [] (y ∷ ys) us vs len is = absurd (omega arith)
same_front (x ∷ xs) [] us vs len is = absurd (omega arith)
same_front (x ∷ xs) (y ∷ ys) us vs len is =
    let e : x ∷ (xs ++ us) ≡ y ∷ (ys ++ vs) = is in
    let head : x ≡ y = cc in
    let tail : xs ++ us ≡ ys ++ vs = cc in
    let rest = same_front xs ys us vs (omega arith) tail in
    (ap₂ (λ (z : ℕ) (zs : List ℕ). z ∷ zs) head rest.0, rest.1)

longer : (most : ℕ) (d e : List ℕ) (es : List (List ℕ)) → AllFullButLast most (d ∷ e ∷ es)
    → most < length (joined (d ∷ e ∷ es))
longer most d e es all =
    let here : length d ≡ most = all.0 in
    let split : length (joined (d ∷ e ∷ es)) ≡ length d + length (joined (e ∷ es)) = length-append d
    (joined (e ∷ es)) in
    let more : length (joined (e ∷ es)) ≡ length e + length (joined es) = length-append e (joined es) in
    let some : 0 < length e = some_of e all.1 in omega arith
  where
    some_of : (x : List ℕ) → x ≢ [] → 0 < length x
    some_of [] not = absurd (not refl)
    some_of (y ∷ x) not = omega arith

one_chunking : (most : ℕ) (c d : List ℕ) (cs ds : List (List ℕ)) → AllFullButLast most (c ∷ cs)
    → AllFullButLast most (d ∷ ds) → joined (c ∷ cs) ≡ joined (d ∷ ds) → (c ≡ d) × (cs ≡ ds)
one_chunking most c d [] [] a b is = (sym (append-nil c) ∙ is ∙ append-nil d, refl)
one_chunking most c d [] (e ∷ es) a b is = absurd (
    let small : length c ≤ most = a in
    let same : length (c ++ []) ≡ length (joined (d ∷ e ∷ es)) = ap length is in
    let plain : length (c ++ []) ≡ length c = ap length (append-nil c) in
    let large : most < length (joined (d ∷ e ∷ es)) = longer most d e es b in omega arith)
one_chunking most c d (e ∷ es) [] a b is = absurd (
    let small : length d ≤ most = b in
    let same : length (joined (c ∷ e ∷ es)) ≡ length (d ++ []) = ap length is in
    let plain : length (d ++ []) ≡ length d = ap length (append-nil d) in
    let large : most < length (joined (c ∷ e ∷ es)) = longer most c e es a in omega arith)
one_chunking most c d (e ∷ es) (f ∷ fs) a b is =
    let front = same_front c d (joined (e ∷ es)) (joined (f ∷ fs)) (a.0 ∙ sym b.0) is in
    let rest = one_chunking most e f es fs a.2 b.2 front.1 in
    (front.0, ap₂ (λ (z : List ℕ) (zs : List (List ℕ)). z ∷ zs) rest.0 rest.1)

pub chunked_there : (most : ℕ) (bytes : List ℕ) → 0 < most → (cs : List (List ℕ)) × Chunked most bytes cs
chunked_there most bytes some = let all = chunking most (length bytes) bytes some (le_refl _) in
    (all.0 ∷ all.1, (all.2, omega arith, all.3))

pub chunked_one : (most : ℕ) (bytes : List ℕ) (cs ds : List (List ℕ)) → Chunked most bytes cs
    → Chunked most bytes ds → cs ≡ ds
chunked_one most bytes [] ds a b = absurd (let some : 0 < 0 = a.1 in omega arith)
chunked_one most bytes (c ∷ cs) [] a b = absurd (let some : 0 < 0 = b.1 in omega arith)
chunked_one most bytes (c ∷ cs) (d ∷ ds) a b = let one = one_chunking most c d cs ds a.2 b.2 (a.0 ∙ sym b.0) in
    ap₂ (λ (z : List ℕ) (zs : List (List ℕ)). z ∷ zs) one.0 one.1
