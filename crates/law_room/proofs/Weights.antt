-- Sums over extents, and the extents on which the least lives.
use Rattle.std.proofs.Common.{◌≡◌, ◌≢◌, ◌⊎◌, inl, inr, ⊎_elim, ℕ, zero, suc, ◌+◌, ◌*◌, ◌<◌, ◌≤◌, ◌==◌, Bool, true, false, if◌then◌else◌, List, [], ◌∷◌, le_refl, refl, sym, ap, ◌∙◌, subst, arith}
use Rattle.std.proofs.lemmas.Bool.{cases_Bool, cases_eq, cases_lt, eq-eqb, ne_eqb, true≢false}
use Rattle.law_machine.specs.Lists.{◌∈◌}
pub use Rattle.law_room.specs.Brim.{sum_to}
use Rattle.law_room.specs.Rooms.{Chunk, all_pages, how_many, live_pages}
use Rattle.law_room.proofs.Counts.{count_more, count_no, count_there, count_yes}

-- h and f but for a
abbrev pub except : (ℕ → ℕ) → ℕ → ℕ → ℕ
except h a e = if e == a then 0 else h e

abbrev pub but : (ℕ → Bool) → ℕ → ℕ → Bool
but f a e = if e == a then false else f e

except_at : (h : ℕ → ℕ) (a : ℕ) → except h a a ≡ 0
except_at h a = let same : (a == a) ≡ true = eq-eqb a a refl in rw same

pub except_other : (h : ℕ → ℕ) (a e : ℕ) → e ≢ a → except h a e ≡ h e
except_other h a e other = let off : (e == a) ≡ false = ne_eqb e a other in rw off

but_at : (f : ℕ → Bool) (a : ℕ) → but f a a ≡ false
but_at f a = let same : (a == a) ≡ true = eq-eqb a a refl in rw same

pub but_other : (f : ℕ → Bool) (a e : ℕ) → e ≢ a → but f a e ≡ f e
but_other f a e other = let off : (e == a) ≡ false = ne_eqb e a other in rw off

-- what is in `but` isn't a
pub but_is : (f : ℕ → Bool) (a e : ℕ) → but f a e ≡ true → (e ≢ a) × (f e ≡ true)
but_is f a e on = elim (cases_eq e a) [
  | inl same ↦ absurd (true≢false (sym on ∙ ap (but f a) same ∙ but_at f a))
  | inr other ↦ (other, sym (but_other f a e other) ∙ on)
]

pub but_one : (f : ℕ → Bool) (a n : ℕ) → how_many f n ≤ suc (how_many (but f a) n)
but_one f a n = count_more f (but f a) a n (λ e lt on. elim (cases_eq e a) [
  | inl same ↦ inr same
  | inr other ↦ inl (but_other f a e other ∙ on)
])

sum_equal : (h g : ℕ → ℕ) (n : ℕ) → ((e : ℕ) → e < n → h e ≡ g e) → sum_to h n ≡ sum_to g n
sum_equal h g zero same = refl
sum_equal h g (suc n) same = let rest : sum_to h n ≡ sum_to g n = sum_equal h g n (λ e lt. same e (omega arith)) in
    let here : h n ≡ g n = same n (omega arith) in omega arith

pub sum_except : (h : ℕ → ℕ) (a n : ℕ) → a < n → sum_to h n ≡ h a + sum_to (except h a) n
sum_except h a zero lt = absurd (omega arith)
sum_except h a (suc n) lt = elim (cases_eq a n) [
  | inl same ↦ (
      let rest : sum_to h n ≡ sum_to (except h a) n = sum_equal h (except h a) n
      (λ e l. sym (except_other h a e (λ is. absurd (omega arith)))) in
      let here : except h a n ≡ 0 = subst (λ (x : ℕ). except h a x ≡ 0) same (except_at h a) in
      let at : h a ≡ h n = ap h same in omega arith)
  | inr other ↦ (
      let rest : sum_to h n ≡ h a + sum_to (except h a) n = sum_except h a n (omega arith) in
      let here : except h a n ≡ h n = except_other h a n (λ is. other (sym is)) in omega arith)
]

pub times : (a b q : ℕ) → a ≤ b → a * q ≤ b * q
times zero b q le = omega arith
times (suc a) zero q le = absurd (omega arith)
times (suc a) (suc b) q le = (let rest : a * q ≤ b * q = times a b q (omega arith) in omega arith)

pub sum_le : (h g : ℕ → ℕ) (n : ℕ) → ((e : ℕ) → e < n → h e ≤ g e) → sum_to h n ≤ sum_to g n
sum_le h g zero each = omega arith
sum_le h g (suc n) each = let rest : sum_to h n ≤ sum_to g n = sum_le h g n (λ e lt. each e (omega arith)) in
    let here : h n ≤ g n = each n (omega arith) in omega arith

-- p has at most k more
pub sum_more : (h g : ℕ → ℕ) (p k n : ℕ) → ((e : ℕ) → e < n → e ≢ p → h e ≤ g e) → h p ≤ g p + k
    → sum_to h n ≤ sum_to g n + k
sum_more h g p k zero each more = omega arith
sum_more h g p k (suc n) each more = elim (cases_eq n p) [
  | inl same ↦ (
      let here : h n ≤ g n + k = subst (λ (x : ℕ). h x ≤ g x + k) (sym same) more in
      let rest : sum_to h n ≤ sum_to g n = sum_le h g n (λ e lt. each e (omega arith) (λ is. absurd (omega arith))) in
      omega arith)
  | inr other ↦ (
      let here : h n ≤ g n = each n (omega arith) other in
      let rest : sum_to h n ≤ sum_to g n + k = sum_more h g p k n (λ e lt. each e (omega arith)) more in omega arith)
]

pub sum_nothing : (h : ℕ → ℕ) (n : ℕ) → ((e : ℕ) → e < n → h e ≡ 0) → sum_to h n ≡ 0
sum_nothing h zero none = refl
sum_nothing h (suc n) none = let rest : sum_to h n ≡ 0 = sum_nothing h n (λ e lt. none e (omega arith)) in
    let here : h n ≡ 0 = none n (omega arith) in omega arith

pub sum_some : (h : ℕ → ℕ) (n : ℕ) → 0 < sum_to h n → (e : ℕ) × (e < n) × (0 < h e)
sum_some h zero some = absurd (omega arith)
sum_some h (suc n) some = elim (cases_lt 0 (h n)) [
  | inl here ↦ (n, omega arith, here)
  | inr none ↦ (let found = sum_some h n (omega arith) in
      (found.0, (let lt : found.0 < n = found.1 in omega arith), found.2))
]

-- p has none
pub sum_less : (h g : ℕ → ℕ) (p n : ℕ) → p < n → ((e : ℕ) → e < n → h e ≤ g e) → h p ≡ 0 → sum_to h n + g p ≤ sum_to g n
sum_less h g p zero lt each none = absurd (omega arith)
sum_less h g p (suc n) lt each none = elim (cases_eq p n) [
  | inl same ↦ (
      let rest : sum_to h n ≤ sum_to g n = sum_le h g n (λ e l. each e (omega arith)) in
      let here : h n ≡ 0 = ap h (sym same) ∙ none in
      let at : g p ≡ g n = ap g same in omega arith)
  | inr other ↦ (
      let rest : sum_to h n + g p ≤ sum_to g n = sum_less h g p n (omega arith) (λ e l. each e (omega arith)) none in
      let here : h n ≤ g n = each n (omega arith) in omega arith)
]

-- each number that passes the test has at least q
pub sum_times : (f : ℕ → Bool) (h : ℕ → ℕ) (q n : ℕ) → ((e : ℕ) → e < n → f e ≡ true → q ≤ h e)
    → how_many f n * q ≤ sum_to h n
sum_times f h q zero each = omega arith
sum_times f h q (suc n) each =
    let rest : how_many f n * q ≤ sum_to h n = sum_times f h q n (λ e lt. each e (omega arith)) in
    elim (cases_Bool (f n)) [
      | inl on ↦ (let a : how_many f (suc n) * q ≡ suc (how_many f n) * q = ap (λ (k : ℕ). k * q) (count_yes f n on) in
          let b : suc (how_many f n) * q ≡ how_many f n * q + q = omega arith in
          let here : q ≤ h n = each n (omega arith) on in omega arith)
      | inr off ↦ (let a : how_many f (suc n) * q ≡ how_many f n * q = ap (λ (k : ℕ). k * q) (count_no f n off) in
          omega arith)
    ]

-- each number that passes the test has at least half of q
pub sum_bound : (f : ℕ → Bool) (h : ℕ → ℕ) (q n : ℕ) → ((e : ℕ) → e < n → f e ≡ true → q ≤ 2 * h e)
    → how_many f n * q ≤ 2 * sum_to h n
sum_bound f h q zero each = omega arith
sum_bound f h q (suc n) each =
    let rest : how_many f n * q ≤ 2 * sum_to h n = sum_bound f h q n (λ e lt. each e (omega arith)) in
    elim (cases_Bool (f n)) [
      | inl on ↦ (let a : how_many f (suc n) * q ≡ suc (how_many f n) * q = ap (λ (k : ℕ). k * q) (count_yes f n on) in
          let b : suc (how_many f n) * q ≡ how_many f n * q + q = omega arith in
          let here : q ≤ 2 * h n = each n (omega arith) on in omega arith)
      | inr off ↦ (let a : how_many f (suc n) * q ≡ how_many f n * q = ap (λ (k : ℕ). k * q) (count_no f n off) in
          omega arith)
    ]

-- all but two have at least half of q, and these two have q together
pub sum_of_pairs : (f : ℕ → Bool) (h : ℕ → ℕ) (q n a b : ℕ) → a < n → b < n → a ≢ b → q ≤ h a + h b
    → ((e : ℕ) → e < n → f e ≡ true → e ≢ a → e ≢ b → q ≤ 2 * h e) → how_many f n * q ≤ 2 * sum_to h n
sum_of_pairs f h q n a b a_in b_in apart both each =
    let one : how_many f n ≤ suc (how_many (but f a) n) = but_one f a n in
    let two : how_many (but f a) n ≤ suc (how_many (but (but f a) b) n) = but_one (but f a) b n in
    let first : sum_to h n ≡ h a + sum_to (except h a) n = sum_except h a n a_in in
    let second : sum_to (except h a) n ≡ except h a b + sum_to (except (except h a) b) n = sum_except (except h a) b n
    b_in in
    let at : except h a b ≡ h b = except_other h a b (λ same. apart (sym same)) in
    let rest : how_many (but (but f a) b) n * q ≤ 2 * sum_to (except (except h a) b) n = sum_bound (but (but f a) b)
    (except (except h a) b) q n (λ e lt on.
    let outer = but_is (but f a) b e on in
    let inner = but_is f a e outer.1 in
    let same : except (except h a) b e ≡ h e = except_other (except h a) b e outer.0 ∙ except_other h a e inner.0 in
    let big : q ≤ 2 * h e = each e lt inner.1 inner.0 outer.0 in omega arith) in
    let more : how_many f n * q ≤ suc (suc (how_many (but (but f a) b) n)) * q = times (how_many f n)
    (suc (suc (how_many (but (but f a) b) n))) q (omega arith) in
    let parts : suc (suc (how_many (but (but f a) b) n)) * q ≡ how_many (but (but f a) b) n * q + (q + q) =
    omega arith in omega arith

-- the least that passes the test
pub least_of : (f : ℕ → Bool) (h : ℕ → ℕ) (n : ℕ) → 0 < how_many f n
    → (a : ℕ) × (a < n) × (f a ≡ true) × ((e : ℕ) → e < n → f e ≡ true → h a ≤ h e)
least_of f h zero some = absurd (omega arith)
least_of f h (suc n) some = elim (cases_eq (how_many f n) 0) [
  | inl none ↦ elim (cases_Bool (f n)) [
    | inl on ↦ (
      n,
      omega arith,
      on,
      (λ e lt there. elim (cases_eq e n) [
        | inl same ↦ subst (λ (x : ℕ). h n ≤ h x) (sym same) (le_refl _)
        | inr other ↦ absurd (let less : 0 < how_many f n = count_there f e n (omega arith) there in omega arith)
      ]),
    )
    | inr off ↦ absurd (let same : how_many f (suc n) ≡ how_many f n = count_no f n off in omega arith)
  ]
  | inr more ↦ (
      let best = least_of f h n (omega arith) in
      let lt : best.0 < n = best.1 in
      elim (cases_Bool (f n)) [
        | inr off ↦ (
          best.0,
          omega arith,
          best.2,
          (λ e l there. elim (cases_eq e n) [
            | inl same ↦ absurd (true≢false (sym there ∙ ap f same ∙ off))
            | inr other ↦ best.3 e (omega arith) there
          ]),
        )
        | inl on ↦ elim (cases_lt (h n) (h best.0)) [
          | inl less ↦ (
            n,
            omega arith,
            on,
            (λ e l there. elim (cases_eq e n) [
              | inl same ↦ subst (λ (x : ℕ). h n ≤ h x) (sym same) (le_refl _)
              | inr other ↦ (let at : h best.0 ≤ h e = best.3 e (omega arith) there in omega arith)
            ]),
          )
          | inr least ↦ (
            best.0,
            omega arith,
            best.2,
            (λ e l there. elim (cases_eq e n) [
              | inl same ↦ subst (λ (x : ℕ). h best.0 ≤ h x) (sym same) least
              | inr other ↦ best.3 e (omega arith) there
            ]),
          )
        ]
      ])
]

-- what lives on all extents is at most what lives
abbrev point : (x p : ℕ) → ℕ → ℕ
point x p e = if x == e then p else 0

point_none : (x p n : ℕ) → n ≤ x → sum_to (point x p) n ≡ 0
point_none x p zero le = refl
point_none x p (suc n) le =
    let rest : sum_to (point x p) n ≡ 0 = point_none x p n (omega arith) in
    let off : (x == n) ≡ false = ne_eqb x n (λ same. absurd (omega arith)) in
    let here : point x p n ≡ 0 = rw off in omega arith

point_one : (x p n : ℕ) → sum_to (point x p) n ≤ p
point_one x p zero = omega arith
point_one x p (suc n) = elim (cases_eq x n) [
  | inl same ↦ (
      let rest : sum_to (point x p) n ≡ 0 = point_none x p n (omega arith) in
      let on : (x == n) ≡ true = eq-eqb x n same in
      let here : point x p n ≡ p = rw on in omega arith)
  | inr other ↦ (
      let rest : sum_to (point x p) n ≤ p = point_one x p n in
      let off : (x == n) ≡ false = ne_eqb x n other in
      let here : point x p n ≡ 0 = rw off in omega arith)
]

pub sum_plus : (g h : ℕ → ℕ) (n : ℕ) → sum_to (λ e. g e + h e) n ≡ sum_to g n + sum_to h n
sum_plus g h zero = refl
sum_plus g h (suc n) = let rest : sum_to (λ e. g e + h e) n ≡ sum_to g n + sum_to h n = sum_plus g h n in omega arith

sum_zero : (n : ℕ) → sum_to (λ e. 0) n ≡ 0
sum_zero zero = refl
sum_zero (suc n) = let rest : sum_to (λ e. 0) n ≡ 0 = sum_zero n in omega arith

pub sum_live : (cs : List Chunk) (n : ℕ) → sum_to (live_pages cs) n ≤ all_pages cs
sum_live [] n = let none : sum_to (λ e. 0) n ≡ 0 = sum_zero n in omega arith
sum_live (c ∷ cs) n =
    let parts : sum_to (λ e. point c.extent c.pages e + live_pages cs e) n
    ≡ sum_to (point c.extent c.pages) n + sum_to (live_pages cs) n = sum_plus (point c.extent c.pages) (live_pages cs) n
    in
    let one : sum_to (point c.extent c.pages) n ≤ c.pages = point_one c.extent c.pages n in
    let rest : sum_to (live_pages cs) n ≤ all_pages cs = sum_live cs n in omega arith

point_there : (x p n : ℕ) → x < n → p ≤ sum_to (point x p) n
point_there x p zero lt = absurd (omega arith)
point_there x p (suc n) lt = elim (cases_eq x n) [
  | inl same ↦ (let here : point x p n ≡ p = rw (eq-eqb x n same) refl in omega arith)
  | inr other ↦ (let rest : p ≤ sum_to (point x p) n = point_there x p n (omega arith) in omega arith)
]

-- all pages are counted on extents below n, where no chunk with pages lies elsewhere
pub all_counted : (cs : List Chunk) (n : ℕ) → ((c : Chunk) → c ∈ cs → (c.extent < n) ⊎ (c.pages ≡ 0))
    → all_pages cs ≤ sum_to (live_pages cs) n
all_counted [] n below = omega arith
all_counted (c ∷ cs) n below =
    let parts : sum_to (λ e. point c.extent c.pages e + live_pages cs e) n
    ≡ sum_to (point c.extent c.pages) n + sum_to (live_pages cs) n = sum_plus (point c.extent c.pages) (live_pages cs) n
    in
    let one : c.pages ≤ sum_to (point c.extent c.pages) n = ⊎_elim (λ lt. point_there c.extent c.pages n lt)
    (λ none. let is : c.pages ≡ 0 = none in omega arith) (below c (inl refl)) in
    let rest : all_pages cs ≤ sum_to (live_pages cs) n = all_counted cs n (λ d there. below d (inr there)) in omega arith

-- the first one, and the others
pub sum_front : (h : ℕ → ℕ) (n : ℕ) → sum_to h (suc n) ≡ h 0 + sum_to (λ e. h (suc e)) n
sum_front h zero = refl
sum_front h (suc n) = let rest : sum_to h (suc n) ≡ h 0 + sum_to (λ e. h (suc e)) n = sum_front h n in omega (arith, rest)
