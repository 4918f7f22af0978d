-- How many numbers below n pass a test.
use Rattle.std.proofs.Common.{◌≡◌, ◌⊎◌, inl, inr, ⊎_elim, ℕ, zero, suc, ◌+◌, ◌<◌, ◌≤◌, Bool, true, false, ◌==◌, ◌||◌, true≢false, refl, sym, ◌∙◌, subst, arith}
use Rattle.std.proofs.lemmas.Bool.{cases_eq, cases_Bool, eq-eqb, eqb-true, ne_eqb, or_cases, or_from, or_left, or_right}
use Rattle.law_room.specs.Rooms.{Empty, Holding, OfChunks, OfRuns, how_many, is_empty, is_of_chunks, is_of_runs}

pub count_yes : (f : ℕ → Bool) (n : ℕ) → f n ≡ true → how_many f (suc n) ≡ suc (how_many f n)
count_yes f n is = rw is (omega arith)

pub count_no : (f : ℕ → Bool) (n : ℕ) → f n ≡ false → how_many f (suc n) ≡ how_many f n
count_no f n is = rw is (omega arith)

pub count_le : (f g : ℕ → Bool) (n : ℕ) → ((e : ℕ) → e < n → f e ≡ true → g e ≡ true) → how_many f n ≤ how_many g n
count_le f g zero sub = omega arith
count_le f g (suc n) sub =
    let rest : how_many f n ≤ how_many g n = count_le f g n (λ e lt. sub e (omega arith)) in
    elim (cases_Bool (f n)) [
      | inl on ↦ (let a : how_many f (suc n) ≡ suc (how_many f n) = count_yes f n on in
          let b : how_many g (suc n) ≡ suc (how_many g n) = count_yes g n (sub n (omega arith) on) in omega arith)
      | inr off ↦ (let a : how_many f (suc n) ≡ how_many f n = count_no f n off in elim (cases_Bool (g n)) [
        | inl more ↦ (let b : how_many g (suc n) ≡ suc (how_many g n) = count_yes g n more in omega arith)
        | inr same ↦ (let b : how_many g (suc n) ≡ how_many g n = count_no g n same in omega arith)
      ])
    ]

-- g passes p as well
pub count_less : (f g : ℕ → Bool) (p n : ℕ) → p < n → f p ≡ false → g p ≡ true
    → ((e : ℕ) → e < n → f e ≡ true → g e ≡ true) → how_many f n < how_many g n
count_less f g p zero lt out there sub = absurd (omega arith)
count_less f g p (suc n) lt out there sub = elim (cases_eq p n) [
  | inl same ↦ (
      let a : how_many f (suc n) ≡ how_many f n = count_no f n (subst (λ (e : ℕ). f e ≡ false) same out) in
      let b : how_many g (suc n) ≡ suc (how_many g n) = count_yes g n (subst (λ (e : ℕ). g e ≡ true) same there) in
      let rest : how_many f n ≤ how_many g n = count_le f g n (λ e l. sub e (omega arith)) in omega arith)
  | inr other ↦ (
      let rest : how_many f n < how_many g n = count_less f g p n (omega arith) out there (λ e l. sub e (omega arith)) in
      elim (cases_Bool (f n)) [
        | inl on ↦ (let a : how_many f (suc n) ≡ suc (how_many f n) = count_yes f n on in
            let b : how_many g (suc n) ≡ suc (how_many g n) = count_yes g n (sub n (omega arith) on) in omega arith)
        | inr off ↦ (let a : how_many f (suc n) ≡ how_many f n = count_no f n off in elim (cases_Bool (g n)) [
          | inl more ↦ (let b : how_many g (suc n) ≡ suc (how_many g n) = count_yes g n more in omega arith)
          | inr same ↦ (let b : how_many g (suc n) ≡ how_many g n = count_no g n same in omega arith)
        ])
      ])
]

-- f passes at most p beside
pub count_more : (f g : ℕ → Bool) (p n : ℕ) → ((e : ℕ) → e < n → f e ≡ true → (g e ≡ true) ⊎ (e ≡ p))
    → how_many f n ≤ suc (how_many g n)
count_more f g p zero sub = omega arith
count_more f g p (suc n) sub = elim (cases_eq n p) [
  | inl here ↦ (
      let rest : how_many f n ≤ how_many g n = count_le f g n (λ e l on. elim (sub e (omega arith) on) [
        | inl also ↦ also
        | inr is ↦ absurd (omega arith)
      ]) in elim (cases_Bool (f n)) [
        | inl on ↦ (let a : how_many f (suc n) ≡ suc (how_many f n) = count_yes f n on in
            elim (cases_Bool (g n)) [
              | inl more ↦ (let b : how_many g (suc n) ≡ suc (how_many g n) = count_yes g n more in omega arith)
              | inr same ↦ (let b : how_many g (suc n) ≡ how_many g n = count_no g n same in omega arith)
            ])
        | inr off ↦ (let a : how_many f (suc n) ≡ how_many f n = count_no f n off in elim (cases_Bool (g n)) [
          | inl more ↦ (let b : how_many g (suc n) ≡ suc (how_many g n) = count_yes g n more in omega arith)
          | inr same ↦ (let b : how_many g (suc n) ≡ how_many g n = count_no g n same in omega arith)
        ])
      ])
  | inr there ↦ (
      let rest : how_many f n ≤ suc (how_many g n) = count_more f g p n (λ e l. sub e (omega arith)) in
      elim (cases_Bool (f n)) [
        | inl on ↦ (let a : how_many f (suc n) ≡ suc (how_many f n) = count_yes f n on in
            let also : g n ≡ true = ⊎_elim (λ (x : g n ≡ true). x) (λ is. absurd (there is)) (sub n (omega arith) on) in
            let b : how_many g (suc n) ≡ suc (how_many g n) = count_yes g n also in omega arith)
        | inr off ↦ (let a : how_many f (suc n) ≡ how_many f n = count_no f n off in elim (cases_Bool (g n)) [
          | inl more ↦ (let b : how_many g (suc n) ≡ suc (how_many g n) = count_yes g n more in omega arith)
          | inr same ↦ (let b : how_many g (suc n) ≡ how_many g n = count_no g n same in omega arith)
        ])
      ])
]

pub count_none : (f : ℕ → Bool) (n : ℕ) → ((e : ℕ) → e < n → f e ≡ false) → how_many f n ≡ 0
count_none f zero none = refl
count_none f (suc n) none = count_no f n (none n (omega arith)) ∙ count_none f n (λ e l. none e (omega arith))

pub count_one : (f : ℕ → Bool) (p n : ℕ) → ((e : ℕ) → e < n → f e ≡ true → e ≡ p) → how_many f n ≤ 1
count_one f p n only =
    let a : how_many f n ≤ suc (how_many (λ (e : ℕ). false) n) = count_more f (λ (e : ℕ). false) p n
    (λ e l on. inr (only e l on)) in
    let b : how_many (λ (e : ℕ). false) n ≡ 0 = count_none (λ (e : ℕ). false) n (λ e l. refl) in omega arith

pub count_some : (f : ℕ → Bool) (n : ℕ) → 0 < how_many f n → (e : ℕ) × (e < n) × (f e ≡ true)
count_some f zero some = absurd (omega arith)
count_some f (suc n) some = elim (cases_Bool (f n)) [
  | inl on ↦ (n, omega arith, on)
  | inr off ↦ (let a : how_many f (suc n) ≡ how_many f n = count_no f n off in
      let found = count_some f n (omega arith) in
      (found.0, (let lt : found.0 < n = found.1 in omega arith), found.2))
]

kinds_step : (holds : ℕ → Holding) (n : ℕ) (h : Holding) → holds n ≡ h
    → how_many (λ e. is_of_chunks (holds e)) n + how_many (λ e. is_of_runs (holds e)) n
    + how_many (λ e. is_empty (holds e)) n ≡ n
    → how_many (λ e. is_of_chunks (holds e)) (suc n) + how_many (λ e. is_of_runs (holds e)) (suc n)
    + how_many (λ e. is_empty (holds e)) (suc n) ≡ suc n
kinds_step holds n Empty is rest = rw is (omega (arith, rest))
kinds_step holds n OfChunks is rest = rw is (omega (arith, rest))
kinds_step holds n OfRuns is rest = rw is (omega (arith, rest))

-- each extent is empty, of chunks or of runs
pub count_kinds : (holds : ℕ → Holding) (n : ℕ) → how_many (λ e. is_of_chunks (holds e)) n
    + how_many (λ e. is_of_runs (holds e)) n + how_many (λ e. is_empty (holds e)) n ≡ n
count_kinds holds zero = omega arith
count_kinds holds (suc n) = kinds_step holds n (holds n) refl (count_kinds holds n)

pub chunks_is : (h : Holding) → is_of_chunks h ≡ true → h ≡ OfChunks
chunks_is Empty is = absurd (true≢false (sym is))
chunks_is OfChunks is = refl
chunks_is OfRuns is = absurd (true≢false (sym is))

pub runs_is : (h : Holding) → is_of_runs h ≡ true → h ≡ OfRuns
runs_is Empty is = absurd (true≢false (sym is))
runs_is OfChunks is = absurd (true≢false (sym is))
runs_is OfRuns is = refl

pub empty_is : (h : Holding) → is_empty h ≡ true → h ≡ Empty
empty_is Empty is = refl
empty_is OfChunks is = absurd (true≢false (sym is))
empty_is OfRuns is = absurd (true≢false (sym is))

-- where chunks and runs don't hold all extents, one is empty
pub empty_there : (holds : ℕ → Holding) (n : ℕ)
    → how_many (λ e. is_of_chunks (holds e)) n + how_many (λ e. is_of_runs (holds e)) n < n
    → (e : ℕ) × (e < n) × (holds e ≡ Empty)
empty_there holds n few =
    let all : how_many (λ e. is_of_chunks (holds e)) n
    + how_many (λ e. is_of_runs (holds e)) n + how_many (λ e. is_empty (holds e)) n ≡ n = count_kinds holds n in
    let found = count_some (λ e. is_empty (holds e)) n (omega arith) in
    (found.0, found.1, empty_is (holds found.0) found.2)

-- g passes p and q as well
pub count_two : (f g : ℕ → Bool) (p q n : ℕ) → p < n → q < n → (p ≡ q → ⊥) → f p ≡ false → f q ≡ false
    → g p ≡ true → g q ≡ true → ((e : ℕ) → e < n → f e ≡ true → g e ≡ true) → how_many f n + 2 ≤ how_many g n
count_two f g p q n p_lt q_lt apart p_out q_out p_in q_in sub =
    let first : how_many f n < how_many (λ e. f e || (e == p)) n = count_less f (λ e. f e || (e == p)) p n p_lt p_out
    (or_right (f p) (p == p) (eq-eqb p p refl)) (λ e lt on. or_left (f e) (e == p) on) in
    let second : how_many (λ e. f e || (e == p)) n < how_many g n = count_less (λ e. f e || (e == p)) g q n q_lt
    (or_from (f q) (q == p) q_out (ne_eqb q p (λ same. apart (sym same)))) q_in
    (λ e lt on. ⊎_elim (λ here. sub e lt here)
    (λ is. subst (λ (x : ℕ). g x ≡ true) (sym (eqb-true e p is)) p_in) (or_cases (f e) (e == p) on)) in omega arith

pub count_there : (f : ℕ → Bool) (e n : ℕ) → e < n → f e ≡ true → 0 < how_many f n
count_there f e zero lt on = absurd (omega arith)
count_there f e (suc n) lt on = elim (cases_eq e n) [
  | inl same ↦ (let a : how_many f (suc n) ≡ suc (how_many f n) = count_yes f n
      (subst (λ (x : ℕ). f x ≡ true) same on) in omega arith)
  | inr other ↦ (let rest : 0 < how_many f n = count_there f e n (omega arith) on in
      let up : how_many f n ≤ how_many f (suc n) = omega arith in omega arith)
]

-- one of the numbers below n is so, or none is
pub find_below : (P : ℕ → Type 0) → ((e : ℕ) → P e ⊎ (P e → ⊥)) → (n : ℕ)
    → ((e : ℕ) × (e < n) × P e) ⊎ ((e : ℕ) → e < n → P e → ⊥)
find_below P test zero = inr (λ e lt is. omega arith)
find_below P test (suc n) = ⊎_elim
    (λ here. inl (n, omega arith, here))
    (λ (not : P n → ⊥). ⊎_elim
    (λ found. inl (found.0, (let lt : found.0 < n = found.1 in omega arith), found.2))
    (λ (none : (e : ℕ) → e < n → P e → ⊥). inr (λ e lt is. elim (cases_eq e n) [
      | inl same ↦ not (subst P same is)
      | inr other ↦ none e (omega arith) is
    ]))
    (find_below P test n))
    (test n)
