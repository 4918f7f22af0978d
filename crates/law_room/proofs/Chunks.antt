-- Lists of chunks: how many pages they take, and on which extents they lie.
use Rattle.std.proofs.Common.{◌≡◌, ◌≢◌, ◌⊎◌, inl, inr, ⊎_elim, ℕ, ◌+◌, ◌≤◌, ◌==◌, Bool, true, false, ◌&&◌, ◌||◌, List, [], ◌∷◌, ◌++◌, map, if◌then◌else◌, Option, Some, None, true≢false, refl, sym, ap, ◌∙◌, subst, arith}
use Rattle.std.specs.Prelude.{is_none}
use Rattle.std.proofs.lemmas.Bool.{and_parts, eqb-true, eq-eqb, ne_eqb, cases_Bool, or_cases, or_left, or_right}
use Rattle.law_machine.specs.Lists.{◌∈◌}
use Rattle.law_room.specs.Events.{forget, settle}
use Rattle.law_room.specs.Rooms.{Chunk, all_pages, any_on, copied_pages, has, is_at, left_pages, live_pages, pages_of, without}

pub sum_on : (f : Chunk → Bool) (c : Chunk) (cs : List Chunk) → f c ≡ true
    → pages_of f (c ∷ cs) ≡ c.pages + pages_of f cs
sum_on f c cs is = rw is

pub sum_off : (f : Chunk → Bool) (c : Chunk) (cs : List Chunk) → f c ≡ false → pages_of f (c ∷ cs) ≡ pages_of f cs
sum_off f c cs is = rw is (omega arith)

pub sum_le : (f g : Chunk → Bool) (cs : List Chunk) → ((c : Chunk) → f c ≡ true → g c ≡ true)
    → pages_of f cs ≤ pages_of g cs
sum_le f g [] sub = omega arith
sum_le f g (c ∷ cs) sub = let rest : pages_of f cs ≤ pages_of g cs = sum_le f g cs sub in elim (cases_Bool (f c)) [
  | inl on ↦ (let a : pages_of f (c ∷ cs) ≡ c.pages + pages_of f cs = sum_on f c cs on in
      let b : pages_of g (c ∷ cs) ≡ c.pages + pages_of g cs = sum_on g c cs (sub c on) in omega arith)
  | inr off ↦ (let a : pages_of f (c ∷ cs) ≡ pages_of f cs = sum_off f c cs off in omega arith)
]

pub sum_none : (f : Chunk → Bool) (cs : List Chunk) → ((c : Chunk) → c ∈ cs → f c ≡ false) → pages_of f cs ≡ 0
sum_none f [] none = refl
sum_none f (c ∷ cs) none = sum_off f c cs (none c (inl refl)) ∙ sum_none f cs (λ x has_it. none x (inr has_it))

pub sum_append : (f : Chunk → Bool) (xs ys : List Chunk) → pages_of f (xs ++ ys) ≡ pages_of f xs + pages_of f ys
sum_append f [] ys = omega arith
sum_append f (x ∷ xs) ys =
    let rest : pages_of f (xs ++ ys) ≡ pages_of f xs + pages_of f ys = sum_append f xs ys in omega arith

pub sum_without : (f : Chunk → Bool) (id : ℕ) (cs : List Chunk) → pages_of f (without id cs) ≤ pages_of f cs
sum_without f id [] = omega arith
sum_without f id (c ∷ cs) = let rest : pages_of f (without id cs) ≤ pages_of f cs = sum_without f id cs in
    elim (cases_Bool (c.id == id)) [
      | inl same ↦ rw same (omega (arith, rest))
      | inr other ↦ rw other (omega (arith, rest))
    ]

pub in_without : (id : ℕ) (cs : List Chunk) (x : Chunk) → x ∈ without id cs → x ∈ cs
in_without id [] x none = absurd none
in_without id (c ∷ cs) x has_it = step (c.id == id) refl (in_without id cs x) has_it
  where
    step : (b : Bool) → (c.id == id) ≡ b → (x ∈ without id cs → x ∈ cs)
        → x ∈ (if b then without id cs else c ∷ without id cs) → x ∈ c ∷ cs
    step true is more got = inr (more got)
    step false is more got = ⊎_elim (λ here. inl here) (λ there. inr (more there)) got

pub has_there : (ds : List ℕ) (e : ℕ) → e ∈ ds → has ds e ≡ true
has_there [] e none = absurd none
has_there (d ∷ ds) e (inl is) = or_left (d == e) (has ds e) (eq-eqb d e (sym is))
has_there (d ∷ ds) e (inr there) = or_right (d == e) (has ds e) (has_there ds e there)

pub has_of : (ds : List ℕ) (e : ℕ) → has ds e ≡ true → e ∈ ds
has_of [] e is = absurd (true≢false (sym is))
has_of (d ∷ ds) e is = ⊎_elim (λ here. inl (sym (eqb-true d e here))) (λ there. inr (has_of ds e there))
    (or_cases (d == e) (has ds e) is)

pub any_there : (cs : List Chunk) (c : Chunk) → c ∈ cs → any_on cs c.extent ≡ true
any_there [] c none = absurd none
any_there (x ∷ cs) c (inl is) = or_left (x.extent == c.extent) (any_on cs c.extent)
    (eq-eqb x.extent c.extent (ap (λ (y : Chunk). y.extent) (sym is)))
any_there (x ∷ cs) c (inr there) = or_right (x.extent == c.extent) (any_on cs c.extent) (any_there cs c there)

pub any_of : (cs : List Chunk) (e : ℕ) → any_on cs e ≡ true → (c : Chunk) × (c ∈ cs) × (c.extent ≡ e)
any_of [] e is = absurd (true≢false (sym is))
any_of (x ∷ cs) e is = ⊎_elim
    (λ here. (x, inl refl, eqb-true x.extent e here))
    (λ there. let found = any_of cs e there in (found.0, inr found.1, found.2))
    (or_cases (x.extent == e) (any_on cs e) is)

pub any_not : (cs : List Chunk) (e : ℕ) → any_on cs e ≡ false → (c : Chunk) → c ∈ cs → c.extent ≢ e
any_not cs e off c has_it is = true≢false (sym (subst (λ (d : ℕ). any_on cs d ≡ true) is (any_there cs c has_it)) ∙ off)

pub none_on : (cs : List Chunk) (e : ℕ) → ((c : Chunk) → c ∈ cs → c.extent ≢ e) → any_on cs e ≡ false
none_on cs e none = elim (cases_Bool (any_on cs e)) [
  | inl on ↦ absurd (let found = any_of cs e on in none found.0 found.1 found.2)
  | inr off ↦ off
]

pub none_live : (cs : List Chunk) (e : ℕ) → any_on cs e ≡ false → live_pages cs e ≡ 0
none_live cs e off = sum_none (λ c. c.extent == e) cs (λ c has_it. ne_eqb c.extent e (any_not cs e off c has_it))

pub left_le : (cs : List Chunk) (e : ℕ) → left_pages cs e ≤ live_pages cs e
left_le cs e = sum_le (λ c. (c.extent == e) && is_none c.copy) (λ c. c.extent == e) cs
    (λ c on. (and_parts (c.extent == e) (is_none c.copy) on).0)

-- one chunk in a list
module _ (xs ys : List Chunk) where
  pub in_middle : (c x d : Chunk) → x ∈ xs ++ c ∷ ys → (x ≡ c) ⊎ (x ∈ xs ++ d ∷ ys)
  in_middle c x d = go xs
    where
      go : (zs : List Chunk) → x ∈ zs ++ c ∷ ys → (x ≡ c) ⊎ (x ∈ zs ++ d ∷ ys)
      go [] got = ⊎_elim (λ here. inl here) (λ there. inr (inr there)) got
      go (z ∷ zs) got = ⊎_elim (λ here. inr (inl here))
          (λ there. ⊎_elim (λ is. inl is) (λ more. inr (inr more)) (go zs there)) got

  pub middle_in : (c : Chunk) → c ∈ xs ++ c ∷ ys
  middle_in c = go xs
    where
      go : (zs : List Chunk) → c ∈ zs ++ c ∷ ys
      go [] = inl refl
      go (z ∷ zs) = inr (go zs)

  pub sum_middle : (f : Chunk → Bool) (c : Chunk) → pages_of f (xs ++ c ∷ ys)
      ≡ pages_of f xs + ((if f c then c.pages else 0) + pages_of f ys)
  sum_middle f c = sum_append f xs (c ∷ ys)

  pub sum_same : (f : Chunk → Bool) (c d : Chunk) → f c ≡ f d → c.pages ≡ d.pages
      → pages_of f (xs ++ c ∷ ys) ≡ pages_of f (xs ++ d ∷ ys)
  sum_same f c d same pages = sum_middle f c
      ∙ ap (λ (n : ℕ). pages_of f xs + (n + pages_of f ys))
      (ap (λ (b : Bool). if b then c.pages else 0) same ∙ ap (λ (n : ℕ). if f d then n else 0) pages)
      ∙ sym (sum_middle f d)

  pub sum_gone : (f : Chunk → Bool) (c d : Chunk) → f c ≡ true → f d ≡ false
      → pages_of f (xs ++ c ∷ ys) ≡ c.pages + pages_of f (xs ++ d ∷ ys)
  sum_gone f c d on off =
      let a : pages_of f (xs ++ c ∷ ys) ≡ pages_of f xs + (c.pages + pages_of f ys) = sum_middle f c
      ∙ ap (λ (b : Bool). pages_of f xs + ((if b then c.pages else 0) + pages_of f ys)) on in
      let b : pages_of f (xs ++ d ∷ ys) ≡ pages_of f xs + (0 + pages_of f ys) = sum_middle f d
      ∙ ap (λ (b : Bool). pages_of f xs + ((if b then d.pages else 0) + pages_of f ys)) off in omega arith

-- chunks with their copies in their places, and without their copies
pub settle_live : (cs : List Chunk) (e : ℕ) → live_pages (map settle cs) e ≤ live_pages cs e + copied_pages cs e
settle_live [] e = omega arith
settle_live (c ∷ cs) e = step c.copy refl
    (settle_live cs e)
  where
    step : (o : Option ℕ) → c.copy ≡ o → live_pages (map settle cs) e ≤ live_pages cs e + copied_pages cs e
        → live_pages (map settle (c ∷ cs)) e ≤ live_pages (c ∷ cs) e + copied_pages (c ∷ cs) e
    step None is rest = rw is (omega (arith, rest))
    step (Some d) is rest = rw is (omega (arith, rest))

pub in_settled : (cs : List Chunk) (x : Chunk) → x ∈ map settle cs → (c : Chunk) × (c ∈ cs) × (x ≡ settle c)
in_settled [] x none = absurd none
in_settled (c ∷ cs) x (inl is) = (c, inl refl, is)
in_settled (c ∷ cs) x (inr there) = let found = in_settled cs x there in (found.0, inr found.1, found.2)

pub settle_copied : (cs : List Chunk) (e : ℕ) → copied_pages (map settle cs) e ≡ 0
settle_copied cs e = sum_none (λ c. is_at c.copy e) (map settle cs)
    (λ x has_it. let found = in_settled cs x has_it in ap (λ (y : Chunk). is_at y.copy e) found.2)

pub settle_all : (cs : List Chunk) → all_pages (map settle cs) ≡ all_pages cs
settle_all [] = refl
settle_all (c ∷ cs) = let rest : all_pages (map settle cs) ≡ all_pages cs = settle_all cs in omega arith

pub in_forgotten : (cs : List Chunk) (x : Chunk) → x ∈ map forget cs → (c : Chunk) × (c ∈ cs) × (x ≡ forget c)
in_forgotten [] x none = absurd none
in_forgotten (c ∷ cs) x (inl is) = (c, inl refl, is)
in_forgotten (c ∷ cs) x (inr there) = let found = in_forgotten cs x there in (found.0, inr found.1, found.2)

pub forget_copied : (cs : List Chunk) (e : ℕ) → copied_pages (map forget cs) e ≡ 0
forget_copied cs e = sum_none (λ c. is_at c.copy e) (map forget cs)
    (λ x has_it. let found = in_forgotten cs x has_it in ap (λ (y : Chunk). is_at y.copy e) found.2)

pub forget_live : (cs : List Chunk) (e : ℕ) → live_pages (map forget cs) e ≡ live_pages cs e
forget_live [] e = refl
forget_live (c ∷ cs) e = let rest : live_pages (map forget cs) e ≡ live_pages cs e = forget_live cs e in omega arith

pub forget_on : (cs : List Chunk) (e : ℕ) → any_on (map forget cs) e ≡ any_on cs e
forget_on [] e = refl
forget_on (c ∷ cs) e = ap (λ (b : Bool). (c.extent == e) || b) (forget_on cs e)
