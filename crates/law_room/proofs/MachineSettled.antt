-- What a sweep copied counts in the machine as in its room.
use Rattle.std.proofs.Common.{◌≡◌, inl, inr, ℕ, zero, suc, ◌+◌, ◌==◌, Bool, true, false, List, [], ◌∷◌, ◌++◌, Option, Some, None, if◌then◌else◌, eq-eqb, refl, sym, ap, ◌∙◌, subst, arith}
use Rattle.std.proofs.lemmas.Bool.{cases_eq, ne_eqb, true≢false}
use Rattle.law_machine.proofs.Meant.{own_place}
use Rattle.law_machine.proofs.ApartMoving.{place_is}
use Rattle.law_machine.specs.Apart.{is_place, settle_all}
use Rattle.law_machine.specs.Element.{Copy, Locator}
use Rattle.law_machine.specs.Index.{entries_of, live_at}
use Rattle.law_machine.specs.Lists.{nth, replaced}
use Rattle.law_machine.specs.State.{State, index_now}
use Rattle.law_room.proofs.MachineCopies.{copy_is}
use Rattle.law_room.proofs.MachineMoves.{other_copy, this_copy}
use Rattle.law_room.specs.OfMachine.{is_copy_of}

-- each member of a list by its number, the first by k
abbrev pub map_from : (ℕ → Locator → Locator) → ℕ → List Locator → List Locator
map_from f k [] = []
map_from f k (l ∷ ls) = f k l ∷ map_from f (suc k) ls

-- where a chunk lies once these copies count, the oldest first
abbrev pub settled_place : List Copy → (id k : ℕ) → Locator → Locator
settled_place [] id k l = l
settled_place (c ∷ cs) id k l = if is_copy_of c id k (settled_place cs id k l) then c.to else settled_place cs id k l

map_same : (f g : ℕ → Locator → Locator) (k : ℕ) (ls : List Locator)
    → ((i : ℕ) (l : Locator) → nth ls i ≡ Some l → f (k + i) l ≡ g (k + i) l) → map_from f k ls ≡ map_from g k ls
map_same f g k [] same = refl
map_same f g k (l ∷ ls) same =
    let at : k + 0 ≡ k = omega arith in
    let here : f k l ≡ g k l = subst (λ (n : ℕ). f n l ≡ g n l) at (same 0 l refl) in
    let rest : map_from f (suc k) ls ≡ map_from g (suc k) ls = map_same f g (suc k) ls
    (λ i x is. let more : k + suc i ≡ suc k + i = omega arith in
    subst (λ (n : ℕ). f n x ≡ g n x) more (same (suc i) x is)) in
    ap (λ (x : Locator). x ∷ map_from f (suc k) ls) here ∙ ap (λ (xs : List Locator). g k l ∷ xs) rest

map_plain : (k : ℕ) (ls : List Locator) → map_from (λ i l. l) k ls ≡ ls
map_plain k [] = refl
map_plain k (l ∷ ls) = ap (λ (xs : List Locator). l ∷ xs) (map_plain (suc k) ls)

pub map_nth : (f : ℕ → Locator → Locator) (k i : ℕ) (ls : List Locator) (x : Locator) → nth (map_from f k ls) i ≡ Some x
    → (l : Locator) × (nth ls i ≡ Some l) × (x ≡ f (k + i) l)
map_nth f k i [] x wrong = absurd (let no : None ≡ Some x = wrong in cc)
map_nth f k zero (l ∷ ls) x is = (
  l,
  refl,
  (let at : k + 0 ≡ k = omega arith in let same : f k l ≡ x = cc in
      sym same ∙ ap (λ (n : ℕ). f n l) (sym at)),
)
map_nth f k (suc i) (l ∷ ls) x is = let found = map_nth f (suc k) i ls x is in (
  found.0,
  found.1,
  (let at : suc k + i ≡ k + suc i = omega arith in
      found.2 ∙ ap (λ (n : ℕ). f n found.0) at),
)

pub nth_map : (f : ℕ → Locator → Locator) (k i : ℕ) (ls : List Locator) (l : Locator) → nth ls i ≡ Some l
    → nth (map_from f k ls) i ≡ Some (f (k + i) l)
nth_map f k i [] l wrong = absurd (let no : None ≡ Some l = wrong in cc)
nth_map f k zero (x ∷ ls) l is = let at : k + 0 ≡ k = omega arith in let same : x ≡ l = cc in
    ap (λ (n : ℕ). Some (f n x)) (sym at) ∙ ap (λ (y : Locator). Some (f (k + 0) y)) same
nth_map f k (suc i) (x ∷ ls) l is = let at : suc k + i ≡ k + suc i = omega arith in
    nth_map f (suc k) i ls l is ∙ ap (λ (n : ℕ). Some (f n l)) at

map_replaced : (f : ℕ → Locator → Locator) (k j : ℕ) (ls : List Locator) (x : Locator)
    → replaced (map_from f k ls) j x ≡ map_from (λ i l. if i == k + j then x else f i l) k ls
map_replaced f k j [] x = refl
map_replaced f k zero (l ∷ ls) x =
    let here : (k == k + 0) ≡ true = eq-eqb k (k + 0) (omega arith) in
    rw here (ap (λ (xs : List Locator). x ∷ xs) (map_same f (λ i y. if i == k + 0 then x else f i y) (suc k) ls
    (λ i y is. let off : (suc k + i == k + 0) ≡ false = ne_eqb (suc k + i) (k + 0) (λ same. omega arith) in rw off refl)))
map_replaced f k (suc j) (l ∷ ls) x =
    let off : (k == k + suc j) ≡ false = ne_eqb k (k + suc j) (λ same. omega arith) in
    let at : suc k + j ≡ k + suc j = omega arith in
    rw off (ap (λ (xs : List Locator). f k l ∷ xs) (map_replaced f (suc k) j ls x
    ∙ ap (λ (n : ℕ). map_from (λ i y. if i == n then x else f i y) (suc k) ls) at))

is_place_there : (o : Option Locator) (l : Locator) → o ≡ Some l → is_place o l ≡ true
is_place_there None l wrong = absurd (let no : None ≡ Some l = wrong in cc)
is_place_there (Some k) l is = own_place k l (let same : k ≡ l = cc in same)

module _ (s : State) where
  -- where the chunks lie once copies count
  pub places_settled : (copies : List Copy) (id : ℕ) → live_at (index_now (settle_all s copies)) id
      ≡ map_from (settled_place copies id) 0 (live_at (index_now s) id)
  places_settled [] id = sym (map_plain 0 (live_at (index_now s) id))
  places_settled (c ∷ cs) id = step (is_place (nth (live_at (index_now (settle_all s cs)) c.id) c.chunk) c.from) refl
      (places_settled cs id) (places_settled cs c.id)
    where
      step : (b : Bool) → is_place (nth (live_at (index_now (settle_all s cs)) c.id) c.chunk) c.from ≡ b
          → live_at (index_now (settle_all s cs)) id ≡ map_from (settled_place cs id) 0 (live_at (index_now s) id)
          → live_at (index_now (settle_all s cs)) c.id ≡ map_from (settled_place cs c.id) 0 (live_at (index_now s) c.id)
          → live_at ((if b then record { id = c.id; locators = replaced (live_at (index_now (settle_all s cs)) c.id) c.chunk c.to }
          ∷ (settle_all s cs).table else (settle_all s cs).table) ++ entries_of (settle_all s cs).runs) id
          ≡ map_from (settled_place (c ∷ cs) id) 0 (live_at (index_now s) id)
      step false off rest at = rest ∙ map_same (settled_place cs id) (settled_place (c ∷ cs) id) 0 (live_at (index_now s) id)
          (λ i l is. sym (not_this i l is))
        where
          not_this : (i : ℕ) (l : Locator) → nth (live_at (index_now s) id) i ≡ Some l
              → settled_place (c ∷ cs) id (0 + i) l ≡ settled_place cs id (0 + i) l
          not_this i l is = go (is_copy_of c id (0 + i) (settled_place cs id (0 + i) l)) refl
            where
              go : (b : Bool) → is_copy_of c id (0 + i) (settled_place cs id (0 + i) l) ≡ b
                  → (if b then c.to else settled_place cs id (0 + i) l) ≡ settled_place cs id (0 + i) l
              go false no_copy = refl
              go true copy = absurd (let this = copy_is c id (0 + i) (settled_place cs id (0 + i) l) copy in
                  let zero_more : 0 + i ≡ i = omega arith in
                  let there : nth (live_at (index_now (settle_all s cs)) c.id) c.chunk ≡ Some c.from =
                  ap (λ (n : ℕ). nth (live_at (index_now (settle_all s cs)) n) c.chunk) this.0
                  ∙ ap (λ (n : ℕ). nth (live_at (index_now (settle_all s cs)) id) n) (this.1 ∙ zero_more)
                  ∙ ap (λ (ls : List Locator). nth ls i) rest
                  ∙ nth_map (settled_place cs id) 0 i (live_at (index_now s) id) l is
                  ∙ ap (λ (x : Locator). Some x) (sym this.2) in
                  true≢false (sym (is_place_there _ c.from there) ∙ off))
      step true on rest at = elim (cases_eq c.id id) [
        | inr other ↦ (let no_entry : (c.id == id) ≡ false = ne_eqb c.id id other in
            rw no_entry (rest ∙ map_same (settled_place cs id) (settled_place (c ∷ cs) id) 0 (live_at (index_now s) id)
            (λ i l is. sym (ap (λ (b : Bool). if b then c.to else settled_place cs id (0 + i) l)
            (other_copy c id (0 + i) (settled_place cs id (0 + i) l) (λ same k. other same))))))
        | inl same ↦ (let entry : (c.id == id) ≡ true = eq-eqb c.id id same in
            rw entry (ap (λ (ls : List Locator). replaced ls c.chunk c.to) (at ∙ ap (λ (n : ℕ). map_from (settled_place cs n) 0
            (live_at (index_now s) n)) same)
            ∙ map_replaced (settled_place cs id) 0 c.chunk (live_at (index_now s) id) c.to
            ∙ map_same (λ i l. if i == 0 + c.chunk then c.to else settled_place cs id i l) (settled_place (c ∷ cs) id) 0
            (live_at (index_now s) id) (λ i l is. each i l is same)))
      ]
        where
          each : (i : ℕ) (l : Locator) → nth (live_at (index_now s) id) i ≡ Some l → c.id ≡ id
              → (if (0 + i) == 0 + c.chunk then c.to else settled_place cs id (0 + i) l)
              ≡ settled_place (c ∷ cs) id (0 + i) l
          each i l is same = elim (cases_eq c.chunk i) [
            | inl here ↦ (let test_on : (0 + i == 0 + c.chunk) ≡ true = eq-eqb (0 + i) (0 + c.chunk) (omega arith) in
                let zero_more : 0 + i ≡ i = omega arith in
                let found = place_is (nth (live_at (index_now (settle_all s cs)) c.id) c.chunk) c.from on in
                let place : Some (settled_place cs id (0 + i) l) ≡ Some c.from =
                sym (nth_map (settled_place cs id) 0 i (live_at (index_now s) id) l is)
                ∙ ap (λ (ls : List Locator). nth ls i) (sym rest)
                ∙ ap (λ (n : ℕ). nth (live_at (index_now (settle_all s cs)) id) n) (sym here)
                ∙ ap (λ (n : ℕ). nth (live_at (index_now (settle_all s cs)) n) c.chunk) (sym same) ∙ found in
                let from : settled_place cs id (0 + i) l ≡ c.from = cc in
                let copy : is_copy_of c id (0 + i) (settled_place cs id (0 + i) l) ≡ true =
                this_copy c id (0 + i) (settled_place cs id (0 + i) l) same (here ∙ sym zero_more) (sym from) in
                rw (test_on, copy) refl)
            | inr other ↦ (let test_off : (0 + i == 0 + c.chunk) ≡ false = ne_eqb (0 + i) (0 + c.chunk)
                (λ wrong. other (omega (arith, wrong))) in
                let copy : is_copy_of c id (0 + i) (settled_place cs id (0 + i) l) ≡ false =
                other_copy c id (0 + i) (settled_place cs id (0 + i) l) (λ ids k. other (omega (arith, k))) in
                rw (test_off, copy) refl)
          ]
