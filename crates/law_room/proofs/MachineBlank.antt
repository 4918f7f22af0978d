-- What is blank in the machine is so in its room.
use Rattle.std.proofs.Common.{◌≡◌, ◌⊎◌, inl, inr, ⊎_elim, ℕ, suc, ◌<◌, ◌==◌, ◌&&◌, ◌||◌, not, Bool, true, false, List, [], ◌∷◌, ◌++◌, Option, Some, None, nat_lt, nat_le, if◌then◌else◌, eq-eqb, refl, sym, ap, ◌∙◌, subst, arith}
use Rattle.std.proofs.lemmas.Bool.{cases_Bool, ne_eqb, true≢false}
use Rattle.std.proofs.lemmas.Bool.Decides.{nat_tests}
use Rattle.law_machine.proofs.Named.{some_lives}
use Rattle.law_machine.proofs.Tallies.{lives_none}
use Rattle.law_machine.specs.Apart.{any_copy_on, any_run_on, is_blank, is_held}
use Rattle.law_machine.specs.Device.{Page, Shape}
use Rattle.law_machine.specs.Element.{Copy, Locator, Opening, Run}
use Rattle.law_machine.specs.Events.{newest_page}
use Rattle.law_machine.specs.Formats.{Formats}
use Rattle.law_machine.specs.Index.{live_at}
use Rattle.law_machine.specs.Lists.{◌∈◌}
use Rattle.law_machine.specs.State.{State, index_now}
use Rattle.law_machine.specs.Tally.{lives_on}
use Rattle.law_room.proofs.Chunks.{any_of, any_there}
use Rattle.law_room.specs.Events.{is_blank as room_blank, is_held as room_held}
use Rattle.law_room.specs.OfMachine.{AreChunksIn, AreChunksOf, IsChunkOf, IsSweepOf, of_id, run_places, targets_of}
use Rattle.law_room.specs.Rooms.{Chunk, Room, Sweep, any_on, has}

pub in_id : (cs : List Chunk) (c : Chunk) → c ∈ cs → c ∈ of_id c.id cs
in_id [] c none = absurd none
in_id (x ∷ cs) c has_it = step (x.id == c.id) refl has_it (in_id cs c)
  where
    step : (b : Bool) → (x.id == c.id) ≡ b → (c ≡ x) ⊎ (c ∈ cs) → (c ∈ cs → c ∈ of_id c.id cs)
        → c ∈ (if b then x ∷ of_id c.id cs else of_id c.id cs)
    step true test (inl is) rest = inl is
    step true test (inr there) rest = inr (rest there)
    step false test (inl is) rest = absurd (true≢false (sym (eq-eqb x.id c.id (ap (λ (y : Chunk). y.id) (sym is))) ∙ test))
    step false test (inr there) rest = rest there

pub of_id_in : (id : ℕ) (cs : List Chunk) (c : Chunk) → c ∈ of_id id cs → c ∈ cs
of_id_in id [] c none = absurd none
of_id_in id (x ∷ cs) c has_it = step (x.id == id) has_it (of_id_in id cs c)
  where
    step : (b : Bool) → c ∈ (if b then x ∷ of_id id cs else of_id id cs) → (c ∈ of_id id cs → c ∈ cs) → c ∈ x ∷ cs
    step true (inl is) rest = inl is
    step true (inr there) rest = inr (rest there)
    step false there rest = inr (rest there)

pub in_last : (xs : List Chunk) (c x : Chunk) → x ∈ xs ++ c ∷ [] → (x ∈ xs) ⊎ (x ≡ c)
in_last [] c x got = ⊎_elim (λ is. inr is) (λ none. absurd none) got
in_last (y ∷ xs) c x got = ⊎_elim (λ here. inl (inl here))
    (λ there. ⊎_elim (λ more. inl (inr more)) (λ is. inr is) (in_last xs c x there)) got

pub last_in : (xs : List Chunk) (c : Chunk) → c ∈ xs ++ c ∷ []
last_in [] c = inl refl
last_in (y ∷ xs) c = inr (last_in xs c)

pub first_in : (xs ys : List Chunk) (c : Chunk) → c ∈ xs → c ∈ xs ++ ys
first_in [] ys c none = absurd none
first_in (x ∷ xs) ys c (inl is) = inl is
first_in (x ∷ xs) ys c (inr there) = inr (first_in xs ys c there)

module _ (S : Shape) (F : Formats) (opening : Opening) (img : ℕ → Page) (pointers generations : ℕ → ℕ) (copies : List Copy)
    (id : ℕ) where
  -- each of the chunks has a place, and each place a chunk
  pub has_place : (k : ℕ) (ls : List Locator) (cs : List Chunk) (c : Chunk)
      → AreChunksOf S F opening img pointers generations copies id k ls cs → c ∈ cs
      → (l : Locator) × (l ∈ ls) × (j : ℕ) × IsChunkOf S F opening img pointers generations copies id j l c
  has_place k [] cs c none got = absurd (subst (λ (xs : List Chunk). c ∈ xs) none got)
  has_place k (l ∷ ls) cs c (last, rest, parts, is, more) got = ⊎_elim
      (λ there. (let found = has_place (suc k) ls rest c more there in (found.0, inr found.1, found.2, found.3)))
      (λ same. (
        l,
        inl refl,
        k,
        subst (λ (x : Chunk). IsChunkOf S F opening img pointers generations copies id k l x)
            (sym same) is,
      ))
      (in_last rest last c (subst (λ (xs : List Chunk). c ∈ xs) parts got))

  pub has_chunk : (k : ℕ) (ls : List Locator) (cs : List Chunk) (l : Locator)
      → AreChunksOf S F opening img pointers generations copies id k ls cs → l ∈ ls
      → (c : Chunk) × (c ∈ cs) × (j : ℕ) × IsChunkOf S F opening img pointers generations copies id j l c
  has_chunk k [] cs l are none = absurd none
  has_chunk k (x ∷ ls) cs l (last, rest, parts, is, more) (inl here) = (
    last,
    subst (λ (xs : List Chunk). last ∈ xs) (sym parts) (last_in rest last),
    k,
    subst (λ (y : Locator). IsChunkOf S F opening img pointers generations copies id k y last) (sym here) is,
  )
  has_chunk k (x ∷ ls) cs l (last, rest, parts, is, more) (inr there) =
      let found = has_chunk (suc k) ls rest l more there in (
        found.0,
        subst (λ (xs : List Chunk). found.0 ∈ xs) (sym parts) (first_in rest (last ∷ []) found.0 found.1),
        found.2,
        found.3,
      )

module _ (S : Shape) (F : Formats) (s : State) (copies : List Copy) (cs : List Chunk)
    (chunks : (id : ℕ) → AreChunksIn S F s copies id (of_id id cs)) where
  -- each chunk of room lives, and where one lives there is one
  pub lives_there : (c : Chunk) → c ∈ cs → (l : Locator) × (l ∈ live_at (index_now s) c.id) × (c.extent ≡ l.extent)
  lives_there c has_it = let found = has_place S F s.opening (newest_page s) s.world.extents.pointer
      s.world.extents.generation copies c.id 0 (live_at (index_now s) c.id) (of_id c.id cs) c (chunks c.id)
      (in_id cs c has_it) in (found.0, found.1, found.3.extent)

  pub chunk_there : (id : ℕ) (l : Locator) → l ∈ live_at (index_now s) id
      → (c : Chunk) × (c ∈ cs) × (c.extent ≡ l.extent)
  chunk_there id l has_it = let found = has_chunk S F s.opening (newest_page s) s.world.extents.pointer
      s.world.extents.generation copies id 0 (live_at (index_now s) id) (of_id id cs) l (chunks id) has_it in
      (found.0, of_id_in id cs found.0 found.1, found.3.extent)

  pub lives_alike : (e : ℕ) → nat_le (lives_on e (index_now s)) 0 ≡ not (any_on cs e)
  lives_alike e = elim (cases_Bool (any_on cs e)) [
    | inl on ↦ (let c = any_of cs e on in let l = lives_there c.0 c.1 in
        let some : 0 < lives_on l.0.extent (index_now s) = some_lives (index_now s) c.0.id l.0 l.1 in
        let at : 0 < lives_on e (index_now s) = subst (λ (d : ℕ). 0 < lives_on d (index_now s)) (sym l.2 ∙ c.2) some in
        let test : nat_le (lives_on e (index_now s)) 0 ≡ false = grind (arith, nat_tests) in test ∙ sym (ap not on))
    | inr off ↦ (
        let none : lives_on e (index_now s) ≡ 0 = (lives_none (index_now s) e).1 (λ id l has_it is.
        (let c = chunk_there id l has_it in true≢false (sym (any_there cs c.0 c.1) ∙ ap (any_on cs) (c.2 ∙ is) ∙ off))) in
        let test : nat_le (lives_on e (index_now s)) 0 ≡ true = grind (arith, nat_tests) in test ∙ sym (ap not off))
  ]

pub runs_alike : (runs : List Run) (e : ℕ) → any_run_on runs e ≡ has (run_places runs) e
runs_alike [] e = refl
runs_alike (run ∷ runs) e = ap (λ (b : Bool). (run.place.extent == e) || b) (runs_alike runs e)

copies_alike : (copies : List Copy) (e : ℕ) → any_copy_on copies e ≡ has (targets_of copies) e
copies_alike [] e = refl
copies_alike (c ∷ copies) e = ap (λ (b : Bool). (c.to.extent == e) || b) (copies_alike copies e)

-- the unfinished sweep holds the same extents
pub held_alike : (S : Shape) (s : State) (sweep : Option Sweep) (e : ℕ)
    → ((c d : ℕ) → s.world.extents.swept c ≡ true → s.world.extents.swept d ≡ true → c ≡ d) → IsSweepOf S s sweep
    → is_held S s e ≡ room_held sweep e
held_alike S s None e one is = rw is refl
held_alike S s (Some w) e one (any, below, swept, fresh, targets) =
    rw any (ap (λ (b : Bool). b || any_copy_on s.copies e) mark ∙ ap (λ (b : Bool). (w.extent == e) || b)
    (copies_alike s.copies e ∙ ap (λ (ds : List ℕ). has ds e) (sym targets)))
  where
    mark : s.world.extents.swept e ≡ (w.extent == e)
    mark = elim (cases_Bool (s.world.extents.swept e)) [
      | inl on ↦ on ∙ sym (eq-eqb w.extent e (one w.extent e swept on))
      | inr off ↦ off ∙ sym (ne_eqb w.extent e (λ same. true≢false
          (sym (ap s.world.extents.swept (sym same) ∙ swept) ∙ off)))
    ]

blank_is : (S : Shape) (s : State) (e : ℕ) (a b c : Bool) → 0 < s.world.extents.pointer e
    → s.world.extents.generation e < S.greatest_generation → nat_le (lives_on e (index_now s)) 0 ≡ not a
    → any_run_on s.runs e ≡ b → is_held S s e ≡ c → is_blank S s e ≡ not (a || (b || c))
blank_is S s e a b c some young lives runs held =
    let first : nat_lt 0 (s.world.extents.pointer e) ≡ true = grind (arith, nat_tests) in
    let second : nat_lt (s.world.extents.generation e) S.greatest_generation ≡ true = grind (arith, nat_tests) in
    rw (first, second, lives, runs, held) (by_cases a b c)
  where
    by_cases : (a b c : Bool) → ((true && not a) && (not (b || c) && true)) ≡ not (a || (b || c))
    by_cases true b c = refl
    by_cases false true c = refl
    by_cases false false true = refl
    by_cases false false false = refl

module _ (S : Shape) (F : Formats) (s : State) (copies : List Copy) (r : Room)
    (one : (c d : ℕ) → s.world.extents.swept c ≡ true → s.world.extents.swept d ≡ true → c ≡ d)
    (chunks : (id : ℕ) → AreChunksIn S F s copies id (of_id id r.chunks)) (runs : r.runs ≡ run_places s.runs)
    (sweep : IsSweepOf S s r.sweep) where
  pub blank_alike : (e : ℕ) → 0 < s.world.extents.pointer e → s.world.extents.generation e < S.greatest_generation
      → is_blank S s e ≡ room_blank r e
  blank_alike e some young = blank_is S s e (any_on r.chunks e) (has r.runs e) (room_held r.sweep e) some young
      (lives_alike S F s copies r.chunks chunks e) (runs_alike s.runs e ∙ ap (λ (ds : List ℕ). has ds e) (sym runs))
      (held_alike S s r.sweep e one sweep)
