-- The events of the examples, one after another.
use Rattle.std.proofs.Common.{◌≡◌, inl, inr, ⊎_elim, ℕ, true, false, List, [], ◌∷◌, drop, ◌==◌, Option, Some, None, refl, sym, ap, ◌∙◌, arith}
use Rattle.std.specs.Prelude.{is_some}
use Rattle.std.proofs.lemmas.Bool.{true≢false}
use Rattle.law_room.specs.Events.{Does, MoveOne, Put, Retire, Stage, abandoned, dropped, given, settled, staged, unless, with_chunk, with_copy}
use Rattle.law_room.specs.Example.{Plays, example_abandoned, example_events, example_shape, new_room}
use Rattle.law_room.specs.Rooms.{Chunk, OfRuns, Room, Sweep, chunk_extents, run_extents, without}

pub nothing : {A : Type 0} (x : A) → None ≡ Some x → ⊥
nothing x is = cc

abbrev pub put_on_0 : Room → ℕ → Room
put_on_0 s id = with_chunk example_shape (dropped s id) id 1 0

abbrev two_put : Room
two_put = put_on_0 (put_on_0 new_room 1) 2

abbrev stored : ℕ → Option ℕ → Chunk
stored id copy = record { id = id; extent = 0; pages = 1; copy = copy }

abbrev sweep_of_0 : Option ℕ → List ℕ → Sweep
sweep_of_0 fresh targets = record { extent = 0; fresh = fresh; targets = targets }

abbrev swept_0 : Room → Room
swept_0 s = record s {
  sweep = Some (sweep_of_0 None []);
  open_extent = unless (λ d. d == 0) s.open_extent;
  last = unless (λ d. d == 0) s.last;
}

abbrev pub run_on_1 : Room → Room
run_on_1 s = staged (given s 1 1 OfRuns) (1 ∷ drop 0 s.runs)

abbrev one_moved : Room → Room
one_moved s = with_copy example_shape s (sweep_of_0 None []) [] (stored 2 None) (stored 1 None ∷ []) 2 (Some 2)

abbrev two_moved : Room → Room
two_moved s = with_copy example_shape s (sweep_of_0 (Some 2) (2 ∷ [])) (stored 2 (Some 2) ∷ []) (stored 1 None) [] 2
    (Some 2)

abbrev last_moved : Room
last_moved = two_moved (one_moved (swept_0 (run_on_1 two_put)))

-- extents of the example aren't filled up
no_fill : {A : Type 0} → example_shape.fills ≡ true → A
no_fill is = absurd (true≢false (sym is))

pub put_1 : Does example_shape 1 new_room (Put 1 (1 ∷ [])) (put_on_0 new_room 1)
put_1 = ((0, inr (inr ((λ e is. absurd (nothing e is)), (omega arith, refl, omega arith), (λ is. no_fill is))), refl), omega arith)

put_2 : Does example_shape 1 (put_on_0 new_room 1) (Put 2 (1 ∷ [])) two_put
put_2 = ((0, inl (refl, ((omega arith, refl, omega arith), λ w is. absurd (nothing w is))), refl), omega arith)

stage : Does example_shape 1 two_put (Stage 0 1 1) (run_on_1 two_put)
stage = inr (inl (refl, 1, inr ((omega arith, refl, omega arith), omega arith), refl))

move_1 : Does example_shape 1 (swept_0 (run_on_1 two_put)) MoveOne (one_moved (swept_0 (run_on_1 two_put)))
move_1 = (
  sweep_of_0 None [],
  [],
  stored 2 None,
  stored 1 None ∷ [],
  2,
  Some 2,
  refl,
  refl,
  (refl, refl),
  inr (inr ((λ e is. absurd (nothing e is)), (omega arith, refl, omega arith), refl, refl, (λ is. no_fill is))),
  refl,
)

move_2 : Does example_shape 1 (one_moved (swept_0 (run_on_1 two_put))) MoveOne last_moved
move_2 = (
  sweep_of_0 (Some 2) (2 ∷ []),
  stored 2 (Some 2) ∷ [],
  stored 1 None,
  [],
  2,
  Some 2,
  refl,
  refl,
  (refl, refl),
  inl (refl, ((omega arith, refl, omega arith), λ is. absurd (omega arith)), refl),
  refl,
)

abbrev retired_there : Room
retired_there = run_on_1 (settled last_moved)

copied : (c : Chunk) (id : ℕ) → c ≡ stored id (Some 2) → c.copy ≡ None → ⊥
copied c id is left = true≢false (ap (λ (o : Option ℕ). is_some o) (ap (λ (x : Chunk). x.copy) (sym is) ∙ left))

retire : Does example_shape 1 last_moved (Retire 0 1 1) retired_there
retire = (
  sweep_of_0 (Some 2) (2 ∷ 2 ∷ []),
  refl,
  (λ c has_it left. ⊎_elim (λ is. copied c 2 is left.1)
      (λ more. ⊎_elim (λ is. copied c 1 is left.1) (λ none. absurd none) more) has_it),
  inr (inl (refl, 1, inl (omega arith, refl, omega arith), refl)),
)

pub retired_played : (t : Room) × Plays example_shape 1 new_room example_events t × (chunk_extents t 6 ≡ 1)
    × (run_extents t 6 ≡ 1)
retired_played = (
  retired_there,
  (
    put_on_0 new_room 1,
    put_1,
    (
      two_put,
      put_2,
      (
        run_on_1 two_put,
        stage,
        (
          swept_0 (run_on_1 two_put),
          (refl, omega arith, refl, refl),
          (
            one_moved (swept_0 (run_on_1 two_put)),
            move_1,
            (last_moved, move_2, (retired_there, retire, refl)),
          ),
        ),
      ),
    ),
  ),
  refl,
  refl,
)

abbrev deleted : Room
deleted = let s = one_moved (swept_0 two_put) in record s { chunks = without 1 s.chunks; rooted = false }

move : Does example_shape 1 (swept_0 two_put) MoveOne (one_moved (swept_0 two_put))
move = (
  sweep_of_0 None [],
  [],
  stored 2 None,
  stored 1 None ∷ [],
  2,
  Some 2,
  refl,
  refl,
  (refl, refl),
  inr (inr ((λ e is. absurd (nothing e is)), (omega arith, refl, omega arith), refl, refl, (λ is. no_fill is))),
  refl,
)

pub abandoned_played : (t : Room) × Plays example_shape 1 new_room example_abandoned t × (chunk_extents t 6 ≡ 1)
    × (run_extents t 6 ≡ 1)
abandoned_played = (
  abandoned (run_on_1 deleted) (Some 2),
  (
    put_on_0 new_room 1,
    put_1,
    (
      two_put,
      put_2,
      (
        swept_0 two_put,
        (refl, omega arith, refl, refl),
        (
          one_moved (swept_0 two_put),
          move,
          (
            deleted,
            refl,
            (
              run_on_1 deleted,
              inr (inl (refl, 1, inr ((omega arith, refl, omega arith), omega arith), refl)),
              (abandoned (run_on_1 deleted) (Some 2), (sweep_of_0 (Some 2) (2 ∷ []), refl, refl), refl),
            ),
          ),
        ),
      ),
    ),
  ),
  refl,
  refl,
)
