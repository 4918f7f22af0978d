-- The events of the example with an opening, one after another.
use Rattle.std.proofs.Common.{◌≡◌, inl, inr, ℕ, suc, ◌≤◌, ◌==◌, Bool, true, false, [], ◌∷◌, take, refl, arith}
use Rattle.std.specs.Prelude.{if◌then◌else◌}
use Rattle.law_room.specs.Events.{Does, Open, Put, Stage, opened}
use Rattle.law_room.specs.Example.{Plays, example_opened, example_pointers, example_root, example_shape, new_room}
use Rattle.law_room.specs.Rooms.{Room, chunk_extents, run_extents}
use Rattle.law_room.proofs.Played.{nothing, put_1, put_on_0, run_on_1}

abbrev ended : ℕ → Room → Room
ended waiting s = record s { roots = take (suc waiting) s.roots }

abbrev one_staged : Room
one_staged = run_on_1 (put_on_0 new_room 1)

abbrev one_persistent : Room
one_persistent = ended 0 one_staged

abbrev two_there : Room
two_there = put_on_0 one_persistent 2

abbrev two_staged : Room
two_staged = run_on_1 two_there

abbrev one_waits : Room
one_waits = ended 1 two_staged

abbrev opened_there : Room
opened_there = opened example_root (example_pointers 2 2)

stage_1 : Does example_shape 1 (put_on_0 new_room 1) (Stage 0 1 1) one_staged
stage_1 = inr (inl (refl, 1, inr ((omega arith, refl, omega arith), omega arith), refl))

put_2 : Does example_shape 1 one_persistent (Put 2 (1 ∷ [])) two_there
put_2 = ((0, inl (refl, ((omega arith, refl, omega arith), λ w is. absurd (nothing w is))), refl), omega arith)

stage_2 : Does example_shape 1 two_there (Stage 0 1 1) two_staged
stage_2 = inr (inl (refl, 1, inl (omega arith, refl, omega arith), refl))

-- what the superblock says is given: at most the pages of an extent, and at least what the root says
at_most : (a b : Bool) → (if a then 2 else if b then 2 else 0) ≤ 2
at_most true b = omega arith
at_most false true = omega arith
at_most false false = omega arith

at_least : (a b : Bool) → (if a then 1 else if b then 1 else 0) ≤ (if a then 2 else if b then 2 else 0)
at_least true b = omega arith
at_least false true = omega arith
at_least false false = omega arith

opening : Does example_shape 1 one_waits (Open example_root (example_pointers 2 2)) opened_there
opening = (inr (inl refl), (λ e lt. at_most (e == 1) (e == 0)), (λ e is. at_least (e == 1) (e == 0)), refl)

pub opened_played : (t : Room) × Plays example_shape 1 new_room example_opened t × (chunk_extents t 6 ≡ 1)
    × (run_extents t 6 ≡ 1) × (t.chunks ≡ example_root.chunks) × (t.roots ≡ example_root ∷ [])
opened_played = (
  opened_there,
  (
    put_on_0 new_room 1,
    put_1,
    (
      one_staged,
      stage_1,
      (
        one_persistent,
        refl,
        (two_there, put_2, (two_staged, stage_2, (one_waits, refl, (opened_there, opening, refl)))),
      ),
    ),
  ),
  refl,
  refl,
  refl,
  refl,
)
