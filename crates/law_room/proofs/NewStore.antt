-- A new store keeps the invariant.
use Rattle.std.proofs.Common.{◌≡◌, inl, inr, ℕ, ◌+◌, ◌≤◌, false, refl, arith}
use Rattle.law_machine.specs.Device.{Shape}
use Rattle.law_room.specs.Example.{new_room}
use Rattle.law_room.specs.Invariant.{Keeps}
use Rattle.law_room.specs.Rooms.{how_many}
use Rattle.law_room.proofs.Counts.{count_none}

pub new_keeps : (S : Shape) (J : ℕ) → J + 2 ≤ S.extents → Keeps S J new_room
new_keeps S J some =
    let none : how_many (λ (e : ℕ). false) S.extents ≡ 0 = count_none (λ (e : ℕ). false) S.extents (λ e l. refl) in
    record {
      quotas = record { chunks = omega arith; runs = omega arith };
      lies = record {
        given = λ e l. omega arith;
        fits = λ e l. omega arith;
        empty = λ e is. refl;
        chunks = λ c in_it. absurd in_it;
        runs = λ e in_it. absurd in_it;
      };
      sweeps = λ c in_it. absurd in_it;
      roots = λ r has_it. elim has_it [
        | inl is ↦ rw is record {
          few_chunks = omega arith;
          few_runs = omega arith;
          apart = λ c in_it. absurd in_it;
          chunks_there = λ c in_it. absurd in_it;
          runs_there = λ e in_it. absurd in_it;
          given = λ e l. omega arith;
        }
        | inr none_left ↦ absurd none_left
      ];
    }
