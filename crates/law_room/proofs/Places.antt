-- There is a place.
use Rattle.std.proofs.Common.{◌≡◌, ◌⊎◌, inl, inr, ⊎_elim, ℕ, ◌+◌, ◌<◌, ◌≤◌, ◌==◌, Bool, true, List, [], ◌∷◌, Option, Some, None, ◌&&◌, le_trans, refl, sym, ap, ◌∙◌, subst, arith}
use Rattle.std.specs.Prelude.{is_none}
use Rattle.std.proofs.lemmas.Bool.{and_from, cases_Bool, cases_eq, cases_lt, eq-eqb, true≢false}
use Rattle.law_machine.specs.Device.{Shape}
use Rattle.law_machine.specs.Lists.{◌∈◌}
use Rattle.law_room.specs.Events.{GoesForCopy, IsLeft, LastIsFull, OnEmpty, TakesCopy}
use Rattle.law_room.specs.Invariant.{IsSweep, Keeps, SweepsRight}
use Rattle.law_room.specs.Rooms.{Chunk, Empty, Holding, Room, Sweep, chunk_extents, copied_pages, is_of_chunks, left_pages, live_pages, one_if, opened_by, pages_of, run_extents}
use Rattle.law_room.proofs.Counts.{chunks_is, empty_there, find_below}
use Rattle.law_room.proofs.Chunks.{left_le, sum_on}

module _ (S : Shape) (J : ℕ) where
  one_at_most : (o : Option ℕ) → one_if o ≤ 1
  one_at_most None = omega arith
  one_at_most (Some e) = omega arith

  pub opened_at_most : (o : Option Sweep) → opened_by o ≤ 1
  opened_at_most None = omega arith
  opened_at_most (Some w) = one_at_most w.fresh

  -- one extent is empty
  pub some_empty : (s : Room) → Keeps S J s → (e : ℕ) × (e < S.extents) × (s.holds e ≡ Empty)
  some_empty s keeps =
      let a : chunk_extents s S.extents + J + 2 ≤ S.extents + opened_by s.sweep = keeps.quotas.chunks in
      let b : run_extents s S.extents ≤ J = keeps.quotas.runs in
      let one : opened_by s.sweep ≤ 1 = opened_at_most s.sweep in
      empty_there s.holds S.extents (omega arith)

  pub run_goes : (s : Room) (pages all : ℕ) → Keeps S J s → all ≤ S.pages → ((e : ℕ) → OnEmpty S s all e → ⊥) → ⊥
  run_goes s pages all keeps fits none = let empty = some_empty s keeps in none empty.0 (empty.1, empty.2, fits)

  -- a chunk takes no more pages than all that pass the test as it does
  pub at_most_all : (f : Chunk → Bool) (cs : List Chunk) (c : Chunk) → c ∈ cs → f c ≡ true → c.pages ≤ pages_of f cs
  at_most_all f [] c none on = absurd none
  at_most_all f (x ∷ cs) c (inl is) on =
      let here : pages_of f (x ∷ cs) ≡ x.pages + pages_of f cs = sum_on f x cs
      (subst (λ (y : Chunk). f y ≡ true) is on) in
      let pages : c.pages ≡ x.pages = ap (λ (y : Chunk). y.pages) is in omega arith
  at_most_all f (x ∷ cs) c (inr there) on = le_trans (at_most_all f cs c there on) (omega arith)

  pub sweep_of : (s : Room) (w : Sweep) → Keeps S J s → s.sweep ≡ Some w → IsSweep S J s w
  sweep_of s w keeps is = subst (λ (o : Option Sweep). SweepsRight S J s o) is keeps.sweeps

  pub takes_or_not : (s : Room) (w : Sweep) (k d : ℕ) → TakesCopy S s w k d ⊎ (TakesCopy S s w k d → ⊥)
  takes_or_not s w k d = elim (cases_lt d S.extents) [
    | inr out ↦ inr (λ takes. let lt : d < S.extents = takes.0.0 in omega arith)
    | inl lt ↦ elim (cases_Bool (is_of_chunks (s.holds d))) [
      | inr off ↦ inr (λ takes. true≢false (sym (ap (λ (h : Holding). is_of_chunks h) takes.0.1) ∙ off))
      | inl on ↦ elim (cases_lt S.pages (s.pointer d + k)) [
        | inl over ↦ inr (λ takes. let fits : s.pointer d + k ≤ S.pages = takes.0.2 in omega arith)
        | inr fits ↦ elim (cases_eq d w.extent) [
          | inl same ↦ inr (λ takes. takes.1 same)
          | inr other ↦ inl ((lt, chunks_is (s.holds d) on, fits), other)
        ]
      ]
    ]
  ]

  last_or_not : (s : Room) (w : Sweep) (k : ℕ) (o : Option ℕ) → s.last ≡ o
      → ((e : ℕ) × (s.last ≡ Some e) × TakesCopy S s w k e) ⊎ LastIsFull S s w k
  last_or_not s w k None is = inr (λ e at takes. let wrong : None ≡ Some e = sym is ∙ at in cc)
  last_or_not s w k (Some d) is = ⊎_elim (λ takes. inl (d, is, takes))
      (λ (full : TakesCopy S s w k d → ⊥). inr (λ e at takes. full
      (let same : d ≡ e = (let both : Some d ≡ Some e = sym is ∙ at in cc) in
      subst (λ (x : ℕ). TakesCopy S s w k x) (sym same) takes)))
      (takes_or_not s w k d)

  -- what is left to copy takes at most the pages of an extent
  pub left_fits : (s : Room) (w : Sweep) → Keeps S J s → IsSweep S J s w → left_pages s.chunks w.extent ≤ S.pages
  left_fits s w keeps sweep =
      let a : left_pages s.chunks w.extent ≤ live_pages s.chunks w.extent = left_le s.chunks w.extent in
      let b : live_pages s.chunks w.extent + copied_pages s.chunks w.extent ≤ s.pointer w.extent = keeps.lies.given
      w.extent sweep.swept.0 in
      let c : s.pointer w.extent ≤ S.pages = keeps.lies.fits w.extent sweep.swept.0 in omega arith

  pub left_here : (w : Sweep) (c : Chunk) → IsLeft S w c → ((c.extent == w.extent) && is_none c.copy) ≡ true
  left_here w c left = and_from (c.extent == w.extent) (is_none c.copy) (eq-eqb c.extent w.extent left.0)
      (ap (λ (o : Option ℕ). is_none o) left.1)

  pub copy_goes : (s : Room) (w : Sweep) (c : Chunk) → Keeps S J s → s.sweep ≡ Some w → c ∈ s.chunks → IsLeft S w c
      → (e : ℕ) × (fresh : Option ℕ) × GoesForCopy S s w c.pages e fresh
  copy_goes s w c keeps is has_it left = go w.fresh refl
    where
      sweep : IsSweep S J s w
      sweep = sweep_of s w keeps is

      small : c.pages ≤ left_pages s.chunks w.extent
      small = at_most_all (λ x. (x.extent == w.extent) && is_none x.copy) s.chunks c has_it (left_here w c left)

      go : (o : Option ℕ) → w.fresh ≡ o → (e : ℕ) × (fresh : Option ℕ) × GoesForCopy S s w c.pages e fresh
      go (Some f) at =
          let fresh = sweep.fresh f at in
          let target = sweep.targets f fresh.0 in
          let behind : s.pointer f + left_pages s.chunks w.extent ≤ S.pages = fresh.3 in
          (f, w.fresh, inl (fresh.1, ((target.0, target.1, omega (arith, small)), target.2), refl))
      go None at = ⊎_elim
          (λ takes. (takes.0, w.fresh, inl (takes.1, takes.2, refl)))
          (λ full. ⊎_elim
          (λ found. (found.0, w.fresh, inr (inl (full, found.2, refl))))
          (λ (none : (e : ℕ) → e < S.extents → TakesCopy S s w c.pages e → ⊥).
          let empty = some_empty s keeps in
          let all : left_pages s.chunks w.extent ≤ S.pages = left_fits s w keeps sweep in (
            empty.0,
            Some empty.0,
            inr (inr (
              full,
              (empty.1, empty.2, omega (arith, small)),
              at,
              refl,
              (λ filled e takes. none e takes.0.0 takes),
            )),
          ))
          (find_below (TakesCopy S s w c.pages) (takes_or_not s w c.pages) S.extents))
          (last_or_not s w c.pages s.last refl)
