-- A whole sweep can be made.
use Rattle.std.proofs.Common.{◌≡◌, ◌⊎◌, inl, inr, ⊎_elim, ℕ, suc, ◌<◌, ◌≤◌, List, [], ◌∷◌, ◌++◌, Option, Some, None, refl, sym, ap, ◌∙◌, subst}
use Rattle.std.proofs.lemmas.Bool.{cases_Bool, cases_eq}
use Rattle.std.proofs.lemmas.List.{append-nil, append_assoc}
use Rattle.law_machine.specs.Device.{Shape}
use Rattle.law_machine.specs.Lists.{◌∈◌}
use Rattle.law_room.specs.Events.{AllCopied, Does, MoveOne, IsLeft, Stages, freed, given, settled, staged, with_copy}
use Rattle.law_room.specs.Invariant.{Keeps}
use Rattle.law_room.specs.Rooms.{Chunk, Empty, OfRuns, Room, Sweep}
use Rattle.law_room.specs.Sweeps.{IsChunkExtent, IsSwept, Moves}
use Rattle.law_room.proofs.Chunks.{middle_in}
use Rattle.law_room.proofs.Gaining.{begun, noted, sweep_begun}
use Rattle.law_room.proofs.Moving.{IsCopied, copied_to, moved_keeps}
use Rattle.law_room.proofs.Opening.{begin_keeps}
use Rattle.law_room.proofs.Places.{copy_goes, some_empty}

none_is : (o : Option ℕ) → (o ≡ None) ⊎ (o ≡ None → ⊥)
none_is None = inl refl
none_is (Some e) = inr (λ is. let wrong : Some e ≡ None = is in cc)

in_end : (xs : List Chunk) (c x : Chunk) → x ∈ xs ++ c ∷ [] → (x ∈ xs) ⊎ (x ≡ c)
in_end [] c x got = ⊎_elim (λ is. inr is) (λ none. absurd none) got
in_end (y ∷ xs) c x got = ⊎_elim (λ here. inl (inl here))
    (λ there. ⊎_elim (λ more. inl (inr more)) (λ is. inr is) (in_end xs c x there)) got

module _ (S : Shape) (J : ℕ) where
  left_or_not : (w : Sweep) (c : Chunk) → IsLeft S w c ⊎ (IsLeft S w c → ⊥)
  left_or_not w c = elim (cases_eq c.extent w.extent) [
    | inr other ↦ inr (λ left. other left.0)
    | inl same ↦ ⊎_elim (λ is. inl (same, is)) (λ not. inr (λ left. not left.1)) (none_is c.copy)
  ]

  -- all that is left was moved
  record IsAllMoved (s : Room) (e : ℕ) : Type 0 where
    moves : ℕ
    after : Room
    sweep : Sweep
    goes : Moves S J moves s after
    is : after.sweep ≡ Some sweep
    extent : sweep.extent ≡ e
    keeps : Keeps S J after
    copied : AllCopied S after sweep

  -- before: chunks of which none is left; rest: those that may be
  move_rest : (rest before : List Chunk) (s : Room) (w : Sweep) → Keeps S J s → s.sweep ≡ Some w
      → s.chunks ≡ before ++ rest → ((c : Chunk) → c ∈ before → IsLeft S w c → ⊥) → IsAllMoved s w.extent
  move_rest [] before s w keeps is chunks done = record {
    moves = 0;
    after = s;
    sweep = w;
    goes = refl;
    is = is;
    extent = refl;
    keeps = keeps;
    copied = λ c got left. done c (subst (λ (cs : List Chunk). c ∈ cs) (chunks ∙ append-nil before) got) left;
  }
  move_rest (c ∷ rest) before s w keeps is chunks done = ⊎_elim
      (λ left.
      let place = copy_goes S J s w c keeps is (subst (λ (cs : List Chunk). c ∈ cs) (sym chunks)
      (middle_in before rest c)) left in
      let e : ℕ = place.0 in
      let copied : IsCopied S s w before c rest e place.1 = record { chunks = chunks; left = left; goes = place.2 } in
      let more : IsAllMoved (with_copy S s w before c rest e place.1) w.extent = move_rest rest
      (before ++ copied_to c e ∷ []) (with_copy S s w before c rest e place.1) (noted w e place.1)
      (moved_keeps S J s w before c rest e place.1 keeps is copied) refl
      (sym (append_assoc before (copied_to c e ∷ []) rest))
      (λ x got out. ⊎_elim (λ old. done x old out)
      (λ same. let wrong : Some e ≡ None = ap (λ (y : Chunk). y.copy) (sym same) ∙ out.1 in absurd cc)
      (in_end before (copied_to c e) x got)) in record {
        moves = suc more.moves;
        after = more.after;
        sweep = more.sweep;
        goes = (
          with_copy S s w before c rest e place.1,
          (w, before, c, rest, e, place.1, is, chunks, left, place.2, refl),
          more.goes,
        );
        is = more.is;
        extent = more.extent;
        keeps = more.keeps;
        copied = more.copied;
      })
      (λ not. move_rest rest (before ++ c ∷ []) s w keeps is (chunks ∙ sym (append_assoc before (c ∷ []) rest))
      (λ x got out. ⊎_elim (λ old. done x old out)
      (λ same. not (subst (λ (y : Chunk). IsLeft S w y) same out)) (in_end before c x got)))
      (left_or_not w c)

  pub stages_there : (s : Room) (newest pages all : ℕ) → ((e : ℕ) × (e < S.extents) × (s.holds e ≡ Empty)) → all ≤ S.pages
      → (t : Room) × Stages S J s newest pages all t
  stages_there s newest pages all empty fits = elim (cases_Bool s.rooted) [
    | inl nothing ↦ (freed s, inl (nothing, refl))
    | inr some ↦ (
      staged (given s empty.0 all OfRuns) (empty.0 ∷ []),
      inr (inr (inl (some, empty.0, (empty.1, empty.2, fits), refl))),
    )
  ]

  pub sweep_there : (s : Room) (e newest pages all : ℕ) → Keeps S J s → s.sweep ≡ None → IsChunkExtent S J s e
      → all ≤ S.pages → (t : Room) × (swept : IsSwept S J s e t) × (swept.newest ≡ newest) × (swept.pages ≡ pages)
      × (swept.all ≡ all)
  sweep_there s e newest pages all keeps none chunks fits =
      let moved : IsAllMoved (begun s e) e = move_rest s.chunks [] (begun s e) (sweep_begun e)
      (begin_keeps S J s e keeps none chunks.0 chunks.1) refl refl (λ c got left. absurd got) in
      let after = stages_there (settled moved.after) newest pages all (some_empty S J moved.after moved.keeps) fits in (
        after.0,
        record {
          begun = begun s e;
          moved = moved.after;
          retired = after.0;
          events = 0;
          moves = moved.moves;
          newest = newest;
          pages = pages;
          all = all;
          begins = (none, chunks.0, chunks.1, refl);
          goes = moved.goes;
          retires = (moved.sweep, moved.is, moved.copied, after.1);
          syncs = refl;
        },
        refl,
        refl,
        refl,
      )

  split_at : (cs : List Chunk) (c : Chunk) → c ∈ cs
      → (before : List Chunk) × (behind : List Chunk) × (cs ≡ before ++ c ∷ behind)
  split_at [] c none = absurd none
  split_at (x ∷ cs) c (inl is) = ([], cs, ap (λ (y : Chunk). y ∷ cs) (sym is))
  split_at (x ∷ cs) c (inr there) = let parts = split_at cs c there in
      (x ∷ parts.0, parts.1, ap (λ (ys : List Chunk). x ∷ ys) parts.2)

  pub move_there : (s : Room) (w : Sweep) (c : Chunk) → Keeps S J s → s.sweep ≡ Some w → c ∈ s.chunks → IsLeft S w c
      → (t : Room) × Does S J s MoveOne t
  move_there s w c keeps is got left =
      let parts = split_at s.chunks c got in
      let place = copy_goes S J s w c keeps is got left in (
        with_copy S s w parts.0 c parts.1 place.0 place.1,
        (w, parts.0, c, parts.1, place.0, place.1, is, parts.2, left, place.2, refl),
      )
