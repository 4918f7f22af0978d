-- What a call promises by rule, where the rule is known.
use Rattle.std.proofs.Common.{◌≡◌, ◌≢◌, inl, ⊎_elim, ℕ, Bool, true, false, List, [], Result, Ok, Err, refl, sym, subst}
use Rattle.std.specs.Prelude.{IfOk, OnErr}
use Rattle.cs_refusal.specs.declared.refusals.Refusal.{Refusal}
use Rattle.cs_deps.specs.Staging.{Staging}
use Rattle.cs_deps.specs.State.{State as GraphState}
use Rattle.cs_extent.specs.State.{State as ExtentsState, extents_of, shape}
use Rattle.cs_index.proofs.Exact.{why_same}
use Rattle.cs_index.specs.Apart.{IsStageFullApart, IsStageWornApart}
use Rattle.cs_index.specs.Staged.{IsExact, IsFull, IsStageWorn, WritesRun}
use Rattle.cs_index.specs.State.{State}
use Rattle.law_machine.specs.Device.{Shape}
use Rattle.law_machine.specs.Element.{Copy, Locator as Place}
use Rattle.law_machine.specs.Extents.{Extents, ForRun}
use Rattle.cs_reclaim.specs.ByRule.{IsMovedBy, IsSweepStageFullBy, IsSweepStageWornBy, MayStageBy, StaysBy}
use Rattle.cs_reclaim.specs.Copied.{IsCopyMade}
use Rattle.cs_reclaim.specs.Moves.{IsMoved}
use Rattle.cs_reclaim.specs.Rooted.{MayStageRoot}

module _ (s t : State) (x y : ExtentsState) (g h : GraphState) (copies after : List Copy) (e id chunk : ℕ) (Reads : Place → List ℕ → Type 0) where
  -- a chunk was moved, and this is so of where it was read
  abbrev pub Moved : (apart : Bool) → Type 0
  Moved apart = (payload : List ℕ) × (from : Place) × IsMovedBy apart s x g copies e id chunk from payload t y h after × Reads from payload

  -- what it is where chunks and runs may lie on one extent
  pub moved_together : (apart : Bool) → apart ≡ false → Moved apart → ((payload : List ℕ) × (move : IsMoved s x g e id chunk payload t y h) × Reads move.from payload) × (after ≡ copies)
  moved_together false rule moved = ((moved.0, moved.2.0, subst (λ (p : Place). Reads p moved.0) (sym moved.2.1) moved.3), moved.2.2)
  moved_together true rule moved = absurd (cc rule)

  -- and where they lie apart
  pub moved_apart : (apart : Bool) → apart ≡ true → Moved apart → ((payload : List ℕ) × (copy : IsCopyMade s x g copies e id chunk payload after y h) × Reads copy.from payload) × (t ≡ s)
  moved_apart true rule moved = ((moved.0, moved.2.0, subst (λ (p : Place). Reads p moved.0) (sym moved.2.1) moved.3), moved.2.2)
  moved_apart false rule moved = absurd (cc rule)

  -- and the other way round
  pub moved_before : (apart : Bool) → apart ≡ false → (payload : List ℕ) × (move : IsMoved s x g e id chunk payload t y h) × Reads move.from payload → after ≡ copies → Moved apart
  moved_before false rule moved same = (moved.0, moved.1.from, (moved.1, refl, same), moved.2)
  moved_before true rule moved same = absurd (cc rule)

  pub copied : (apart : Bool) → apart ≡ true → (payload : List ℕ) × (copy : IsCopyMade s x g copies e id chunk payload after y h) × Reads copy.from payload → t ≡ s → Moved apart
  copied true rule moved same = (moved.0, moved.1.from, (moved.1, refl, same), moved.2)
  copied false rule moved same = absurd (cc rule)

-- an index that is the same stays by either rule
pub stays : (apart : Bool) (s : State) → StaysBy apart s s
stays true s = refl
stays false s = refl

-- both rules don't hold
pub one_rule : {P : Type 0} (apart : Bool) → apart ≡ true → apart ≡ false → P
one_rule true on off = absurd (cc off)
one_rule false on off = absurd (cc on)

pub on_err : {T E : Type 0} (r : Result T E) {P : Type 0} → P → OnErr r P
on_err (Ok t) p = tt
on_err (Err f) p = p

-- an answer that is passed on
abbrev pub map_ok : {T U E : Type 0} → (T → U) → Result T E → Result U E
map_ok to (Ok t) = Ok (to t)
map_ok to (Err e) = Err e

-- what is so whatever the result, is so beside what a result says
pub ok_beside : {T E : Type 0} (r : Result T E) (A : T → Type 0) (B : Type 0) → IfOk r A → B → IfOk r (λ t. A t × B)
ok_beside (Ok t) A B a b = (a, b)
ok_beside (Err f) A B a b = tt

-- ---- a Stage

-- where chunks and runs may lie on one extent, there is something to stage a root for only if the table isn't empty
pub some_table : (apart : Bool) (S : Shape) (x : Extents) (s : State) (copies : List Copy) → apart ≡ false → MayStageBy apart S x s copies → s.table ≢ []
some_table false S x s copies rule may = ⊎_elim (λ (some : s.table ≢ []). some) (λ (on : false ≡ true). absurd (cc on)) may
some_table true S x s copies rule may = absurd (cc rule)

pub may_apart : (apart : Bool) (S : Shape) (x : Extents) (s : State) (copies : List Copy) → apart ≡ true → MayStageBy apart S x s copies → MayStageRoot S x s copies
may_apart true S x s copies rule may = may
may_apart false S x s copies rule may = absurd (cc rule)

-- with nothing to stage a root for nothing is refused
pub none_exact : {T : Type 0} (t : T) (apart : Bool) (s : State) (x : ExtentsState) (g : Staging) (copies : List Copy) → ¬ MayStageBy apart (shape x) (extents_of x) s copies
    → IsExact {T = T} (Ok t) (IsSweepStageFullBy apart s x copies) (IsSweepStageWornBy apart s x g copies)
none_exact t true s x g copies none = ((λ full. none full.0), (λ worn. none worn.0))
none_exact t false s x g copies none = ((λ full. none (inl full.1.0)), (λ worn. none (inl worn.0)))

-- a root is refused as its run is
pub exact_together : {T U : Type 0} (r : Result T Refusal) (to : T → U) (apart : Bool) (s : State) (x : ExtentsState) (g : Staging) (copies : List Copy) → apart ≡ false → s.table ≢ []
    → IsExact r (IsFull (WritesRun (shape x) s) x ForRun) (IsStageWorn (WritesRun (shape x) s) x ForRun g)
    → IsExact (map_ok to r) (IsSweepStageFullBy apart s x copies) (IsSweepStageWornBy apart s x g copies)
exact_together r to true s x g copies rule some exact = absurd (cc rule)
exact_together (Ok t) to false s x g copies rule some exact = (exact.0, (λ worn. exact.1 worn.1))
exact_together (Err f) to false s x g copies rule some exact = why_same f _ _ _ _ (λ full. full) (λ full. full) (λ worn. (some, worn)) exact

pub exact_apart : {T U : Type 0} (r : Result T Refusal) (to : T → U) (apart : Bool) (s : State) (x : ExtentsState) (g : Staging) (copies : List Copy) → apart ≡ true → MayStageRoot (shape x) (extents_of x) s copies
    → IsExact r (IsStageFullApart s x) (IsStageWornApart s x g) → IsExact (map_ok to r) (IsSweepStageFullBy apart s x copies) (IsSweepStageWornBy apart s x g copies)
exact_apart r to false s x g copies rule may exact = absurd (cc rule)
exact_apart (Ok t) to true s x g copies rule may exact = ((λ full. exact.0 full.1), (λ worn. exact.1 worn.1))
exact_apart (Err f) to true s x g copies rule may exact = why_same f _ _ _ _ (λ full. (may, full)) (λ full. full.1) (λ worn. (may, worn)) exact
