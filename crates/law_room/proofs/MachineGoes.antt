-- Where a frame goes in the machine it may go in its room, and the extents stay those of the machine.
use Rattle.std.proofs.Common.{◌≡◌, ◌≢◌, ◌⊎◌, inl, inr, ⊎_elim, ℕ, ◌+◌, ◌<◌, ◌≤◌, ◌==◌, ◌&&◌, not, nat_lt, Bool, true, false, Option, Some, None, if◌then◌else◌, eq-eqb, refl, sym, ap, ◌∙◌, subst, arith}
use Rattle.std.proofs.lemmas.Bool.{cases_eq, ne_eqb, true≢false}
use Rattle.std.proofs.lemmas.Bool.Decides.{nat_tests}
use Rattle.law_machine.proofs.Parts.{with_other, with_same}
use Rattle.law_machine.specs.Device.{Shape}
use Rattle.law_machine.specs.Extents.{Extents, MayFill, chunk_extents as machine_chunks, run_extents as machine_runs, one_if}
use Rattle.law_machine.specs.Lists.{with}
use Rattle.law_room.proofs.Counts.{count_le, count_less}
use Rattle.law_room.specs.Events.{LeftAlone, given, unless}
use Rattle.law_room.specs.OfMachine.{AreExtentsOf, IsFilled, holding}
use Rattle.law_room.specs.Rooms.{Empty, Holding, OfChunks, OfRuns, Room, Sweep, chunk_extents, is_of_chunks, is_of_runs, opened_by, run_extents}

-- what is said of an extent that may be set aside
pub not_aside : {A : Type 0} (b : Bool) (x y : A) → b ≡ false → (if b then x else y) ≡ y
not_aside true x y wrong = absurd (true≢false wrong)
not_aside false x y is = refl

pub unless_some : (aside : ℕ → Bool) (o : Option ℕ) (e : ℕ) → unless aside o ≡ Some e → (o ≡ Some e) × (aside e ≡ false)
unless_some aside None e is = absurd (let wrong : None ≡ Some e = is in cc)
unless_some aside (Some d) e is = go (aside d) refl is
  where
    go : (b : Bool) → aside d ≡ b → (if b then None else Some d) ≡ Some e → (Some d ≡ Some e) × (aside e ≡ false)
    go true at wrong = absurd (let no : None ≡ Some e = wrong in cc)
    go false at same = (let here : d ≡ e = cc in (same, ap aside (sym here) ∙ at))

pub unless_stays : (aside : ℕ → Bool) (e : ℕ) → aside e ≡ false → unless aside (Some e) ≡ Some e
unless_stays aside e off = rw off refl

pub holds_runs : (x : Extents) (e : ℕ) (runs : Bool) → 0 < x.pointer e → x.of_runs e ≡ runs
    → holding x e ≡ (if runs then OfRuns else OfChunks)
holds_runs x e runs some is = let test : (x.pointer e == 0) ≡ false = ne_eqb (x.pointer e) 0 (λ none. omega arith) in
    rw (test, is) refl

holds_empty : (x : Extents) (e : ℕ) → x.pointer e ≡ 0 → holding x e ≡ Empty
holds_empty x e none = rw none refl

pub chunks_there : (x : Extents) (e : ℕ) → is_of_chunks (holding x e) ≡ true → (0 < x.pointer e) × (x.of_runs e ≡ false)
chunks_there x e is = go (x.pointer e == 0) (x.of_runs e) refl refl is
  where
    go : (a b : Bool) → (x.pointer e == 0) ≡ a → x.of_runs e ≡ b
        → is_of_chunks (if a then Empty else if b then OfRuns else OfChunks) ≡ true → (0 < x.pointer e) × (x.of_runs e ≡ false)
    go true b is_a is_b wrong = absurd (true≢false (sym wrong))
    go false true is_a is_b wrong = absurd (true≢false (sym wrong))
    go false false is_a is_b at = (grind (arith, nat_tests), is_b)

pub runs_there : (x : Extents) (e : ℕ) → is_of_runs (holding x e) ≡ true → (0 < x.pointer e) × (x.of_runs e ≡ true)
runs_there x e is = go (x.pointer e == 0) (x.of_runs e) refl refl is
  where
    go : (a b : Bool) → (x.pointer e == 0) ≡ a → x.of_runs e ≡ b
        → is_of_runs (if a then Empty else if b then OfRuns else OfChunks) ≡ true → (0 < x.pointer e) × (x.of_runs e ≡ true)
    go true b is_a is_b wrong = absurd (true≢false (sym wrong))
    go false true is_a is_b at = (grind (arith, nat_tests), is_b)
    go false false is_a is_b wrong = absurd (true≢false (sym wrong))

-- where extents are filled up, any may be
pub may_fill_all : (fills : Bool) (found : ℕ) → fills ≡ true → MayFill fills found
may_fill_all true found is = tt
may_fill_all false found is = absurd (true≢false (sym is))

-- what the unfinished sweep holds, of extents and of room
pub record IsSwept (S : Shape) (aside : ℕ → Bool) (x : Extents) (sweep : Option Sweep) : Type 0 where
  pub alone : (e : ℕ) → x.swept e ≡ false → x.fresh ≢ Some e → LeftAlone S sweep e
  pub left : (e : ℕ) → e < S.extents → LeftAlone S sweep e
      → (x.swept e ≡ false) × (x.fresh ≡ Some e → aside e ≡ true)
  pub aside_fresh : (e : ℕ) → aside e ≡ true → x.fresh ≡ Some e
  pub counts : (opened_by sweep ≡ one_if x.fresh) ⊎ ((e : ℕ) × (x.fresh ≡ Some e) × (aside e ≡ true))

module _ (S : Shape) (aside : ℕ → Bool) (x : Extents) (r : Room) (of : AreExtentsOf S aside x r) where
  -- k pages of e are given to frames of a kind
  module _ (e k : ℕ) (kind : Holding) (y : Extents) (off : aside e ≡ false)
      (pointer : y.pointer ≡ with x.pointer e (x.pointer e + k)) (there : holding y e ≡ kind)
      (others : (d : ℕ) → d ≢ e → y.of_runs d ≡ x.of_runs d) where
    pub pointer_other : (d : ℕ) → d ≢ e → y.pointer d ≡ x.pointer d
    pointer_other d not = ap (λ (f : ℕ → ℕ). f d) pointer ∙ with_other x.pointer e (x.pointer e + k) d not

    pub pointer_here : y.pointer e ≡ x.pointer e + k
    pointer_here = ap (λ (f : ℕ → ℕ). f e) pointer ∙ with_same x.pointer e (x.pointer e + k) e refl

    pub pointer_given : (d : ℕ) → d < S.extents → (given r e k kind).pointer d ≡ (if aside d then 0 else y.pointer d)
    pointer_given d lt = elim (cases_eq d e) [
      | inl same ↦ (with_same r.pointer e (r.pointer e + k) d same
          ∙ ap (λ (n : ℕ). n + k) (of.pointer e (subst (λ (n : ℕ). n < S.extents) same lt)
          ∙ not_aside (aside e) 0 (x.pointer e) off)
          ∙ sym pointer_here ∙ ap y.pointer (sym same)
          ∙ sym (not_aside (aside d) 0 (y.pointer d) (ap aside same ∙ off)))
      | inr other ↦ (with_other r.pointer e (r.pointer e + k) d other ∙ of.pointer d lt
          ∙ ap (λ (n : ℕ). if aside d then 0 else n) (sym (pointer_other d other)))
    ]

    pub holds_given : (d : ℕ) → d < S.extents → (given r e k kind).holds d ≡ (if aside d then Empty else holding y d)
    holds_given d lt = elim (cases_eq d e) [
      | inl same ↦ (let test : (d == e) ≡ true = eq-eqb d e same in rw test (sym there ∙ ap (holding y) (sym same)
          ∙ sym (not_aside (aside d) Empty (holding y d) (ap aside same ∙ off))))
      | inr other ↦ (let test : (d == e) ≡ false = ne_eqb d e other in rw test (of.holds d lt
          ∙ ap (λ (h : Holding). if aside d then Empty else h) (sym (rw (pointer_other d other, others d other) refl))))
    ]

  -- what was filled is so after more pages were given
  pub filled_grows : (e k : ℕ) (y : Extents) → y.pointer ≡ with x.pointer e (x.pointer e + k) → y.found ≡ x.found
      → ((d : ℕ) → x.of_runs d ≡ false → 0 < x.pointer d → y.of_runs d ≡ false)
      → (d : ℕ) → IsFilled S x d → IsFilled S y d
  filled_grows e k y pointer found runs d filled = (
    filled.0,
    (let some : 0 < x.pointer d = filled.1 in elim (cases_eq d e) [
      | inl same ↦ (let is : y.pointer d ≡ x.pointer e + k = ap (λ (f : ℕ → ℕ). f d) pointer
          ∙ with_same x.pointer e (x.pointer e + k) d same in
          let at : x.pointer d ≡ x.pointer e = ap x.pointer same in omega arith)
      | inr other ↦ (let is : y.pointer d ≡ x.pointer d = ap (λ (f : ℕ → ℕ). f d) pointer
          ∙ with_other x.pointer e (x.pointer e + k) d other in omega arith)
    ]),
    runs d filled.2 filled.1,
    subst (λ (f : ℕ → ℕ). MayFill S.fills (f d)) (sym found) filled.3,
  )

  pub empty_still : (e k : ℕ) (y : Extents) → 0 < k → y.pointer ≡ with x.pointer e (x.pointer e + k) → y.found ≡ x.found
      → ((d : ℕ) → d ≢ e → y.of_runs d ≡ x.of_runs d)
      → (d : ℕ) → d < S.extents → y.pointer d ≡ 0 → (y.of_runs d ≡ false) × (y.found d ≡ 0)
  empty_still e k y some pointer found runs d lt none = elim (cases_eq d e) [
    | inl same ↦ (let is : y.pointer d ≡ x.pointer e + k = ap (λ (f : ℕ → ℕ). f d) pointer
        ∙ with_same x.pointer e (x.pointer e + k) d same in absurd (omega arith))
    | inr other ↦ (let is : y.pointer d ≡ x.pointer d = ap (λ (f : ℕ → ℕ). f d) pointer
        ∙ with_other x.pointer e (x.pointer e + k) d other in
        let old = of.noted.empty d lt (sym is ∙ none) in
        (runs d other ∙ old.0, ap (λ (f : ℕ → ℕ). f d) found ∙ old.1))
  ]

  pub filled_here : (e : ℕ) → aside e ≡ false → 0 < x.pointer e → e < S.extents → (runs : Bool) → x.of_runs e ≡ runs
      → r.holds e ≡ (if runs then OfRuns else OfChunks)
  filled_here e off some lt runs is = of.holds e lt ∙ not_aside (aside e) Empty (holding x e) off ∙ holds_runs x e runs some is

  pub empty_here : (e : ℕ) → e < S.extents → x.pointer e ≡ 0 → r.holds e ≡ Empty
  empty_here e lt none = of.holds e lt ∙ either (aside e)
    where
      either : (b : Bool) → (if b then Empty else holding x e) ≡ Empty
      either true = refl
      either false = holds_empty x e none

  pub pointer_is : (e : ℕ) → e < S.extents → aside e ≡ false → r.pointer e ≡ x.pointer e
  pointer_is e lt off = of.pointer e lt ∙ not_aside (aside e) 0 (x.pointer e) off

  -- an extent of chunks of room is one of the machine, and isn't set aside
  pub chunk_of : (e : ℕ) → e < S.extents → r.holds e ≡ OfChunks
      → (aside e ≡ false) × (0 < x.pointer e) × (x.of_runs e ≡ false)
  chunk_of e lt is = go (aside e) refl (ap is_of_chunks (sym (of.holds e lt) ∙ is))
    where
      go : (b : Bool) → aside e ≡ b → is_of_chunks (if b then Empty else holding x e) ≡ true
          → (aside e ≡ false) × (0 < x.pointer e) × (x.of_runs e ≡ false)
      go true at wrong = absurd (true≢false (sym wrong))
      go false at there = (let found = chunks_there x e there in (at, found.0, found.1))

  -- no more extents of room hold runs
  pub runs_counted : (n : ℕ) → n ≤ S.extents → run_extents r n ≤ machine_runs x n
  runs_counted n le = count_le (λ e. is_of_runs (r.holds e)) (λ e. nat_lt 0 (x.pointer e) && x.of_runs e) n
      (λ e lt on. go (aside e) refl (ap is_of_runs (sym (of.holds e (omega arith))) ∙ on))
    where
      go : {e : ℕ} (b : Bool) → aside e ≡ b → is_of_runs (if b then Empty else holding x e) ≡ true
          → (nat_lt 0 (x.pointer e) && x.of_runs e) ≡ true
      go true at wrong = absurd (true≢false (sym wrong))
      go {e} false at on = (let there = runs_there x e on in
          let some : 0 < x.pointer e = there.0 in
          let test : nat_lt 0 (x.pointer e) ≡ true = grind (arith, nat_tests) in rw (test, there.1) refl)

  pub chunk_there : (e : ℕ) → e < S.extents → is_of_chunks (r.holds e) ≡ true → (aside e ≡ false)
      × ((nat_lt 0 (x.pointer e) && not (x.of_runs e)) ≡ true)
  chunk_there e lt on = go (aside e) refl (ap is_of_chunks (sym (of.holds e lt)) ∙ on)
    where
      go : (b : Bool) → aside e ≡ b → is_of_chunks (if b then Empty else holding x e) ≡ true
          → (aside e ≡ false) × ((nat_lt 0 (x.pointer e) && not (x.of_runs e)) ≡ true)
      go true at wrong = absurd (true≢false (sym wrong))
      go false at there = (let is = chunks_there x e there in
          let some : 0 < x.pointer e = is.0 in
          let test : nat_lt 0 (x.pointer e) ≡ true = grind (arith, nat_tests) in (at, rw (test, is.1) refl))

  -- the extent that is set aside isn't counted in room
  pub chunks_counted : (sweep : Option Sweep) → IsSwept S aside x sweep
      → chunk_extents r S.extents + one_if x.fresh ≤ machine_chunks x S.extents + opened_by sweep
  chunks_counted sweep held = ⊎_elim
      (λ (same : opened_by sweep ≡ one_if x.fresh). (let le : chunk_extents r S.extents ≤ machine_chunks x S.extents =
      count_le (λ e. is_of_chunks (r.holds e)) (λ e. nat_lt 0 (x.pointer e) && not (x.of_runs e)) S.extents
      (λ e lt on. (chunk_there e lt on).1) in omega arith))
      (λ (out : (e : ℕ) × (x.fresh ≡ Some e) × (aside e ≡ true)). (
      let filled = of.noted.opened out.0 out.1 in let some : 0 < x.pointer out.0 = filled.1 in
      let test : nat_lt 0 (x.pointer out.0) ≡ true = grind (arith, nat_tests) in
      let one : one_if x.fresh ≡ 1 = ap one_if out.1 in
      let less : chunk_extents r S.extents < machine_chunks x S.extents =
      count_less (λ e. is_of_chunks (r.holds e)) (λ e. nat_lt 0 (x.pointer e) && not (x.of_runs e)) out.0 S.extents filled.0
      (ap is_of_chunks (of.holds out.0 filled.0) ∙ (rw out.2 refl)) (rw (test, filled.2) refl)
      (λ e lt on. (chunk_there e lt on).1) in omega arith)) held.counts
