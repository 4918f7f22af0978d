-- What a root of some runs names, and the pointers that it is staged with where chunks and runs lie apart.
use Rattle.std.proofs.Common.{◌≡◌, inl, inr, ⊎_elim, ℕ, ◌<◌, ◌≤◌, Bool, true, false, ◌||◌, List, [], nat_lt, if◌then◌else◌, true≢false, refl, sym, ap, ◌∙◌, arith, ◌⊎◌}
use Rattle.std.proofs.lemmas.Bool.{cases_lt}
use Rattle.std.proofs.lemmas.Bool.Decides.{nat_tests}
use Rattle.law_machine.proofs.ApartResets.{blank, run_there}
use Rattle.law_machine.proofs.Gives.{gives_under}
use Rattle.law_machine.proofs.Tallies.{lives_none}
use Rattle.law_machine.specs.Apart.{any_run_on, is_blank, named}
use Rattle.law_machine.specs.Device.{Page, Shape}
use Rattle.law_machine.specs.Element.{Entry, Locator, Map, Opening, Run}
use Rattle.law_machine.specs.Formats.{Formats}
use Rattle.law_machine.specs.Index.{Gives, entries_of, live_at}
use Rattle.law_machine.specs.Lists.{◌∈◌}
use Rattle.law_machine.specs.State.{State, index_now}
use Rattle.law_machine.specs.Tally.{lives_on}

named_if : (b : Bool) (n : ℕ) → b ≡ true → (if b then n else 0) ≡ n
named_if true n is = refl
named_if false n wrong = absurd (true≢false (sym wrong))

pub some_lives : (index : List Entry) (id : ℕ) (l : Locator) → l ∈ live_at index id → 0 < lives_on l.extent index
some_lives index id l has = ⊎_elim (λ (some : 0 < lives_on l.extent index). some)
    (λ (none : lives_on l.extent index ≤ 0). absurd ((lives_none index l.extent).0 (omega arith) id l has refl))
    (cases_lt 0 (lives_on l.extent index))

-- a root names where something lives, and where its runs lie
pub named_live : (pointer : ℕ → ℕ) (runs : List Run) (id : ℕ) (l : Locator) → l ∈ live_at (entries_of runs) id
    → named pointer runs l.extent ≡ pointer l.extent
named_live pointer runs id l has =
    let some : 0 < lives_on l.extent (entries_of runs) = some_lives (entries_of runs) id l has in
    let test : nat_lt 0 (lives_on l.extent (entries_of runs)) ≡ true = grind (arith, nat_tests) in
    named_if (nat_lt 0 (lives_on l.extent (entries_of runs)) || any_run_on runs l.extent) (pointer l.extent)
    (or_left (nat_lt 0 (lives_on l.extent (entries_of runs))) (any_run_on runs l.extent) test)
  where
    or_left : (a b : Bool) → a ≡ true → (a || b) ≡ true
    or_left true b is = refl
    or_left false b wrong = absurd (true≢false (sym wrong))

pub named_run : (pointer : ℕ → ℕ) (runs : List Run) (run : Run) → run ∈ runs
    → named pointer runs run.place.extent ≡ pointer run.place.extent
named_run pointer runs run has =
    named_if (nat_lt 0 (lives_on run.place.extent (entries_of runs)) || any_run_on runs run.place.extent)
    (pointer run.place.extent)
    (or_right (nat_lt 0 (lives_on run.place.extent (entries_of runs))) (any_run_on runs run.place.extent) (run_there runs run has))
  where
    or_right : (a b : Bool) → b ≡ true → (a || b) ≡ true
    or_right true b is = refl
    or_right false b is = is

-- elsewhere its pointer is 0
pub named_or_none : (pointer : ℕ → ℕ) (runs : List Run) (e : ℕ) → (named pointer runs e ≡ pointer e) ⊎ (named pointer runs e ≡ 0)
named_or_none pointer runs e = either (nat_lt 0 (lives_on e (entries_of runs)) || any_run_on runs e)
  where
    either : (b : Bool) → ((if b then pointer e else 0) ≡ pointer e) ⊎ ((if b then pointer e else 0) ≡ 0)
    either true = inl refl
    either false = inr refl

-- as it is where an extent is blank
pub unnamed_blank : (S : Shape) (s : State) (e : ℕ) (pointer : ℕ → ℕ) (runs : List Run) → index_now s ≡ entries_of runs
    → s.runs ≡ runs → is_blank S s e ≡ true → named pointer runs e ≡ 0
unnamed_blank S s e pointer runs index same is =
    let b = blank S s e is in
    let none : lives_on e (entries_of runs) ≡ 0 = ap (lives_on e) (sym index) ∙ b.none_lives in
    let test : nat_lt 0 (lives_on e (entries_of runs)) ≡ false = grind (arith, nat_tests) in
    let nothing : any_run_on runs e ≡ false = ap (λ (rs : List Run). any_run_on rs e) (sym same) ∙ b.no_run in
    neither (nat_lt 0 (lives_on e (entries_of runs))) (any_run_on runs e) test nothing
  where
    neither : (a c : Bool) → a ≡ false → c ≡ false → (if a || c then pointer e else 0) ≡ 0
    neither true c wrong fine = absurd (true≢false wrong)
    neither false true fine wrong = absurd (true≢false wrong)
    neither false false fine also = refl

-- what runs give they give under the root's own pointers
pub gives_named : (S : Shape) (F : Formats) → S.hidden_stand ≡ false → {opening : Opening} (img : ℕ → Page) (p g : ℕ → ℕ)
    (runs : List Run) (m : Map) → Gives S F opening img p g [] runs m → Gives S F opening img (named p runs) g [] runs m
gives_named S F gone img p g runs m gives = gives_under S F img p (named p runs) g [] runs m gives gone
    (named_live p runs) (named_run p runs)
