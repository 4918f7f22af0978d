use Rattle.std.proofs.Common.{◌≡◌, ◌≢◌, ◌<◌, ℕ, Bool, true, false, List, [], ◌∷◌, refl, arith}
use Rattle.std.specs.Prelude.{◌==◌, ◌↔◌, IsTrue, not}
use Rattle.std.proofs.lemmas.Bool.Decides.{nat_tests}
use Rattle.cs_deps.specs.declared.elements.Element.{Element}
use Rattle.cs_deps.specs.Named.{Named}
use Rattle.cs_deps.specs.Pending.{Pending, Waits}
use Rattle.cs_deps.specs.contracts.graphs.Graph.{the_view}
use Rattle.cs_deps.proofs.Ended.{queue_where_waits, waits_where_queue}
use Rattle.cs_deps.proofs.graphs.Graph.has_waiting.Goals as goal

some_there : (n m : ℕ) (b : Bool) → b ≡ (n == 0) → n ≡ m → IsTrue (not b) ↔ (0 < m)
some_there n m true is count = ((λ t. absurd (cc t)), (λ some. let e : n ≡ 0 = grind (arith, nat_tests) in absurd (omega (arith, e, count, some))))
some_there n m false is count = ((λ t. let e : n ≢ 0 = grind (arith, nat_tests) in omega (arith, e, count)), (λ some. refl))

first_waits : (ps : List ℕ) (ws : List (Element × Named)) → ws ≢ [] → (x : Element) × Waits (record { persistent = ps; waiting = ws }) x
first_waits ps [] some = absurd (some refl)
first_waits ps (w ∷ ws) some = (w.0, (0, w.1, refl))

not_empty : (ps : List ℕ) (ws : List (Element × Named)) (x : Element) → Waits (record { persistent = ps; waiting = ws }) x → ws ≢ []
not_empty ps [] x w none = absurd (cc w.2)
not_empty ps (u ∷ us) x w none = absurd (cc none)

pub returns : goal.returns
returns c =
    let g = c.self.inside in
    let i = c.self.invariant in
    let s = the_view g in
    let p : Pending = s.staging.pending in
    let test = some_there _ _ c.is_empty.result c.is_empty.ensures g.levels.rows.ok.0 in
    rw (← c.self.view_is) (
      (λ t. let x = waits_where_queue s i.whole g.levels i.indexed (test.0 t) in not_empty p.persistent p.waiting x.0 x.1),
      (λ some. let x = first_waits p.persistent p.waiting some in test.1 (queue_where_waits s i.whole g.levels i.indexed x.0 x.1)),
    )
