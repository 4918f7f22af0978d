use Rattle.std.proofs.Common.{◌≡◌, ◌∙◌, ℕ, ◌<◌, List, [], ◌∷◌, zero, suc, length, get_or, Option, Some, None, slice_get, refl, sym, ap, ⊎_elim, arith}
use Rattle.std.proofs.lemmas.Option.{slice_get_read, slice_get_within, get_or_from_slice_get, same_Some}
use Rattle.slab.specs.Slab.{get}
use Rattle.cs_deps.specs.declared.elements.Element.{Element}
use Rattle.cs_deps.specs.declared.elements.Element.TheVariants.{Plain}
use Rattle.cs_deps.specs.declared.records.Record.{Record}
use Rattle.cs_deps.specs.Levels.{kept_by}
use Rattle.cs_deps.proofs.Within.{below_next}
use Rattle.cs_deps.proofs.records.give_up.Goals as goal

read_at : {X : Type 0} (xs : List X) (k : ℕ) (d : X) → k < length xs → slice_get xs k ≡ Some (get_or xs k d)
read_at [] k d lt = absurd (omega (arith, lt))
read_at (x ∷ xs) zero d lt = refl
read_at (x ∷ xs) (suc k) d lt = read_at xs k d (omega (arith, lt))

none_again : (o p : Option Record) → ((r : Record) → p ≡ Some r → o ≡ Some r) → o ≡ None → p ≡ None
none_again o None h is = refl
none_again o (Some r) h is = absurd (cc (h r refl, is))

pub loop-k-preserved : goal.loop-k-preserved
loop-k-preserved c =
    let i = c.loop-k.invariant in
    let g = c.give_up_one.ensures in
    let round = c.args.round.now in
    let x : Element = get_or round c.loop-k.k (Plain 0) in
    let at : slice_get round c.loop-k.k ≡ Some x = read_at round c.loop-k.k (Plain 0) (omega arith) in
    record {
      less = λ key r h. i.less key r (g.less key r h);
      gone = λ j y k lt there is. ⊎_elim
          (λ (b : j < c.loop-k.k). none_again (get c.loop-k.records k.key) (get c.give_up_one.new.records k.key) (λ r h. g.less k.key r h) (i.gone j y k b there is))
          (λ (e : j ≡ c.loop-k.k).
          let s : y ≡ x = same_Some y x (sym there ∙ ap (slice_get round) e ∙ at) in
          g.gone k (ap (kept_by c.args.levels.now) (sym s) ∙ is))
          (below_next j c.loop-k.k lt);
      rest = λ key r h none. g.rest key r (i.rest key r h (λ j y k lt there is. none j y k (omega (arith, lt)) there is)) (λ k is. none c.loop-k.k x k (omega arith) at is);
      count = omega (arith, i.count, g.count);
      capacity = g.capacity ∙ i.capacity;
      newest = λ are. g.newest (i.newest are);
      spare = omega (arith, i.spare, g.spare);
    }

pub returns-clause-gone : goal.returns-clause-gone
returns-clause-gone c x k there is =
    c.loop-k.invariant.gone there.0 x k (omega (arith, there.1, c.loop-k-test.false)) (slice_get_read c.args.round.now (length c.args.round.now) there.0 x refl there.1 (sym there.2)) is

pub returns-clause-rest : goal.returns-clause-rest
returns-clause-rest c key r h none = c.loop-k.invariant.rest key r h (λ j y k lt there is. none y k (j, slice_get_within c.args.round.now j y there, get_or_from_slice_get c.args.round.now j y y there) is)

pub returns-clause-newest : goal.returns-clause-newest
returns-clause-newest c = c.loop-k.invariant.newest

pub returns-clause-spare : goal.returns-clause-spare
returns-clause-spare c = c.loop-k.invariant.spare
