use Rattle.std.proofs.Common.{◌≡◌, ◌∙◌, ◌+◌, ℕ, add-one, ap, arith, false, subst, sym, true}
use Rattle.cs_extent.specs.State.{extents_of, shape}
use Rattle.cs_index.specs.State.{index_of}
use Rattle.law_machine.specs.Apart.{is_any_swept, is_blank_by, reset_all}
use Rattle.law_machine.specs.Device.{Shape}
use Rattle.law_machine.specs.Extents.{Extents, emptied, forgotten}
use Rattle.cs_reclaim.specs.Rooted.{lying_apart}
use Rattle.cs_reclaim.proofs.Freeing.{any_stays, blank_young, next_by}
use Rattle.cs_reclaim.proofs.roots.free_blank.Goals as goal
use Rattle.cs_reclaim.proofs.roots.free_blank.Goals.{After-is_blank, else-is_blank, then-is_blank}

pub is_blank-requires-clause-inside : goal.is_blank-requires-clause-inside
is_blank-requires-clause-inside c = omega (arith, c.loop-e-test.true, c.extent_count-e-end.ensures.count, ap (λ (S : Shape). S.extents) c.loop-e.invariant.same_shape)

pub is_blank-requires-clause-unfinished : goal.is_blank-requires-clause-unfinished
is_blank-requires-clause-unfinished c =
    c.is_any_swept-unfinished.ensures
    ∙ sym (ap (λ (S : Shape). is_any_swept S (extents_of c.loop-e.extents)) c.loop-e.invariant.same_shape
    ∙ any_stays (shape c.args.extents.now) (index_of c.args.index.now) c.args.index.now.runs c.args.copies.now (extents_of c.args.extents.now) c.args.root c.loop-e.e (extents_of c.loop-e.extents) c.loop-e.invariant.freed)

pub empty-requires-clause-inside : goal.empty-requires-clause-inside
empty-requires-clause-inside c = omega (arith, c.loop-e-test.true, c.extent_count-e-end.ensures.count, ap (λ (S : Shape). S.extents) c.loop-e.invariant.same_shape)

pub empty-requires-clause-apart : goal.empty-requires-clause-apart
empty-requires-clause-apart c = ap (λ (S : Shape). S.apart) c.loop-e.invariant.same_shape ∙ c.requires.apart

pub empty-requires-clause-young : goal.empty-requires-clause-young
empty-requires-clause-young c = λ last.
    blank_young (shape c.loop-e.extents) (index_of c.args.index.now) c.args.index.now.runs c.args.copies.now (extents_of c.loop-e.extents) c.loop-e.e (sym c.is_blank.ensures ∙ c.if-is_blank.true) last

-- whether the next extent is blank
test : (c : After-is_blank) → c.is_blank.result ≡ is_blank_by (shape c.args.extents.now) (extents_of c.loop-e.extents) (index_of c.args.index.now) c.args.index.now.runs c.args.copies.now c.loop-e.e
test c = c.is_blank.ensures ∙ ap (λ (S : Shape). is_blank_by S (extents_of c.loop-e.extents) (index_of c.args.index.now) c.args.index.now.runs c.args.copies.now c.loop-e.e) c.loop-e.invariant.same_shape

-- one more is emptied, if it is
freed : (c : After-is_blank) (y : Extents) → (c.is_blank.result ≡ true → y ≡ forgotten true (emptied (extents_of c.loop-e.extents) c.loop-e.e c.args.root) c.loop-e.e) → (c.is_blank.result ≡ false → y ≡ extents_of c.loop-e.extents)
    → y ≡ reset_all (lying_apart (shape c.args.extents.now)) (extents_of c.args.extents.now) c.args.root (is_blank_by (shape c.args.extents.now) (extents_of c.args.extents.now) (index_of c.args.index.now) c.args.index.now.runs c.args.copies.now) (c.loop-e.e + 1)
freed c y emptied_then left_then =
    subst (λ (n : ℕ). y ≡ reset_all (lying_apart (shape c.args.extents.now)) (extents_of c.args.extents.now) c.args.root (is_blank_by (shape c.args.extents.now) (extents_of c.args.extents.now) (index_of c.args.index.now) c.args.index.now.runs c.args.copies.now) n)
    (sym (add-one c.loop-e.e))
    (next_by (shape c.args.extents.now) (index_of c.args.index.now) c.args.index.now.runs c.args.copies.now (extents_of c.args.extents.now) c.args.root c.loop-e.e (extents_of c.loop-e.extents) y c.loop-e.invariant.freed
    (λ is. emptied_then (test c ∙ is)) (λ is. left_then (test c ∙ is)))

pub loop-e-preserved : goal.loop-e-preserved
loop-e-preserved c =
    let at = (goal.at.loop-e-preserved c).After-is_blank in elim c.if-is_blank.branch [
      | then-is_blank w ↦ record {
        freed = freed at (extents_of c.if-is_blank.extents) (λ is. ap extents_of w.extents-is ∙ w.empty.ensures.emptied) (λ is. absurd (cc (w.if-is_blank.true, is)));
        same_shape = ap shape w.extents-is ∙ w.empty.ensures.shape ∙ c.loop-e.invariant.same_shape;
      }
      | else-is_blank w ↦ record {
        freed = freed at (extents_of c.if-is_blank.extents) (λ is. absurd (cc (w.if-is_blank.false, is))) (λ is. ap extents_of w.extents-is);
        same_shape = ap shape w.extents-is ∙ c.loop-e.invariant.same_shape;
      }
    ]
