use Rattle.std.proofs.Common.{◌≡◌, ◌-◌, ◌^◌, ℕ, arith, subst, ⊎_elim}
use Rattle.cs_extent.specs.State.{extents_of, shape}
use Rattle.cs_doctor.proofs.Doctoring.{AreThoseBelow, below_more, below_still, none_below}
use Rattle.cs_doctor.proofs.doctor_stores.worn_extents.Goals as goal

pub loop-extent-init : goal.loop-extent-init
loop-extent-init c = record {
  most = omega arith;
  those = none_below (λ e. (extents_of c.args.extents.now).generation e ≡ 2 ^ 32 - 1) c.new-worn.result.items c.new-worn.ensures.items;
}

pub loop-extent-preserved : goal.loop-extent-preserved
loop-extent-preserved c =
    let P = λ (e : ℕ). (extents_of c.args.extents.now).generation e ≡ 2 ^ 32 - 1 in
    let k = c.loop-extent.extent in
    let was = c.loop-extent.invariant in
    let count : c.geometry.result.extents ≡ (shape c.args.extents.now).extents = c.geometry.ensures.extents in
    record {
      most = omega (arith, c.loop-extent-test.true, count);
      those = ⊎_elim
          (λ (it : _). below_more P k c.loop-extent.worn.items c.add_if_worn.new.worn.items was.those it.0 it.1)
          (λ (it : _). below_still P k c.loop-extent.worn.items c.add_if_worn.new.worn.items was.those it.0 it.1)
          c.in_ok-add_if_worn.ensures;
    }

pub returns : goal.returns
returns c =
    let was = c.loop-extent.invariant in
    let count : c.geometry.result.extents ≡ (shape c.args.extents.now).extents = c.geometry.ensures.extents in
    let end : c.loop-extent.extent ≡ (shape c.args.extents.now).extents = omega (arith, was.most, c.loop-extent-test.false, count) in
    subst (λ (n : ℕ). AreThoseBelow (λ e. (extents_of c.args.extents.now).generation e ≡ 2 ^ 32 - 1) n c.loop-extent.worn.items) end was.those
