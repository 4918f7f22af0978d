use Rattle.std.proofs.Common.{◌≡◌, ℕ, inl, inr, refl, subst}
use Rattle.std.specs.Prelude.{IfSome, Option}
use Rattle.cs_tools.proofs.Resting.{so_far_none, so_far_then}
use Rattle.cs_tools.proofs.Tidying.{tidies_none, tidies_then}
use Rattle.cs_tools.proofs.reclaims_v2.empty_all.Goals as goal

pub loop-init : goal.loop-init
loop-init g c = record {
  tidies = tidies_none g.D.PageDisk c.args.core.now;
  so_far = λ honest. inl (refl, refl);
}

pub returns-in_err-settled-clause-tidies : goal.returns-in_err-settled-clause-tidies
returns-in_err-settled-clause-tidies g c = tidies_then g.D.PageDisk c.args.core.now c.loop.core c.settle_with_room.new.core c.loop.invariant.tidies c.settle_with_room.ensures.tidies

-- ---- the put has room

pub returns-in_default-clause-tidies : goal.returns-in_default-clause-tidies
returns-in_default-clause-tidies g c = tidies_then g.D.PageDisk c.args.core.now c.loop.core c.settle_with_room.new.core c.loop.invariant.tidies c.settle_with_room.ensures.tidies

pub returns-in_default-clause-rests : goal.returns-in_default-clause-rests
returns-in_default-clause-rests g c honest =
    let old = c.loop.core in
    so_far_none (IfSome c.in_ok-settled.settled (λ (n : ℕ). n ≡ c.loop.since)) c.args.core.now old c.settle_with_room.new.core c.loop.since 0 (c.loop.invariant.so_far honest)
    (c.in_ok-settled.ensures.rests (c.loop.invariant.tidies.honest.0 honest))

-- ---- no extent is worth it

pub returns-in_default-worth_emptying-clause-tidies : goal.returns-in_default-worth_emptying-clause-tidies
returns-in_default-worth_emptying-clause-tidies g c = tidies_then g.D.PageDisk c.args.core.now c.loop.core c.settle_with_room.new.core c.loop.invariant.tidies c.settle_with_room.ensures.tidies

pub returns-in_default-worth_emptying-clause-rests : goal.returns-in_default-worth_emptying-clause-rests
returns-in_default-worth_emptying-clause-rests g c honest =
    so_far_then (IfSome c.in_ok-settled.settled (λ (n : ℕ). n ≡ c.loop.since)) c.args.core.now c.loop.core c.settle_with_room.new.core c.loop.since c.in-Some.left (c.loop.invariant.so_far honest)
    (c.in_ok-settled.ensures.rests (c.loop.invariant.tidies.honest.0 honest))
    (λ some. subst (λ (o : Option ℕ). IfSome o (λ (n : ℕ). n ≡ c.loop.since)) c.in-Some.is some)

-- ---- one is emptied

pub returns-in_err-empty_one-clause-tidies : goal.returns-in_err-empty_one-clause-tidies
returns-in_err-empty_one-clause-tidies g c =
    let settled = tidies_then g.D.PageDisk c.args.core.now c.loop.core c.settle_with_room.new.core c.loop.invariant.tidies c.settle_with_room.ensures.tidies in
    tidies_then g.D.PageDisk c.args.core.now c.settle_with_room.new.core c.empty_one.new.core settled c.empty_one.ensures.tidies

pub loop-preserved : goal.loop-preserved
loop-preserved g c =
    let settled = tidies_then g.D.PageDisk c.args.core.now c.loop.core c.settle_with_room.new.core c.loop.invariant.tidies c.settle_with_room.ensures.tidies in
    record {
      tidies = tidies_then g.D.PageDisk c.args.core.now c.settle_with_room.new.core c.empty_one.new.core settled c.empty_one.ensures.tidies;
      so_far = λ honest. inr (c.in_ok-empty_one.ensures.rests (settled.honest.0 honest));
    }
