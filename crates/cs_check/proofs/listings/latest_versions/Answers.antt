use Rattle.std.proofs.Common.{false, ◌∙◌, ◌+◌, List, length, sym, subst, inr, refl, arith, ℕ}
use Rattle.std.proofs.lemmas.Option.{slice_get_read, get_or_from_slice_get}
use Rattle.cs_deps.specs.View.{pending_of}
use Rattle.cs_check.specs.Progress.{IsUpTo, plain_after}
use Rattle.cs_check.proofs.ListingSteps.{up_to_none, may_stand_from, listed_from, up_to_next, listed_next, all_listed, latest_at_end}
use Rattle.cs_check.proofs.listings.latest_versions.Goals as goal

pub index-requires : goal.index-requires
index-requires c = omega (arith, c.in_ok-back.ensures.count)

pub may_stand-requires : goal.may_stand-requires
may_stand-requires c shown =
    let x = c.index-entry.result.now.0 in
    let d = c.index-entry.result.now.1 in
    let at = slice_get_read c.args.view.now.waiting.items (length c.args.view.now.waiting.items) c.loop-k.k c.index-entry.result.now refl (omega arith) c.index-entry.ensures in
    let flag = slice_get_read c.in_ok-back.back.items (length c.in_ok-back.back.items) c.loop-k.k c.index.result.now refl (omega (arith, c.in_ok-back.ensures.count)) c.index.ensures in
    c.in_ok-back.ensures.back c.loop-k.k x d at (get_or_from_slice_get c.in_ok-back.back.items c.loop-k.k c.index.result.now false flag ∙ shown)

pub returns-then-not-numbered-clause-err : goal.returns-then-not-numbered-clause-err
returns-then-not-numbered-clause-err c = inr (refl, λ listing. absurd (cc (c.in_ok-numbered.ensures listing, c.if-not-numbered.true)))

pub loop-k-init : goal.loop-k-init
loop-k-init c = record {
  up = subst (λ (n : ℕ). IsUpTo (pending_of c.args.view.now) 0 n c.in_ok-last.last.versions.items) (sym c.in_ok-last.ensures.0)
      (subst (λ (xs : List ℕ). IsUpTo (pending_of c.args.view.now) 0 0 xs) (sym c.in_ok-last.ensures.1) (up_to_none (pending_of c.args.view.now)));
  listed = λ j x d lt at. absurd (omega (arith, lt));
}

pub returns-then-not-may_stand-clause-err : goal.returns-then-not-may_stand-clause-err
returns-then-not-may_stand-clause-err c = inr (
  refl,
  λ listing.
      let g = pending_of c.args.view.now in
      let x = c.index-entry.result.now.0 in
      let d = c.index-entry.result.now.1 in
      let at = slice_get_read c.args.view.now.waiting.items (length c.args.view.now.waiting.items) c.loop-k.k c.index-entry.result.now refl (omega arith) c.index-entry.ensures in
      absurd (cc (c.may_stand.ensures.1 (may_stand_from g c.loop-k.k c.loop-k.last.plain c.loop-k.last.versions.items x d listing c.loop-k.invariant.up at), c.if-not-may_stand.true)),
)

pub loop-k-preserved : goal.loop-k-preserved
loop-k-preserved c =
    let g = pending_of c.args.view.now in
    let x = c.index-entry.result.now.0 in
    let d = c.index-entry.result.now.1 in
    let at = slice_get_read c.args.view.now.waiting.items (length c.args.view.now.waiting.items) c.loop-k.k c.index-entry.result.now refl (omega arith) c.index-entry.ensures in
    let listed = listed_from g c.loop-k.k c.loop-k.last.plain c.loop-k.last.versions.items x d c.loop-k.invariant.up c.loop-k.invariant.listed (c.may_stand.ensures.0 c.if-not-may_stand.false) in
    let next = up_to_next g c.loop-k.k c.loop-k.last.plain c.loop-k.last.versions.items x d c.loop-k.invariant.up at listed.number in
    record {
      up = subst (λ (n : ℕ). IsUpTo g (c.loop-k.k + 1) n c.pass.new.self.versions.items) (sym c.pass.ensures.plain) (subst (λ (xs : List ℕ). IsUpTo g (c.loop-k.k + 1) (plain_after c.loop-k.last.plain x) xs) (sym c.pass.ensures.versions) next);
      listed = listed_next g c.loop-k.k x d c.loop-k.invariant.listed at listed;
    }

pub returns : goal.returns
returns c =
    let g = pending_of c.args.view.now in
    record {
      ok = (
        all_listed g c.loop-k.k (omega arith) c.loop-k.invariant.listed,
        latest_at_end g c.loop-k.k c.loop-k.last.plain c.loop-k.last.versions.items (omega arith) c.loop-k.invariant.up,
      );
      err = tt;
    }
