use Rattle.std.proofs.Common.{◌+◌, List, length, sym, subst, refl, arith, ℕ}
use Rattle.std.proofs.lemmas.Option.{slice_get_read}
use Rattle.cs_deps.specs.View.{pending_of}
use Rattle.cs_check.specs.Progress.{IsUpTo, plain_after}
use Rattle.cs_check.proofs.ListingSteps.{next_from, number_from, up_to_next, up_to_none}
use Rattle.cs_check.proofs.listings.are_numbered.Goals as goal

pub returns-then-not-come_before : goal.returns-then-not-come_before
returns-then-not-come_before c listing =
    let g = pending_of c.args.view.now in
    let x = c.index.result.now.0 in
    let at = slice_get_read c.args.view.now.waiting.items (length c.args.view.now.waiting.items) c.loop-k.k c.index.result.now refl (omega arith) c.index.ensures in
    let next = next_from g c.loop-k.k c.loop-k.last.plain c.loop-k.last.versions.items x c.loop-k.invariant (listing c.loop-k.k x c.index.result.now.1 at).number in
    absurd (cc (c.come_before.ensures.1 next, c.if-not-come_before.true))

pub loop-k-preserved : goal.loop-k-preserved
loop-k-preserved c =
    let g = pending_of c.args.view.now in
    let x = c.index.result.now.0 in
    let at = slice_get_read c.args.view.now.waiting.items (length c.args.view.now.waiting.items) c.loop-k.k c.index.result.now refl (omega arith) c.index.ensures in
    let number = number_from g c.loop-k.k c.loop-k.last.plain c.loop-k.last.versions.items x c.loop-k.invariant (c.come_before.ensures.0 c.if-not-come_before.false) in
    let next = up_to_next g c.loop-k.k c.loop-k.last.plain c.loop-k.last.versions.items x c.index.result.now.1 c.loop-k.invariant at number in
    subst (λ (n : ℕ). IsUpTo g (c.loop-k.k + 1) n c.pass.new.self.versions.items) (sym c.pass.ensures.plain) (subst (λ (xs : List ℕ). IsUpTo g (c.loop-k.k + 1) (plain_after c.loop-k.last.plain x) xs) (sym c.pass.ensures.versions) next)

pub loop-k-init : goal.loop-k-init
loop-k-init c =
    subst (λ (n : ℕ). IsUpTo (pending_of c.args.view.now) 0 n c.in_ok-last.last.versions.items) (sym c.in_ok-last.ensures.0)
    (subst (λ (xs : List ℕ). IsUpTo (pending_of c.args.view.now) 0 0 xs) (sym c.in_ok-last.ensures.1) (up_to_none (pending_of c.args.view.now)))
