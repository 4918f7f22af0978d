use Rattle.std.proofs.Common.{◌≡◌, ℕ, length, arith, refl, subst}
use Rattle.std.proofs.lemmas.Option.{slice_get_read}
use Rattle.cs_deps.specs.View.{pending_of}
use Rattle.cs_check.specs.Progress.{ListsTill}
use Rattle.cs_check.proofs.Listed.{lists_none, plains_next}
use Rattle.cs_check.proofs.spelled.plains_among_all.Goals as goal

pub loop-k-init : goal.loop-k-init
loop-k-init c = rw (c.new-elements.ensures.items) (lists_none (pending_of c.args.view.now) c.args.needs.now)

pub loop-k-preserved : goal.loop-k-preserved
loop-k-preserved c =
    let items = c.args.view.now.waiting.items in
    let at = slice_get_read items (length items) c.loop-k.k c.index.result.now refl (omega arith) c.index.ensures in
    plains_next (pending_of c.args.view.now) c.args.needs.now c.loop-k.k c.loop-k.elements.items c.add_plain.new.elements.items c.index.result.now.0 c.index.result.now.1 c.requires at c.loop-k.invariant c.in_ok-add_plain.ensures

pub returns : goal.returns
returns c =
    let end : c.loop-k.k ≡ length c.args.view.now.waiting.items = omega arith in
    subst (λ (n : ℕ). ListsTill (pending_of c.args.view.now) c.args.needs.now n 0 c.loop-k.elements.items) end c.loop-k.invariant
