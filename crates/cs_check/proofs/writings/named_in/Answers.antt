use Rattle.std.proofs.Common.{◌≡◌, ◌<◌, ◌≤◌, ℕ, length, slice_index, arith, refl, sym, subst}
use Rattle.std.proofs.lemmas.Option.{slice_get_read, get_or_from_slice_get}
use Rattle.cs_deps.specs.declared.elements.Element.TheVariants.{Version}
use Rattle.cs_deps.specs.View.{pending_of}
use Rattle.cs_check.specs.Progress.{AddsIf}
use Rattle.cs_check.proofs.Listed.{versions_next, list_from}
use Rattle.cs_check.proofs.writings.named_in.Goals as goal

pub loop-family-preserved : goal.loop-family-preserved
loop-family-preserved c =
    let items = c.args.view.now.persistent.items in
    let f = c.loop-family.family in
    let at = slice_get_read items (length items) f c.index.result.now refl (omega arith) c.index.ensures in
    let value : slice_index items f ≡ c.index.result.now = get_or_from_slice_get items f c.index.result.now 0 at in
    let adds = subst (λ (n : ℕ). AddsIf (n < slice_index c.args.needs.now.least f) c.loop-family.elements.items (Version f (slice_index c.args.needs.now.least f)) c.add_version.new.elements.items) (sym value) c.in_ok-add_version.ensures in
    versions_next (pending_of c.args.view.now) c.args.needs.now (length c.args.view.now.waiting.items) f c.loop-family.elements.items c.add_version.new.elements.items c.loop-family.invariant adds

pub returns : goal.returns
returns c =
    let le : length c.args.view.now.waiting.items ≤ length c.args.view.now.waiting.items = omega arith in
    list_from (pending_of c.args.view.now) c.args.needs.now (length c.args.view.now.waiting.items) c.loop-family.family c.loop-family.elements.items c.requires.listing c.requires.listed le (omega arith) c.loop-family.invariant
