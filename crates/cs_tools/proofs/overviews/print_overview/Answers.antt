use Rattle.std.proofs.Common.{◌≡◌, ◌∙◌, ◌≤◌, ℕ, ap, arith, length, subst, sym}
use Rattle.std.specs.Prelude.{OnOk}
use Rattle.std.specs.Io.KnownBytes.{Appends}
use Rattle.cs_extent.specs.State.{State as Extents, shape}
use Rattle.cs_tools.specs.Overviews.{overview_text}
use Rattle.cs_tools.proofs.Aiming.{few_extents}
use Rattle.cs_tools.proofs.Overviewing.{short_extents, some_pages}
use Rattle.cs_tools.proofs.overviews.print_overview.Goals as goal

pub print_what-requires : goal.print_what-requires
print_what-requires g c =
    let x = c.extents-extents.result.now in
    let whole = c.extent_count.ensures.whole in
    let some : 1 ≤ (shape x).pages = some_pages x whole in
    let short : (shape x).pages ≤ 65535 = short_extents x whole in
    let count = subst (λ (y : Extents). length c.args.uses.now ≡ (shape y).extents) (sym c.extents-extents.ensures) c.requires in
    record {
      some = omega (arith, some, c.extent_pages.ensures);
      short = omega (arith, short, c.extent_pages.ensures);
      few = few_extents x (length c.args.uses.now) whole count;
    }

pub returns : goal.returns
returns g c =
    let contents = g.W.Write.contents in
    let pages = c.extent_pages.ensures ∙ ap (λ (x : Extents). (shape x).pages) c.extents-extents.ensures in
    subst (λ (n : ℕ). OnOk c.print_what.result (Appends (contents c.args.writer.now) (contents c.print_what.new.writer) (overview_text c.args.what n c.args.figures c.args.uses.now))) pages c.print_what.ensures
