use Rattle.std.proofs.Common.{List, ap, subst, ◌∙◌}
use Rattle.std.specs.List.{AllByRecursion}
use Rattle.cs_frame.specs.Bytes.{IsPage}
use Rattle.cs_disk.specs.Disk.{Write, latest}
use Rattle.cs_mount.proofs.PagesRemade.{all_bytes, all_sizes, latest_page, remade_none_state}
use Rattle.cs_mount.specs.Remaking.{remade_state}
use Rattle.cs_mount.proofs.Repaging.{repages_kept, seen_repaged, whole_repaged}
use Rattle.cs_mount.proofs.remade.Remade.new.Goals as goal

pub invariant_of-result : goal.invariant_of-result
invariant_of-result g c =
    let writes = c.args.pages.items in
    let s = g.D.PageDisk.state c.args.disk in
    let are = subst (λ (ws : List Write). AllByRecursion (λ (w : Write). IsPage w.1) ws) c.deref.ensures.value c.are_pages.ensures in
    record {
      sizes = all_sizes writes are;
      bytes = all_bytes writes are;
      shows = repages_kept (latest writes) s;
      whole = λ h. whole_repaged (latest writes) s (λ p bytes is. latest_page writes p bytes are is) (g.met.D.PageDisk.whole c.args.disk h);
    }

pub returns-clause-shown : goal.returns-clause-shown
returns-clause-shown g c = λ h. seen_repaged (latest c.args.pages.items) (g.D.PageDisk.state c.args.disk)

pub returns-clause-none : goal.returns-clause-none
returns-clause-none g c = λ none. ap (λ (ws : List Write). remade_state ws (g.D.PageDisk.state c.args.disk)) none ∙ remade_none_state (g.D.PageDisk.state c.args.disk)
