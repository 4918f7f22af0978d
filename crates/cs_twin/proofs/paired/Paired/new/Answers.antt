use Rattle.std.proofs.Common.{ap, subst, sym, ◌∙◌}
use Rattle.cs_disk.specs.Disk.{State}
use Rattle.cs_twin.specs.Fitting.{IsFit}
use Rattle.cs_twin.specs.Pairs.{ArePairs}
use Rattle.cs_twin.proofs.Fits.{fit_opened}
use Rattle.cs_twin.proofs.Over.{flush_leaves, shows_here, whole_here}
use Rattle.cs_twin.proofs.Right.{forgot_right}
use Rattle.cs_twin.proofs.paired.Paired.new.Goals as goal

pub invariant_of-result : goal.invariant_of-result
invariant_of-result g c =
    let V = g.R.PageRules.version c.args.rules in
    let pairs = c.args.pairs.items in
    let disk = c.flush.new.self in
    let notes = c.in-Ok.notes in
    let apart = subst (λ n. ArePairs pairs n) (sym c.flush.ensures.pages) c.requires.pairs in
    let right = λ (h : g.D.PageDisk.honest disk). forgot_right V pairs notes notes (g.D.PageDisk.state disk) (ap (λ (s : State). s.volatile) (c.in-Ok-flush.ensures.ok (c.flush.ensures.honest.1 h))) c.in-Ok.ensures.trust in
    record {
      apart = apart;
      noted = record { durable = c.in-Ok.ensures.durable ∙ c.len.ensures ∙ c.args.pairs.ok.0; newest = c.in-Ok.ensures.newest ∙ c.len.ensures ∙ c.args.pairs.ok.0 };
      right = right;
      fit = λ h.
          let old = c.flush.ensures.honest.1 h in
          subst (λ n. IsFit g.R.PageRules c.args.rules pairs n (g.D.PageDisk.state disk)) (sym c.flush.ensures.pages)
          (fit_opened g.R.PageRules c.args.rules pairs (g.D.PageDisk.page_count c.args.disk) (g.D.PageDisk.state c.args.disk) (g.D.PageDisk.state disk) (c.in-Ok-flush.ensures.ok old) (c.requires.fits old));
      shows = λ h. shows_here V pairs _ _ apart (g.met.D.PageDisk.sized disk h) (right h).newer;
      whole = λ h. whole_here V pairs _ _ apart (g.met.D.PageDisk.sized disk h) (right h).newer (g.met.D.PageDisk.whole disk h);
    }

pub returns-in-Ok-flush-clause-crash : goal.returns-in-Ok-flush-clause-crash
returns-in-Ok-flush-clause-crash g c = λ h.
    flush_leaves g.D.PageDisk.state g.D.PageDisk.moment g.D.PageDisk.left_since c.args.disk c.flush.new.self (λ image left. g.met.D.PageDisk.only_now c.args.disk image h left) (c.flush.ensures.time h) (c.in-Ok-flush.ensures.ok h)
