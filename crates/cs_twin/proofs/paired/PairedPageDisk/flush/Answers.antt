use Rattle.std.proofs.Common.{List, subst, sym}
use Rattle.cs_twin.specs.declared.pairs.Pair.{Pair}
use Rattle.cs_twin.specs.Fitting.{IsFit}
use Rattle.cs_twin.specs.Noted.{AreNotes, AreRight}
use Rattle.cs_twin.specs.Pairs.{ArePairs}
use Rattle.cs_twin.proofs.Fits.{fit_either}
use Rattle.cs_twin.proofs.Over.{flush_ok, shows_here, whole_here}
use Rattle.cs_twin.proofs.paired.PairedPageDisk.flush.Goals as goal

pub invariant_of-self : goal.invariant_of-self
invariant_of-self g c =
    let V = g.R.PageRules.version c.args.self.now.rules in
    let disk = c.flush.new.disk in
    let pairs = c.args.self.now.pairs.items in
    let apart = subst (λ n. ArePairs pairs n) (sym c.flush.ensures.pages) c.args.self.now.apart in
    let right = λ (h : g.D.PageDisk.honest disk). subst (λ (ps : List Pair). AreRight V ps c.flush.new.self (g.D.PageDisk.state disk)) c.deref.ensures.value (c.flush.ensures.right h) in
    record {
      apart = apart;
      noted = subst (λ (ps : List Pair). AreNotes ps c.flush.new.self) c.deref.ensures.value c.flush.ensures.notes;
      right = right;
      fit = λ h.
          let old = c.flush.ensures.honest.1 h in
          let self = c.args.self.now in
          subst (λ n. IsFit g.R.PageRules self.rules pairs n (g.D.PageDisk.state disk)) (sym c.flush.ensures.pages)
          (fit_either g.R.PageRules self.rules pairs (g.D.PageDisk.page_count self.disk) c.flush.result c.keep.ensures.left (g.D.PageDisk.state self.disk) (g.D.PageDisk.state disk) self.apart (g.met.D.PageDisk.sized self.disk old) (self.right old).newer (c.flush.ensures.ok old) (c.flush.ensures.err old) (self.fit old));
      shows = λ h. shows_here V pairs _ _ apart (g.met.D.PageDisk.sized disk h) (right h).newer;
      whole = λ h. whole_here V pairs _ _ apart (g.met.D.PageDisk.sized disk h) (right h).newer (g.met.D.PageDisk.whole disk h);
    }

pub returns-clause-ok : goal.returns-clause-ok
returns-clause-ok g c = λ h.
    flush_ok (g.R.PageRules.version c.args.self.now.rules) c.args.self.now.pairs.items _ _ c.args.self.now.apart (g.met.D.PageDisk.sized c.args.self.now.disk h) (c.args.self.now.right h).newer c.flush.result _ (c.flush.ensures.ok h)
