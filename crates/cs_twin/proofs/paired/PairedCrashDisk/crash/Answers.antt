use Rattle.std.proofs.Common.{◌∙◌, ap, subst, sym}
use Rattle.cs_disk.specs.Disk.{State}
use Rattle.cs_twin.specs.declared.notes.Notes.{Notes}
use Rattle.cs_twin.specs.Fitting.{IsFit}
use Rattle.cs_twin.specs.Noted.{AreNotes}
use Rattle.cs_twin.specs.Pairs.{ArePairs}
use Rattle.cs_twin.proofs.Fits.{fit_crashed}
use Rattle.cs_twin.proofs.Over.{crash_shows, shows_here, whole_here}
use Rattle.cs_twin.proofs.Right.{forgot_right}
use Rattle.cs_twin.proofs.paired.PairedCrashDisk.crash.Goals as goal

pub invariant_of-result : goal.invariant_of-result
invariant_of-result g c =
    let self = c.args.self in
    let disk = c.crash.result in
    let V = g.R.PageRules.version self.rules in
    let apart = subst (λ n. ArePairs self.pairs.items n) (sym c.crash.ensures.pages) self.apart in
    let right = λ (h : g.D.PageDisk.honest disk).
    let is = c.crash.ensures.state (c.crash.ensures.honest.1 h) (c.crashable.ensures.0 c.if-not-crashable.false) in
    forgot_right V self.pairs.items self.notes c.forget.new.self (g.D.PageDisk.state disk) (ap (λ (s : State). s.volatile) is) (ap (λ (n : Notes). n.trust) c.forget.ensures) in
    record {
      apart = apart;
      noted = subst (λ (n : Notes). AreNotes self.pairs.items n) (sym c.forget.ensures) (record { durable = self.noted.durable; newest = self.noted.newest });
      right = right;
      fit = λ h.
          let old = c.crash.ensures.honest.1 h in
          let can = c.crashable.ensures.0 c.if-not-crashable.false in
          subst (λ n. IsFit g.R.PageRules self.rules self.pairs.items n (g.D.PageDisk.state disk)) (sym c.crash.ensures.pages)
          (fit_crashed g.R.PageRules self.rules self.pairs.items (g.D.PageDisk.page_count self.disk) c.keep.ensures.left (g.D.PageDisk.state self.disk) (g.D.PageDisk.state disk) c.args.mask.now self.apart (g.met.D.PageDisk.sized self.disk old) (self.right old).newer
          (c.requires ∙ g.met.D.CrashDisk.counted self.disk old can) (c.crash.ensures.state old can) (self.fit old));
      shows = λ h. shows_here V self.pairs.items _ _ apart (g.met.D.PageDisk.sized disk h) (right h).newer;
      whole = λ h. whole_here V self.pairs.items _ _ apart (g.met.D.PageDisk.sized disk h) (right h).newer (g.met.D.PageDisk.whole disk h);
    }

pub returns-clause-state : goal.returns-clause-state
returns-clause-state g c = λ h can.
    let self = c.args.self in
    crash_shows (g.R.PageRules.version self.rules) self.pairs.items _ _ self.apart (g.met.D.PageDisk.sized self.disk h) (self.right h).newer _ c.args.mask.now (c.crash.ensures.state h can)
