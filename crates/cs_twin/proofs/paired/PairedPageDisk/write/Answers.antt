use Rattle.std.proofs.Common.{◌∙◌, ◌<◌, List, ap, slice_get, subst, sym}
use Rattle.std.proofs.lemmas.Option.{slice_get_within}
use Rattle.cs_twin.specs.declared.pairs.Pair.{Pair}
use Rattle.cs_twin.specs.declared.pairs.Place.TheVariants.{OfPair, Own}
use Rattle.cs_disk.specs.Disk.{seen}
use Rattle.cs_twin.specs.Fences.{AreFenced}
use Rattle.cs_twin.specs.Fitting.{IsFit}
use Rattle.cs_twin.specs.Noted.{AreNotes, AreRight, IsPlace}
use Rattle.cs_twin.specs.Pairs.{ArePairs}
use Rattle.cs_twin.proofs.Fits.{fit_below, fit_own, own_lies, own_may_lie, pair_lies, pair_may_lie}
use Rattle.cs_twin.proofs.Over.{own_either, own_ok, pair_either, shows_here, time_here, whole_here}
use Rattle.cs_twin.proofs.Right.{own_right, still_noted, still_right}
use Rattle.cs_twin.proofs.Taking.{others_own, others_pair}
use Rattle.cs_twin.proofs.paired.PairedPageDisk.write.Goals as goal

pub write_newer-requires-clause-inside : goal.write_newer-requires-clause-inside
write_newer-requires-clause-inside g c =
    let k = c.in-OfPair.k in
    let at = subst (λ (ps : List Pair). IsPlace ps c.args.number (OfPair k)) (c.deref.ensures.value ∙ sym c.deref-in-OfPair.ensures.value) c.in-OfPair.ensures in
    slice_get_within c.deref-in-OfPair.result.now k at.0 at.1

pub invariant_of-self : goal.invariant_of-self
invariant_of-self g c =
    let self = c.args.self.now in
    let V = g.R.PageRules.version self.rules in
    let disk = c.write.new.self in
    let pairs = self.pairs.items in
    let apart = subst (λ n. ArePairs pairs n) (sym c.write.ensures.pages) self.apart in
    let own = subst (λ (ps : List Pair). IsPlace ps c.args.number Own) c.deref.ensures.value c.in-Own.ensures in
    let right = λ (h : g.D.PageDisk.honest disk). let old = c.write.ensures.honest.1 h in own_right V pairs self.notes (g.D.PageDisk.state self.disk) c.args.number c.args.bytes.now own (self.right old) (g.D.PageDisk.state disk) (c.write.ensures.fault old) in
    record {
      apart = apart;
      noted = self.noted;
      right = right;
      fit = λ h.
          let old = c.write.ensures.honest.1 h in
          subst (λ n. IsFit g.R.PageRules self.rules pairs n (g.D.PageDisk.state disk)) (sym c.write.ensures.pages)
          (fit_own g.R.PageRules self.rules pairs (g.D.PageDisk.page_count self.disk) (g.D.PageDisk.state self.disk) (g.D.PageDisk.state disk) c.args.number c.args.bytes.now (sym c.allows.ensures ∙ c.if-allows.true) (c.write.ensures.fault old) (self.fit old));
      shows = λ h. shows_here V pairs _ _ apart (g.met.D.PageDisk.sized disk h) (right h).newer;
      whole = λ h. whole_here V pairs _ _ apart (g.met.D.PageDisk.sized disk h) (right h).newer (g.met.D.PageDisk.whole disk h);
    }

pub invariant_of-self-else-allows : goal.invariant_of-self-else-allows
invariant_of-self-else-allows g c =
    let self = c.args.self.now in
    record {
      apart = self.apart;
      noted = still_noted self.pairs.items self.notes c.refuse.new.self _ c.refuse.ensures.notes self.noted;
      right = λ h. still_right (g.R.PageRules.version self.rules) self.pairs.items self.notes _ _ _ c.refuse.ensures.notes (self.right h);
      fit = self.fit;
      shows = self.shows;
      whole = self.whole;
    }

pub invariant_of-self-in-OfTwin : goal.invariant_of-self-in-OfTwin
invariant_of-self-in-OfTwin g c =
    let self = c.args.self.now in
    record {
      apart = self.apart;
      noted = still_noted self.pairs.items self.notes c.refuse-in-OfTwin.new.self _ c.refuse-in-OfTwin.ensures.notes self.noted;
      right = λ h. still_right (g.R.PageRules.version self.rules) self.pairs.items self.notes _ _ _ c.refuse-in-OfTwin.ensures.notes (self.right h);
      fit = self.fit;
      shows = self.shows;
      whole = self.whole;
    }

pub invariant_of-self-in-OfPair : goal.invariant_of-self-in-OfPair
invariant_of-self-in-OfPair g c =
    let V = g.R.PageRules.version c.args.self.now.rules in
    let disk = c.write_newer.new.disk in
    let pairs = c.args.self.now.pairs.items in
    let apart = subst (λ n. ArePairs pairs n) (sym c.write_newer.ensures.pages) c.args.self.now.apart in
    let right = λ (h : g.D.PageDisk.honest disk). subst (λ (ps : List Pair). AreRight V ps c.write_newer.new.self (g.D.PageDisk.state disk)) c.deref-in-OfPair.ensures.value (c.write_newer.ensures.right h) in
    record {
      apart = apart;
      noted = subst (λ (ps : List Pair). AreNotes ps c.write_newer.new.self) c.deref-in-OfPair.ensures.value c.write_newer.ensures.notes;
      right = right;
      fit = λ h.
          let old = c.write_newer.ensures.honest.1 h in
          let self = c.args.self.now in
          let there = subst (λ (ps : List Pair). IsPlace ps c.args.number (OfPair c.in-OfPair.k)) (c.deref.ensures.value ∙ sym c.deref-in-OfPair.ensures.value) c.in-OfPair.ensures in
          subst (λ n. IsFit g.R.PageRules self.rules pairs n (g.D.PageDisk.state disk)) (sym c.write_newer.ensures.pages)
          (fit_below g.R.PageRules self.rules pairs (g.D.PageDisk.page_count self.disk) (g.D.PageDisk.state self.disk) (g.D.PageDisk.state disk) c.in-OfPair.k there.0 c.args.bytes.now (ap (λ (ps : List Pair). slice_get ps c.in-OfPair.k) (sym c.deref-in-OfPair.ensures.value) ∙ there.1) (c.write_newer.ensures.below old there.0 there.1) (self.fit old));
      shows = λ h. shows_here V pairs _ _ apart (g.met.D.PageDisk.sized disk h) (right h).newer;
      whole = λ h. whole_here V pairs _ _ apart (g.met.D.PageDisk.sized disk h) (right h).newer (g.met.D.PageDisk.whole disk h);
    }

pub returns-then-allows-clause-ok : goal.returns-then-allows-clause-ok
returns-then-allows-clause-ok g c = λ h.
    let own = subst (λ (ps : List Pair). IsPlace ps c.args.number Own) c.deref.ensures.value c.in-Own.ensures in
    own_ok (g.R.PageRules.version c.args.self.now.rules) c.args.self.now.pairs.items (g.D.PageDisk.state c.args.self.now.disk) _ c.args.number c.args.bytes.now own c.write.result (c.write.ensures.ok h)

pub returns-then-allows-clause-fault : goal.returns-then-allows-clause-fault
returns-then-allows-clause-fault g c = λ h.
    let own = subst (λ (ps : List Pair). IsPlace ps c.args.number Own) c.deref.ensures.value c.in-Own.ensures in
    own_either (g.R.PageRules.version c.args.self.now.rules) c.args.self.now.pairs.items (g.D.PageDisk.state c.args.self.now.disk) _ c.args.number c.args.bytes.now own (c.write.ensures.fault h)

pub returns-then-allows-clause-time : goal.returns-then-allows-clause-time
returns-then-allows-clause-time g c = λ h.
    let self = c.args.self.now in
    let disk = c.write.new.self in
    let own = subst (λ (ps : List Pair). IsPlace ps c.args.number Own) c.deref.ensures.value c.in-Own.ensures in
    let right = own_right (g.R.PageRules.version self.rules) self.pairs.items self.notes (g.D.PageDisk.state self.disk) c.args.number c.args.bytes.now own (self.right h) (g.D.PageDisk.state disk) (c.write.ensures.fault h) in
    time_here (g.R.PageRules.version self.rules) self.pairs.items (g.D.PageDisk.page_count disk) (g.D.PageDisk.state disk) (subst (λ n. ArePairs self.pairs.items n) (sym c.write.ensures.pages) self.apart) (g.met.D.PageDisk.sized disk (c.write.ensures.honest.0 h)) right.newer
    _ _ _ _ (c.write.ensures.time h)

pub returns-in-OfPair-clause-fault : goal.returns-in-OfPair-clause-fault
returns-in-OfPair-clause-fault g c = λ h.
    let self = c.args.self.now in
    let at = subst (λ (ps : List Pair). IsPlace ps c.args.number (OfPair c.in-OfPair.k)) (c.deref.ensures.value ∙ sym c.deref-in-OfPair.ensures.value) c.in-OfPair.ensures in
    pair_either (g.R.PageRules.version self.rules) _ self.pairs.items (g.D.PageDisk.state self.disk) _ c.args.number at.0.page c.args.bytes.now c.deref-in-OfPair.ensures.value at.2 (c.write_newer.ensures.fault h at.0 at.1)

pub returns-in-OfPair-clause-time : goal.returns-in-OfPair-clause-time
returns-in-OfPair-clause-time g c = λ h.
    let self = c.args.self.now in
    let disk = c.write_newer.new.disk in
    let later = c.write_newer.ensures.honest.0 h in
    let right = subst (λ (ps : List Pair). AreRight (g.R.PageRules.version self.rules) ps c.write_newer.new.self (g.D.PageDisk.state disk)) c.deref-in-OfPair.ensures.value (c.write_newer.ensures.right later) in
    time_here (g.R.PageRules.version self.rules) self.pairs.items (g.D.PageDisk.page_count disk) (g.D.PageDisk.state disk) (subst (λ n. ArePairs self.pairs.items n) (sym c.write_newer.ensures.pages) self.apart) (g.met.D.PageDisk.sized disk later) right.newer
    _ _ _ _ (c.write_newer.ensures.time h)

pub returns-then-allows-clause-device_ok : goal.returns-then-allows-clause-device_ok
returns-then-allows-clause-device_ok g c = λ h. own_lies c.write.result (g.D.PageDisk.state c.args.self.now.disk) (g.D.PageDisk.state c.write.new.self) c.args.number c.args.bytes.now (c.write.ensures.ok h)

pub returns-then-allows-clause-device_fault : goal.returns-then-allows-clause-device_fault
returns-then-allows-clause-device_fault g c = λ h. own_may_lie (g.D.PageDisk.state c.args.self.now.disk) (g.D.PageDisk.state c.write.new.self) c.args.number c.args.bytes.now (c.write.ensures.fault h)

pub returns-in-OfPair-clause-device_ok : goal.returns-in-OfPair-clause-device_ok
returns-in-OfPair-clause-device_ok g c = λ h.
    let at = subst (λ (ps : List Pair). IsPlace ps c.args.number (OfPair c.in-OfPair.k)) (c.deref.ensures.value ∙ sym c.deref-in-OfPair.ensures.value) c.in-OfPair.ensures in
    pair_lies c.write_newer.result (g.D.PageDisk.state c.args.self.now.disk) (g.D.PageDisk.state c.write_newer.new.disk) at.0 c.args.bytes.now (c.write_newer.ensures.below_ok h at.0 at.1)

pub returns-in-OfPair-clause-device_fault : goal.returns-in-OfPair-clause-device_fault
returns-in-OfPair-clause-device_fault g c = λ h.
    let at = subst (λ (ps : List Pair). IsPlace ps c.args.number (OfPair c.in-OfPair.k)) (c.deref.ensures.value ∙ sym c.deref-in-OfPair.ensures.value) c.in-OfPair.ensures in
    pair_may_lie (g.D.PageDisk.state c.args.self.now.disk) (g.D.PageDisk.state c.write_newer.new.disk) at.0 c.args.bytes.now (c.write_newer.ensures.below h at.0 at.1)

pub returns-then-allows-clause-others : goal.returns-then-allows-clause-others
returns-then-allows-clause-others g c = λ h.
    let self = c.args.self.now in
    let own = subst (λ (ps : List Pair). IsPlace ps c.args.number Own) c.deref.ensures.value c.in-Own.ensures in
    others_own (g.R.PageRules.version self.rules) (g.R.PageRules.allowed self.rules) self.pairs.items c.write.result (g.D.PageDisk.state self.disk) (g.D.PageDisk.state c.write.new.self) c.args.number c.args.bytes.now (subst (λ n. c.args.number < n) (sym (g.met.D.PageDisk.sized self.disk h)) c.requires) own (c.write.ensures.ok h)

pub returns-in-OfPair-clause-taken : goal.returns-in-OfPair-clause-taken
returns-in-OfPair-clause-taken g c = λ h sound takes.
    let at = subst (λ (ps : List Pair). IsPlace ps c.args.number (OfPair c.in-OfPair.k)) c.deref.ensures.value c.in-OfPair.ensures in
    let there = ap (λ (ps : List Pair). slice_get ps c.in-OfPair.k) c.deref-in-OfPair.ensures.value ∙ at.1 in
    c.write_newer.ensures.taken h sound
    (subst (λ (ps : List Pair). AreFenced (g.R.PageRules.version c.args.self.now.rules) ps (seen (g.D.PageDisk.state c.args.self.now.disk))) (sym c.deref-in-OfPair.ensures.value) (takes.fenced c.in-OfPair.k at.0 at.1 at.2)) at.0 there (takes.newer c.in-OfPair.k at.0 at.1 at.2)

pub returns-in-OfPair-clause-others : goal.returns-in-OfPair-clause-others
returns-in-OfPair-clause-others g c = λ h.
    let self = c.args.self.now in
    let at = subst (λ (ps : List Pair). IsPlace ps c.args.number (OfPair c.in-OfPair.k)) c.deref.ensures.value c.in-OfPair.ensures in
    let there = ap (λ (ps : List Pair). slice_get ps c.in-OfPair.k) c.deref-in-OfPair.ensures.value ∙ at.1 in
    others_pair (g.R.PageRules.version self.rules) (g.R.PageRules.allowed self.rules) self.pairs.items c.write_newer.result (g.D.PageDisk.page_count self.disk) (g.D.PageDisk.state self.disk) (g.D.PageDisk.state c.write_newer.new.disk)
    c.args.number c.in-OfPair.k at.0 c.args.bytes.now self.apart (g.met.D.PageDisk.sized self.disk h) at.1 at.2 (c.write_newer.ensures.whole at.0 there) (c.write_newer.ensures.below_ok h at.0 there)
