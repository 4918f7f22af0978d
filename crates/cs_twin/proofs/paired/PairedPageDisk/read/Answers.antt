use Rattle.std.proofs.Common.{List, ap, slice_get, subst, sym, ◌∙◌}
use Rattle.std.proofs.lemmas.Option.{slice_get_within}
use Rattle.cs_twin.specs.declared.pairs.Pair.{Pair}
use Rattle.cs_twin.specs.declared.pairs.Place.TheVariants.{OfPair, OfTwin, Own}
use Rattle.cs_twin.specs.Noted.{AreNotes, AreRight, IsPlace}
use Rattle.cs_twin.specs.Pairs.{ArePairs, blank}
use Rattle.cs_twin.proofs.Fits.{fit_read}
use Rattle.cs_twin.proofs.Over.{reads_own_ok, reads_pair_ok, reads_twin, shows_here, whole_here}
use Rattle.cs_twin.proofs.Right.{right_on}
use Rattle.cs_twin.proofs.paired.PairedPageDisk.read.Goals as goal

pub read_newest-requires-clause-inside : goal.read_newest-requires-clause-inside
read_newest-requires-clause-inside g c =
    let k = c.in-OfPair.k in
    let at = subst (λ (ps : List Pair). IsPlace ps c.args.number (OfPair k)) (c.deref.ensures.value ∙ sym c.deref-in-OfPair.ensures.value) c.in-OfPair.ensures in
    slice_get_within c.deref-in-OfPair.result.now k at.0 at.1

pub returns-in-Own-clause-bytes : goal.returns-in-Own-clause-bytes
returns-in-Own-clause-bytes g c = λ h.
    let self = c.args.self.now in
    let own = subst (λ (ps : List Pair). IsPlace ps c.args.number Own) c.deref.ensures.value c.in-Own.ensures in
    reads_own_ok (g.R.PageRules.version self.rules) self.pairs.items _ _ self.apart (g.met.D.PageDisk.sized self.disk h) (self.right h).newer c.read.result c.args.number c.read.new.buffer c.requires own (c.read.ensures.bytes h)

pub returns-in-OfTwin-clause-bytes : goal.returns-in-OfTwin-clause-bytes
unfolding blank
returns-in-OfTwin-clause-bytes g c = λ h.
    let self = c.args.self.now in
    let at = subst (λ (ps : List Pair). IsPlace ps c.args.number OfTwin) c.deref.ensures.value c.in-OfTwin.ensures in
    reads_twin (g.R.PageRules.version self.rules) self.pairs.items _ _ self.apart (g.met.D.PageDisk.sized self.disk h) (self.right h).newer c.args.number at.0 at.1 c.requires at.2 at.3

pub returns-in-OfPair-clause-bytes : goal.returns-in-OfPair-clause-bytes
returns-in-OfPair-clause-bytes g c = λ h.
    let self = c.args.self.now in
    let at = subst (λ (ps : List Pair). IsPlace ps c.args.number (OfPair c.in-OfPair.k)) c.deref.ensures.value c.in-OfPair.ensures in
    let there = ap (λ (ps : List Pair). slice_get ps c.in-OfPair.k) c.deref-in-OfPair.ensures.value ∙ at.1 in
    reads_pair_ok (g.R.PageRules.version self.rules) self.pairs.items _ _ self.apart (g.met.D.PageDisk.sized self.disk h) (self.right h).newer c.read_newest.result c.args.number c.in-OfPair.k at.0 c.read_newest.new.buffer
    c.requires at.1 at.2 (c.read_newest.ensures.bytes h at.0 there)

pub invariant_of-self : goal.invariant_of-self
invariant_of-self g c =
    let V = g.R.PageRules.version c.args.self.now.rules in
    let self = c.args.self.now in
    let disk = c.read.new.self in
    let pairs = self.pairs.items in
    let apart = subst (λ n. ArePairs pairs n) (sym c.read.ensures.pages) self.apart in
    let right = λ (h : g.D.PageDisk.honest disk). let old = c.read.ensures.honest.1 h in right_on V pairs self.notes _ _ (c.read.ensures.state old) (self.right old) in
    record {
      apart = apart;
      noted = self.noted;
      right = right;
      fit = λ h.
          let old = c.read.ensures.honest.1 h in
          fit_read g.R.PageRules self.rules pairs (g.D.PageDisk.page_count self.disk) (g.D.PageDisk.page_count disk) (g.D.PageDisk.state self.disk) (g.D.PageDisk.state disk) c.read.ensures.pages (c.read.ensures.state old) (self.fit old);
      shows = λ h. shows_here V pairs _ _ apart (g.met.D.PageDisk.sized disk h) (right h).newer;
      whole = λ h. whole_here V pairs _ _ apart (g.met.D.PageDisk.sized disk h) (right h).newer (g.met.D.PageDisk.whole disk h);
    }

pub invariant_of-self-in-OfPair : goal.invariant_of-self-in-OfPair
invariant_of-self-in-OfPair g c =
    let V = g.R.PageRules.version c.args.self.now.rules in
    let self = c.args.self.now in
    let disk = c.read_newest.new.disk in
    let pairs = self.pairs.items in
    let reads = c.read_newest.ensures.disk in
    let apart = subst (λ n. ArePairs pairs n) (sym reads.pages) self.apart in
    let right = λ (h : g.D.PageDisk.honest disk). subst (λ (ps : List Pair). AreRight V ps c.read_newest.new.self (g.D.PageDisk.state disk)) c.deref-in-OfPair.ensures.value (c.read_newest.ensures.right h) in
    record {
      apart = apart;
      noted = subst (λ (ps : List Pair). AreNotes ps c.read_newest.new.self) c.deref-in-OfPair.ensures.value c.read_newest.ensures.notes;
      right = right;
      fit = λ h.
          let old = reads.honesty.1 h in
          fit_read g.R.PageRules self.rules pairs (g.D.PageDisk.page_count self.disk) (g.D.PageDisk.page_count disk) (g.D.PageDisk.state self.disk) (g.D.PageDisk.state disk) reads.pages (reads.same old) (self.fit old);
      shows = λ h. shows_here V pairs _ _ apart (g.met.D.PageDisk.sized disk h) (right h).newer;
      whole = λ h. whole_here V pairs _ _ apart (g.met.D.PageDisk.sized disk h) (right h).newer (g.met.D.PageDisk.whole disk h);
    }
