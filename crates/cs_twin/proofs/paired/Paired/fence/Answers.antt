use Rattle.std.proofs.Common.{List, refl, OnOk, subst, sym, ◌∙◌}
use Rattle.cs_disk.specs.Disk.{LeavesOnly, MayLeave, seen}
use Rattle.cs_twin.specs.declared.pairs.Pair.{Pair}
use Rattle.cs_twin.specs.Noted.{AreNotes, AreRight}
use Rattle.cs_twin.specs.declared.findings.Filling.TheVariants.{Fence}
use Rattle.cs_twin.specs.Fillings.{filling_of}
use Rattle.cs_twin.specs.Findings.{AreLaidOver}
use Rattle.cs_twin.specs.Pairs.{ArePairs, shown, shown_state}
use Rattle.cs_twin.proofs.Fits.{fit_call}
use Rattle.cs_twin.proofs.Mending.{leaves_as_shown}
use Rattle.cs_twin.proofs.MendingAll.{known_of, untouched_of}
use Rattle.cs_twin.proofs.Over.{shows_here, whole_here}
use Rattle.cs_twin.proofs.paired.Paired.fence.Goals as goal

pub invariant_of-self : goal.invariant_of-self
invariant_of-self g c =
    let V = g.R.PageRules.version c.args.self.now.rules in
    let disk = c.fill_all.new.disk in
    let pairs = c.args.self.now.pairs.items in
    let apart = subst (λ n. ArePairs pairs n) (sym c.fill_all.ensures.pages) c.args.self.now.apart in
    let right = λ (h : g.D.PageDisk.honest disk). subst (λ (ps : List Pair). AreRight V ps c.fill_all.new.self (g.D.PageDisk.state disk)) c.deref.ensures.value (c.fill_all.ensures.right h) in
    record {
      apart = apart;
      noted = subst (λ (ps : List Pair). AreNotes ps c.fill_all.new.self) c.deref.ensures.value c.fill_all.ensures.notes;
      right = right;
      fit = λ h.
          let old = c.fill_all.ensures.honest.1 h in
          let count = g.D.PageDisk.page_count c.args.self.now.disk in
          fit_call g.R.PageRules c.args.self.now.rules pairs count _ count (g.D.PageDisk.page_count disk) (g.D.PageDisk.state c.args.self.now.disk) (g.D.PageDisk.state disk) c.deref.ensures.value refl c.fill_all.ensures.pages (c.fill_all.ensures.fit old) (c.args.self.now.fit old);
      shows = λ h. shows_here V pairs _ _ apart (g.met.D.PageDisk.sized disk h) (right h).newer;
      whole = λ h. whole_here V pairs _ _ apart (g.met.D.PageDisk.sized disk h) (right h).newer (g.met.D.PageDisk.whole disk h);
    }

pub returns-clause-untouched : goal.returns-clause-untouched
returns-clause-untouched g c = λ h.
    let D = g.D.PageDisk in
    let self = c.args.self.now in
    let V = g.R.PageRules.version self.rules in
    let before = seen (D.state self.disk) in
    let now = seen (D.state c.fill_all.new.disk) in
    untouched_of c.fill_all.result V (filling_of V Fence) self.pairs.items before now (subst (λ (ps : List Pair). OnOk c.fill_all.result (AreLaidOver V (filling_of V Fence) ps before now)) c.deref.ensures.value (c.fill_all.ensures.laid h))

pub returns-clause-crash : goal.returns-clause-crash
returns-clause-crash g c = λ h.
    let D = g.D.PageDisk in
    let self = c.args.self.now in
    let V = g.R.PageRules.version self.rules in
    let pairs = self.pairs.items in
    let s = D.state self.disk in
    let only = subst (λ (ps : List Pair). LeavesOnly D.moment D.left_since self.disk c.fill_all.new.disk (λ left. MayLeave (shown_state V ps s) (shown V ps left))) c.deref.ensures.value (c.fill_all.ensures.crash h) in
    let shows = leaves_as_shown D V pairs self.disk c.fill_all.new.disk (MayLeave (shown_state V pairs s)) only in
    record { later = shows.later; each = shows.each; before = shows.before }

pub returns-clause-known : goal.returns-clause-known
returns-clause-known g c = λ h.
    let D = g.D.PageDisk in
    let self = c.args.self.now in
    let V = g.R.PageRules.version self.rules in
    let disk = c.fill_all.new.disk in
    let later = c.fill_all.ensures.honest.0 h in
    let before = seen (D.state self.disk) in
    known_of c.fill_all.result V (filling_of V Fence) self.pairs.items before (D.state disk)
    (subst (λ n. ArePairs self.pairs.items n) (sym (g.met.D.PageDisk.sized disk later ∙ c.fill_all.ensures.pages)) self.apart) (g.met.D.PageDisk.whole disk later).durable (c.fill_all.ensures.settled h)
    (subst (λ (ps : List Pair). OnOk c.fill_all.result (AreLaidOver V (filling_of V Fence) ps before (seen (D.state disk)))) c.deref.ensures.value (c.fill_all.ensures.laid h))
