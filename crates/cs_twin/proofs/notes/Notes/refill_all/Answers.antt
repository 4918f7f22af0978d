use Rattle.std.proofs.Common.{ℕ, arith, ap, refl, subst, sym, ◌∙◌}
use Rattle.cs_twin.specs.Pairs.{ArePairs, shown}
use Rattle.cs_twin.proofs.Fits.{fit_call}
use Rattle.cs_twin.proofs.MendingAll.{all_filled, caused_err, leaves_at_first, leaves_on, none_filled, one_more, one_settled, one_shown, seen_settled}
use Rattle.cs_twin.proofs.notes.Notes.refill_all.Goals as goal

pub loop-k-init : goal.loop-k-init
loop-k-init g c = record {
  laid = λ h. none_filled (g.R.PageRules.version c.args.rules.now) (λ q. g.met.R.PageRules.fence_is_none c.args.rules.now q) c.args.filling c.args.pairs.now (g.D.PageDisk.state c.args.disk.now).durable;
  settled = c.requires.settled;
  shown = λ h. refl;
  fit = λ h is. is;
  crash = λ h. leaves_at_first g.D.PageDisk (g.R.PageRules.version c.args.rules.now) c.args.pairs.now c.args.disk.now (λ image left. g.met.D.PageDisk.only_now c.args.disk.now image h left) (c.requires.settled h);
  honest = ((λ h. h), (λ h. h));
  pages = refl;
  notes = c.requires.notes;
  right = c.requires.right;
  failures = omega arith;
  refused = refl;
  sound = λ is. is;
}

pub refill-requires-clause-pairs : goal.refill-requires-clause-pairs
refill-requires-clause-pairs g c = subst (λ n. ArePairs c.args.pairs.now n) (sym c.loop-k.invariant.pages) c.requires.pairs

pub refill-requires-clause-settled : goal.refill-requires-clause-settled
refill-requires-clause-settled g c = λ h. c.loop-k.invariant.settled (c.loop-k.invariant.honest.1 h)

pub returns-in-Err-clause-shown : goal.returns-in-Err-clause-shown
returns-in-Err-clause-shown g c = λ h. c.refill.ensures.shown (c.loop-k.invariant.honest.0 h) ∙ c.loop-k.invariant.shown h

pub returns-in-Err-clause-crash : goal.returns-in-Err-clause-crash
returns-in-Err-clause-crash g c = λ h.
    leaves_on g.D.PageDisk (g.R.PageRules.version c.args.rules.now) c.args.pairs.now c.args.disk.now c.loop-k.disk c.refill.new.disk (c.loop-k.invariant.shown h) (c.loop-k.invariant.crash h) (c.refill.ensures.crash (c.loop-k.invariant.honest.0 h))

pub returns-in-Err-clause-cause : goal.returns-in-Err-clause-cause
returns-in-Err-clause-cause g c = caused_err _ _ _ c.in-Err.fault c.loop-k.invariant.failures c.in-Err.ensures.cause

pub loop-k-preserved : goal.loop-k-preserved
loop-k-preserved g c =
    let D = g.D.PageDisk in
    let V = g.R.PageRules.version c.args.rules.now in
    let hollow = λ (q : ℕ). g.met.R.PageRules.fence_is_none c.args.rules.now q in
    let pairs = c.args.pairs.now in
    let disk = c.args.disk.now in
    let now = c.refill.new.disk in
    let so_far = c.loop-k.invariant in
    record {
      laid = λ h.
          one_more V hollow c.args.filling pairs (D.state disk).durable (D.state c.loop-k.disk) (D.state now) c.loop-k.k c.loop-k-test.true (c.in-Ok.ensures.laid (so_far.honest.0 h)) (D.page_count disk) c.requires.pairs (g.met.D.PageDisk.sized disk h) (so_far.laid h);
      settled = λ h. one_settled V hollow c.args.filling pairs (D.state disk).durable (D.state c.loop-k.disk) (D.state now) c.loop-k.k c.loop-k-test.true (c.in-Ok.ensures.laid (so_far.honest.0 h));
      shown = λ h.
          one_shown V hollow c.args.filling pairs (D.state disk).durable (D.state c.loop-k.disk) (D.state now) c.loop-k.k c.loop-k-test.true (c.in-Ok.ensures.laid (so_far.honest.0 h)) (c.refill.ensures.shown (so_far.honest.0 h)) (so_far.shown h);
      fit = λ h is. fit_call g.R.PageRules c.args.rules.now pairs (D.page_count disk) pairs (D.page_count c.loop-k.disk) (D.page_count disk) (D.state c.loop-k.disk) (D.state now) refl so_far.pages refl (c.refill.ensures.fit (so_far.honest.0 h)) (so_far.fit h is);
      crash = λ h. leaves_on D V pairs disk c.loop-k.disk now (so_far.shown h) (so_far.crash h) (c.refill.ensures.crash (so_far.honest.0 h));
      honest = ((λ h. c.refill.ensures.honest.0 (so_far.honest.0 h)), (λ h. so_far.honest.1 (c.refill.ensures.honest.1 h)));
      pages = c.refill.ensures.pages ∙ so_far.pages;
      notes = c.refill.ensures.notes;
      right = c.refill.ensures.right;
      failures = let later = c.refill.ensures.cause.later in let before = so_far.failures in omega (arith, later, before);
      refused = c.refill.ensures.refused ∙ so_far.refused;
      sound = λ is. c.in-Ok.ensures.sound (so_far.sound is);
    }

pub returns-clause-laid : goal.returns-clause-laid
returns-clause-laid g c = λ h. all_filled (g.R.PageRules.version c.args.rules.now) (λ q. g.met.R.PageRules.fence_is_none c.args.rules.now q) c.args.filling c.args.pairs.now (g.D.PageDisk.state c.args.disk.now).durable (g.D.PageDisk.state c.loop-k.disk).durable c.loop-k.k c.loop-k-test.false (c.loop-k.invariant.laid h)

pub returns-clause-shown : goal.returns-clause-shown
returns-clause-shown g c = λ h.
    ap (shown (g.R.PageRules.version c.args.rules.now) c.args.pairs.now) (seen_settled (g.D.PageDisk.state c.loop-k.disk) (c.loop-k.invariant.settled h)) ∙ c.loop-k.invariant.shown h

pub returns-in-Err-clause-fit : goal.returns-in-Err-clause-fit
returns-in-Err-clause-fit g c = λ h is.
    let D = g.D.PageDisk in
    let disk = c.args.disk.now in
    let so_far = c.loop-k.invariant in
    fit_call g.R.PageRules c.args.rules.now c.args.pairs.now (D.page_count disk) c.args.pairs.now (D.page_count c.loop-k.disk) (D.page_count disk) (D.state c.loop-k.disk) (D.state c.refill.new.disk) refl so_far.pages refl
    (c.refill.ensures.fit (so_far.honest.0 h)) (so_far.fit h is)

pub returns-clause-fit : goal.returns-clause-fit
returns-clause-fit g c = c.loop-k.invariant.fit
