use Rattle.std.proofs.Common.{refl, ◌∙◌}
use Rattle.cs_twin.proofs.Fits.{fit_call, fit_flushed}
use Rattle.cs_twin.proofs.Mending.{flush_shown, repair_leaves, repair_shows}
use Rattle.cs_twin.proofs.notes.Notes.fill_all.Goals as goal

pub returns-clause-shown : goal.returns-clause-shown
returns-clause-shown g c = λ h.
    let D = g.D.PageDisk in
    let disk = c.args.disk.now in
    let mid = c.flush.ensures.honest.0 h in
    let later = c.refill_all.ensures.honest.0 mid in
    repair_shows (g.R.PageRules.version c.args.rules.now) c.args.pairs.now (D.page_count disk) (D.state disk) c.requires.pairs (g.met.D.PageDisk.sized disk h) (c.requires.right h).newer
    (D.state c.flush.new.disk) (D.state c.refill_all.new.disk) (c.in_ok-flush.ensures.ok h) (g.met.D.PageDisk.sized c.refill_all.new.disk later ∙ c.refill_all.ensures.pages ∙ c.flush.ensures.pages)
    (c.refill_all.ensures.right later).newer (c.refill_all.ensures.shown mid)

pub returns-clause-crash : goal.returns-clause-crash
returns-clause-crash g c = λ h.
    let D = g.D.PageDisk in
    let V = g.R.PageRules.version c.args.rules.now in
    let disk = c.args.disk.now in
    let mid = c.flush.ensures.honest.0 h in
    repair_leaves V c.args.pairs.now (D.page_count disk) (D.state disk) c.requires.pairs (g.met.D.PageDisk.sized disk h) (c.requires.right h).newer D disk c.flush.new.disk c.refill_all.new.disk (c.in_ok-flush.ensures.ok h)
    (flush_shown V c.args.pairs.now (D.page_count disk) (D.state disk) c.requires.pairs (g.met.D.PageDisk.sized disk h) (c.requires.right h).newer D c.flush.result disk c.flush.new.disk refl (λ image left. g.met.D.PageDisk.only_now disk image h left)
    (c.flush.ensures.time h) (c.flush.ensures.ok h) (c.flush.ensures.err h))
    (c.refill_all.ensures.crash mid)

pub returns-in_err-flush-clause-crash : goal.returns-in_err-flush-clause-crash
returns-in_err-flush-clause-crash g c = λ h.
    let D = g.D.PageDisk in
    let disk = c.args.disk.now in
    flush_shown (g.R.PageRules.version c.args.rules.now) c.args.pairs.now (D.page_count disk) (D.state disk) c.requires.pairs (g.met.D.PageDisk.sized disk h) (c.requires.right h).newer D c.flush.result disk c.flush.new.disk refl
    (λ image left. g.met.D.PageDisk.only_now disk image h left) (c.flush.ensures.time h) (c.flush.ensures.ok h) (c.flush.ensures.err h)

pub returns-clause-fit : goal.returns-clause-fit
returns-clause-fit g c = λ h fit.
    let D = g.D.PageDisk in
    let disk = c.args.disk.now in
    let pages = D.page_count disk in
    let mid = c.flush.new.disk in
    fit_call g.R.PageRules c.args.rules.now c.args.pairs.now pages c.args.pairs.now (D.page_count mid) pages (D.state mid) (D.state c.refill_all.new.disk) refl c.flush.ensures.pages refl (c.refill_all.ensures.fit (c.flush.ensures.honest.0 h))
    (fit_flushed g.R.PageRules c.args.rules.now c.args.pairs.now pages c.keep.ensures.left (D.state disk) (D.state mid) c.requires.pairs (g.met.D.PageDisk.sized disk h) (c.requires.right h).newer (c.in_ok-flush.ensures.ok h) fit)
