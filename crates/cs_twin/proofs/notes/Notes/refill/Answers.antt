use Rattle.std.proofs.Common.{false, refl, sym, true, ◌∙◌}
use Rattle.cs_twin.proofs.Fits.{fit_filled, fit_filling}
use Rattle.cs_twin.proofs.Holding.{inside_at}
use Rattle.cs_twin.proofs.Mending.{doubted_there, filled_there, leaves_there, of_some, shown_either, shown_there, stays_there}
use Rattle.cs_twin.proofs.notes.Notes.refill.Goals as goal

pub read_damaged-requires-clause-own : goal.read_damaged-requires-clause-own
read_damaged-requires-clause-own g c = inside_at c.args.pairs.now _ _ c.args.k (record { page = 0; twin = 0 }) false c.requires.pairs refl c.requires.inside

pub read_damaged-requires-clause-twin : goal.read_damaged-requires-clause-twin
read_damaged-requires-clause-twin g c = inside_at c.args.pairs.now _ _ c.args.k (record { page = 0; twin = 0 }) true c.requires.pairs refl c.requires.inside

pub returns-in-Ok-clause-laid : goal.returns-in-Ok-clause-laid
returns-in-Ok-clause-laid g c = λ h x at.
    filled_there (g.R.PageRules.version c.args.rules.now) (λ q. g.met.R.PageRules.fence_is_none c.args.rules.now q) c.args.filling c.args.pairs.now (g.D.PageDisk.state c.args.disk.now) (g.D.PageDisk.state c.read_damaged.new.disk) (g.D.PageDisk.page_count c.args.disk.now) c.args.k c.in-Ok-Some.page (record { page = 0; twin = 0 }) c.read_damaged.new.buffer
    c.requires.pairs (g.met.D.PageDisk.sized c.args.disk.now h) c.requires.inside (c.read_damaged.ensures.disk.same h) (c.requires.settled h) (sym c.in-Ok-Some.field-0-is ∙ c.in-Ok-Some.ensures.damaged h) (of_some c.in-Ok-Some.field-0 c.in-Ok-Some.page _ c.in-Ok-Some.field-0-is (c.in-Ok-Some.ensures.bytes h))
    _ (c.in-Ok.ensures.ok (c.read_damaged.ensures.disk.honesty.0 h)) x at

pub returns-in-Ok-clause-shown : goal.returns-in-Ok-clause-shown
returns-in-Ok-clause-shown g c = λ h.
    shown_there (g.R.PageRules.version c.args.rules.now) (λ q. g.met.R.PageRules.fence_is_none c.args.rules.now q) c.args.filling c.args.pairs.now (g.D.PageDisk.state c.args.disk.now) (g.D.PageDisk.state c.read_damaged.new.disk) (g.D.PageDisk.page_count c.args.disk.now) c.args.k c.in-Ok-Some.page (record { page = 0; twin = 0 }) c.read_damaged.new.buffer
    c.requires.pairs (g.met.D.PageDisk.sized c.args.disk.now h) c.requires.inside (c.read_damaged.ensures.disk.same h) (c.requires.settled h) (sym c.in-Ok-Some.field-0-is ∙ c.in-Ok-Some.ensures.damaged h) (of_some c.in-Ok-Some.field-0 c.in-Ok-Some.page _ c.in-Ok-Some.field-0-is (c.in-Ok-Some.ensures.bytes h))
    _ (c.in-Ok.ensures.ok (c.read_damaged.ensures.disk.honesty.0 h))

pub returns-in-Ok-clause-crash : goal.returns-in-Ok-clause-crash
returns-in-Ok-clause-crash g c = λ h.
    leaves_there (g.R.PageRules.version c.args.rules.now) (λ q. g.met.R.PageRules.fence_is_none c.args.rules.now q) c.args.filling c.args.pairs.now (g.D.PageDisk.state c.args.disk.now) (g.D.PageDisk.state c.read_damaged.new.disk) (g.D.PageDisk.page_count c.args.disk.now) c.args.k c.in-Ok-Some.page (record { page = 0; twin = 0 }) c.read_damaged.new.buffer
    c.requires.pairs (g.met.D.PageDisk.sized c.args.disk.now h) c.requires.inside (c.read_damaged.ensures.disk.same h) (c.requires.settled h) (sym c.in-Ok-Some.field-0-is ∙ c.in-Ok-Some.ensures.damaged h) (of_some c.in-Ok-Some.field-0 c.in-Ok-Some.page _ c.in-Ok-Some.field-0-is (c.in-Ok-Some.ensures.bytes h))
    g.D.PageDisk c.args.disk.now c.read_damaged.new.disk c.fill.new.disk h refl refl c.read_damaged.ensures.disk (λ image left. g.met.D.PageDisk.only_now c.args.disk.now image h left)
    (c.fill.ensures.crash (c.read_damaged.ensures.disk.honesty.0 h))

pub returns-in-Err-fill-clause-shown : goal.returns-in-Err-fill-clause-shown
returns-in-Err-fill-clause-shown g c = λ h.
    shown_either (g.R.PageRules.version c.args.rules.now) (λ q. g.met.R.PageRules.fence_is_none c.args.rules.now q) c.args.filling c.args.pairs.now (g.D.PageDisk.state c.args.disk.now) (g.D.PageDisk.state c.read_damaged.new.disk) (g.D.PageDisk.page_count c.args.disk.now) c.args.k c.in-Ok-Some.page (record { page = 0; twin = 0 }) c.read_damaged.new.buffer
    c.requires.pairs (g.met.D.PageDisk.sized c.args.disk.now h) c.requires.inside (c.read_damaged.ensures.disk.same h) (c.requires.settled h) (sym c.in-Ok-Some.field-0-is ∙ c.in-Ok-Some.ensures.damaged h) (of_some c.in-Ok-Some.field-0 c.in-Ok-Some.page _ c.in-Ok-Some.field-0-is (c.in-Ok-Some.ensures.bytes h))
    _ (c.in-Err-fill.ensures.err (c.read_damaged.ensures.disk.honesty.0 h))

pub returns-in-Err-fill-clause-crash : goal.returns-in-Err-fill-clause-crash
returns-in-Err-fill-clause-crash g c = λ h.
    leaves_there (g.R.PageRules.version c.args.rules.now) (λ q. g.met.R.PageRules.fence_is_none c.args.rules.now q) c.args.filling c.args.pairs.now (g.D.PageDisk.state c.args.disk.now) (g.D.PageDisk.state c.read_damaged.new.disk) (g.D.PageDisk.page_count c.args.disk.now) c.args.k c.in-Ok-Some.page (record { page = 0; twin = 0 }) c.read_damaged.new.buffer
    c.requires.pairs (g.met.D.PageDisk.sized c.args.disk.now h) c.requires.inside (c.read_damaged.ensures.disk.same h) (c.requires.settled h) (sym c.in-Ok-Some.field-0-is ∙ c.in-Ok-Some.ensures.damaged h) (of_some c.in-Ok-Some.field-0 c.in-Ok-Some.page _ c.in-Ok-Some.field-0-is (c.in-Ok-Some.ensures.bytes h))
    g.D.PageDisk c.args.disk.now c.read_damaged.new.disk c.fill.new.disk h refl refl c.read_damaged.ensures.disk (λ image left. g.met.D.PageDisk.only_now c.args.disk.now image h left)
    (c.fill.ensures.crash (c.read_damaged.ensures.disk.honesty.0 h))

pub returns-in-Err-fill-clause-right : goal.returns-in-Err-fill-clause-right
returns-in-Err-fill-clause-right g c = λ later.
    let h = c.read_damaged.ensures.disk.honesty.1 (c.fill.ensures.honest.1 later) in
    doubted_there (g.R.PageRules.version c.args.rules.now) (λ q. g.met.R.PageRules.fence_is_none c.args.rules.now q) c.args.filling c.args.pairs.now (g.D.PageDisk.state c.args.disk.now) (g.D.PageDisk.state c.read_damaged.new.disk) (g.D.PageDisk.page_count c.args.disk.now) c.args.k c.in-Ok-Some.page (record { page = 0; twin = 0 }) c.read_damaged.new.buffer
    c.requires.pairs (g.met.D.PageDisk.sized c.args.disk.now h) c.requires.inside (c.read_damaged.ensures.disk.same h) (c.requires.settled h) (sym c.in-Ok-Some.field-0-is ∙ c.in-Ok-Some.ensures.damaged h) (of_some c.in-Ok-Some.field-0 c.in-Ok-Some.page _ c.in-Ok-Some.field-0-is (c.in-Ok-Some.ensures.bytes h))
    _ _ (c.in-Err-fill.ensures.err (c.read_damaged.ensures.disk.honesty.0 h)) refl

pub returns-in-Ok-None-clause-laid : goal.returns-in-Ok-None-clause-laid
returns-in-Ok-None-clause-laid g c = λ h.
    stays_there (g.R.PageRules.version c.args.rules.now) c.args.filling c.args.pairs.now (g.D.PageDisk.state c.args.disk.now) (g.D.PageDisk.state c.read_damaged.new.disk) c.args.k (record { page = 0; twin = 0 })
    c.requires.inside (c.read_damaged.ensures.disk.same h) (c.requires.settled h) (sym c.in-Ok-None.field-0-is ∙ c.in-Ok-None.ensures.damaged h)

pub returns-in-Ok-clause-fit : goal.returns-in-Ok-clause-fit
returns-in-Ok-clause-fit g c = λ h fit.
    fit_filled g.R.PageRules c.args.rules.now c.args.pairs.now (g.D.PageDisk.page_count c.args.disk.now) (λ q. g.met.R.PageRules.fence_is_none c.args.rules.now q) c.args.filling (g.D.PageDisk.state c.args.disk.now) (g.D.PageDisk.state c.read_damaged.new.disk) c.args.k c.in-Ok-Some.page (record { page = 0; twin = 0 }) c.read_damaged.new.buffer
    c.requires.pairs (g.met.D.PageDisk.sized c.args.disk.now h) c.requires.inside (c.read_damaged.ensures.disk.same h) (c.requires.settled h) (sym c.in-Ok-Some.field-0-is ∙ c.in-Ok-Some.ensures.damaged h) (of_some c.in-Ok-Some.field-0 c.in-Ok-Some.page _ c.in-Ok-Some.field-0-is (c.in-Ok-Some.ensures.bytes h)) fit c.keep.ensures.left
    _ (c.in-Ok.ensures.ok (c.read_damaged.ensures.disk.honesty.0 h))

pub returns-in-Err-fill-clause-fit : goal.returns-in-Err-fill-clause-fit
returns-in-Err-fill-clause-fit g c = λ h fit.
    fit_filling g.R.PageRules c.args.rules.now c.args.pairs.now (g.D.PageDisk.page_count c.args.disk.now) (λ q. g.met.R.PageRules.fence_is_none c.args.rules.now q) c.args.filling (g.D.PageDisk.state c.args.disk.now) (g.D.PageDisk.state c.read_damaged.new.disk) c.args.k c.in-Ok-Some.page (record { page = 0; twin = 0 }) c.read_damaged.new.buffer
    c.requires.pairs (g.met.D.PageDisk.sized c.args.disk.now h) c.requires.inside (c.read_damaged.ensures.disk.same h) (c.requires.settled h) (sym c.in-Ok-Some.field-0-is ∙ c.in-Ok-Some.ensures.damaged h) (of_some c.in-Ok-Some.field-0 c.in-Ok-Some.page _ c.in-Ok-Some.field-0-is (c.in-Ok-Some.ensures.bytes h)) fit c.keep.ensures.left
    _ (c.in-Err-fill.ensures.err (c.read_damaged.ensures.disk.honesty.0 h))
