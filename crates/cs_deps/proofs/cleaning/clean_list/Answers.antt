use Rattle.std.proofs.Common.{◌∙◌, sym, ap, subst}
use Rattle.std.proofs.lemmas.Bool.{ltb-true}
use Rattle.cs_deps.specs.declared.elements.Element.TheVariants.{Plain}
use Rattle.cs_deps.specs.Entries.{waiting_of, AreCurrent}
use Rattle.cs_deps.specs.Levels.{level_by, AreLive}
use Rattle.cs_deps.proofs.Live.{live_all, all_live}
use Rattle.cs_deps.proofs.cleaning.clean_list.Goals as goal

pub returns-clause-waiting : goal.returns-clause-waiting
returns-clause-waiting c =
    let l = c.args.levels.now in
    let fl = c.args.floors.now in
    let ps = c.args.persistent.now in
    let es = c.args.entries.now.items in
    let all = c.fold_all.ensures.live l fl (subst (AreLive l fl) (sym c.keep_live.ensures.items) (all_live l fl es)) in
    ap (waiting_of ps) (live_all l fl c.fold_all.new.entries.items all) ∙ c.fold_all.ensures.waiting ∙ ap (waiting_of ps) c.keep_live.ensures.items

pub returns-clause-current : goal.returns-clause-current
returns-clause-current c latest current =
    let l = c.args.levels.now in
    let fl = c.args.floors.now in
    let ps = c.args.persistent.now in
    let es = c.args.entries.now.items in
    let all = c.fold_all.ensures.live l fl (subst (AreLive l fl) (sym c.keep_live.ensures.items) (all_live l fl es)) in
    subst (AreCurrent ps latest) (sym (live_all l fl c.fold_all.new.entries.items all)) (c.fold_all.ensures.current latest (subst (AreCurrent ps latest) (sym c.keep_live.ensures.items) current))

pub returns-clause-plains : goal.returns-clause-plains
returns-clause-plains c n listed =
    let l = c.args.levels.now in
    let fl = c.args.floors.now in
    let es = c.args.entries.now.items in
    let all = c.fold_all.ensures.live l fl (subst (AreLive l fl) (sym c.keep_live.ensures.items) (all_live l fl es)) in
    ltb-true l.ended (level_by l (Plain n)) (all listed.0 (Plain n) listed.1 listed.2)
