use Rattle.std.proofs.Common.{◌≡◌, ℕ, ◌+◌, ◌-◌, ◌<◌, length, arith, subst, refl}
use Rattle.std.proofs.lemmas.Option.{slice_get_read}
use Rattle.cs_deps.specs.Levels.{live_of}
use Rattle.cs_deps.proofs.Marking.{IsWantedBack, wanted_start, wanted_back, wanted_end, all_wanted}
use Rattle.cs_deps.proofs.wanted.wanted_of.Goals as goal

pub loop-k-init : goal.loop-k-init
loop-k-init c = wanted_start c.args.levels.now c.args.floors.now c.args.persistent.now c.args.entries.now c.requires.staged c.args.target (length c.args.entries.now) (omega arith)

pub loop-k-preserved : goal.loop-k-preserved
loop-k-preserved c =
    let l = c.args.levels.now in
    let fl = c.args.floors.now in
    let ps = c.args.persistent.now in
    let es = c.args.entries.now in
    let target = c.args.target in
    let k : ℕ = c.loop-k.k - 1 in
    let next : c.loop-k.k ≡ k + 1 = omega arith in
    let inside : k < length es = omega (arith, c.loop-k.auto.k, c.loop-k-test.true) in
    let at = slice_get_read es (length es) k c.index-entries-k.result refl inside c.index-entries-k.is in
    let d = c.loop-k.wanted in
    let was = subst (λ i. IsWantedBack l fl ps es c.requires.staged target i d) next c.loop-k.invariant in
    wanted_back l fl ps es c.requires.staged target k c.index-entries-k.result.0 c.index-entries-k.result.1 d c.in_ok-wanted.wanted at c.in_ok-wanted.ensures was

pub returns : goal.returns
returns c =
    let l = c.args.levels.now in
    let fl = c.args.floors.now in
    let ps = c.args.persistent.now in
    let es = c.args.entries.now in
    let d = c.loop-k.wanted in
    let end : c.loop-k.k ≡ 0 = omega (arith, c.loop-k-test.false) in
    all_wanted ps (live_of l fl es) c.requires.staged c.args.target c.requires.first d (wanted_end l fl ps es c.requires.staged c.args.target d (subst (λ i. IsWantedBack l fl ps es c.requires.staged c.args.target i d) end c.loop-k.invariant))
