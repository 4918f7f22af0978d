use Rattle.std.proofs.Common.{◌≡◌, ◌+◌, ℕ, ap, arith, get_or, sum, take, take_all}
use Rattle.std.proofs.lemmas.List.Sums.{sum_by_more}
use Rattle.cs_extent.proofs.numbers.are_writes_worn.Goals as goal

pub loop-pages-init : goal.loop-pages-init
loop-pages-init c = λ a. ((λ h. omega (arith, h, c.last_plain-last.ensures)), (λ h. omega (arith, h, c.last_plain-last.ensures)))

pub loop-pages-preserved : goal.loop-pages-preserved
loop-pages-preserved c = λ a.
    let was = c.loop-pages.invariant (get_or c.args.frame_pages.now c.loop-pages.pages-index 0 + a) in
    let more = sum_by_more (λ (x : ℕ). x) c.args.frame_pages.now c.loop-pages.pages-index 0 c.loop-pages-test.true in (
      (λ h. let up = was.0 (omega (arith, h, c.saturating_add-last.ensures)) in omega (arith, up, more)),
      (λ h. let up = was.1 (omega (arith, h, more)) in omega (arith, up, c.saturating_add-last.ensures)),
    )

pub returns : goal.returns
returns c =
    let all : sum (take c.loop-pages.pages-index c.args.frame_pages.now) ≡ sum c.args.frame_pages.now = ap sum (take_all c.loop-pages.pages-index c.args.frame_pages.now c.loop-pages-test.false) in
    let is = c.loop-pages.invariant 0 in (
      (λ t. let past = c.is_past.ensures.0 t in let up = is.0 (omega (arith, past)) in omega (arith, up, all)),
      (λ h. let up = is.1 (omega (arith, h, all)) in c.is_past.ensures.1 (omega (arith, up))),
    )
