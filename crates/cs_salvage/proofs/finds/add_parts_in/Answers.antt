use Rattle.std.proofs.Common.{◌≡◌, ℕ, ◌+◌, ◌-◌, ◌*◌, List, [], arith, drop, length, subst, take}
use Rattle.cs_salvage.specs.Looks.{AreFoundBefore, number_of}
use Rattle.cs_salvage.proofs.Stretches.{below_later, ended_more, part_more, rest_of}
use Rattle.cs_salvage.proofs.finds.add_parts_in.Goals as goal

pub loop-k-preserved : goal.loop-k-preserved
loop-k-preserved c =
    let n : ℕ = 2 + (c.args.place.extent * c.args.sought.now.geometry.pages + c.args.place.page) in
    let here : ℕ = 2 + (c.args.place.extent * c.args.sought.now.geometry.pages + (c.args.place.page + c.loop-k.k)) in
    let at : here ≡ n + c.loop-k.k = omega arith in
    let pages : List (List ℕ) = c.args.pages.now in
    record {
      parts = λ image first passed. part_more c.args.sought.now image first n c.loop-k.k here passed pages (take (length pages - c.loop-k.k) (drop c.loop-k.k pages)) c.args.parts.now.items c.loop-k.parts.items c.add_part_in.new.parts.items at c.loop-k-test.true (rest_of c.loop-k.k pages)
          (c.in_ok-add_part_in.ensures.parts image first passed) (c.loop-k.invariant.parts image first passed);
      ended = ended_more c.args.sought.now [] 0 n c.loop-k.k here [] pages (take (length pages - c.loop-k.k) (drop c.loop-k.k pages)) c.args.parts.now.items c.loop-k.parts.items c.add_part_in.new.parts.items at c.loop-k-test.true (rest_of c.loop-k.k pages)
          c.args.sought.now.geometry c.in_ok-add_part_in.ensures.ended c.loop-k.invariant.ended;
      avoid = λ passed below all. c.in_ok-add_part_in.ensures.avoid passed (below_later n here c.loop-k.k passed at below) (c.loop-k.invariant.avoid passed below all);
      spelled = λ all. c.in_ok-add_part_in.ensures.spelled (c.loop-k.invariant.spelled all);
      taken = λ all. c.in_ok-add_part_in.ensures.taken (c.loop-k.invariant.taken all);
    }

pub returns-clause-parts : goal.returns-clause-parts
returns-clause-parts c = λ image first passed read from within are.
    let last : c.loop-k.k ≡ length c.args.pages.now = omega (arith, c.loop-k-test.false, c.loop-k.auto.k-end) in
    subst (λ (m : ℕ). AreFoundBefore c.args.sought.now image first (number_of c.args.sought.now.geometry c.args.place + m) passed c.loop-k.parts.items) last
    (c.loop-k.invariant.parts image first passed read from within are)
