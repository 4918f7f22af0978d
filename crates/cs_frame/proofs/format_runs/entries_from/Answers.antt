use Rattle.std.proofs.Common.{List, [], ◌∷◌, ◌++◌, ◌-◌, ◌+◌, ℕ, ap, arith, drop, length, subst, sym, ◌∙◌, ◌≡◌, ◌≤◌}
use Rattle.std.proofs.lemmas.List.{length-drop, map-append}
use Rattle.cs_frame.specs.PackedRuns.{packed_end, packed_entry_in, packed_in}
use Rattle.cs_frame.specs.Runs.{Entry, entries_of, entry_of}
use Rattle.cs_frame.proofs.PackedLaws.{one_more, there_next, there_now}
use Rattle.cs_frame.proofs.format_runs.entries_from.Goals as goal

pub first_end-requires : goal.first_end-requires
first_end-requires c = subst (λ (xs : List ℕ). 17 ≤ length xs) (sym c.behind-rest.ensures)
    (there_now c.args.count c.loop.counter (drop c.loop.start c.args.bytes.now) c.loop-test.true c.loop.invariant.there).0

pub loop-preserved : goal.loop-preserved
loop-preserved c =
    let end : c.first_end.result ≡ packed_end (drop c.loop.start c.args.bytes.now) = c.first_end.ensures ∙ ap packed_end c.behind-rest.ensures in
    let entry : entry_of c.in_ok-entry_from.field-0 ≡ packed_entry_in (drop c.loop.start c.args.bytes.now) = c.in_ok-entry_from.ensures ∙ ap packed_entry_in c.behind-rest.ensures in
    let low : packed_end (drop c.loop.start c.args.bytes.now) ≤ length (drop c.loop.start c.args.bytes.now) =
    (there_now c.args.count c.loop.counter (drop c.loop.start c.args.bytes.now) c.loop-test.true c.loop.invariant.there).1 in
    let pushed : entries_of c.push_reserved.new.self.items ≡ entries_of c.loop.entries.items ++ entry_of c.in_ok-entry_from.field-0 ∷ [] =
    ap entries_of c.push_reserved.ensures.items ∙ map-append entry_of c.loop.entries.items (c.in_ok-entry_from.field-0 ∷ []) in
    record {
      inside = omega (arith, end, low, length-drop c.loop.start c.args.bytes.now, c.loop.invariant.inside);
      there = there_next c.args.count c.loop.counter c.args.bytes.now c.loop.start c.first_end.result c.loop-test.true end c.loop.invariant.there;
      items = ap (λ (xs : List Entry). xs ++ packed_in (c.args.count - (c.loop.counter + 1)) (drop (c.loop.start + c.first_end.result) c.args.bytes.now)) pushed
          ∙ one_more (entries_of c.loop.entries.items) (entry_of c.in_ok-entry_from.field-0) (packed_in c.args.count c.args.bytes.now) c.args.count c.loop.counter c.args.bytes.now c.loop.start
          c.first_end.result c.loop-test.true entry end c.loop.invariant.items;
      count = omega (arith, c.push_reserved.ensures.len, c.loop.invariant.count);
      room = c.push_reserved.ensures.capacity ∙ c.loop.invariant.room;
    }
