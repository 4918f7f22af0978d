use Rattle.std.proofs.Common.{◌≡◌, ◌+◌, ◌≤◌, ◌∙◌, ◌++◌, [], ◌∷◌, arith, ap, false, length, length-append, map, refl, subst, sym, List, Option, None, Some, ℕ}
use Rattle.std.proofs.lemmas.List.{length-map}
use Rattle.cs_frame.specs.Formats.{place_of}
use Rattle.law_machine.specs.Element.{Entry}
use Rattle.law_machine.specs.Geometry.{weigh_in}
use Rattle.law_machine.specs.Index.{entries_of, names}
use Rattle.cs_index.specs.Read.{Reading}
use Rattle.cs_index.specs.Sorted.{IsRunTo}
use Rattle.cs_index.specs.State.{IsNext, id_number, named_entry, newest_first}
use Rattle.cs_index.proofs.Living.{is_id}
use Rattle.cs_index.proofs.Merged.{IsSmall, run_end, run_few_so_far, run_start, run_step}
use Rattle.cs_index.proofs.Numbers.{small_number}
use Rattle.cs_index.proofs.Weights.{counted_run, run_append}
use Rattle.cs_index.proofs.counts.count_newest.Goals as goal
use Rattle.cs_index.proofs.counts.count_newest.Goals.{In-Some}

pub loop-id-init : goal.loop-id-init
loop-id-init c =
    let index : List Entry = map named_entry c.args.table.now ++ entries_of (newest_first c.args.runs.now) in
    let from = ap (λ (r : Reading). r.after) c.entries_from-read.ensures in
    record {
      index = ap (λ (r : Reading). r.index) c.entries_from-read.ensures;
      counted = ([], subst (λ (after : Option ℕ). IsRunTo false index after []) (sym from) (run_start false index), refl, refl, omega arith);
      small = subst IsSmall (sym from) tt;
    }

module _ (c : In-Some) where
  abbrev index : List Entry
  index = map named_entry c.args.table.now ++ entries_of (newest_first c.args.runs.now)

  abbrev xs : List Entry
  xs = c.loop-id.invariant.counted.0

  abbrev x : Entry
  x = record { id = id_number c.in-Some.id; locators = map place_of c.in-Some.locators.now }

  next : IsNext index c.loop-id.read.after (Some x)
  next = subst (λ (es : List Entry). IsNext es c.loop-id.read.after (Some x)) c.loop-id.invariant.index c.in-Some.ensures.next

  more : IsRunTo false index (Some x.id) (xs ++ x ∷ [])
  more = run_step false index xs c.loop-id.read.after x.id x.locators c.loop-id.invariant.counted.1 next

  few : length xs + 1 ≤ names index
  few = omega (arith, run_few_so_far false index (xs ++ x ∷ []) (Some x.id) more, length-append xs (x ∷ []))

pub overflow_add-named : goal.overflow_add-named
overflow_add-named c = omega (arith, few (goal.at.overflow_add-named c).In-Some, c.loop-id.invariant.counted.2, c.requires.few)

pub overflow_add-weight : goal.overflow_add-weight
overflow_add-weight c =
    omega (arith, few (goal.at.overflow_add-weight c).In-Some, c.loop-id.invariant.counted.2, c.loop-id.invariant.counted.4, c.entry_weight-weight.ensures.small, c.requires.few)

pub entry_weight-weight-requires : goal.entry_weight-weight-requires
entry_weight-weight-requires c = c.in-Some.ensures.short

pub loop-id-preserved : goal.loop-id-preserved
loop-id-preserved c =
    let at = (goal.at.loop-id-preserved c).In-Some in
    let counted = c.loop-id.invariant.counted in
    let behind : c.next_entry.new.self.after ≡ Some (x at).id = ap (λ (r : Reading). r.after) c.in-Some.ensures.read in
    let weighs : c.entry_weight-weight.result ≡ weigh_in c.args.format (length (x at).locators) =
    c.entry_weight-weight.ensures.value ∙ ap (weigh_in c.args.format) (sym (length-map c.in-Some.locators.now place_of)) in
    record {
      index = ap (λ (r : Reading). r.index) c.in-Some.ensures.read ∙ c.loop-id.invariant.index;
      counted = (
        xs at ++ x at ∷ [],
        subst (λ (after : Option ℕ). IsRunTo false (index at) after (xs at ++ x at ∷ [])) (sym behind) (more at),
        omega (arith, length-append (xs at) (x at ∷ []), counted.2),
        omega (arith, run_append (weigh_in c.args.format) (xs at) (x at ∷ []), weighs, counted.3),
        omega (arith, counted.4, c.entry_weight-weight.ensures.small),
      );
      small = subst IsSmall (sym behind) (small_number c.in-Some.id (is_id c.in-Some.id c.bytes-bytes.result c.bytes-bytes.ensures.value c.bytes-bytes.ensures.size c.bytes-bytes.ensures.bytes));
    }

pub returns-clause-named : goal.returns-clause-named
returns-clause-named c =
    let was = c.loop-id.invariant in
    let index : List Entry = map named_entry c.args.table.now ++ entries_of (newest_first c.args.runs.now) in
    let run = run_end false index was.counted.0 c.loop-id.read.after was.counted.1 (subst (λ (es : List Entry). IsNext es c.loop-id.read.after None) was.index c.in_default.ensures.next) in
    (counted_run (weigh_in c.args.format) index was.counted.0 run c.loop-id.named c.loop-id.weight was.counted.2 was.counted.3).0

pub returns-clause-weight : goal.returns-clause-weight
returns-clause-weight c =
    let was = c.loop-id.invariant in
    let index : List Entry = map named_entry c.args.table.now ++ entries_of (newest_first c.args.runs.now) in
    let run = run_end false index was.counted.0 c.loop-id.read.after was.counted.1 (subst (λ (es : List Entry). IsNext es c.loop-id.read.after None) was.index c.in_default.ensures.next) in
    (counted_run (weigh_in c.args.format) index was.counted.0 run c.loop-id.named c.loop-id.weight was.counted.2 was.counted.3).1
