use Rattle.std.proofs.Common.{◌≡◌, ◌+◌, ◌≤◌, ◌∙◌, ◌++◌, [], arith, ap, length, length-append, map, refl, subst, sym, List, Option, None, Some, ℕ, true}
use Rattle.std.proofs.lemmas.List.{length-map}
use Rattle.cs_frame.specs.Formats.{place_of}
use Rattle.law_machine.specs.Element.{Entry, Locator as Place}
use Rattle.law_machine.specs.Index.{entries_of, names}
use Rattle.cs_index.specs.Read.{Reading}
use Rattle.cs_index.specs.Sorted.{IsMergedTo, live_entry}
use Rattle.cs_index.specs.State.{IsNext, id_number, named_entry, newest_first}
use Rattle.cs_index.proofs.Living.{is_id}
use Rattle.cs_index.proofs.Merged.{IsSmall, merged_end, merged_start, merged_step, run_few_so_far, short_step}
use Rattle.cs_index.proofs.Numbers.{small_number}
use Rattle.cs_index.proofs.Shards.{one_more, shards_run}
use Rattle.cs_index.proofs.Tallies.{count_room, counts_more, counts_none, counts_run}
use Rattle.cs_index.proofs.counts.count_living.Goals as goal
use Rattle.cs_index.proofs.counts.count_living.Goals.{In-Some}

pub loop-id-init : goal.loop-id-init
loop-id-init c =
    let index : List Entry = map named_entry c.args.table.now ++ entries_of (newest_first c.args.runs.now) in
    let from = ap (λ (r : Reading). r.after) c.entries_from-read.ensures in
    record {
      index = ap (λ (r : Reading). r.index) c.entries_from-read.ensures;
      counted = ([], subst (λ (after : Option ℕ). IsMergedTo index after []) (sym from) (merged_start index), refl, counts_none c.args.on.now c.requires.zeros, tt);
      small = subst IsSmall (sym from) tt;
    }

module _ (c : In-Some) where
  abbrev index : List Entry
  index = map named_entry c.args.table.now ++ entries_of (newest_first c.args.runs.now)

  abbrev xs : List Entry
  xs = c.loop-id.invariant.counted.0

  abbrev id : ℕ
  id = id_number c.in-Some.id

  abbrev ls : List Place
  ls = map place_of c.in-Some.locators.now

  next : IsNext index c.loop-id.read.after (Some (record { id = id; locators = ls }))
  next = subst (λ (es : List Entry). IsNext es c.loop-id.read.after (Some (record { id = id; locators = ls }))) c.loop-id.invariant.index c.in-Some.ensures.next

  more : IsMergedTo index (Some id) (xs ++ live_entry id ls)
  more = merged_step index xs c.loop-id.read.after id ls c.loop-id.invariant.counted.1 next

  few : length (xs ++ live_entry id ls) ≤ names index
  few = run_few_so_far true index (xs ++ live_entry id ls) (Some id) more

  long : length (xs ++ live_entry id ls) ≡ length xs + length (live_entry id ls)
  long = length-append xs (live_entry id ls)

pub overflow_add-count : goal.overflow_add-count
overflow_add-count c =
    let at = (goal.at.overflow_add-count c).In-Some in
    omega (arith, few at, long at, one_more (id at) (ls at), c.one_if_living-count.ensures, c.loop-id.invariant.counted.2, c.requires.few)

pub add_places-requires : goal.add_places-requires
add_places-requires c = λ e lt.
    let at = (goal.at.add_places-requires c).In-Some in
    let counted = c.loop-id.invariant.counted in
    count_room e _ (names (index at)) (xs at) (id at) (ls at) (short_step true (xs at) (id at) (ls at) counted.4 (omega (arith, length-map c.in-Some.locators.now place_of, c.in-Some.ensures.short))) (more at).ascending
    (counted.3.1 e (omega (arith, lt, counted.3.0))) (few at) c.requires.few

pub loop-id-preserved : goal.loop-id-preserved
loop-id-preserved c =
    let at = (goal.at.loop-id-preserved c).In-Some in
    let counted = c.loop-id.invariant.counted in
    let behind : c.next_entry.new.self.after ≡ Some (id at) = ap (λ (r : Reading). r.after) c.in-Some.ensures.read in
    record {
      index = ap (λ (r : Reading). r.index) c.in-Some.ensures.read ∙ c.loop-id.invariant.index;
      counted = (
        xs at ++ live_entry (id at) (ls at),
        subst (λ (after : Option ℕ). IsMergedTo (index at) after (xs at ++ live_entry (id at) (ls at))) (sym behind) (more at),
        omega (arith, long at, one_more (id at) (ls at), c.one_if_living-count.ensures, counted.2),
        counts_more c.loop-id.on c.add_places.new.on (index at) (xs at) c.loop-id.read.after (id at) (ls at) counted.1 (next at) counted.3 c.add_places.ensures.size c.add_places.ensures.each,
        short_step true (xs at) (id at) (ls at) counted.4 (omega (arith, length-map c.in-Some.locators.now place_of, c.in-Some.ensures.short)),
      );
      small = subst IsSmall (sym behind) (small_number c.in-Some.id (is_id c.in-Some.id c.bytes-bytes.result c.bytes-bytes.ensures.value c.bytes-bytes.ensures.size c.bytes-bytes.ensures.bytes));
    }

pub returns-clause-living : goal.returns-clause-living
returns-clause-living c =
    let was = c.loop-id.invariant in
    let index : List Entry = map named_entry c.args.table.now ++ entries_of (newest_first c.args.runs.now) in
    let run = merged_end index was.counted.0 c.loop-id.read.after was.counted.1 (subst (λ (es : List Entry). IsNext es c.loop-id.read.after None) was.index c.in_default.ensures.next) in
    sym (shards_run index was.counted.0 run ∙ was.counted.2)

pub returns-clause-counts : goal.returns-clause-counts
returns-clause-counts c =
    let was = c.loop-id.invariant in
    let index : List Entry = map named_entry c.args.table.now ++ entries_of (newest_first c.args.runs.now) in
    let run = merged_end index was.counted.0 c.loop-id.read.after was.counted.1 (subst (λ (es : List Entry). IsNext es c.loop-id.read.after None) was.index c.in_default.ensures.next) in
    counts_run c.loop-id.on index was.counted.0 run was.counted.3
