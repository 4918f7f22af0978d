use Rattle.std.proofs.Common.{◌≡◌, ◌∙◌, ◌++◌, arith, ap, map, subst, sym, Bool, List, Option, None, Some, ℕ}
use Rattle.std.specs.List.{AllByRecursion}
use Rattle.std.proofs.lemmas.List.{length-map}
use Rattle.law_machine.specs.Element.{Entry, Locator as Place}
use Rattle.law_machine.specs.Index.{entries_of}
use Rattle.cs_index.specs.Read.{Reading}
use Rattle.cs_index.specs.Sorted.{IsRunTo, kept_entry}
use Rattle.cs_frame.specs.Formats.{place_of}
use Rattle.cs_index.specs.State.{IsNext, IsShort, id_number, named_entry, newest_first}
use Rattle.cs_index.proofs.Merged.{IsSmall, run_end, run_step, short_step}
use Rattle.cs_index.proofs.Numbers.{small_number}
use Rattle.cs_index.proofs.mergers.merged_part.Goals as goal

pub loop-id-preserved : goal.loop-id-preserved
loop-id-preserved c =
    let was = c.loop-id.invariant in
    let go : Bool = c.args.without_deletions in
    let index : List Entry = map named_entry c.args.table.now ++ entries_of (newest_first c.args.runs.now) in
    let id : ℕ = id_number c.in-Some.id in
    let xs : List Entry = map named_entry c.loop-id.entries.items in
    let ls : List Place = map place_of c.in-Some.locators.now in
    let items : map named_entry c.add_kept.new.entries.items ≡ xs ++ kept_entry go id ls = c.in_ok-add_kept.ensures.items in
    let at : c.next_entry.new.self.after ≡ Some id = ap (λ (r : Reading). r.after) c.in-Some.ensures.read in
    record {
      index = ap (λ (r : Reading). r.index) c.in-Some.ensures.read ∙ was.index;
      merged = subst (λ (after : Option ℕ). IsRunTo go index after (map named_entry c.add_kept.new.entries.items)) (sym at)
          (subst (λ (es : List Entry). IsRunTo go index (Some id) es) (sym items)
          (run_step go index xs c.loop-id.read.after id ls was.merged
          (subst (λ (es : List Entry). IsNext es c.loop-id.read.after (Some (record { id = id; locators = ls }))) was.index c.in-Some.ensures.next)));
      ids = c.in_ok-add_kept.ensures.ids;
      short = subst (λ (es : List Entry). AllByRecursion IsShort es) (sym items)
          (short_step go xs id ls was.short (omega (arith, length-map c.in-Some.locators.now place_of, c.in-Some.ensures.short)));
      small = subst IsSmall (sym at) (small_number c.in-Some.id c.in_ok-add_kept.ensures.id);
    }

pub returns-clause-merged : goal.returns-clause-merged
returns-clause-merged c =
    let was = c.loop-id.invariant in
    let index : List Entry = map named_entry c.args.table.now ++ entries_of (newest_first c.args.runs.now) in
    run_end c.args.without_deletions index (map named_entry c.loop-id.entries.items) c.loop-id.read.after was.merged
    (subst (λ (es : List Entry). IsNext es c.loop-id.read.after None) was.index c.in_default.ensures.next)
