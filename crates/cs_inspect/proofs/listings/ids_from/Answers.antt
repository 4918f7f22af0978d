use Rattle.std.proofs.Common.{◌≡◌, ◌∙◌, rules, ap, arith, length, map, subst, sym, List, Option, None, Some, ℕ}
use Rattle.std.proofs.lemmas.List.{length-map}
use Rattle.cs_frame.specs.Formats.{place_of}
use Rattle.cs_frame.specs.declared.identifiers.ShardId.{ShardId}
use Rattle.cs_index.specs.Read.{Reading}
use Rattle.cs_index.specs.State.{IsNext, id_number, index_of}
use Rattle.cs_index.proofs.Merged.{IsSmall}
use Rattle.cs_index.proofs.Numbers.{small_number}
use Rattle.law_machine.specs.Element.{Entry, Locator as Place}
use Rattle.cs_inspect.proofs.Listed.{AreListed, listed_all, listed_enough, listed_start, next_listed}
use Rattle.cs_inspect.proofs.listings.ids_from.Goals as goal

pub loop-read-init : goal.loop-read-init
loop-read-init c =
    let index : List Entry = index_of c.args.index.now in
    let from : ℕ = id_number c.args.from in
    let ids : List ℕ = map id_number c.add_if.new.ids.items in
    let at = ap (λ (r : Reading). r.after) c.entries_behind-read.ensures in
    record {
      index = ap (λ (r : Reading). r.index) c.entries_behind-read.ensures;
      listed = subst (λ (a : Option ℕ). AreListed index from c.args.most a ids) (sym at)
          (listed_start index from c.args.most c.is_live.result (map id_number c.new-ids.result.items) ids (omega (arith, c.if-most-eq0.false)) c.is_live.ensures
          (ap (λ (xs : List ShardId). map id_number xs) c.new-ids.ensures.items) c.in_ok-add_if.ensures.ids);
      small = subst IsSmall (sym at) (small_number c.args.from c.in_ok-add_if.ensures.id);
    }

pub loop-read-preserved : goal.loop-read-preserved
loop-read-preserved c =
    let was = c.loop-read.invariant in
    let index : List Entry = index_of c.args.index.now in
    let from : ℕ = id_number c.args.from in
    let id : ℕ = id_number c.in-Some.id in
    let ls : List Place = map place_of c.in-Some.places.now in
    let after : Option ℕ = c.loop-read.read.after in
    let ids : List ℕ = map id_number c.loop-read.ids.items in
    let new : List ℕ = map id_number c.add_if-in-Some.new.ids.items in
    let at : c.next_entry.new.self.after ≡ Some id = ap (λ (r : Reading). r.after) c.in-Some.ensures.read in
    record {
      index = ap (λ (r : Reading). r.index) c.in-Some.ensures.read ∙ was.index;
      listed = subst (λ (a : Option ℕ). AreListed index from c.args.most a new) (sym at)
          (next_listed index from c.args.most after ids was.listed id ls
          (subst (λ (es : List Entry). IsNext es after (Some (record { id = id; locators = ls }))) was.index c.in-Some.ensures.next)
          (length c.in-Some.places.now) (sym (length-map c.in-Some.places.now place_of)) _ new (search rules)
          (omega (arith, length-map c.loop-read.ids.items id_number, c.len.ensures, c.loop-read-test.true, c.loop-read.ids.ok.0)) c.in_ok-add_if-in-Some.ensures.ids);
      small = subst IsSmall (sym at) (small_number c.in-Some.id c.in_ok-add_if-in-Some.ensures.id);
    }

pub returns-in-None : goal.returns-in-None
returns-in-None c =
    let was = c.loop-read.invariant in
    listed_all (index_of c.args.index.now) (id_number c.args.from) c.args.most c.loop-read.read.after (map id_number c.loop-read.ids.items) was.listed
    (subst (λ (es : List Entry). IsNext es c.loop-read.read.after None) was.index c.in-None.ensures.next)

pub returns : goal.returns
returns c =
    listed_enough (index_of c.args.index.now) (id_number c.args.from) c.args.most c.loop-read.read.after (map id_number c.loop-read.ids.items) c.loop-read.invariant.listed
    (omega (arith, length-map c.loop-read.ids.items id_number, c.len.ensures, c.loop-read-test.false, c.loop-read.ids.ok.0))
