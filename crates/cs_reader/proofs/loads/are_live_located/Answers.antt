use Rattle.std.proofs.Common.{◌≡◌, ◌∙◌, ap, map, subst, sym, List, None, Some, ℕ}
use Rattle.cs_frame.specs.Formats.{place_of}
use Rattle.cs_index.proofs.Merged.{IsSmall}
use Rattle.cs_index.proofs.Numbers.{small_number}
use Rattle.cs_index.specs.Read.{Reading}
use Rattle.cs_index.specs.State.{IsNext, id_number, index_of}
use Rattle.law_machine.specs.Element.{Entry}
use Rattle.cs_index.proofs.Living.{is_id}
use Rattle.cs_reader.proofs.Living.{AreLocatedTo, located_all, located_less, located_more}
use Rattle.cs_reader.proofs.loads.are_live_located.Goals as goal

pub loop-id-preserved : goal.loop-id-preserved
loop-id-preserved c =
    let was = c.loop-id.invariant in
    let index : List Entry = index_of c.args.index.now in
    let id : ℕ = id_number c.in-Some.id in
    let at : c.next_entry.new.self.after ≡ Some id = ap (λ (r : Reading). r.after) c.in-Some.ensures.read in
    record {
      index = ap (λ (r : Reading). r.index) c.in-Some.ensures.read ∙ was.index;
      located = subst (AreLocatedTo c.args.extents.now index) (sym at) (located_more c.args.extents.now index c.loop-id.read.after id c.in-Some.locators.now
          (subst (λ (es : List Entry). IsNext es c.loop-id.read.after (Some (record { id = id; locators = map place_of c.in-Some.locators.now }))) was.index c.in-Some.ensures.next) was.located c.if-not-are_places_located.ensures);
      small = subst IsSmall (sym at) (small_number c.in-Some.id (is_id c.in-Some.id c.bytes-bytes.result c.bytes-bytes.ensures.value c.bytes-bytes.ensures.size c.bytes-bytes.ensures.bytes));
    }

pub returns : goal.returns
returns c =
    let was = c.loop-id.invariant in
    located_all c.args.extents.now (index_of c.args.index.now) c.loop-id.read.after was.located
    (subst (λ (es : List Entry). IsNext es c.loop-id.read.after None) was.index c.in_default.ensures.next)

pub returns-then-not-are_places_located : goal.returns-then-not-are_places_located
returns-then-not-are_places_located c =
    located_less c.args.extents.now (index_of c.args.index.now) c.loop-id.read.after (id_number c.in-Some.id) c.in-Some.locators.now
    (subst (λ (es : List Entry). IsNext es c.loop-id.read.after (Some (record { id = id_number c.in-Some.id; locators = map place_of c.in-Some.locators.now }))) c.loop-id.invariant.index c.in-Some.ensures.next)
    c.if-not-are_places_located.ensures
