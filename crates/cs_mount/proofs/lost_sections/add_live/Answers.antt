use Rattle.std.proofs.Common.{◌≡◌, ◌∙◌, List, None, Option, Some, ap, map, subst, sym, ℕ}
use Rattle.cs_frame.specs.declared.locators.Locator.{Locator}
use Rattle.cs_frame.specs.Formats.{place_of}
use Rattle.cs_index.proofs.Living.{is_id}
use Rattle.cs_index.proofs.Merged.{IsSmall}
use Rattle.cs_index.proofs.Numbers.{small_number}
use Rattle.cs_index.specs.Read.{Reading}
use Rattle.cs_index.specs.State.{IsNext, id_number, index_of}
use Rattle.law_machine.specs.Element.{Entry}
use Rattle.cs_mount.proofs.LiveAdded.{AddsUpTo, all_added, more_added}
use Rattle.cs_mount.proofs.lost_sections.add_live.Goals as goal

pub loop-id-preserved : goal.loop-id-preserved
loop-id-preserved c =
    let was = c.loop-id.invariant in
    let index : List Entry = index_of c.args.index.now in
    let id : ℕ = id_number c.in-Some.id in
    let at : c.next_entry.new.self.after ≡ Some id = ap (λ (r : Reading). r.after) c.in-Some.ensures.read in
    record {
      index = ap (λ (r : Reading). r.index) c.in-Some.ensures.read ∙ was.index;
      adds = subst (λ (o : Option ℕ). AddsUpTo index c.args.places.items o c.push_all.new.named.items) (sym at)
          (subst (λ (ls : List Locator). AddsUpTo index c.args.places.items (Some id) ls) (sym c.in_ok-push_all.ensures)
          (more_added index c.args.places.items c.loop-id.read.after id c.in-Some.locators.now c.loop-id.named.items
          (subst (λ (es : List Entry). IsNext es c.loop-id.read.after (Some (record { id = id; locators = map place_of c.in-Some.locators.now }))) was.index c.in-Some.ensures.next) was.adds));
      small = subst IsSmall (sym at) (small_number c.in-Some.id (is_id c.in-Some.id c.bytes-bytes.result c.bytes-bytes.ensures.value c.bytes-bytes.ensures.size c.bytes-bytes.ensures.bytes));
    }

pub returns : goal.returns
returns c =
    let was = c.loop-id.invariant in
    all_added (index_of c.args.index.now) c.args.places.items c.loop-id.read.after c.loop-id.named.items was.adds
    (subst (λ (es : List Entry). IsNext es c.loop-id.read.after None) was.index c.in_default.ensures.next)
