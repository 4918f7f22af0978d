use Rattle.std.proofs.Common.{◌≡◌, ◌∙◌, ap, map, subst, sym, List, Option, None, Some, ℕ}
use Rattle.cs_frame.specs.Formats.{place_of}
use Rattle.cs_index.specs.Read.{Reading}
use Rattle.cs_index.specs.State.{IsNext, id_number, index_of}
use Rattle.cs_index.proofs.Merged.{IsSmall}
use Rattle.cs_index.proofs.Numbers.{small_number}
use Rattle.law_machine.specs.Element.{Entry, Locator as Place}
use Rattle.cs_inspect.specs.Chunks.{chunk_of}
use Rattle.cs_inspect.proofs.Gathered.{AreGathered, gathered_all, gathered_step}
use Rattle.cs_inspect.proofs.listings.live_chunks.Goals as goal

pub loop-id-preserved : goal.loop-id-preserved
loop-id-preserved c =
    let was = c.loop-id.invariant in
    let index : List Entry = index_of c.args.index.now in
    let id : ℕ = id_number c.in-Some.id in
    let ls : List Place = map place_of c.in-Some.places.now in
    let after : Option ℕ = c.loop-id.read.after in
    let at : c.next_entry.new.self.after ≡ Some id = ap (λ (r : Reading). r.after) c.in-Some.ensures.read in
    record {
      index = ap (λ (r : Reading). r.index) c.in-Some.ensures.read ∙ was.index;
      gathered = subst (λ (a : Option ℕ). AreGathered index a (map chunk_of c.add_chunks.new.chunks.items)) (sym at)
          (gathered_step index after (map chunk_of c.loop-id.chunks.items) (map chunk_of c.add_chunks.new.chunks.items) id ls was.gathered
          (subst (λ (es : List Entry). IsNext es after (Some (record { id = id; locators = ls }))) was.index c.in-Some.ensures.next)
          c.in_ok-add_chunks.ensures.chunks);
      small = subst IsSmall (sym at) (small_number c.in-Some.id c.in_ok-add_chunks.ensures.id);
    }

pub returns : goal.returns
returns c =
    let was = c.loop-id.invariant in
    gathered_all (index_of c.args.index.now) c.loop-id.read.after (map chunk_of c.loop-id.chunks.items) was.gathered
    (subst (λ (es : List Entry). IsNext es c.loop-id.read.after None) was.index c.in_default.ensures.next)
