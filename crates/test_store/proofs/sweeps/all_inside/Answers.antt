use Rattle.std.proofs.Common.{ℕ, List, map, subst}
use Rattle.cs_frame.specs.Formats.{place_of}
use Rattle.law_machine.specs.Element.{Entry, Locator as Place}
use Rattle.law_machine.specs.Index.{live_at}
use Rattle.law_machine.specs.Lists.{◌∈◌}
use Rattle.cs_index.specs.State.{id_number}
use Rattle.cs_index.proofs.Numbers.{small_number}
use Rattle.cs_index.proofs.Living.{is_id}
use Rattle.test_store.proofs.Places.{IsThere, all_have, have_up}
use Rattle.test_store.proofs.sweeps.all_inside.Goals as goal

pub loop-id-preserved : goal.loop-id-preserved
loop-id-preserved c = rw (c.in-Some.ensures.read) (record {
  index = c.loop-id.invariant.index;
  have = have_up (IsThere c.args.extents c.args.pages) c.loop-id.entries.index c.loop-id.entries.after c.loop-id.invariant.have (id_number c.in-Some.id) (map place_of c.in-Some.places.now)
      c.in-Some.ensures.next (c.are_inside.ensures c.if-not-are_inside.false);
  small = small_number c.in-Some.id (is_id c.in-Some.id c.bytes-bytes.result c.bytes-bytes.ensures.value c.bytes-bytes.ensures.size c.bytes-bytes.ensures.bytes);
})

pub returns : goal.returns
returns c = λ yes.
    subst (λ (es : List Entry). (id : ℕ) (l : Place) → l ∈ live_at es id → IsThere c.args.extents c.args.pages l) c.loop-id.invariant.index
    (all_have (IsThere c.args.extents c.args.pages) c.loop-id.entries.index c.loop-id.entries.after c.loop-id.invariant.have c.in_default.ensures.next)
