use Rattle.std.proofs.Common.{◌∙◌, ap, get_or, map, refl, subst, sym}
use Rattle.std.specs.Prelude.{List}
use Rattle.cs_frame.specs.declared.locators.Locator.{Locator}
use Rattle.cs_frame.specs.Formats.{as_locator}
use Rattle.cs_index.specs.State.{id_number, index_of}
use Rattle.law_machine.specs.Index.{live, live_at}
use Rattle.cs_core.specs.Known.{AreNotedIfWaiting}
use Rattle.cs_core.specs.Stored.{Stored}
use Rattle.cs_core.proofs.NotedChunks.{all_waiting, waiting_more, waits_then}
use Rattle.cs_reader.proofs.Lists.{there_and_back}
use Rattle.cs_core.proofs.stores.Store.note_shard.Goals as goal

pub loop-k-preserved : goal.loop-k-preserved
loop-k-preserved c =
    let v : Stored = c.args.self.now in
    let d : Locator = record { extent = 0; page = 0; generation = 0; mark = 0 } in
    record {
      said = waits_then v.extents v.graph c.args.lengths.now c.loop-k.lengths c.note_waiting.new.lengths c.loop-k.invariant.said c.note_waiting.ensures.said;
      noted = waiting_more v.extents v.graph c.loop-k.lengths c.note_waiting.new.lengths c.in-Some.places.now c.loop-k.k (get_or c.in-Some.places.now c.loop-k.k d) d
          c.loop-k-test.true refl c.loop-k.invariant.noted c.note_waiting.ensures.stay c.in_ok-note_waiting.ensures.noted;
    }

pub returns-clause-noted : goal.returns-clause-noted
returns-clause-noted c =
    let v : Stored = c.args.self.now in
    subst (λ (ls : List Locator). AreNotedIfWaiting v.extents v.graph c.loop-k.lengths ls)
    (sym (ap (λ (s : Stored). map as_locator (live_at (index_of s.index) (id_number c.args.id))) (sym c.self.view_is)
    ∙ ap (map as_locator) (sym (ap live c.in-Some.ensures.last)) ∙ there_and_back c.in-Some.places.now))
    (all_waiting v.extents v.graph c.loop-k.lengths c.in-Some.places.now c.loop-k.k c.loop-k-test.false c.loop-k.invariant.noted)
