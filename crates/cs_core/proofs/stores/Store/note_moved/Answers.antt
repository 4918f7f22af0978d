use Rattle.std.proofs.Common.{◌∙◌, Option, ap, subst}
use Rattle.std.specs.Prelude.{OnOk}
use Rattle.cs_index.specs.State.{id_number, index_of}
use Rattle.law_machine.specs.Element.{Locator as Place}
use Rattle.law_machine.specs.Index.{live_at}
use Rattle.law_refinement.specs.cs_reclaim.Copied.{last_place_of}
use Rattle.cs_core.specs.Known.{AreNotedIfWaiting, moved_to}
use Rattle.cs_core.specs.Stored.{Stored}
use Rattle.cs_core.proofs.stores.Store.note_moved.Goals as goal

pub returns-in-Some-clause-noted : goal.returns-in-Some-clause-noted
returns-in-Some-clause-noted c =
    let v : Stored = c.args.self.now in
    subst (λ (copied : Option Place). OnOk c.note_waiting.result (AreNotedIfWaiting v.extents v.graph c.note_waiting.new.lengths (moved_to copied (live_at (index_of v.index) (id_number c.args.id)))))
    (c.in-Some.ensures ∙ ap (λ (s : Stored). last_place_of s.copies) c.self.view_is)
    c.note_waiting.ensures.noted
