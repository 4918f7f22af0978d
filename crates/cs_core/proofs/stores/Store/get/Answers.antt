use Rattle.std.proofs.Common.{◌∙◌, ap, le_of_eq, refl, sym}
use Rattle.cs_extent.specs.State.{shape}
use Rattle.cs_index.specs.State.{id_number}
use Rattle.law_machine.specs.Index.{live}
use Rattle.cs_core.specs.contracts.stores.Store.{the_view}
use Rattle.cs_core.specs.Stored.{Stored}
use Rattle.cs_reader.proofs.Lists.{none_left, some_left}
use Rattle.cs_core.proofs.Gets.{found_live, get_absent, get_found_answers, get_refused_answers, meant_found}
use Rattle.cs_core.proofs.Kept.{found_there}
use Rattle.cs_core.proofs.stores.Store.get.Goals as goal
use Rattle.cs_reader.specs.ImageReads.{page_total}

pub returns-in_default-clause-step : goal.returns-in_default-clause-step
returns-in_default-clause-step g c = rw (← c.self.view_is) (λ honest.
    get_absent (the_view c.self.inside) (id_number c.args.id) (g.D.PageDisk.state c.args.disk.now) (sym (ap live c.in_default.ensures.last)))

pub returns-then-is_empty-clause-step : goal.returns-then-is_empty-clause-step
returns-then-is_empty-clause-step g c = rw (← c.self.view_is) (λ honest.
    get_absent (the_view c.self.inside) (id_number c.args.id) (g.D.PageDisk.state c.args.disk.now) (sym (ap live c.in-Some.ensures.last) ∙ none_left c.in-Some.places.now c.if-is_empty.ensures))

pub read_chunks-requires-clause-places : goal.read_chunks-requires-clause-places
read_chunks-requires-clause-places g c = found_there (shape c.self.inside.extents) c.self.inside.index (id_number c.args.id) c.in-Some.places.now c.self.invariant.places c.in-Some.ensures.last

pub returns-in-Ok-clause-step : goal.returns-in-Ok-clause-step
returns-in-Ok-clause-step g c = rw (← c.self.view_is) (λ honest.
    get_found_answers (the_view c.self.inside) (id_number c.args.id) (g.D.PageDisk.state c.args.disk.now) c.extent_count.ensures.whole c.families.ensures.whole
    (le_of_eq (ap (λ (u : Stored). page_total (shape u.extents)) c.self.view_is ∙ c.requires.device ∙ sym (g.met.D.PageDisk.sized c.args.disk.now honest))) c.in-Some.places.now (sym (ap live c.in-Some.ensures.last)) (some_left c.in-Some.places.now c.if-is_empty.ensures)
    c.in-Ok.bytes (c.in-Ok.ensures.bytes honest))

pub returns-in-Ok-clause-meant : goal.returns-in-Ok-clause-meant
returns-in-Ok-clause-meant g c = rw (← c.self.view_is) (
    meant_found (the_view c.self.inside) (id_number c.args.id) c.in-Some.places.now (sym (ap live c.in-Some.ensures.last)) c.in-Ok.bytes.items c.in-Ok.ensures.meant)

pub returns-in-Err-clause-step : goal.returns-in-Err-clause-step
returns-in-Err-clause-step g c = rw (← c.self.view_is) (λ honest.
    get_refused_answers (the_view c.self.inside) (id_number c.args.id) (g.D.PageDisk.state c.args.disk.now) c.extent_count.ensures.whole c.families.ensures.whole
    (le_of_eq (ap (λ (u : Stored). page_total (shape u.extents)) c.self.view_is ∙ c.requires.device ∙ sym (g.met.D.PageDisk.sized c.args.disk.now honest))) c.in-Some.places.now (sym (ap live c.in-Some.ensures.last)) (some_left c.in-Some.places.now c.if-is_empty.ensures)
    c.in-Err.refusal c.in-Err.ensures.refusals (c.in-Err.ensures.fault honest))

pub returns-in_default-clause-absent : goal.returns-in_default-clause-absent
returns-in_default-clause-absent g c = rw (← c.self.view_is) ((λ _. sym (ap live c.in_default.ensures.last)), (λ _. refl))

pub returns-then-is_empty-clause-absent : goal.returns-then-is_empty-clause-absent
returns-then-is_empty-clause-absent g c = rw (← c.self.view_is) ((λ _. sym (ap live c.in-Some.ensures.last) ∙ none_left c.in-Some.places.now c.if-is_empty.ensures), (λ _. refl))

pub returns-in-Ok-clause-absent : goal.returns-in-Ok-clause-absent
returns-in-Ok-clause-absent g c = rw (← c.self.view_is) (
  (λ told. absurd (cc told)),
  (λ none. absurd (found_live (the_view c.self.inside) (id_number c.args.id) c.in-Some.places.now (sym (ap live c.in-Some.ensures.last)) (some_left c.in-Some.places.now c.if-is_empty.ensures) none)),
)

pub returns-in-Err-clause-absent : goal.returns-in-Err-clause-absent
returns-in-Err-clause-absent g c = rw (← c.self.view_is) (
  (λ told. absurd (cc told)),
  (λ none. absurd (found_live (the_view c.self.inside) (id_number c.args.id) c.in-Some.places.now (sym (ap live c.in-Some.ensures.last)) (some_left c.in-Some.places.now c.if-is_empty.ensures) none)),
)
