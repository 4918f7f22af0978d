use Rattle.std.proofs.Common.{◌∙◌, ap, le_of_eq, refl, sym}
use Rattle.cs_extent.specs.State.{shape}
use Rattle.cs_index.specs.State.{id_number, index_of}
use Rattle.law_machine.specs.Index.{live, live_at}
use Rattle.cs_core.specs.contracts.stores.Store.{the_view}
use Rattle.cs_core.specs.Stored.{Stored}
use Rattle.cs_reader.proofs.Lists.{none_left, some_left}
use Rattle.cs_core.proofs.Gets.{found_live}
use Rattle.cs_core.proofs.Sizes.{none_said, refusal_said, size_absent, size_found, size_refused, some_said}
use Rattle.cs_core.proofs.Kept.{found_there}
use Rattle.cs_core.proofs.stores.Store.size_of.Goals as goal
use Rattle.cs_reader.specs.ImageReads.{page_total}

pub returns-in_default-clause-size : goal.returns-in_default-clause-size
returns-in_default-clause-size g c = rw (← c.self.view_is) (λ honest.
    size_absent (the_view c.self.inside) (id_number c.args.id) (g.D.PageDisk.state c.args.disk.now) (sym (ap live c.in_default.ensures.last)))

pub returns-then-is_empty-clause-size : goal.returns-then-is_empty-clause-size
returns-then-is_empty-clause-size g c = rw (← c.self.view_is) (λ honest.
    size_absent (the_view c.self.inside) (id_number c.args.id) (g.D.PageDisk.state c.args.disk.now) (sym (ap live c.in-Some.ensures.last) ∙ none_left c.in-Some.places.now c.if-is_empty.ensures))

pub read_lengths-requires-clause-places : goal.read_lengths-requires-clause-places
read_lengths-requires-clause-places g c = found_there (shape c.self.inside.extents) c.self.inside.index (id_number c.args.id) c.in-Some.places.now c.self.invariant.places c.in-Some.ensures.last

pub returns-in-Ok-clause-size : goal.returns-in-Ok-clause-size
returns-in-Ok-clause-size g c = rw (← c.self.view_is) (λ honest.
    size_found (the_view c.self.inside) (id_number c.args.id) (g.D.PageDisk.state c.args.disk.now) c.extent_count.ensures.whole c.families.ensures.whole
    (le_of_eq (ap (λ (u : Stored). page_total (shape u.extents)) c.self.view_is ∙ c.requires.device ∙ sym (g.met.D.PageDisk.sized c.args.disk.now honest))) c.in-Some.places.now (sym (ap live c.in-Some.ensures.last)) (some_left c.in-Some.places.now c.if-is_empty.ensures)
    c.in-Ok.count (c.in-Ok.ensures.read honest))

pub returns-in-Err-clause-size : goal.returns-in-Err-clause-size
returns-in-Err-clause-size g c = rw (← c.self.view_is) (λ honest.
    size_refused (the_view c.self.inside) (id_number c.args.id) (g.D.PageDisk.state c.args.disk.now) c.extent_count.ensures.whole c.families.ensures.whole
    (le_of_eq (ap (λ (u : Stored). page_total (shape u.extents)) c.self.view_is ∙ c.requires.device ∙ sym (g.met.D.PageDisk.sized c.args.disk.now honest))) c.in-Some.places.now (sym (ap live c.in-Some.ensures.last)) (some_left c.in-Some.places.now c.if-is_empty.ensures)
    c.in-Err.refusal c.in-Err.ensures.refusals (c.in-Err.ensures.read honest))

pub returns-in_default-clause-absent : goal.returns-in_default-clause-absent
returns-in_default-clause-absent g c = rw (← c.self.view_is) ((λ _. sym (ap live c.in_default.ensures.last)), (λ _. refl))

pub returns-then-is_empty-clause-absent : goal.returns-then-is_empty-clause-absent
returns-then-is_empty-clause-absent g c = rw (← c.self.view_is) ((λ _. sym (ap live c.in-Some.ensures.last) ∙ none_left c.in-Some.places.now c.if-is_empty.ensures), (λ _. refl))

pub returns-in-Ok-clause-absent : goal.returns-in-Ok-clause-absent
returns-in-Ok-clause-absent g c = rw (← c.self.view_is) (
  (λ told. absurd (cc told)),
  (λ none. absurd (found_live (the_view c.self.inside) (id_number c.args.id) c.in-Some.places.now (sym (ap live c.in-Some.ensures.last)) (some_left c.in-Some.places.now c.if-is_empty.ensures) none)),
)

pub returns-in-Err-clause-absent : goal.returns-in-Err-clause-absent
returns-in-Err-clause-absent g c = rw (← c.self.view_is) (
  (λ told. absurd (cc told)),
  (λ none. absurd (found_live (the_view c.self.inside) (id_number c.args.id) c.in-Some.places.now (sym (ap live c.in-Some.ensures.last)) (some_left c.in-Some.places.now c.if-is_empty.ensures) none)),
)

pub returns-in_default-clause-headers : goal.returns-in_default-clause-headers
returns-in_default-clause-headers g c = rw (← c.self.view_is) (λ honest view are.
    none_said c.self.inside.extents view (live_at (index_of c.self.inside.index) (id_number c.args.id)) (sym (ap live c.in_default.ensures.last)))

pub returns-then-is_empty-clause-headers : goal.returns-then-is_empty-clause-headers
returns-then-is_empty-clause-headers g c = rw (← c.self.view_is) (λ honest view are.
    none_said c.self.inside.extents view (live_at (index_of c.self.inside.index) (id_number c.args.id)) (sym (ap live c.in-Some.ensures.last) ∙ none_left c.in-Some.places.now c.if-is_empty.ensures))

pub returns-in-Ok-clause-headers : goal.returns-in-Ok-clause-headers
returns-in-Ok-clause-headers g c = rw (← c.self.view_is) (λ honest view are.
    some_said c.self.inside.extents view (live_at (index_of c.self.inside.index) (id_number c.args.id)) c.in-Some.places.now (sym (ap live c.in-Some.ensures.last)) c.in-Ok.count (c.in-Ok.ensures.told honest view are))

pub returns-in-Err-clause-headers : goal.returns-in-Err-clause-headers
returns-in-Err-clause-headers g c = rw (← c.self.view_is) (λ honest view are.
    refusal_said c.self.inside.extents view (live_at (index_of c.self.inside.index) (id_number c.args.id)) c.in-Some.places.now (sym (ap live c.in-Some.ensures.last)) c.in-Err.refusal (c.in-Err.ensures.header honest view are))
