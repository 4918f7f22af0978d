use Rattle.std.proofs.Common.{◌∙◌, ◌+◌, length, arith, refl, subst, sym, ap}
use Rattle.std.proofs.lemmas.Option.{slice_get_read, slice_get_within, get_or_from_slice_get}
use Rattle.cs_deps.specs.declared.elements.Element.TheVariants.{Plain, Version}
use Rattle.cs_deps.specs.View.{pending_of}
use Rattle.cs_deps.specs.Pending.{WaitsAt}
use Rattle.cs_check.proofs.Nested.{nested_plain, nested_last, nested_next}
use Rattle.cs_check.proofs.nestings.is_nested_at.Goals as goal

pub returns-in-Some : goal.returns-in-Some
returns-in-Some c =
    let g = pending_of c.args.view.now in
    let items = c.args.view.now.waiting.items in
    let here = slice_get_read items (length items) c.args.k c.index-entry.result.now refl c.requires.place c.index-entry.ensures in
    let at : WaitsAt g c.args.k (Version c.in-Version.family c.in-Version.version) c.index-entry.result.now.1 = subst (λ x. WaitsAt g c.args.k x c.index-entry.result.now.1) c.in-Version.is here in
    let found = rw c.deref.ensures.value at c.in-Some.ensures in
    let same = c.index.ensures ∙ get_or_from_slice_get items c.in-Some.next (Version c.in-Version.family (c.in-Version.version + 1), found.0) c.index.result.now found.1 in
    let both = nested_next g c.requires.listing c.args.k c.in-Some.next c.in-Version.family c.in-Version.version c.index-entry.result.now.1 c.index.result.now.1 at
    (subst (λ d. WaitsAt g c.in-Some.next (Version c.in-Version.family (c.in-Version.version + 1)) d) (sym (ap (λ w. w.1) same)) found.1) in
    ((λ yes. both.0 (c.names_all.ensures.0 yes)), (λ nested. c.names_all.ensures.1 (both.1 nested)))

pub returns-in-None : goal.returns-in-None
returns-in-None c =
    let g = pending_of c.args.view.now in
    let items = c.args.view.now.waiting.items in
    let here = slice_get_read items (length items) c.args.k c.index-entry.result.now refl c.requires.place c.index-entry.ensures in
    let at : WaitsAt g c.args.k (Version c.in-Version.family c.in-Version.version) c.index-entry.result.now.1 = subst (λ x. WaitsAt g c.args.k x c.index-entry.result.now.1) c.in-Version.is here in
    let none = rw c.deref.ensures.value at c.in-None.ensures in
    ((λ _. nested_last g c.args.k c.in-Version.family c.in-Version.version c.index-entry.result.now.1 at none), (λ _. refl))

pub returns-in-Plain : goal.returns-in-Plain
returns-in-Plain c =
    let g = pending_of c.args.view.now in
    let items = c.args.view.now.waiting.items in
    let here = slice_get_read items (length items) c.args.k c.index-entry.result.now refl c.requires.place c.index-entry.ensures in
    let at : WaitsAt g c.args.k (Plain c.in-Plain.field-0) c.index-entry.result.now.1 = subst (λ x. WaitsAt g c.args.k x c.index-entry.result.now.1) c.in-Plain.is here in
    ((λ _. nested_plain g c.args.k c.in-Plain.field-0 c.index-entry.result.now.1 at), (λ _. refl))

pub overflow_add-version : goal.overflow_add-version
overflow_add-version c =
    let g = pending_of c.args.view.now in
    let items = c.args.view.now.waiting.items in
    let here = slice_get_read items (length items) c.args.k c.index-entry.result.now refl c.requires.place c.index-entry.ensures in
    let at : WaitsAt g c.args.k (Version c.in-Version.family c.in-Version.version) c.index-entry.result.now.1 = subst (λ x. WaitsAt g c.args.k x c.index-entry.result.now.1) c.in-Version.is here in
    omega (arith, (c.requires.listing c.args.k (Version c.in-Version.family c.in-Version.version) c.index-entry.result.now.1 at).number.1)

pub index-requires : goal.index-requires
index-requires c =
    let found = rw c.deref.ensures.value at c.in-Some.ensures in
    omega (arith, slice_get_within c.args.view.now.waiting.items c.in-Some.next (Version c.in-Version.family (c.in-Version.version + 1), found.0) found.1)
