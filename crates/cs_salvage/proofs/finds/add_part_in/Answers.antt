use Rattle.std.proofs.Common.{All, ◌∙◌, ◌≡◌, ◌+◌, ◌*◌, List, ap, arith, length, subst, sym}
use Rattle.cs_salvage.specs.Frames.{IsOfFrame, IsPartIn}
use Rattle.cs_salvage.specs.Looks.{AreEnded, AreFoundBefore}
use Rattle.cs_salvage.specs.Passed.{Avoids}
use Rattle.cs_salvage.specs.declared.parts.FoundPart.{FoundPart}
use Rattle.cs_salvage.specs.declared.parts.Part.{Part}
use Rattle.cs_salvage.proofs.Looking.{begins, fits_pages, none_in_pages, one_avoids, one_ended, one_in_pages, unsought_in_pages}
use Rattle.cs_salvage.proofs.Meaning.{one_spelled}
use Rattle.cs_salvage.proofs.finds.add_part_in.Goals as goal

pub returns-in_default-clause-parts : goal.returns-in_default-clause-parts
returns-in_default-clause-parts c = λ image first passed read from within are.
    let none = rw c.in_default.is at c.in_ok-found.ensures.part in
    none_in_pages c.args.sought.now image c.requires.known c.args.place.extent c.args.place.page c.args.pages.now c.requires.heads c.requires.extent c.requires.some c.requires.fits read first passed from within c.args.parts.now.items are none

pub returns-in_ok-push-in-Some-if_sought-clause-parts : goal.returns-in_ok-push-in-Some-if_sought-clause-parts
returns-in_ok-push-in-Some-if_sought-clause-parts c = λ image first passed read from within are.
    let same = c.in-Some-if_sought.ensures.0 in
    let it = subst (λ (f : FoundPart). IsPartIn c.args.pages.now f.part f.payload.items) (sym same) (rw c.in-Some.is at c.in_ok-found.ensures.part) in
    let place = rw c.in-Some.is at c.in_ok-found.ensures.place in
    let part : c.in-Some-if_sought.found.part ≡ c.in-Some.found.part = ap (λ (f : FoundPart). f.part) same in
    subst (λ (ps : List Part). AreFoundBefore c.args.sought.now image first (2 + (c.args.place.extent * c.args.sought.now.geometry.pages + c.args.place.page) + 1) passed ps) (sym {A = List Part} c.in_ok-push-in-Some-if_sought.ensures.items)
    (one_in_pages c.args.sought.now image c.requires.known c.args.place.extent c.args.place.page c.args.pages.now c.requires.heads c.requires.extent c.requires.some c.requires.fits read first passed from within c.args.parts.now.items are
    c.in-Some-if_sought.found.part c.in-Some-if_sought.found.payload.items it (ap (λ (p : Part). p.extent) part ∙ place.0) (ap (λ (p : Part). p.page) part ∙ place.1) c.in-Some-if_sought.ensures.1)

pub returns-in_ok-push-in-Some-if_sought-clause-ended : goal.returns-in_ok-push-in-Some-if_sought-clause-ended
returns-in_ok-push-in-Some-if_sought-clause-ended c = λ all.
    let same = c.in-Some-if_sought.ensures.0 in
    let it = subst (λ (f : FoundPart). IsPartIn c.args.pages.now f.part f.payload.items) (sym same) (rw c.in-Some.is at c.in_ok-found.ensures.part) in
    let place = rw c.in-Some.is at c.in_ok-found.ensures.place in
    let part : c.in-Some-if_sought.found.part ≡ c.in-Some.found.part = ap (λ (f : FoundPart). f.part) same in
    let few = fits_pages c.args.pages.now c.in-Some-if_sought.found.part c.in-Some-if_sought.found.payload.items it in
    let here = begins c.args.sought.now.geometry c.in-Some-if_sought.found.part c.args.place.extent c.args.place.page (ap (λ (p : Part). p.extent) part ∙ place.0) (ap (λ (p : Part). p.page) part ∙ place.1) in
    subst (λ (ps : List Part). AreEnded c.args.sought.now.geometry (2 + (c.args.place.extent * c.args.sought.now.geometry.pages + c.args.place.page) + length c.args.pages.now) ps) (sym {A = List Part} c.in_ok-push-in-Some-if_sought.ensures.items)
    (one_ended c.args.sought.now.geometry (2 + (c.args.place.extent * c.args.sought.now.geometry.pages + c.args.place.page) + length c.args.pages.now) c.args.parts.now.items c.in-Some-if_sought.found.part (omega (arith, few, here)) all)

pub returns-in_ok-push-in-Some-if_sought-clause-avoid : goal.returns-in_ok-push-in-Some-if_sought-clause-avoid
returns-in_ok-push-in-Some-if_sought-clause-avoid c = λ passed below all.
    let same = c.in-Some-if_sought.ensures.0 in
    let place = rw c.in-Some.is at c.in_ok-found.ensures.place in
    let part : c.in-Some-if_sought.found.part ≡ c.in-Some.found.part = ap (λ (f : FoundPart). f.part) same in
    subst (λ (ps : List Part). All (Avoids c.args.sought.now.geometry passed) ps) (sym {A = List Part} c.in_ok-push-in-Some-if_sought.ensures.items)
    (one_avoids c.args.sought.now.geometry passed c.args.place.extent c.args.place.page c.args.parts.now.items c.in-Some-if_sought.found.part (ap (λ (p : Part). p.extent) part ∙ place.0) (ap (λ (p : Part). p.page) part ∙ place.1) below all)

pub returns-in_ok-push-in-Some-if_sought-clause-spelled : goal.returns-in_ok-push-in-Some-if_sought-clause-spelled
returns-in_ok-push-in-Some-if_sought-clause-spelled c = λ all.
    let same = c.in-Some-if_sought.ensures.0 in
    let it = subst (λ (f : FoundPart). IsPartIn c.args.pages.now f.part f.payload.items) (sym same) (rw c.in-Some.is at c.in_ok-found.ensures.part) in
    subst (λ (ps : List Part). All IsOfFrame ps) (sym {A = List Part} c.in_ok-push-in-Some-if_sought.ensures.items)
    (one_spelled c.args.parts.now.items c.in-Some-if_sought.found.part c.in-Some-if_sought.found.payload.items (c.args.pages.now, it) all)

pub returns-in-None-clause-parts : goal.returns-in-None-clause-parts
returns-in-None-clause-parts c = λ image first passed read from within are.
    let it = rw c.in-Some.is at c.in_ok-found.ensures.part in
    let place = rw c.in-Some.is at c.in_ok-found.ensures.place in
    unsought_in_pages c.args.sought.now image c.requires.known c.args.place.extent c.args.place.page c.args.pages.now c.requires.heads c.requires.extent c.requires.some c.requires.fits read first passed from within c.args.parts.now.items are
    c.in-Some.found.part c.in-Some.found.payload.items it place.0 place.1 c.in-None.ensures
