use Rattle.std.proofs.Common.{rules, ◌≡◌, ◌∙◌, ◌+◌, Some, None, ap, arith, refl, sym, subst}
use Rattle.std.specs.Prelude.{option_copied, slice_get}
use Rattle.cs_deps.specs.State.{write_of}
use Rattle.cs_core.specs.contracts.stores.Store.{the_view}
use Rattle.cs_core.specs.Stored.{Stored, members_of}
use Rattle.cs_core.proofs.Asking.{fault_written, written_next}
use Rattle.cs_core.proofs.Kept.{kept_round}
use Rattle.cs_reader.proofs.Lists.{drop_some}
use Rattle.cs_core.proofs.Members.{next_kept, write_parts}
use Rattle.cs_core.proofs.RoundSteps.{issue_answers, issue_declines, issue_faults, issue_no_memory}
use Rattle.cs_core.proofs.stores.Store.issue.Goals as goal

pub returns-in_default-clause-step : goal.returns-in_default-clause-step
returns-in_default-clause-step g c = rw (← c.self.view_is) (λ runs honest.
    issue_declines (the_view c.self.inside) c.extent_count.ensures.whole runs (subst (λ (u : Stored). slice_get (members_of u.out) u.issued ≡ None) (sym c.self.view_is) (search rules)) (g.D.PageDisk.state c.args.disk.now))

pub unwrap-page-requires : goal.unwrap-page-requires
unwrap-page-requires g c =
    let next = subst (λ (u : Stored). slice_get (members_of u.out) u.issued ≡ Some c.in-Some.member) (sym c.self.view_is) (search rules) in
    c.page_of.ensures.kept (next_kept c.self.inside.graph (the_view c.self.inside).out c.self.inside.issued c.in-Some.member c.families.ensures.whole c.self.invariant.round next)

pub invariant_of-self : goal.invariant_of-self
invariant_of-self g c =
    let v : Stored = the_view c.self.inside in
    let next = subst (λ (u : Stored). slice_get (members_of u.out) u.issued ≡ Some c.in-Some.member) (sym c.self.view_is) (search rules) in
    let lt = (drop_some (members_of v.out) v.issued c.in-Some.member next).1 in
    kept_round v c.self.invariant c.self.inside.graph refl (λ y w kept. kept) v.out c.self.invariant.round (c.self.inside.issued + 1) (omega (arith, lt)) v.roots v.frontier c.self.invariant.noted

pub returns-in-Ok-clause-step : goal.returns-in-Ok-clause-step
returns-in-Ok-clause-step g c = rw (← c.self.view_is) (λ runs honest.
    let v : Stored = the_view c.self.inside in
    let next = subst (λ (u : Stored). slice_get (members_of u.out) u.issued ≡ Some c.in-Some.member) (sym c.self.view_is) (search rules) in
    let write = write_parts (write_of c.self.inside.graph c.in-Some.member) c.unwrap-page.result c.unwrap-bytes.result.now (sym c.page_of.ensures.page ∙ c.unwrap-page.ensures) (sym c.bytes_of.ensures.bytes ∙ ap option_copied c.unwrap-bytes.ensures) in
    issue_answers v c.extent_count.ensures.whole runs c.families.ensures.whole c.in-Some.member next c.unwrap-page.result c.unwrap-bytes.result.now write (g.D.PageDisk.state c.args.disk.now) (g.D.PageDisk.state c.write.new.self) (c.in-Ok.ensures.ok honest))

pub returns-in-Err-DeviceFault-clause-step : goal.returns-in-Err-DeviceFault-clause-step
returns-in-Err-DeviceFault-clause-step g c = rw (← c.self.view_is) (λ runs honest.
    let v : Stored = the_view c.self.inside in
    let next = subst (λ (u : Stored). slice_get (members_of u.out) u.issued ≡ Some c.in-Some.member) (sym c.self.view_is) (search rules) in
    let write = write_parts (write_of c.self.inside.graph c.in-Some.member) c.unwrap-page.result c.unwrap-bytes.result.now (sym c.page_of.ensures.page ∙ c.unwrap-page.ensures) (sym c.bytes_of.ensures.bytes ∙ ap option_copied c.unwrap-bytes.ensures) in
    issue_faults v c.extent_count.ensures.whole runs c.families.ensures.whole c.in-Some.member next c.unwrap-page.result c.unwrap-bytes.result.now write (g.D.PageDisk.state c.args.disk.now) (g.D.PageDisk.state c.write.new.self) (c.write.ensures.fault honest))

pub returns-in-Err-DeviceFault-clause-disk : goal.returns-in-Err-DeviceFault-clause-disk
returns-in-Err-DeviceFault-clause-disk g c = rw (← c.self.view_is) (
    let v : Stored = the_view c.self.inside in
    let next = subst (λ (u : Stored). slice_get (members_of u.out) u.issued ≡ Some c.in-Some.member) (sym c.self.view_is) (search rules) in
    let write = write_parts (write_of c.self.inside.graph c.in-Some.member) c.unwrap-page.result c.unwrap-bytes.result.now (sym c.page_of.ensures.page ∙ c.unwrap-page.ensures) (sym c.bytes_of.ensures.bytes ∙ ap option_copied c.unwrap-bytes.ensures) in
    let device = λ (honest : g.D.PageDisk.honest c.args.disk.now). fault_written v c.in-Some.member next c.unwrap-page.result c.unwrap-bytes.result.now write (g.D.PageDisk.state c.args.disk.now) (g.D.PageDisk.state c.write.new.self) (c.write.ensures.fault honest) in
    search rules)

pub returns-in-Err-OutOfMemory-clause-step : goal.returns-in-Err-OutOfMemory-clause-step
returns-in-Err-OutOfMemory-clause-step g c = λ runs honest. issue_no_memory c.args.self.now c.args.self.now (g.D.PageDisk.state c.args.disk.now) (g.D.PageDisk.state c.write.new.self)

pub returns-in-Ok-clause-taken : goal.returns-in-Ok-clause-taken
returns-in-Ok-clause-taken g c = rw (← c.self.view_is) (λ runs honest sound takes.
    let v : Stored = the_view c.self.inside in
    let next = subst (λ (u : Stored). slice_get (members_of u.out) u.issued ≡ Some c.in-Some.member) (sym c.self.view_is) (search rules) in
    let write = write_parts (write_of c.self.inside.graph c.in-Some.member) c.unwrap-page.result c.unwrap-bytes.result.now (sym c.page_of.ensures.page ∙ c.unwrap-page.ensures) (sym c.bytes_of.ensures.bytes ∙ ap option_copied c.unwrap-bytes.ensures) in
    c.write.ensures.taken honest sound (takes c.unwrap-page.result c.unwrap-bytes.result.now (written_next v runs c.in-Some.member next c.unwrap-page.result c.unwrap-bytes.result.now write)))

pub returns-in-Err-DeviceFault-clause-taken : goal.returns-in-Err-DeviceFault-clause-taken
returns-in-Err-DeviceFault-clause-taken g c = rw (← c.self.view_is) (λ runs honest sound takes.
    let v : Stored = the_view c.self.inside in
    let next = subst (λ (u : Stored). slice_get (members_of u.out) u.issued ≡ Some c.in-Some.member) (sym c.self.view_is) (search rules) in
    let write = write_parts (write_of c.self.inside.graph c.in-Some.member) c.unwrap-page.result c.unwrap-bytes.result.now (sym c.page_of.ensures.page ∙ c.unwrap-page.ensures) (sym c.bytes_of.ensures.bytes ∙ ap option_copied c.unwrap-bytes.ensures) in
    c.write.ensures.taken honest sound (takes c.unwrap-page.result c.unwrap-bytes.result.now (written_next v runs c.in-Some.member next c.unwrap-page.result c.unwrap-bytes.result.now write)))

pub returns-in-Err-OutOfMemory-clause-taken : goal.returns-in-Err-OutOfMemory-clause-taken
returns-in-Err-OutOfMemory-clause-taken g c = rw (← c.self.view_is) (λ runs honest sound takes.
    let v : Stored = the_view c.self.inside in
    let next = subst (λ (u : Stored). slice_get (members_of u.out) u.issued ≡ Some c.in-Some.member) (sym c.self.view_is) (search rules) in
    let write = write_parts (write_of c.self.inside.graph c.in-Some.member) c.unwrap-page.result c.unwrap-bytes.result.now (sym c.page_of.ensures.page ∙ c.unwrap-page.ensures) (sym c.bytes_of.ensures.bytes ∙ ap option_copied c.unwrap-bytes.ensures) in
    c.write.ensures.taken honest sound (takes c.unwrap-page.result c.unwrap-bytes.result.now (written_next v runs c.in-Some.member next c.unwrap-page.result c.unwrap-bytes.result.now write)))
