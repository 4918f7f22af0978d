use Rattle.std.proofs.Common.{inl, inr, sym}
use Rattle.cs_store.proofs.Remaking.{caused_after, empty_items, left_so, none_leaves, none_made, none_seen, some_items, some_leave, some_made, some_seen}
use Rattle.cs_store.proofs.sections.ready_sections.Goals as goal

pub returns-in-Err-clause-refused : goal.returns-in-Err-clause-refused
returns-in-Err-clause-refused g c = λ h. inl (c.made_sections.ensures.disk.same h)

pub returns-then-is_empty-clause-state : goal.returns-then-is_empty-clause-state
returns-then-is_empty-clause-state g c = λ h.
    none_made c.in-Ok.made.items (g.D.PageDisk.state c.args.disk.now) (g.D.PageDisk.state c.made_sections.new.disk) (empty_items c.in-Ok.made.items _ (sym c.in-Ok.made.ok.0) (sym c.if-is_empty.ensures)) (c.made_sections.ensures.disk.same h)

pub returns-then-is_empty-clause-seen : goal.returns-then-is_empty-clause-seen
returns-then-is_empty-clause-seen g c = λ h.
    none_seen c.in-Ok.made.items (g.D.PageDisk.state c.args.disk.now) (g.D.PageDisk.state c.made_sections.new.disk) (empty_items c.in-Ok.made.items _ (sym c.in-Ok.made.ok.0) (sym c.if-is_empty.ensures)) (c.made_sections.ensures.disk.same h)

pub returns-then-is_empty-clause-crash : goal.returns-then-is_empty-clause-crash
returns-then-is_empty-clause-crash g c = λ h.
    none_leaves g.D.PageDisk c.args.disk.now c.made_sections.new.disk c.made_sections.new.disk h c.made_sections.ensures.disk (λ image left. g.met.D.PageDisk.only_now c.args.disk.now image h left) c.in-Ok.made.items

pub returns-in-Ok-remake-clause-state : goal.returns-in-Ok-remake-clause-state
returns-in-Ok-remake-clause-state g c = λ h.
    some_made c.in-Ok.made.items c.deref.result.now (g.D.PageDisk.state c.args.disk.now) (g.D.PageDisk.state c.made_sections.new.disk) (g.D.PageDisk.state c.remake.new.disk) (some_items c.in-Ok.made.items _ (sym c.in-Ok.made.ok.0) (sym c.if-is_empty.ensures)) c.deref.ensures.value
    (c.made_sections.ensures.disk.same h) (c.in-Ok-remake.ensures.remade (c.made_sections.ensures.disk.honesty.0 h))

pub returns-in-Ok-remake-clause-seen : goal.returns-in-Ok-remake-clause-seen
returns-in-Ok-remake-clause-seen g c = λ h.
    some_seen c.in-Ok.made.items c.deref.result.now (g.D.PageDisk.state c.args.disk.now) (g.D.PageDisk.state c.made_sections.new.disk) (g.D.PageDisk.state c.remake.new.disk) c.deref.ensures.value
    (c.made_sections.ensures.disk.same h) (c.in-Ok-remake.ensures.seen (c.made_sections.ensures.disk.honesty.0 h))

pub returns-in-Ok-remake-clause-none : goal.returns-in-Ok-remake-clause-none
returns-in-Ok-remake-clause-none g c = λ none. absurd (some_items c.in-Ok.made.items _ (sym c.in-Ok.made.ok.0) (sym c.if-is_empty.ensures) none)

pub returns-in-Ok-remake-clause-crash : goal.returns-in-Ok-remake-clause-crash
returns-in-Ok-remake-clause-crash g c = λ h.
    let now = c.made_sections.ensures.disk.honesty.0 h in
    some_leave g.D.PageDisk c.args.disk.now c.made_sections.new.disk c.remake.new.disk h c.made_sections.ensures.disk (λ image left. g.met.D.PageDisk.only_now c.args.disk.now image h left) c.in-Ok.made.items c.deref.result.now c.deref.ensures.value
    (c.remake.ensures.crash now) (c.remake.ensures.left now)

pub returns-in-Err-remake-clause-refused : goal.returns-in-Err-remake-clause-refused
returns-in-Err-remake-clause-refused g c = λ h.
    inr (
      c.refused_by.ensures.number,
      (
        c.in-Ok.made.items,
        c.in-Ok.ensures.made h,
        left_so g.D.PageDisk c.args.disk.now c.made_sections.new.disk c.remake.new.disk h c.made_sections.ensures.disk (λ image left. g.met.D.PageDisk.only_now c.args.disk.now image h left) c.in-Ok.made.items c.deref.result.now c.deref.ensures.value
            (c.remake.ensures.left (c.made_sections.ensures.disk.honesty.0 h)),
      ),
    )

pub returns-in-Err-remake-clause-cause : goal.returns-in-Err-remake-clause-cause
returns-in-Err-remake-clause-cause g c =
    caused_after _ _ _ c.remake.result c.refused_by.result c.in-Err-remake.fault c.made_sections.ensures.disk.failures c.in-Err-remake.is c.remake.ensures.cause c.refused_by.ensures.device

pub returns-in-Err-remake-clause-why : goal.returns-in-Err-remake-clause-why
returns-in-Err-remake-clause-why g c = λ h d is view n m found has. inl c.refused_by.ensures.number
