use Rattle.std.proofs.Common.{rules, ◌≡◌, ◌∙◌, ◌==◌, ℕ, if◌then◌else◌, Some, List, get_or, slice_set, subst, sym}
use Rattle.std.proofs.lemmas.List.Sorted.{answers_always}
use Rattle.std.specs.List.{insert}
use Rattle.cs_core.specs.declared.lengths.Frame.{Frame}
use Rattle.cs_core.specs.Lengths.{Rise, frame_on}
use Rattle.cs_core.proofs.NotedFrames.{between, insert_on, insert_rise, same_number, set_on, set_rise}
use Rattle.cs_core.proofs.NotedLengths.{of_ok}
use Rattle.cs_core.proofs.lengths.put_frame.Goals as goal

pub returns-in-Ok-clause-rise : goal.returns-in-Ok-clause-rise
returns-in-Ok-clause-rise c =
    let fs = c.deref.result.now in
    subst (λ (gs : List Frame). Rise (slice_set gs c.in-Ok.k c.args.frame)) c.deref.ensures.value
    (set_rise fs c.in-Ok.k c.args.frame c.args.frame (subst Rise (sym c.deref.ensures.value) c.requires.rise) c.in-Ok.ensures.bound
    (same_number (get_or fs c.in-Ok.k c.args.frame).page c.args.frame.page
    (c.in-Ok.ensures.position (λ (f : Frame). f.page) (answers_always _ _ _ (λ f a r q k. search rules)) c.args.frame)))

pub returns-in-Ok-clause-put : goal.returns-in-Ok-clause-put
returns-in-Ok-clause-put c =
    let fs = c.deref.result.now in
    subst (λ (gs : List Frame). (page : ℕ) → frame_on (slice_set gs c.in-Ok.k c.args.frame) page ≡ (if c.args.frame.page == page then Some c.args.frame else frame_on gs page)) c.deref.ensures.value
    (set_on fs c.in-Ok.k c.args.frame c.args.frame (subst Rise (sym c.deref.ensures.value) c.requires.rise) c.in-Ok.ensures.bound
    (same_number (get_or fs c.in-Ok.k c.args.frame).page c.args.frame.page
    (c.in-Ok.ensures.position (λ (f : Frame). f.page) (answers_always _ _ _ (λ f a r q k. search rules)) c.args.frame)))

pub returns-in-Err-clause-rise : goal.returns-in-Err-clause-rise
returns-in-Err-clause-rise c =
    let fs = c.deref.result.now in
    let rise = subst Rise (sym c.deref.ensures.value) c.requires.rise in
    let at = between fs c.args.frame.page c.in-Err.k rise c.in-Err.ensures.bound (c.in-Err.ensures.position (λ (f : Frame). f.page) (answers_always _ _ _ (λ f a r q k. search rules))) in
    subst Rise (sym (c.insert.ensures.items ∙ of_ok c.insert.result _ _ (c.insert.ensures.succeeds c.requires.room)))
    (subst (λ (gs : List Frame). Rise (insert gs c.in-Err.k c.args.frame)) c.deref.ensures.value (insert_rise fs c.in-Err.k c.args.frame rise at))

pub returns-in-Err-clause-put : goal.returns-in-Err-clause-put
returns-in-Err-clause-put c =
    let fs = c.deref.result.now in
    let rise = subst Rise (sym c.deref.ensures.value) c.requires.rise in
    let at = between fs c.args.frame.page c.in-Err.k rise c.in-Err.ensures.bound (c.in-Err.ensures.position (λ (f : Frame). f.page) (answers_always _ _ _ (λ f a r q k. search rules))) in
    subst (λ (gs : List Frame). (page : ℕ) → frame_on gs page ≡ (if c.args.frame.page == page then Some c.args.frame else frame_on c.args.frames.now.items page))
    (sym (c.insert.ensures.items ∙ of_ok c.insert.result _ _ (c.insert.ensures.succeeds c.requires.room)))
    (subst (λ (gs : List Frame). (page : ℕ) → frame_on (insert gs c.in-Err.k c.args.frame) page ≡ (if c.args.frame.page == page then Some c.args.frame else frame_on gs page)) c.deref.ensures.value
    (insert_on fs c.in-Err.k c.args.frame at))
