use Rattle.std.proofs.Common.{◌≡◌, ◌∙◌, [], ◌∷◌, ◌++◌, Err, Ok, List, ap, arith, inl, length, map, subst, sym, ℕ}
use Rattle.std.proofs.lemmas.List.{length-map}
use Rattle.std.proofs.lemmas.Result.{err_from_is_err_and}
use Rattle.cs_deps.specs.Staging.{Staging}
use Rattle.cs_deps.specs.State.{State as GraphState}
use Rattle.cs_extent.specs.Appended.{IsReady}
use Rattle.cs_extent.specs.Places.{GoesIn}
use Rattle.cs_extent.specs.Purposes.{reason_of}
use Rattle.cs_extent.specs.State.{shape}
use Rattle.cs_extent.specs.Worn.{IsFrameWorn}
use Rattle.cs_index.proofs.OfFormat.{most_runs}
use Rattle.cs_frame.specs.declared.locators.Locator.{Locator}
use Rattle.cs_frame.specs.Locators.{KeepFormat}
use Rattle.cs_index.specs.Staged.{IsRootOver, IsRootWorn, IsWhy, run_frame}
use Rattle.cs_index.specs.State.{named_entry}
use Rattle.cs_index.proofs.Exact.{why_same, why_worn, written_why}
use Rattle.cs_index.proofs.Marks.{more_keep, placed_keeps}
use Rattle.cs_index.proofs.Rooted.{frame_below, run_staged_by}
use Rattle.law_machine.specs.Format.{Format}
use Rattle.law_machine.specs.Geometry.{most_runs_in, pages_first_in}
use Rattle.cs_index.proofs.stages.stage_run.Goals as goal
use Rattle.cs_index.proofs.stages.stage_run.Goals.{After-append}

pub prepare-requires-clause-few : goal.prepare-requires-clause-few
prepare-requires-clause-few c = omega (arith, c.requires.few, most_runs c.args.extents.now.format)

-- the run's pages are those that were appended
pages_are : (c : After-append) → length c.deref.result.now ≡ length (run_frame c.args.extents.now (map named_entry c.args.run.now.entries.items))
pages_are c = ap length (c.deref.ensures.value ∙ c.in_ok-frame.ensures.frame)

staging_is : (c : After-append) → c.prepare.new.graph.staging ≡ c.args.graph.now.staging
staging_is c = ap (λ (h : GraphState). h.staging) c.in_ok-frame.ensures.rest

pub append-requires-clause-ready : goal.append-requires-clause-ready
append-requires-clause-ready c = subst (λ (s : Staging). IsReady c.args.extents.now s) (sym (ap (λ (h : GraphState). h.staging) c.in_ok-frame.ensures.rest)) c.requires.ready

pub push_root-version-requires-clause-number : goal.push_root-version-requires-clause-number
push_root-version-requires-clause-number c =
    let at = (goal.at.push_root-version-requires-clause-number c).After-append in
    frame_below c.prepare.new.graph.staging c.append.new.graph.staging _ _ _ _ _ _ c.in-Ok.ensures.appended.staged
    (λ worn. c.in_ok-frame.ensures.why.1 (subst (λ (s : Staging). IsRootWorn s) (staging_is at) worn))

pub push_root-version-requires-clause-places : goal.push_root-version-requires-clause-places
push_root-version-requires-clause-places c =
    let same : most_runs_in c.format-format.result ≡ most_runs_in c.args.extents.now.format = ap most_runs_in (c.format-format.ensures.format ∙ c.geometry.ensures.format) in
    omega (
      arith,
      same,
      c.requires.few,
      c.push_reserved.ensures.len,
      c.push_reserved.new.self.ok.0,
      c.in_ok-frame.places.ok.0,
      ap length c.in_ok-frame.ensures.places,
      length-map c.args.older.now (λ run. run.place),
    )

pub push_root-version-requires-clause-marks : goal.push_root-version-requires-clause-marks
push_root-version-requires-clause-marks c =
    let older = subst (λ (ls : List Locator). KeepFormat c.args.extents.now.format ls) (sym c.in_ok-frame.ensures.places) c.requires.marks in
    subst (λ (ls : List Locator). KeepFormat c.format-format.result ls) (sym c.push_reserved.ensures.items)
    (subst (λ (f : Format). KeepFormat f (c.in_ok-frame.places.items ++ c.in-Ok.place ∷ [])) (sym (c.format-format.ensures.format ∙ c.geometry.ensures.format))
    (more_keep c.args.extents.now.format c.in_ok-frame.places.items c.in-Ok.place older (placed_keeps c.args.extents.now c.deref.result.now c.in-Ok.place c.in-Ok.ensures.appended.place)))

pub returns-in-Ok-clause-staged : goal.returns-in-Ok-clause-staged
returns-in-Ok-clause-staged c =
    let x = c.args.extents.now in
    let root = subst (λ (ls : List Locator). IsRootOver x.format (pages_first_in x.format) c.append.new.graph c.push_root-version.new.graph c.push_root-version.result c.args.commands ls) c.push_reserved.ensures.items
    (subst (λ (f : Format). IsRootOver f (pages_first_in f) c.append.new.graph c.push_root-version.new.graph c.push_root-version.result c.args.commands c.push_reserved.new.self.items)
    (c.format-format.ensures.format ∙ c.geometry.ensures.format) c.push_root-version.ensures.staged) in
    run_staged_by (shape x).apart x c.args.graph.now c.prepare.new.graph (reason_of c.args.purpose) (map named_entry c.args.run.now.entries.items) c.args.older.now c.in-Ok.place c.push_root-version.result c.args.commands c.append.new.self c.push_root-version.new.graph
    c.deref.result.now c.in_ok-frame.places.items c.in_ok-frame.ensures.rest (c.deref.ensures.value ∙ c.in_ok-frame.ensures.frame) c.in_ok-frame.ensures.places (c.append.new.graph, c.in-Ok.ensures.appended, root)

pub returns-in_err-frame-clause-why : goal.returns-in_err-frame-clause-why
returns-in_err-frame-clause-why c =
    let p = err_from_is_err_and c.from_residual.result c.from_residual.ensures.1 in
    rw (p.1, p.2) (why_same c.in_err-frame.field-0.0 _ _ _ _ (λ none. none) (λ none. none) (λ root. inl root) c.in_err-frame.ensures.why)

pub returns-in-Ok-clause-why : goal.returns-in-Ok-clause-why
returns-in-Ok-clause-why c =
    let at = (goal.at.returns-in-Ok-clause-why c).After-append in
    let pages = length (run_frame c.args.extents.now (map named_entry c.args.run.now.entries.items)) in
    written_why {T = Locator × ℕ} (Ok (c.in-Ok.place, c.push_root-version.result)) (IsRootWorn c.args.graph.now.staging) (IsFrameWorn c.args.extents.now (reason_of c.args.purpose) c.args.graph.now.staging pages) c.in_ok-frame.ensures.why.1 (
      (λ none. none),
      λ worn. (let was = subst (λ (s : Staging). IsFrameWorn c.args.extents.now (reason_of c.args.purpose) s pages) (sym (staging_is at)) worn in
          let is = c.append.ensures.worn.1 (subst (λ (k : ℕ). IsFrameWorn c.args.extents.now (reason_of c.args.purpose) c.prepare.new.graph.staging k) (sym (pages_are at)) was) in absurd (cc (is, c.in-Ok.is))),
    )

pub returns-clause-why : goal.returns-clause-why
returns-clause-why c =
    let at = (goal.at.returns-clause-why c).After-append in
    let reason = reason_of c.args.purpose in
    let x = c.args.extents.now in
    let placed = subst (λ (k : ℕ). (e : ℕ) × GoesIn x reason k e) (sym (pages_are at)) c.requires.placed in
    let pages = length (run_frame x (map named_entry c.args.run.now.entries.items)) in
    written_why {T = Locator × ℕ} (Err c.in-Err.refusal) (IsRootWorn c.args.graph.now.staging) (IsFrameWorn x reason c.args.graph.now.staging pages) c.in_ok-frame.ensures.why.1
    (subst (λ (s : Staging). IsWhy c.in-Err.refusal ⊥ (IsFrameWorn x reason s pages)) (staging_is at)
    (subst (λ (k : ℕ). IsWhy c.in-Err.refusal ⊥ (IsFrameWorn x reason c.prepare.new.graph.staging k)) (pages_are at)
    (why_worn c.append.result c.in-Err.refusal (GoesIn x reason (length c.deref.result.now)) (IsFrameWorn x reason c.prepare.new.graph.staging (length c.deref.result.now))
    c.in-Err.is c.append.ensures.full c.append.ensures.worn c.in-Err.ensures.refusals placed)))

pub returns-in-Ok-clause-ready : goal.returns-in-Ok-clause-ready
returns-in-Ok-clause-ready c = c.push_root-version.ensures.ready c.append.new.self c.append.ensures.ready
