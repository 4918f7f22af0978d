use Rattle.std.proofs.Common.{◌∙◌, ◌<◌, Err, ap, inl, inr, map, subst, sym, ⊎_elim}
use Rattle.std.specs.List.{AllByRecursion}
use Rattle.cs_frame.specs.Locators.{KeepFormat}
use Rattle.cs_frame.specs.Runs.{IsRun}
use Rattle.cs_reader.specs.Loads.{index_at}
use Rattle.cs_index.specs.State.{newest_first}
use Rattle.law_machine.specs.Format.{Format}
use Rattle.law_machine.specs.Geometry.{weigh_in}
use Rattle.law_machine.specs.Index.{entries_of, named_weight}
use Rattle.cs_salvage.specs.Rescued.{most_taken}
use Rattle.cs_salvage.proofs.rescues.load_runs.Goals as goal

pub load-requires-clause-runs : goal.load-requires-clause-runs
load-requires-clause-runs c = subst (λ (f : Format). AllByRecursion (λ run. IsRun f (record { entries = run.entries })) c.args.runs.items) (sym (c.format.ensures.format ∙ c.geometry.ensures.format)) c.requires.runs

pub load-requires-clause-places : goal.load-requires-clause-places
load-requires-clause-places c = subst (λ (f : Format). KeepFormat f (map (λ run. run.place) c.args.runs.items)) (sym (c.format.ensures.format ∙ c.geometry.ensures.format)) c.requires.marks

pub returns-in-Ok-clause-loaded : goal.returns-in-Ok-clause-loaded
returns-in-Ok-clause-loaded c = c.in-Ok.ensures.loaded ∙ ap (λ (f : Format). index_at (newest_first c.args.runs.items) f most_taken) (c.format.ensures.format ∙ c.geometry.ensures.format)

pub returns-in-Err-clause-why : goal.returns-in-Err-clause-why
returns-in-Err-clause-why c = ⊎_elim (λ is. inr (
  is,
  subst (λ (f : Format). most_taken < named_weight (weigh_in f) (entries_of (newest_first c.args.runs.items))) (c.format.ensures.format ∙ c.geometry.ensures.format) (c.in-Err.ensures.full.0 (ap Err is)),
)) inl c.in-Err.ensures.refusals
