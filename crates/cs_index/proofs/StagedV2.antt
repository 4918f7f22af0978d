-- What a Stage of format 2 comes to.
use Rattle.std.proofs.Common.{◌≡◌, ℕ, Bool, false, true, [], ap, drop}
use Rattle.std.specs.Prelude.{IfOk, OnErr, Result}
use Rattle.std.proofs.lemmas.Result.{IfOk-weaker}
use Rattle.cs_refusal.specs.declared.refusals.Refusal.{Refusal}
use Rattle.cs_deps.specs.State.{State as GraphState}
use Rattle.cs_extent.specs.State.{State as ExtentsState, shape}
use Rattle.law_machine.specs.Extents.{ForRun}
use Rattle.law_machine.specs.Index.{live_at, lookup}
use Rattle.cs_index.specs.Merges.{deletions_go, stage_takes}
use Rattle.cs_index.specs.Staged.{IsNewestStaged, IsPartStagedBy}
use Rattle.cs_index.specs.State.{State, index_of}
use Rattle.cs_index.proofs.Chosen.{either_way}
use Rattle.cs_index.proofs.Exact.{newest_staged, stays_too}
use Rattle.cs_index.proofs.Parts.{part_live, part_stays}

-- the table and the newest k runs became one, as many as a Stage takes
module _ (s : State) (x : ExtentsState) (k : ℕ) (go : Bool) (takes : k ≡ stage_takes (shape x) s) (goes : go ≡ deletions_go (shape x) s k) (g : GraphState) (commands : ℕ) (r : Result ℕ Refusal) (t : State) (y : ExtentsState) (h : GraphState)
    (staged : IfOk r (λ v. IsPartStagedBy false go k s x g ForRun v commands t y h)) where
  pub as_newest : IfOk r (λ v. IsNewestStaged (stage_takes (shape x) s) s x g v commands t y h)
  as_newest = IfOk-weaker r _ _ (λ v is. newest_staged s x k go takes goes g v commands t y h is) staged

  pub keeps_lookups : OnErr r (t ≡ s) → deletions_go (shape x) s (stage_takes (shape x) s) ≡ false → (id : ℕ) → lookup id (index_of t) ≡ lookup id (index_of s)
  keeps_lookups refused stay id =
      either_way r (λ v is. part_stays go k s x g ForRun v commands t y h is (stays_too (shape x) s k go takes goes stay) id) (λ same. ap (λ (u : State). lookup id (index_of u)) same) staged refused

  pub keeps_live : OnErr r (t ≡ s) → (go ≡ true → drop k s.runs ≡ []) → (id : ℕ) → live_at (index_of t) id ≡ live_at (index_of s) id
  keeps_live refused alone id =
      either_way r (λ v is. part_live go k s x g ForRun v commands t y h is alone id) (λ same. ap (λ (u : State). live_at (index_of u) id) same) staged refused
