-- What was read once more, elsewhere in memory.
use Rattle.std.proofs.Common.{◌≡◌, ◌∙◌, ℕ, List, Option, None, Ok, Err, inl, inr, subst, sym}
use Rattle.std.specs.Prelude.{IfErr, IfOk, MatchResult, Result}
use Rattle.cs_chunk.specs.Reads.{AnswersFault, IsNoAnswer, IsReadRefusal}
use Rattle.cs_refusal.specs.declared.refusals.Refusal.{Refusal}
use Rattle.cs_refusal.specs.declared.refusals.Refusal.TheVariants.{OutOfMemory}
use Rattle.cs_frame.specs.declared.faults.FormatFault.{FormatFault}

module _ {V : Type 0} (frame : List ℕ) (items : V → List ℕ) where
  -- what is true of a payload is true of its copy
  pub copied_ok : (P : List ℕ → Type 0) (result : Result V Refusal) → P frame → IfOk result (λ v. items v ≡ frame) → IfOk result (λ v. P (items v))
  copied_ok P (Ok v) there same = subst P (sym same) there
  copied_ok P (Err r) there same = tt

  pub copied_read : (payload : List ℕ) (result : Result V Refusal) → frame ≡ payload → IfOk result (λ v. items v ≡ frame) → IfErr result (λ r. r ≡ OutOfMemory) → MatchResult result (λ v. items v ≡ payload) IsNoAnswer
  copied_read payload (Ok v) is same memory = same ∙ is
  copied_read payload (Err r) is same memory = inr memory

pub copied_answers : {V : Type 0} (found : Option FormatFault) (result : Result V Refusal) → found ≡ None → IfErr result (λ r. r ≡ OutOfMemory) → AnswersFault found result
copied_answers found (Ok v) none memory = none
copied_answers found (Err r) none memory = inl (inr memory)

pub copied_refusal : {V : Type 0} (result : Result V Refusal) → IfErr result (λ r. r ≡ OutOfMemory) → IfErr result IsReadRefusal
copied_refusal (Ok v) memory = tt
copied_refusal (Err r) memory = inl (inr memory)
