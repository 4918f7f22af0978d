-- What a store that is read is refused for, and its cause.
use Rattle.std.proofs.Common.{◌≡◌, ◌⊎◌, ℕ, Result, Ok, Err, IfErr, ⊎_elim}
use Rattle.cs_chunk.specs.Reads.{IsCaused}
use Rattle.cs_refusal.specs.declared.refusals.Refusal.{Refusal}
use Rattle.cs_refusal.specs.declared.refusals.Refusal.TheVariants.{NotAStore, OutOfMemory}

-- what is made of what was read asks nothing of the device
pub caused_loaded : {T U : Type 0} (a b : ℕ) (Why : Type 0) (read : Result U Refusal) (r : Result T Refusal) → IsCaused a b read → IfErr r (λ f. (f ≡ OutOfMemory) ⊎ ((f ≡ NotAStore) × Why)) → IsCaused a b r
caused_loaded a b Why read (Ok t) caused why = record { later = caused.later; failed = λ is. absurd (cc is) }
caused_loaded a b Why read (Err f) caused why = record {
  later = caused.later;
  failed = λ is. ⊎_elim (λ (memory : f ≡ OutOfMemory). absurd (cc (is, memory))) (λ (none : (f ≡ NotAStore) × Why). absurd (let no_store : f ≡ NotAStore = none.0 in cc (is, no_store))) why;
}
