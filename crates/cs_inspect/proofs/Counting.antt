-- How many damages are named 1, and by how much the count of failures rose.
use Rattle.std.proofs.Common.{◌≡◌, ◌∙◌, ◌⊎◌, inl, inr, ⊎_elim, ℕ, ◌+◌, ◌≤◌, List, [], ◌∷◌, ◌++◌, Err, Result, refl, sym, ap, arith}
use Rattle.cs_chunk.specs.Reads.{IsCaused}
use Rattle.cs_refusal.specs.declared.refusals.Refusal.{Refusal}
use Rattle.cs_refusal.specs.declared.refusals.Refusal.TheVariants.{DeviceFault}
use Rattle.cs_inspect.proofs.Risen.{risen_both, risen_one, risen_so, risen_still}
use Rattle.cs_inspect.specs.Failures.{RisesBy}
use Rattle.cs_inspect.specs.declared.scrubs.Damage.{Damage}
use Rattle.cs_inspect.specs.Scrubs.{device_faults, failed_reads, refusal_in}

-- ---- how many

plus : (a b c d : ℕ) → b ≡ c + d → a + b ≡ a + c + d
plus a b c d e = omega (arith, e)

faults_both : (ds es : List Damage) → device_faults (ds ++ es) ≡ device_faults ds + device_faults es
faults_both [] es = omega arith
faults_both (d ∷ ds) es = plus (failed_reads (refusal_in d)) (device_faults (ds ++ es)) (device_faults ds) (device_faults es) (faults_both ds es)

faults_last : (ds : List Damage) (d : Damage) → device_faults (ds ++ d ∷ []) ≡ device_faults ds + failed_reads (refusal_in d)
faults_last ds d = faults_both ds (d ∷ []) ∙ alone (device_faults ds) (failed_reads (refusal_in d))
  where
    alone : (a b : ℕ) → a + (b + 0) ≡ a + b
    alone a b = omega arith

-- of a refusal it is none, or it is 1
either_way : (r : Refusal) → (failed_reads r ≡ 0) ⊎ ((failed_reads r ≤ 1) × (r ≡ DeviceFault))
either_way DeviceFault = inr (omega arith, refl)
either_way r = inl refl

-- ---- by how much

pub counted_both : (first mid last : ℕ) (ds es : List Damage) → RisesBy (device_faults ds) first mid → RisesBy (device_faults es) mid last → RisesBy (device_faults (ds ++ es)) first last
counted_both first mid last ds es one two =
    risen_so (device_faults ds + device_faults es) (device_faults (ds ++ es)) first last (faults_both ds es) (risen_both (device_faults ds) (device_faults es) first mid last one two)

-- one damage more, found by a read
pub counted_more : {T : Type 0} (first before after : ℕ) (read : Result T Refusal) (ds es : List Damage) (d : Damage) (r : Refusal) → RisesBy (device_faults ds) first before → IsCaused before after read → read ≡ Err r
    → refusal_in d ≡ r → es ≡ ds ++ d ∷ [] → RisesBy (device_faults es) first after
counted_more first before after read ds es d r rose one is why pushed =
    risen_so (device_faults ds + failed_reads (refusal_in d)) (device_faults es) first after (ap device_faults pushed ∙ faults_last ds d) (⊎_elim
    (λ (none : failed_reads (refusal_in d) ≡ 0). risen_still (device_faults ds) (failed_reads (refusal_in d)) first before after none one.later rose)
    (λ (failed : (failed_reads (refusal_in d) ≤ 1) × (refusal_in d ≡ DeviceFault)).
    risen_one (device_faults ds) (failed_reads (refusal_in d)) first before after failed.0 (one.failed (is ∙ ap (λ (q : Refusal). Err q) (sym why ∙ failed.1))) rose)
    (either_way (refusal_in d)))

-- none more
pub counted_still : (first before after : ℕ) (ds es : List Damage) → before ≤ after → RisesBy (device_faults ds) first before → es ≡ ds → RisesBy (device_faults es) first after
counted_still first before after ds es le rose same =
    risen_so (device_faults ds + 0) (device_faults es) first after (ap device_faults same ∙ none (device_faults ds)) (risen_still (device_faults ds) 0 first before after refl le rose)
  where
    none : (a : ℕ) → a ≡ a + 0
    none a = omega arith
