-- What is found of a document, and what is printed of it.
use Rattle.std.proofs.Common.{◌≡◌, ◌∙◌, ℕ, List, [], ◌++◌, Some, length, ap, subst, inl, inr}
use Rattle.std.specs.Prelude.{Option, Result, Ok, Err, IfOk, IfErr, IfSome}
use Rattle.std.specs.Io.KnownBytes.{Appends, Keeps}
use Rattle.cs_deps.specs.declared.elements.Element.{Element}
use Rattle.cs_deps.specs.Named.{Named}
use Rattle.cs_deps.specs.Pending.{Pending}
use Rattle.cs_deps.specs.Schedule.{IsSchedule, Respects, Covers, IsFewest}
use Rattle.cs_check.specs.declared.faults.CheckFault.{CheckFault}
use Rattle.cs_check.specs.declared.faults.CheckFault.TheVariants.{OutOfMemory, BadDocument, NotNested, Uncovered, TooEarly, ChainBroken, ChainShort}
use Rattle.cs_check.specs.declared.verdicts.Verdict.{Verdict}
use Rattle.cs_check.specs.Faults.{FirstFailed}
use Rattle.cs_check.specs.Listing.{IsWellFormed}
use Rattle.cs_check.specs.Tests.{Passes}
use Rattle.cs_script.specs.Checks.{Checks, IsFaulty, IsOptimal, Reports, SaysPlan}
use Rattle.cs_script.proofs.Appended.{appends_kept}

-- what a check of a document found
module _ (text : List ℕ) (g : Pending) (target : Named) (rounds : List (List Element)) (chain : List Element) (says : SaysPlan text g target rounds chain) where
  pub optimal : (found : Result Verdict CheckFault) → IfOk found (λ _. Passes g target rounds chain) → IfOk found (λ verdict. verdict.flushes ≡ length rounds) → IfOk found (λ _. IsSchedule g rounds) → IfOk found (λ _. Covers g rounds target)
      → IfOk found (λ _. Respects g rounds) → IfOk found (λ _. IsFewest g target rounds) → IfOk found (λ verdict. IsOptimal text verdict.flushes)
  optimal (Ok verdict) passes flushes schedule covers respects fewest = (g, target, rounds, chain, says, record { passes = passes; schedule = schedule; covers = covers; respects = respects; fewest = fewest; flushes = flushes })
  optimal (Err fault) passes flushes schedule covers respects fewest = tt

  faulty_of : IsWellFormed g target rounds chain → (fault : CheckFault) → FirstFailed g target rounds chain fault → IsFaulty text fault
  faulty_of well_formed OutOfMemory failed = tt
  faulty_of well_formed BadDocument failed = absurd (failed well_formed)
  faulty_of well_formed NotNested failed = (g, target, rounds, chain, says, failed)
  faulty_of well_formed Uncovered failed = (g, target, rounds, chain, says, failed)
  faulty_of well_formed TooEarly failed = (g, target, rounds, chain, says, failed)
  faulty_of well_formed ChainBroken failed = (g, target, rounds, chain, says, failed)
  faulty_of well_formed ChainShort failed = (g, target, rounds, chain, says, failed)

  pub faulty : (found : Result Verdict CheckFault) → IsWellFormed g target rounds chain → IfErr found (FirstFailed g target rounds chain) → IfErr found (IsFaulty text)
  faulty (Ok verdict) well_formed failed = tt
  faulty (Err fault) well_formed failed = faulty_of well_formed fault failed

checks : (text : List ℕ) (found : Result Verdict CheckFault) (status : ℕ) (out : List ℕ) → IfOk found (λ verdict. IsOptimal text verdict.flushes) → IfErr found (IsFaulty text) → Reports found status out → Checks text status out
checks text (Ok verdict) status out is_optimal is_faulty reports = inl (verdict.flushes, is_optimal, reports.0, reports.1)
checks text (Err fault) status out is_optimal is_faulty reports = inr (fault, is_faulty, reports.0, reports.1)

-- it is printed
pub reported : (text : List ℕ) (found : Result Verdict CheckFault) (status : ℕ) (before mid after : Option (List ℕ)) → IfOk found (λ verdict. IsOptimal text verdict.flushes) → IfErr found (IsFaulty text)
    → (out : List ℕ) × Reports found status out × Appends before mid out → Keeps mid after → (out : List ℕ) × Checks text status out × Appends before after out
reported text found status before mid after is_optimal is_faulty (out, reports, printed) kept = (out, checks text found status out is_optimal is_faulty reports, appends_kept before mid after out printed kept)

-- all was read
pub all_read : (left : Option (List ℕ)) (text none now : List ℕ) → left ≡ Some text → none ≡ [] → IfSome left (λ xs. now ≡ none ++ xs) → now ≡ text
all_read left text none now is empty gave = subst (λ (o : Option (List ℕ)). IfSome o (λ xs. now ≡ none ++ xs)) is gave ∙ ap (λ l. l ++ text) empty
