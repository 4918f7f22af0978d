-- What a check of a plan document prints.
use Rattle.std.specs.Prelude.{◌≡◌, ◌⊎◌, ℕ, List, Result, Ok, Err, Some, length}
use Rattle.std.specs.Str.{IsUtf8}
use Rattle.serde_json.specs.Data.{Data}
use Rattle.serde_json.specs.Read.{read}
use Rattle.cs_deps.specs.declared.elements.Element.{Element}
use Rattle.cs_deps.specs.Named.{Named}
use Rattle.cs_deps.specs.Pending.{Pending}
use Rattle.cs_deps.specs.Schedule.{IsSchedule, Respects, Covers, IsFewest}
use Rattle.cs_check.specs.Documents.{IsDocument, IsDocumentOf}
use Rattle.cs_check.specs.Faults.{FirstFailed, refusal_of}
use Rattle.cs_check.specs.Tests.{Passes}
use Rattle.cs_check.specs.declared.verdicts.Verdict.{Verdict}
use Rattle.cs_check.specs.declared.faults.CheckFault.{CheckFault}
use Rattle.cs_check.specs.declared.faults.CheckFault.TheVariants.{OutOfMemory, BadDocument, NotNested, Uncovered, TooEarly, ChainBroken, ChainShort}
use Rattle.cs_script.specs.Outputs.{optimal_line, refusal_line}

-- The bytes are the UTF-8 text of a document.
abbrev pub IsDocumentText : List ℕ → Type 0
IsDocumentText text = IsUtf8 text × ((d : Data) × (read text ≡ Some d) × IsDocument d)

-- The bytes are the UTF-8 text of a document that says this.
abbrev pub SaysPlan : List ℕ → Pending → Named → List (List Element) → List Element → Type 0
SaysPlan text g target rounds chain = IsUtf8 text × ((d : Data) × (letters : List ℕ) × (read text ≡ Some d) × IsDocumentOf d letters g target rounds chain)

-- All tests are passed: the plan covers the target with k flushes, a crash leaves a closed set, and no fewer will do.
pub record IsRight (g : Pending) (target : Named) (rounds : List (List Element)) (chain : List Element) (k : ℕ) : Type 0 where
  pub passes : Passes g target rounds chain
  pub schedule : IsSchedule g rounds
  pub covers : Covers g rounds target
  pub respects : Respects g rounds
  pub fewest : IsFewest g target rounds
  pub flushes : k ≡ length rounds

-- a document whose plan is right
abbrev pub IsOptimal : List ℕ → ℕ → Type 0
IsOptimal text k = (g : Pending) × (target : Named) × (rounds : List (List Element)) × (chain : List Element) × SaysPlan text g target rounds chain × IsRight g target rounds chain k

-- a document with a plan whose first failed test is that of this fault
abbrev pub Fails : List ℕ → CheckFault → Type 0
Fails text fault = (g : Pending) × (target : Named) × (rounds : List (List Element)) × (chain : List Element) × SaysPlan text g target rounds chain × FirstFailed g target rounds chain fault

-- why the bytes are refused: no memory says nothing of them
abbrev pub IsFaulty : List ℕ → CheckFault → Type 0
IsFaulty text OutOfMemory = Unit {0}
IsFaulty text BadDocument = ¬ IsDocumentText text
IsFaulty text NotNested = Fails text NotNested
IsFaulty text Uncovered = Fails text Uncovered
IsFaulty text TooEarly = Fails text TooEarly
IsFaulty text ChainBroken = Fails text ChainBroken
IsFaulty text ChainShort = Fails text ChainShort

-- the status and the line of what a check found
abbrev pub Reports : Result Verdict CheckFault → ℕ → List ℕ → Type 0
Reports (Ok verdict) status out = (status ≡ 0) × (out ≡ optimal_line verdict.flushes)
Reports (Err fault) status out = (status ≡ 1) × (out ≡ refusal_line (refusal_of fault))

-- the status and the line of a check
abbrev pub Checks : List ℕ → ℕ → List ℕ → Type 0
Checks text status out = ((k : ℕ) × IsOptimal text k × (status ≡ 0) × (out ≡ optimal_line k)) ⊎ ((fault : CheckFault) × IsFaulty text fault × (status ≡ 1) × (out ≡ refusal_line (refusal_of fault)))
