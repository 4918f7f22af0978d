-- When each fault is answered, and the refusal that it is.
use Rattle.std.specs.Prelude.{◌≡◌, ◌≤◌, ◌⊎◌, List, length}
use Rattle.cs_deps.specs.declared.elements.Element.{Element}
use Rattle.cs_refusal.specs.declared.refusals.Refusal.{Refusal}
use Rattle.cs_refusal.specs.declared.refusals.Refusal.TheVariants as refusal
use Rattle.cs_deps.specs.Named.{Named}
use Rattle.cs_deps.specs.Pending.{Pending}
use Rattle.cs_deps.specs.Schedule.{Covers}
use Rattle.cs_deps.specs.Chain.{IsChainOf}
use Rattle.cs_check.specs.declared.faults.CheckFault.{CheckFault}
use Rattle.cs_check.specs.declared.faults.CheckFault.TheVariants.{OutOfMemory, BadDocument, NotNested, Uncovered, TooEarly, ChainBroken, ChainShort}
use Rattle.cs_check.specs.Listing.{IsWellFormed}
use Rattle.cs_check.specs.Tests.{IsNested, InTime}

-- the refusal of the same number and name
abbrev pub refusal_of : CheckFault → Refusal
refusal_of OutOfMemory = refusal.OutOfMemory
refusal_of BadDocument = refusal.BadDocument
refusal_of NotNested = refusal.NotNested
refusal_of Uncovered = refusal.Uncovered
refusal_of TooEarly = refusal.TooEarly
refusal_of ChainBroken = refusal.ChainBroken
refusal_of ChainShort = refusal.ChainShort

-- The fault's test is failed, and those before it are passed. No memory says nothing of the document.
abbrev pub FirstFailed : Pending → Named → List (List Element) → List Element → CheckFault → Type 0
FirstFailed g target rounds chain OutOfMemory = Unit {0}
FirstFailed g target rounds chain BadDocument = ¬ IsWellFormed g target rounds chain
FirstFailed g target rounds chain NotNested = IsWellFormed g target rounds chain × (¬ IsNested g)
FirstFailed g target rounds chain Uncovered = IsWellFormed g target rounds chain × IsNested g × (¬ Covers g rounds target)
FirstFailed g target rounds chain TooEarly = IsWellFormed g target rounds chain × IsNested g × Covers g rounds target × (¬ InTime g rounds)
FirstFailed g target rounds chain ChainBroken = IsWellFormed g target rounds chain × IsNested g × Covers g rounds target × InTime g rounds × (¬ IsChainOf g target chain)
FirstFailed g target rounds chain ChainShort = IsWellFormed g target rounds chain × IsNested g × Covers g rounds target × InTime g rounds × IsChainOf g target chain × (¬ (length rounds ≤ length chain))

-- No memory, or a bad document: then there is no such thing.
abbrev pub Blames : CheckFault → Type 0 → Type 0
Blames fault P = (fault ≡ OutOfMemory) ⊎ ((fault ≡ BadDocument) × (¬ P))
