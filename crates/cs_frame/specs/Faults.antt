-- The number of each fault, tests made in order, and how a decoder's result says which failed first.
use Rattle.std.specs.Prelude.{◌≡◌, ◌≢◌, ◌↔◌, ℕ, MatchResult, Bool, List, [], ◌∷◌, Option, Some, None, Result, Ok, Err, if◌then◌else◌}
use Rattle.cs_frame.specs.declared.faults.FormatFault.{FormatFault}
use Rattle.cs_frame.specs.declared.faults.FormatFault.TheVariants.{BadGeometry, OutOfMemory, BadMagic, BadDigest, BadLength, BadPadding, BadVersion, OutOfOrder, Misplaced}

-- the number under which a fault is reported
abbrev pub fault_number : FormatFault → ℕ
fault_number BadGeometry = 7
fault_number OutOfMemory = 9
fault_number BadMagic = 20
fault_number BadDigest = 21
fault_number BadLength = 22
fault_number BadPadding = 23
fault_number BadVersion = 24
fault_number OutOfOrder = 25
fault_number Misplaced = 26

-- what a test finds: nothing where it passes, else this fault
abbrev pub unless : Bool → FormatFault → Option FormatFault
unless passes fault = if passes then None else Some fault

-- the first fault that tests made in this order find
abbrev pub first_fault : List (Option FormatFault) → Option FormatFault
first_fault [] = None
first_fault (None ∷ tests) = first_fault tests
first_fault (Some fault ∷ tests) = Some fault

-- the fault that a result has
abbrev pub fault_in : {T : Type 0} → Result T FormatFault → Option FormatFault
fault_in (Ok value) = None
fault_in (Err fault) = Some fault

-- it is a value of which this holds, unless memory ran out
abbrev pub OkUnlessMemory : {T : Type 0} → Result T FormatFault → (T → Type 0) → Type 0
OkUnlessMemory result holds = MatchResult result holds (λ fault. fault ≡ OutOfMemory)

-- beside memory that ran out it has exactly the fault that was found
abbrev pub HasFault : {T : Type 0} → Result T FormatFault → Option FormatFault → Type 0
HasFault result found = (fault : FormatFault) → fault ≢ OutOfMemory → ((result ≡ Err fault) ↔ (found ≡ Some fault))
