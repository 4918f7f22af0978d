-- The number and the name of each refusal.
use Rattle.std.specs.Prelude.{ℕ, List, codes}
use Rattle.cs_refusal.specs.declared.refusals.Refusal.{Refusal}
use Rattle.cs_refusal.specs.declared.refusals.Refusal.TheVariants.{DeviceFault, UnknownNeed, OwnFamily, NotStaged, InFlight, OddLength, BadGeometry, OutOfMemory, BadDocument, NotNested, Uncovered, TooEarly, ChainBroken, ChainShort, BadMagic, BadDigest, BadLength, BadPadding, BadVersion, OutOfOrder, Misplaced, RootLost, Unreadable, Full, TooLarge, IndexFull, NotSweepable, StillLive, WornOut, Reserved, Halted, HistoryFull, NoRound, NotAStore, Unsettled, Occupied, NotEmpty}

-- the number that operators see
abbrev pub number_of : Refusal → ℕ
number_of DeviceFault = 1
number_of UnknownNeed = 2
number_of OwnFamily = 3
number_of NotStaged = 4
number_of InFlight = 5
number_of OddLength = 6
number_of BadGeometry = 7
number_of OutOfMemory = 9
number_of BadDocument = 10
number_of NotNested = 11
number_of Uncovered = 12
number_of TooEarly = 13
number_of ChainBroken = 14
number_of ChainShort = 15
number_of BadMagic = 20
number_of BadDigest = 21
number_of BadLength = 22
number_of BadPadding = 23
number_of BadVersion = 24
number_of OutOfOrder = 25
number_of Misplaced = 26
number_of RootLost = 27
number_of Unreadable = 29
number_of Full = 30
number_of TooLarge = 31
number_of IndexFull = 32
number_of NotSweepable = 33
number_of StillLive = 34
number_of WornOut = 35
number_of Reserved = 36
number_of Halted = 40
number_of HistoryFull = 41
number_of NoRound = 42
number_of NotAStore = 43
number_of Unsettled = 44
number_of Occupied = 45
number_of NotEmpty = 46

-- the name that operators see, in ASCII
abbrev pub name_of : Refusal → List ℕ
name_of DeviceFault = codes "DeviceFault"
name_of UnknownNeed = codes "UnknownNeed"
name_of OwnFamily = codes "OwnFamily"
name_of NotStaged = codes "NotStaged"
name_of InFlight = codes "InFlight"
name_of OddLength = codes "OddLength"
name_of BadGeometry = codes "BadGeometry"
name_of OutOfMemory = codes "OutOfMemory"
name_of BadDocument = codes "BadDocument"
name_of NotNested = codes "NotNested"
name_of Uncovered = codes "Uncovered"
name_of TooEarly = codes "TooEarly"
name_of ChainBroken = codes "ChainBroken"
name_of ChainShort = codes "ChainShort"
name_of BadMagic = codes "BadMagic"
name_of BadDigest = codes "BadDigest"
name_of BadLength = codes "BadLength"
name_of BadPadding = codes "BadPadding"
name_of BadVersion = codes "BadVersion"
name_of OutOfOrder = codes "OutOfOrder"
name_of Misplaced = codes "Misplaced"
name_of RootLost = codes "RootLost"
name_of Unreadable = codes "Unreadable"
name_of Full = codes "Full"
name_of TooLarge = codes "TooLarge"
name_of IndexFull = codes "IndexFull"
name_of NotSweepable = codes "NotSweepable"
name_of StillLive = codes "StillLive"
name_of WornOut = codes "WornOut"
name_of Reserved = codes "Reserved"
name_of Halted = codes "Halted"
name_of HistoryFull = codes "HistoryFull"
name_of NoRound = codes "NoRound"
name_of NotAStore = codes "NotAStore"
name_of Unsettled = codes "Unsettled"
name_of Occupied = codes "Occupied"
name_of NotEmpty = codes "NotEmpty"
