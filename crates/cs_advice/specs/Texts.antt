-- What is said of each refusal, in a few words: what it is, and what the system said.
use Rattle.std.specs.Prelude.{ℕ, List, codes}
use Rattle.cs_refusal.specs.declared.refusals.Refusal.{Refusal}
use Rattle.cs_refusal.specs.declared.refusals.Refusal.TheVariants.{DeviceFault, UnknownNeed, OwnFamily, NotStaged, InFlight, OddLength, BadGeometry, OutOfMemory, BadDocument, NotNested, Uncovered, TooEarly, ChainBroken, ChainShort, BadMagic, BadDigest, BadLength, BadPadding, BadVersion, OutOfOrder, Misplaced, RootLost, Unreadable, Full, TooLarge, IndexFull, NotSweepable, StillLive, WornOut, Reserved, Halted, HistoryFull, NoRound, NotAStore, Unsettled, Occupied, NotEmpty}
use Rattle.cs_disk.specs.declared.fault.SystemFault.{SystemFault}
use Rattle.cs_disk.specs.declared.fault.SystemFault.TheVariants.{Folder, InUse, NoRoom, NotAllowed, NotThere, ReadOnly}
use Rattle.cs_disk.specs.declared.fault.SystemFault.TheVariants as fault

-- what a refusal is
abbrev pub meaning_text : Refusal → List ℕ
meaning_text DeviceFault = codes "the file can't be read or written"
meaning_text UnknownNeed = codes "a need was not staged"
meaning_text OwnFamily = codes "a version needs its own family"
meaning_text NotStaged = codes "the target was not staged"
meaning_text InFlight = codes "a round is out"
meaning_text OddLength = codes "the length of the file is no multiple of 4,096 bytes"
meaning_text BadGeometry = codes "the numbers of extents, pages and sections are out of range"
meaning_text OutOfMemory = codes "out of memory"
meaning_text BadDocument = codes "the text is no plan document"
meaning_text NotNested = codes "needs are lost from one version to the next"
meaning_text Uncovered = codes "the target is not covered"
meaning_text TooEarly = codes "a write comes before its needs"
meaning_text ChainBroken = codes "the chain is broken"
meaning_text ChainShort = codes "the chain is shorter than the plan"
meaning_text BadMagic = codes "a page does not begin as its format does"
meaning_text BadDigest = codes "the digest of a page is wrong"
meaning_text BadLength = codes "a length or a count on a page is out of range"
meaning_text BadPadding = codes "the end of a page is not zero"
meaning_text BadVersion = codes "a version on a page is wrong"
meaning_text OutOfOrder = codes "the identifiers on a page are out of order"
meaning_text Misplaced = codes "another frame lies there"
meaning_text RootLost = codes "a newer root was lost"
meaning_text Unreadable = codes "a page that may be the newest can't be read"
meaning_text Full = codes "no extent has room"
meaning_text TooLarge = codes "the shard is too large for this store"
meaning_text IndexFull = codes "the index is full"
meaning_text NotSweepable = codes "the extent can't be swept"
meaning_text StillLive = codes "a live chunk lies on the extent"
meaning_text WornOut = codes "a number reached its end"
meaning_text Reserved = codes "no room is left but the store's reserve"
meaning_text Halted = codes "the store stopped after a failed write or flush"
meaning_text HistoryFull = codes "the history is full"
meaning_text NoRound = codes "there is no such round"
meaning_text NotAStore = codes "the file holds no store that opens"
meaning_text Unsettled = codes "the store is not at rest"
meaning_text Occupied = codes "the file holds a store, or what is left of one"
meaning_text NotEmpty = codes "the file is not empty"

-- why the system refused a call
abbrev pub system_text : SystemFault → List ℕ
system_text NotThere = codes "there is no such file"
system_text NotAllowed = codes "permission denied"
system_text Folder = codes "it is a folder"
system_text InUse = codes "another process has it open"
system_text NoRoom = codes "no room is left on the file system"
system_text ReadOnly = codes "it can only be read"
system_text fault.Failed = codes "an input or output error"
