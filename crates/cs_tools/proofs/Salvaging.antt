-- What is salvaged of a device, and what is told of it.
use Rattle.std.proofs.Common.{◌≡◌, ◌≢◌, ◌∙◌, ◌⊎◌, ◌&&◌, ◌<◌, ◌≤◌, ◌+◌, ℕ, Bool, true, List, [], ◌∷◌, ◌++◌, get_or, length, suc, take, inl, inr, sym, subst, arith}
use Rattle.std.specs.Prelude.{All, Contains, Err, IfOk, MatchOption, None, Ok, Option, Result, Some, min}
use Rattle.std.specs.declared.alloc.AllocError.{AllocError}
use Rattle.std.specs.Io.KnownBytes.{Appends}
use Rattle.std.specs.List.{AllByRecursion, AllZip, list_all}
use Rattle.cs_refusal.specs.Refusals.{number_of}
use Rattle.cs_refusal.specs.declared.refusals.Refusal.{Refusal}
use Rattle.cs_refusal.specs.declared.refusals.Refusal.TheVariants as refusal
use Rattle.cs_disk.specs.Disk.{HasCause, Image, Rises, State, seen}
use Rattle.cs_disk.specs.Reads.{OnlyReads}
use Rattle.cs_disk.specs.declared.disk.PageDisk.{Ghosts as PageDisk}
use Rattle.cs_disk.specs.Faults.{disk_fault_number}
use Rattle.cs_disk.specs.declared.fault.DiskFault.{DiskFault}
use Rattle.cs_disk.specs.declared.fault.DiskFault.TheVariants as fault
use Rattle.cs_frame.specs.declared.faults.FormatFault.{FormatFault}
use Rattle.cs_frame.specs.declared.faults.FormatFault.TheVariants.{OutOfMemory}
use Rattle.cs_frame.specs.declared.formats.FormatNumber.TheVariants.{Four}
use Rattle.cs_frame.specs.declared.superblocks.Superblock.{Superblock}
use Rattle.cs_frame.specs.FormatNumbers.{number_in}
use Rattle.cs_frame.specs.Geometries.{Dimensions}
use Rattle.cs_frame.specs.Superblocks.{SpellsSuperblock}
use Rattle.cs_mount.specs.StorePairs.{pages_of}
use Rattle.law_machine.specs.Format.{Format}
use Rattle.cs_salvage.proofs.Countings.{one_count}
use Rattle.cs_salvage.proofs.Pages.{lies_there}
use Rattle.cs_salvage.specs.Namings.{AreCounted}
use Rattle.cs_salvage.specs.declared.namings.Naming.{Naming}
use Rattle.cs_salvage.specs.declared.namings.Naming.TheVariants.{AsItIs}
use Rattle.cs_salvage.specs.Missing.{AreMissing}
use Rattle.cs_salvage.specs.Parts.{AreParts, IsPart}
use Rattle.cs_salvage.specs.Passed.{from_on, without}
use Rattle.cs_salvage.specs.Shards.{AreAllOf, AreNewest}
use Rattle.cs_salvage.specs.declared.parts.Part.{Part}
use Rattle.cs_salvage.specs.declared.searches.Sought.{Sought}
use Rattle.cs_salvage.specs.declared.whole_shards.WholeShard.{WholeShard}
use Rattle.cs_tools.specs.Exports.{IsScript, Shard, is_whole, piece_lines, shard_line}
use Rattle.cs_tools.specs.Salvages.{AreToldOf, IsMeantBy, IsInDoubt, IsMeantSalvage, IsSalvaged, IsSure, IsToldOf, IsWholeScan, IsWrittenOut, MeansSalvage, SaysFirst, Salvages, Stands, dimensions_in}
use Rattle.cs_advice.specs.declared.outcomes.Outcome.{Outcome}
use Rattle.cs_advice.specs.declared.outcomes.Outcome.TheVariants.{Damaged, Done}
use Rattle.cs_tools.specs.declared.salvages.Named.{Named}
use Rattle.cs_tools.specs.declared.salvages.Salvaged.{Salvaged}
use Rattle.cs_tools.proofs.Retelling.{rises_around}
use Rattle.cs_tools.proofs.Exporting.{ArePrinted, IsPrintedUpTo, Widens, all_at, piece_of, piece_printed, shard_printed}

-- ---- the parts of what was salvaged stand on the device

module _ (sought : Sought) (image : Image) (parts : List Part) (sound : (part : Part) → Contains parts part → (payload : List ℕ) × IsPart sought image part payload) where
  parts_stand : (pieces : List Part) → All (Contains parts) pieces → (payloads : List (List ℕ)) × AllZip (IsPart sought image) pieces payloads
  parts_stand [] there = ([], tt)
  parts_stand (p ∷ ps) there =
      let one = sound p (there 0 p (omega arith)) in
      let others = parts_stand ps (λ i d lt. there (suc i) d (omega (arith, lt))) in
      (one.0 ∷ others.0, (one.1, others.1))

  shards_stand : (shards : List WholeShard) → All (λ (shard : WholeShard). AreAllOf parts shard.put shard.parts.items) shards → AllByRecursion (Stands sought image) shards
  shards_stand [] whole = tt
  shards_stand (s ∷ ss) whole =
      let one = whole 0 s (omega arith) in
      (parts_stand s.parts.items one.there, shards_stand ss (λ i d lt. whole (suc i) d (omega (arith, lt))))

-- what stands without some pages stands
pub all_stand : (image : Image) (found : Salvaged) → IsSalvaged image found → AllByRecursion (Stands found.sought image) found.shards.items
all_stand image found is =
    shards_stand found.sought image is.parts
    (λ part there. let one = is.all.sound part there in (one.0, (lies_there found.sought image found.from_page found.unreadable.items part one.0 one.1).0))
    found.shards.items is.shards.whole

-- what parts spell, without the pages of these scans
pub salvaged_of : (image : Image) (found : Salvaged) (sought : Sought) (first : ℕ) (passed : List ℕ) (parts : List Part)
    → found.sought ≡ sought → found.from_page ≡ first → found.unreadable.items ≡ passed → AreParts sought (without passed (from_on first image)) parts
    → AreNewest parts found.shards.items → AreMissing parts found.missing.items → IsSalvaged image found
salvaged_of image found sought first passed parts same from unread all shards missing = record {
  parts = parts;
  all = subst (λ (x : Sought). AreParts x (without found.unreadable.items (from_on found.from_page image)) parts) (sym same)
      (subst (λ (xs : List ℕ). AreParts sought (without xs (from_on found.from_page image)) parts) (sym unread)
      (subst (λ (n : ℕ). AreParts sought (without passed (from_on n image)) parts) (sym from) all));
  shards = shards;
  missing = missing;
}

-- the same of what may be refused
module _ (result : Result Salvaged AllocError) where
  pub salvaged_if : (image : Image) (sought : Sought) (first : ℕ) (passed : List ℕ) (parts : List Part)
      → IfOk result (λ found. found.sought ≡ sought) → IfOk result (λ found. found.from_page ≡ first) → IfOk result (λ found. found.unreadable.items ≡ passed)
      → AreParts sought (without passed (from_on first image)) parts
      → IfOk result (λ found. AreNewest parts found.shards.items) → IfOk result (λ found. AreMissing parts found.missing.items) → IfOk result (IsSalvaged image)
  salvaged_if image sought first passed parts = go result
    where
      go : (r : Result Salvaged AllocError) → IfOk r (λ found. found.sought ≡ sought) → IfOk r (λ found. found.from_page ≡ first) → IfOk r (λ found. found.unreadable.items ≡ passed)
          → AreParts sought (without passed (from_on first image)) parts
          → IfOk r (λ found. AreNewest parts found.shards.items) → IfOk r (λ found. AreMissing parts found.missing.items) → IfOk r (IsSalvaged image)
      go (Ok found) same from unread all shards missing = salvaged_of image found sought first passed parts same from unread all shards missing
      go (Err e) same from unread all shards missing = tt

  pub unread_if : (P : List ℕ → Type 0) (passed : List ℕ) → IfOk result (λ found. found.unreadable.items ≡ passed) → P passed → IfOk result (λ found. P found.unreadable.items)
  unread_if P passed = go result
    where
      go : (r : Result Salvaged AllocError) → IfOk r (λ found. found.unreadable.items ≡ passed) → P passed → IfOk r (λ found. P found.unreadable.items)
      go (Ok found) unread is = subst P (sym unread) is
      go (Err e) unread is = tt

-- ---- what is read of a disk after other reads

pub read_before : {D : Type 0} (disks : PageDisk D) (old mid : D) (P : ℕ → Image → Type 0) → OnlyReads disks old mid → disks.honest old
    → P (disks.page_count mid) (seen (disks.state mid)) → P (disks.page_count old) (seen (disks.state old))
read_before disks old mid P reads honest is =
    subst (λ (n : ℕ). P n (seen (disks.state old))) reads.pages (subst (λ (s : State). P (disks.page_count mid) (seen s)) (reads.same honest) is)

-- what is so whatever was found
pub whatever : {T E : Type 0} (P : Type 0) (r : Result T E) → P → IfOk r (λ _. P)
whatever P (Ok x) so = so
whatever P (Err e) so = tt

-- two stores were found
pub are_two : {X : Type 0} (both : X) (said : Option X) → Some both ≡ said → said ≢ None
are_two both said is none = let clash : Some both ≡ None = is ∙ none in absurd (cc clash)

-- the dimensions that a section says are those that its page spells
pub says_first : (bytes : List ℕ) (it : Superblock) (g : Dimensions) → number_in it.format ≡ Four
    → SpellsSuperblock bytes it.format it.version it.recorded it.extent_count it.pages it.sections it.section it.extents.items
    → g ≡ dimensions_in it → it.section ≡ 0 → SaysFirst bytes g
says_first bytes it g number spelled is first =
    subst (SaysFirst bytes) (sym is)
    (number, (it.version, it.recorded, it.extents.items, subst (λ (n : ℕ). SpellsSuperblock bytes it.format it.version it.recorded it.extent_count it.pages it.sections n it.extents.items) first spelled))

-- what a page spells is what was read of it
pub read_first : (it : Superblock) (g : Dimensions) → (it.format ≡ g.format) × (it.extent_count ≡ g.extents) × (it.pages ≡ g.pages) × (it.sections ≡ g.sections) → dimensions_in it ≡ g
read_first it g h = λ i. record { format = h.0 i; extents = h.1 i; pages = h.2 i; sections = h.3 i }

pub cut_said : (bytes : List ℕ) (it : Superblock) (pages : ℕ) (found : Option Dimensions) → number_in it.format ≡ Four
    → SpellsSuperblock bytes it.format it.version it.recorded it.extent_count it.pages it.sections it.section it.extents.items
    → ((format : Format) (version recorded extents size sections section : ℕ) (written : List (ℕ × ℕ)) → number_in format ≡ Four
    → SpellsSuperblock bytes format version recorded extents size sections section written
    → (it.format ≡ format) × (it.version ≡ version) × (it.recorded ≡ recorded) × (it.extent_count ≡ extents)
    × (it.pages ≡ size) × (it.sections ≡ sections) × (it.section ≡ section) × (it.extents.items ≡ written))
    → MatchOption found (it.section ≡ 0 → pages_of (dimensions_in it) ≢ pages → ⊥) (λ g. (g ≡ dimensions_in it) × (it.section ≡ 0) × (pages_of g ≢ pages))
    → MatchOption found ((g : Dimensions) → SaysFirst bytes g → pages_of g ≢ pages → ⊥) (λ g. SaysFirst bytes g × (pages_of g ≢ pages))
cut_said bytes it pages (Some g) number spelled read h = (says_first bytes it g number spelled h.0 h.1, h.2)
cut_said bytes it pages None number spelled read none = λ g says other.
    let same = read g.format says.1.0 says.1.1 g.extents g.pages g.sections 0 says.1.2 says.0 says.1.3 in
    none same.6 (subst (λ (d : Dimensions). pages_of d ≢ pages) (sym (read_first it g (same.0, same.3, same.4, same.5))) other)

pub cut_not : (bytes : List ℕ) (pages : ℕ) (fault : FormatFault) (r : Result (Option Dimensions) DiskFault)
    → ((format : Format) (version recorded extents size sections section : ℕ) (written : List (ℕ × ℕ)) → number_in format ≡ Four
    → SpellsSuperblock bytes format version recorded extents size sections section written → fault ≡ OutOfMemory)
    → IfOk r (λ found. (found ≡ None) × (fault ≢ OutOfMemory))
    → IfOk r (λ found. MatchOption found ((g : Dimensions) → SaysFirst bytes g → pages_of g ≢ pages → ⊥) (λ g. SaysFirst bytes g × (pages_of g ≢ pages)))
cut_not bytes pages fault (Ok found) read is =
    subst (λ (o : Option Dimensions). MatchOption o ((g : Dimensions) → SaysFirst bytes g → pages_of g ≢ pages → ⊥) (λ g. SaysFirst bytes g × (pages_of g ≢ pages))) (sym is.0)
    (λ g says other. is.1 (read g.format says.1.0 says.1.1 g.extents g.pages g.sections 0 says.1.2 says.0 says.1.3))
cut_not bytes pages fault (Err e) read is = tt

-- ---- whether the index has just these

pub as_many : (xs : List Naming) (n m : ℕ) → AreCounted AsItIs xs n → n ≡ m → AreCounted AsItIs xs m
as_many xs n m is same = subst (AreCounted AsItIs xs) same is

pub not_as_many : (xs : List Naming) (n m : ℕ) → AreCounted AsItIs xs n → n ≢ m → AreCounted AsItIs xs m → ⊥
not_as_many xs n m is apart also = apart (one_count AsItIs xs n m is also)

-- ---- what is told of a shard

-- it isn't the device's where memory was wanting
pub caused : {T : Type 0} (x y : ℕ) (f : DiskFault) (r : Refusal) (result : Result T DiskFault) → result ≡ Err f → number_of r ≡ disk_fault_number f → HasCause x y result → r ≡ refusal.DeviceFault → Rises x y
caused x y fault.DeviceFault r result is number cause device = cause.failed is
caused x y fault.OutOfMemory r result is number cause device = grind arith

-- the refusal of a fault
is_fault : (r : Refusal) → number_of r ≡ 1 → r ≡ refusal.DeviceFault
is_fault r is = grind arith

pub why_not : {T : Type 0} (x y : ℕ) (f : DiskFault) (r : Refusal) (result : Result T DiskFault) → result ≡ Err f → number_of r ≡ disk_fault_number f → HasCause x y result → ((r ≡ refusal.DeviceFault) × Rises x y) ⊎ (r ≡ refusal.OutOfMemory)
why_not x y fault.DeviceFault r result is number cause = inl (is_fault r number, cause.failed is)
why_not x y fault.OutOfMemory r result is number cause = grind arith

-- it isn't that no store is there
pub not_a_store : {T : Type 0} (f : DiskFault) (r : Refusal) → number_of r ≡ disk_fault_number f → ◌≡◌ {A = Result T Refusal} (Err r) (Err refusal.NotAStore) → ⊥
not_a_store f r number is = let same : r ≡ refusal.NotAStore = cc is in other f (subst (λ (x : Refusal). number_of x ≡ disk_fault_number f) same number)
  where
    other : (f : DiskFault) → 43 ≡ disk_fault_number f → ⊥
    other fault.DeviceFault is = absurd (omega (arith, is))
    other fault.OutOfMemory is = absurd (omega (arith, is))

pub told_wider : (sought : Sought) (image : Image) → Widens (IsToldOf sought image)
told_wider sought image x y z u whole (id, Ok bytes) le le' told = told
told_wider sought image x y z u whole (id, Err r) le le' (is, inl (device, rise)) = (is, inl (device, omega (arith, rise, le, le')))
told_wider sought image x y z u whole (id, Err r) le le' (is, inr memory) = (is, inr memory)

-- one shard more, of a disk that holds what it held
pub shard_told : (sought : Sought) (x y z : ℕ) (old new : State) (shards : List WholeShard) (i : ℕ) (it : WholeShard) (whole read : Bool) (a b c : Option (List ℕ)) → x ≤ y → y ≤ z → new ≡ old → i < length shards → it ≡ get_or shards i it
    → AllByRecursion (Stands sought (seen old)) shards → ArePrinted (IsToldOf sought (seen old) x y) (take i shards) whole a b
    → (Stands sought (seen new) it → (told : Shard) × IsToldOf sought (seen new) y z it told × (read ≡ is_whole told) × Appends b c (shard_line told))
    → ArePrinted (IsToldOf sought (seen old) x z) (take (i + 1) shards) (whole && read) a c
shard_told sought x y z old new shards i it whole read a b c le le' same lt at stand so_far line =
    let Line = λ (s : State) (shard : WholeShard). (told : Shard) × IsToldOf sought (seen s) y z shard told × (read ≡ is_whole told) × Appends b c (shard_line told) in
    let stands : Stands sought (seen old) it = subst (Stands sought (seen old)) (sym at) (all_at (Stands sought (seen old)) shards i it lt stand) in
    shard_printed (IsToldOf sought (seen old)) (told_wider sought (seen old)) x y z shards i it whole read a b c le le' lt so_far
    (subst (Line old) at (subst (λ (s : State). Stands sought (seen s) it → Line s it) same line stands))

-- and one piece more
pub piece_told : (sought : Sought) (x y z : ℕ) (old new : State) (size : ℕ) (shards rest piece left : List WholeShard) (whole read : Bool) (a b c : Option (List ℕ)) → x ≤ y → y ≤ z → new ≡ old → size ≡ 1000
    → AllByRecursion (Stands sought (seen old)) shards → IsPrintedUpTo (IsToldOf sought (seen old) x y) shards rest whole a b → rest ≡ piece ++ left → length piece ≡ min size (length rest) → 0 < length rest
    → (AllByRecursion (Stands sought (seen new)) piece → (told : List Shard) × AreToldOf sought (seen new) y z piece told × (read ≡ list_all is_whole told) × Appends b c (piece_lines told))
    → IsPrintedUpTo (IsToldOf sought (seen old) x z) shards left (whole && read) a c
piece_told sought x y z old new size shards rest piece left whole read a b c le le' same is stand so_far begins taken some lines =
    piece_printed (IsToldOf sought (seen old)) (told_wider sought (seen old)) x y z size shards rest piece left whole read a b c le le' is so_far begins taken some
    (subst (λ (s : State). AllByRecursion (Stands sought (seen s)) piece → (told : List Shard) × AreToldOf sought (seen s) y z piece told × (read ≡ list_all is_whole told) × Appends b c (piece_lines told)) same lines
    (piece_of (Stands sought (seen old)) (IsToldOf sought (seen old) x y) shards rest piece left whole a b so_far begins stand))

-- ---- how an export ends

pub written_out : (image : Image) (found : Salvaged) (x y : ℕ) (a b : Option (List ℕ)) (whole : Bool)
    → ((shards : List Shard) × AreToldOf found.sought image x y found.shards.items shards × (whole ≡ list_all is_whole shards) × ((text : List ℕ) × IsScript shards text × Appends a b text)) → IsWrittenOut image found x y a b whole
written_out image found x y a b whole h = record { shards = h.0; told = h.1; whole_is = h.2; text = h.3.0; script = h.3.1; written = h.3.2 }

-- how it ended, by what was found
abbrev pub EndsBy : Salvaged → Option Named → (whole : Bool) → Outcome → Type 0
EndsBy found named whole o =
    ((o ≡ Done) × (whole ≡ true) × (found.shards.items ≢ []) × (found.missing.items ≡ []) × IsWholeScan found × IsSure named)
    ⊎ ((o ≡ Damaged) × IsInDoubt found named whole)

pub salvages : (image : Image) (found : Salvaged) (named : Option Named) (x y : ℕ) (a b : Option (List ℕ)) (whole : Bool) (o : Outcome)
    → IsWrittenOut image found x y a b whole → EndsBy found named whole o → Salvages image found named x y a b o
salvages image found named x y a b whole o h (inl done) =
    subst (Salvages image found named x y a b) (sym done.0) (subst (IsWrittenOut image found x y a b) done.1 h, done.2, done.3, done.4, done.5)
salvages image found named x y a b whole o h (inr damaged) = subst (Salvages image found named x y a b) (sym damaged.0) (whole, h, damaged.1)

-- whatever the disk did
pub means_whole : (found : Salvaged) (x y : ℕ) (a b : Option (List ℕ)) (whole : Bool)
    → ((shards : List Shard) × AllZip (IsMeantBy found.sought x y) found.shards.items shards × (whole ≡ list_all is_whole shards) × ((text : List ℕ) × IsScript shards text × Appends a b text)) → IsMeantSalvage found x y a b whole
means_whole found x y a b whole h = record { shards = h.0; told = h.1; whole_is = h.2; text = h.3.0; script = h.3.1; written = h.3.2 }

pub means_salvage : (found : Salvaged) (named : Option Named) (x y : ℕ) (a b : Option (List ℕ)) (whole : Bool) (o : Outcome)
    → IsMeantSalvage found x y a b whole → EndsBy found named whole o → MeansSalvage found named x y a b o
means_salvage found named x y a b whole o h (inl done) = subst (MeansSalvage found named x y a b) (sym done.0) (subst (IsMeantSalvage found x y a b) done.1 h, done.2, done.3, done.4, done.5)
means_salvage found named x y a b whole o h (inr damaged) = subst (MeansSalvage found named x y a b) (sym damaged.0) (whole, h, damaged.1)

-- ---- one shard or piece more, whatever the disk did

by_wider : (sought : Sought) → Widens (IsMeantBy sought)
by_wider sought x y z u whole (id, Ok bytes) le le' told = told
by_wider sought x y z u whole (id, Err r) le le' told = (told.0, λ device. rises_around x y z u le le' (told.1 device))

pub shard_meant : (sought : Sought) (x y z : ℕ) → x ≤ y → y ≤ z → (shards : List WholeShard) (i : ℕ) (it : WholeShard) (whole read : Bool) (a b c : Option (List ℕ)) → i < length shards → it ≡ get_or shards i it
    → ArePrinted (IsMeantBy sought x y) (take i shards) whole a b
    → ((told : Shard) × IsMeantBy sought y z it told × (read ≡ is_whole told) × Appends b c (shard_line told))
    → ArePrinted (IsMeantBy sought x z) (take (i + 1) shards) (whole && read) a c
shard_meant sought x y z le le' shards i it whole read a b c lt at so_far line =
    shard_printed (IsMeantBy sought) (by_wider sought) x y z shards i it whole read a b c le le' lt so_far
    (subst (λ (shard : WholeShard). (told : Shard) × IsMeantBy sought y z shard told × (read ≡ is_whole told) × Appends b c (shard_line told)) at line)

pub piece_meant : (sought : Sought) (x y z : ℕ) → x ≤ y → y ≤ z → (size : ℕ) (shards rest piece left : List WholeShard) (whole read : Bool) (a b c : Option (List ℕ)) → size ≡ 1000
    → IsPrintedUpTo (IsMeantBy sought x y) shards rest whole a b → rest ≡ piece ++ left → length piece ≡ min size (length rest) → 0 < length rest
    → ((told : List Shard) × AllZip (IsMeantBy sought y z) piece told × (read ≡ list_all is_whole told) × Appends b c (piece_lines told))
    → IsPrintedUpTo (IsMeantBy sought x z) shards left (whole && read) a c
piece_meant sought x y z le le' size shards rest piece left whole read a b c is so_far begins taken some lines =
    piece_printed (IsMeantBy sought) (by_wider sought) x y z size shards rest piece left whole read a b c le le' is so_far begins taken some lines
