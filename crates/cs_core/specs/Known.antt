-- Which lengths of chunks a core knows without reading, and what is true of them.
use Rattle.std.specs.Prelude.{◌≡◌, ◌⊎◌, ◌+◌, ◌<◌, ◌≤◌, ℕ, List, [], ◌∷◌, Option, None, Some, map}
use Rattle.std.specs.List.{AllByRecursion}
use Rattle.cs_chunk.specs.Lengths.{IsHeaderIn, header_fault_in, length_at}
use Rattle.cs_chunk.specs.Newest.{AreNewest}
use Rattle.cs_deps.specs.State.{NoneOn, State as GraphState}
use Rattle.cs_disk.specs.declared.disk.PageDisk.{Ghosts as PageDisk}
use Rattle.cs_disk.specs.Disk.{Image, seen}
use Rattle.cs_extent.specs.State.{State as ExtentsState, extents_of, shape}
use Rattle.cs_frame.specs.declared.frames.FrameKind.TheVariants.{Chunk}
use Rattle.cs_frame.specs.declared.locators.Locator.{Locator}
use Rattle.cs_frame.specs.Formats.{as_locator}
use Rattle.cs_frame.specs.Frames.{page_count}
use Rattle.law_machine.specs.Device.{Inside, Shape}
use Rattle.law_machine.specs.Element.{Locator as Place}
use Rattle.cs_core.specs.Lengths.{Row, noted_at}
use Rattle.cs_core.specs.Stored.{Stored}
use Rattle.cs_core.specs.Views.{IsCore, View}

-- a place is on a page that is given now: of the generation that its extent has, and below its pointer
pub record IsGiven (x : ExtentsState) (l : Locator) : Type 0 where
  pub inside : Inside (shape x) l.extent l.page
  pub generation : (extents_of x).generation l.extent ≡ l.generation
  pub below : l.page < (extents_of x).pointer l.extent

-- a frame of so many bytes that begins at the place lies in the extents
pub record FitsAt (S : Shape) (l : Locator) (count : ℕ) : Type 0 where
  pub inside : Inside S l.extent l.page
  pub fits : l.page + page_count count ≤ S.pages

-- What is noted of a place is right. Its generation isn't later than its extent's. If they are the same the page is given,
-- and the header there is the one of the chunk that the place means, and says so many bytes.
pub record IsRight (x : ExtentsState) (view : ℕ → List ℕ) (l : Locator) (count : ℕ) : Type 0 where
  pub not_later : l.generation ≤ (extents_of x).generation l.extent
  pub now : (extents_of x).generation l.extent ≡ l.generation → (l.page < (extents_of x).pointer l.extent) × IsHeaderIn x view Chunk l count

-- all that is noted fits
abbrev pub AreFitting : Shape → List Row → Type 0
AreFitting S lengths = (l : Locator) (count : ℕ) → noted_at lengths l ≡ Some count → FitsAt S l count

-- all that is noted is right, by what each page reads as
abbrev pub AreRight : ExtentsState → GraphState → Image → List Row → Type 0
AreRight x graph image lengths =
    (view : ℕ → List ℕ) → AreNewest graph image view → (l : Locator) (count : ℕ) → noted_at lengths l ≡ Some count → IsRight x view l count

-- the header at a place of a page that is given says so many bytes, whatever the device holds; and they fit
pub record IsSaidNow (x : ExtentsState) (graph : GraphState) (l : Locator) (count : ℕ) : Type 0 where
  pub given : IsGiven x l
  pub fits : l.page + page_count count ≤ (shape x).pages
  pub said : (image : Image) (view : ℕ → List ℕ) → AreNewest graph image view → IsHeaderIn x view Chunk l count

-- what is noted anew is what headers say that wait
abbrev pub NotesWhatWaits : ExtentsState → GraphState → (old new : List Row) → Type 0
NotesWhatWaits x graph old new = (l : Locator) (count : ℕ) → noted_at new l ≡ Some count → (noted_at old l ≡ Some count) ⊎ IsSaidNow x graph l count

-- What is noted fits, and where the disk is honest it is right.
pub record AreKnown {D : Type 0} (disks : PageDisk D) (s : Stored) (disk : D) (lengths : List Row) : Type 0 where
  pub fitting : AreFitting (shape s.extents) lengths
  pub right : disks.honest disk → AreRight s.extents s.graph (seen (disks.state disk)) lengths

-- What every core keeps, with the lengths that it knows.
pub record KeepsKnown {D : Type 0} (disks : PageDisk D) (v : View D) (lengths : List Row) : Type 0 where
  pub core : IsCore disks v
  pub known : AreKnown disks v.store v.disk lengths

-- A header is at a place: the place is on a page that is given now, and what the page reads as passes as the header of
-- the chunk that the place means.
pub record HasHeader (x : ExtentsState) (view : ℕ → List ℕ) (l : Locator) : Type 0 where
  pub given : IsGiven x l
  pub passes : header_fault_in x view Chunk l ≡ None

-- it is noted how many bytes the header at a place says
abbrev pub IsNotedAs : Shape → (view : ℕ → List ℕ) → List Row → Locator → Type 0
IsNotedAs S view lengths l = noted_at lengths l ≡ Some (length_at S view l)

-- if a header is at a place, and a write to its page waits, it is noted what it says
abbrev pub IsNotedIfWaits : ExtentsState → GraphState → (view : ℕ → List ℕ) → List Row → Locator → Type 0
IsNotedIfWaits x graph view lengths l =
    HasHeader x view l → IsNotedAs (shape x) view lengths l ⊎ NoneOn graph ((shape x).address l.extent l.page)

-- so it is at each of these places, whatever the device holds
abbrev pub AreNotedIfWaiting : ExtentsState → GraphState → List Row → List Locator → Type 0
AreNotedIfWaiting x graph lengths ls =
    (image : Image) (view : ℕ → List ℕ) → AreNewest graph image view → AllByRecursion (IsNotedIfWaits x graph view lengths) ls

-- what was noted as the header at a place says it is noted so still
abbrev pub StayNoted : ExtentsState → GraphState → (old new : List Row) → Type 0
StayNoted x graph old new = (image : Image) (view : ℕ → List ℕ) → AreNewest graph image view → (l : Locator) → HasHeader x view l
    → IsNotedAs (shape x) view old l → IsNotedAs (shape x) view new l

-- where the chunk that was moved last may lie: at the last copy's place, or if no copy is noted at a place of its shard
abbrev pub moved_to : (copied : Option Place) → (live : List Place) → List Locator
moved_to None live = map as_locator live
moved_to (Some l) live = as_locator l ∷ []
