-- What the device of a store has, and what its pages read as.
use Rattle.std.specs.Prelude.{◌≡◌, ◌<◌, ℕ, length}
use Rattle.cs_disk.specs.Disk.{Image, State as DiskState, page}
use Rattle.law_machine.specs.Device.{FramePage, Page, PageKind, RootPage, SectionPage, Shape}
use Rattle.law_machine.specs.Disk.{applied, page_writes}
use Rattle.law_machine.specs.Element.{log_of}
use Rattle.law_machine.specs.Events.{newest_page}
use Rattle.law_machine.specs.Formats.{Formats, image}
use Rattle.law_machine.specs.State.{State}

-- the image of what is persistent
abbrev pub persistent_image : Shape → Formats → State → ℕ → Page
persistent_image S F s = image S F s.world.persistent s.opened (log_of s.world.elements)

-- The disk's durable pages are those of what is persistent, and what isn't flushed are the writes of the round that were
-- issued, in order.
pub record IsDiskOf (S : Shape) (F : Formats) (s : State) (disk : DiskState) : Type 0 where
  pub durable : (p : ℕ) → p < length disk.durable → page disk.durable p ≡ persistent_image S F s p
  pub volatile : disk.volatile ≡ page_writes S F s.issued

-- the device reads as what is persistent, with the writes of the round that were issued
abbrev pub IsDeviceOf : Shape → Formats → State → Image → Type 0
IsDeviceOf S F s held = (p : ℕ) → p < length held → page held p ≡ applied (persistent_image S F s) (page_writes S F s.issued) p

-- what a page of this kind reads as: one of frames as it was staged last, another as the device has it
abbrev pub read_by : PageKind → (staged device : Page) → Page
read_by FramePage staged device = staged
read_by RootPage staged device = device
read_by (SectionPage j) staged device = device

-- what each page reads as: one of frames as it was staged last, another as the device has it
abbrev pub pages_now : Shape → State → Image → ℕ → Page
pages_now S s held p = read_by (S.kind p) (newest_page s p) (page held p)
