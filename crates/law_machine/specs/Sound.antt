-- What every event keeps, and what a crash may leave.
use Rattle.std.specs.Prelude.{◌≡◌, ◌≢◌, ◌⊎◌, ◌+◌, ◌-◌, ◌<◌, ◌≤◌, ◌++◌, ℕ, Bool, true, false, List, length, Some, None, []}
use Rattle.law_machine.specs.Apart.{any_swept}
use Rattle.law_machine.specs.Device.{Page, Shape}
use Rattle.law_machine.specs.Disk.{applied, kept_of, page_writes}
use Rattle.law_machine.specs.Element.{Copy, Element, Locator, Opening, Root, Run, log_of, roots_of}
use Rattle.law_machine.specs.Events.{IsFrontier, ReadsNow, newest_page}
use Rattle.law_machine.specs.Formats.{ChunkFrame, Formats, fault_for, image, limit_in, pages_from}
use Rattle.law_machine.specs.Index.{Gives, InBounds, NoneDamaged}
use Rattle.law_machine.specs.Distinct.{AreDistinct}
use Rattle.law_machine.specs.Lists.{◌∈◌}
use Rattle.law_machine.specs.Recovery.{Recovers, RecoversBut, RootGives}
use Rattle.law_machine.specs.Refusal.{Refusal}
use Rattle.law_machine.specs.Round.{IsMember}
use Rattle.law_machine.specs.Safe.{Safe, Settled}
use Rattle.law_machine.specs.State.{State, index_now, map_after, map_now}

module _ (S : Shape) (F : Formats) where
  -- what is known of the image at open, where extents are filled up: as these extents are, with these roots
  pub record IsFilledUp (opening : Opening) (pointer generation found : ℕ → ℕ) (roots : List Root) : Type 0 where
    -- no whole extent is frozen
    pub thawed : (e g : ℕ) → opening.frozen e S.pages g ≡ false
    -- the pages that were found in an extent are given, and only they are frozen
    pub given : (e : ℕ) → found e ≤ pointer e
    pub frozen : (e i : ℕ) → opening.frozen e i (generation e) ≡ true → i < found e
    -- a root that counts an extent as it was found counts all pages that were found
    pub counted : (r : Root) → r ∈ roots → (e i : ℕ) → opening.frozen e i (r.generations e) ≡ true → 0 < r.pointers e
        → i < r.pointers e
    -- a frame of no earlier generation may reach as far as it might at open
    pub limits : (l : Locator) → generation l.extent ≤ l.generation → opening.limit l ≡ limit_in S F found generation l

  -- a copy has what was copied, which wasn't damaged
  abbrev pub IsCopy : State → Copy → Type 0
  IsCopy s c = (payload : List ℕ) × ReadsNow S F s c.from ChunkFrame payload × ReadsNow S F s c.to ChunkFrame payload
      × (s.opening.damage c.from ≡ None)

  -- what every event keeps where chunks and runs lie apart
  pub record SoundApart (s : State) : Type 0 where
    -- an extent with a frozen page that wasn't reset since was found with pages
    pub found : (e i : ℕ) → s.opening.frozen e i (s.world.extents.generation e) ≡ true → 0 < s.world.extents.found e
    -- one extent is being swept at most
    pub one_sweep : (d e : ℕ) → s.world.extents.swept d ≡ true → s.world.extents.swept e ≡ true → d ≡ e
    -- while it is, its chunks and their copies stand
    pub copied : any_swept S s ≡ true → (c : Copy) → c ∈ s.copies
        → IsCopy s c × (s.world.extents.swept c.from.extent ≡ true)

  -- what every event keeps
  pub record Sound (s : State) : Type 0 where
    pub safe : Safe S (RootGives S F s.opening) s.opening.frozen s.opened s.world
    pub settled : (e : ℕ) → Settled S s.world e
    -- reading what was written last gives the map, by the index
    pub gives : Gives S F s.opening (newest_page s) s.world.extents.pointer s.world.extents.generation
        s.table s.runs (map_now s)
    -- each root was staged with the map after as many commands as it says
    pub maps : (r : Root) → r ∈ roots_of s.world.elements
        → (n : ℕ) × (n ≤ length s.commands) × (r.commands ≡ s.count + n) × (r.map ≡ map_after s.start s.commands n)
    -- where the table is empty the last root has all commands
    pub caught_up : s.table ≡ [] → (r : Root) → r ∈ roots_of s.world.elements → r.version ≡ s.world.root
        → r.commands ≡ s.count + length s.commands
    -- the members of the round that is out are those left and those issued
    pub left : (m : Element) → m ∈ s.left → IsMember S s.world m
    pub issued : (m : Element) → m ∈ s.issued → IsMember S s.world m
    pub complete : s.round_out ≡ true → (m : Element) → IsMember S s.world m → (m ∈ s.left) ⊎ (m ∈ s.issued)
    -- each of them is left or issued, and once
    pub once : AreDistinct (s.left ++ s.issued)
    -- where no round is out none is left or issued, and what is persistent is all that the round has
    pub idle : s.round_out ≡ false → (s.left ≡ []) × (s.issued ≡ []) × (s.world.round ≡ s.world.persistent)
    -- an extent that is being swept is there, and neither open nor empty
    pub swept : (e : ℕ) → s.world.extents.swept e ≡ true
        → (s.world.extents.open_extent ≢ Some e) × (0 < s.world.extents.pointer e) × (e < S.extents)
    -- where none is filled up, an extent with a frozen page that wasn't reset since is neither open nor empty
    pub frozen : S.fills ≡ false → (e i : ℕ) → s.opening.frozen e i (s.world.extents.generation e) ≡ true
        → (s.world.extents.open_extent ≢ Some e) × (0 < s.world.extents.pointer e)
    -- a chunk that is known as damaged is so in the image at open, where each page to which it may reach is frozen
    pub damaged : (l : Locator) (f : Refusal) → s.opening.damage l ≡ Some f → (l.page < s.opening.limit l)
        × ((i : ℕ) → i < s.opening.limit l → s.opening.frozen l.extent i l.generation ≡ true)
        × (fault_for S F ChunkFrame l.mark (pages_from S F s.opened l.extent l.page (s.opening.limit l - l.page)) ≡ Some f)
    pub shown : (l : Locator) → s.opening.pages l ≡ pages_from S F s.opened l.extent l.page (s.opening.limit l - l.page)
    -- there each frame may reach to the end of its extent
    pub unfilled : S.fills ≡ false → (l : Locator) → s.opening.limit l ≡ S.pages
    pub filled : S.fills ≡ true → IsFilledUp s.opening s.world.extents.pointer s.world.extents.generation
        s.world.extents.found (roots_of s.world.elements)
    pub apart : S.apart ≡ true → SoundApart s

  -- all numbers keep to their bounds, and each run can be spelled
  pub record Bounded (s : State) : Type 0 where
    pub bounds : InBounds S s.world.root (s.count + length s.commands) (length s.runs) (index_now s)
    pub runs_fit : (run : Run) → run ∈ s.runs → F.fits_run run.entries ≡ true
    pub written_fits : s.world.written ≤ S.greatest_number

  -- what a crash may leave now: the durable image with those of the issued writes that a mask keeps
  abbrev pub crashed : State → List Bool → ℕ → Page
  crashed s mask = applied (image S F s.world.persistent s.opened (log_of s.world.elements))
      (kept_of mask (page_writes S F s.issued))

  -- the image gives the map after the first n commands, and none of the frontier's is missing; in the image's own terms where no
  -- shard was damaged at open, else by what is known of the image at open
  abbrev pub GivesFirst : State → (ℕ → Page) → ℕ → Type 0
  GivesFirst s img n = (n ≤ length s.commands) × ((f : ℕ) → IsFrontier S F s f → f ≤ n)
      × RecoversBut S F (λ p g. s.opening) img (s.count + n) (map_after s.start s.commands n)
      × (NoneDamaged s.start → Recovers S F img (s.count + n) (map_after s.start s.commands n))

  -- a crash now leaves the map after some number of commands between the frontier and all of them
  abbrev pub LeavesPrefix : State → List Bool → Type 0
  LeavesPrefix s mask = (n : ℕ) × GivesFirst s (crashed s mask) n
