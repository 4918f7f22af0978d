-- What becomes of a store from the time that it was made: events, crashes, and openings of what they left.
use Rattle.std.specs.Prelude.{◌≡◌, ◌∷◌, ℕ, Bool, List, []}
use Rattle.law_machine.specs.Device.{Page, Shape}
use Rattle.law_machine.specs.Element.{Map}
use Rattle.law_machine.specs.Formats.{Formats}
use Rattle.law_machine.specs.Open.{opened_state}
use Rattle.law_machine.specs.Recovery.{IsNew, Recovers}
use Rattle.law_machine.specs.Sound.{crashed}
use Rattle.law_machine.specs.State.{Event, Reply, State}
use Rattle.law_machine.specs.Step.{Step}
use Rattle.law_room.specs.OfMachine.{NoneWorn, RunsFit}
use Rattle.law_room.specs.RootsOfMachine.{TellsPointers}

-- what may come: an event with its reply; or a crash, which keeps these of the issued writes, and an opening of what it left. A
-- program that ends and one that starts later are a crash and an opening too
pub data Act : Type 0 where
  Happens : (event : Event) (reply : Reply) → Act
  Crashes : (kept : List Bool) → Act

module _ (S : Shape) (F : Formats) where
  -- a store was made, and this is its state as it is opened for the first time
  abbrev pub IsMade : State → Type 0
  IsMade s = (img : ℕ → Page) × (n : ℕ) × (m : Map) × (gives : Recovers S F img n m) × IsNew S F img
      × (s ≡ opened_state S F img n m gives)

  -- the act leads from s to t
  abbrev pub Acts : State → Act → State → Type 0
  Acts s (Happens event reply) t = Step S F s event reply t
  Acts s (Crashes kept) t = (n : ℕ) × (m : Map) × (gives : Recovers S F (crashed S F s kept) n m)
      × (t ≡ opened_state S F (crashed S F s kept) n m gives)

  -- these acts lead from s to t one after another, and no generation is the greatest before or after any of them
  abbrev pub Lives : State → List Act → State → Type 0
  Lives s [] t = NoneWorn S s × (t ≡ s)
  Lives s (act ∷ acts) t = NoneWorn S s × (mid : State) × Acts s act mid × Lives mid acts t

  -- what is asked of a format so that no store is stuck: a section tells the pointers of its extents, and each run fits on an extent
  pub record IsFormatWithRoom : Type 0 where
    pub tells : TellsPointers S F
    pub fits : RunsFit S F
