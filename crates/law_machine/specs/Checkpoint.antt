-- A history that is kept from the last checkpoint on.
use Rattle.std.specs.Prelude.{◌≡◌, ◌⊎◌, ℕ, false, List, length, []}
use Rattle.law_machine.specs.Device.{Shape}
use Rattle.law_machine.specs.Formats.{Formats}
use Rattle.law_machine.specs.Round.{NothingWaits}
use Rattle.law_machine.specs.State.{Event, Reply, State}
use Rattle.law_machine.specs.Step.{History}

-- nothing waits, no round is out, the table is empty and no extent is being swept
pub record AtRest (s : State) : Type 0 where
  pub nothing_waits : NothingWaits s.world
  pub no_round : s.round_out ≡ false
  pub empty_table : s.table ≡ []
  pub no_sweep : (e : ℕ) → s.world.extents.swept e ≡ false

module _ (S : Shape) (F : Formats) where
  -- so many events were replaced by the state that they led to, and the kept history goes on from there; where none
  -- were, from the state at open
  pub record LegalFrom (opened : State) (base : ℕ) (history : List (Event × Reply)) (now : State) : Type 0 where
    pub replaced_events : List (Event × Reply)
    pub replaced_count : length replaced_events ≡ base
    pub checkpoint : State
    pub before : History S F opened replaced_events checkpoint
    pub rested : (base ≡ 0) ⊎ AtRest checkpoint
    pub since : History S F checkpoint history now
