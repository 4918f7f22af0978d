-- A history as contracts see it.
use Rattle.std.specs.Prelude.{◌++◌, ℕ, List, []}
use Rattle.cs_core.specs.declared.events.Event.{Event}
use Rattle.cs_core.specs.declared.events.Reply.{Reply}
use Rattle.cs_core.specs.declared.histories.Before.{Before, Nothing, Then'}

-- All events with their replies, the first one first; how many of them, from the first on, were replaced; and for how
-- many more there is room.
pub record Recorded : Type 0 where
  pub all : List (Event × Reply)
  pub base : ℕ
  pub room : ℕ

-- the events that were replaced, the first one first
abbrev pub events_before : Before → List (Event × Reply)
events_before Nothing = []
events_before (Then' _ before events) = events_before before ++ events.value.items
