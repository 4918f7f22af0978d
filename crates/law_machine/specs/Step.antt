-- One event, and a history of them.
use Rattle.std.specs.Prelude.{◌≡◌, ◌≢◌, ◌⊎◌, ◌+◌, ◌≤◌, ◌∷◌, ◌++◌, ℕ, true, false, List, None, []}
use Rattle.law_machine.specs.Apart.{NothingLeft, by_rule}
use Rattle.law_machine.specs.Device.{Shape}
use Rattle.law_machine.specs.Element.{Element, Root, roots_of}
use Rattle.law_machine.specs.Events.{Does, issued_one}
use Rattle.law_machine.specs.Formats.{Formats}
use Rattle.law_machine.specs.Grounds.{Refuses}
use Rattle.law_machine.specs.Index.{NothingLive}
use Rattle.law_machine.specs.Lists.{◌∈◌}
use Rattle.law_machine.specs.Refusal.{DeviceFault, Refusal}
use Rattle.law_machine.specs.State.{End, Event, Get, Issue, MoveOne, Refused, Reply, State, index_now, map_now}

module _ (S : Shape) (F : Formats) where
  -- the event has frames to read from the device
  abbrev pub Reading : State → Event → Type 0
  Reading s (Get id) = map_now s id ≢ None
  Reading s (MoveOne e) = (s.halted ≡ false) × (s.world.extents.swept e ≡ true)
      × by_rule S.apart (NothingLive (index_now s) e → ⊥) (NothingLeft s e → ⊥)
  Reading s event = ⊥

  -- the device fails in a write: the core is halted, and the write was added to the volatile ones or wasn't
  abbrev pub WriteFails : State → State → Type 0
  WriteFails s t = (t ≡ record s { halted = true })
      ⊎ ((m : Element) × (xs : List Element) × (ys : List Element) × (s.left ≡ xs ++ m ∷ ys)
      × (t ≡ record (issued_one S F s xs m ys) { halted = true }))

  -- one event. A refusal changes nothing, but for a device fault in Issue or End, which halts the core
  abbrev pub Step : State → Event → Reply → State → Type 0
  Step s Issue (Refused f) t = (Refuses S F s Issue f × (t ≡ s))
      ⊎ (((g : Refusal) → Refuses S F s Issue g → ⊥) × (f ≡ DeviceFault) × WriteFails s t)
  Step s End (Refused f) t = (Refuses S F s End f × (t ≡ s))
      ⊎ (((g : Refusal) → Refuses S F s End g → ⊥) × (f ≡ DeviceFault) × (t ≡ record s { halted = true }))
  Step s event (Refused f) t = (Refuses S F s event f ⊎ (Reading s event × (f ≡ DeviceFault))) × (t ≡ s)
  Step s event reply t = ((f : Refusal) → Refuses S F s event f → ⊥) × Does S F s event reply t

  -- these events, with these replies, lead from s to t
  abbrev pub History : State → List (Event × Reply) → State → Type 0
  History s [] t = t ≡ s
  History s (x ∷ xs) t = (mid : State) × Step s x.0 x.1 mid × History mid xs t

  -- command n depends on the first root that was staged after it
  abbrev pub DependsOn : State → ℕ → Root → Type 0
  DependsOn s n r = (r ∈ roots_of s.world.elements) × (s.count + n ≤ r.commands)
      × ((q : Root) → q ∈ roots_of s.world.elements → s.count + n ≤ q.commands → r.version ≤ q.version)
