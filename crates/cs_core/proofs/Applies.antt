-- What a store serves is what its core applies.
use Rattle.std.proofs.Common.{◌≡◌, ℕ, List, [], ◌∷◌, ◌++◌, refl, sym, subst}
use Rattle.cs_disk.specs.Disk.{Image, State as DiskState, page}
use Rattle.cs_extent.specs.State.{shape}
use Rattle.cs_frame.specs.Formats.{formats_of}
use Rattle.law_machine.specs.Device.{Shape}
use Rattle.law_machine.specs.Formats.{Formats}
use Rattle.law_machine.specs.Open.{opened_state}
use Rattle.law_machine.specs.State.{Event, Reply, State}
use Rattle.law_machine.specs.Step.{History, Step}
use Rattle.law_refinement.specs.Devices.{IsDiskOf}
use Rattle.cs_core.specs.declared.events.Event.{Event as Asked}
use Rattle.cs_core.specs.declared.events.Reply.{Reply as Told}
use Rattle.cs_core.specs.Meanings.{Says, event_of}
use Rattle.cs_core.specs.Stored.{Stored, but_for_room}
use Rattle.cs_core.specs.Views.{AreSaid, IsIn, IsReached, Serves}
use Rattle.cs_core.proofs.Going.{same_state}

module _ (S : Shape) (F : Formats) where
  pub history_grown : (s : State) (xs : List (Event × Reply)) (u : State) (event : Event) (reply : Reply) (t : State) → History S F s xs u → Step S F u event reply t → History S F s (xs ++ (event, reply) ∷ []) t
  history_grown s [] u event reply t same step = (t, subst (λ (z : State). Step S F z event reply t) same step, refl)
  history_grown s (x ∷ xs) u event reply t (mid, first, more) step = (mid, first, history_grown mid xs u event reply t more step)

  pub said_grown : (xs : List (Asked × Told)) (ys : List (Event × Reply)) (event : Asked) (reply : Told) (m : Reply) → AreSaid S F xs ys → Says S F reply m → AreSaid S F (xs ++ (event, reply) ∷ []) (ys ++ (event_of event, m) ∷ [])
  said_grown [] [] event reply m said says = ((refl, says), tt)
  said_grown (x ∷ xs) (y ∷ ys) event reply m (first, more) says = (first, said_grown xs ys event reply m more says)
  said_grown [] (y ∷ ys) event reply m said says = absurd said
  said_grown (x ∷ xs) [] event reply m said says = absurd said

  pub reached_more : (opened : Image) (history : List (Asked × Told)) (event : Asked) (reply : Told) (m : Reply) (u t : State) → IsReached S F opened history u → Says S F reply m → Step S F u (event_of event) m t
      → IsReached S F opened (history ++ (event, reply) ∷ []) t
  reached_more opened history event reply m u t was says step = record {
    count = was.count;
    start = was.start;
    gives = was.gives;
    events = was.events ++ (event_of event, m) ∷ [];
    said = said_grown history was.events event reply m was.said says;
    legal = history_grown (opened_state S F (page opened) was.count was.start was.gives) was.events u (event_of event) m t was.legal step;
  }

-- a core goes on by what its store serves
pub goes : {D : Type 0} (state : D → DiskState) (v w : Stored) (disk after : D) (opened : Image) (found : ℕ × ℕ) (history : List (Asked × Told)) (base base2 limit limit2 : ℕ) (event : Asked) (reply : Told)
    → shape w.extents ≡ shape v.extents → Serves v (state disk) event reply w (state after) → (s : State)
    → IsIn state (record { disk = disk; opened = opened; found = found; store = but_for_room v; history = history; base = base; limit = limit }) s
    → (m : Reply) × (t : State) × Says (shape v.extents) (formats_of (shape v.extents)) reply m
    × Step (shape v.extents) (formats_of (shape v.extents)) s (event_of event) m t
    × IsIn state (record { disk = after; opened = opened; found = found; store = but_for_room w; history = history ++ (event, reply) ∷ []; base = base2; limit = limit2 }) t
unfolding Serves
goes state v w disk after opened found history base base2 limit limit2 event reply same serves s was =
    let d = serves s (same_state (but_for_room v) v s was.store refl) was.disk in (
      d.0,
      d.1,
      d.2,
      d.3,
      record {
        store = same_state w (but_for_room w) d.1 d.4 refl;
        disk = subst (λ (S : Shape). IsDiskOf S (formats_of S) d.1 (state after)) (sym same) d.5;
        reached = subst (λ (S : Shape). IsReached S (formats_of S) opened (history ++ (event, reply) ∷ []) d.1) (sym same)
            (reached_more (shape v.extents) (formats_of (shape v.extents)) opened history event reply d.0 s d.1 was.reached d.2 d.3);
      },
    )
