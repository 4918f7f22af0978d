-- Calls of a core are a history of the machine.
use Rattle.std.proofs.Common.{◌≡◌, ◌⊎◌, inl, inr, ⊎_elim, ℕ, List, [], ◌∷◌, ◌++◌, refl, sym, ap, ◌∙◌, subst}
use Rattle.cs_refusal.specs.declared.refusals.Refusal.TheVariants.{HistoryFull}
use Rattle.cs_disk.specs.declared.disk.PageDisk.{Ghosts as PageDisk}
use Rattle.cs_disk.specs.Disk.{Image, State as DiskState}
use Rattle.cs_extent.specs.State.{shape}
use Rattle.cs_frame.specs.Formats.{formats_of}
use Rattle.law_machine.specs.Device.{Shape}
use Rattle.law_machine.specs.Formats.{Formats}
use Rattle.law_machine.specs.Lists.{◌∈◌}
use Rattle.law_machine.specs.State as model
use Rattle.law_machine.specs.Step.{History, Step}
use Rattle.law_refinement.specs.Devices.{IsDiskOf}
use Rattle.cs_core.specs.declared.events.Event.{Event}
use Rattle.cs_core.specs.declared.events.Reply.{Reply}
use Rattle.cs_core.specs.declared.events.Reply.TheVariants.{Refused}
use Rattle.cs_core.specs.Checkpoints.{Replaces}
use Rattle.cs_core.specs.Meanings.{Says, event_of}
use Rattle.cs_core.specs.States.{IsStateOf}
use Rattle.cs_core.specs.Stored.{Stored}
use Rattle.cs_core.specs.Views.{Applies, IsIn, IsReached, IsStep, IsUntouched, View}
use Rattle.law_room_in_store.specs.Sweeps.{AreMade, Asks, Call, IsMade, Rests}

module _ {D : Type 0} (disks : PageDisk D) (S : Shape) where
  abbrev F : Formats
  F = formats_of S

  -- a core in a state of a store of this shape, on an honest disk
  pub record IsAt (v : View D) (s : model.State) : Type 0 where
    pub same : shape v.store.extents ≡ S
    pub honest : disks.honest v.disk
    pub is_in : IsIn disks.state v s

  -- the machine made a step, to a state that the core is in
  pub record IsStepTo (s : model.State) (event : Event) (reply : Reply) (w : View D) : Type 0 where
    pub told : model.Reply
    pub then_in : model.State
    pub says : Says S F reply told
    pub step : Step S F s (event_of event) told then_in
    pub here : IsAt w then_in

  stepped : (v w : View D) (event : Event) (reply : Reply) (s : model.State) → IsAt v s → (disks.honest v.disk → disks.honest w.disk)
      → IsStep disks v event reply w → IsStepTo s event reply w
  stepped v w event reply s at stays step = let d = step.step at.honest s at.is_in in record {
    told = d.0;
    then_in = d.1;
    says = subst (λ (T : Shape). Says T (formats_of T) reply d.0) at.same d.2;
    step = subst (λ (T : Shape). Step T (formats_of T) s (event_of event) d.0 d.1) at.same d.3;
    here = record { same = step.same_shape ∙ at.same; honest = stays at.honest; is_in = d.4 };
  }

  -- an event that wasn't refused for want of history
  pub answered : (v w : View D) (event : Event) (reply : Reply) (s : model.State) → IsAt v s
      → (disks.honest v.disk → disks.honest w.disk) → (reply ≡ Refused HistoryFull → ⊥) → Applies disks v event reply w
      → IsStepTo s event reply w
  answered v w event reply s at stays other (inl full) = absurd (other full.reply_is)
  answered v w event reply s at stays other (inr step) = stepped v w event reply s at stays step

  untouched_in : (v w : View D) (s : model.State) → disks.honest v.disk → IsUntouched disks v w → IsIn disks.state v s
      → IsIn disks.state w s
  untouched_in v w s honest same is = record {
    store = subst (λ (u : Stored). IsStateOf u s) (sym same.store) is.store;
    disk = subst (λ (u : Stored). IsDiskOf (shape u.extents) (formats_of (shape u.extents)) s (disks.state w.disk)) (sym same.store)
        (subst (λ (d : DiskState). IsDiskOf (shape v.store.extents) (formats_of (shape v.store.extents)) s d)
        (sym (same.disk honest)) is.disk);
    reached = subst (λ (u : Stored). IsReached (shape u.extents) (formats_of (shape u.extents)) w.opened w.history s) (sym same.store)
        (subst (λ (i : Image). IsReached (shape v.store.extents) (formats_of (shape v.store.extents)) i w.history s) (sym same.opened)
        (subst (λ (h : List (Event × Reply)). IsReached (shape v.store.extents) (formats_of (shape v.store.extents)) v.opened h s)
        (sym same.history) is.reached));
  }

  rested : (v w : View D) (s : model.State) → IsAt v s → (disks.honest v.disk → disks.honest w.disk)
      → IsUntouched disks v w ⊎ ((n : ℕ) × Replaces v n w) → IsAt w s
  rested v w s at stays (inl same) = record {
    same = ap (λ (u : Stored). shape u.extents) same.store ∙ at.same;
    honest = stays at.honest;
    is_in = untouched_in v w s at.honest same at.is_in;
  }
  rested v w s at stays (inr (n, replaces)) = subst (λ (u : View D). IsAt u s) (sym replaces.1) (record {
    same = at.same;
    honest = at.honest;
    is_in = record { store = at.is_in.store; disk = at.is_in.disk; reached = at.is_in.reached };
  })

  -- what is so of each call is so, in the machine's words, of each event
  abbrev pub Translates : Call → (model.Event × model.Reply → Type 0) → Type 0
  Translates (Asks event reply) Q = (m : model.Reply) → Says S F reply m → Q (event_of event, m)
  Translates Rests Q = Unit {0}

  -- a history of the machine led to a state that the core is in
  pub record Leads (Q : model.Event × model.Reply → Type 0) (s : model.State) (w : View D) : Type 0 where
    pub then_in : model.State
    pub events : List (model.Event × model.Reply)
    pub run : History S F s events then_in
    pub all : (x : model.Event × model.Reply) → x ∈ events → Q x
    pub here : IsAt w then_in

  module _ (Q : model.Event × model.Reply → Type 0) where
    nothing_leads : (w : View D) (s : model.State) → IsAt w s → Leads Q s w
    nothing_leads w s at = record { then_in = s; events = []; run = refl; all = λ x none. absurd none; here = at }

    one_leads : (w : View D) (event : Event) (reply : Reply) (s : model.State) → Translates (Asks event reply) Q
        → IsStepTo s event reply w → Leads Q s w
    one_leads w event reply s holds step = record {
      then_in = step.then_in;
      events = (event_of event, step.told) ∷ [];
      run = (step.then_in, step.step, refl);
      all = λ x there. ⊎_elim (λ (is : x ≡ (event_of event, step.told)). subst Q (sym is) (holds step.told step.says))
          (λ none. absurd none) there;
      here = step.here;
    }

    call_leads : (v w : View D) (c : Call) (s : model.State) → IsAt v s → (disks.honest v.disk → disks.honest w.disk)
        → Translates c Q → IsMade disks v c w → Leads Q s w
    call_leads v w (Asks event reply) s at stays holds (inl full) =
        nothing_leads w s (subst (λ (u : View D). IsAt u s) (sym full.same) at)
    call_leads v w (Asks event reply) s at stays holds (inr step) =
        one_leads w event reply s holds (stepped v w event reply s at stays step)
    call_leads v w Rests s at stays holds rests = nothing_leads w s (rested v w s at stays rests)

    more_leads : (s : model.State) (mid w : View D) (first : Leads Q s mid) → Leads Q first.then_in w → Leads Q s w
    more_leads s mid w first rest = record {
      then_in = rest.then_in;
      events = first.events ++ rest.events;
      run = both first.events s first.run;
      all = either first.events first.all;
      here = rest.here;
    }
      where
        both : (xs : List (model.Event × model.Reply)) (t : model.State) → History S F t xs first.then_in
            → History S F t (xs ++ rest.events) rest.then_in
        both [] t run = subst (λ (u : model.State). History S F u rest.events rest.then_in) run rest.run
        both (x ∷ xs) t (u, step, more) = (u, step, both xs u more)

        either : (xs : List (model.Event × model.Reply)) → ((x : model.Event × model.Reply) → x ∈ xs → Q x)
            → (x : model.Event × model.Reply) → x ∈ xs ++ rest.events → Q x
        either [] here x there = rest.all x there
        either (y ∷ xs) here x (inl is) = here x (inl is)
        either (y ∷ xs) here x (inr there) = either xs (λ z has. here z (inr has)) x there

    -- so do calls one after another
    pub calls_lead : (cs : List Call) (v w : View D) (s : model.State) → IsAt v s → ((c : Call) → c ∈ cs → Translates c Q)
        → AreMade disks v cs w → Leads Q s w
    calls_lead [] v w s at holds is = nothing_leads w s (subst (λ (u : View D). IsAt u s) (sym is) at)
    calls_lead (c ∷ cs) v w s at holds (mid, made, stays, more) =
        let first = call_leads v mid c s at stays (holds c (inl refl)) made in
        more_leads s mid w first (calls_lead cs mid w first.then_in first.here (λ d there. holds d (inr there)) more)

  -- calls in two parts
  pub split : (cs ds : List Call) (v w : View D) → AreMade disks v (cs ++ ds) w → (mid : View D) × AreMade disks v cs mid
      × AreMade disks mid ds w
  split [] ds v w made = (v, refl, made)
  split (c ∷ cs) ds v w (next, one, stays, more) = let rest = split cs ds next w more in
      (rest.0, (next, one, stays, rest.1), rest.2)
