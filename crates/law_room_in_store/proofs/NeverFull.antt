-- What is refused for want of a place, in histories, and by calls that drive a core.
use Rattle.std.proofs.Common.{◌≡◌, ◌⊎◌, inl, inr, ℕ, Bool, true, false, List, [], ◌∷◌, ◌++◌, Option, Some, None, nat_lt, if◌then◌else◌, length, refl, sym, ap, ◌∙◌, subst}
use Rattle.cs_deps.specs.declared.elements.Element.{Element}
use Rattle.cs_refusal.specs.declared.refusals.Refusal.{Refusal}
use Rattle.cs_refusal.specs.declared.refusals.Refusal.TheVariants as refusal
use Rattle.cs_disk.specs.declared.disk.PageDisk.{Ghosts as PageDisk}
use Rattle.cs_disk.specs.Disk.{page}
use Rattle.cs_extent.specs.State.{shape}
use Rattle.cs_frame.specs.declared.identifiers.ShardId.{ShardId}
use Rattle.cs_frame.specs.Formats.{formats_of}
use Rattle.law_machine.specs.Device.{Shape}
use Rattle.law_machine.specs.Element.{Map}
use Rattle.law_machine.specs.Formats.{Formats}
use Rattle.law_machine.specs.Lists.{◌∈◌}
use Rattle.law_machine.specs.Open.{opened_state}
use Rattle.law_machine.specs.Recovery.{Recovers}
use Rattle.law_machine.specs.Refusal.{Refusal as Ground}
use Rattle.law_machine.specs.State as model
use Rattle.law_machine.specs.Step.{History, Step}
use Rattle.law_refinement.proofs.Shapes.{shape_of_store}
use Rattle.law_room.proofs.MachineSteps.{young_history}
use Rattle.law_room.specs.OfMachine.{IsPut, NoneWorn}
use Rattle.cs_core.proofs.Applies.{history_grown}
use Rattle.cs_core.specs.declared.events.Event.{Event}
use Rattle.cs_core.specs.declared.events.Event.TheVariants.{Abandon, Begin, BeginSweep, Delete, End, Issue, MoveOne, Put, Retire, Stage}
use Rattle.cs_core.specs.declared.events.Reply.{Reply}
use Rattle.cs_core.specs.declared.events.Reply.TheVariants.{Abandoned, NoneLive, Refused, Sweeping}
use Rattle.cs_core.specs.Meanings.{Says, event_of}
use Rattle.cs_core.specs.Views.{AreSaid, IsStep, View}
use Rattle.cs_writeback.proofs.Histories.{went_parts}
use Rattle.cs_writeback.specs.Histories.{IsRefused, IsStopped, Went}
use Rattle.cs_writeback.specs.Rounds.{IsStoppedAtDue, event_due, events_of_all, issues, step_event}
use Rattle.cs_writeback.specs.Sweeps.{Abandons, IsSweepRefused, StopsSweep, moves}
use Rattle.cs_writeback.specs.Syncs.{StopsInTurn, StopsSync}
use Rattle.law_room_in_store.proofs.CoreRoom.{ground_full, step_full, young_state}
use Rattle.law_room_in_store.proofs.HavingRoom.{format_is, store_has_room}
use Rattle.law_room_in_store.proofs.KeepingRoom.{IsRoomyState, reached_state, young_before}
use Rattle.law_room_in_store.proofs.Reached.{reached_full, refused_full}
use Rattle.law_room_in_store.proofs.Reaching.{Anything, Reaches, any_sync, reaches_events, reaches_finishes, reaches_goes, reaches_stays, reaches_stopped, reaches_then}
use Rattle.law_room_in_store.specs.Cores.{NoneWornIn}

-- the event is a put
abbrev pub Puts : Event → Type 0
Puts event = (id : ShardId) × (bytes : List ℕ) × (event ≡ Put id bytes)

told_put : (event : Event) → IsPut (event_of event) → Puts event
told_put (Put id bytes) is = (id, bytes, refl)
told_put event none = absurd none

-- no event of writeback, of a sync or of a sweep is one, and no deletion
pub due_no_put : (out : Option (List Element)) (issued : ℕ) → Puts (event_due out issued) → ⊥
due_no_put None issued (id, bytes, is) = let no : Begin ≡ Put id bytes = is in cc
due_no_put (Some round) issued (id, bytes, is) = by (nat_lt issued (length round)) is
  where
    by : (b : Bool) → (if b then Issue else End) ≡ Put id bytes → ⊥
    by true is = let no : Issue ≡ Put id bytes = is in cc
    by false is = let no : End ≡ Put id bytes = is in cc

pub stage_no_put : Puts Stage → ⊥
stage_no_put (id, bytes, is) = let no : Stage ≡ Put id bytes = is in cc

pub delete_no_put : (d : ShardId) → Puts (Delete d) → ⊥
delete_no_put d (id, bytes, is) = let no : Delete d ≡ Put id bytes = is in cc

pub begin_no_put : (e : ℕ) → Puts (BeginSweep e) → ⊥
begin_no_put e (id, bytes, is) = let no : BeginSweep e ≡ Put id bytes = is in cc

pub move_no_put : (e : ℕ) → Puts (MoveOne e) → ⊥
move_no_put e (id, bytes, is) = let no : MoveOne e ≡ Put id bytes = is in cc

pub retire_no_put : (e : ℕ) → Puts (Retire e) → ⊥
retire_no_put e (id, bytes, is) = let no : Retire e ≡ Put id bytes = is in cc

pub abandon_no_put : (e : ℕ) → Puts (Abandon e) → ⊥
abandon_no_put e (id, bytes, is) = let no : Abandon e ≡ Put id bytes = is in cc

-- ---- histories

module _ {D : Type 0} (disks : PageDisk D) (v : View D) (roomy : IsRoomyState disks v) (young : NoneWornIn v) where
  abbrev S : Shape
  S = shape v.store.extents

  abbrev F : Formats
  F = formats_of (shape v.store.extents)

  module _ (count : ℕ) (start : Map) (gives : Recovers S F (page v.opened) count start) (last : model.State) (last_young : NoneWorn S last) where
    -- an event of the history that is told as refused so
    told_full : (s mid : model.State) (before : List (model.Event × model.Reply))
        → History S F (opened_state S F (page v.opened) count start gives) before s → NoneWorn S s → (event : Event) (m : model.Reply)
        → Says S F (Refused refusal.Full) m → Step S F s (event_of event) m mid → Puts event
    told_full s mid before run here event m says step =
        told_put event (reached_full S (shape_of_store v.store.extents roomy.geometry) (format_is v.store.extents roomy.geometry)
        (store_has_room v.store.extents roomy.geometry) roomy.apart v.opened count start gives before s run roomy.room here
        (event_of event) (refused_full S F s mid (event_of event) (subst (λ (x : model.Reply). Step S F s (event_of event) x mid)
        (says.1 ∙ ap (λ (f : Ground). model.Refused f) (ground_full says.0 says.2)) step)))

    told_in : (history : List (Event × Reply)) (events before : List (model.Event × model.Reply)) (s : model.State)
        → AreSaid S F history events → History S F (opened_state S F (page v.opened) count start gives) before s
        → History S F s events last → (x : Event × Reply) → x ∈ history → x.1 ≡ Refused refusal.Full → Puts x.0
    told_in [] events before s said run rest x there full = absurd there
    told_in (h ∷ hs) [] before s said run rest x there full = absurd said
    told_in (h ∷ hs) (y ∷ ys) before s (first, more) run (mid, step, rest) x (inl is) full =
        let here : NoneWorn S s = young_history S F (shape_of_store v.store.extents roomy.geometry)
        (format_is v.store.extents roomy.geometry) roomy.apart s last (y ∷ ys) (mid, step, rest) last_young in
        subst (λ (z : Event × Reply). Puts z.0) (sym is)
        (told_full s mid before run here h.0 y.1
        (subst (λ (reply : Reply). Says S F reply y.1) (ap (λ (z : Event × Reply). z.1) (sym is) ∙ full) first.1)
        (subst (λ (e : model.Event). Step S F s e y.1 mid) first.0 step))
    told_in (h ∷ hs) (y ∷ ys) before s (first, more) run (mid, step, rest) x (inr there) full =
        told_in hs ys (before ++ (y.0, y.1) ∷ []) mid more
        (history_grown S F (opened_state S F (page v.opened) count start gives) before s y.0 y.1 mid run step) rest x there full

  -- nothing but a put is told so in a history
  pub history_full : (x : Event × Reply) → x ∈ v.history → x.1 ≡ Refused refusal.Full → Puts x.0
  history_full = let reached = roomy.legal.1.reached in
      told_in reached.count reached.start reached.gives roomy.legal.0
      (young_state disks v roomy.geometry roomy.apart roomy.legal.0 roomy.legal.1 young)
      v.history reached.events [] (opened_state S F (page v.opened) reached.count reached.start reached.gives) reached.said refl
      reached.legal

-- ---- calls

module _ {D : Type 0} (disks : PageDisk D) where
  last_full : (v w : View D) (event : Event) → IsRoomyState disks v → NoneWornIn w
      → Went disks v ((event, Refused refusal.Full) ∷ []) w → Puts event
  last_full v w event roomy young (before, after, stays, goes, then_stays) =
      let first = reached_state disks v before roomy (reaches_stays disks Anything v before stays) in
      let rest = reaches_then disks Anything before after w (reaches_goes disks Anything before after event (Refused refusal.Full) tt goes)
      (reaches_stays disks Anything after w then_stays) in
      step_full disks before first.geometry first.apart first.room (young_before disks before w first rest young)
      first.legal.0 first.legal.1 event after first.honest goes.step

  pub behind_full : (v w : View D) (event : Event) → IsRoomyState disks v → NoneWornIn v
      → IsStep disks v event (Refused refusal.Full) w → Puts event
  behind_full v w event roomy young step = step_full disks v roomy.geometry roomy.apart roomy.room young roomy.legal.0 roomy.legal.1 event w
      roomy.honest step

  -- an event that is refused so is a put
  pub stopped_full : (v w : View D) (done : List (Event × Reply)) (event : Event) → IsRoomyState disks v → NoneWornIn w
      → IsStopped disks v done event refusal.Full w → Puts event
  stopped_full v w done event roomy young stopped = go stopped.added stopped.went stopped.refused
    where
      go : (added : List (Event × Reply)) → Went disks v (done ++ added) w → IsRefused w event refusal.Full added → Puts event
      go added went (inl is) =
          let parts = went_parts disks done ((event, Refused refusal.Full) ∷ []) v w
          (subst (λ (xs : List (Event × Reply)). Went disks v (done ++ xs) w) is went) in
          last_full parts.0 w event (reached_state disks v parts.0 roomy (reaches_events disks done v parts.0 parts.1)) young parts.2
      go added went (inr (none, inl why)) = absurd (let no : refusal.Full ≡ refusal.OutOfMemory = why in cc)
      go added went (inr (none, inr why)) = absurd (let no : refusal.Full ≡ refusal.HistoryFull = why.0 in cc)

  -- ---- syncs

  pub due_full : (v w : View D) (done : List (Event × Reply)) → IsRoomyState disks v → NoneWornIn w
      → IsStoppedAtDue disks v done refusal.Full w → ⊥
  due_full v w done roomy young stops = due_no_put stops.asked.store.out stops.asked.store.issued
      (stopped_full stops.asked w [] (step_event stops.asked.store)
      (reached_state disks v stops.asked roomy (reaches_events disks done v stops.asked stops.went)) young stops.stopped)

  pub sync_full : (v w : View D) → IsRoomyState disks v → NoneWornIn w → StopsSync disks v refusal.Full w → ⊥
  sync_full v w roomy young (inl first) = due_full v w (issues first.1) roomy young first.2
  sync_full v w roomy young (inr later) = go later.stopped
    where
      go : ((later.turns ≡ []) × IsStopped disks later.ended [] Stage refusal.Full w)
          ⊎ StopsInTurn disks later.ended later.turns refusal.Full w → ⊥
      go (inl (none, stopped)) = stage_no_put (stopped_full later.ended w [] Stage
          (reached_state disks v later.ended roomy (reaches_finishes disks Anything any_sync v later.ended later.finished later.finishes)) young stopped)
      go (inr (reply, done, part, is_part, stops)) = due_full later.ended w ((Stage, reply) ∷ events_of_all later.turns ++ part)
          (reached_state disks v later.ended roomy (reaches_finishes disks Anything any_sync v later.ended later.finished later.finishes)) young stops

  -- ---- sweeps

  swept_full : (e : ℕ) (v mid : View D) → IsRoomyState disks v → NoneWornIn mid → StopsSweep disks e v mid refusal.Full → ⊥
  swept_full e v mid roomy young (moved, inl stopped) =
      move_no_put e (stopped_full v mid (moves e moved) (MoveOne e) roomy young stopped)
  swept_full e v mid roomy young (moved, inr stopped) =
      retire_no_put e (stopped_full v mid (moves e moved ++ (MoveOne e, NoneLive) ∷ []) (Retire e) roomy young stopped)

  stops_reach : (e : ℕ) (v mid : View D) (r : Refusal) → StopsSweep disks e v mid r → Reaches disks Anything v mid
  stops_reach e v mid r (moved, inl stopped) = reaches_stopped disks v mid (moves e moved) (MoveOne e) r stopped
  stops_reach e v mid r (moved, inr stopped) =
      reaches_stopped disks v mid (moves e moved ++ (MoveOne e, NoneLive) ∷ []) (Retire e) r stopped

  -- what is told where a sweep is abandoned is what refused it, or want of memory
  abandons_reach : (e : ℕ) (mid w : View D) (r told : Refusal) → Abandons disks e mid w r told → Reaches disks Anything mid w
  abandons_reach e mid w r told (inl (went, is)) = reaches_events disks ((Abandon e, Abandoned) ∷ []) mid w went
  abandons_reach e mid w r told (inr (why, stopped, is)) = reaches_stopped disks mid w [] (Abandon e) why stopped

  abandons_told : (e : ℕ) (mid w : View D) (r told : Refusal) → Abandons disks e mid w r told
      → (told ≡ r) ⊎ (told ≡ refusal.OutOfMemory)
  abandons_told e mid w r told (inl (went, is)) = inl is
  abandons_told e mid w r told (inr (why, stopped, inl memory)) = inr memory.1
  abandons_told e mid w r told (inr (why, stopped, inr other)) = inl other.1

  pub sweep_full : (e : ℕ) (v w : View D) → IsRoomyState disks v → NoneWornIn w → IsSweepRefused disks e v w refusal.Full → ⊥
  sweep_full e v w roomy young (inl stopped) = begin_no_put e (stopped_full v w [] (BeginSweep e) roomy young stopped)
  sweep_full e v w roomy young (inr (begun, mid, r, began, stops, abandons)) =
      let first = reached_state disks v begun roomy (reaches_events disks ((BeginSweep e, Sweeping) ∷ []) v begun began) in
      let stopped = reached_state disks begun mid first (stops_reach e begun mid r stops) in
      let mid_young = young_before disks mid w stopped (abandons_reach e mid w r refusal.Full abandons) young in
      go (abandons_told e mid w r refusal.Full abandons) first mid_young
    where
      go : (refusal.Full ≡ r) ⊎ (refusal.Full ≡ refusal.OutOfMemory) → IsRoomyState disks begun → NoneWornIn mid → ⊥
      go (inl is) first mid_young = swept_full e begun mid first mid_young
          (subst (λ (f : Refusal). StopsSweep disks e begun mid f) (sym is) stops)
      go (inr memory) first mid_young = let no : refusal.Full ≡ refusal.OutOfMemory = memory in cc
