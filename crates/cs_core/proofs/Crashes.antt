-- What a crash leaves of a core's disk.
use Rattle.std.proofs.Common.{◌≡◌, ◌⊎◌, inl, inr, ℕ, ◌≤◌, List, [], ◌∷◌, ◌++◌, length, refl, sym, ap, ap₂, ◌∙◌, subst, le_of_eq}
use Rattle.std.proofs.lemmas.List.{append-nil}
use Rattle.cs_disk.proofs.Moments.{goes_on, started}
use Rattle.cs_disk.specs.Disk.{Elapses, Image, Leaves, LeavesOnly, MayLeave, State as DiskState, page}
use Rattle.cs_extent.specs.State.{IsWhole, State as ExtentsState, shape}
use Rattle.cs_frame.specs.declared.identifiers.ShardId.{ShardId}
use Rattle.cs_frame.specs.Formats.{formats_of}
use Rattle.law_machine.proofs.Kept.{history_on}
use Rattle.law_machine.specs.Device.{Page, Shape}
use Rattle.law_machine.specs.Element.{Map}
use Rattle.law_machine.specs.Events.{IsFrontier}
use Rattle.law_machine.specs.Formats.{Formats}
use Rattle.law_machine.specs.Open.{opened_state}
use Rattle.law_machine.specs.Recovery.{Recovers}
use Rattle.law_machine.specs.Sound.{Sound}
use Rattle.law_machine.specs.State as model
use Rattle.law_machine.specs.State.{Command, State, command_of, commands_of}
use Rattle.law_refinement.proofs.CrashesLeft.{leaves_from, prefix_wider}
use Rattle.law_refinement.specs.Crashes.{IsPrefix}
use Rattle.law_refinement.specs.Devices.{IsDiskOf}
use Rattle.cs_core.specs.declared.events.Event.{Event}
use Rattle.cs_core.specs.declared.events.Event.TheVariants.{Delete, End, Issue, Put}
use Rattle.cs_core.specs.declared.events.Reply.{Reply}
use Rattle.cs_core.specs.declared.events.Reply.TheVariants.{Begun, Issued, Refused}
use Rattle.cs_core.specs.Meanings.{Says, command_said, commands_said, event_of}
use Rattle.cs_core.specs.States.{IsStateOf}
use Rattle.cs_core.specs.Stored.{Stored}
use Rattle.cs_core.specs.Views.{AreSaid, IsReached}
use Rattle.cs_reader.specs.ImageReads.{page_total}

module _ (S : Shape) (F : Formats) where
  -- a reply says whether a put or a delete was accepted
  put_said : (id : ShardId) (bytes : List ℕ) (r : Reply) (m : model.Reply) → Says S F r m → command_of (event_of (Put id bytes)) m ≡ command_said (Put id bytes) r
  put_said id bytes (Begun round) m says = ap (command_of (event_of (Put id bytes))) says.1
  put_said id bytes (Issued x p) m says = ap (command_of (event_of (Put id bytes))) says.1
  put_said id bytes (Refused f) m says = ap (command_of (event_of (Put id bytes))) says.1
  put_said id bytes r m says = ap (command_of (event_of (Put id bytes))) says

  delete_said : (id : ShardId) (r : Reply) (m : model.Reply) → Says S F r m → command_of (event_of (Delete id)) m ≡ command_said (Delete id) r
  delete_said id (Begun round) m says = ap (command_of (event_of (Delete id))) says.1
  delete_said id (Issued x p) m says = ap (command_of (event_of (Delete id))) says.1
  delete_said id (Refused f) m says = ap (command_of (event_of (Delete id))) says.1
  delete_said id r m says = ap (command_of (event_of (Delete id))) says

  one_said : (e : Event) (r : Reply) (m : model.Reply) → Says S F r m → command_of (event_of e) m ≡ command_said e r
  one_said (Put id bytes) r m says = put_said id bytes r m says
  one_said (Delete id) r m says = delete_said id r m says
  one_said e r m says = refl

  -- a history has the commands that it says
  all_said : (history : List (Event × Reply)) (events : List (model.Event × model.Reply)) → AreSaid S F history events → commands_of events ≡ commands_said history
  all_said [] [] said = refl
  all_said (x ∷ xs) (y ∷ ys) said = ap₂ (λ (a b : List Command). a ++ b) (all_said xs ys said.1) (ap (λ (e : model.Event). command_of e y.1) said.0.0 ∙ one_said x.0 x.1 y.1 said.0.1)
  all_said [] (y ∷ ys) said = absurd said
  all_said (x ∷ xs) [] said = absurd said

  -- what a history leads to
  pub commands_reached : (opened : Image) (history : List (Event × Reply)) (s : State) → IsReached S F opened history s → s.commands ≡ commands_said history
  commands_reached opened history s is =
      (history_on S F (opened_state S F (page opened) is.count is.start is.gives) s is.events is.legal).commands
      ∙ append-nil (commands_of is.events) ∙ all_said history is.events is.said

-- a crash leaves the map after some of the commands
module _ (x : ExtentsState) (whole : IsWhole x) where
  left_there : (opened : Image) (history : List (Event × Reply)) (s : State) (disk : DiskState) (frontier accepted : ℕ)
      → IsReached (shape x) (formats_of (shape x)) opened history s → Sound (shape x) (formats_of (shape x)) s → IsFrontier (shape x) (formats_of (shape x)) s frontier → length s.commands ≡ accepted
      → IsDiskOf (shape x) (formats_of (shape x)) s disk → length disk.durable ≡ page_total (shape x)
      → Leaves disk (IsPrefix (shape x) (page opened) (commands_said history) frontier accepted)
  left_there opened history s disk frontier accepted reached sound front many on size left may =
      let from = history_on (shape x) (formats_of (shape x)) (opened_state (shape x) (formats_of (shape x)) (page opened) reached.count reached.start reached.gives) s reached.events reached.legal in
      let gives : Recovers (shape x) (formats_of (shape x)) s.opened s.count s.start =
      subst (λ (img : ℕ → Page). Recovers (shape x) (formats_of (shape x)) img s.count s.start) (sym from.opened)
      (subst (λ (n : ℕ). Recovers (shape x) (formats_of (shape x)) (page opened) n s.start) (sym from.count)
      (subst (λ (m : Map). Recovers (shape x) (formats_of (shape x)) (page opened) reached.count m) (sym from.start) reached.gives)) in
      let prefix : IsPrefix (shape x) s.opened s.commands frontier (length s.commands) left = leaves_from x s disk left whole sound on size may frontier gives front in
      subst (λ (img : ℕ → Page). IsPrefix (shape x) img (commands_said history) frontier accepted left) from.opened
      (subst (λ (cs : List Command). IsPrefix (shape x) s.opened cs frontier accepted left) (commands_reached (shape x) (formats_of (shape x)) opened history s reached)
      (subst (λ (n : ℕ). IsPrefix (shape x) s.opened s.commands frontier n left) many prefix))

  -- for a store of the same shape
  pub left_of : (v : Stored) → shape v.extents ≡ shape x → (opened : Image) (history : List (Event × Reply)) (s : State) (disk : DiskState)
      → IsReached (shape v.extents) (formats_of (shape v.extents)) opened history s → IsStateOf v s → IsDiskOf (shape v.extents) (formats_of (shape v.extents)) s disk → length disk.durable ≡ page_total (shape x)
      → Leaves disk (IsPrefix (shape v.extents) (page opened) (commands_said history) v.frontier v.accepted)
  left_of v same opened history s disk reached is on size =
      subst (λ (S : Shape). Leaves disk (IsPrefix S (page opened) (commands_said history) v.frontier v.accepted)) (sym same)
      (left_there opened history s disk v.frontier v.accepted
      (subst (λ (S : Shape). IsReached S (formats_of S) opened history s) same reached)
      (subst (λ (S : Shape). Sound S (formats_of S) s) same is.sound)
      (subst (λ (S : Shape). IsFrontier S (formats_of S) s v.frontier) same is.frontier)
      is.accepted
      (subst (λ (S : Shape). IsDiskOf S (formats_of S) s disk) same on)
      size)

-- an event that accepts nothing adds no command
said_same : (history : List (Event × Reply)) (e : Event) (r : Reply) → command_said e r ≡ [] → commands_said (history ++ (e, r) ∷ []) ≡ commands_said history
said_same [] e r none = none
said_same (x ∷ xs) e r none = ap (λ (cs : List Command). cs ++ command_said x.0 x.1) (said_same xs e r none)

-- Issue and End accept nothing
quiet : (e : Event) (old new : DiskState) → (e ≡ Issue) ⊎ (e ≡ End) ⊎ (new ≡ old) → (r : Reply) → (command_said e r ≡ []) ⊎ (new ≡ old)
quiet e old new (inl issue) r = inl (ap (λ (k : Event). command_said k r) issue)
quiet e old new (inr (inl end)) r = inl (ap (λ (k : Event). command_said k r) end)
quiet e old new (inr (inr same)) r = inr same

-- within the event a crash leaves what it might have left before
pub crash_within : (x : ExtentsState) (whole : IsWhole x) (v w : Stored) (v_shape : shape v.extents ≡ shape x) (w_shape : shape w.extents ≡ shape x) (opened : Image) (history : List (Event × Reply)) (e : Event) (r : Reply) (s t : State)
    (old new : DiskState) → IsReached (shape v.extents) (formats_of (shape v.extents)) opened history s → IsStateOf v s → IsDiskOf (shape v.extents) (formats_of (shape v.extents)) s old
    → IsReached (shape w.extents) (formats_of (shape w.extents)) opened (history ++ (e, r) ∷ []) t → IsStateOf w t → IsDiskOf (shape w.extents) (formats_of (shape w.extents)) t new
    → length old.durable ≡ page_total (shape x) → length new.durable ≡ page_total (shape x) → v.frontier ≤ w.frontier → (e ≡ Issue) ⊎ (e ≡ End) ⊎ (new ≡ old)
    → Leaves new (IsPrefix (shape v.extents) (page opened) (commands_said history) v.frontier v.accepted)
crash_within x whole v w v_shape w_shape opened history e r s t old new reached is on reached_then is_then on_then size size_then rises asks = go (quiet e old new asks r)
  where
    go : (command_said e r ≡ []) ⊎ (new ≡ old) → Leaves new (IsPrefix (shape v.extents) (page opened) (commands_said history) v.frontier v.accepted)
    go (inl none) = λ left may.
        let after = left_of x whole w w_shape opened (history ++ (e, r) ∷ []) t new reached_then is_then on_then size_then left may in
        let same : commands_said (history ++ (e, r) ∷ []) ≡ commands_said history = said_same history e r none in
        let cs : s.commands ≡ commands_said history = commands_reached (shape v.extents) (formats_of (shape v.extents)) opened history s reached in
        let ds : t.commands ≡ commands_said (history ++ (e, r) ∷ []) = commands_reached (shape w.extents) (formats_of (shape w.extents)) opened (history ++ (e, r) ∷ []) t reached_then in
        let many : w.accepted ≡ v.accepted = sym is_then.accepted ∙ ap length (ds ∙ same ∙ sym cs) ∙ is.accepted in
        let here : IsPrefix (shape v.extents) (page opened) (commands_said history) w.frontier w.accepted left =
        subst (λ (S : Shape). IsPrefix S (page opened) (commands_said history) w.frontier w.accepted left) (w_shape ∙ sym v_shape)
        (subst (λ (ks : List Command). IsPrefix (shape w.extents) (page opened) ks w.frontier w.accepted left) same after) in
        prefix_wider (shape v.extents) (page opened) (commands_said history) w.frontier w.accepted v.frontier v.accepted left rises (le_of_eq many) here
    go (inr same) = subst (λ (d : DiskState). Leaves d (IsPrefix (shape v.extents) (page opened) (commands_said history) v.frontier v.accepted)) (sym same)
        (left_of x whole v v_shape opened history s old reached is on size)

-- over a disk
module _ {D : Type 0} (state : D → DiskState) (moment : D → ℕ) (left_since : D → ℕ → Image → Type 0) where
  -- nothing was asked of it
  pub only_before : (disk : D) (P : Image → Type 0) → Leaves (state disk) P → ((c : Image) → left_since disk (moment disk) c → MayLeave (state disk) c) → LeavesOnly moment left_since disk disk P
  only_before disk P here only_now = (started state moment left_since disk P here only_now).any_moment

  -- it holds what it held
  pub still_before : (disk after : D) (P : Image → Type 0) → Leaves (state disk) P → ((c : Image) → left_since disk (moment disk) c → MayLeave (state disk) c)
      → Elapses (moment disk) (moment after) (left_since disk) (left_since after) (state after) → Leaves (state after) P → LeavesOnly moment left_since disk after P
  still_before disk after P here only_now time then_too = (goes_on state moment left_since disk disk after P (started state moment left_since disk P here only_now) time then_too).any_moment
