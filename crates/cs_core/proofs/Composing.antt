-- What a crash leaves of many calls.
use Rattle.std.proofs.Common.{◌≡◌, ◌∙◌, inl, inr, ⊎_elim, ◌⊎◌, ℕ, ◌+◌, ◌≤◌, List, [], ◌∷◌, ◌++◌, append_assoc, length, length-append, arith, le_of_eq, refl, sym, ap, subst}
use Rattle.std.proofs.lemmas.List.{append-nil}
use Rattle.cs_disk.specs.declared.disk.PageDisk.{Ghosts as PageDisk}
use Rattle.cs_disk.specs.Disk.{Image, LeavesOnly, State as DiskState, page}
use Rattle.cs_extent.specs.State.{shape}
use Rattle.cs_frame.specs.Formats.{formats_of}
use Rattle.law_machine.specs.Device.{Shape}
use Rattle.law_machine.specs.State.{Command, State}
use Rattle.law_refinement.proofs.CrashesLeft.{prefix_later, prefix_wider}
use Rattle.law_refinement.specs.Crashes.{IsPrefix}
use Rattle.law_refinement.specs.Devices.{IsDiskOf}
use Rattle.cs_core.specs.declared.events.Event.{Event}
use Rattle.cs_core.specs.declared.events.Reply.{Reply}
use Rattle.cs_core.specs.Meanings.{command_said, commands_said}
use Rattle.cs_core.specs.Calls.{AreCalls, IsCall}
use Rattle.cs_core.specs.Checkpoints.{Replaces}
use Rattle.cs_core.specs.States.{IsStateOf}
use Rattle.cs_core.specs.Stored.{Stored}
use Rattle.cs_core.specs.Views.{Applies, IsUntouched, IsFull, IsIn, IsReached, IsStep, View}
use Rattle.cs_core.proofs.Crashes.{commands_reached}
use Rattle.cs_core.specs.Prefixes.{IsPrefixBetween}

-- an event adds its command, newest first
pub said_more : (history : List (Event × Reply)) (e : Event) (r : Reply) → commands_said (history ++ (e, r) ∷ []) ≡ command_said e r ++ commands_said history
said_more [] e r = sym (append-nil (command_said e r))
said_more (x ∷ xs) e r = ap (λ (cs : List Command). cs ++ command_said x.0 x.1) (said_more xs e r) ∙ append_assoc (command_said e r) (commands_said xs) (command_said x.0 x.1)

module _ {D : Type 0} (disks : PageDisk D) where
  -- what later cores keep of a core
  record Follows (old new : View D) : Type 0 where
    same_shape : shape new.store.extents ≡ shape old.store.extents
    opened : new.opened ≡ old.opened
    more : List Command
    longer : commands_said new.history ≡ more ++ commands_said old.history
    rises : old.store.frontier ≤ new.store.frontier
    counted_old : old.store.accepted ≡ length (commands_said old.history)
    counted : new.store.accepted ≡ length (commands_said new.history)
    stays_honest : disks.honest new.disk
    state_then : State
    is_in : IsIn disks.state new state_then

  count_of : (v : View D) (s : State) → IsIn disks.state v s → v.store.accepted ≡ length (commands_said v.history)
  count_of v s is = sym is.store.accepted ∙ ap length (commands_reached (shape v.store.extents) (formats_of (shape v.store.extents)) v.opened v.history s is.reached)

  -- nothing has changed but rooms
  asked_in : (old new : View D) (s : State) → disks.honest old.disk → IsUntouched disks old new → IsIn disks.state old s → IsIn disks.state new s
  asked_in old new s there asked is = record {
    store = subst (λ (v : Stored). IsStateOf v s) (sym asked.store) is.store;
    disk = subst (λ (v : Stored). IsDiskOf (shape v.extents) (formats_of (shape v.extents)) s (disks.state new.disk)) (sym asked.store)
        (subst (λ (d : DiskState). IsDiskOf (shape old.store.extents) (formats_of (shape old.store.extents)) s d) (sym (asked.disk there)) is.disk);
    reached = subst (λ (v : Stored). IsReached (shape v.extents) (formats_of (shape v.extents)) new.opened new.history s) (sym asked.store)
        (subst (λ (i : Image). IsReached (shape old.store.extents) (formats_of (shape old.store.extents)) i new.history s) (sym asked.opened)
        (subst (λ (h : List (Event × Reply)). IsReached (shape old.store.extents) (formats_of (shape old.store.extents)) old.opened h s) (sym asked.history) is.reached));
  }

  same_follows : (v : View D) (s : State) → disks.honest v.disk → IsIn disks.state v s → Follows v v
  same_follows v s there is = record {
    same_shape = refl;
    opened = refl;
    more = [];
    longer = refl;
    rises = omega arith;
    counted_old = count_of v s is;
    counted = count_of v s is;
    stays_honest = there;
    state_then = s;
    is_in = is;
  }

  asked_follows : (old new : View D) (s : State) → disks.honest old.disk → disks.honest new.disk → IsUntouched disks old new → IsIn disks.state old s → Follows old new
  asked_follows old new s there then_too asked is = let is_then = asked_in old new s there asked is in record {
    same_shape = ap (λ (v : Stored). shape v.extents) asked.store;
    opened = asked.opened;
    more = [];
    longer = ap commands_said asked.history;
    rises = le_of_eq (sym (ap (λ (v : Stored). v.frontier) asked.store));
    counted_old = count_of old s is;
    counted = count_of new s is_then;
    stays_honest = then_too;
    state_then = s;
    is_in = is_then;
  }

  step_follows : (old new : View D) (e : Event) (r : Reply) (s : State) → disks.honest old.disk → disks.honest new.disk → old.store.frontier ≤ new.store.frontier → IsStep disks old e r new → IsIn disks.state old s → Follows old new
  step_follows old new e r s there then_too rises step is = let d = step.step there s is in record {
    same_shape = step.same_shape;
    opened = step.opened;
    more = command_said e r;
    longer = ap commands_said step.history ∙ said_more old.history e r;
    rises = rises;
    counted_old = count_of old s is;
    counted = count_of new d.1 d.4;
    stays_honest = then_too;
    state_then = d.1;
    is_in = d.4;
  }

  -- the history was replaced
  replaced_follows : (old : View D) (s : State) → disks.honest old.disk → IsIn disks.state old s → Follows old (record old { base = length old.history })
  replaced_follows old s there is = record {
    same_shape = refl;
    opened = refl;
    more = [];
    longer = refl;
    rises = omega arith;
    counted_old = count_of old s is;
    counted = count_of old s is;
    stays_honest = there;
    state_then = s;
    is_in = record { store = is.store; disk = is.disk; reached = is.reached };
  }

  call_follows : (old new : View D) (s : State) → disks.honest old.disk → IsCall disks old new → IsIn disks.state old s → Follows old new
  call_follows old new s there call is = ⊎_elim
      (λ (did : (e : Event) × (r : Reply) × Applies disks old e r new). ⊎_elim
      (λ (full : IsFull old did.0 did.1 new). subst (λ (v : View D). Follows old v) (sym full.same) (same_follows old s there is))
      (λ (step : IsStep disks old did.0 did.1 new). step_follows old new did.0 did.1 s there (call.stays_honest there) call.rises step is)
      did.2)
      (λ (other : IsUntouched disks old new ⊎ ((n : ℕ) × Replaces old n new)). ⊎_elim
      (λ (asked : IsUntouched disks old new). asked_follows old new s there (call.stays_honest there) asked is)
      (λ (replaced : (n : ℕ) × Replaces old n new). subst (λ (v : View D). Follows old v) (sym replaced.1.1) (replaced_follows old s there is))
      other)
      call.did

  follows_then : (a b c : View D) → Follows a b → Follows b c → Follows a c
  follows_then a b c p q = record {
    same_shape = q.same_shape ∙ p.same_shape;
    opened = q.opened ∙ p.opened;
    more = q.more ++ p.more;
    longer = q.longer ∙ ap (λ (cs : List Command). q.more ++ cs) p.longer ∙ sym (append_assoc q.more p.more (commands_said a.history));
    rises = omega (arith, p.rises, q.rises);
    counted_old = p.counted_old;
    counted = q.counted;
    stays_honest = q.stays_honest;
    state_then = q.state_then;
    is_in = q.is_in;
  }

  left_later : (a b c : View D) → Follows a b → Follows b c → (image : Image) → IsPrefixBetween a b image → IsPrefixBetween a c image
  left_later a b c p q image is =
      let more : length (commands_said c.history) ≡ length q.more + length (commands_said b.history) = ap length q.longer ∙ length-append q.more (commands_said b.history) in
      let wide : b.store.accepted ≤ c.store.accepted = omega (arith, p.counted, q.counted, more) in
      subst (λ (cs : List Command). IsPrefix (shape a.store.extents) (page a.opened) cs a.store.frontier c.store.accepted image) (sym q.longer)
      (prefix_wider (shape a.store.extents) (page a.opened) (q.more ++ commands_said b.history) a.store.frontier b.store.accepted a.store.frontier c.store.accepted image (omega arith) wide
      (prefix_later (shape a.store.extents) (page a.opened) q.more (commands_said b.history) a.store.frontier b.store.accepted image (le_of_eq p.counted) is))

  left_before : (a b c : View D) → Follows a b → (image : Image) → IsPrefixBetween b c image → IsPrefixBetween a c image
  left_before a b c p image is =
      subst (λ (i : Image). IsPrefix (shape a.store.extents) (page i) (commands_said c.history) a.store.frontier c.store.accepted image) p.opened
      (subst (λ (S : Shape). IsPrefix S (page b.opened) (commands_said c.history) a.store.frontier c.store.accepted image) p.same_shape
      (prefix_wider (shape b.store.extents) (page b.opened) (commands_said c.history) b.store.frontier c.store.accepted a.store.frontier c.store.accepted image p.rises (omega arith) is))

  -- one run after another
  leaves_then : (a b c : D) (P Q R : Image → Type 0) → LeavesOnly disks.moment disks.left_since a b P → LeavesOnly disks.moment disks.left_since b c Q → ((i : Image) → P i → R i) → ((i : Image) → Q i → R i) → LeavesOnly disks.moment disks.left_since a c R
  leaves_then a b c P Q R first rest p q = record {
    later = omega (arith, first.later, rest.later);
    each = λ i left. ⊎_elim (λ was. p i (first.each i was)) (λ has. q i has) (rest.before (disks.moment a) i first.later left);
    before = λ t i le left. ⊎_elim
        (λ was. ⊎_elim (λ older. inl older) (λ has. inr (p i has)) (first.before t i le was))
        (λ has. inr (q i has))
        (rest.before t i (omega (arith, le, first.later)) left);
  }

  leaves_more : (a b : D) (P R : Image → Type 0) → LeavesOnly disks.moment disks.left_since a b P → ((i : Image) → P i → R i) → LeavesOnly disks.moment disks.left_since a b R
  leaves_more a b P R only p = record {
    later = only.later;
    each = λ i left. p i (only.each i left);
    before = λ t i le left. ⊎_elim (λ older. inl older) (λ has. inr (p i has)) (only.before t i le left);
  }

  follow : (between : List (View D)) (old new : View D) (s : State) → disks.honest old.disk → AreCalls disks old between new → IsIn disks.state old s → Follows old new
  follow [] old new s there calls is = call_follows old new s there calls is
  follow (v ∷ vs) old new s there (call, calls) is =
      let first = call_follows old v s there call is in
      follows_then old v new first (follow vs v new first.state_then first.stays_honest calls first.is_in)

  -- a crash at any moment of these calls
  pub calls_leave : (between : List (View D)) (old new : View D) (s : State) → disks.honest old.disk → AreCalls disks old between new → IsIn disks.state old s
      → LeavesOnly disks.moment disks.left_since old.disk new.disk (IsPrefixBetween old new)
  calls_leave [] old new s there call is =
      let next = call_follows old new s there call is in
      leaves_more old.disk new.disk (IsPrefixBetween old old) (IsPrefixBetween old new) (call.crash there) (left_later old old new (same_follows old s there is) next)
  calls_leave (v ∷ vs) old new s there (call, calls) is =
      let next = call_follows old v s there call is in
      let rest = follow vs v new next.state_then next.stays_honest calls next.is_in in
      leaves_then old.disk v.disk new.disk (IsPrefixBetween old old) (IsPrefixBetween v new) (IsPrefixBetween old new) (call.crash there) (calls_leave vs v new next.state_then next.stays_honest calls next.is_in)
      (λ i left. left_later old old new (same_follows old s there is) (follows_then old v new next rest) i left)
      (left_before old v new next)
