-- Rounds of writeback are steps of the machine.
use Rattle.std.proofs.Common.{◌≡◌, ◌≢◌, ◌⊎◌, inl, inr, ⊎_elim, ℕ, suc, ◌+◌, ◌<◌, ◌≤◌, true, false, List, [], ◌∷◌, ◌++◌, Some, None, Ok, Err, length, map, take, drop, refl, sym, ap, ap₂, ◌∙◌, subst, arith}
use Rattle.std.specs.Prelude.{Contains, Option, is_some, slice_get, slice_index}
use Rattle.cs_deps.specs.declared.elements.Element.{Element as Name}
use Rattle.cs_refusal.specs.declared.refusals.Refusal.{Refusal as Code}
use Rattle.cs_refusal.specs.declared.refusals.Refusal.TheVariants as code
use Rattle.cs_deps.specs.Staging.{settled}
use Rattle.cs_deps.specs.State.{AddsNone, IsQueue, IsWhole as IsWholeGraph, State as GraphState, write_of}
use Rattle.cs_disk.specs.Disk.{State as DiskState, flushed, written}
use Rattle.cs_extent.specs.Frames.{root_family}
use Rattle.cs_extent.specs.State.{IsWhole, State as ExtentsState, shape}
use Rattle.cs_frame.specs.Formats.{formats_of}
use Rattle.cs_index.specs.State.{State as IndexState}
use Rattle.law_machine.specs.Cut.{Cut}
use Rattle.law_machine.specs.Device.{Shape}
use Rattle.law_machine.specs.Disk.{page_write}
use Rattle.law_machine.specs.Element.{Element, Root, roots_of}
use Rattle.law_machine.specs.Events.{Does, IsFrontier, issued_one}
use Rattle.law_machine.specs.Formats.{Formats}
use Rattle.law_machine.specs.Grounds.{Refuses}
use Rattle.law_machine.specs.Lists.{◌∈◌}
use Rattle.law_machine.specs.Machine.{BeginRound, EndRound, happens}
use Rattle.law_machine.specs.Refusal.{DeviceFault, Halted, InFlight, NoRound, Refusal}
use Rattle.law_machine.specs.State.{Begin, Begun, End, Ended, Event, Issue, Issued, Nothing, Refused, State}
use Rattle.law_machine.specs.Step.{Step}
use Rattle.law_machine.proofs.Keeps.{steps}
use Rattle.law_refinement.specs.Bridge.{AreNames, name}
use Rattle.law_refinement.specs.Devices.{IsDiskOf}
use Rattle.std.proofs.lemmas.List.{map-append, take-append-drop}
use Rattle.law_refinement.specs.Parts.{ArePartsOf}
use Rattle.law_refinement.specs.Rounds.{IsRoundOf}
use Rattle.law_refinement.proofs.Disks as disks
use Rattle.law_refinement.proofs.Keeping.{ended as keeps_ended, members_named}
use Rattle.law_refinement.proofs.RoundsOut.{begin, nothing}
use Rattle.law_refinement.proofs.Shapes.{store_format, store_shape}
use Rattle.cs_core.specs.declared.events.Event.TheVariants as asked
use Rattle.cs_core.specs.declared.histories.Root.{Root as Noted}
use Rattle.cs_core.specs.Frontiers.{AreNoted, LetsGo}
use Rattle.cs_core.specs.States.{AreRootsOf, IsStateOf}
use Rattle.cs_core.specs.Rounds.{EndAnswers, IssueAnswers}
use Rattle.cs_core.specs.Steps.{Declines}
use Rattle.cs_core.specs.Stored.{Stored, members_of}
use Rattle.cs_core.specs.Writebacks.{StaysRefused}
use Rattle.cs_core.proofs.Going.{going, no_more, pass}
use Rattle.cs_core.proofs.Noted.{left_new, left_old, noted_first, noted_left}
use Rattle.cs_reader.proofs.Lists.{drop_all, drop_some}
use Rattle.cs_core.proofs.Members.{are_names, drop_left, drop_none, map_next, map_none, map_push, member_waits, take_all_of, take_more}

-- where a round is persistent, the roots that are left are those of the state from the newest persistent one on, which
-- has the frontier
roots_left : (x : ExtentsState) (h : GraphState) (i : IndexState) (s z : State) (p l : ℕ) (roots rest : List Noted) (f a k : ℕ) → AreRootsOf roots s → ArePartsOf x h i z → s.world.persistent.root ≤ z.world.persistent.root
    → IsFrontier (shape x) (formats_of (shape x)) z k → roots_of z.world.elements ≡ roots_of s.world.elements → z.count ≡ s.count
    → AreNoted p l roots f a → (goes : LetsGo (slice_index h.staging.pending.persistent root_family) roots rest) → AreRootsOf rest z × (k ≡ goes.first.commands)
roots_left x h i s z p l roots rest f a k are parts rises (r, has, version, commands) same count noted goes = (left, first)
  where
    persistent : slice_index h.staging.pending.persistent root_family ≡ z.world.persistent.root
    persistent = parts.world.staging.pending.root

    found : (o : Root) → o ∈ roots_of z.world.elements → z.world.persistent.root ≤ o.version → (q : Noted) × Contains rest q × (q.version ≡ o.version) × (s.count + q.commands ≡ o.commands)
    found o among young =
        let q = are.all o (subst (λ (os : List Root). o ∈ os) same among) (omega (arith, rises, young)) in
        (q.0, left_new p l roots f a noted _ rest goes q.0 q.1 (omega (arith, q.2, young, persistent)), q.2, q.3)

    left : AreRootsOf rest z
    left = record {
      all = λ o among young. let q = found o among young in (q.0, q.1, q.2, ap (λ (c : ℕ). c + q.0.commands) count ∙ q.3);
      only = λ q there. let o = are.only q (left_old p l roots f a noted _ rest goes q there) in (o.0, subst (λ (os : List Root). o.0 ∈ os) (sym same) o.1, o.2, ap (λ (c : ℕ). c + q.commands) count ∙ o.3);
    }

    first : k ≡ goes.first.commands
    first =
        let q = found r has (omega (arith, version)) in
        let most : q.0.commands ≡ goes.first.commands = noted_first _ l rest goes.first.commands a (noted_left p l roots f a noted _ rest goes) q.0 q.1 (omega (arith, q.2, version, persistent)) in
        omega (arith, q.3, commands, count, most)

module _ (v : Stored) (s : State) (whole : IsWhole v.extents) (is : IsStateOf v s) (runs : v.halted ≡ false) where
  abbrev S : Shape
  S = shape v.extents

  abbrev F : Formats
  F = formats_of (shape v.extents)

  runs_on : s.halted ≡ true → ⊥
  runs_on = going s.halted (is.halted ∙ runs)

  -- as many are gone as were counted
  all_gone : is.gone ≡ v.issued
  all_gone = ⊎_elim
      (λ (e : is.gone ≡ v.issued). e)
      (λ (e : (v.halted ≡ true) × (is.gone ≡ suc v.issued)). absurd (going v.halted runs e.0))
      is.gone_is

  pub left_now : map name s.left ≡ drop v.issued (members_of v.out)
  left_now = is.left ∙ ap (λ (k : ℕ). drop k (members_of v.out)) all_gone

  pub issued_now : map name s.issued ≡ take v.issued (members_of v.out)
  issued_now = is.issued ∙ ap (λ (k : ℕ). take k (members_of v.out)) all_gone

  -- the graph's round is that of the state
  round_of : v.out ≡ v.graph.round → IsRoundOf v.graph s
  round_of same = record {
    out = is.round_out ∙ ap (λ (o : Option (List Name)). is_some o) same;
    members = map-append name s.issued s.left ∙ ap₂ (λ (a b : List Name). a ++ b) is.issued is.left ∙ take-append-drop is.gone (members_of v.out) ∙ ap (λ (o : Option (List Name)). members_of o) same;
  }

  no_round : v.out ≡ None → s.round_out ≡ false
  no_round none = is.round_out ∙ ap (λ (o : Option (List Name)). is_some o) none

  -- ---- Begin

  pub begin_out : is_some v.out ≡ true → Step (shape v.extents) (formats_of (shape v.extents)) s Begin (Refused InFlight) s
  begin_out out = (inl (inr (runs_on, inl (is.round_out ∙ out, refl))), refl)

  begins : v.out ≡ None → (f : Refusal) → Refuses (shape v.extents) (formats_of (shape v.extents)) s Begin f → ⊥
  begins none = pass Halted runs_on (pass InFlight (going s.round_out (no_round none)) no_more)

  pub begin_nothing : v.out ≡ None → v.graph.staging.pending.waiting ≡ [] → Step (shape v.extents) (formats_of (shape v.extents)) s Begin Nothing s
  begin_nothing none waits = (begins none, (no_round none, (nothing (shape v.extents) (formats_of (shape v.extents)) v.graph s is.sound is.parts.world.staging.pending).0 waits, refl))

  pub begin_done : v.out ≡ None → v.out ≡ v.graph.round → IsWholeGraph v.graph → (h : GraphState) (round : List Name) → IsQueue v.graph.staging.pending 1 round → round ≢ [] → h.staging ≡ v.graph.staging → AddsNone v.graph h → h.round ≡ Some round
      → (members : List Element) × (t : State) × (map name members ≡ round)
      × Step (shape v.extents) (formats_of (shape v.extents)) s Begin (Begun members) t
      × IsStateOf (record v { graph = h; out = Some round; issued = 0 }) t
  begin_done none same_round graph h round queue some same adds out =
      let law = begin v.extents v.graph h v.index s is.parts is.sound (round_of same_round) (is.halted ∙ runs) (sym same_round ∙ none) round graph queue some same adds out in
      at law.0 law.1 law.2 law.5 law.6
    where
      at : (members : List Element) (t : State) → map name members ≡ round → Step (shape v.extents) (formats_of (shape v.extents)) s Begin (Begun members) t → ArePartsOf v.extents h v.index t
          → (ms : List Element) × (z : State) × (map name ms ≡ round)
          × Step (shape v.extents) (formats_of (shape v.extents)) s Begin (Begun ms) z
          × IsStateOf (record v { graph = h; out = Some round; issued = 0 }) z
      at members t named step parts =
          let R : Cut = step.1.1 in
          let u : State = record s { world = happens (shape v.extents) s.world (BeginRound R); round_out = true; left = members; issued = [] } in
          let tis : t ≡ u = step.1.6 in
          let there : ArePartsOf v.extents h v.index u = subst (λ (z : State). ArePartsOf v.extents h v.index z) tis parts in
          let step_u : Step (shape v.extents) (formats_of (shape v.extents)) s Begin (Begun members) u = subst (λ (z : State). Step (shape v.extents) (formats_of (shape v.extents)) s Begin (Begun members) z) tis step in
          let kept = steps (shape v.extents) (formats_of (shape v.extents)) (store_shape v.extents whole) (store_format v.extents whole) s u Begin (Begun members) is.sound is.bounded step_u in (
            members,
            u,
            named,
            step_u,
            record {
              parts = record { world = there.world; index = there.index };
              copies = is.copies;
              sound = kept.0;
              bounded = kept.1;
              round_out = refl;
              gone = 0;
              gone_is = inl refl;
              left = named;
              issued = refl;
              halted = is.halted;
              base = is.base;
              accepted = is.accepted;
              frontier = is.frontier;
              roots = record { all = is.roots.all; only = is.roots.only };
            },
          )

  -- the same, where the round was copied twice, and the graph tells it
  pub begin_copied : v.out ≡ None → v.out ≡ v.graph.round → IsWholeGraph v.graph → (h : GraphState) (round asked noted : List Name) → IsQueue v.graph.staging.pending 1 round → round ≢ [] → h.staging ≡ v.graph.staging → AddsNone v.graph h → h.round ≡ Some round
      → asked ≡ round → noted ≡ round
      → (members : List Element) × (t : State) × (map name members ≡ asked) × (map name members ≡ noted)
      × Step (shape v.extents) (formats_of (shape v.extents)) s Begin (Begun members) t
      × IsStateOf (record v { graph = h; out = h.round; issued = 0 }) t
  begin_copied none same_round graph h round asked noted queue some same adds out a n =
      let done = begin_done none same_round graph h round queue some same adds out in
      (done.0, done.1, done.2 ∙ sym a, done.2 ∙ sym n, done.3, subst (λ (o : Option (List Name)). IsStateOf (record v { graph = h; out = o; issued = 0 }) done.1) (sym out) done.4)

  -- ---- a device that failed

  -- a store that the failed device only halts is of the state that is halted
  halts : (event : Event) → Step (shape v.extents) (formats_of (shape v.extents)) s event (Refused DeviceFault) (record s { halted = true }) → IsStateOf (record v { halted = true }) (record s { halted = true })
  halts event step =
      let kept = steps (shape v.extents) (formats_of (shape v.extents)) (store_shape v.extents whole) (store_format v.extents whole) s (record s { halted = true }) event (Refused DeviceFault) is.sound is.bounded step in
      record {
        parts = record { world = is.parts.world; index = is.parts.index };
        copies = is.copies;
        sound = kept.0;
        bounded = kept.1;
        round_out = is.round_out;
        gone = v.issued;
        gone_is = inl refl;
        left = left_now;
        issued = issued_now;
        halted = refl;
        base = is.base;
        accepted = is.accepted;
        frontier = is.frontier;
        roots = record { all = is.roots.all; only = is.roots.only };
      }

  -- ---- Issue

  pub issue_none : slice_get (members_of v.out) v.issued ≡ None → Step (shape v.extents) (formats_of (shape v.extents)) s Issue (Refused NoRound) s
  issue_none none =
      let empty : s.left ≡ [] = map_none s.left (left_now ∙ drop_none (members_of v.out) v.issued none) in
      inl (inr (runs_on, inl (inr empty, refl)), refl)

  module _ (x : Name) (next : slice_get (members_of v.out) v.issued ≡ Some x) where
    abbrev pub split : (m : Element) × (ms : List Element) × (s.left ≡ m ∷ ms) × (name m ≡ x) × (map name ms ≡ drop (suc v.issued) (members_of v.out))
    split = map_next s.left x (drop (suc v.issued) (members_of v.out)) (left_now ∙ (drop_some (members_of v.out) v.issued x next).0)

    abbrev pub member : Element
    member = split.0

    is_out : s.round_out ≡ true
    is_out = is.round_out ∙ has v.out next
      where
        has : (o : Option (List Name)) → slice_get (members_of o) v.issued ≡ Some x → is_some o ≡ true
        has None at = absurd (let e : None ≡ Some x = at in cc)
        has (Some round) at = refl

    not_left : s.left ≡ [] → ⊥
    not_left none = let e : split.0 ∷ split.1 ≡ [] = sym split.2 ∙ none in cc

    issues : (f : Refusal) → Refuses (shape v.extents) (formats_of (shape v.extents)) s Issue f → ⊥
    issues = pass Halted runs_on (pass NoRound (λ g. ⊎_elim (λ (no_one : s.round_out ≡ false). going s.round_out no_one is_out) not_left g) no_more)

    -- what is written for it
    pub issue_write : (p : ℕ) (bytes : List ℕ) → write_of v.graph x ≡ Some (p, bytes) → page_write (shape v.extents) (formats_of (shape v.extents)) member ≡ (p, bytes)
    issue_write p bytes kept =
        let waits = member_waits (shape v.extents) s.world split.0 (is.sound.left split.0 (subst (λ (ms : List Element). split.0 ∈ ms) (sym split.2) (inl refl))) in
        sym (is.parts.world.writes split.0 (p, bytes) waits (ap (write_of v.graph) split.3 ∙ kept))

    pub member_named : name member ≡ x
    member_named = split.3

    -- the state after it
    abbrev pub gone_on : State
    gone_on = issued_one (shape v.extents) (formats_of (shape v.extents)) s [] member split.1

    is_left : s.left ≡ [] ++ member ∷ split.1
    is_left = split.2

    issued_then : map name (s.issued ++ member ∷ []) ≡ take (suc v.issued) (members_of v.out)
    issued_then = map_push s.issued member (take v.issued (members_of v.out)) issued_now ∙ ap (λ (y : Name). take v.issued (members_of v.out) ++ y ∷ []) member_named ∙ sym (take_more (members_of v.out) v.issued x next)

    left_then : map name split.1 ≡ drop (suc v.issued) (members_of v.out)
    left_then = split.4

    -- the write went through
    pub issue_done : (disk : DiskState) → IsDiskOf (shape v.extents) (formats_of (shape v.extents)) s disk
        → (m : Element) × (t : State) × (name m ≡ x) × (m ≡ member)
        × Step (shape v.extents) (formats_of (shape v.extents)) s Issue (Issued m) t
        × IsStateOf (record v { issued = v.issued + 1 }) t
        × IsDiskOf (shape v.extents) (formats_of (shape v.extents)) t (written disk (page_write (shape v.extents) (formats_of (shape v.extents)) member).0 (page_write (shape v.extents) (formats_of (shape v.extents)) member).1)
    issue_done disk on =
        let law = disks.issue (shape v.extents) (formats_of (shape v.extents)) s disk on [] split.1 member is_left in
        let step : Step (shape v.extents) (formats_of (shape v.extents)) s Issue (Issued member) gone_on = (issues, law.0) in
        let kept = steps (shape v.extents) (formats_of (shape v.extents)) (store_shape v.extents whole) (store_format v.extents whole) s gone_on Issue (Issued member) is.sound is.bounded step in
        let one : suc v.issued ≡ v.issued + 1 = omega arith in (
          member,
          gone_on,
          member_named,
          refl,
          step,
          record {
            parts = record { world = is.parts.world; index = is.parts.index };
            copies = is.copies;
            sound = kept.0;
            bounded = kept.1;
            round_out = is.round_out;
            gone = suc v.issued;
            gone_is = inl one;
            left = left_then;
            issued = issued_then;
            halted = is.halted;
            base = is.base;
            accepted = is.accepted;
            frontier = is.frontier;
            roots = record { all = is.roots.all; only = is.roots.only };
          },
          law.1,
        )

    -- the device failed: the write is there, or it isn't
    pub issue_fails : (disk after : DiskState) → IsDiskOf (shape v.extents) (formats_of (shape v.extents)) s disk
        → (after ≡ disk) ⊎ (after ≡ written disk (page_write (shape v.extents) (formats_of (shape v.extents)) member).0 (page_write (shape v.extents) (formats_of (shape v.extents)) member).1)
        → (t : State) × Step (shape v.extents) (formats_of (shape v.extents)) s Issue (Refused DeviceFault) t × IsStateOf (record v { halted = true }) t
        × IsDiskOf (shape v.extents) (formats_of (shape v.extents)) t after
    issue_fails disk after on (inl same) =
        let t : State = record s { halted = true } in
        let step : Step (shape v.extents) (formats_of (shape v.extents)) s Issue (Refused DeviceFault) t = inr (issues, refl, inl refl) in (
          t,
          step,
          halts Issue step,
          subst (λ (d : DiskState). IsDiskOf (shape v.extents) (formats_of (shape v.extents)) t d) (sym same) (record { durable = on.durable; volatile = on.volatile }),
        )
    issue_fails disk after on (inr is_written) = failed
      where
        failed : (z : State) × Step (shape v.extents) (formats_of (shape v.extents)) s Issue (Refused DeviceFault) z × IsStateOf (record v { halted = true }) z
            × IsDiskOf (shape v.extents) (formats_of (shape v.extents)) z after
        failed =
            let t : State = record gone_on { halted = true } in
            let law = disks.issue (shape v.extents) (formats_of (shape v.extents)) s disk on [] split.1 member is_left in
            let step : Step (shape v.extents) (formats_of (shape v.extents)) s Issue (Refused DeviceFault) t = inr (issues, refl, inr (member, [], split.1, is_left, refl)) in
            let kept = steps (shape v.extents) (formats_of (shape v.extents)) (store_shape v.extents whole) (store_format v.extents whole) s t Issue (Refused DeviceFault) is.sound is.bounded step in (
              t,
              step,
              record {
                parts = record { world = is.parts.world; index = is.parts.index };
                copies = is.copies;
                sound = kept.0;
                bounded = kept.1;
                round_out = is.round_out;
                gone = suc v.issued;
                gone_is = inr (refl, refl);
                left = left_then;
                issued = issued_then;
                halted = refl;
                base = is.base;
                accepted = is.accepted;
                frontier = is.frontier;
                roots = record { all = is.roots.all; only = is.roots.only };
              },
              subst (λ (d : DiskState). IsDiskOf (shape v.extents) (formats_of (shape v.extents)) t d) (sym is_written) (record { durable = law.1.durable; volatile = law.1.volatile }),
            )

  -- ---- End

  pub end_early : (v.out ≡ None) ⊎ (v.issued < length (members_of v.out)) → Step (shape v.extents) (formats_of (shape v.extents)) s End (Refused NoRound) s
  end_early (inl none) = inl (inr (runs_on, inl (inl (no_round none), refl)), refl)
  end_early (inr some) =
      inl (inr (runs_on, inl (inr (λ none. drop_left (members_of v.out) v.issued some (sym left_now ∙ ap (map name) none)), refl)), refl)

  module _ (out : v.out ≢ None) (all : v.issued ≡ length (members_of v.out)) where
    is_round : s.round_out ≡ true
    is_round = is.round_out ∙ some v.out out
      where
        some : (o : Option (List Name)) → o ≢ None → is_some o ≡ true
        some None not = absurd (not refl)
        some (Some round) not = refl

    empty : s.left ≡ []
    empty = map_none s.left (left_now ∙ drop_all (members_of v.out) v.issued all)

    ends : (f : Refusal) → Refuses (shape v.extents) (formats_of (shape v.extents)) s End f → ⊥
    ends = pass Halted runs_on (pass NoRound (λ g. ⊎_elim (λ (no_one : s.round_out ≡ false). going s.round_out no_one is_round) (λ (some : s.left ≢ []). some empty) g) no_more)

    pub end_fails : (disk : DiskState) → IsDiskOf (shape v.extents) (formats_of (shape v.extents)) s disk
        → (t : State) × Step (shape v.extents) (formats_of (shape v.extents)) s End (Refused DeviceFault) t × IsStateOf (record v { halted = true }) t
        × IsDiskOf (shape v.extents) (formats_of (shape v.extents)) t disk
    end_fails disk on =
        let t : State = record s { halted = true } in
        let step : Step (shape v.extents) (formats_of (shape v.extents)) s End (Refused DeviceFault) t = inr (ends, refl, refl) in (
          t,
          step,
          halts End step,
          record { durable = on.durable; volatile = on.volatile },
        )

    -- the first of the roots that are left has the frontier
    pub end_done : (h : GraphState) → h.staging ≡ record { pending = settled v.graph.staging.pending (members_of v.out); staged = v.graph.staging.staged; latest = v.graph.staging.latest } → AddsNone v.graph h
        → (p l : ℕ) → AreNoted p l v.roots v.frontier v.accepted → (rest : List Noted) (goes : LetsGo (slice_index h.staging.pending.persistent root_family) v.roots rest)
        → (disk : DiskState) → IsDiskOf (shape v.extents) (formats_of (shape v.extents)) s disk
        → (t : State) × Step (shape v.extents) (formats_of (shape v.extents)) s End (Ended goes.first.commands) t
        × IsStateOf (record v { graph = h; roots = rest; out = None; issued = 0; frontier = goes.first.commands }) t
        × IsDiskOf (shape v.extents) (formats_of (shape v.extents)) t (flushed disk)
    end_done h settles adds p l noted rest goes disk on =
        let names : AreNames s.issued (members_of v.out) = are_names s.issued (members_of v.out) (issued_now ∙ take_all_of (members_of v.out) v.issued all) in
        let last = is.sound.safe.round_exact.root in
        let count = is.sound.maps last.0 last.1 in
        let members = members_named (shape v.extents) (formats_of (shape v.extents)) s (members_of v.out) is.sound is_round (subst (λ (ms : List Element). AreNames (ms ++ s.issued) (members_of v.out)) (sym empty) names) in
        at (record s { world = happens (shape v.extents) s.world EndRound; round_out = false; left = []; issued = [] }) count.0 (is_round, empty, refl, (last.0, last.1, last.2, count.2))
        (record {
          world = keeps_ended (formats_of (shape v.extents)) s v.extents v.graph h (members_of v.out) is.sound is.parts.world members settles adds;
          index = record { lookups = is.parts.index.lookups; same_runs = is.parts.index.same_runs };
        })
        (disks.flush (shape v.extents) (formats_of (shape v.extents)) s disk on (store_shape v.extents whole) is.sound is_round empty)
      where
        at : (t : State) (n : ℕ) → Does (shape v.extents) (formats_of (shape v.extents)) s End (Ended n) t → ArePartsOf v.extents h v.index t
            → IsDiskOf (shape v.extents) (formats_of (shape v.extents)) t (flushed disk)
            → (z : State) × Step (shape v.extents) (formats_of (shape v.extents)) s End (Ended goes.first.commands) z
            × IsStateOf (record v { graph = h; roots = rest; out = None; issued = 0; frontier = goes.first.commands }) z
            × IsDiskOf (shape v.extents) (formats_of (shape v.extents)) z (flushed disk)
        at t n does parts after =
            let u : State = record s { world = happens (shape v.extents) s.world EndRound; round_out = false; left = []; issued = [] } in
            let tis : t ≡ u = does.2 in
            let parts_u : ArePartsOf v.extents h v.index u = subst (λ (z : State). ArePartsOf v.extents h v.index z) tis parts in
            let front_u : IsFrontier (shape v.extents) (formats_of (shape v.extents)) u n = subst (λ (z : State). IsFrontier (shape v.extents) (formats_of (shape v.extents)) z n) tis does.3 in
            let left = roots_left v.extents h v.index s u p l v.roots rest v.frontier v.accepted n is.roots parts_u is.sound.safe.within.root front_u refl refl noted goes in
            let front : IsFrontier (shape v.extents) (formats_of (shape v.extents)) u goes.first.commands = subst (λ (k : ℕ). IsFrontier (shape v.extents) (formats_of (shape v.extents)) u k) left.1 front_u in
            let step : Step (shape v.extents) (formats_of (shape v.extents)) s End (Ended goes.first.commands) u = (ends, (is_round, empty, refl, front)) in
            let kept = steps (shape v.extents) (formats_of (shape v.extents)) (store_shape v.extents whole) (store_format v.extents whole) s u End (Ended goes.first.commands) is.sound is.bounded step in (
              u,
              step,
              record {
                parts = parts_u;
                copies = is.copies;
                sound = kept.0;
                bounded = kept.1;
                round_out = refl;
                gone = 0;
                gone_is = inl refl;
                left = refl;
                issued = refl;
                halted = is.halted;
                base = is.base;
                accepted = is.accepted;
                frontier = front;
                roots = left.0;
              },
              subst (λ (z : State). IsDiskOf (shape v.extents) (formats_of (shape v.extents)) z (flushed disk)) tis after,
            )

-- ---- the answers of the calls
pub begin_declines : (v : Stored) (whole : IsWhole v.extents) (runs : v.halted ≡ false) (r : Code) → (r ≡ code.InFlight → is_some v.out ≡ true) → (r ≡ code.InFlight) ⊎ (r ≡ code.OutOfMemory) → Declines v Begin r v
begin_declines v whole runs r out (inl e) = inr (InFlight, e, λ s is. (s, begin_out v s whole is runs (out e), is))
begin_declines v whole runs r out (inr e) = inl e

pub begin_stays : (v : Stored) (r : Code) → (r ≡ code.InFlight → is_some v.out ≡ true) → (r ≡ code.InFlight) ⊎ (r ≡ code.OutOfMemory) → StaysRefused asked.Begin r v v
begin_stays v r out (inl e) = subst (λ (k : Code). StaysRefused asked.Begin k v v) (sym e) ((λ none. let no : is_some v.out ≡ false = ap (λ (o : Option (List Name)). is_some o) none in absurd (let clash : true ≡ false = sym (out e) ∙ no in cc clash)), refl)
begin_stays v r out (inr e) = subst (λ (k : Code). StaysRefused asked.Begin k v v) (sym e) refl

pub issue_answers : (v : Stored) (whole : IsWhole v.extents) (runs : v.halted ≡ false) (graph : IsWholeGraph v.graph) (x : Name) (next : slice_get (members_of v.out) v.issued ≡ Some x) (p : ℕ) (bytes : List ℕ)
    → write_of v.graph x ≡ Some (p, bytes) → (disk after : DiskState) → after ≡ written disk p bytes → IssueAnswers v disk (Ok (x, p)) (record v { issued = v.issued + 1 }) after
unfolding IssueAnswers
issue_answers v whole runs graph x next p bytes kept disk after is_written s is on =
    let write = issue_write v s whole is runs x next p bytes kept in
    let d = issue_done v s whole is runs x next disk on in
    let same : after ≡ written disk (page_write (shape v.extents) (formats_of (shape v.extents)) (member v s whole is runs x next)).0 (page_write (shape v.extents) (formats_of (shape v.extents)) (member v s whole is runs x next)).1
    = is_written ∙ ap (λ (w : ℕ × List ℕ). written disk w.0 w.1) (sym write) in (
      d.0,
      d.1,
      d.2,
      ap (λ (m : Element). (page_write (shape v.extents) (formats_of (shape v.extents)) m).0) d.3 ∙ ap (λ (w : ℕ × List ℕ). w.0) write,
      d.4,
      d.5,
      subst (λ (z : DiskState). IsDiskOf (shape v.extents) (formats_of (shape v.extents)) d.1 z) (sym same) d.6,
    )

pub issue_faults : (v : Stored) (whole : IsWhole v.extents) (runs : v.halted ≡ false) (graph : IsWholeGraph v.graph) (x : Name) (next : slice_get (members_of v.out) v.issued ≡ Some x) (p : ℕ) (bytes : List ℕ)
    → write_of v.graph x ≡ Some (p, bytes) → (disk after : DiskState) → (after ≡ disk) ⊎ (after ≡ written disk p bytes) → IssueAnswers v disk (Err code.DeviceFault) (record v { halted = true }) after
unfolding IssueAnswers
issue_faults v whole runs graph x next p bytes kept disk after or_not = inr (
  DeviceFault,
  refl,
  λ s is on.
      let write = issue_write v s whole is runs x next p bytes kept in
      issue_fails v s whole is runs x next disk after on (⊎_elim
      (λ (same : after ≡ disk). inl same)
      (λ (done : after ≡ written disk p bytes). inr (done ∙ ap (λ (w : ℕ × List ℕ). written disk w.0 w.1) (sym write)))
      or_not),
)

pub issue_declines : (v : Stored) (whole : IsWhole v.extents) (runs : v.halted ≡ false) → slice_get (members_of v.out) v.issued ≡ None → (disk : DiskState) → IssueAnswers v disk (Err code.NoRound) v disk
unfolding IssueAnswers
issue_declines v whole runs none disk = inr (NoRound, refl, λ s is on. (s, issue_none v s whole is runs none, is, on))

pub end_answers : (v : Stored) (whole : IsWhole v.extents) (runs : v.halted ≡ false) (out : v.out ≢ None) (all : v.issued ≡ length (members_of v.out)) (h : GraphState)
    → h.staging ≡ record { pending = settled v.graph.staging.pending (members_of v.out); staged = v.graph.staging.staged; latest = v.graph.staging.latest } → AddsNone v.graph h
    → (p l : ℕ) → AreNoted p l v.roots v.frontier v.accepted → (rest : List Noted) (goes : LetsGo (slice_index h.staging.pending.persistent root_family) v.roots rest) → (f : ℕ) → f ≡ goes.first.commands
    → (disk after : DiskState) → after ≡ flushed disk → EndAnswers v disk (Ok f) (record v { graph = h; roots = rest; out = None; issued = 0; frontier = f }) after
unfolding EndAnswers
end_answers v whole runs out all h settles adds p l noted rest goes f first disk after is_flushed s is on =
    let d = end_done v s whole is runs out all h settles adds p l noted rest goes disk on in
    subst
    (λ (n : ℕ). (t : State) × Step (shape v.extents) (formats_of (shape v.extents)) s End (Ended n) t × IsStateOf (record v { graph = h; roots = rest; out = None; issued = 0; frontier = n }) t
    × IsDiskOf (shape v.extents) (formats_of (shape v.extents)) t after)
    (sym first) (d.0, d.1, d.2, subst (λ (z : DiskState). IsDiskOf (shape v.extents) (formats_of (shape v.extents)) d.0 z) (sym is_flushed) d.3)

pub end_faults : (v : Stored) (whole : IsWhole v.extents) (runs : v.halted ≡ false) (out : v.out ≢ None) (all : v.issued ≡ length (members_of v.out)) (disk after : DiskState) → after ≡ disk
    → EndAnswers v disk (Err code.DeviceFault) (record v { halted = true }) after
unfolding EndAnswers
end_faults v whole runs out all disk after same = inr (
  DeviceFault,
  refl,
  λ s is on.
      let d = end_fails v s whole is runs out all disk on in
      (d.0, d.1, d.2, subst (λ (z : DiskState). IsDiskOf (shape v.extents) (formats_of (shape v.extents)) d.0 z) (sym same) d.3),
)

pub end_declines : (v : Stored) (whole : IsWhole v.extents) (runs : v.halted ≡ false) → (v.out ≡ None) ⊎ (v.issued < length (members_of v.out)) → (disk : DiskState) → EndAnswers v disk (Err code.NoRound) v disk
unfolding EndAnswers
end_declines v whole runs early disk = inr (NoRound, refl, λ s is on. (s, end_early v s whole is runs early, is, on))

pub issue_no_memory : (v w : Stored) (disk after : DiskState) → IssueAnswers v disk (Err code.OutOfMemory) w after
unfolding IssueAnswers
issue_no_memory v w disk after = inl refl

pub end_no_memory : (v w : Stored) (disk after : DiskState) → EndAnswers v disk (Err code.OutOfMemory) w after
unfolding EndAnswers
end_no_memory v w disk after = inl refl
