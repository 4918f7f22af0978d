-- Rounds of writeback are the machine's Begin, Issue and End.
use Rattle.std.proofs.Common.{◌≡◌, ◌≢◌, ◌⊎◌, ◌↔◌, inl, inr, ⊎_elim, ℕ, zero, suc, arith, true, false, List, [], ◌∷◌, ◌++◌, append-nil, length, map, slice_get, Some, None, true≢false, refl, sym, ap, ◌∙◌, subst}
use Rattle.std.specs.Prelude.{AllPairs, Contains, Option, is_some}
use Rattle.std.proofs.lemmas.Bool.{cases_Bool}
use Rattle.std.proofs.lemmas.List.Elements.{Contains-append_left, Contains-push}
use Rattle.cs_deps.proofs.HeightSteps.{chain_ends_waiting, of_level_height}
use Rattle.cs_deps.proofs.InTurn.{everything_is_all, taken_of_level}
use Rattle.cs_deps.specs.declared.elements.Element.{Element as Name}
use Rattle.cs_deps.specs.declared.elements.Element.TheVariants.{Plain, Version}
use Rattle.cs_deps.specs.Named.{Named}
use Rattle.cs_deps.specs.Pending.{Waits}
use Rattle.cs_deps.specs.Rounds.{IsListedBefore}
use Rattle.cs_deps.specs.State.{AddsNone, IsInQueue, IsOut, IsQueue, KeepsBytes, IsWhole as IsWholeGraph, State as GraphState, after, after_round, everything, write_of}
use Rattle.cs_disk.specs.Disk.{State as DiskState, flushed, written}
use Rattle.cs_extent.specs.State.{IsWhole, State as ExtentsState, shape}
use Rattle.cs_frame.specs.Formats.{formats_of}
use Rattle.cs_index.specs.State.{State as IndexState}
use Rattle.law_machine.proofs.Taking.{some_members, some_round}
use Rattle.law_machine.specs.Cut.{Cut, satisfied}
use Rattle.law_machine.specs.Device.{Page, Shape}
use Rattle.law_machine.specs.Disk.{page_write}
use Rattle.law_machine.specs.Distinct.{AreDistinct}
use Rattle.law_machine.specs.Element.{Element}
use Rattle.law_machine.specs.Events.{issued_one}
use Rattle.law_machine.specs.Formats.{Formats}
use Rattle.law_machine.specs.Grounds.{Refuses}
use Rattle.law_machine.specs.Lists.{◌∈◌}
use Rattle.law_machine.specs.Machine.{BeginRound, EndRound, happens}
use Rattle.law_machine.specs.Refusal.{DeviceFault, Halted, InFlight, NoRound, Refusal}
use Rattle.law_machine.specs.Round.{IsMember, IsRound, NothingWaits}
use Rattle.law_machine.specs.Sound.{Sound}
use Rattle.law_machine.specs.State.{Begin, Begun, End, Ended, Issue, Issued, Nothing, Refused, State}
use Rattle.law_machine.specs.Step.{Step}
use Rattle.law_refinement.specs.Bridge.{AreNames, IsPendingOf, name}
use Rattle.law_refinement.specs.Devices.{IsDiskOf}
use Rattle.law_refinement.specs.Frontiers.{AreRootsOf, IsFrontierOf, Noted}
use Rattle.law_refinement.specs.Parts.{ArePartsOf}
use Rattle.law_refinement.specs.Rounds.{IsRoundOf, members_of}
use Rattle.law_refinement.proofs.Counted.{frontier_at, roots_stay}
use Rattle.law_refinement.proofs.Disks as disks
use Rattle.law_refinement.proofs.Heights.{first_round}
use Rattle.law_refinement.proofs.Keeping.{begun as keeps_begun, ended as keeps_ended, members_named}
use Rattle.law_refinement.proofs.Members.{all_gone, are_names, distinct_by_name, member_listed, member_waits, named_by, next_left, one_more, passed_on, relisted}
use Rattle.law_refinement.proofs.Places.{one_name, waits_from, waits_name}
use Rattle.law_refinement.proofs.Refusing.{no_more, not_both, pass}
use Rattle.law_refinement.proofs.Shapes.{store_shape}

module _ (S : Shape) (F : Formats) (g : GraphState) (s : State) (sound : Sound S F s) (is : IsPendingOf S s.world g.staging.pending) where
  nothing_to : g.staging.pending.waiting ≡ [] → NothingWaits s.world
  nothing_to none m has = ⊎_elim
      (λ (met : satisfied s.world.persistent m ≡ true). met)
      (λ (not : satisfied s.world.persistent m ≡ false).
      let at = waits_name S F s.opened s.world g.staging.pending sound.safe is m (has, not) in
      absurd (let e : None ≡ Some (name m, at.1) = ap (λ (ws : List (Name × Named)). slice_get ws at.0) (sym none) ∙ at.2 in cc))
      (cases_Bool (satisfied s.world.persistent m))

  -- what waits in the graph waits in the machine
  pub some_waits : (z : Name) → Waits g.staging.pending z → NothingWaits s.world → ⊥
  some_waits z waits nothing =
      let from = waits_from S F s.opened s.world g.staging.pending sound.safe is z waits in
      true≢false (sym (nothing from.0 from.1.0) ∙ from.1.1)

  nothing_from : NothingWaits s.world → g.staging.pending.waiting ≡ []
  nothing_from nothing = go g.staging.pending.waiting refl
    where
      go : (ws : List (Name × Named)) → g.staging.pending.waiting ≡ ws → g.staging.pending.waiting ≡ []
      go [] same = same
      go (w ∷ ws) same = absurd (some_waits w.0 (0, w.1, ap (λ (us : List (Name × Named)). slice_get us 0) same) nothing)

  pub nothing : (g.staging.pending.waiting ≡ []) ↔ NothingWaits s.world
  nothing = (nothing_to, nothing_from)

-- no round is out, or one is
none_out : (g : GraphState) (s : State) → IsRoundOf g s → g.round ≡ None → s.round_out ≡ false
none_out g s is none = is.out ∙ ap (λ (o : Option (List Name)). is_some o) none

one_out : (g : GraphState) (s : State) (round : List Name) → IsRoundOf g s → g.round ≡ Some round → s.round_out ≡ true
one_out g s round is some = is.out ∙ ap (λ (o : Option (List Name)). is_some o) some

-- ---- Begin

module _ (x : ExtentsState) (g h : GraphState) (i : IndexState) (s : State) (are : ArePartsOf x g i s) (sound : Sound (shape x) (formats_of (shape x)) s)
    (is : IsRoundOf g s) (runs : s.halted ≡ false) (none : g.round ≡ None) where
  abbrev S : Shape
  S = shape x

  abbrev F : Formats
  F = formats_of (shape x)

  begins : (f : Refusal) → Refuses (shape x) (formats_of (shape x)) s Begin f → ⊥
  begins = pass Halted (not_both s.halted runs) (pass InFlight (not_both s.round_out (none_out g s is none)) no_more)

  pub idle : g.staging.pending.waiting ≡ [] → Step (shape x) (formats_of (shape x)) s Begin Nothing s
  idle waits = (begins, (none_out g s is none, (nothing (shape x) (formats_of (shape x)) g s sound are.world.staging.pending).0 waits, refl))

  waits : (names : List Name) → names ≢ [] → IsQueue g.staging.pending 1 names → NothingWaits s.world → ⊥
  waits [] some queue done = some refl
  waits (z ∷ zs) some queue done =
      let level : IsInQueue g.staging.pending 1 z = (queue.members z).0 (Contains-append_left (z ∷ []) zs z (Contains-push [] z)) in
      some_waits (shape x) (formats_of (shape x)) g s sound are.world.staging.pending z
      (chain_ends_waiting g.staging.pending z 1 (of_level_height g.staging.pending 1 z level).reached) done

  pub begin : (round : List Name) → IsWholeGraph g → IsQueue g.staging.pending 1 round → round ≢ [] → h.staging ≡ g.staging → AddsNone g h → h.round ≡ Some round
      → (members : List Element) × (t : State) × (map name members ≡ round) × (t.left ≡ members) × (t.issued ≡ [])
      × Step (shape x) (formats_of (shape x)) s Begin (Begun members) t × ArePartsOf x h i t × IsRoundOf h t
  begin round whole queue some same adds out =
      let taken = some_round (shape x) (formats_of (shape x)) s.opened s.world sound.safe in
      let found = some_members (shape x) (formats_of (shape x)) s.opened s.world sound.safe taken.0 in
      let all = everything_is_all g.staging whole.kept in
      let first = first_round (shape x) (formats_of (shape x)) s.opened s.world g.staging.pending sound.safe are.world.staging.pending (everything g.staging) all.all taken.0 taken.1 in
      let names : AreNames found.0 round = (λ z. (
        (λ has. let from = (first z).0 ((taken_of_level g.staging.pending (everything g.staging) all 1 z).1 ((queue.members z).0 has)) in (from.0, (found.1 from.0).1 from.1, from.2)),
        (λ from. (queue.members z).1 ((taken_of_level g.staging.pending (everything g.staging) all 1 z).0 ((first z).1 (from.0, (found.1 from.0).0 from.1, from.2)))),
      )) in
      let list = relisted found.0 round (λ z has. (names z).0 has) in
      at taken.0 taken.1 found.0 found.1 names list.0 list.1 list.2
    where
      at : (R : Cut) → IsRound (shape x) s.world R → (found : List Element) → ((m : Element) → m ∈ found ↔ IsMember (shape x) (record s.world { round = R }) m) → AreNames found round
          → (members : List Element) → map name members ≡ round → ((m : Element) → m ∈ members → m ∈ found)
          → (members : List Element) × (t : State) × (map name members ≡ round) × (t.left ≡ members) × (t.issued ≡ [])
          × Step (shape x) (formats_of (shape x)) s Begin (Begun members) t × ArePartsOf x h i t × IsRoundOf h t
      at R is_round found exact names members named inside =
          let back : (m : Element) → m ∈ found → m ∈ members = (λ m has.
          let from = named_by members (name m) (subst (λ (ys : List Name). Contains ys (name m)) (sym named) ((names (name m)).1 (m, has, refl))) in
          let a = member_listed (shape x) (record s.world { round = R }) m ((exact m).0 has) in
          let b = member_listed (shape x) (record s.world { round = R }) from.0 ((exact from.0).0 (inside from.0 from.1)) in
          subst (λ (n : Element). n ∈ members)
          (sym (one_name (shape x) (formats_of (shape x)) s.opened s.world g.staging.pending sound.safe are.world.staging.pending m from.0 a b (sym from.2))) from.1) in
          let each : (m : Element) → m ∈ members ↔ IsMember (shape x) (record s.world { round = R }) m
          = (λ m. ((λ has. (exact m).0 (inside m has)), (λ member. back m ((exact m).1 member)))) in
          let once : AreDistinct members = distinct_by_name members (subst (λ (ys : List Name). AllPairs IsListedBefore ys) (sym named) queue.order) in
          let t : State = record s { world = happens (shape x) s.world (BeginRound R); round_out = true; left = members; issued = [] } in (
            members,
            t,
            named,
            refl,
            refl,
            (begins, (none_out g s is none, R, is_round, each, once, waits round some queue, refl)),
            record { world = keeps_begun x g h s.world R are.world same adds; index = record { lookups = are.index.lookups; same_runs = are.index.same_runs } },
            record { out = sym (ap (λ (o : Option (List Name)). is_some o) out); members = named ∙ sym (ap members_of out) },
          )

-- ---- Issue

-- a member of the round keeps its bytes
pub member_keeps : (g : GraphState) (k : ℕ) (z : Name) → IsWholeGraph g → slice_get (members_of g.round) k ≡ Some z → KeepsBytes g z
member_keeps g k z whole at = go g.round refl at
  where
    has : (zs : List Name) (j : ℕ) (y : Name) → slice_get zs j ≡ Some y → Contains zs y
    has [] j y at = absurd (let e : None ≡ Some y = at in cc)
    has (x ∷ zs) zero y at = (0, omega arith, (let e : Some x ≡ Some y = at in cc))
    has (x ∷ zs) (suc j) y at = let rest = has zs j y at in (suc rest.0, omega (arith, rest.1), rest.2)

    kind : (y : Name) → IsOut g y → KeepsBytes g y
    kind (Plain n) out = whole.out (Plain n) out
    kind (Version f v) out = inl out

    go : (o : Option (List Name)) → g.round ≡ o → slice_get (members_of o) k ≡ Some z → KeepsBytes g z
    go None same at = absurd (let e : None ≡ Some z = at in cc)
    go (Some round) same at = kind z (round, same, has round k z at)

some_out : (o : Option (List Name)) (k : ℕ) (z : Name) → slice_get (members_of o) k ≡ Some z → is_some o ≡ true
some_out None k z at = absurd (let e : None ≡ Some z = at in cc)
some_out (Some round) k z at = refl

module _ (x : ExtentsState) (g : GraphState) (i : IndexState) (s : State) (are : ArePartsOf x g i s) (sound : Sound (shape x) (formats_of (shape x)) s)
    (is : IsRoundOf g s) (runs : s.halted ≡ false) (z : Name) (next : slice_get (members_of g.round) (length s.issued) ≡ Some z)
    (p : ℕ) (bytes : Page) (kept : write_of g z ≡ Some (p, bytes)) where
  abbrev split : (m : Element) × (behind : List Element) × (s.left ≡ m ∷ behind) × (name m ≡ z)
  split = next_left s.issued s.left z (ap (λ (zs : List Name). slice_get zs (length s.issued)) is.members ∙ next)

  issues : (f : Refusal) → Refuses (shape x) (formats_of (shape x)) s Issue f → ⊥
  issues = pass Halted (not_both s.halted runs) (pass NoRound
      (λ g. ⊎_elim (λ (off : s.round_out ≡ false). not_both s.round_out off (is.out ∙ some_out _ (length s.issued) z next))
      (λ (none : s.left ≡ []). let e : split.0 ∷ split.1 ≡ [] = sym split.2 ∙ none in cc) g) no_more)

  write : page_write (shape x) (formats_of (shape x)) split.0 ≡ (p, bytes)
  write =
      let waits = member_waits (shape x) s.world split.0 (sound.left split.0 (subst (λ (ms : List Element). split.0 ∈ ms) (sym split.2) (inl refl))) in
      sym (are.world.writes split.0 (p, bytes) waits (ap (write_of g) split.3 ∙ kept))

  abbrev gone_on : State
  gone_on = issued_one (shape x) (formats_of (shape x)) s [] split.0 split.1

  still_round : map name ((s.issued ++ split.0 ∷ []) ++ split.1) ≡ members_of g.round
  still_round = passed_on s.issued split.0 split.1 ∙ ap (λ (l : List Element). map name (s.issued ++ l)) (sym split.2) ∙ is.members

  module _ (disk : DiskState) (on : IsDiskOf (shape x) (formats_of (shape x)) s disk) where
    on_disk : IsDiskOf (shape x) (formats_of (shape x)) gone_on (written disk p bytes)
    on_disk = subst (λ (w : ℕ × Page). IsDiskOf (shape x) (formats_of (shape x)) gone_on (written disk w.0 w.1)) write
        (disks.issue (shape x) (formats_of (shape x)) s disk on [] split.1 split.0 split.2).1

    pub issue : (m : Element) × (t : State) × (name m ≡ z) × ((page_write (shape x) (formats_of (shape x)) m).0 ≡ p)
        × Step (shape x) (formats_of (shape x)) s Issue (Issued m) t × ArePartsOf x g i t × IsRoundOf g t × (length t.issued ≡ suc (length s.issued))
        × IsDiskOf (shape x) (formats_of (shape x)) t (written disk p bytes)
    issue = (
      split.0,
      gone_on,
      split.3,
      ap (λ (w : ℕ × Page). w.0) write,
      (issues, ([], split.1, split.2, refl)),
      record { world = are.world; index = record { lookups = are.index.lookups; same_runs = are.index.same_runs } },
      record { out = is.out; members = still_round },
      one_more s.issued split.0,
      on_disk,
    )

    pub issue_fails : (later : DiskState) → (later ≡ disk) ⊎ (later ≡ written disk p bytes)
        → (t : State) × Step (shape x) (formats_of (shape x)) s Issue (Refused DeviceFault) t × (t.halted ≡ true) × ArePartsOf x g i t × IsRoundOf g t
        × IsDiskOf (shape x) (formats_of (shape x)) t later
    issue_fails later (inl same) = (
      record s { halted = true },
      inr (issues, refl, inl refl),
      refl,
      record { world = are.world; index = record { lookups = are.index.lookups; same_runs = are.index.same_runs } },
      record { out = is.out; members = is.members },
      subst (λ (d : DiskState). IsDiskOf (shape x) (formats_of (shape x)) (record s { halted = true }) d) (sym same) (record { durable = on.durable; volatile = on.volatile }),
    )
    issue_fails later (inr there) = (
      record gone_on { halted = true },
      inr (issues, refl, inr (split.0, [], split.1, split.2, refl)),
      refl,
      record { world = are.world; index = record { lookups = are.index.lookups; same_runs = are.index.same_runs } },
      record { out = is.out; members = still_round },
      subst (λ (d : DiskState). IsDiskOf (shape x) (formats_of (shape x)) (record gone_on { halted = true }) d) (sym there)
          (record { durable = on_disk.durable; volatile = on_disk.volatile }),
    )

-- ---- End

module _ (x : ExtentsState) (g : GraphState) (i : IndexState) (s : State) (are : ArePartsOf x g i s)
    (is : IsRoundOf g s) (runs : s.halted ≡ false) (round : List Name) (some : g.round ≡ Some round) (all : length s.issued ≡ length round)
    (disk : DiskState) (on : IsDiskOf (shape x) (formats_of (shape x)) s disk) where
  none_left : s.left ≡ []
  none_left = all_gone s.issued s.left (ap length is.members ∙ ap (λ (o : Option (List Name)). length (members_of o)) some ∙ sym all)

  names : map name s.issued ≡ round
  names = ap (map name) (sym (append-nil s.issued)) ∙ ap (λ (l : List Element). map name (s.issued ++ l)) (sym none_left) ∙ is.members ∙ ap members_of some

  ends : (f : Refusal) → Refuses (shape x) (formats_of (shape x)) s End f → ⊥
  ends = pass Halted (not_both s.halted runs) (pass NoRound
      (λ g. ⊎_elim (λ (off : s.round_out ≡ false). not_both s.round_out off (one_out _ s round is some)) (λ (left : s.left ≢ []). left none_left) g) no_more)

  pub end_fails : (t : State) × Step (shape x) (formats_of (shape x)) s End (Refused DeviceFault) t × (t.halted ≡ true) × ArePartsOf x g i t × IsRoundOf g t
      × IsDiskOf (shape x) (formats_of (shape x)) t disk
  end_fails = (
    record s { halted = true },
    inr (ends, refl, refl),
    refl,
    record { world = are.world; index = record { lookups = are.index.lookups; same_runs = are.index.same_runs } },
    record { out = is.out; members = is.members },
    record { durable = on.durable; volatile = on.volatile },
  )

  pub end : IsWhole x → Sound (shape x) (formats_of (shape x)) s → (h : GraphState)
      → h.staging ≡ record { pending = after g; staged = g.staging.staged; latest = g.staging.latest } → AddsNone g h → h.round ≡ None
      → (roots : List Noted) (n : ℕ) → AreRootsOf roots s → IsFrontierOf h.staging roots n
      → (t : State) × Step (shape x) (formats_of (shape x)) s End (Ended n) t × ArePartsOf x h i t × IsRoundOf h t × (t.issued ≡ [])
      × IsDiskOf (shape x) (formats_of (shape x)) t (flushed disk)
  end whole sound h staging adds none roots n noted counted =
      let out : s.round_out ≡ true = one_out g s round is some in
      let u : State = record s { world = happens (shape x) s.world EndRound; round_out = false; left = []; issued = [] } in
      let last = sound.safe.round_exact.root in
      let settled = staging ∙ ap (λ (o : Option (List Name)). record { pending = after_round g.staging.pending o; staged = g.staging.staged; latest = g.staging.latest }) some in
      let members = members_named (shape x) (formats_of (shape x)) s round sound out (subst (λ (ms : List Element). AreNames (ms ++ s.issued) round) (sym none_left) (are_names s.issued round names)) in
      let parts : ArePartsOf x h i u = record {
        world = keeps_ended (formats_of (shape x)) s x g h round sound are.world members settled adds;
        index = record { lookups = are.index.lookups; same_runs = are.index.same_runs };
      } in (
        u,
        (ends, (out, none_left, refl, (last.0, last.1, last.2, frontier_at x h i u parts last.0 last.1 last.2 sound.safe.counts roots n (roots_stay roots s u noted refl sound.safe.within.root refl) counted))),
        parts,
        record { out = sym (ap (λ (o : Option (List Name)). is_some o) none); members = sym (ap members_of none) },
        refl,
        disks.flush (shape x) (formats_of (shape x)) s disk on (store_shape x whole) sound out none_left,
      )
