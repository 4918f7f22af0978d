-- What an event leaves as it was.
use Rattle.std.proofs.Common.{◌≡◌, ◌≢◌, inl, inr, ⊎_elim, ℕ, suc, le_of_eq, le_trans, arith, ◌+◌, ◌≤◌, List, [], ◌∷◌, length, Some, true, refl, sym, ap, ◌∙◌, subst, Bool, false}
use Rattle.std.proofs.lemmas.Bool.{cases_Bool}
use Rattle.law_machine.proofs.Quiet.{none_moved, unchanged}
use Rattle.law_machine.specs.Merges.{MergesPart, deletions_go, stage_takes}
use Rattle.law_machine.specs.Apart.{StagesApart, named, rooted_apart, settled, sweeping, takes}
use Rattle.law_machine.proofs.Settling.{settled_alike}
use Rattle.law_machine.proofs.Rules.{apart_rule, before_rule}
use Rattle.law_machine.specs.Append.{MergesTo, chunk_frames, stage_pages, AppendAllBy, AppendBy, AppendsFrame, AppendsFrameBy}
use Rattle.law_machine.specs.Cut.{Cut}
use Rattle.law_machine.specs.Device.{Page, Shape}
use Rattle.law_machine.specs.Element.{Entry, Locator, Root, Run, roots_of, Copy}
use Rattle.law_machine.specs.Events.{Does, IsFrontier, retired, rooted, Merged, mark}
use Rattle.law_machine.specs.Extents.{ForMove, ForPut, ForRun, Purpose, ForMerge}
use Rattle.law_machine.specs.Formats.{ChunkFrame, Formats, RunFrame}
use Rattle.law_machine.specs.Index.{live_at}
use Rattle.law_machine.specs.Lists.{replaced, with, ◌∈◌}
use Rattle.law_machine.specs.Machine.{StagePage, World, happens, root_now}
use Rattle.law_machine.specs.State.{Abandon, Abandoned, Absent, Accepted, Begin, BeginSweep, Begun, Delete, End, Ended, Event, Found, Get, Issue, Issued, MoveOne, Moved, NoneLive, NotYet, Nothing, Persistent, Put, Refused, Reply, Retire, Retired, Settle, Stage, Staged, State, Sweeping, Unchanged, index_now, map_now}
use Rattle.law_machine.specs.Stays.{AddsRoot, KeepsRoots, KeepsRound, RootsAfter}
use Rattle.law_machine.specs.Sound.{Sound}
use Rattle.law_machine.specs.Step.{Step}
use Rattle.law_machine.proofs.Kept.{history_on}

-- v has the roots of w, and the same is persistent
record SameRoots (w v : World) : Type 0 where
  pub roots : roots_of v.elements ≡ roots_of w.elements
  pub persistent : v.persistent ≡ w.persistent
  pub root : v.root ≡ w.root

same_here : (w v : World) → v ≡ w → SameRoots w v
same_here w v is = record {
  roots = ap (λ (u : World). roots_of u.elements) is;
  persistent = ap (λ (u : World). u.persistent) is;
  root = ap (λ (u : World). u.root) is;
}

pages_stay : (S : Shape) (bs : List Page) (w : World) (e i : ℕ) → SameRoots w (stage_pages S w e i bs)
pages_stay S [] w e i = record { roots = refl; persistent = refl; root = refl }
pages_stay S (b ∷ bs) w e i =
    let rest = pages_stay S bs (happens S w (StagePage (S.address e i) b)) e (suc i) in
    record { roots = rest.roots; persistent = rest.persistent; root = rest.root }

append_stays : (S : Shape) (apart : Bool) (w v : World) (purpose : Purpose) (bs : List Page) (l : Locator)
    → AppendBy S apart w purpose bs l v → SameRoots w v
append_stays S apart w v purpose bs l a =
    let pages = pages_stay S bs w a.extent (w.extents.pointer a.extent) in
    record {
      roots = ap (λ (u : World). roots_of u.elements) a.after ∙ pages.roots;
      persistent = ap (λ (u : World). u.persistent) a.after ∙ pages.persistent;
      root = ap (λ (u : World). u.root) a.after ∙ pages.root;
    }

appends_stay : (S : Shape) (apart : Bool) (w v : World) (purpose : Purpose) (frames : List (List Page)) (ls : List Locator)
    → AppendAllBy S apart w purpose frames ls v → SameRoots w v
appends_stay S apart w v purpose [] [] all = same_here w v all
appends_stay S apart w v purpose (bs ∷ frames) (l ∷ ls) all =
    let one = append_stays S apart w all.0 purpose bs l all.1 in
    let rest = appends_stay S apart all.0 v purpose frames ls all.2 in
    record {
      roots = rest.roots ∙ one.roots;
      persistent = rest.persistent ∙ one.persistent;
      root = rest.root ∙ one.root;
    }
appends_stay S apart w v purpose [] (l ∷ ls) all = absurd all
appends_stay S apart w v purpose (bs ∷ frames) [] all = absurd all

merge_stays : (S : Shape) (F : Formats) (w v : World) (index : List Entry) (purpose : Purpose) (runs : List Run)
    → MergesTo S F w index purpose v runs → SameRoots w v
merge_stays S F w v index purpose runs (inl (entries, l, some, run, append, is)) =
    append_stays S false w v purpose _ l append
merge_stays S F w v index purpose runs (inr (none, same, is)) = same_here w v same

-- the round of a state, and its roots
record Beside (s t : State) : Type 0 where
  pub round : KeepsRound s t
  pub roots : KeepsRoots s t

-- the round of a state, and its roots with one more
record Rooted (s : State) (v : ℕ) (t : State) : Type 0 where
  pub round : KeepsRound s t
  pub roots : AddsRoot s v t

by : (s t u : State) → t ≡ u → Beside s u → Beside s t
by s t u is b = subst (λ (z : State). Beside s z) (sym is) b

rooted_by : (s t u : State) (v : ℕ) → t ≡ u → Rooted s v u → Rooted s v t
rooted_by s t u v is b = subst (λ (z : State). Rooted s v z) (sym is) b

here : (s : State) → Beside s s
here s = record {
  round = record { round_out = refl; left = refl; issued = refl; persistent = refl; halted = refl };
  roots = record { roots = refl; root = refl };
}

-- another world with the same roots, another table and other commands
on_world : (s u : State) → SameRoots s.world u.world → u.round_out ≡ s.round_out → u.left ≡ s.left
    → u.issued ≡ s.issued → u.halted ≡ s.halted → Beside s u
on_world s u same out left issued halted = record {
  round = record {
    round_out = out;
    left = left;
    issued = issued;
    persistent = same.persistent;
    halted = halted;
  };
  roots = record { roots = same.roots; root = same.root };
}

module _ (S : Shape) (F : Formats) (s : State) where
  -- a root over a world with the same roots
  under_root : (w : World) (runs : List Run) (pointers : ℕ → ℕ) (v : ℕ) → SameRoots s.world w
      → v ≡ suc s.world.root → Rooted s v (rooted S F (record s { world = w }) runs pointers)
  under_root w runs pointers v same number = record {
    round = record {
      round_out = refl;
      left = refl;
      issued = refl;
      persistent = same.persistent;
      halted = refl;
    };
    roots = record {
      root = root_now S w (s.count + length s.commands) runs (map_now s) pointers;
      roots = ap (λ (rs : List Root). root_now S w (s.count + length s.commands) runs (map_now s) pointers ∷ rs)
          same.roots;
      version_is = ap suc same.root ∙ sym number;
      commands = refl;
    };
  }

  staged_before : (t : State) (v : ℕ) → v ≡ suc s.world.root → (mid : State) (runs : List Run)
      → MergesPart S F false (deletions_go S s (stage_takes S s)) s ForRun (stage_takes S s) mid runs
      → t ≡ rooted S F mid runs mid.world.extents.pointer → Rooted s v t
  staged_before t v number mid runs (inl (entries, l, there, run, (w, append, same), is)) done =
      rooted_by s t (rooted S F (record s { world = w }) runs w.extents.pointer) v
      (done ∙ ap (λ (u : State). rooted S F u runs u.world.extents.pointer) same)
      (under_root w runs w.extents.pointer v
      (append_stays S false s.world w ForRun (F.frame RunFrame (F.run entries)) l append) number)
  staged_before t v number mid runs (inr (run, same, is)) done =
      rooted_by s t (rooted S F s runs s.world.extents.pointer) v
      (done ∙ ap (λ (u : State). rooted S F u runs u.world.extents.pointer) same)
      (under_root s.world runs s.world.extents.pointer v (same_here s.world s.world refl) number)

  retired_before : (t : State) (e v : ℕ) → v ≡ suc s.world.root → (mid : State) (runs : List Run)
      → Merged S F s ForMove mid runs → t ≡ retired S F mid runs e → Rooted s v t
  retired_before t e v number mid runs (w, merges, same) done =
      let pointers : ℕ → ℕ = with w.extents.pointer e 0 in
      let root = under_root w runs pointers v (merge_stays S F s.world w (index_now s) ForMove runs merges) number in
      rooted_by s t (retired S F (record s { world = w }) runs e) v (done ∙ ap (λ (u : State). retired S F u runs e) same)
      (record {
        round = record {
          round_out = refl;
          left = refl;
          issued = refl;
          persistent = root.round.persistent;
          halted = refl;
        };
        roots = record {
          root = root.roots.root;
          roots = root.roots.roots;
          version_is = root.roots.version_is;
          commands = root.roots.commands;
        };
      })

  -- where chunks and runs lie apart
  under_apart : (w : World) (runs : List Run) (v : ℕ) → SameRoots s.world w
      → v ≡ suc s.world.root → Rooted s v (rooted_apart S F (record s { world = w }) runs)
  under_apart w runs v same number =
      let root = under_root w runs (named w.extents.pointer runs) v same number in record {
        round = record {
          round_out = refl;
          left = refl;
          issued = refl;
          persistent = root.round.persistent;
          halted = refl;
        };
        roots = record {
          root = root.roots.root;
          roots = root.roots.roots;
          version_is = root.roots.version_is;
          commands = root.roots.commands;
        };
      }

  part_apart : (t : State) (v k : ℕ) (go : Bool) (purpose : Purpose) → v ≡ suc s.world.root → (mid : State) (runs : List Run)
      → MergesPart S F true go s purpose k mid runs → t ≡ rooted_apart S F mid runs → Rooted s v t
  part_apart t v k go purpose number mid runs (inl (entries, l, there, run, (w, append, same), is)) done =
      rooted_by s t (rooted_apart S F (record s { world = w }) runs) v
      (done ∙ ap (λ (u : State). rooted_apart S F u runs) same)
      (under_apart w runs v (append_stays S true s.world w purpose (F.frame RunFrame (F.run entries)) l append) number)
  part_apart t v k go purpose number mid runs (inr (run, same, is)) done =
      rooted_by s t (rooted_apart S F s runs) v (done ∙ ap (λ (u : State). rooted_apart S F u runs) same)
      (under_apart s.world runs v (same_here s.world s.world refl) number)

  stages_apart : (t : State) (v : ℕ) → v ≡ suc s.world.root → StagesApart S F s t → Rooted s v t
  stages_apart t v number (mid, runs, inl m, is) =
      part_apart t v (takes S s) (deletions_go S s (takes S s)) ForRun number mid runs m is
  stages_apart t v number (mid, runs, inr m, is) =
      part_apart t v (length s.runs) (deletions_go S s (length s.runs)) ForMerge number mid runs m.1 is

  staged_one : (t : State) (v : ℕ) → Does S F s Stage (Staged v) t → Rooted s v t
  staged_one t v d = elim (cases_Bool S.apart) [
    | inl on ↦ (let o = apart_rule _ _ S.apart on d in stages_apart t v o.1 o.2)
    | inr before ↦ (let o = before_rule _ _ S.apart before d in staged_before t v o.1 o.2 o.3 o.4 o.5)
  ]

  put_one : (t : State) (id : ℕ) (bytes : List ℕ) (n : ℕ) → Does S F s (Put id bytes) (Accepted n) t → Beside s t
  put_one t id bytes n (cs, ls, mid, cut, (w, all, same), number, done) =
      let next : State = record s {
        world = w;
        table = record { id = id; locators = ls } ∷ s.table;
        commands = (id, Some bytes) ∷ s.commands;
      } in
      by s t next (done ∙ ap (λ (u : State). record u {
        table = record { id = id; locators = ls } ∷ u.table;
        commands = (id, Some bytes) ∷ u.commands;
      }) same)
      (on_world s next (appends_stay S S.apart s.world w ForPut (chunk_frames S F cs) ls all) refl refl refl refl)

  move_before : (t : State) (id k : ℕ) (l new : Locator) (payload : List ℕ) (mid : State)
      → AppendsFrame S F s ForMove ChunkFrame payload new mid
      → t ≡ record mid {
        table = record { id = id; locators = replaced (live_at (index_now s) id) k new } ∷ mid.table;
      } → Beside s t
  move_before t id k l new payload mid (w, append, same) done =
      let table : List Entry = record { id = id; locators = replaced (live_at (index_now s) id) k new } ∷ s.table in
      let next : State = record s { world = w; table = table } in
      by s t next (done ∙ ap (λ (u : State). record u {
        table = record { id = id; locators = replaced (live_at (index_now s) id) k new } ∷ u.table;
      }) same)
      (on_world s next (append_stays S false s.world w ForMove (F.frame ChunkFrame payload) new append) refl refl refl refl)

  move_apart : (t : State) (c : Copy) (payload : List ℕ) (mid : State)
      → AppendsFrameBy S F true s ForMove ChunkFrame payload c.to mid
      → t ≡ record mid { copies = c ∷ mid.copies } → Beside s t
  move_apart t c payload mid (w, append, same) done =
      let next : State = record s { world = w; copies = c ∷ s.copies } in
      by s t next (done ∙ ap (λ (u : State). record u { copies = c ∷ u.copies }) same)
      (on_world s next (append_stays S true s.world w ForMove (F.frame ChunkFrame payload) c.to append) refl refl refl refl)

  move_one : (t : State) (e id k : ℕ) → Does S F s (MoveOne e) (Moved id k) t → Beside s t
  move_one t e id k d = elim (cases_Bool S.apart) [
    | inl on ↦ (let o = apart_rule _ _ S.apart on d in
        move_apart t (record { id = id; chunk = k; from = o.0; to = o.1 }) o.2 o.3 o.8 o.9)
    | inr before ↦ (let o = before_rule _ _ S.apart before d in move_before t id k o.0 o.1 o.2 o.3 o.8 o.9)
  ]

module _ (S : Shape) (F : Formats) where
  retired_one : (s t : State) (e v : ℕ) → Does S F s (Retire e) (Retired v) t → Rooted s v t
  retired_one s t e v d = elim (cases_Bool S.apart) [
    | inl on ↦ (let o = apart_rule _ _ S.apart on d in
        from_settled (stages_apart S F (settled (mark s e false)) t v (o.2 ∙ ap suc same_root) o.3))
    | inr before ↦ (let o = before_rule _ _ S.apart before d in retired_before S F s t e v o.2 o.3 o.4 o.5 o.6)
  ]
    where
      same_root : s.world.root ≡ (settled (mark s e false)).world.root
      same_root = settled_alike (λ (x : State). s.world.root ≡ x.world.root) (mark s e false) refl

      from_settled : Rooted (settled (mark s e false)) v t → Rooted s v t
      from_settled = settled_alike (λ (x : State). Rooted x v t → Rooted s v t) (mark s e false)
          (λ r. record {
            round = record {
              round_out = r.round.round_out;
              left = r.round.left;
              issued = r.round.issued;
              persistent = r.round.persistent;
              halted = r.round.halted;
            };
            roots = record {
              root = r.roots.root;
              roots = r.roots.roots;
              version_is = r.roots.version_is;
              commands = r.roots.commands;
            };
          })

  begun : (s t : State) (e : ℕ) → Does S F s (BeginSweep e) Sweeping t → Beside s t
  begun s t e d = elim (cases_Bool S.apart) [
    | inl on ↦ by s t (sweeping S s e) (apart_rule _ _ S.apart on d).5
        (on_world s (sweeping S s e) (record { roots = refl; persistent = refl; root = refl }) refl refl refl refl)
    | inr before ↦ by s t (mark s e true) (before_rule _ _ S.apart before d).4
        (on_world s (mark s e true) (record { roots = refl; persistent = refl; root = refl }) refl refl refl refl)
  ]

  does_roots : (s t : State) (event : Event) (reply : Reply) → Does S F s event reply t → RootsAfter reply s t
  does_roots s t (Put id bytes) (Accepted n) d = (put_one S F s t id bytes n d).roots
  does_roots s t (Get id) (Found bytes) d = (by s t s d.1 (here s)).roots
  does_roots s t (Get id) Absent d = (by s t s d.1 (here s)).roots
  does_roots s t (Delete id) (Accepted n) d = (by s t _ d.2 (on_world s _ (same_here s.world s.world refl) refl refl refl refl)).roots
  does_roots s t (Delete id) Absent d = (by s t s d.1 (here s)).roots
  does_roots s t Stage Unchanged d = (by s t s (unchanged S F s t d) (here s)).roots
  does_roots s t Stage (Staged v) d = (staged_one S F s t v d).roots
  does_roots s t Begin Nothing d = (by s t s d.2 (here s)).roots
  does_roots s t Begin (Begun members) d =
      subst (λ (z : State). KeepsRoots s z) (sym d.6) (record { roots = refl; root = refl })
  does_roots s t Issue (Issued m) d =
      subst (λ (z : State). KeepsRoots s z) (sym d.3) (record { roots = refl; root = refl })
  does_roots s t End (Ended n) d =
      subst (λ (z : State). KeepsRoots s z) (sym d.2) (record { roots = refl; root = refl })
  does_roots s t (BeginSweep e) Sweeping d = (begun s t e d).roots
  does_roots s t (MoveOne e) NoneLive d = (by s t s (none_moved S F s t e d) (here s)).roots
  does_roots s t (MoveOne e) (Moved id k) d = (move_one S F s t e id k d).roots
  does_roots s t (Retire e) (Retired v) d = (retired_one s t e v d).roots
  does_roots s t (Abandon e) Abandoned d =
      subst (λ (z : State). KeepsRoots s z) (sym d.1) (record { roots = refl; root = refl })
  does_roots s t (Settle n) Persistent d = (by s t s d.4 (here s)).roots
  does_roots s t (Settle n) (NotYet f) d = (by s t s d.2 (here s)).roots
  does_roots s t event reply d = absurd d

  does_round : (s t : State) (event : Event) (reply : Reply) → Does S F s event reply t → event ≢ Begin
      → event ≢ Issue → event ≢ End → KeepsRound s t
  does_round s t (Put id bytes) (Accepted n) d a b c = (put_one S F s t id bytes n d).round
  does_round s t (Get id) (Found bytes) d a b c = (by s t s d.1 (here s)).round
  does_round s t (Get id) Absent d a b c = (by s t s d.1 (here s)).round
  does_round s t (Delete id) (Accepted n) d a b c = (by s t _ d.2 (on_world s _ (same_here s.world s.world refl) refl refl refl refl)).round
  does_round s t (Delete id) Absent d a b c = (by s t s d.1 (here s)).round
  does_round s t Stage Unchanged d a b c = (by s t s (unchanged S F s t d) (here s)).round
  does_round s t Stage (Staged v) d a b c = (staged_one S F s t v d).round
  does_round s t Begin reply d a b c = absurd (a refl)
  does_round s t Issue reply d a b c = absurd (b refl)
  does_round s t End reply d a b c = absurd (c refl)
  does_round s t (BeginSweep e) Sweeping d a b c = (begun s t e d).round
  does_round s t (MoveOne e) NoneLive d a b c = (by s t s (none_moved S F s t e d) (here s)).round
  does_round s t (MoveOne e) (Moved id k) d a b c = (move_one S F s t e id k d).round
  does_round s t (Retire e) (Retired v) d a b c = (retired_one s t e v d).round
  does_round s t (Abandon e) Abandoned d a b c = subst (λ (z : State). KeepsRound s z) (sym d.1)
      (record { round_out = refl; left = refl; issued = refl; persistent = refl; halted = refl })
  does_round s t (Settle n) Persistent d a b c = (by s t s d.4 (here s)).round
  does_round s t (Settle n) (NotYet f) d a b c = (by s t s d.2 (here s)).round
  does_round s t event reply d a b c = absurd d

  pub step_roots : (s t : State) (event : Event) (reply : Reply) → Step S F s event reply t → RootsAfter reply s t
  step_roots s t Issue (Refused f) (inl same) = (by s t s same.1 (here s)).roots
  step_roots s t Issue (Refused f) (inr fault) = ⊎_elim
      (λ (is : t ≡ record s { halted = true }).
      subst (λ (z : State). KeepsRoots s z) (sym is) (record { roots = refl; root = refl }))
      (λ w. subst (λ (z : State). KeepsRoots s z) (sym w.4) (record { roots = refl; root = refl })) fault.2
  step_roots s t End (Refused f) (inl same) = (by s t s same.1 (here s)).roots
  step_roots s t End (Refused f) (inr fault) =
      subst (λ (z : State). KeepsRoots s z) (sym fault.2) (record { roots = refl; root = refl })
  step_roots s t event (Refused f) d = (by s t s d.1 (here s)).roots
  step_roots s t event reply d = does_roots s t event reply d.1

  pub step_round : (s t : State) (event : Event) (reply : Reply) → Step S F s event reply t → event ≢ Begin
      → event ≢ Issue → event ≢ End → KeepsRound s t
  step_round s t Issue (Refused f) d a b c = absurd (b refl)
  step_round s t End (Refused f) d a b c = absurd (c refl)
  step_round s t event (Refused f) d a b c = (by s t s d.1 (here s)).round
  step_round s t event reply d a b c = does_round s t event reply d.1 a b c

  step_persistent : (s t : State) (event : Event) (reply : Reply) → Step S F s event reply t
      → ((n : ℕ) → reply ≢ Ended n) → t.world.persistent ≡ s.world.persistent
  step_persistent s t Issue (Refused f) (inl same) not = ap (λ (z : State). z.world.persistent) same.1
  step_persistent s t Issue (Refused f) (inr fault) not = ⊎_elim
      (λ (is : t ≡ record s { halted = true }). ap (λ (z : State). z.world.persistent) is)
      (λ w. ap (λ (z : State). z.world.persistent) w.4) fault.2
  step_persistent s t End (Refused f) (inl same) not = ap (λ (z : State). z.world.persistent) same.1
  step_persistent s t End (Refused f) (inr fault) not = ap (λ (z : State). z.world.persistent) fault.2
  step_persistent s t event (Refused f) d not = ap (λ (z : State). z.world.persistent) d.1
  step_persistent s t Begin Nothing d not = ap (λ (z : State). z.world.persistent) d.1.2
  step_persistent s t Begin (Begun members) d not = ap (λ (z : State). z.world.persistent) d.1.6
  step_persistent s t Begin reply d not = absurd d.1
  step_persistent s t Issue (Issued m) d not = ap (λ (z : State). z.world.persistent) d.1.3
  step_persistent s t Issue reply d not = absurd d.1
  step_persistent s t End (Ended n) d not = absurd (not n refl)
  step_persistent s t End reply d not = absurd d.1
  step_persistent s t event reply d not =
      (does_round s t event reply d.1 (λ e. cc e) (λ e. cc e) (λ e. cc e)).persistent

  more_roots : (s t : State) (reply : Reply) → RootsAfter reply s t → (r : Root) → r ∈ roots_of s.world.elements
      → r ∈ roots_of t.world.elements
  more_roots s t (Staged v) after r has = subst (λ (rs : List Root). r ∈ rs) (sym after.roots) (inr has)
  more_roots s t (Retired v) after r has = subst (λ (rs : List Root). r ∈ rs) (sym after.roots) (inr has)
  more_roots s t reply after r has = subst (λ (rs : List Root). r ∈ rs) (sym after.roots) has

  pub step_frontier : (s t : State) (event : Event) (reply : Reply) (n : ℕ) → Step S F s event reply t
      → ((k : ℕ) → reply ≢ Ended k) → IsFrontier S F s n → IsFrontier S F t n
  step_frontier s t event reply n step not (r, has, version, commands) =
      let count : t.count ≡ s.count = (history_on S F s t ((event, reply) ∷ []) (t, step, refl)).count in (
        r,
        more_roots s t reply (step_roots s t event reply step) r has,
        version ∙ ap (λ (P : Cut). P.root) (sym (step_persistent s t event reply step not)),
        commands ∙ ap (λ (c : ℕ). c + n) (sym count),
      )

  -- what is persistent stays so
  pub root_stays : (s t : State) (event : Event) (reply : Reply) → Sound S F s → Step S F s event reply t
      → s.world.persistent.root ≤ t.world.persistent.root
  root_stays s t End (Ended n) sound step =
      le_trans sound.safe.within.root (le_of_eq (sym (ap (λ (z : State). z.world.persistent.root) step.1.2)))
  root_stays s t event (Ended n) sound step = absurd step.1
  root_stays s t event reply sound step =
      le_of_eq (sym (ap (λ (P : Cut). P.root) (step_persistent s t event reply step (λ n e. cc e))))

  pub one_frontier : (s : State) (n k : ℕ) → Sound S F s → IsFrontier S F s n → IsFrontier S F s k → n ≡ k
  one_frontier s n k sound (r, has, version, commands) (q, also, same, count) =
      let up : r.commands ≤ q.commands = sound.safe.counts r q has also (le_of_eq (version ∙ sym same)) in
      let down : q.commands ≤ r.commands = sound.safe.counts q r also has (le_of_eq (same ∙ sym version)) in
      let a : r.commands ≡ s.count + n = commands in
      let b : q.commands ≡ s.count + k = count in
      omega arith

  pub frontier_rises : (s t : State) (event : Event) (reply : Reply) (n k : ℕ) → Sound S F s → Sound S F t
      → Step S F s event reply t → IsFrontier S F s n → IsFrontier S F t k → n ≤ k
  frontier_rises s t event reply n k sound then_sound step (r, has, version, commands) (q, also, same, count) =
      let there : r ∈ roots_of t.world.elements = more_roots s t reply (step_roots s t event reply step) r has in
      let older : r.version ≤ q.version = le_trans (le_of_eq version)
      (le_trans (root_stays s t event reply sound step) (le_of_eq (sym same))) in
      let fewer : r.commands ≤ q.commands = then_sound.safe.counts r q there also older in
      let at_open : t.count ≡ s.count = (history_on S F s t ((event, reply) ∷ []) (t, step, refl)).count in
      let a : r.commands ≡ s.count + n = commands in
      let b : q.commands ≡ t.count + k = count in
      omega arith
