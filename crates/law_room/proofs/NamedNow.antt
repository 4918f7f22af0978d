-- Where the table is empty a root names what lives now, and no event drops a root: in room.
use Rattle.std.proofs.Common.{◌≡◌, inl, inr, ℕ, ◌≤◌, Bool, true, false, not, ◌||◌, List, [], ◌∷◌, ◌++◌, map, drop, Option, Some, None, le_refl, le_trans, le_of_eq, refl, sym, ap, ap₂, ◌∙◌, subst, arith}
use Rattle.std.specs.Prelude.{is_some}
use Rattle.std.proofs.lemmas.Bool.{and_parts, cases_eq, not-true, or_parts, true≢false}
use Rattle.law_machine.specs.Device.{Shape}
use Rattle.law_machine.specs.Formats.{Formats}
use Rattle.law_machine.specs.Lists.{◌∈◌}
use Rattle.law_machine.specs.State.{Abandon, Abandoned, Accepted, BeginSweep, Delete, Event, MoveOne, Moved, Put, Reply, Retire, Retired, Stage, Staged, Sweeping}
use Rattle.law_room.proofs.Chunks.{forget_on}
use Rattle.law_room.proofs.Given.{pointer_here, pointer_there}
use Rattle.law_room.proofs.Resets.{kept_pointer}
use Rattle.law_room.proofs.Standing.{named_stands, writing}
use Rattle.law_room.specs.Events.{Stages, Writes, abandoned, any_copied, dropped, forget, freed, given, is_blank, is_held, opened, place_of, settle, settled, staged, with_copy}
use Rattle.law_room.specs.Invariant.{Keeps}
use Rattle.law_room.specs.OfMachine.{InRoom}
use Rattle.law_room.specs.RootsOfMachine.{IsNamedNow, NamesNow}
use Rattle.law_room.specs.Rooms.{Chunk, Holding, OfChunks, OfRuns, Room, Root, Sweep, any_on, fresh_of, has, is_at, is_named}

pub forget_twice : (cs : List Chunk) → map forget (map forget cs) ≡ map forget cs
forget_twice [] = refl
forget_twice (c ∷ cs) = ap (λ (xs : List Chunk). forget c ∷ xs) (forget_twice cs)

forget_settled : (c : Chunk) (o : Option ℕ) → c.copy ≡ o → is_some o ≡ false → forget (settle c) ≡ forget c
forget_settled c None is off = ap (λ (o : Option ℕ). record c { extent = place_of o c.extent; copy = None }) is
forget_settled c (Some e) is on = absurd (true≢false on)

settled_same : (cs : List Chunk) → any_copied cs ≡ false → map forget (map settle cs) ≡ map forget cs
settled_same [] off = refl
settled_same (c ∷ cs) off = let parts = or_parts (is_some c.copy) (any_copied cs) off in
    ap₂ (λ (x : Chunk) (xs : List Chunk). x ∷ xs) (forget_settled c c.copy refl parts.0) (settled_same cs parts.1)

middle_same : (xs ys : List Chunk) (c d : Chunk) → forget d ≡ forget c → map forget (xs ++ d ∷ ys) ≡ map forget (xs ++ c ∷ ys)
middle_same [] ys c d same = ap (λ (x : Chunk). x ∷ map forget ys) same
middle_same (x ∷ xs) ys c d same = ap (λ (zs : List Chunk). forget x ∷ zs) (middle_same xs ys c d same)

given_le : (s : Room) (e k : ℕ) (kind : Holding) (d : ℕ) → s.pointer d ≤ (given s e k kind).pointer d
given_le s e k kind d = elim (cases_eq d e) [
  | inl same ↦ subst (λ (x : ℕ). s.pointer x ≤ (given s e k kind).pointer x) (sym same)
      (rw (pointer_here s e k kind) (omega arith))
  | inr other ↦ rw (pointer_there s e k kind d other) (le_refl _)
]

-- where p names something, a chunk or a run lies now
pub named_lies : (r : Room) (p : Root) → NamesNow r p → (e : ℕ) → is_named p e ≡ (any_on r.chunks e || has r.runs e)
named_lies r p names e = ap₂ (λ (a b : Bool). a || b)
    (sym (forget_on p.chunks e) ∙ ap (λ (cs : List Chunk). any_on cs e) names.chunks ∙ forget_on r.chunks e)
    (ap (λ (ds : List ℕ). has ds e) names.runs)

names_move : (s t : Room) (p : Root) → map forget t.chunks ≡ map forget s.chunks → t.runs ≡ s.runs
    → ((e : ℕ) → (any_on s.chunks e || has s.runs e) ≡ true → s.pointer e ≤ t.pointer e) → NamesNow s p → NamesNow t p
names_move s t p chunks runs given names = record {
  chunks = names.chunks ∙ sym chunks;
  runs = names.runs ∙ sym runs;
  given = λ e on. le_trans (names.given e on) (given e (sym (named_lies s p names e) ∙ on));
}

not_blank : (s : Room) (e : ℕ) → (any_on s.chunks e || has s.runs e) ≡ true → is_blank s e ≡ false
not_blank s e on = go (any_on s.chunks e) (has s.runs e) on
  where
    go : (a b : Bool) → (a || b) ≡ true → not (a || (b || is_held s.sweep e)) ≡ false
    go true b on = refl
    go false true on = refl
    go false false wrong = absurd (true≢false (sym wrong))

freed_names : (s : Room) (p : Root) → NamesNow s p → NamesNow (freed s) p
freed_names s p names = names_move s (freed s) p refl refl
    (λ e on. le_of_eq (sym (kept_pointer s (is_blank s) e (not_blank s e on)))) names

-- the root that is staged over these runs
abbrev over : Room → List ℕ → Root
over s runs = record { chunks = s.chunks; runs = runs; pointers = s.pointer }

staged_names : (s : Room) (runs : List ℕ) → IsNamedNow (staged s runs)
staged_names s runs on = (
  over s runs,
  inl refl,
  freed_names (record s { runs = runs; rooted = true; roots = over s runs ∷ s.roots }) (over s runs)
      (record { chunks = refl; runs = refl; given = λ e named. le_refl _ }),
)

module _ (S : Shape) (J : ℕ) where
  stage_named : (s t : Room) (newest pages all : ℕ) → Stages S J s newest pages all t → IsNamedNow s → IsNamedNow t
  stage_named s t newest pages all (inl same) old = subst (λ (x : Room). IsNamedNow x) (sym same.1)
      (λ on. (let was = old same.0 in (was.0, was.1, freed_names s was.0 was.2)))
  stage_named s t newest pages all (inr (inl run)) old = subst (λ (x : Room). IsNamedNow x) (sym run.3)
      (staged_names (given s run.1 pages OfRuns) (run.1 ∷ drop newest s.runs))
  stage_named s t newest pages all (inr (inr (inl run))) old = subst (λ (x : Room). IsNamedNow x) (sym run.3)
      (staged_names (given s run.1 all OfRuns) (run.1 ∷ []))
  stage_named s t newest pages all (inr (inr (inr none))) old = subst (λ (x : Room). IsNamedNow x) (sym none.2)
      (staged_names s [])

  stage_roots : (s t : Room) (newest pages all : ℕ) → Stages S J s newest pages all t → (p : Root) → p ∈ s.roots → p ∈ t.roots
  stage_roots s t newest pages all (inl same) p there = subst (λ (x : Room). p ∈ x.roots) (sym same.1) there
  stage_roots s t newest pages all (inr (inl run)) p there = subst (λ (x : Room). p ∈ x.roots) (sym run.3) (inr there)
  stage_roots s t newest pages all (inr (inr (inl run))) p there = subst (λ (x : Room). p ∈ x.roots) (sym run.3) (inr there)
  stage_roots s t newest pages all (inr (inr (inr none))) p there = subst (λ (x : Room). p ∈ x.roots) (sym none.2) (inr there)

  settled_named : (s : Room) → IsNamedNow s → IsNamedNow (settled s)
  settled_named s old on =
      let parts = and_parts s.rooted (not (any_copied s.chunks)) on in
      let was = old parts.0 in (
        was.0,
        was.1,
        names_move s (settled s) was.0 (settled_same s.chunks (not-true _ parts.1)) refl
            (λ e lies. le_refl _) was.2,
      )

  move_named : (s : Room) (w : Sweep) (before : List Chunk) (c : Chunk) (behind : List Chunk) (e : ℕ) (fresh : Option ℕ)
      → s.chunks ≡ before ++ c ∷ behind → IsNamedNow s → IsNamedNow (with_copy S s w before c behind e fresh)
  move_named s w before c behind e fresh is old on = let was = old on in (
    was.0,
    was.1,
    names_move s (with_copy S s w before c behind e fresh) was.0
        (middle_same before behind c (record c { copy = Some e }) refl ∙ ap (map forget) (sym is)) refl
        (λ d lies. given_le s e c.pages OfChunks d) was.2,
  )

  abandon_named : (s : Room) (w : Sweep) → s.sweep ≡ Some w → Keeps S J s → IsNamedNow s → IsNamedNow (abandoned s w.fresh)
  abandon_named s w is keeps old on = let was = old on in (
    was.0,
    was.1,
    names_move s (abandoned s w.fresh) was.0 (forget_twice s.chunks) refl
        (λ e lies. le_of_eq (sym (kept_pointer (record s { chunks = map forget s.chunks; sweep = None }) (is_at w.fresh) e
        (ap (λ (o : Option Sweep). is_at (fresh_of o) e) (sym is) ∙ (named_stands S J s keeps e lies).1)))) was.2,
  )

  put_named : (s t : Room) (id : ℕ) (sizes : List ℕ) → Writes S (dropped s id) id sizes t → IsNamedNow t
  put_named s t id sizes writes on = absurd (true≢false
      (sym on ∙ (writing S J sizes (dropped s id) id t writes).rooted))

pub opened_named : (r : Root) (found : ℕ → ℕ) → ((e : ℕ) → is_named r e ≡ true → r.pointers e ≤ found e)
    → IsNamedNow (opened r found)
opened_named r found covers on = (
  r,
  inl refl,
  record {
    chunks = sym (forget_twice r.chunks);
    runs = refl;
    given = λ e named. rw named (covers e named);
  },
)

-- the events of the machine
module _ (S : Shape) (F : Formats) where
  pub event_named : (event : Event) (reply : Reply) (r q : Room) → InRoom S F event reply r q → Keeps S S.run_extents r
      → IsNamedNow r → IsNamedNow q
  event_named (Put id bytes) (Accepted n) r q is keeps old = put_named S S.run_extents r q id _ is.3.0
  event_named (Delete id) (Accepted n) r q is keeps old = subst (λ (x : Room). IsNamedNow x) (sym is)
      (λ on. absurd (true≢false (sym on)))
  event_named Stage (Staged v) r q is keeps old = stage_named S S.run_extents r q is.0 is.1 is.2 is.3 old
  event_named (BeginSweep e) Sweeping r q is keeps old = subst (λ (x : Room). IsNamedNow x) (sym is.3)
      (λ on. (let was = old on in (
        was.0,
        was.1,
        record { chunks = was.2.chunks; runs = was.2.runs; given = was.2.given },
      )))
  event_named (MoveOne e) (Moved id k) r q is keeps old = subst (λ (x : Room). IsNamedNow x) (sym is.10)
      (move_named S S.run_extents r is.0 is.1 is.2 is.3 is.4 is.5 is.7 old)
  event_named (Retire e) (Retired v) r q is keeps old = stage_named S S.run_extents (settled r) q is.0 is.1 is.2 is.3.3
      (settled_named S S.run_extents r old)
  event_named (Abandon e) Abandoned r q is keeps old = subst (λ (x : Room). IsNamedNow x) (sym is.2)
      (abandon_named S S.run_extents r is.0 is.1 keeps old)
  event_named event reply r q is keeps old = subst (λ (x : Room). IsNamedNow x) (sym is) old

  pub event_roots : (event : Event) (reply : Reply) (r q : Room) → InRoom S F event reply r q → (p : Root) → p ∈ r.roots
      → p ∈ q.roots
  event_roots (Put id bytes) (Accepted n) r q is p there = subst (λ (rs : List Root). p ∈ rs)
      (sym (writing S S.run_extents _ (dropped r id) id q is.3.0).roots) there
  event_roots (Delete id) (Accepted n) r q is p there = subst (λ (x : Room). p ∈ x.roots) (sym is) there
  event_roots Stage (Staged v) r q is p there = stage_roots S S.run_extents r q is.0 is.1 is.2 is.3 p there
  event_roots (BeginSweep e) Sweeping r q is p there = subst (λ (x : Room). p ∈ x.roots) (sym is.3) there
  event_roots (MoveOne e) (Moved id k) r q is p there = subst (λ (x : Room). p ∈ x.roots) (sym is.10) there
  event_roots (Retire e) (Retired v) r q is p there = stage_roots S S.run_extents (settled r) q is.0 is.1 is.2 is.3.3 p there
  event_roots (Abandon e) Abandoned r q is p there = subst (λ (x : Room). p ∈ x.roots) (sym is.2) there
  event_roots event reply r q is p there = subst (λ (x : Room). p ∈ x.roots) (sym is) there
