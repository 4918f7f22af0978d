-- The rounds of a sync, one after another, and what is told of them.
use Rattle.std.proofs.Common.{◌≡◌, ◌∙◌, ℕ, ◌+◌, ◌-◌, ◌*◌, ◌^◌, ◌<◌, ◌≤◌, List, [], ◌∷◌, ◌++◌, length, sym, ap, subst, refl, inl, inr, arith, append_assoc, length-append, length-drop}
use Rattle.std.specs.Prelude.{◌↔◌, ◌≢◌, Bool, IsTrue, false, true, Option, Some, None, Result, Ok, Err, IfErr, IsErrAnd}
use Rattle.std.proofs.lemmas.List.{append-nil, length-map, map-append}
use Rattle.cs_deps.specs.declared.elements.Element.{Element}
use Rattle.cs_refusal.specs.declared.refusals.Refusal.{Refusal}
use Rattle.cs_disk.specs.declared.disk.PageDisk.{Ghosts as PageDisk}
use Rattle.cs_core.specs.declared.events.Event.{Event}
use Rattle.cs_core.specs.declared.events.Event.TheVariants.{End, Stage}
use Rattle.cs_core.specs.declared.events.Reply.{Reply}
use Rattle.cs_core.specs.declared.events.Reply.TheVariants.{Ended}
use Rattle.cs_core.specs.Replies.{MayAnswer}
use Rattle.cs_core.specs.Stored.{Stored}
use Rattle.cs_core.specs.Views.{View, kept}
use Rattle.cs_writeback.specs.declared.syncs.Stop.{Stop}
use Rattle.cs_writeback.specs.declared.syncs.Stop.TheVariants.{Refused}
use Rattle.cs_writeback.specs.Histories.{Goes, IsNoRefusal, IsStopped, Went}
use Rattle.cs_writeback.specs.Rounds.{Finishes, IsPart, IsStoppedAtDue, Turn, elements_of, events_of, events_of_all, issues, rounds_of}
use Rattle.cs_writeback.specs.Runs.{Ran}
use Rattle.cs_writeback.specs.Syncs.{AreTold, StopsInRounds, StopsLater, StopsSync, Syncs}
use Rattle.cs_writeback.proofs.Asked.{stage_does, staged_of}
use Rattle.cs_writeback.proofs.Histories.{stays_same, went_count, went_one, went_parts, went_then}
use Rattle.cs_writeback.proofs.Runs.{ran_none, ran_then}
use Rattle.cs_writeback.proofs.Turned.{due_later, went_turns}

-- one turn more
all_more : (turns : List Turn) (turn : Turn) → events_of_all (turns ++ turn ∷ []) ≡ events_of_all turns ++ events_of turn
all_more [] turn = append-nil (events_of turn)
all_more (t ∷ turns) turn = ap (λ (l : List (Event × Reply)). events_of t ++ l) (all_more turns turn) ∙ sym (append_assoc (events_of t) (events_of_all turns) (events_of turn))

-- each turn has two events at least
count_all : (turns : List Turn) → 2 * length turns ≤ length (events_of_all turns)
count_all [] = omega arith
count_all (t ∷ turns) =
    let last : List (Event × Reply) = (End, Ended t.frontier) ∷ [] in
    omega (arith, count_all turns, length-append (events_of t) (events_of_all turns), length-append (issues t.members) last)

-- nothing waits
pub none_left : {X : Type 0} (xs : List X) (b : Bool) → IsTrue b ↔ (xs ≢ []) → b ≡ false → xs ≡ []
none_left [] b waits is = refl
none_left (x ∷ xs) b waits is =
    let some : (x ∷ xs) ≢ [] = λ e. cc in
    let wrong : false ≡ true = subst IsTrue is (waits.1 some) in
    cc

-- it ended with this error
pub if_same : {T E : Type 0} (result : Result T E) (P : E → Type 0) (old : E) → IsErrAnd result (λ e. e ≡ old) → P old → IfErr result P
if_same (Ok v) P old is p = tt
if_same (Err e) P old is p = subst P (sym is) p

module _ {S : Type 0} (tells : S → ℕ → List Element → S → Type 0) where
  -- one round more is told
  told_more : (number : ℕ) (rounds : List (List Element)) (round : List Element) (before mid after : S) → AreTold tells number rounds before mid
      → tells mid (number + length rounds) round after → AreTold tells number (rounds ++ round ∷ []) before after
  told_more number [] round before mid after is told =
      let same : number + 0 ≡ number = omega arith in
      (after, subst (λ n. tells before n round after) same (subst (λ (s : S). tells s (number + 0) round after) is told), refl)
  told_more number (r ∷ rounds) round before mid after (next, first, rest) told =
      let same : number + length (r ∷ rounds) ≡ number + 1 + length rounds = omega arith in
      (next, first, told_more (number + 1) rounds round next mid after rest (subst (λ n. tells mid n round after) same told))

module _ {D S : Type 0} (disks : PageDisk D) (tells : S → ℕ → List Element → S → Type 0) where
  -- so many rounds were written and told
  pub record RoundsSoFar (old new : View D) (before after : S) (ended : ℕ) : Type 0 where
    pub turns : List Turn
    pub counted : ended ≡ length turns
    pub went : Went disks old (events_of_all turns) new
    pub told : AreTold tells 1 (rounds_of turns) before after
    pub ran : Ran disks old new

  pub no_rounds : (a : View D) (before : S) → RoundsSoFar a a before before 0
  no_rounds a before = record { turns = []; counted = refl; went = stays_same disks a; told = refl; ran = ran_none disks a }

  pub so_far_more : (a b c : View D) (before mid after : S) (ended : ℕ) (round : List Element) → RoundsSoFar a b before mid ended
      → (turn : Turn) × (elements_of turn ≡ round) × Went disks b (events_of turn) c → Ran disks b c → tells mid (ended + 1) round after → RoundsSoFar a c before after (ended + 1)
  so_far_more a b c before mid after ended round so (turn, is, w) ran told =
      let rounds = rounds_of so.turns in
      let all : Went disks a (events_of_all so.turns ++ events_of turn) c = went_then disks (events_of_all so.turns) (events_of turn) a b c so.went w in
      let one : length (so.turns ++ turn ∷ []) ≡ length so.turns + length (turn ∷ []) = length-append so.turns (turn ∷ []) in
      let same : length rounds ≡ length so.turns = length-map so.turns elements_of in
      let number : ended + 1 ≡ 1 + length rounds = omega (arith, so.counted, same) in
      let more : rounds_of (so.turns ++ turn ∷ []) ≡ rounds ++ round ∷ [] = map-append elements_of so.turns (turn ∷ []) ∙ ap (λ (l : List Element). rounds ++ l ∷ []) is in record {
        turns = so.turns ++ turn ∷ [];
        counted = omega (arith, so.counted, one);
        went = subst (λ (l : List (Event × Reply)). Went disks a l c) (sym (all_more so.turns turn)) all;
        told = subst (λ (l : List (List Element)). AreTold tells 1 l before after) (sym more)
            (told_more tells 1 rounds round before mid after so.told (subst (λ n. tells mid n round after) number told));
        ran = ran_then disks a b c so.ran ran;
      }

  -- no round is out between two
  pub none_between : (a b : View D) (before after : S) (ended : ℕ) → a.store.out ≡ None → RoundsSoFar a b before after ended → b.store.out ≡ None
  none_between a b before after ended none so = (went_turns disks so.turns a b so.went).1 none

  -- what is due of the next round is refused
  pub stops_in_rounds : (a b c : View D) (before after : S) (ended : ℕ) (r : Refusal) → RoundsSoFar a b before after ended
      → (part : List (Event × Reply)) × IsPart part × IsStoppedAtDue disks b part r c
      → (turns : List Turn) × (part : List (Event × Reply)) × IsPart part × IsStoppedAtDue disks a (events_of_all turns ++ part) r c × AreTold tells 1 (rounds_of turns) before after
  stops_in_rounds a b c before after ended r so (part, is, s) =
      (so.turns, part, is, due_later disks (events_of_all so.turns) part a b c r so.went s, so.told)

  -- no history has the events of so many rounds
  pub not_so_many : (a b : View D) (before after : S) (ended base : ℕ) (events : List (Event × Reply)) → RoundsSoFar a b before after ended
      → base ≡ b.base → base < 2 ^ 63 → events ≡ kept b → length events < 2 ^ 64 → 2 ^ 64 - 1 ≤ ended → ⊥
  not_so_many a b before after ended base events so is_base few is_kept fits many =
      let are : length (kept b) ≡ length b.history - b.base = length-drop b.base b.history in
      omega (arith, are, went_count disks (events_of_all so.turns) a b so.went, so.counted, count_all so.turns, is_base, few, ap length is_kept, fits, many)

module _ {D : Type 0} (disks : PageDisk D) where
  -- the round that was out is ended
  pub finishes_none : (old ended : View D) (finished : Option ℕ) → Finishes disks old finished ended → ended.store.out ≡ None
  finishes_none old ended None (none, stays) = ap (λ (v : Stored). v.out) stays.0.store ∙ none
  finishes_none old ended (Some frontier) (some, members, w) =
      let last = (went_parts disks (issues members) ((End, Ended frontier) ∷ []) old ended w).2 in
      ap (λ (v : Stored). v.out) last.4.0.store ∙ last.3.writeback.out

  -- nothing is out after the Stage
  pub none_staged : (old ended staged : View D) (finished : Option ℕ) (reply : Reply) → Finishes disks old finished ended
      → Goes disks ended Stage reply staged → MayAnswer Stage reply → IsNoRefusal reply → staged.store.out ≡ None
  none_staged old ended staged finished reply finishes g may none =
      (stage_does ended.store staged.store reply may none g.writeback).1 ∙ finishes_none old ended finished finishes

  -- the Stage is refused
  abbrev pub stage_refused : (old ended new : View D) (finished : Option ℕ) (r : Refusal) → Finishes disks old finished ended → IsStopped disks ended [] Stage r new
      → StopsLater disks old r new
  stage_refused old ended new finished r finishes s = record { finished = finished; ended = ended; finishes = finishes; turns = []; stopped = inl (refl, s) }

  -- an event of a round is refused
  abbrev pub round_refused : (old ended staged new : View D) (finished : Option ℕ) (reply : Reply) (turns : List Turn) (part : List (Event × Reply)) (r : Refusal)
      → Finishes disks old finished ended → Goes disks ended Stage reply staged → MayAnswer Stage reply → IsNoRefusal reply → IsPart part
      → IsStoppedAtDue disks staged (events_of_all turns ++ part) r new → StopsLater disks old r new
  round_refused old ended staged new finished reply turns part r finishes g may none is s = record {
    finished = finished;
    ended = ended;
    finishes = finishes;
    turns = turns;
    stopped = inr (reply, staged_of reply may none, part, is, due_later disks ((Stage, reply) ∷ []) (events_of_all turns ++ part) ended staged new r (went_one disks ended staged Stage reply g) s);
  }

  pub rounds_refused : {S E : Type 0} (tells : S → ℕ → List Element → S → Type 0) (old ended staged new : View D) (before after : S) (finished : Option ℕ) (reply : Reply) (stop : Stop E) (r : Refusal)
      → stop ≡ Refused r → Finishes disks old finished ended → Goes disks ended Stage reply staged → MayAnswer Stage reply → IsNoRefusal reply
      → StopsInRounds disks tells staged new before after stop → StopsSync disks old r new
  rounds_refused tells old ended staged new before after finished reply stop r is finishes g may none stops =
      let s = subst (StopsInRounds disks tells staged new before after) is stops in
      inr (round_refused old ended staged new finished reply s.0 s.1 r finishes g may none s.2 s.3)

  -- all is written
  abbrev pub written : (old ended staged new : View D) (finished : Option ℕ) (reply : Reply) (turns : List Turn) → Finishes disks old finished ended
      → Goes disks ended Stage reply staged → MayAnswer Stage reply → IsNoRefusal reply → Went disks staged (events_of_all turns) new
      → new.store.graph.staging.pending.waiting ≡ [] → Syncs disks old new
  written old ended staged new finished reply turns finishes g may none w waits = record {
    finished = finished;
    ended = ended;
    finishes = finishes;
    staged = staged;
    reply = reply;
    stages = went_one disks ended staged Stage reply g;
    is_staged = staged_of reply may none;
    turns = turns;
    turned = w;
    none_out = (went_turns disks turns staged new w).1 (none_staged old ended staged finished reply finishes g may none);
    none_waiting = waits;
    none_changed = ap (λ (i : Rattle.cs_core.specs.cs_index.State.State). i.table) (went_turns disks turns staged new w).2 ∙ (stage_does ended.store staged.store reply may none g.writeback).0;
  }
