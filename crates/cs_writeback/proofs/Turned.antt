-- What rounds do to the graph and the index, and which of their events is due.
use Rattle.std.proofs.Common.{take_all, ◌≡◌, ◌≢◌, ◌∙◌, ℕ, ◌+◌, ◌-◌, ◌<◌, ◌≤◌, List, [], ◌∷◌, ◌++◌, Some, None, length, map, take, sym, ap, subst, refl, inl, inr, arith, append_assoc, length-append}
use Rattle.std.specs.Prelude.{IfErr, IfOk, Option, Result, Ok, Err}
use Rattle.std.proofs.lemmas.Bool.{cond-false, cond-true, le-ltb, lt-ltb}
use Rattle.std.proofs.lemmas.List.{append-nil, length-map, map-append}
use Rattle.cs_deps.specs.declared.elements.Element.{Element}
use Rattle.cs_refusal.specs.declared.refusals.Refusal.{Refusal}
use Rattle.cs_deps.specs.Pending.{Pending}
use Rattle.cs_deps.specs.Staging.{Staging, settled}
use Rattle.cs_deps.specs.State.{IsQueue}
use Rattle.cs_deps.specs.Turns.{LeadTo}
use Rattle.cs_disk.specs.declared.disk.PageDisk.{Ghosts as PageDisk}
use Rattle.cs_core.proofs.cs_index.Sorted.{take_at_get}
use Rattle.cs_core.specs.declared.events.Event.{Event}
use Rattle.cs_core.specs.declared.events.Event.TheVariants.{Begin, End, Issue}
use Rattle.cs_core.specs.declared.events.Reply.{Reply}
use Rattle.cs_core.specs.declared.events.Reply.TheVariants.{Begun, Ended, Issued}
use Rattle.cs_core.specs.Calls.{IsCall}
use Rattle.cs_core.specs.Replies.{MayAnswer}
use Rattle.cs_core.specs.Stored.{Stored, members_of}
use Rattle.cs_core.specs.Views.{View}
use Rattle.cs_core.specs.Writebacks.{IsRoundBegun, IsMemberIssued, IsRoundEnded}
use Rattle.cs_writeback.specs.Histories.{Goes, IsNoRefusal, IsStopped, Went}
use Rattle.cs_writeback.specs.Rounds.{HasWriteback, IsPart, IsStoppedAtDue, Members, Turn, elements_of, event_due, events_of, events_of_all, issues, rest_of_round, rounds_of, step_event}
use Rattle.cs_writeback.specs.Runs.{Ran}
use Rattle.cs_writeback.proofs.Asked.{issued_of}
use Rattle.cs_writeback.proofs.Histories.{stays_same, stopped_as, went_one, went_parts, went_then}
use Rattle.cs_writeback.proofs.Runs.{ran_call, ran_then}

-- so many members were issued, and nothing else has changed
pub record AreIssued (old new : Stored) (xs : List Element) : Type 0 where
  pub out : new.out ≡ old.out
  pub counted : new.issued ≡ old.issued + length xs
  pub taken : take new.issued (members_of old.out) ≡ take old.issued (members_of old.out) ++ xs
  pub pending : new.graph.staging.pending ≡ old.graph.staging.pending
  pub same_index : new.index ≡ old.index

-- a round went out and was ended
pub record IsTurned (old new : Stored) (round : List Element) : Type 0 where
  pub none : old.out ≡ None
  pub first : IsQueue old.graph.staging.pending 1 round
  pub some : 0 < length round
  pub out : new.out ≡ None
  pub pending : new.graph.staging.pending ≡ settled old.graph.staging.pending round
  pub same_index : new.index ≡ old.index

issued_none : (old : Stored) → AreIssued old old []
issued_none old = record { out = refl; counted = omega arith; taken = sym (append-nil (take old.issued (members_of old.out))); pending = refl; same_index = refl }

issued_more : (old mid new : Stored) (x : Element) (xs : List Element) → IsMemberIssued x old mid → AreIssued mid new xs → AreIssued old new (x ∷ xs)
issued_more old mid new x xs one rest =
    let one_taken : take mid.issued (members_of old.out) ≡ take old.issued (members_of old.out) ++ x ∷ [] =
    ap (λ n. take n (members_of old.out)) one.issued ∙ take_at_get (members_of old.out) old.issued x one.next in
    let rest_taken : take new.issued (members_of old.out) ≡ take mid.issued (members_of old.out) ++ xs =
    subst (λ (o : Option (List Element)). take new.issued (members_of o) ≡ take mid.issued (members_of o) ++ xs) one.out rest.taken in record {
      out = rest.out ∙ one.out;
      counted = omega (arith, rest.counted, one.issued);
      taken = rest_taken ∙ ap (λ l. l ++ xs) one_taken ∙ append_assoc (take old.issued (members_of old.out)) (x ∷ []) xs;
      pending = rest.pending ∙ ap (λ (s : Staging). s.pending) one.staging;
      same_index = rest.same_index ∙ one.same_index;
    }

-- which event is due: none of the round is out
pub begin_due : (out : Option (List Element)) (issued : ℕ) → out ≡ None → event_due out issued ≡ Begin
begin_due out issued none = ap (λ (o : Option (List Element)). event_due o issued) none

-- a member of it is left
pub issue_due : (out : Option (List Element)) (issued : ℕ) → issued < length (members_of out) → event_due out issued ≡ Issue
issue_due None issued lt = absurd (omega (arith, lt))
issue_due (Some round) issued lt = cond-true _ _ _ (lt-ltb issued (length round) lt)

-- none of them is
pub end_due : (out : Option (List Element)) (issued : ℕ) → out ≢ None → length (members_of out) ≤ issued → event_due out issued ≡ End
end_due None issued some all = absurd (some refl)
end_due (Some round) issued some all = cond-false _ _ _ (le-ltb issued (length round) all)

-- a round is out where what is due is no Begin
some_due : (out : Option (List Element)) (issued : ℕ) (event : Event) → event_due out issued ≡ event → event ≢ Begin → out ≢ None
some_due None issued event due other is = other (sym due)
some_due (Some round) issued event due other is = cc

take_whole : {A : Type 0} (n : ℕ) (xs : List A) → n ≡ length xs → take n xs ≡ xs
take_whole n xs e = take_all n xs (omega (arith, e))

some_length : (round : List Element) → round ≢ [] → 0 < length round
some_length [] some = absurd (some refl)
some_length (x ∷ xs) some = omega arith

-- a round that began, was issued and ended
turned : (v0 v1 v2 v3 : Stored) (round xs : List Element) (frontier : ℕ) → IsRoundBegun round v0 v1 → AreIssued v1 v2 xs → IsRoundEnded frontier v2 v3 → (xs ≡ round) × IsTurned v0 v3 round
turned v0 v1 v2 v3 round xs frontier begun issued ended =
    let members : members_of v1.out ≡ round = ap members_of begun.out in
    let members_then : members_of v2.out ≡ round = ap members_of issued.out ∙ members in
    let all : take v2.issued round ≡ round = take_whole v2.issued round (ended.complete ∙ ap length members_then) in
    let none : take v1.issued round ≡ [] = ap (λ n. take n round) begun.issued in
    let taken : take v2.issued round ≡ take v1.issued round ++ xs = subst (λ (l : List Element). take v2.issued l ≡ take v1.issued l ++ xs) members issued.taken in
    let same : xs ≡ round = sym (ap (λ l. l ++ xs) none) ∙ sym taken ∙ all in
    let before : v2.graph.staging.pending ≡ v0.graph.staging.pending = issued.pending ∙ ap (λ (s : Staging). s.pending) begun.staging in (
      same,
      record {
        none = begun.none;
        first = begun.first;
        some = some_length round begun.some;
        out = ended.out;
        pending = ap (λ (s : Staging). s.pending) ended.settles ∙ ap (λ (p : Pending). settled p (members_of v2.out)) before ∙ ap (settled v0.graph.staging.pending) members_then;
        same_index = ended.same_index ∙ issued.same_index ∙ begun.same_index;
      },
    )

module _ {D : Type 0} (disks : PageDisk D) where
  went_issues : (members : Members) (a b : View D) → Went disks a (issues members) b → AreIssued a.store b.store (map (λ m. m.0) members)
  went_issues [] a b s = subst (λ (v : Stored). AreIssued a.store v []) (sym s.0.store) (issued_none a.store)
  went_issues (m ∷ members) a b (before, after, s, g, w) =
      let one : IsMemberIssued m.0 a.store after.store = subst (λ (v : Stored). IsMemberIssued m.0 v after.store) s.0.store g.writeback in
      issued_more a.store after.store b.store m.0 (map (λ m. m.0) members) one (went_issues members after b w)

  went_rest : (round : List Element) (members : Members) (frontier : ℕ) (v0 : Stored) (a b : View D) → IsRoundBegun round v0 a.store → Went disks a (rest_of_round members frontier) b
      → (map (λ m. m.0) members ≡ round) × IsTurned v0 b.store round
  went_rest round members frontier v0 a b begun w =
      let r = went_parts disks (issues members) ((End, Ended frontier) ∷ []) a b w in
      let mid : View D = r.0 in
      let issued : AreIssued a.store mid.store (map (λ m. m.0) members) = went_issues members a mid r.1 in
      let last = r.2 in
      let ended : IsRoundEnded frontier mid.store last.1.store = subst (λ (v : Stored). IsRoundEnded frontier v last.1.store) last.2.0.store last.3.writeback in
      let ended_then : IsRoundEnded frontier mid.store b.store = subst (λ (v : Stored). IsRoundEnded frontier mid.store v) (sym last.4.0.store) ended in
      turned v0 a.store mid.store b.store round (map (λ m. m.0) members) frontier begun issued ended_then

  -- a turn does to the store what its round does
  pub went_turn : (turn : Turn) (a b : View D) → Went disks a (events_of turn) b → IsTurned a.store b.store (elements_of turn)
  went_turn turn a b (before, after, s, g, w) =
      let begun : IsRoundBegun (elements_of turn) a.store after.store = subst (λ (v : Stored). IsRoundBegun (elements_of turn) v after.store) s.0.store g.writeback in
      (went_rest (elements_of turn) turn.members turn.frontier a.store after b begun w).1

  -- a round that began and was then finished is a turn of its members
  pub turn_of : (round : List Element) (a b c : View D) → Goes disks a Begin (Begun round) b → (frontier : ℕ) → (members : Members) × Went disks b (rest_of_round members frontier) c
      → (turn : Turn) × (elements_of turn ≡ round) × Went disks a (events_of turn) c
  turn_of round a b c g frontier (members, w) =
      let same : map (λ m. m.0) members ≡ round = (went_rest round members frontier a.store b c g.writeback w).0 in
      let begin : Went disks a ((Begin, Begun round) ∷ rest_of_round members frontier) c = (a, b, stays_same disks a, g, w) in (
        record { members = members; frontier = frontier },
        same,
        subst (λ (l : List Element). Went disks a ((Begin, Begun l) ∷ rest_of_round members frontier) c) (sym same) begin,
      )

  -- turns one after another lead from what waited to what waits
  pub went_turns : (turns : List Turn) (a b : View D) → Went disks a (events_of_all turns) b
      → LeadTo a.store.graph.staging.pending (rounds_of turns) b.store.graph.staging.pending × (a.store.out ≡ None → b.store.out ≡ None) × (b.store.index ≡ a.store.index)
  went_turns [] a b s = (ap (λ (v : Stored). v.graph.staging.pending) s.0.store, λ none. ap (λ (v : Stored). v.out) s.0.store ∙ none, ap (λ (v : Stored). v.index) s.0.store)
  went_turns (turn ∷ turns) a c w =
      let parts = went_parts disks (events_of turn) (events_of_all turns) a c w in
      let b : View D = parts.0 in
      let t : IsTurned a.store b.store (elements_of turn) = went_turn turn a b parts.1 in
      let rest = went_turns turns b c parts.2 in (
        (t.first, t.some, subst (λ (p : Pending). LeadTo p (rounds_of turns) c.store.graph.staging.pending) t.pending rest.0),
        λ none. rest.1 t.out,
        rest.2 ∙ t.same_index,
      )

  -- so many members were issued
  pub record IssuedSoFar (old new : View D) (count : ℕ) : Type 0 where
    pub members : Members
    pub counted : count ≡ length members
    pub went : Went disks old (issues members) new
    pub ran : Ran disks old new

  -- one member more was issued
  pub one_issue_more : (a b c : View D) (count : ℕ) (reply : Reply) → IssuedSoFar a b count → Goes disks b Issue reply c
      → MayAnswer Issue reply → IsNoRefusal reply → IsCall disks b c → IssuedSoFar a c (count + 1)
  one_issue_more a b c count reply so g may none call =
      let r = issued_of reply may none in
      let one : Members = (r.0, r.1) ∷ [] in
      let last : Went disks b ((Issue, Issued r.0 r.1) ∷ []) c = subst (λ (x : Reply). Went disks b ((Issue, x) ∷ []) c) r.2 (went_one disks b c Issue reply g) in
      let all = went_then disks (issues so.members) ((Issue, Issued r.0 r.1) ∷ []) a b c so.went last in
      let more : issues (so.members ++ one) ≡ issues so.members ++ (Issue, Issued r.0 r.1) ∷ [] = map-append (λ (m : Element × ℕ). (Issue, Issued m.0 m.1)) so.members one in
      let longer : length (so.members ++ one) ≡ length so.members + length one = length-append so.members one in record {
        members = so.members ++ one;
        counted = omega (arith, so.counted, longer);
        went = subst (λ (l : List (Event × Reply)). Went disks a l c) (sym more) all;
        ran = ran_then disks a b c so.ran (ran_call disks b c call);
      }

  -- the round that is out is the same, and so many more of its members are issued
  so_many_issued : (a b : View D) (count : ℕ) → IssuedSoFar a b count → (b.store.out ≡ a.store.out) × (b.store.issued ≡ a.store.issued + count)
  so_many_issued a b count so =
      let are = went_issues so.members a b so.went in
      (are.out, omega (arith, are.counted, so.counted, length-map so.members (λ (m : Element × ℕ). m.0)))

  -- after these events what is due is refused
  at_due : (done : List (Event × Reply)) (a b c : View D) (event : Event) (r : Refusal) → Went disks a done b → HasWriteback b.store → step_event b.store ≡ event
      → IsStopped disks b [] event r c → IsStoppedAtDue disks a done r c
  at_due done a b c event r w has is s = record { asked = b; went = w; due = has; stopped = stopped_as disks b c event (step_event b.store) r (sym is) s }

  -- after further events
  pub due_later : (done more : List (Event × Reply)) (a b c : View D) (r : Refusal) → Went disks a done b → IsStoppedAtDue disks b more r c → IsStoppedAtDue disks a (done ++ more) r c
  due_later done more a b c r w s = record { asked = s.asked; went = went_then disks done more a b s.asked w s.went; due = s.due; stopped = s.stopped }

  -- the next member is refused
  pub issue_refused : (a b c : View D) (count left : ℕ) (r : Refusal) → left ≡ length (members_of a.store.out) - a.store.issued → count < left → IssuedSoFar a b count
      → IsStopped disks b [] Issue r c → (members : Members) × IsStoppedAtDue disks a (issues members) r c
  issue_refused a b c count left r is few so s =
      let now = so_many_issued a b count so in
      let same : length (members_of b.store.out) ≡ length (members_of a.store.out) = ap (λ (o : Option (List Element)). length (members_of o)) now.0 in
      let due : step_event b.store ≡ Issue = issue_due b.store.out b.store.issued (omega (arith, now.1, same, is, few)) in
      let some : b.store.out ≢ None = some_due b.store.out b.store.issued Issue due (λ e. cc) in
      (so.members, at_due (issues so.members) a b c Issue r so.went (λ none. absurd (some none)) due s)

  -- all are issued, and so the End is due
  pub all_issued : (a b : View D) (count left : ℕ) → a.store.out ≢ None → left ≡ length (members_of a.store.out) - a.store.issued → left ≤ count → IssuedSoFar a b count
      → step_event b.store ≡ End
  all_issued a b count left some is all so =
      let now = so_many_issued a b count so in
      let same : length (members_of b.store.out) ≡ length (members_of a.store.out) = ap (λ (o : Option (List Element)). length (members_of o)) now.0 in
      end_due b.store.out b.store.issued (λ none. some (sym now.0 ∙ none)) (omega (arith, now.1, same, is, all))

  -- the round has ended
  pub finished : (a b c : View D) (reply : Reply) (frontier : ℕ) → reply ≡ Ended frontier → (members : Members) × Went disks a (issues members) b
      → Goes disks b End reply c → (members : Members) × Went disks a (rest_of_round members frontier) c
  finished a b c reply frontier is (members, w) g =
      let last : Went disks b ((End, Ended frontier) ∷ []) c = subst (λ (x : Reply). Went disks b ((End, x) ∷ []) c) is (went_one disks b c End reply g) in
      (members, went_then disks (issues members) ((End, Ended frontier) ∷ []) a b c w last)

  -- the round ends where the End isn't refused
  pub finished_if : (a b c : View D) (r : Result ℕ Refusal) → (members : Members) × Went disks a (issues members) b
      → IfOk r (λ frontier. Goes disks b End (Ended frontier) c) → IfOk r (λ frontier. (members : Members) × Went disks a (rest_of_round members frontier) c)
  finished_if a b c (Ok frontier) so g = finished a b c (Ended frontier) frontier refl so g
  finished_if a b c (Err r) so g = tt

  -- and else it doesn't
  pub end_refused_if : (a b c : View D) (r : Result ℕ Refusal) → (members : Members) × Went disks a (issues members) b → step_event b.store ≡ End
      → IfErr r (λ refusal. IsStopped disks b [] End refusal c) → IfErr r (λ refusal. (members : Members) × IsStoppedAtDue disks a (issues members) refusal c)
  end_refused_if a b c (Ok frontier) so due s = tt
  end_refused_if a b c (Err r) (members, w) due s =
      let some : b.store.out ≢ None = some_due b.store.out b.store.issued End due (λ e. cc) in
      (members, at_due (issues members) a b c End r w (λ none. absurd (some none)) due s)

  -- the same, with the reply to the Begin
  pub turn_from : (round : List Element) (a b c : View D) (reply : Reply) → reply ≡ Begun round → Goes disks a Begin reply b → (frontier : ℕ) → (members : Members) × Went disks b (rest_of_round members frontier) c
      → (turn : Turn) × (elements_of turn ≡ round) × Went disks a (events_of turn) c
  turn_from round a b c reply is g frontier rest = turn_of round a b c (subst (λ (x : Reply). Goes disks a Begin x b) is g) frontier rest

  -- a round that began is out
  pub begun_is_out : (round : List Element) (a b : View D) (reply : Reply) → reply ≡ Begun round → Goes disks a Begin reply b → b.store.out ≢ None
  begun_is_out round a b reply is g none =
      let begun : IsRoundBegun round a.store b.store = (subst (λ (x : Reply). Goes disks a Begin x b) is g).writeback in
      let wrong : Some round ≡ None = sym begun.out ∙ none in
      cc

  -- what is due of the round that began is refused
  pub part_refused : (round : List Element) (a b c : View D) (reply : Reply) (r : Refusal) → reply ≡ Begun round → Goes disks a Begin reply b
      → (members : Members) × IsStoppedAtDue disks b (issues members) r c
      → (part : List (Event × Reply)) × IsPart part × IsStoppedAtDue disks a part r c
  part_refused round a b c reply r is g (members, s) =
      let begun : Went disks a ((Begin, Begun round) ∷ []) b = subst (λ (x : Reply). Went disks a ((Begin, x) ∷ []) b) is (went_one disks a b Begin reply g) in
      ((Begin, Begun round) ∷ issues members, inr (round, members, refl), due_later ((Begin, Begun round) ∷ []) (issues members) a b c r begun s)

  -- the round can't begin, though something waits
  pub begin_refused : (a c : View D) (r : Refusal) → a.store.out ≡ None → a.store.graph.staging.pending.waiting ≢ [] → IsStopped disks a [] Begin r c
      → (part : List (Event × Reply)) × IsPart part × IsStoppedAtDue disks a part r c
  begin_refused a c r none waits s =
      ([], inl refl, at_due [] a a c Begin r (stays_same disks a) (λ _. waits) (begin_due a.store.out a.store.issued none) s)
