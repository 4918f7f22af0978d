-- The lines of a plan, one after another, and what they say.
use Rattle.std.proofs.Common.{None, inr, ◌≡◌, ◌∙◌, ℕ, ◌+◌, ◌<◌, List, [], ◌∷◌, ◌++◌, length, take, map, get_or, Vec, sym, ap, arith}
use Rattle.std.specs.Prelude.{Option, Result, Ok, Err, IfErr, OnOk}
use Rattle.std.specs.Global.{Global}
use Rattle.std.proofs.lemmas.List.{take_more, map-append, length-map, length-take-le}
use Rattle.std.proofs.lemmas.Option.{slice_get-get_or}
use Rattle.std.specs.Io.KnownBytes.{Appends}
use Rattle.cs_deps.specs.declared.elements.Element.{Element}
use Rattle.cs_refusal.specs.declared.refusals.Refusal.{Refusal}
use Rattle.cs_refusal.specs.declared.refusals.Refusal.TheVariants.{OutOfMemory}
use Rattle.cs_deps.specs.Pending.{Pending}
use Rattle.cs_deps.specs.Staging.{IsKept, Staging}
use Rattle.cs_deps.specs.State.{everything}
use Rattle.cs_deps.specs.Turns.{LeadTo}
use Rattle.cs_deps.proofs.InTurn.{are_queues, everything_is_all, in_turn_is_a_plan}
use Rattle.cs_disk.specs.declared.disk.PageDisk.{Ghosts as PageDisk}
use Rattle.cs_plan.specs.Best.{IsBestPlan}
use Rattle.cs_writeback.specs.cs_core.declared.events.Event.TheVariants.{Stage}
use Rattle.cs_writeback.specs.cs_core.declared.events.Reply.{Reply}
use Rattle.cs_writeback.specs.cs_core.Replies.{MayAnswer}
use Rattle.cs_writeback.specs.cs_core.Views.{View}
use Rattle.cs_writeback.specs.Histories.{Goes, IsNoRefusal}
use Rattle.cs_script.specs.Outputs.{round_line, round_lines}
use Rattle.cs_script.specs.Scripts.{IsPlanRefused, Stages}
use Rattle.cs_writeback.proofs.Asked.{staged_of}
use Rattle.cs_writeback.proofs.Histories.{went_one}
use Rattle.cs_script.proofs.Appended.{appends_same, appends_then}
use Rattle.cs_script.proofs.Rounds.{round_lines_more}

abbrev pub elements_of : List (Vec Element Global) → List (List Element)
elements_of rounds = map (λ (round : Vec Element Global). round.items) rounds

-- one round more is printed
pub one_round_more : (rounds : List (Vec Element Global)) (i : ℕ) (v : Vec Element Global) (members : List Element) (before mid after : Option (List ℕ)) → i < length rounds → v ≡ get_or rounds i v → members ≡ v.items
    → Appends before mid (round_lines 1 (elements_of (take i rounds))) → Appends mid after (round_line (i + 1) members) → Appends before after (round_lines 1 (elements_of (take (i + 1) rounds)))
one_round_more rounds i v members before mid after lt is same so_far printed =
    let first = elements_of (take i rounds) in
    let taken : take (i + 1) rounds ≡ take i rounds ++ v ∷ [] = take_more rounds i v lt ∙ ap (λ (r : Vec Element Global). take i rounds ++ r ∷ []) (sym is) in
    let more : elements_of (take (i + 1) rounds) ≡ first ++ members ∷ [] = ap elements_of taken ∙ map-append (λ (round : Vec Element Global). round.items) (take i rounds) (v ∷ []) ∙ ap (λ (l : List Element). first ++ l ∷ []) (sym same) in
    let number : i + 1 ≡ 1 + length first = omega (arith, length-map (take i rounds) (λ (round : Vec Element Global). round.items), length-take-le i rounds (omega (arith, lt))) in
    appends_same before after (round_lines 1 first ++ round_line (i + 1) members) (round_lines 1 (elements_of (take (i + 1) rounds)))
    (ap (λ n. round_lines 1 first ++ round_line n members) number ∙ sym (round_lines_more 1 first members) ∙ ap (round_lines 1) (sym more))
    (appends_then before mid after (round_lines 1 first) (round_line (i + 1) members) so_far printed)

-- the rounds that went out one after another are a best plan, too, with the chain of the one that was made before
pub best_in_turn : (s : Staging) → IsKept s → (h : Pending) (planned rounds : List (List Element)) (chain : List Element) → IsBestPlan s.pending (everything s) planned chain
    → LeadTo s.pending rounds h → h.waiting ≡ [] → IsBestPlan s.pending (everything s) rounds chain
best_in_turn s kept h planned rounds chain best lead none =
    let p = in_turn_is_a_plan s.pending h (everything s) rounds kept.staged (everything_is_all s kept) lead none in record {
      schedule = p.schedule;
      covers = p.covers;
      respects = p.respects;
      fewest = p.fewest;
      links = best.links;
      chain_count = omega (arith, best.chain_count, best.fewest rounds p.schedule p.respects p.covers, p.fewest planned best.schedule best.respects best.covers);
      no_empty = λ i d lt. ((are_queues s.pending kept.staged rounds h lead none).each i (get_or rounds i d) (slice_get-get_or rounds i d lt)).1;
      heights = p.heights;
    }

pub on_ok : {T E : Type 0} (r : Result T E) (P : Type 0) → P → OnOk r P
on_ok (Ok v) P p = p
on_ok (Err e) P p = tt

module _ {D : Type 0} (disks : PageDisk D) where
  -- the Stage before a plan
  pub stages : (old new : View D) (reply : Reply) → old.store.out ≡ None → Goes disks old Stage reply new → MayAnswer Stage reply → IsNoRefusal reply → Stages disks old new
  stages old new reply none g may done = (none, reply, staged_of reply may done, went_one disks old new Stage reply g)

  -- there is no memory for the plan
  pub plan_refused : {T : Type 0} (old new : View D) (result : Result T Refusal) → Stages disks old new → IfErr result (λ r. r ≡ OutOfMemory) → IfErr result (λ r. IsPlanRefused disks old new r)
  plan_refused old new (Ok v) staged is = tt
  plan_refused old new (Err r) staged is = inr (inr (staged, is))
