-- What a sweep that begins or copies a chunk keeps where chunks and runs lie apart.
use Rattle.std.proofs.Common.{◌≡◌, ◌∙◌, inl, inr, ⊎_elim, ℕ, ◌≤◌, true, List, [], ◌∷◌, Some, None, Ok, Err, ap, arith, length, refl, sym, subst}
use Rattle.std.specs.Prelude.{◌↔◌, ◌==◌, OnErr, OnOk, Option, Result}
use Rattle.std.proofs.lemmas.Bool.{cases_eq, cond-false, ne_eqb}
use Rattle.cs_refusal.specs.declared.refusals.Refusal.{Refusal as Code}
use Rattle.cs_refusal.specs.declared.refusals.Refusal.TheVariants as code
use Rattle.cs_deps.specs.State.{State as GraphState}
use Rattle.cs_extent.specs.Appended.{IsReady}
use Rattle.cs_extent.specs.Frames.{AreResetsStaged}
use Rattle.cs_extent.specs.State.{State as ExtentsState, extents_of, shape}
use Rattle.cs_frame.specs.declared.identifiers.ShardId.{ShardId}
use Rattle.cs_frame.specs.Formats.{place_of}
use Rattle.cs_index.specs.State.{State as IndexState, id_number, index_of}
use Rattle.law_machine.proofs.ApartResets.{swept_below}
use Rattle.law_machine.specs.Apart.{MayNotBegin, is_any_swept, swept_aside}
use Rattle.law_machine.specs.Device.{Inside, Shape}
use Rattle.law_machine.specs.Element.{Copy}
use Rattle.law_machine.specs.Extents.{Extents, ForMove}
use Rattle.law_machine.specs.Lists.{◌∈◌}
use Rattle.law_refinement.proofs.cs_reclaim.Copying.{up_to_none}
use Rattle.law_refinement.specs.cs_reclaim.Copied.{AllUpTo, AreInOrder, IsCopyMade}
use Rattle.law_refinement.specs.cs_reclaim.Moves.{chunk_frame}
use Rattle.law_refinement.specs.cs_reclaim.Sweeps.{IsSweptApart}
use Rattle.cs_core.specs.Stored.{AreSwept, IsKept, IsKeptApart, StagesBehind, Stored}
use Rattle.cs_core.proofs.Kept.{kept_on, noted_on, only_apart, places_there, ready_after, swept_appended}
use Rattle.cs_core.proofs.Moves.{behind_none, last_root, moves_appended, moves_extents, moves_refused, root_appended}

-- ---- a sweep begins

module _ (v : Stored) (kept : IsKept v) (apart : (shape v.extents).apart ≡ true) (y : ExtentsState) (e : ℕ) (same : shape y ≡ shape v.extents) where
  apart_then : (shape y).apart ≡ true
  apart_then = ap (λ (S : Shape). S.apart) same ∙ apart

  module _ (none : is_any_swept (shape v.extents) (extents_of v.extents) ≡ true → ⊥) (empty : v.copies ≡ []) (begun : extents_of y ≡ swept_aside (shape v.extents) (extents_of v.extents) e)
      (swept : IsSweptApart (shape y) (extents_of y) e) where
    -- no other extent is marked
    only_one : (d : ℕ) → (extents_of y).swept d ≡ true → d ≡ e
    only_one d is = elim (cases_eq d e) [
      | inl at ↦ at
      | inr away ↦ (let was : (extents_of v.extents).swept d ≡ true
          = sym (ap (λ (u : Extents). u.swept d) begun ∙ cond-false (d == e) true ((extents_of v.extents).swept d) (ne_eqb d e away)) ∙ is in
          absurd (none (swept_below (extents_of v.extents).swept (shape v.extents).extents d ((kept.swept d was).1 apart).inside was)))
    ]

    kept_one : IsKept (record v { extents = y })
    kept_one = kept_on v (record v { extents = y }) kept (moves_extents v.extents v.graph y same)
        (ready_after v.extents y v.graph.staging same (subst (λ (u : Extents). AreResetsStaged u v.graph.staging) (sym begun) kept.ready.resets) kept.ready) refl refl kept.places refl refl kept.numbers
        (only_apart y apart_then (λ d is. subst (λ (k : ℕ). IsSweptApart (shape y) (extents_of y) k) (sym (only_one d is)) swept))
        (λ rule. record {
          runs = subst (λ (S : Shape). length v.index.runs ≤ S.most_runs) (sym same) (kept.apart apart).runs;
          one = λ d k is at. only_one d is ∙ sym (only_one k at);
          order = (kept.apart apart).order;
          up_to = λ d is. subst (λ (cs : List Copy). AllUpTo (index_of v.index) cs d) (sym empty) (up_to_none (index_of v.index) d);
          placed = λ c among. subst (λ (S : Shape). Inside S c.to.extent c.to.page) (sym same) ((kept.apart apart).placed c among);
          marks = (kept.apart apart).marks;
        })
        kept.noted

  pub kept_begun : {T : Type 0} (result : Result T Code) → OnOk result (extents_of y ≡ swept_aside (shape v.extents) (extents_of v.extents) e) → OnOk result (IsSweptApart (shape y) (extents_of y) e)
      → OnOk result (v.copies ≡ []) → (result ≡ Err code.NotSweepable) ↔ MayNotBegin (shape v.extents) (extents_of v.extents) v.copies e → OnErr result (y ≡ v.extents) → IsKept (record v { extents = y })
  kept_begun (Ok t) begun swept empty refused unwritten =
      kept_one (λ any. let clash : Ok t ≡ Err code.NotSweepable = refused.1 (inl any) in cc clash) empty begun swept
  kept_begun (Err r) begun swept empty refused unwritten = subst (λ (x : ExtentsState). IsKept (record v { extents = x })) (sym unwritten) kept

-- ---- a chunk is copied

-- where the copy lies is there
module _ (x : ExtentsState) (g : GraphState) (i : IndexState) (copies : List Copy) (e id k : ℕ) (payload : List ℕ) (after : List Copy) (y : ExtentsState) (h : GraphState)
    (made : IsCopyMade i x g copies e id k payload after y h) where
  copy_there : Inside (shape x) (place_of made.to).extent (place_of made.to).page
  copy_there = places_there true x g ForMove (shape x) (payload ∷ []) (made.to ∷ []) y h refl (y, h, made.appended, (refl, refl)) (place_of made.to) (inl refl)

  copies_there : ((c : Copy) → c ∈ copies → Inside (shape x) c.to.extent c.to.page) → (c : Copy) → c ∈ after → Inside (shape x) c.to.extent c.to.page
  copies_there old c among = ⊎_elim
      (λ (new : c ≡ record { id = id; chunk = k; from = made.from; to = place_of made.to }). subst (λ (d : Copy). Inside (shape x) d.to.extent d.to.page) (sym new) copy_there)
      (λ (before : c ∈ copies). old c before)
      (subst (λ (cs : List Copy). c ∈ cs) made.noted among)

  -- and means what the chunk meant
  copies_mean : ((c : Copy) → c ∈ copies → c.to.mark ≡ c.from.mark) → (c : Copy) → c ∈ after → c.to.mark ≡ c.from.mark
  copies_mean old c among = ⊎_elim
      (λ (new : c ≡ record { id = id; chunk = k; from = made.from; to = place_of made.to }). subst (λ (d : Copy). d.to.mark ≡ d.from.mark) (sym new) made.mark)
      (λ (before : c ∈ copies). old c before)
      (subst (λ (cs : List Copy). c ∈ cs) made.noted among)

module _ (v : Stored) (kept : IsKept v) (apart : (shape v.extents).apart ≡ true) (e : ℕ) (marked : (extents_of v.extents).swept e ≡ true) (y : ExtentsState) (h : GraphState) (after : List Copy)
    (ready : IsReady y h.staging) (same : shape y ≡ shape v.extents)
    (order : AreInOrder after) (up_to : AllUpTo (index_of v.index) after e) where
  -- the same extent is marked alone
  kept_copies : ((d : ℕ) → (extents_of y).swept d ≡ true → (extents_of v.extents).swept d ≡ true) → ((c : Copy) → c ∈ after → Inside (shape v.extents) c.to.extent c.to.page)
      → ((c : Copy) → c ∈ after → c.to.mark ≡ c.from.mark) → IsKeptApart y v.index after
  kept_copies fewer there mean = record {
    runs = subst (λ (S : Shape). length v.index.runs ≤ S.most_runs) (sym same) (kept.apart apart).runs;
    one = λ d k is at. (kept.apart apart).one d k (fewer d is) (fewer k at);
    order = order;
    up_to = λ d is. subst (λ (k : ℕ). AllUpTo (index_of v.index) after k) (sym ((kept.apart apart).one d e (fewer d is) marked)) up_to;
    placed = λ c among. subst (λ (S : Shape). Inside S c.to.extent c.to.page) (sym same) (there c among);
    marks = mean;
  }

  kept_copy : (id k : ℕ) (payload : List ℕ) → IsCopyMade v.index v.extents v.graph v.copies e id k payload after y h → IsKept (record v { extents = y; graph = h; copies = after })
  kept_copy id k payload made = kept_on v (record v { extents = y; graph = h; copies = after }) kept
      (moves_appended true v.extents v.graph ForMove (chunk_frame v.extents payload) made.to y h made.appended) ready refl refl kept.places
      refl refl kept.numbers
      (swept_appended true v.extents y v.graph h ForMove (chunk_frame v.extents payload) made.to apart made.appended kept.swept)
      (λ rule. kept_copies (λ d is. sym (ap (λ (u : Extents). u.swept d) made.appended.extents) ∙ is) (copies_there v.extents v.graph v.index v.copies e id k payload after y h made (kept.apart apart).placed)
      (copies_mean v.extents v.graph v.index v.copies e id k payload after y h made (kept.apart apart).marks))
      (noted_on v kept h (root_appended true v.extents v.graph ForMove (chunk_frame v.extents payload) made.to y h made.appended) v.roots refl v.accepted (omega arith))

  pub kept_copied : (result : Result (Option (ShardId × ℕ)) Code) → (result ≡ Ok None → (after ≡ v.copies) × (y ≡ v.extents) × (h ≡ v.graph))
      → ((id : ShardId) (k : ℕ) → result ≡ Ok (Some (id, k)) → (payload : List ℕ) × IsCopyMade v.index v.extents v.graph v.copies e (id_number id) k payload after y h)
      → OnErr result (after ≡ v.copies) → OnErr result (y ≡ v.extents) → OnErr result (h ≡ record v.graph { room = h.room })
      → IsKept (record v { extents = y; graph = h; copies = after })
  kept_copied (Ok None) unchanged copied refused unwritten unstaged =
      let u = unchanged refl in
      subst (λ (cs : List Copy). IsKept (record v { extents = y; graph = h; copies = cs })) (sym u.0)
      (subst (λ (k : ExtentsState). IsKept (record v { extents = k; graph = h })) (sym u.1) (subst (λ (k : GraphState). IsKept (record v { graph = k })) (sym u.2) kept))
  kept_copied (Ok (Some (id, k))) unchanged copied refused unwritten unstaged = let c = copied id k refl in kept_copy (id_number id) k c.0 c.1
  kept_copied (Err r) unchanged copied refused unwritten unstaged = kept_on v (record v { extents = y; graph = h; copies = after }) kept
      (moves_refused v.extents v.graph y h unwritten unstaged) ready refl refl kept.places refl refl kept.numbers
      (subst (λ (x : ExtentsState). AreSwept x) (sym unwritten) kept.swept)
      (λ rule. kept_copies (λ d is. ap (λ (x : ExtentsState). (extents_of x).swept d) (sym unwritten) ∙ is)
      (λ c among. (kept.apart apart).placed c (subst (λ (cs : List Copy). c ∈ cs) refused among))
      (λ c among. (kept.apart apart).marks c (subst (λ (cs : List Copy). c ∈ cs) refused among)))
      (noted_on v kept h (ap last_root unstaged) v.roots refl v.accepted (omega arith))

-- the round that is out stays
pub copy_round : (i : IndexState) (x : ExtentsState) (g : GraphState) (copies : List Copy) (e : ℕ) (after : List Copy) (y : ExtentsState) (h : GraphState) (result : Result (Option (ShardId × ℕ)) Code)
    → (result ≡ Ok None → (after ≡ copies) × (y ≡ x) × (h ≡ g))
    → ((id : ShardId) (k : ℕ) → result ≡ Ok (Some (id, k)) → (payload : List ℕ) × IsCopyMade i x g copies e (id_number id) k payload after y h)
    → OnErr result (h ≡ record g { room = h.room }) → h.round ≡ g.round
copy_round i x g copies e after y h (Ok None) unchanged copied unstaged = ap (λ (k : GraphState). k.round) (unchanged refl).2
copy_round i x g copies e after y h (Ok (Some (id, k))) unchanged copied unstaged =
    let c = copied id k refl in (moves_appended true x g ForMove (chunk_frame x c.0) c.1.to y h c.1.appended).round
copy_round i x g copies e after y h (Err r) unchanged copied unstaged = ap (λ (k : GraphState). k.round) unstaged

-- what a copy stages
pub copy_behind : (i : IndexState) (x : ExtentsState) (g : GraphState) (copies : List Copy) (e : ℕ) (after : List Copy) (y : ExtentsState) (h : GraphState) (result : Result (Option (ShardId × ℕ)) Code)
    → (result ≡ Ok None → (after ≡ copies) × (y ≡ x) × (h ≡ g))
    → ((id : ShardId) (k : ℕ) → result ≡ Ok (Some (id, k)) → (payload : List ℕ) × IsCopyMade i x g copies e (id_number id) k payload after y h)
    → OnOk result (StagesBehind g.staging.pending h.staging.pending)
copy_behind i x g copies e after y h (Ok None) unchanged copied = subst (λ (k : GraphState). StagesBehind g.staging.pending k.staging.pending) (sym (unchanged refl).2) (behind_none g.staging.pending)
copy_behind i x g copies e after y h (Ok (Some (id, k))) unchanged copied =
    let c = copied id k refl in (moves_appended true x g ForMove (chunk_frame x c.0) c.1.to y h c.1.appended).behind
copy_behind i x g copies e after y h (Err r) unchanged copied = tt
