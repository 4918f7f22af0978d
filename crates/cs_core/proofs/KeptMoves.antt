-- What a move of a chunk keeps.
use Rattle.std.proofs.Common.{◌≡◌, ◌∙◌, ◌⊎◌, false, inl, inr, ⊎_elim, ℕ, zero, suc, List, [], ◌∷◌, Some, None, Ok, Err, ap, arith, refl, sym, subst}
use Rattle.std.specs.Prelude.{OnErr, OnOk, Option, Result}
use Rattle.cs_refusal.specs.declared.refusals.Refusal.{Refusal as Code}
use Rattle.cs_deps.specs.State.{State as GraphState}
use Rattle.cs_extent.specs.Appended.{IsReady}
use Rattle.cs_extent.specs.State.{State as ExtentsState, shape}
use Rattle.cs_frame.specs.declared.identifiers.ShardId.{ShardId}
use Rattle.cs_frame.specs.Formats.{place_of}
use Rattle.cs_index.specs.State.{State as IndexState, id_number, index_of}
use Rattle.law_machine.specs.Device.{Shape}
use Rattle.law_machine.specs.Extents.{ForMove}
use Rattle.law_machine.specs.Index.{live_at}
use Rattle.law_machine.specs.Lists.{replaced, ◌∈◌}
use Rattle.law_refinement.specs.cs_reclaim.Moves.{IsMoved, chunk_frame}
use Rattle.cs_core.specs.Stored.{AreSwept, IsKept, StagesBehind, Stored}
use Rattle.cs_core.proofs.Kept.{inside_live, inside_set, kept_on, not_both, noted_on, places_there, same_live, swept_appended}
use Rattle.cs_core.proofs.Moves.{behind_none, last_root, moves_appended, moves_refused, root_appended}

-- what is in a list with one item replaced
in_replaced : {A : Type 0} (xs : List A) (k : ℕ) (y x : A) → x ∈ replaced xs k y → (x ≡ y) ⊎ (x ∈ xs)
in_replaced [] k y x among = absurd among
in_replaced (z ∷ xs) zero y x among = ⊎_elim (λ (e : x ≡ y). inl e) (λ (there : x ∈ xs). inr (inr there)) among
in_replaced (z ∷ xs) (suc k) y x among = ⊎_elim
    (λ (e : x ≡ z). inr (inl e))
    (λ (there : x ∈ replaced xs k y). ⊎_elim (λ (e : x ≡ y). inl e) (λ (old : x ∈ xs). inr (inr old)) (in_replaced xs k y x there))
    among

module _ (v : Stored) (kept : IsKept v) (together : (shape v.extents).apart ≡ false) (e : ℕ) (y : ExtentsState) (h : GraphState) (j : IndexState)
    (ready : IsReady y h.staging) (same : shape y ≡ shape v.extents) (format : j.format ≡ v.index.format) (limit : j.limit ≡ v.index.limit) where
  kept_move : (id k : ℕ) (payload : List ℕ) → IsMoved v.index v.extents v.graph e id k payload j y h → IsKept (record v { extents = y; graph = h; index = j })
  kept_move id k payload moved = kept_on v (record v { extents = y; graph = h; index = j }) kept
      (moves_appended false v.extents v.graph ForMove (chunk_frame v.extents payload) moved.to y h moved.appended) ready format limit
      (inside_set (shape v.extents) v.index id (replaced (live_at (index_of v.index) id) k (place_of moved.to)) j kept.places moved.entry (λ l among. ⊎_elim
      (λ (new : l ≡ place_of moved.to). places_there false v.extents v.graph ForMove (shape v.extents) (payload ∷ []) (moved.to ∷ []) y h refl (y, h, moved.appended, (refl, refl)) l (inl new))
      (λ (old : l ∈ live_at (index_of v.index) id). kept.places id l old)
      (in_replaced (live_at (index_of v.index) id) k (place_of moved.to) l among)))
      refl refl kept.numbers
      (swept_appended false v.extents y v.graph h ForMove (chunk_frame v.extents payload) moved.to together moved.appended kept.swept)
      (λ rule. absurd (not_both (shape y).apart (ap (λ (S : Shape). S.apart) same ∙ together) rule))
      (noted_on v kept h (root_appended false v.extents v.graph ForMove (chunk_frame v.extents payload) moved.to y h moved.appended) v.roots refl v.accepted (omega arith))

  pub kept_moved : (result : Result (Option (ShardId × ℕ)) Code) → (result ≡ Ok None → (j ≡ v.index) × (y ≡ v.extents) × (h ≡ v.graph))
      → ((id : ShardId) (k : ℕ) → result ≡ Ok (Some (id, k)) → (payload : List ℕ) × IsMoved v.index v.extents v.graph e (id_number id) k payload j y h)
      → OnErr result (j ≡ record v.index { room = j.room }) → OnErr result (y ≡ v.extents) → OnErr result (h ≡ record v.graph { room = h.room })
      → IsKept (record v { extents = y; graph = h; index = j })
  kept_moved (Ok None) unchanged moved refused unwritten unstaged =
      let u = unchanged refl in
      subst (λ (k : IndexState). IsKept (record v { extents = y; graph = h; index = k })) (sym u.0)
      (subst (λ (k : ExtentsState). IsKept (record v { extents = k; graph = h })) (sym u.1) (subst (λ (k : GraphState). IsKept (record v { graph = k })) (sym u.2) kept))
  kept_moved (Ok (Some (id, k))) unchanged moved refused unwritten unstaged = let m = moved id k refl in kept_move (id_number id) k m.0 m.1
  kept_moved (Err r) unchanged moved refused unwritten unstaged = kept_on v (record v { extents = y; graph = h; index = j }) kept
      (moves_refused v.extents v.graph y h unwritten unstaged) ready format limit
      (inside_live (shape v.extents) v.index j kept.places (same_live v.index j refused)) refl refl kept.numbers
      (subst (λ (x : ExtentsState). AreSwept x) (sym unwritten) kept.swept)
      (λ rule. absurd (not_both (shape y).apart (ap (λ (S : Shape). S.apart) same ∙ together) rule))
      (noted_on v kept h (ap last_root unstaged) v.roots refl v.accepted (omega arith))

-- the round that is out stays
pub move_round : (i : IndexState) (x : ExtentsState) (g : GraphState) (e : ℕ) (j : IndexState) (y : ExtentsState) (h : GraphState) (result : Result (Option (ShardId × ℕ)) Code)
    → (result ≡ Ok None → (j ≡ i) × (y ≡ x) × (h ≡ g))
    → ((id : ShardId) (k : ℕ) → result ≡ Ok (Some (id, k)) → (payload : List ℕ) × IsMoved i x g e (id_number id) k payload j y h)
    → OnErr result (h ≡ record g { room = h.room }) → h.round ≡ g.round
move_round i x g e j y h (Ok None) unchanged moved unstaged = ap (λ (k : GraphState). k.round) (unchanged refl).2
move_round i x g e j y h (Ok (Some (id, k))) unchanged moved unstaged =
    let m = moved id k refl in (moves_appended false x g ForMove (chunk_frame x m.0) m.1.to y h m.1.appended).round
move_round i x g e j y h (Err r) unchanged moved unstaged = ap (λ (k : GraphState). k.round) unstaged

-- what a move stages
pub move_behind : (i : IndexState) (x : ExtentsState) (g : GraphState) (e : ℕ) (j : IndexState) (y : ExtentsState) (h : GraphState) (result : Result (Option (ShardId × ℕ)) Code)
    → (result ≡ Ok None → (j ≡ i) × (y ≡ x) × (h ≡ g))
    → ((id : ShardId) (k : ℕ) → result ≡ Ok (Some (id, k)) → (payload : List ℕ) × IsMoved i x g e (id_number id) k payload j y h)
    → OnOk result (StagesBehind g.staging.pending h.staging.pending)
move_behind i x g e j y h (Ok None) unchanged moved = subst (λ (k : GraphState). StagesBehind g.staging.pending k.staging.pending) (sym (unchanged refl).2) (behind_none g.staging.pending)
move_behind i x g e j y h (Ok (Some (id, k))) unchanged moved =
    let m = moved id k refl in (moves_appended false x g ForMove (chunk_frame x m.0) m.1.to y h m.1.appended).behind
move_behind i x g e j y h (Err r) unchanged moved = tt
