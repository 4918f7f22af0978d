-- What was put since a core was opened is what its places mean, whatever was done meanwhile.
use Rattle.std.proofs.Common.{◌≡◌, ◌⊎◌, inl, inr, ◌∙◌, ℕ, ◌==◌, Bool, true, eq-eqb, ne_eqb, List, [], ◌∷◌, ◌++◌, None, Some, Ok, Err, map, refl, sym, ap, subst}
use Rattle.std.proofs.lemmas.Bool.{cases_eq, cond-false, cond-true}
use Rattle.std.specs.Prelude.{OnOk, Option, Result}
use Rattle.cs_core.proofs.TwoTexts.{same_or_two}
use Rattle.cs_chunk.specs.Chunks.{AreMeant}
use Rattle.cs_refusal.specs.declared.refusals.Refusal.{Refusal as Code}
use Rattle.cs_deps.specs.State.{State as GraphState}
use Rattle.cs_disk.specs.declared.disk.PageDisk.{Ghosts as PageDisk}
use Rattle.cs_extent.specs.Appended.{AreAppendedBy}
use Rattle.cs_extent.specs.State.{IsWhole, State as ExtentsState, shape}
use Rattle.cs_frame.specs.declared.identifiers.ShardId.{ShardId}
use Rattle.cs_frame.specs.declared.locators.Locator.{Locator}
use Rattle.cs_frame.specs.Formats.{as_locator, formats_of, place_of}
use Rattle.cs_index.specs.State.{IsSet, State as IndexState, id_number, index_of}
use Rattle.law_machine.proofs.Payloads.{payloads_bytes}
use Rattle.law_machine.specs.Append.{chunk_frames}
use Rattle.law_machine.specs.Device.{Shape}
use Rattle.law_machine.specs.Element.{Locator as Place}
use Rattle.law_machine.specs.Events.{ArePayloads}
use Rattle.law_machine.specs.Extents.{ForPut}
use Rattle.law_machine.specs.Geometry.{marks_in}
use Rattle.law_machine.specs.Index.{joined_bodies, live_at}
use Rattle.law_machine.specs.State.{Command}
use Rattle.law_refinement.specs.cs_reclaim.Moves.{IsMoved}
use Rattle.law_refinement.proofs.Shapes.{store_format}
use Rattle.cs_core.specs.declared.events.Event.{Event}
use Rattle.cs_core.specs.declared.events.Event.TheVariants.{Delete, Put}
use Rattle.cs_core.specs.declared.events.Reply.{Reply}
use Rattle.cs_core.specs.declared.events.Reply.TheVariants.{Accepted}
use Rattle.cs_core.specs.Checkpoints.{Replaces}
use Rattle.cs_core.specs.Lookups.{AreMeantBytes, SameOrTwoAgree}
use Rattle.cs_core.specs.Meanings.{command_said, commands_said}
use Rattle.cs_core.specs.Puts.{ArePutsMeant, ChangesMeaning, MeansTheSame, MeansTheSameBut, marks_at, newest_command}
use Rattle.cs_core.specs.Stored.{Stored}
use Rattle.cs_core.specs.Views.{Applies, IsUntouched, View}
use Rattle.cs_core.proofs.Composing.{said_more}
use Rattle.cs_core.proofs.Gets.{meant_found}
use Rattle.cs_core.proofs.PutsMeant.{marks_as, meant_as, moved_means, placed_meant, set_here}

-- ---- one event

-- what was put is what its places mean
pub put_means : (v w : Stored) → IsWhole v.extents → (b : Bool) (id command : ℕ) (bytes : List ℕ) (cs : List (List ℕ)) (ls : List Locator)
    → ArePayloads (shape v.extents) (formats_of (shape v.extents)) id command bytes cs
    → AreAppendedBy b v.extents v.graph ForPut (chunk_frames (shape v.extents) (formats_of (shape v.extents)) cs) ls w.extents w.graph
    → shape w.extents ≡ shape v.extents → IsSet v.index id (map place_of ls) w.index → AreMeantBytes w id bytes
put_means v w whole b id command bytes cs ls are all same set =
    let meant : AreMeant (shape v.extents) ls cs = placed_meant b v.extents w.extents v.graph w.graph ForPut (shape v.extents) cs ls refl all in
    let joins : joined_bodies (formats_of (shape v.extents)) cs ≡ bytes = payloads_bytes (shape v.extents) (formats_of (shape v.extents)) (store_format v.extents whole) id command bytes cs are in
    meant_found w id ls (set_here v.index w.index id (map place_of ls) set) bytes (
      cs,
      subst (λ (S : Shape). AreMeant S ls cs) (sym same) meant,
      sym joins ∙ ap (λ (S : Shape). joined_bodies (formats_of S) cs) (sym same),
    )

-- a move leaves what places mean
pub move_means : (i : IndexState) (x : ExtentsState) (g : GraphState) (e : ℕ) (j : IndexState) (y : ExtentsState) (h : GraphState) (result : Result (Option (ShardId × ℕ)) Code)
    → (result ≡ Ok None → (j ≡ i) × (y ≡ x) × (h ≡ g))
    → ((id : ShardId) (k : ℕ) → result ≡ Ok (Some (id, k)) → (payload : List ℕ) × IsMoved i x g e (id_number id) k payload j y h)
    → OnOk result (MeansTheSame i j)
move_means i x g e j y h (Ok None) unchanged moved = λ d. ap (λ (k : IndexState). marks_at k d) (unchanged refl).0
move_means i x g e j y h (Ok (Some (id, k))) unchanged moved = let m = moved id k refl in moved_means i j x y g h e (id_number id) k m.0 m.1
move_means i x g e j y h (Err r) unchanged moved = tt

-- ---- a history

module _ (v w : Stored) (same : shape w.extents ≡ shape v.extents) where
  -- where the newest of these commands put bytes, its places mean them
  abbrev Meant : List Command → Stored → Type 0
  Meant cs u = (id : ℕ) (bytes : List ℕ) → newest_command cs id ≡ Some (Some bytes) → AreMeantBytes u id bytes

  -- places with the same marks mean the same bytes
  same_bytes : (id : ℕ) (bytes : List ℕ) → marks_at w.index id ≡ marks_at v.index id → AreMeantBytes v id bytes → AreMeantBytes w id bytes
  same_bytes id bytes marks meant =
      let old : List Place = live_at (index_of v.index) id in
      let new : List Place = live_at (index_of w.index) id in (
        meant.0,
        subst (λ (S : Shape). AreMeant S (map as_locator new) meant.0) (sym same)
            (meant_as (shape v.extents) (map as_locator old) (map as_locator new) meant.0 (marks_as new ∙ marks ∙ sym (marks_as old)) meant.1),
        meant.2 ∙ ap (λ (S : Shape). joined_bodies (formats_of S) meant.0) (sym same),
      )

  put_kept : (k : ℕ) (b : List ℕ) (cs : List Command) → AreMeantBytes w k b → MeansTheSameBut k v.index w.index → Meant cs v → Meant ((k, Some b) ∷ cs) w
  put_kept k b cs new others meant id bytes newest = elim (cases_eq k id) [
    | inl here ↦
        let is : Some (Some b) ≡ Some (Some bytes) = sym (cond-true (k == id) (Some (Some b)) (newest_command cs id) (eq-eqb k id here)) ∙ newest in
        subst (λ (n : ℕ). AreMeantBytes w n bytes) here (subst (λ (c : List ℕ). AreMeantBytes w k c) (let e : b ≡ bytes = cc is in e) new)
    | inr other ↦ same_bytes id bytes (others id (λ e. other (sym e)))
        (meant id bytes (sym (cond-false (k == id) (Some (Some b)) (newest_command cs id) (ne_eqb k id other)) ∙ newest))
  ]

  delete_kept : (k : ℕ) (cs : List Command) → MeansTheSameBut k v.index w.index → Meant cs v → Meant ((k, None) ∷ cs) w
  delete_kept k cs others meant id bytes newest = elim (cases_eq k id) [
    | inl here ↦
        let clash : Some None ≡ Some (Some bytes) = sym (cond-true (k == id) (Some None) (newest_command cs id) (eq-eqb k id here)) ∙ newest in absurd (cc clash)
    | inr other ↦ same_bytes id bytes (others id (λ e. other (sym e)))
        (meant id bytes (sym (cond-false (k == id) (Some None) (newest_command cs id) (ne_eqb k id other)) ∙ newest))
  ]

  stay_kept : MeansTheSame v.index w.index → (cs : List Command) → Meant cs v → Meant cs w
  stay_kept means cs meant id bytes newest = same_bytes id bytes (means id) (meant id bytes newest)

  command_kept : (event : Event) (reply : Reply) → ChangesMeaning v event reply w → (cs : List Command) → Meant cs v → Meant (command_said event reply ++ cs) w
  command_kept (Put id bytes) (Accepted n) changes cs meant = put_kept (id_number id) bytes cs changes.0 changes.1 meant
  command_kept (Delete id) (Accepted n) changes cs meant = delete_kept (id_number id) cs changes meant
  command_kept event reply changes cs meant = stay_kept changes cs meant

  pub puts_kept : (event : Event) (reply : Reply) (history : List (Event × Reply)) → ChangesMeaning v event reply w → ArePutsMeant history v → ArePutsMeant (history ++ (event, reply) ∷ []) w
  puts_kept event reply history changes meant id bytes newest =
      command_kept event reply changes (commands_said history) meant id bytes
      (subst (λ (cs : List Command). newest_command cs id ≡ Some (Some bytes)) (said_more history event reply) newest)

-- ---- a call

module _ {D : Type 0} (disks : PageDisk D) where
  -- whatever a call does, it leaves it so
  pub puts_called : (v w : View D) → ((event : Event) × (reply : Reply) × Applies disks v event reply w) ⊎ IsUntouched disks v w ⊎ ((n : ℕ) × Replaces v n w)
      → ArePutsMeant v.history v.store → ArePutsMeant w.history w.store
  puts_called v w (inl (event, reply, inl full)) meant = subst (λ (u : View D). ArePutsMeant u.history u.store) (sym full.same) meant
  puts_called v w (inl (event, reply, inr step)) meant = subst (λ (h : List (Event × Reply)). ArePutsMeant h w.store) (sym step.history)
      (puts_kept v.store w.store step.same_shape event reply v.history step.means meant)
  puts_called v w (inr (inl same)) meant = subst (λ (h : List (Event × Reply)). ArePutsMeant h w.store) (sym same.history)
      (subst (λ (u : Stored). ArePutsMeant v.history u) (sym same.store) meant)
  puts_called v w (inr (inr (n, replaces))) meant = subst (λ (u : View D). ArePutsMeant u.history u.store) (sym replaces.1) meant

-- ---- what a get tells

-- bytes that the places of an identifier mean are those that were put under it last, or two different texts at one
-- place have one mark
pub told_is_put : (v : Stored) (id : ℕ) (bytes told : List ℕ) → marks_in v.extents.format ≡ true → AreMeantBytes v id bytes → AreMeantBytes v id told
    → SameOrTwoAgree v id bytes told
told_is_put = same_or_two
