-- Why a MoveOne is refused.
use Rattle.std.proofs.Common.{◌≡◌, ◌↔◌, inl, inr, ⊎_elim, ℕ, ◌+◌, ◌≤◌, true, List, [], ◌∷◌, None, false, length, refl, sym, ap, ◌∙◌, subst, le_of_eq, le_trans, arith}
use Rattle.cs_deps.specs.State.{State as GraphState}
use Rattle.cs_extent.specs.Frames.{IsWorn}
use Rattle.cs_extent.specs.State.{IsWhole, State as ExtentsState, extents_of, shape}
use Rattle.cs_extent.specs.Worn.{in_section, IsFrameWornBy}
use Rattle.cs_frame.specs.Formats.{formats_of}
use Rattle.cs_index.specs.State.{State as IndexState, index_of}
use Rattle.law_machine.proofs.Needs.{append_there}
use Rattle.law_machine.proofs.Outcomes.{first_one, frame_generations, not_nothing}
use Rattle.law_machine.proofs.Places.{placed_one, placed_or_full}
use Rattle.law_machine.specs.Append.{Append}
use Rattle.law_machine.specs.Element.{Locator as Place}
use Rattle.law_machine.specs.Events.{Does, ReadsNow, newest_page}
use Rattle.law_machine.specs.Extents.{Extents, ForMove, NoPlace, Placed}
use Rattle.law_machine.specs.Formats.{ChunkFrame}
use Rattle.law_machine.specs.Grounds.{NoRoomToMove, PastLimit, WouldPass}
use Rattle.law_machine.specs.Index.{FirstLive, live_at}
use Rattle.law_machine.specs.Lists.{replaced}
use Rattle.law_machine.specs.Machine.{World}
use Rattle.law_machine.specs.Sound.{Bounded, Sound}
use Rattle.law_machine.specs.State.{MoveOne, Moved, NoneLive, Reply, State, index_now}
use Rattle.cs_reclaim.specs.Moves.{chunk_frame}
use Rattle.law_refinement.proofs.DoesBefore.{Moves, moved, moves_so, none_moved}
use Rattle.law_refinement.proofs.Indexes.{first_live, looked_up}
use Rattle.law_refinement.proofs.Numbers.{append_numbers, past, past_too}
use Rattle.law_refinement.proofs.RefusedPuts.{IsOver, no_command, no_root, of_frame, to_frame, young}
use Rattle.law_refinement.proofs.Shapes.{store_format, store_shape}
use Rattle.law_refinement.specs.Parts.{ArePartsOf}

module _ (x : ExtentsState) (g : GraphState) (i : IndexState) (s : State) (whole : IsWhole x) (are : ArePartsOf x g i s)
    (e id chunk : ℕ) (l : Place) (payload : List ℕ) (live : FirstLive (index_of i) e id chunk l) (reads : ReadsNow (shape x) (formats_of (shape x)) s l ChunkFrame payload) where
  first : FirstLive (index_now s) e id chunk l
  first = first_live (index_of i) (index_now s) (looked_up i s.table s.runs are.index) e id chunk l live

  -- whatever is first on the extent is this chunk, and has this payload
  same_payload : (d k : ℕ) (m : Place) (bytes : List ℕ) → FirstLive (index_now s) e d k m → ReadsNow (shape x) (formats_of (shape x)) s m ChunkFrame bytes → bytes ≡ payload
  same_payload d k m bytes other there =
      let one = first_one (shape x) (formats_of (shape x)) (store_shape x whole) (store_format x whole) s e d id k chunk m l other first in
      let read = subst (λ (z : Place). ReadsNow (shape x) (formats_of (shape x)) s z ChunkFrame bytes) one.2 there in
      (store_format x whole).one_payload (newest_page s) l.extent l.page ChunkFrame bytes payload
      (let inside = read.inside in omega arith) (let inside = reads.inside in omega arith) read.stand reads.stand

  placed_there : (d : ℕ) → Placed (shape x) (extents_of x) ForMove (length (chunk_frame x payload)) d → Placed (shape x) s.world.extents ForMove (length (chunk_frame x payload)) d
  placed_there d placed = subst (λ (z : Extents). Placed (shape x) z ForMove (length (chunk_frame x payload)) d) (sym are.world.extents) placed

  -- a chunk that is moved in the machine shows that there is a place
  has_place : (bytes : List ℕ) (new : Place) (v : World) → bytes ≡ payload → Append (shape x) s.world ForMove ((formats_of (shape x)).frame ChunkFrame bytes) new v
      → NoPlace (shape x) (extents_of x) ForMove (length (chunk_frame x payload)) → ⊥
  has_place bytes new v same a none = none a.extent
      (subst (λ (b : List ℕ). Placed (shape x) (extents_of x) ForMove (length (chunk_frame x b)) a.extent) same
      (subst (λ (z : Extents). Placed (shape x) z ForMove (length (chunk_frame x bytes)) a.extent) are.world.extents a.placed))

  pub move_full : NoRoomToMove (shape x) (formats_of (shape x)) s e ↔ NoPlace (shape x) (extents_of x) ForMove (length (chunk_frame x payload))
  move_full = (
    (λ none d placed. let a = append_there (shape x) s.world ForMove (chunk_frame x payload) d (placed_there d placed) in
        none id chunk l a.0 payload (record s { world = a.1 }) first reads (a.1, a.2, refl)),
    (λ none d k m new bytes mid other there a. has_place bytes new a.0 (same_payload d k m bytes other there) a.1 none),
  )

  module _ (sound : Sound (shape x) (formats_of (shape x)) s) (bounded : Bounded (shape x) (formats_of (shape x)) s) where
    abbrev after_move : Place → World → State
    after_move new v = record s { world = v; table = record { id = id; locators = replaced (live_at (index_now s) id) chunk new } ∷ s.table }

    module _ (new : Place) (v : World) (a : Append (shape x) s.world ForMove (chunk_frame x payload) new v) where
      placed_at : Placed (shape x) (extents_of x) ForMove (length (chunk_frame x payload)) a.extent
      placed_at = subst (λ (z : Extents). Placed (shape x) z ForMove (length (chunk_frame x payload)) a.extent) are.world.extents a.placed

      numbers : (v.written ≡ s.world.written + length (chunk_frame x payload)) × ((j : ℕ) → v.superblocks j ≡ s.world.superblocks j + in_section (shape x) j (a.extent ∷ []))
          × (v.root ≡ s.world.root)
      numbers = append_numbers (shape x) (store_shape x whole) s.world v ForMove (chunk_frame x payload) new a

      root_stays : v.root ≡ s.world.root + 0
      root_stays = let same : v.root ≡ s.world.root = numbers.2 in omega arith

      commands_stay : s.count + length s.commands ≡ s.count + length s.commands + 0
      commands_stay = omega arith

      move_young : (d : ℕ) → v.extents.generation d ≤ (shape x).greatest_generation
      move_young d = le_trans
          (le_of_eq (ap (λ (f : ℕ → ℕ). f d)
          (frame_generations (shape x) (formats_of (shape x)) (store_shape x whole) (store_format x whole) s (record s { world = v }) ForMove ChunkFrame payload new (v, a, refl))))
          (young x s sound bounded d)

      worn : IsOver x g i s whole are sound bounded a.extent (length (chunk_frame x payload)) 0 0 → IsFrameWornBy false x ForMove g.staging (length (chunk_frame x payload))
      worn (inl over) = (a.extent, placed_at, over)
      worn (inr (inl over)) = absurd (no_root x s sound bounded over)
      worn (inr (inr over)) = absurd (no_command x s sound bounded over)

      -- there is one extent that the frame goes to
      worn_here : IsFrameWornBy false x ForMove g.staging (length (chunk_frame x payload)) → IsWorn g.staging ((shape x).section a.extent) (length (chunk_frame x payload))
      worn_here (d, placed, over) = subst (λ (k : ℕ). IsWorn g.staging ((shape x).section k) (length (chunk_frame x payload)))
          (placed_one (shape x) (extents_of x) ForMove (length (chunk_frame x payload)) d a.extent placed placed_at) over

      move_past : PastLimit (shape x) (formats_of (shape x)) (after_move new v) → IsFrameWornBy false x ForMove g.staging (length (chunk_frame x payload))
      move_past over = worn (of_frame x g i s whole are sound bounded a.extent (length (chunk_frame x payload)) 0 0
          (past x (formats_of (shape x)) s (after_move new v) (length (chunk_frame x payload)) (λ j. in_section (shape x) j (a.extent ∷ [])) 0 0
          numbers.0 numbers.1 root_stays commands_stay move_young over))

      move_past_back : IsFrameWornBy false x ForMove g.staging (length (chunk_frame x payload)) → PastLimit (shape x) (formats_of (shape x)) (after_move new v)
      move_past_back over = past_too x (formats_of (shape x)) s (after_move new v) (length (chunk_frame x payload)) (λ j. in_section (shape x) j (a.extent ∷ [])) 0 0
          numbers.0 numbers.1 root_stays commands_stay
          (to_frame x g i s whole are sound bounded a.extent (length (chunk_frame x payload)) 0 0 (inl (worn_here over)))

    -- the numbers of a state don't hang on its table
    moved_past : (d k : ℕ) (t : State) → Moves (shape x) (formats_of (shape x)) s t e d k → PastLimit (shape x) (formats_of (shape x)) t
        → IsFrameWornBy false x ForMove g.staging (length (chunk_frame x payload))
    moved_past d k t (m, new, bytes, mid, swept, other, undamaged, there, (v, a, same), is) over =
        move_past new v (subst (λ (b : List ℕ). Append (shape x) s.world ForMove (chunk_frame x b) new v) (same_payload d k m bytes other there) a)
        (of_table (subst (λ (u : State). PastLimit (shape x) (formats_of (shape x)) u)
        (is ∙ ap (λ (u : State). record u { table = record { id = d; locators = replaced (live_at (index_now s) d) k new } ∷ u.table }) same) over))
      where
        of_table : PastLimit (shape x) (formats_of (shape x)) (record s { world = v; table = record { id = d; locators = replaced (live_at (index_now s) d) k new } ∷ s.table })
            → PastLimit (shape x) (formats_of (shape x)) (after_move new v)
        of_table over = over

    would : (shape x).apart ≡ false → (reply : Reply) (t : State) → Does (shape x) (formats_of (shape x)) s (MoveOne e) reply t → PastLimit (shape x) (formats_of (shape x)) t
        → IsFrameWornBy false x ForMove g.staging (length (chunk_frame x payload))
    would together NoneLive t does over = absurd (not_nothing (shape x) (formats_of (shape x)) (store_shape x whole) (store_format x whole) s e id chunk l first
        (none_moved (shape x) (formats_of (shape x)) together s t e does).1)
    would together (Moved d k) t does over = moved_past d k t (moved (shape x) (formats_of (shape x)) together s t e d k does) over
    would together reply t d over = absurd d

    pub move_worn : (shape x).apart ≡ false → s.world.extents.swept e ≡ true → s.opening.damage l ≡ None → ¬ NoPlace (shape x) (extents_of x) ForMove (length (chunk_frame x payload))
        → WouldPass (shape x) (formats_of (shape x)) s (MoveOne e) ↔ IsFrameWornBy false x ForMove g.staging (length (chunk_frame x payload))
    move_worn together swept undamaged room = (
      (λ passes. would together passes.0 passes.1 passes.2 passes.3),
      (λ over. ⊎_elim
          (λ (at : (d : ℕ) × Placed (shape x) (extents_of x) ForMove (length (chunk_frame x payload)) d).
          let a = append_there (shape x) s.world ForMove (chunk_frame x payload) at.0 (placed_there at.0 at.1) in (
            Moved id chunk,
            after_move a.0 a.1,
            moves_so (shape x) (formats_of (shape x)) together s (after_move a.0 a.1) e id chunk (l, a.0, payload, record s { world = a.1 }, swept, first, undamaged, reads, (a.1, a.2, refl), refl),
            move_past_back a.0 a.1 a.2 over,
          ))
          (λ (none : NoPlace (shape x) (extents_of x) ForMove (length (chunk_frame x payload))). absurd (room none))
          (placed_or_full (shape x) (extents_of x) ForMove (length (chunk_frame x payload)))),
    )
