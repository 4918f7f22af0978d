-- Why a sweep's events are refused where chunks and runs lie apart.
use Rattle.std.proofs.Common.{◌≡◌, ◌↔◌, inl, inr, ⊎_elim, ℕ, ◌+◌, ◌≤◌, true, false, List, [], ◌∷◌, None, Some, length, refl, sym, ap, ◌∙◌, subst, le_of_eq, le_trans, arith}
use Rattle.cs_deps.specs.State.{State as GraphState}
use Rattle.cs_extent.specs.State.{IsWhole, State as ExtentsState, extents_of, shape}
use Rattle.cs_extent.specs.Frames.{IsWorn}
use Rattle.cs_extent.specs.Worn.{IsFrameWornBy, in_section}
use Rattle.cs_frame.specs.Formats.{formats_of}
use Rattle.cs_index.specs.State.{State as IndexState, index_of}
use Rattle.law_machine.proofs.AnsweredSweeps.{left_one, some_left}
use Rattle.law_machine.proofs.Needs.{append_there_by}
use Rattle.law_machine.proofs.Outcomes.{frame_generations_by}
use Rattle.law_machine.proofs.Places.{goes_one, goes_or_full}
use Rattle.law_machine.proofs.Rules.{apart_rule, rule_apart}
use Rattle.law_machine.specs.Apart.{AllCopied, DamagedLeft, FirstLeft, FirstUncopied, MayNotBegin, MovesApart, NoRoomToCopy, NotSweepableApart, NothingLeft}
use Rattle.law_machine.specs.Append.{AppendBy}
use Rattle.law_machine.specs.Device.{Shape}
use Rattle.law_machine.specs.Element.{Copy, Locator as Place}
use Rattle.law_machine.specs.Events.{Does, ReadsNow, newest_page}
use Rattle.law_machine.specs.Extents.{Extents, ForMove, GoesApart}
use Rattle.law_machine.specs.Formats.{ChunkFrame, Formats}
use Rattle.law_machine.specs.Grounds.{PastLimit, Refuses, WouldPass}
use Rattle.law_machine.specs.Index.{lookup}
use Rattle.law_machine.specs.Machine.{World}
use Rattle.law_machine.specs.Refusal.{NotSweepable, Refusal}
use Rattle.law_machine.specs.Sound.{Bounded, Sound}
use Rattle.law_machine.specs.State.{BeginSweep, MoveOne, Moved, NoneLive, Reply, State, index_now}
use Rattle.cs_reclaim.specs.Moves.{chunk_frame}
use Rattle.law_refinement.specs.Copying.{AreAllPartsOf}
use Rattle.law_refinement.proofs.DoesApart.{moved, moves_so, none_moved}
use Rattle.law_refinement.proofs.Fitting as fitting
use Rattle.law_refinement.proofs.Indexes.{looked_up}
use Rattle.law_refinement.proofs.Left.{all_copied, first_uncopied}
use Rattle.law_refinement.proofs.Numbers.{append_numbers_by, past, past_too}
use Rattle.law_refinement.proofs.RefusedPuts.{fits}
use Rattle.law_refinement.proofs.Refusing.{not_both}
use Rattle.law_refinement.proofs.Shapes.{store_format, store_shape}

module _ (x : ExtentsState) (g : GraphState) (i : IndexState) (copies : List Copy) (s : State) (are : AreAllPartsOf x g i copies s) where
  abbrev S : Shape
  S = shape x

  abbrev F : Formats
  F = formats_of (shape x)

  asked : (id : ℕ) → lookup id (index_of i) ≡ lookup id (index_now s)
  asked = looked_up i s.table s.runs are.parts.index

  -- ---- what a sweep has left

  pub nothing_left : (e : ℕ) → NothingLeft s e ↔ AllCopied (index_of i) copies e
  nothing_left e = (
    (λ none. all_copied (index_now s) (index_of i) (λ id. sym (asked id)) copies e (subst (λ (cs : List Copy). AllCopied (index_now s) cs e) are.same_copies none)),
    (λ all. subst (λ (cs : List Copy). AllCopied (index_now s) cs e) (sym are.same_copies) (all_copied (index_of i) (index_now s) asked copies e all)),
  )

  pub first_left : (e id chunk : ℕ) (l : Place) → FirstLeft s e id chunk l ↔ FirstUncopied (index_of i) copies e id chunk l
  first_left e id chunk l = (
    (λ first. first_uncopied (index_now s) (index_of i) (λ d. sym (asked d)) copies e id chunk l
        (subst (λ (cs : List Copy). FirstUncopied (index_now s) cs e id chunk l) are.same_copies first)),
    (λ first. subst (λ (cs : List Copy). FirstUncopied (index_now s) cs e id chunk l) (sym are.same_copies)
        (first_uncopied (index_of i) (index_now s) asked copies e id chunk l first)),
  )

  -- ---- begin

  begin_ground : (e : ℕ) → NotSweepableApart S s e ↔ MayNotBegin S (extents_of x) copies e
  begin_ground e = (
    (λ is. subst (λ (z : Extents). MayNotBegin S z copies e) are.parts.world.extents (subst (λ (cs : List Copy). MayNotBegin S s.world.extents cs e) are.same_copies is)),
    (λ is. subst (λ (cs : List Copy). MayNotBegin S s.world.extents cs e) (sym are.same_copies) (subst (λ (z : Extents). MayNotBegin S z copies e) (sym are.parts.world.extents) is)),
  )

  pub begin_refused : (on : (shape x).apart ≡ true) (G : Formats) (e : ℕ) (f : Refusal) → s.halted ≡ false
      → Refuses S G s (BeginSweep e) f ↔ (MayNotBegin S (extents_of x) copies e × (f ≡ NotSweepable))
  begin_refused on G e f runs = (
    (λ refused. ⊎_elim (λ halted. absurd (not_both s.halted runs halted.0))
        (λ rest. ⊎_elim (λ here. ((begin_ground e).0 (apart_rule _ _ S.apart on here.0), here.1)) (λ none. absurd none.1) rest.1) refused),
    (λ both. inr (not_both s.halted runs, inl (rule_apart _ _ S.apart on ((begin_ground e).1 both.0), both.1))),
  )

  -- ---- moves

  module _ (whole : IsWhole x) (e id chunk : ℕ) (l : Place) (live : FirstUncopied (index_of i) copies e id chunk l) where
    first : FirstLeft s e id chunk l
    first = (first_left e id chunk l).1 live

    pub copy_damaged : (f : Refusal) → DamagedLeft S F s e f ↔ (s.opening.damage l ≡ Some f)
    copy_damaged f = (
      (λ d. subst (λ (z : Place). s.opening.damage z ≡ Some f)
          (left_one S F (store_shape x whole) (store_format x whole) s e d.0 id d.1 chunk d.2 l d.3 first).2 d.4),
      (λ is. (id, chunk, l, first, is)),
    )

    module _ (payload : List ℕ) (reads : ReadsNow (shape x) (formats_of (shape x)) s l ChunkFrame payload) where
      abbrev n : ℕ
      n = length (chunk_frame x payload)

      abbrev Nowhere : Type 0
      Nowhere = (d : ℕ) → ¬ GoesApart S (extents_of x) ForMove n d

      -- whatever is left first on the extent is this chunk, and has this payload
      same_payload : (d k : ℕ) (m : Place) (bytes : List ℕ) → FirstLeft s e d k m → ReadsNow S F s m ChunkFrame bytes → bytes ≡ payload
      same_payload d k m bytes other there =
          let one = left_one S F (store_shape x whole) (store_format x whole) s e d id k chunk m l other first in
          let read = subst (λ (z : Place). ReadsNow S F s z ChunkFrame bytes) one.2 there in
          (store_format x whole).one_payload (newest_page s) l.extent l.page ChunkFrame bytes payload
          (let inside = read.inside in omega arith) (let inside = reads.inside in omega arith) read.stand reads.stand

      goes_there : (d : ℕ) → GoesApart S (extents_of x) ForMove n d → GoesApart S s.world.extents ForMove n d
      goes_there d goes = subst (λ (z : Extents). GoesApart S z ForMove n d) (sym are.parts.world.extents) goes

      -- a chunk that is copied in the machine shows that there is a place
      goes_at : (bytes : List ℕ) (new : Place) (v : World) → bytes ≡ payload → (a : AppendBy S true s.world ForMove (F.frame ChunkFrame bytes) new v)
          → GoesApart S (extents_of x) ForMove n a.extent
      goes_at bytes new v same a = subst (λ (b : List ℕ). GoesApart S (extents_of x) ForMove (length (chunk_frame x b)) a.extent) same
          (subst (λ (z : Extents). GoesApart S z ForMove (length (chunk_frame x bytes)) a.extent) are.parts.world.extents a.placed)

      pub copy_full : NoRoomToCopy S F s e ↔ Nowhere
      copy_full = (
        (λ none d goes. let a = append_there_by S true s.world ForMove (chunk_frame x payload) d (goes_there d goes) in
            none id chunk l a.0 payload (record s { world = a.1 }) first reads (a.1, a.2, refl)),
        (λ none d k m new bytes mid other there a. none a.1.extent (goes_at bytes new a.0 (same_payload d k m bytes other there) a.1)),
      )

      module _ (on : (shape x).apart ≡ true) (sound : Sound (shape x) (formats_of (shape x)) s) (bounded : Bounded (shape x) (formats_of (shape x)) s) where
        good_now : PastLimit (shape x) (formats_of (shape x)) s → ⊥
        good_now = fits x s sound bounded

        module _ (new : Place) (v : World) (a : AppendBy S true s.world ForMove (chunk_frame x payload) new v) (t : State) (is : t.world ≡ v)
            (commands : t.count + length t.commands ≡ s.count + length s.commands) where
          numbers : (v.written ≡ s.world.written + n) × ((j : ℕ) → v.superblocks j ≡ s.world.superblocks j + in_section S j (a.extent ∷ [])) × (v.root ≡ s.world.root)
          numbers = append_numbers_by S (store_shape x whole) true s.world v ForMove (chunk_frame x payload) new a

          written : t.world.written ≡ s.world.written + n
          written = ap (λ (w : World). w.written) is ∙ numbers.0

          superblocks : (j : ℕ) → t.world.superblocks j ≡ s.world.superblocks j + in_section S j (a.extent ∷ [])
          superblocks j = ap (λ (w : World). w.superblocks j) is ∙ numbers.1 j

          root_stays : t.world.root ≡ s.world.root + 0
          root_stays = let same : v.root ≡ s.world.root = numbers.2 in let here : t.world.root ≡ v.root = ap (λ (w : World). w.root) is in omega arith

          commands_stay : t.count + length t.commands ≡ s.count + length s.commands + 0
          commands_stay = commands ∙ (let n : s.count + length s.commands ≡ s.count + length s.commands + 0 = omega arith in n)

          young : (d : ℕ) → t.world.extents.generation d ≤ S.greatest_generation
          young d = le_trans (le_of_eq (ap (λ (w : World). w.extents.generation d) is
              ∙ ap (λ (f : ℕ → ℕ). f d) (frame_generations_by S F (store_shape x whole) (store_format x whole) true s (record s { world = v }) ForMove ChunkFrame payload new (v, a, refl))))
              (fitting.young x s good_now d)

          copy_past : PastLimit S F t → IsFrameWornBy true x ForMove g.staging n
          copy_past over = worn (fitting.of_frame x s good_now g are.parts.world a.extent n 0 0
              (past x F s t n (λ j. in_section S j (a.extent ∷ [])) 0 0 written superblocks root_stays commands_stay young over))
            where
              worn : fitting.IsOver x s good_now g are.parts.world a.extent (length (chunk_frame x payload)) 0 0 → IsFrameWornBy true x ForMove g.staging (length (chunk_frame x payload))
              worn (inl over) = (a.extent, goes_at payload new v refl a, over)
              worn (inr (inl over)) = absurd (fitting.no_root x s good_now over)
              worn (inr (inr over)) = absurd (fitting.no_command x s good_now over)

          copy_past_back : IsFrameWornBy true x ForMove g.staging n → PastLimit S F t
          copy_past_back (d, goes, over) = past_too x F s t n (λ j. in_section S j (a.extent ∷ [])) 0 0 written superblocks root_stays commands_stay
              (fitting.to_frame x s good_now g are.parts.world a.extent n 0 0 whole.geometry
              (inl (subst (λ (k : ℕ). IsWorn g.staging (S.section k) n) (goes_one S true (extents_of x) ForMove n d a.extent goes (goes_at payload new v refl a)) over)))

        copy_would : (reply : Reply) (t : State) → Does S F s (MoveOne e) reply t → PastLimit S F t → IsFrameWornBy true x ForMove g.staging n
        copy_would NoneLive t d over = absurd (some_left S F (store_shape x whole) (store_format x whole) s e id chunk l first (none_moved S F on s t e d).1)
        copy_would (Moved d k) t does over = so (moved S F on s t e d k does)
          where
            so : MovesApart S F s e d k t → IsFrameWornBy true x ForMove g.staging (length (chunk_frame x payload))
            so (m, new, bytes, mid, swept, other, undamaged, there, (v, a, same), is) =
                copy_past new v (subst (λ (b : List ℕ). AppendBy S true s.world ForMove (chunk_frame x b) new v) (same_payload d k m bytes other there) a) t
                (ap (λ (u : State). u.world) is ∙ ap (λ (u : State). u.world) same)
                (ap (λ (u : State). u.count + length u.commands) is ∙ ap (λ (u : State). u.count + length u.commands) same) over
        copy_would reply t d over = absurd d

        pub copy_worn : s.world.extents.swept e ≡ true → s.opening.damage l ≡ None → ¬ Nowhere
            → WouldPass S F s (MoveOne e) ↔ IsFrameWornBy true x ForMove g.staging n
        copy_worn swept undamaged room = (
          (λ passes. copy_would passes.0 passes.1 passes.2 passes.3),
          (λ over. ⊎_elim
              (λ (at : (d : ℕ) × GoesApart S (extents_of x) ForMove n d).
              let a = append_there_by S true s.world ForMove (chunk_frame x payload) at.0 (goes_there at.0 at.1) in
              let t : State = record s { world = a.1; copies = record { id = id; chunk = chunk; from = l; to = a.0 } ∷ s.copies } in (
                Moved id chunk,
                t,
                moves_so S F on s t e id chunk (l, a.0, payload, record s { world = a.1 }, swept, first, undamaged, reads, (a.1, a.2, refl), refl),
                copy_past_back a.0 a.1 a.2 t refl refl over,
              ))
              (λ (none : Nowhere). absurd (room none))
              (goes_or_full S true (extents_of x) ForMove n)),
        )
