-- Why a put and a delete are refused.
use Rattle.std.proofs.Common.{◌≡◌, ◌≢◌, ◌⊎◌, ◌↔◌, inl, inr, ℕ, suc, ◌+◌, ◌^◌, ◌<◌, ◌≤◌, Bool, false, List, [], ◌∷◌, Some, None, length, refl, sym, ap, ◌∙◌, subst, le_of_eq, le_trans, arith}
use Rattle.std.specs.Prelude.{sum}
use Rattle.cs_deps.specs.State.{State as GraphState}
use Rattle.cs_extent.proofs.Worn.{places_once_by}
use Rattle.cs_extent.specs.State.{IsWhole, State as ExtentsState, extents_of, shape}
use Rattle.cs_extent.specs.Worn.{ArePlacedBy, AreWornBy, in_section}
use Rattle.cs_frame.specs.Formats.{formats_of}
use Rattle.cs_index.specs.State.{State as IndexState}
use Rattle.law_machine.proofs.Limits.{not_past}
use Rattle.law_machine.proofs.Needs.{appends_fit_by, fits_appends_by}
use Rattle.law_machine.proofs.Outcomes.{all_generations_by}
use Rattle.law_machine.specs.Append.{AppendAllBy, AppendsChunksBy, chunk_frames, page_counts}
use Rattle.law_machine.specs.Element.{Locator}
use Rattle.law_machine.specs.Events.{ArePayloads, Does}
use Rattle.law_machine.specs.Extents.{Extents, Fits, FitsBy, ForPut}
use Rattle.law_machine.specs.Grounds.{NoRoomToPut, PastLimit, WouldPass}
use Rattle.law_machine.specs.Machine.{World}
use Rattle.law_machine.specs.Sound.{Bounded, Sound}
use Rattle.law_machine.specs.State.{Absent, Accepted, Delete, Put, Reply, State, map_now, next_command}
use Rattle.law_refinement.proofs.Fitting as fitting
use Rattle.law_refinement.proofs.Numbers.{IsPast, all_numbers_by, past, past_too}
use Rattle.law_refinement.proofs.Shapes.{store_format, store_shape}
use Rattle.law_refinement.specs.Parts.{ArePartsOf}

module _ (x : ExtentsState) (s : State) (sound : Sound (shape x) (formats_of (shape x)) s) (bounded : Bounded (shape x) (formats_of (shape x)) s) where
  -- a sound state has passed none, so what is past its greatest is one that grew
  pub fits : PastLimit (shape x) (formats_of (shape x)) s → ⊥
  fits over = not_past (shape x) (formats_of (shape x)) s sound bounded over

  pub no_command : 2 ^ 63 ≤ s.count + length s.commands + 0 → ⊥
  no_command over = fitting.no_command x s fits over

  pub no_root : 2 ^ 63 ≤ s.world.root + 0 → ⊥
  no_root over = fitting.no_root x s fits over

  pub no_write : 2 ^ 63 ≤ s.world.written + 0 → ⊥
  no_write over = fitting.no_write x s fits over

  pub no_section : (j : ℕ) → j < (shape x).sections → 2 ^ 63 ≤ s.world.superblocks j + 0 → ⊥
  no_section j there over = fitting.no_section x s fits j there over

  -- ---- deletes

  abbrev after_delete : ℕ → State
  after_delete id = record s { table = record { id = id; locators = [] } ∷ s.table; commands = (id, None) ∷ s.commands }

  pub young : (e : ℕ) → s.world.extents.generation e ≤ (shape x).greatest_generation
  young e = (sound.safe.extents_fit e).1

  one_more : s.count + suc (length s.commands) ≡ s.count + length s.commands + 1
  one_more = omega arith

  none_more : (n : ℕ) → n ≡ n + 0
  none_more n = omega arith

  command_alone : IsPast (shape x) s 0 (λ j. 0) 0 1 → 2 ^ 63 ≤ s.count + length s.commands + 1
  command_alone (inl over) = absurd (no_write over)
  command_alone (inr (inl (j, there, over))) = absurd (no_section j there over)
  command_alone (inr (inr (inl over))) = absurd (no_root over)
  command_alone (inr (inr (inr over))) = over

  delete_past : (id : ℕ) (reply : Reply) (t : State) → Does (shape x) (formats_of (shape x)) s (Delete id) reply t → PastLimit (shape x) (formats_of (shape x)) t
      → (map_now s id ≢ None) × (2 ^ 63 ≤ s.count + length s.commands + 1)
  delete_past id (Accepted n) t d over = (
    d.0,
    command_alone (past x (formats_of (shape x)) s (after_delete id) 0 (λ j. 0) 0 1 (omega arith) (λ j. none_more (s.world.superblocks j)) (omega arith) one_more young
        (subst (λ (u : State). PastLimit (shape x) (formats_of (shape x)) u) d.2 over)),
  )
  delete_past id Absent t d over = absurd (not_past (shape x) (formats_of (shape x)) s sound bounded (subst (λ (u : State). PastLimit (shape x) (formats_of (shape x)) u) d.1 over))
  delete_past id reply t d over = absurd d

  pub delete_worn : (id : ℕ) → WouldPass (shape x) (formats_of (shape x)) s (Delete id) ↔ ((map_now s id ≢ None) × (2 ^ 63 ≤ s.count + length s.commands + 1))
  delete_worn id = (
    (λ would. delete_past id would.0 would.1 would.2 would.3),
    (λ both. (
      Accepted (suc (length s.commands)),
      after_delete id,
      (both.0, refl, refl),
      past_too x (formats_of (shape x)) s (after_delete id) 0 (λ j. 0) 0 1 (omega arith) (λ j. none_more (s.world.superblocks j)) (omega arith) one_more (inr (inr (inr both.1))),
    )),
  )

-- ---- frames

module _ (x : ExtentsState) (g : GraphState) (i : IndexState) (s : State) (whole : IsWhole x) (are : ArePartsOf x g i s)
    (sound : Sound (shape x) (formats_of (shape x)) s) (bounded : Bounded (shape x) (formats_of (shape x)) s) (e n r c : ℕ) where
  -- a number of the frame's, or that of the root or of the commands
  abbrev pub IsOver : Type 0
  IsOver = fitting.IsOver x s (fits x s sound bounded) g are.world e n r c

  -- what a frame that goes to e takes past the greatest
  pub of_frame : IsPast (shape x) s n (λ j. in_section (shape x) j (e ∷ [])) r c → IsOver
  of_frame over = fitting.of_frame x s (fits x s sound bounded) g are.world e n r c over

  pub to_frame : IsOver → IsPast (shape x) s n (λ j. in_section (shape x) j (e ∷ [])) r c
  to_frame over = fitting.to_frame x s (fits x s sound bounded) g are.world e n r c whole.geometry over

-- ---- puts

-- chunks and runs lie apart or not
module _ (x : ExtentsState) (g : GraphState) (i : IndexState) (s : State) (whole : IsWhole x) (are : ArePartsOf x g i s) (apart : Bool) (rule : (shape x).apart ≡ apart) where
  abbrev frames : List (List ℕ) → List (List (List ℕ))
  frames cs = chunk_frames (shape x) (formats_of (shape x)) cs

  here : (cs : List (List ℕ)) → FitsBy (shape x) apart s.world.extents ForPut (page_counts (frames cs)) → FitsBy (shape x) apart (extents_of x) ForPut (page_counts (frames cs))
  here cs fits = subst (λ (z : Extents). FitsBy (shape x) apart z ForPut (page_counts (frames cs))) are.world.extents fits

  there : (cs : List (List ℕ)) → FitsBy (shape x) apart (extents_of x) ForPut (page_counts (frames cs)) → FitsBy (shape x) apart s.world.extents ForPut (page_counts (frames cs))
  there cs fits = subst (λ (z : Extents). FitsBy (shape x) apart z ForPut (page_counts (frames cs))) (sym are.world.extents) fits

  -- the shape's rule is this one
  by_rule : (cs : List (List ℕ)) (ls : List Locator) (mid : State) → AppendsChunksBy (shape x) (formats_of (shape x)) (shape x).apart s cs ls mid
      → AppendsChunksBy (shape x) (formats_of (shape x)) apart s cs ls mid
  by_rule cs ls mid = subst (λ (b : Bool). AppendsChunksBy (shape x) (formats_of (shape x)) b s cs ls mid) rule

  by_shape : (cs : List (List ℕ)) (ls : List Locator) (mid : State) → AppendsChunksBy (shape x) (formats_of (shape x)) apart s cs ls mid
      → AppendsChunksBy (shape x) (formats_of (shape x)) (shape x).apart s cs ls mid
  by_shape cs ls mid = subst (λ (b : Bool). AppendsChunksBy (shape x) (formats_of (shape x)) b s cs ls mid) (sym rule)

  pub put_full_by : (id : ℕ) (bytes : List ℕ) → NoRoomToPut (shape x) (formats_of (shape x)) s id bytes
      ↔ ((cs : List (List ℕ)) → ArePayloads (shape x) (formats_of (shape x)) id (next_command s) bytes cs → FitsBy (shape x) apart (extents_of x) ForPut (page_counts (frames cs)) → ⊥)
  put_full_by id bytes = (
    (λ none cs cut fits. let all = fits_appends_by (shape x) (store_shape x whole) apart s.world ForPut (frames cs) (there cs fits) in
        none cs all.0 (record s { world = all.1 }) cut (by_shape cs all.0 (record s { world = all.1 }) (all.1, all.2, refl))),
    (λ none cs ls mid cut appends. let as_ruled = by_rule cs ls mid appends in
        none cs cut (here cs (appends_fit_by (shape x) (store_shape x whole) apart s.world as_ruled.0 ForPut (frames cs) ls as_ruled.1))),
  )

  module _ (sound : Sound (shape x) (formats_of (shape x)) s) (bounded : Bounded (shape x) (formats_of (shape x)) s) where
    abbrev after_put : (id : ℕ) → List ℕ → List Locator → World → State
    after_put id bytes ls v = record s { world = v; table = record { id = id; locators = ls } ∷ s.table; commands = (id, Some bytes) ∷ s.commands }

    abbrev Over : List (List ℕ) → Type 0
    Over cs = AreWornBy apart x g.staging ForPut (page_counts (frames cs)) ⊎ (2 ^ 63 ≤ s.count + length s.commands + 1)

    -- the frames go to these extents
    module _ (cs : List (List ℕ)) (places : List ℕ) (placed : ArePlacedBy (shape x) apart (extents_of x) ForPut (page_counts (frames cs)) places) where
      is_over : IsPast (shape x) s (sum (page_counts (frames cs))) (λ j. in_section (shape x) j places) 0 1 → Over cs
      is_over (inl over) = inl (inl (let same : s.world.written ≡ g.staging.staged = are.world.staging.written in omega arith))
      is_over (inr (inl (j, there, over))) = inl (inr (
        places,
        placed,
        j,
        there,
        subst (λ (k : ℕ). 2 ^ 63 ≤ k + in_section (shape x) j places) (are.world.staging.sections j there) over,
      ))
      is_over (inr (inr (inl over))) = absurd (no_root x s sound bounded over)
      is_over (inr (inr (inr over))) = inr over

      over_too : Over cs → IsPast (shape x) s (sum (page_counts (frames cs))) (λ j. in_section (shape x) j places) 0 1
      over_too (inl (inl over)) = inl (let same : s.world.written ≡ g.staging.staged = are.world.staging.written in omega arith)
      over_too (inl (inr (others, put, j, there, over))) = inr (inl (
        j,
        there,
        subst (λ (ps : List ℕ). 2 ^ 63 ≤ s.world.superblocks j + in_section (shape x) j ps)
            (places_once_by (shape x) apart (extents_of x) ForPut (page_counts (frames cs)) others places put placed)
            (subst (λ (k : ℕ). 2 ^ 63 ≤ k + in_section (shape x) j others) (sym (are.world.staging.sections j there)) over),
      ))
      over_too (inr over) = inr (inr (inr over))

    module _ (id : ℕ) (bytes : List ℕ) (cs : List (List ℕ)) (ls : List Locator) (v : World) (all : AppendAllBy (shape x) apart s.world ForPut (frames cs) ls v) where
      numbers : (places : List ℕ) × ArePlacedBy (shape x) apart s.world.extents ForPut (page_counts (frames cs)) places × (v.written ≡ s.world.written + sum (page_counts (frames cs)))
          × ((j : ℕ) → v.superblocks j ≡ s.world.superblocks j + in_section (shape x) j places) × (v.root ≡ s.world.root)
      numbers = all_numbers_by (shape x) (store_shape x whole) apart s.world v ForPut (frames cs) ls all

      placed_here : ArePlacedBy (shape x) apart (extents_of x) ForPut (page_counts (frames cs)) numbers.0
      placed_here = subst (λ (z : Extents). ArePlacedBy (shape x) apart z ForPut (page_counts (frames cs)) numbers.0) are.world.extents numbers.1

      root_stays : v.root ≡ s.world.root + 0
      root_stays = let same : v.root ≡ s.world.root = numbers.4 in omega arith

      commands_rise : s.count + suc (length s.commands) ≡ s.count + length s.commands + 1
      commands_rise = omega arith

      put_young : (e : ℕ) → v.extents.generation e ≤ (shape x).greatest_generation
      put_young e = le_trans
          (le_of_eq (ap (λ (f : ℕ → ℕ). f e) (all_generations_by (shape x) (formats_of (shape x)) (store_shape x whole) (store_format x whole) apart s.world v ForPut (frames cs) ls all)))
          (sound.safe.extents_fit e).1

      put_over : PastLimit (shape x) (formats_of (shape x)) (after_put id bytes ls v) → Over cs
      put_over over = is_over cs numbers.0 placed_here (past x (formats_of (shape x)) s (after_put id bytes ls v) (sum (page_counts (frames cs))) (λ j. in_section (shape x) j numbers.0) 0 1
          numbers.2 numbers.3 root_stays commands_rise put_young over)

      put_over_too : Over cs → PastLimit (shape x) (formats_of (shape x)) (after_put id bytes ls v)
      put_over_too over = past_too x (formats_of (shape x)) s (after_put id bytes ls v) (sum (page_counts (frames cs))) (λ j. in_section (shape x) j numbers.0) 0 1
          numbers.2 numbers.3 root_stays commands_rise (over_too cs numbers.0 placed_here over)

    put_past : (id : ℕ) (bytes : List ℕ) (reply : Reply) (t : State) → Does (shape x) (formats_of (shape x)) s (Put id bytes) reply t
        → PastLimit (shape x) (formats_of (shape x)) t
        → (cs : List (List ℕ)) × ArePayloads (shape x) (formats_of (shape x)) id (next_command s) bytes cs × FitsBy (shape x) apart (extents_of x) ForPut (page_counts (frames cs)) × Over cs
    put_past id bytes (Accepted n) t (cs, ls, mid, cut, appends, number, is) over =
        let as_ruled = by_rule cs ls mid appends in (
          cs,
          cut,
          here cs (appends_fit_by (shape x) (store_shape x whole) apart s.world as_ruled.0 ForPut (frames cs) ls as_ruled.1),
          put_over id bytes cs ls as_ruled.0 as_ruled.1 (subst (λ (u : State). PastLimit (shape x) (formats_of (shape x)) u)
              (is ∙ ap (λ (m : State). record m { table = record { id = id; locators = ls } ∷ m.table; commands = (id, Some bytes) ∷ m.commands }) as_ruled.2) over),
        )
    put_past id bytes reply t d over = absurd d

    pub put_worn_by : (id : ℕ) (bytes : List ℕ) → WouldPass (shape x) (formats_of (shape x)) s (Put id bytes)
        ↔ ((cs : List (List ℕ)) × ArePayloads (shape x) (formats_of (shape x)) id (next_command s) bytes cs × FitsBy (shape x) apart (extents_of x) ForPut (page_counts (frames cs)) × Over cs)
    put_worn_by id bytes = (
      (λ would. put_past id bytes would.0 would.1 would.2 would.3),
      (λ found. let all = fits_appends_by (shape x) (store_shape x whole) apart s.world ForPut (frames found.0) (there found.0 found.2) in (
        Accepted (suc (length s.commands)),
        after_put id bytes all.0 all.1,
        (found.0, all.0, record s { world = all.1 }, found.1, by_shape found.0 all.0 (record s { world = all.1 }) (all.1, all.2, refl), refl, refl),
        put_over_too id bytes found.0 all.0 all.1 all.2 found.3,
      )),
    )

-- where chunks and runs may lie on one extent
module _ (x : ExtentsState) (g : GraphState) (i : IndexState) (s : State) (whole : IsWhole x) (are : ArePartsOf x g i s) (together : (shape x).apart ≡ false) where
  pub put_full : (id : ℕ) (bytes : List ℕ) → NoRoomToPut (shape x) (formats_of (shape x)) s id bytes
      ↔ ((cs : List (List ℕ)) → ArePayloads (shape x) (formats_of (shape x)) id (next_command s) bytes cs → Fits (shape x) (extents_of x) ForPut (page_counts (chunk_frames (shape x) (formats_of (shape x)) cs)) → ⊥)
  put_full id bytes = put_full_by x g i s whole are false together id bytes

  pub put_worn : Sound (shape x) (formats_of (shape x)) s → Bounded (shape x) (formats_of (shape x)) s → (id : ℕ) (bytes : List ℕ)
      → WouldPass (shape x) (formats_of (shape x)) s (Put id bytes)
      ↔ ((cs : List (List ℕ)) × ArePayloads (shape x) (formats_of (shape x)) id (next_command s) bytes cs × Fits (shape x) (extents_of x) ForPut (page_counts (chunk_frames (shape x) (formats_of (shape x)) cs))
      × (AreWornBy false x g.staging ForPut (page_counts (chunk_frames (shape x) (formats_of (shape x)) cs)) ⊎ (2 ^ 63 ≤ s.count + length s.commands + 1)))
  put_worn sound bounded id bytes = put_worn_by x g i s whole are false together sound bounded id bytes
