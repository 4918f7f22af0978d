-- A put is a step of the machine.
use Rattle.std.proofs.Common.{◌≡◌, ◌⊎◌, inl, inr, ⊎_elim, ℕ, suc, ◌+◌, ◌*◌, ◌^◌, ◌<◌, ◌≤◌, Bool, true, false, List, [], ◌∷◌, Some, Ok, Err, length, map, refl, sym, ap, ◌∙◌, subst, arith}
use Rattle.std.specs.Prelude.{◌↔◌, IsTrue}
use Rattle.cs_refusal.specs.declared.refusals.Refusal.{Refusal as Code}
use Rattle.cs_refusal.specs.declared.refusals.Refusal.TheVariants as code
use Rattle.cs_deps.specs.State.{State as GraphState}
use Rattle.cs_extent.specs.Appended.{AreAppendedBy}
use Rattle.cs_extent.specs.State.{IsWhole, State as ExtentsState, extents_of, shape}
use Rattle.cs_extent.specs.Worn.{AreWornBy}
use Rattle.cs_frame.specs.declared.locators.Locator.{Locator as Spot}
use Rattle.cs_frame.specs.Formats.{formats_of, place_of}
use Rattle.cs_index.specs.State.{IsSet, State as IndexState, index_of}
use Rattle.law_machine.specs.Append.{chunk_frames, page_counts}
use Rattle.law_machine.specs.Device.{Shape}
use Rattle.law_machine.specs.Element.{Locator}
use Rattle.cs_reader.proofs.Loading.{no_heavier}
use Rattle.law_machine.proofs.Chunks.{chunked_there}
use Rattle.law_machine.proofs.Payloads.{payloads_length}
use Rattle.law_machine.specs.Events.{ArePayloads, Chunked, Does}
use Rattle.law_machine.specs.Extents.{FitsBy, ForPut, Purpose}
use Rattle.law_machine.specs.Format.{Format}
use Rattle.law_machine.specs.Formats.{Formats}
use Rattle.law_machine.specs.Geometry.{weigh_in}
use Rattle.law_machine.specs.Grounds.{NoRoomToPut, Refuses, TooHeavy, WouldPass}
use Rattle.law_machine.specs.Index.{weight_with}
use Rattle.law_machine.specs.Refusal.{Full, Halted, IndexFull, Refusal, TooLarge, WornOut}
use Rattle.law_machine.specs.State.{Accepted, Put, Refused, State, index_now, next_command}
use Rattle.law_machine.specs.Step.{Step}
use Rattle.law_refinement.proofs.Calls.{put}
use Rattle.law_refinement.proofs.CallsApart.{put as put_apart}
use Rattle.law_refinement.proofs.Indexes.{as_heavy_with}
use Rattle.law_refinement.proofs.RefusedPuts.{put_full_by, put_worn_by}
use Rattle.law_refinement.specs.Parts.{ArePartsOf}
use Rattle.cs_core.specs.States.{IsStateOf}
use Rattle.cs_core.specs.Stored.{IsTooHeavy, IsWhyWorn, Stored, but_for_room}
use Rattle.cs_core.specs.Steps.{Declines}
use Rattle.cs_core.proofs.Going.{Beside, beside_is, frontier_same, goes_on, going, no_more, pass, roots_same, same_state}
use Rattle.cs_core.proofs.RootsStay.{SameRoots, appends_stay}

-- what wasn't refused so has no ground for it
pub ok_not : {T P : Type 0} (x : T) (r : Code) → (Ok x ≡ Err r) ↔ P → P → ⊥
ok_not x r exact p = let e : Ok x ≡ Err r = exact.1 p in cc

-- ---- how much a put weighs

-- as many places as frames, and as many frames as chunks
placed_length : (b : Bool) (x y : ExtentsState) (g h : GraphState) (r : Purpose) (frames : List (List (List ℕ))) (ls : List Spot) → AreAppendedBy b x g r frames ls y h → length ls ≡ length frames
placed_length b x y g h r [] [] all = refl
placed_length b x y g h r (f ∷ fs) (l ∷ ls) all = ap suc (placed_length b all.0 y all.1 h r fs ls all.3)
placed_length b x y g h r [] (l ∷ ls) all = absurd all
placed_length b x y g h r (f ∷ fs) [] all = absurd all

frames_length : (S : Shape) (F : Formats) (cs : List (List ℕ)) → length (chunk_frames S F cs) ≡ length cs
frames_length S F [] = refl
frames_length S F (c ∷ cs) = ap suc (frames_length S F cs)

-- what was placed of a put that isn't too heavy may be entered
pub light_placed : (b : Bool) (x y : ExtentsState) (g h : GraphState) (i j : IndexState) (id command : ℕ) (bytes : List ℕ) (cs : List (List ℕ)) (ls : List Spot)
    → ArePayloads (shape x) (formats_of (shape x)) id command bytes cs → AreAppendedBy b x g ForPut (chunk_frames (shape x) (formats_of (shape x)) cs) ls y h
    → ((pieces : List (List ℕ)) → Chunked ((shape x).piece_bytes (length bytes)) bytes pieces → weight_with (weigh_in i.format) (index_of i) id (length pieces) ≤ i.limit)
    → j ≡ record i { room = j.room } → weight_with (weigh_in j.format) (index_of j) id (length ls) ≤ j.limit
light_placed b x y g h i j id command bytes cs ls are all light roomed =
    let many : length ls ≡ length are.0 = placed_length b x y g h ForPut (chunk_frames (shape x) (formats_of (shape x)) cs) ls all
    ∙ frames_length (shape x) (formats_of (shape x)) cs ∙ payloads_length (shape x) (formats_of (shape x)) id command bytes cs are in
    subst (λ (k : IndexState). weight_with (weigh_in k.format) (index_of k) id (length ls) ≤ k.limit) (sym roomed)
    (subst (λ (n : ℕ). weight_with (weigh_in i.format) (index_of i) id n ≤ i.limit) (sym many) (light are.0 are.1))

-- the pieces of a put are as many as were weighed
module _ (S : Shape) (index : IndexState) (id count : ℕ) (bytes : List ℕ) (counts : (pieces : List (List ℕ)) → Chunked (S.piece_bytes (length bytes)) bytes pieces → length pieces ≡ count) where
  abbrev weight : ℕ → ℕ
  weight n = weight_with (weigh_in index.format) (index_of index) id n

  pub too_heavy : 0 < S.piece_bytes (length bytes) → index.limit < weight count → IsTooHeavy S index id bytes
  too_heavy some over =
      let pieces = chunked_there (S.piece_bytes (length bytes)) bytes some in
      (pieces.0, pieces.1, subst (λ (n : ℕ). index.limit < weight n) (sym (counts pieces.0 pieces.1)) over)

  module _ (fits : index.limit < weight count → ⊥) where
    pub not_heavy : IsTooHeavy S index id bytes → ⊥
    not_heavy heavy = fits (subst (λ (n : ℕ). index.limit < weight n) (counts heavy.0 heavy.1) heavy.2)

    pub light_enough : (pieces : List (List ℕ)) → Chunked (S.piece_bytes (length bytes)) bytes pieces → weight (length pieces) ≤ index.limit
    light_enough pieces cut = subst (λ (n : ℕ). weight n ≤ index.limit) (sym (counts pieces cut)) (no_heavier index.limit (weight count) fits)

-- a test that failed
pub told_false : {P : Type 0} → IsTrue false ↔ P → P → ⊥
told_false told p = let wrong : false ≡ true = told.1 p in cc wrong

-- ---- one step

-- the parts of a store after a put, by the rule of its shape
put_by : (b : Bool) (v : Stored) (s : State) → (shape v.extents).apart ≡ b → IsWhole v.extents → IsStateOf v s
    → (y : ExtentsState) (h : GraphState) (j : IndexState) (id : ℕ) (bytes : List ℕ) (cs : List (List ℕ)) (ls : List Spot) → ArePayloads (shape v.extents) (formats_of (shape v.extents)) id (next_command s) bytes cs
    → AreAppendedBy b v.extents v.graph ForPut (chunk_frames (shape v.extents) (formats_of (shape v.extents)) cs) ls y h → IsSet v.index id (map place_of ls) j
    → (t : State) × Does (shape v.extents) (formats_of (shape v.extents)) s (Put id bytes) (Accepted (suc (length s.commands))) t × ArePartsOf y h j t
put_by false v s rule whole is y h j id bytes cs ls cut all set = put v.extents v.graph v.index s is.parts y h j id bytes cs ls rule whole cut all set
put_by true v s rule whole is y h j id bytes cs ls cut all set =
    let done = put_apart v.extents v.graph v.index v.copies s rule (record { parts = is.parts; same_copies = is.copies }) y h j id bytes cs ls whole cut all set in
    (done.0, done.1, done.2.parts)

-- chunks and runs lie apart or not
module _ (v : Stored) (s : State) (whole : IsWhole v.extents) (is : IsStateOf v s) (b : Bool) (rule : (shape v.extents).apart ≡ b) (id : ℕ) (bytes : List ℕ) where
  S : Shape
  S = shape v.extents

  abbrev counts : List (List ℕ) → List ℕ
  counts cs = page_counts (chunk_frames (shape v.extents) (formats_of (shape v.extents)) cs)

  abbrev Large : Type 0
  Large = (shape v.extents).most_chunks * (shape v.extents).chunk_bytes < length bytes

  -- the payloads are those of the command that is accepted next
  abbrev Payloads : List (List ℕ) → Type 0
  Payloads cs = ArePayloads (shape v.extents) (formats_of (shape v.extents)) id (v.base + v.accepted + 1) bytes cs

  numbered : s.count + suc (length s.commands) ≡ v.base + v.accepted + 1
  numbered = omega (arith, is.base, is.accepted)

  in_machine : (cs : List (List ℕ)) → Payloads cs → ArePayloads (shape v.extents) (formats_of (shape v.extents)) id (next_command s) bytes cs
  in_machine cs are = subst (λ (n : ℕ). ArePayloads (shape v.extents) (formats_of (shape v.extents)) id n bytes cs) (sym numbered) are

  of_machine : (cs : List (List ℕ)) → ArePayloads (shape v.extents) (formats_of (shape v.extents)) id (next_command s) bytes cs → Payloads cs
  of_machine cs are = subst (λ (n : ℕ). ArePayloads (shape v.extents) (formats_of (shape v.extents)) id n bytes cs) numbered are

  -- the machine's ground for 32 is that of the index
  pub full_index : (limit : v.index.limit ≡ (shape v.extents).most_weight) → (format : v.index.format ≡ (shape v.extents).format)
      → TooHeavy (shape v.extents) (formats_of (shape v.extents)) s id bytes ↔ IsTooHeavy (shape v.extents) v.index id bytes
  full_index limit format = (
    (λ heavy. (
      heavy.0,
      heavy.1,
      subst (λ (k : ℕ). k < weight_with (weigh_in v.index.format) (index_of v.index) id (length heavy.0)) (sym limit)
          (subst (λ (k : ℕ). (shape v.extents).most_weight < k) (sym (as_heavy (length heavy.0))) heavy.2),
    )),
    (λ heavy. (
      heavy.0,
      heavy.1,
      subst (λ (k : ℕ). k < weight_with (shape v.extents).weigh (index_now s) id (length heavy.0)) limit
          (subst (λ (k : ℕ). v.index.limit < k) (as_heavy (length heavy.0)) heavy.2),
    )),
  )
    where
      as_heavy : (n : ℕ) → weight_with (weigh_in v.index.format) (index_of v.index) id n ≡ weight_with (shape v.extents).weigh (index_now s) id n
      as_heavy n = ap (λ (f : Format). weight_with (weigh_in f) (index_of v.index) id n) format
          ∙ as_heavy_with v.index s.table s.runs is.parts.index (shape v.extents).weigh id n

  module _ (limit : v.index.limit ≡ (shape v.extents).most_weight) (format : v.index.format ≡ (shape v.extents).format) (runs : v.halted ≡ false) where
    runs_on : s.halted ≡ true → ⊥
    runs_on = going s.halted (is.halted ∙ runs)

    abbrev Fitting : Type 0
    Fitting = (cs : List (List ℕ)) → Payloads cs → FitsBy (shape v.extents) b (extents_of v.extents) ForPut (counts cs) → ⊥

    abbrev Worn : Type 0
    Worn = (cs : List (List ℕ)) × Payloads cs × FitsBy (shape v.extents) b (extents_of v.extents) ForPut (counts cs) × AreWornBy b v.extents v.graph.staging ForPut (counts cs)

    Last : Type 0
    Last = 2 ^ 63 ≤ v.base + v.accepted + 1

    -- it is refused as too large
    pub put_large : Large → Step (shape v.extents) (formats_of (shape v.extents)) s (Put id bytes) (Refused TooLarge) s
    put_large large = (inl (inr (runs_on, inl (large, refl))), refl)

    pub put_index : (Large → ⊥) → IsTooHeavy (shape v.extents) v.index id bytes
        → Step (shape v.extents) (formats_of (shape v.extents)) s (Put id bytes) (Refused IndexFull) s
    put_index small full = (inl (inr (runs_on, inr (small, inl ((full_index limit format).1 full, refl)))), refl)

    module _ (small : Large → ⊥) (light : IsTooHeavy (shape v.extents) v.index id bytes → ⊥) where
      unfull : TooHeavy (shape v.extents) (formats_of (shape v.extents)) s id bytes → ⊥
      unfull heavy = light ((full_index limit format).0 heavy)

      pub put_no_room : Fitting → Step (shape v.extents) (formats_of (shape v.extents)) s (Put id bytes) (Refused Full) s
      put_no_room none = (inl (inr (runs_on, inr (small, inr (unfull, inl ((put_full_by v.extents v.graph v.index s whole is.parts b rule id bytes).1 (λ cs are. none cs (of_machine cs are)), refl))))), refl)

      room : (Fitting → ⊥) → NoRoomToPut (shape v.extents) (formats_of (shape v.extents)) s id bytes → ⊥
      room fits none = fits (λ cs are. (put_full_by v.extents v.graph v.index s whole is.parts b rule id bytes).0 none cs (in_machine cs are))

      numbers_worn : WouldPass (shape v.extents) (formats_of (shape v.extents)) s (Put id bytes) → Worn ⊎ (2 ^ 63 ≤ v.base + v.accepted + 1)
      numbers_worn would = let w = (put_worn_by v.extents v.graph v.index s whole is.parts b rule is.sound is.bounded id bytes).0 would in ⊎_elim
          (λ (worn : AreWornBy b v.extents v.graph.staging ForPut (counts w.0)). inl (w.0, of_machine w.0 w.1, w.2, worn))
          (λ (last : 2 ^ 63 ≤ s.count + length s.commands + 1). inr (omega (arith, is.base, is.accepted)))
          w.3

      pub put_worn_out : (Fitting → ⊥) → Worn → Step (shape v.extents) (formats_of (shape v.extents)) s (Put id bytes) (Refused WornOut) s
      put_worn_out fits w =
          (inl (inr (runs_on, inr (small, inr (unfull, inr (room fits, inl ((put_worn_by v.extents v.graph v.index s whole is.parts b rule is.sound is.bounded id bytes).1 (w.0, in_machine w.0 w.1, w.2, inl w.3), refl)))))), refl)

      -- the number of commands is the greatest
      pub put_last : (2 ^ 63 ≤ v.base + v.accepted + 1) → (cs : List (List ℕ)) × Payloads cs × FitsBy (shape v.extents) b (extents_of v.extents) ForPut (counts cs)
          → Step (shape v.extents) (formats_of (shape v.extents)) s (Put id bytes) (Refused WornOut) s
      put_last last f =
          let past : 2 ^ 63 ≤ s.count + length s.commands + 1 = omega (arith, is.base, is.accepted) in (
            inl (inr (
              runs_on,
              inr (
                small,
                inr (
                  unfull,
                  inr (
                    room (λ none. none f.0 f.1 f.2),
                    inl ((put_worn_by v.extents v.graph v.index s whole is.parts b rule is.sound is.bounded id bytes).1 (f.0, in_machine f.0 f.1, f.2, inr past), refl),
                  ),
                ),
              ),
            )),
            refl,
          )

      -- it is done
      pub put_done : (Fitting → ⊥) → (Worn → ⊥) → (2 ^ 63 ≤ v.base + v.accepted + 1 → ⊥)
          → (y : ExtentsState) (h : GraphState) (j : IndexState) (cs : List (List ℕ)) (ls : List Spot) → Payloads cs
          → AreAppendedBy b v.extents v.graph ForPut (chunk_frames (shape v.extents) (formats_of (shape v.extents)) cs) ls y h → IsSet v.index id (map place_of ls) j → shape y ≡ shape v.extents
          → (t : State) × Step (shape v.extents) (formats_of (shape v.extents)) s (Put id bytes) (Accepted (v.accepted + 1)) t
          × IsStateOf (record v { graph = h; extents = y; index = j; accepted = v.accepted + 1 }) t
      put_done fits fresh young y h j cs ls cut all set same =
          let none : (f : Refusal) → Refuses (shape v.extents) (formats_of (shape v.extents)) s (Put id bytes) f → ⊥
          = pass Halted runs_on (pass TooLarge small (pass IndexFull unfull (pass Full (room fits) (pass WornOut (λ would. ⊎_elim fresh young (numbers_worn would)) no_more)))) in
          let done = put_by b v s rule whole is y h j id bytes cs ls (in_machine cs cut) all set in
          at done.0 none done.1 done.2
        where
          at : (t : State) → ((f : Refusal) → Refuses (shape v.extents) (formats_of (shape v.extents)) s (Put id bytes) f → ⊥)
              → Does (shape v.extents) (formats_of (shape v.extents)) s (Put id bytes) (Accepted (suc (length s.commands))) t → ArePartsOf y h j t
              → (z : State) × Step (shape v.extents) (formats_of (shape v.extents)) s (Put id bytes) (Accepted (v.accepted + 1)) z
              × IsStateOf (record v { graph = h; extents = y; index = j; accepted = v.accepted + 1 }) z
          at t none does parts =
              let u : State = record s { world = does.4.0; table = record { id = id; locators = does.1 } ∷ s.table; commands = (id, Some bytes) ∷ s.commands } in
              let tis : t ≡ u = does.6 ∙ ap (λ (m : State). record m { table = record { id = id; locators = does.1 } ∷ m.table; commands = (id, Some bytes) ∷ m.commands }) does.4.2 in
              let number : suc (length s.commands) ≡ v.accepted + 1 = omega (arith, is.accepted) in
              let step : Step (shape v.extents) (formats_of (shape v.extents)) s (Put id bytes) (Accepted (v.accepted + 1)) t
              = subst (λ (n : ℕ). Step (shape v.extents) (formats_of (shape v.extents)) s (Put id bytes) (Accepted n) t) number (none, does) in
              let beside : Beside s t = beside_is s t u tis (record { round_out = refl; left = refl; issued = refl; halted = refl; count = refl }) in
              let roots : SameRoots s.world t.world = subst (λ (z : State). SameRoots s.world z.world) (sym tis)
              (appends_stay (shape v.extents).apart (shape v.extents) s.world does.4.0 ForPut (chunk_frames (shape v.extents) (formats_of (shape v.extents)) does.0) does.1 does.4.1) in
              let many : length t.commands ≡ v.accepted + 1 = ap (λ (z : State). length z.commands) tis ∙ number in (
                t,
                step,
                goes_on v (record v { graph = h; extents = y; index = j; accepted = v.accepted + 1 }) s t (Put id bytes) (Accepted (v.accepted + 1)) whole is step same parts (ap (λ (z : State). z.copies) tis ∙ is.copies) beside refl refl refl refl many
                    (frontier_same (shape v.extents) (formats_of (shape v.extents)) s t v.frontier is.frontier roots beside.count)
                    (roots_same v.roots s t is.roots roots beside.count),
              )

-- room for the entry alone has changed
pub set_from : (id : ℕ) (i k j : IndexState) (ls : List Locator) → k ≡ record i { room = k.room } → IsSet k id ls j → IsSet i id ls j
set_from id i k j ls e set = let there : IsSet (record i { room = k.room }) id ls j = subst (λ (u : IndexState). IsSet u id ls j) e set in
    record { table = there.table; index = there.index; runs = there.runs; format = there.format; limit = there.limit }

-- ---- refusals of the calls
module _ (v w : Stored) (whole : IsWhole v.extents) (b : Bool) (rule : (shape v.extents).apart ≡ b) (limit : v.index.limit ≡ (shape v.extents).most_weight) (format : v.index.format ≡ (shape v.extents).format) (runs : v.halted ≡ false) (same : but_for_room w ≡ but_for_room v) (id : ℕ) (bytes : List ℕ) (r : Code) where
  abbrev pub IsLarge : Type 0
  IsLarge = (shape v.extents).most_chunks * (shape v.extents).chunk_bytes < length bytes

  abbrev pub NoneFits : Type 0
  NoneFits = (cs : List (List ℕ)) → ArePayloads (shape v.extents) (formats_of (shape v.extents)) id (v.base + v.accepted + 1) bytes cs → FitsBy (shape v.extents) b (extents_of v.extents) ForPut (page_counts (chunk_frames (shape v.extents) (formats_of (shape v.extents)) cs)) → ⊥

  abbrev pub IsOut : Type 0
  IsOut = (cs : List (List ℕ)) × ArePayloads (shape v.extents) (formats_of (shape v.extents)) id (v.base + v.accepted + 1) bytes cs × FitsBy (shape v.extents) b (extents_of v.extents) ForPut (page_counts (chunk_frames (shape v.extents) (formats_of (shape v.extents)) cs))
      × AreWornBy b v.extents v.graph.staging ForPut (page_counts (chunk_frames (shape v.extents) (formats_of (shape v.extents)) cs))

  pub test_declines : (r ≡ code.TooLarge) ⊎ (r ≡ code.IndexFull) → (r ≡ code.TooLarge → IsLarge) → (r ≡ code.IndexFull → (IsLarge → ⊥) × IsTooHeavy (shape v.extents) v.index id bytes)
      → Declines v (Put id bytes) r w
  test_declines (inl e) large index = inr (TooLarge, e, λ s is. (s, put_large v s whole is b rule id bytes limit format runs (large e), same_state v w s is same))
  test_declines (inr e) large index =
      let i = index e in
      inr (IndexFull, e, λ s is. (s, put_index v s whole is b rule id bytes limit format runs i.0 i.1, same_state v w s is same))

  module _ (small : IsLarge → ⊥) (light : IsTooHeavy (shape v.extents) v.index id bytes → ⊥) where
    pub chunks_decline : (r ≡ code.Full) ⊎ (r ≡ code.WornOut) ⊎ (r ≡ code.OutOfMemory) → (r ≡ code.Full → NoneFits) → (r ≡ code.WornOut → IsOut) → Declines v (Put id bytes) r w
    chunks_decline (inl e) full worn = inr (Full, e, λ s is. (s, put_no_room v s whole is b rule id bytes limit format runs small light (full e), same_state v w s is same))
    chunks_decline (inr (inl e)) full worn =
        let out = worn e in
        inr (WornOut, e, λ s is. (s, put_worn_out v s whole is b rule id bytes limit format runs small light (λ none. none out.0 out.1 out.2) out, same_state v w s is same))
    chunks_decline (inr (inr e)) full worn = inl e

    pub last_declines : 2 ^ 63 ≤ v.base + v.accepted + 1 → IsWhyWorn v.extents bytes r → Declines v (Put id bytes) r w
    last_declines last why = go r refl why
      where
        go : (q : Code) → r ≡ q → IsWhyWorn v.extents bytes q → Declines v (Put id bytes) r w
        go code.WornOut e f = inr (WornOut, e, λ s is. (s, put_last v s whole is (shape v.extents).apart refl id bytes limit format runs small light last (f id (v.base + v.accepted + 1)), same_state v w s is same))
        go code.Full e none = inr (Full, e, λ s is. (s, put_no_room v s whole is (shape v.extents).apart refl id bytes limit format runs small light (none id (v.base + v.accepted + 1)), same_state v w s is same))
        go q e no_why = absurd no_why
