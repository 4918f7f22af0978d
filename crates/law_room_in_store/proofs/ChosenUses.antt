-- What is chosen by how extents are used is chosen by what lives on them.
use Rattle.std.proofs.Common.{◌≡◌, ◌≢◌, inl, inr, ⊎_elim, ℕ, zero, suc, ◌+◌, ◌-◌, ◌<◌, ◌≤◌, ◌==◌, Bool, true, false, List, [], ◌∷◌, Option, Some, None, length, if◌then◌else◌, ne_eqb, true≢false, refl, sym, ap, ap₂, ◌∙◌, subst, arith}
use Rattle.std.specs.Prelude.{slice_get}
use Rattle.std.proofs.lemmas.Bool.{cases_lt}
use Rattle.law_machine.specs.Device.{Shape}
use Rattle.law_machine.specs.Extents.{Extents}
use Rattle.law_room.specs.OfMachine.{holding}
use Rattle.law_room.specs.Rooms.{Empty, Holding, OfChunks, OfRuns, Room, is_of_chunks, live_pages}
use Rattle.law_room.specs.Sweeps.{IsChosen, IsChunkExtent, NoTwoFit as NoTwoFitInRoom}
use Rattle.law_room.proofs.BrimDead.{dead_holds}
use Rattle.law_room.proofs.BrimRule.{alike}
use Rattle.law_room.specs.Brim.{IsFewest as IsFewestInRoom, IsFewestDead as IsFewestDeadInRoom, IsNext as IsNextInRoom, IsSure as IsSureInRoom, NoneNext as NoneNextInRoom, NothingDead as NothingDeadInRoom, dead_pages, greatest_chunk, sum_to, sure_pages}
use Rattle.law_room.specs.Invariant.{Keeps}
use Rattle.cs_inspect.specs.Brim.{ChoosesNext, HasDead, IsFewestDead, IsNext, IsSure, NoneSure, NothingDead, sum_below, sure_at, sure_on, sure_there}
use Rattle.cs_inspect.specs.declared.surveys.ExtentUse.{ExtentUse}
use Rattle.cs_inspect.specs.Fewest.{IsFewest, IsFewestLive, IsMovable, NoTwoFit}
use Rattle.cs_inspect.specs.Uses.{AreExtents}

pub inside : {A : Type 0} (xs : List A) (k : ℕ) (x : A) → slice_get xs k ≡ Some x → k < length xs
inside [] k x wrong = absurd (let no : None ≡ Some x = wrong in cc)
inside (y ∷ ys) zero x at = omega arith
inside (y ∷ ys) (suc k) x at = let more : k < length ys = inside ys k x at in omega arith

pub there : {A : Type 0} (xs : List A) (k : ℕ) → k < length xs → (x : A) × (slice_get xs k ≡ Some x)
there [] k lt = absurd (omega arith)
there (y ∷ ys) zero lt = (y, refl)
there (y ∷ ys) (suc k) lt = there ys k (omega arith)

holds_chunks : (x : Extents) (e : ℕ) → 0 < x.pointer e → x.of_runs e ≡ false → holding x e ≡ OfChunks
holds_chunks x e given of_chunks =
    ap (λ (b : Bool). if b then Empty else if x.of_runs e then OfRuns else OfChunks) (ne_eqb (x.pointer e) 0 (λ is. omega (arith, is, given)))
    ∙ ap (λ (b : Bool). if b then OfRuns else OfChunks) of_chunks

chunks_held : (x : Extents) (e : ℕ) → holding x e ≡ OfChunks → (0 < x.pointer e) × (x.of_runs e ≡ false)
chunks_held x e is = go (x.pointer e == 0) (x.of_runs e) refl refl is
  where
    some : (n : ℕ) → (n == 0) ≡ false → 0 < n
    some zero off = absurd (let wrong : true ≡ false = off in true≢false wrong)
    some (suc n) off = omega arith

    go : (a b : Bool) → (x.pointer e == 0) ≡ a → x.of_runs e ≡ b → (if a then Empty else if b then OfRuns else OfChunks) ≡ OfChunks
        → (0 < x.pointer e) × (x.of_runs e ≡ false)
    go true b test runs wrong = absurd (let no : Empty ≡ OfChunks = wrong in cc)
    go false true test runs wrong = absurd (let no : OfRuns ≡ OfChunks = wrong in cc)
    go false false test runs same = (some (x.pointer e) test, runs)

runs_held : (x : Extents) (e : ℕ) → holding x e ≡ OfRuns → x.of_runs e ≡ true
runs_held x e is = go (x.pointer e == 0) (x.of_runs e) refl is
  where
    go : (a b : Bool) → x.of_runs e ≡ b → (if a then Empty else if b then OfRuns else OfChunks) ≡ OfRuns → x.of_runs e ≡ true
    go true b runs wrong = absurd (let no : Empty ≡ OfRuns = wrong in cc)
    go false true runs same = runs
    go false false runs wrong = absurd (let no : OfChunks ≡ OfRuns = wrong in cc)

none_held : (x : Extents) (e : ℕ) → holding x e ≡ Empty → x.pointer e ≡ 0
none_held x e is = go (x.pointer e == 0) (x.of_runs e) refl is
  where
    none : (n : ℕ) → (n == 0) ≡ true → n ≡ 0
    none zero on = refl
    none (suc n) on = absurd (true≢false (sym on ∙ ne_eqb (suc n) 0 (λ is. omega (arith, is))))

    go : (a b : Bool) → (x.pointer e == 0) ≡ a → (if a then Empty else if b then OfRuns else OfChunks) ≡ Empty → x.pointer e ≡ 0
    go true b test same = none (x.pointer e) test
    go false true test wrong = absurd (let no : OfRuns ≡ Empty = wrong in cc)
    go false false test wrong = absurd (let no : OfChunks ≡ Empty = wrong in cc)

-- ---- how many pages are sure on an extent

-- of what its marks and its counts are
abbrev sure_of : (runs swept empty read : Bool) → ℕ → ℕ
sure_of runs swept empty read n = if runs then 0 else if swept then 0 else if empty then 0 else if read then n else 0

nothing_empty : (runs swept read : Bool) (n : ℕ) → sure_of runs swept true read n ≡ 0
nothing_empty true swept read n = refl
nothing_empty false true read n = refl
nothing_empty false false read n = refl

sure_empty : (pages greatest : ℕ) (used : ExtentUse) → used.pointer ≡ 0 → sure_on pages greatest used ≡ 0
sure_empty pages greatest used none =
    ap (λ (b : Bool). sure_of used.holds_runs used.is_swept b (used.unreadable == 0) ((pages - used.pointer) - (greatest - 1))) (ap (λ (n : ℕ). n == 0) none)
    ∙ nothing_empty used.holds_runs used.is_swept (used.unreadable == 0) ((pages - used.pointer) - (greatest - 1))

sure_of_runs : (pages greatest : ℕ) (used : ExtentUse) → used.holds_runs ≡ true → sure_on pages greatest used ≡ 0
sure_of_runs pages greatest used runs =
    ap (λ (b : Bool). sure_of b used.is_swept (used.pointer == 0) (used.unreadable == 0) ((pages - used.pointer) - (greatest - 1))) runs

sure_movable : (pages greatest : ℕ) (used : ExtentUse) → IsMovable used → sure_on pages greatest used ≡ (pages - used.pointer) - (greatest - 1)
sure_movable pages greatest used movable =
    let sure : ℕ = (pages - used.pointer) - (greatest - 1) in
    ap (λ (b : Bool). sure_of b used.is_swept (used.pointer == 0) (used.unreadable == 0) ((pages - used.pointer) - (greatest - 1))) movable.of_chunks
    ∙ ap (λ (b : Bool). sure_of false b (used.pointer == 0) (used.unreadable == 0) ((pages - used.pointer) - (greatest - 1))) movable.at_rest
    ∙ ap (λ (b : Bool). sure_of false false b (used.unreadable == 0) ((pages - used.pointer) - (greatest - 1))) (ne_eqb used.pointer 0 (λ is. omega (arith, is, movable.given)))
    ∙ ap (λ (n : ℕ). sure_of false false false (n == 0) ((pages - used.pointer) - (greatest - 1))) movable.readable

module _ (S : Shape) (J : ℕ) (x : Extents) (r : Room) (uses : List ExtentUse) (listed : AreExtents S.extents x uses)
    (holds : (e : ℕ) → e < S.extents → r.holds e ≡ holding x e) (last : r.last ≡ x.last) (idle : (e : ℕ) → e < S.extents → x.swept e ≡ false)
    (live : (e : ℕ) (used : ExtentUse) → slice_get uses e ≡ Some used → used.live ≡ live_pages r.chunks e)
    (readable : (e : ℕ) (used : ExtentUse) → slice_get uses e ≡ Some used → used.unreadable ≡ 0)
    (pointers : (e : ℕ) → e < S.extents → r.pointer e ≡ x.pointer e) (greatest : ℕ) (is_greatest : greatest ≡ greatest_chunk r.chunks) where
  -- all may be moved from an extent of chunks, and from no other
  is_chunks : (e : ℕ) (used : ExtentUse) → slice_get uses e ≡ Some used → IsMovable used → IsChunkExtent S J r e
  is_chunks e used at movable =
      let lt : e < S.extents = omega (arith, inside uses e used at, listed.0) in
      let its = listed.1 e used at in
      (lt, holds e lt ∙ holds_chunks x e (omega (arith, movable.given, its.pointer)) (sym its.of_runs ∙ movable.of_chunks))

  is_movable : (e : ℕ) (used : ExtentUse) → slice_get uses e ≡ Some used → IsChunkExtent S J r e → IsMovable used
  is_movable e used at chunks =
      let its = listed.1 e used at in
      let held = chunks_held x e (sym (holds e chunks.0) ∙ chunks.1) in record {
        given = omega (arith, held.0, its.pointer);
        of_chunks = its.of_runs ∙ held.1;
        at_rest = its.is_swept ∙ idle e chunks.0;
        readable = readable e used at;
      }

  used_there : (e : ℕ) → IsChunkExtent S J r e → (used : ExtentUse) × (slice_get uses e ≡ Some used)
  used_there e chunks = there uses e (omega (arith, chunks.0, listed.0))

  chosen_is : (e : ℕ) → IsFewestLive uses x.last S.pages e → IsChosen S J r e
  chosen_is e choice =
      let best : IsFewest uses x.last e = choice.best in
      let partner = choice.partner in record {
        chunks = is_chunks e best.its best.there.0 best.there.2;
        not_last = λ is. best.there.1 (sym last ∙ is);
        fewest = λ k chunks not_last. fewest k chunks not_last (used_there k chunks);
        partner = (
          partner.0,
          (λ same. partner.2.1 (ap (λ (n : ℕ). Some n) same)),
          is_chunks partner.0 partner.1 partner.2.0 partner.2.2,
          (let fit : best.its.live + partner.1.live ≤ S.pages = partner.3 in
              omega (arith, fit, live e best.its best.there.0, live partner.0 partner.1 partner.2.0)),
        );
      }
    where
      fewest : (k : ℕ) → IsChunkExtent S J r k → r.last ≢ Some k → (used : ExtentUse) × (slice_get uses k ≡ Some used)
          → live_pages r.chunks e ≤ live_pages r.chunks k
      fewest k chunks not_last (used, at) =
          let best : IsFewest uses x.last e = choice.best in
          let here : best.its.live ≡ live_pages r.chunks e = live e best.its best.there.0 in
          let other : used.live ≡ live_pages r.chunks k = live k used at in
          ⊎_elim
          (λ less. let is : best.its.live < used.live = less in omega arith)
          (λ same. let is : best.its.live ≡ used.live = same.0 in omega arith)
          (best.fewest k used (at, (λ is. not_last (last ∙ is)), is_movable k used at chunks))

  none_is : NoTwoFit uses S.pages → NoTwoFitInRoom S J r
  none_is none a b apart one other =
      let first = used_there a one in
      let second = used_there b other in
      let here : first.0.live ≡ live_pages r.chunks a = live a first.0 first.1 in
      let more : second.0.live ≡ live_pages r.chunks b = live b second.0 second.1 in
      ⊎_elim
      (λ over. let is : S.pages < first.0.live + second.0.live = over in omega arith)
      (λ fits. absurd (none a first.0 b second.0 (first.1, is_movable a first.0 first.1 one)
      (second.1, (λ same. apart (let is : a ≡ b = cc same in is)), is_movable b second.0 second.1 other) fits))
      (cases_lt S.pages (first.0.live + second.0.live))

  -- ---- dead pages

  -- of an extent of chunks as many pages are dead as its use says
  dead_is : (e : ℕ) (used : ExtentUse) → slice_get uses e ≡ Some used → IsChunkExtent S J r e → dead_pages r e ≡ used.pointer - used.live
  dead_is e used at chunks =
      ap (λ (h : Holding). if is_of_chunks h then r.pointer e - live_pages r.chunks e else 0) chunks.1
      ∙ ap (λ (n : ℕ). n - live_pages r.chunks e) (pointers e chunks.0 ∙ sym (listed.1 e used at).pointer)
      ∙ ap (λ (n : ℕ). used.pointer - n) (sym (live e used at))

  dead_then : (e : ℕ) (used : ExtentUse) (has : HasDead uses e used) → 0 < dead_pages r e
  dead_then e used has =
      let is : dead_pages r e ≡ used.pointer - used.live = dead_is e used has.0 (is_chunks e used has.0 has.1) in
      let some : used.live < used.pointer = has.2 in omega (arith, is, some)

  dead_there : (e : ℕ) (used : ExtentUse) → slice_get uses e ≡ Some used → IsChunkExtent S J r e → 0 < dead_pages r e → HasDead uses e used
  dead_there e used at chunks some =
      let is : dead_pages r e ≡ used.pointer - used.live = dead_is e used at chunks in
      (at, is_movable e used at chunks, omega (arith, is, some))

  fewest_dead_is : (e : ℕ) → IsFewestDead uses e → IsFewestDeadInRoom S J r e
  fewest_dead_is e best = (
    is_chunks e best.its best.there.0 best.there.1,
    dead_then e best.its best.there,
    λ k chunks some. (let used = used_there k chunks in
        let here : best.its.live ≡ live_pages r.chunks e = live e best.its best.there.0 in
        let other : used.0.live ≡ live_pages r.chunks k = live k used.0 used.1 in
        ⊎_elim
        (λ less. let is : best.its.live < used.0.live = less in omega arith)
        (λ same. let is : best.its.live ≡ used.0.live = same.0 in omega arith)
        (best.fewest k used.0 (dead_there k used.0 used.1 chunks some))),
  )

  pub nothing_is : NothingDead uses → NothingDeadInRoom S r
  nothing_is none e lt = ⊎_elim
      (λ (some : 0 < dead_pages r e).
      let chunks : IsChunkExtent S J r e = (lt, dead_holds r e some) in
      let used = used_there e chunks in absurd (none e used.0 (dead_there e used.0 used.1 chunks some)))
      (λ (zero_is : dead_pages r e ≤ 0). (let le : dead_pages r e ≤ 0 = zero_is in omega arith))
      (cases_lt 0 (dead_pages r e))

  -- ---- sweeps that are sure to gain

  fewest_is : (e : ℕ) → IsFewest uses None e → IsFewestInRoom S J r e
  fewest_is e best = (
    is_chunks e best.its best.there.0 best.there.2,
    λ k chunks. (let used = used_there k chunks in
        let here : best.its.live ≡ live_pages r.chunks e = live e best.its best.there.0 in
        let other : used.0.live ≡ live_pages r.chunks k = live k used.0 used.1 in
        ⊎_elim
        (λ less. let is : best.its.live < used.0.live = less in omega arith)
        (λ same. let is : best.its.live ≡ used.0.live = same.0 in omega arith)
        (best.fewest k used.0 (used.1, (λ is. absurd (let no : None ≡ Some k = is in cc)), is_movable k used.0 used.1 chunks))),
  )

  -- as many pages are sure on an extent as by its use
  sure_is : (e : ℕ) → e < S.extents → sure_there S.pages greatest (slice_get uses e)
      ≡ (if is_of_chunks (r.holds e) then (S.pages - r.pointer e) - (greatest_chunk r.chunks - 1) else 0)
  sure_is e lt =
      let used = there uses e (omega (arith, lt, listed.0)) in
      ap (λ (o : Option ExtentUse). sure_there S.pages greatest o) used.1 ∙ go used.0 used.1 (r.holds e) refl
    where
      go : (used : ExtentUse) → slice_get uses e ≡ Some used → (h : Holding) → r.holds e ≡ h
          → sure_on S.pages greatest used ≡ (if is_of_chunks h then (S.pages - r.pointer e) - (greatest_chunk r.chunks - 1) else 0)
      go used at OfChunks is =
          let movable : IsMovable used = is_movable e used at (lt, is) in
          sure_movable S.pages greatest used movable
          ∙ ap (λ (n : ℕ). (S.pages - n) - (greatest - 1)) ((listed.1 e used at).pointer ∙ sym (pointers e lt))
          ∙ ap (λ (n : ℕ). (S.pages - r.pointer e) - (n - 1)) is_greatest
      go used at OfRuns is = sure_of_runs S.pages greatest used ((listed.1 e used at).of_runs ∙ runs_held x e (sym (holds e lt) ∙ is))
      go used at Empty is = sure_empty S.pages greatest used ((listed.1 e used at).pointer ∙ none_held x e (sym (holds e lt) ∙ is))

  sums_are : (swept n : ℕ) → n ≤ S.extents → sum_below (sure_at uses S.pages greatest swept) n ≡ sum_to (sure_pages S r swept) n
  sums_are swept zero le = refl
  sums_are swept (suc n) le = ap₂ (λ (a b : ℕ). a + b) (ap (λ (k : ℕ). if n == swept then 0 else k) (sure_is n (omega (arith, le)))) (sums_are swept n (omega (arith, le)))

  all_sure : (swept : ℕ) → sum_below (sure_at uses S.pages greatest swept) (length uses) ≡ sum_to (sure_pages S r swept) S.extents
  all_sure swept = subst (λ (n : ℕ). sum_below (sure_at uses S.pages greatest swept) n ≡ sum_to (sure_pages S r swept) S.extents) (sym listed.0)
      (sums_are swept S.extents (omega arith))

  sure_then : (e : ℕ) (used : ExtentUse) → slice_get uses e ≡ Some used → IsSure uses S.pages greatest e used → IsSureInRoom S r e
  sure_then e used at sure =
      let here : used.live ≡ live_pages r.chunks e = live e used at in
      let some : 0 < used.live = sure.0 in
      let le : used.live ≤ sum_below (sure_at uses S.pages greatest e) (length uses) = sure.1 in
      (omega (arith, here, some), omega (arith, here, le, all_sure e))

  sure_back : (e : ℕ) (used : ExtentUse) → slice_get uses e ≡ Some used → IsSureInRoom S r e → IsSure uses S.pages greatest e used
  sure_back e used at sure =
      let here : used.live ≡ live_pages r.chunks e = live e used at in
      let some : 0 < live_pages r.chunks e = sure.0 in
      let le : live_pages r.chunks e ≤ sum_to (sure_pages S r e) S.extents = sure.1 in
      (omega (arith, here, some), omega (arith, here, le, all_sure e))

  -- ---- what is swept next

  pub next_is : (e dead : ℕ) → ChoosesNext uses x.last S.pages greatest (Some (e, dead)) → IsNextInRoom S J r e
  next_is e dead choice = go choice.0
    where
      go : IsNext uses x.last S.pages greatest e → IsNextInRoom S J r e
      go (inl two) = inl (chosen_is e two)
      go (inr (inl (no_two, best))) = inr (inl (none_is no_two, fewest_dead_is e best))
      go (inr (inr (no_two, nothing, one))) = inr (inr (none_is no_two, nothing_is nothing, fewest_is e one.0, sure_then e one.0.its one.0.there.0 one.1))

  pub none_next_is : Keeps S J r → ChoosesNext uses x.last S.pages greatest None → NoneNextInRoom S J r
  none_next_is keeps none = record {
    no_two = none_is none.no_two;
    nothing = nothing_is none.nothing;
    unsure = λ y fewest sure. go y fewest sure none.unsure;
  }
    where
      go : (y : ℕ) → IsFewestInRoom S J r y → IsSureInRoom S r y → NoneSure uses S.pages greatest → ⊥
      go y fewest sure (inl no_other) = let used = used_there y fewest.0 in
          no_other y used.0 (used.1, (λ is. absurd (let no : None ≡ Some y = is in cc)), is_movable y used.0 used.1 fewest.0)
      go y fewest sure (inr (e, best, unsure)) = unsure (sure_back e best.its best.there.0
          (alike S J r y e keeps (nothing_is none.nothing) fewest (fewest_is e best) sure))
