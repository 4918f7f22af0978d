-- What a Stage and a Retire keep where chunks and runs lie apart.
use Rattle.std.proofs.Common.{◌≡◌, ◌≢◌, ◌∙◌, ◌⊎◌, inl, inr, ⊎_elim, ℕ, zero, suc, ◌<◌, ◌≤◌, Bool, true, false, List, [], ◌∷◌, ◌++◌, Option, Some, None, drop, length, refl, sym, ap, subst, arith}
use Rattle.std.specs.Prelude.{if◌then◌else◌, ◌==◌}
use Rattle.std.proofs.lemmas.Bool.{cases_eq, cond-false, cond-true, eq-eqb, ne_eqb}
use Rattle.cs_deps.specs.State.{State as GraphState}
use Rattle.cs_extent.specs.Appended.{IsReady}
use Rattle.cs_extent.specs.Frames.{root_family}
use Rattle.cs_extent.specs.State.{IsWhole, State as ExtentsState, extents_of, shape}
use Rattle.cs_index.proofs.Chosen.{takes_below, takes_none, takes_some}
use Rattle.cs_index.proofs.Parts.{part_live}
use Rattle.cs_index.proofs.Sizes.{goes_all, none_left}
use Rattle.cs_index.specs.Apart.{IsFullApart, IsNewestStagedApart, IsStagedApart, WritesNewest, takes_apart}
use Rattle.cs_index.specs.Copies.{IsSettled, settle_in, settle_table}
use Rattle.cs_index.specs.Merges.{deletions_go, part}
use Rattle.cs_index.specs.Staged.{IsPartAppendedBy}
use Rattle.cs_index.specs.State.{State as IndexState, index_of}
use Rattle.law_machine.proofs.ApartResets.{swept_below, swept_stay}
use Rattle.law_machine.proofs.Counting.{lookup_here}
use Rattle.law_machine.specs.Apart.{is_any_swept, is_blank_by, is_place}
use Rattle.law_machine.specs.Device.{Inside, Shape}
use Rattle.law_machine.specs.Element.{Copy, Entry, Locator as Place, Run}
use Rattle.law_machine.specs.Extents.{Extents, ForMerge, ForRun, Purpose as Reason}
use Rattle.law_machine.specs.Index.{entries_of, if_live, live, live_at, lookup}
use Rattle.law_machine.specs.Lists.{nth, replaced, ◌∈◌}
use Rattle.law_machine.specs.Merges.{IsRunOf}
use Rattle.law_refinement.proofs.cs_reclaim.Copying.{up_to_same}
use Rattle.law_refinement.proofs.cs_reclaim.SweptStays.{stage_stays}
use Rattle.law_refinement.specs.cs_reclaim.Copied.{AllUpTo, AreInOrder}
use Rattle.law_refinement.specs.cs_reclaim.Rooted.{IsRetiredApart, IsSweepStaged, extents_at_rest, lying_apart}
use Rattle.law_refinement.proofs.Shapes.{store_shape}
use Rattle.cs_core.specs.declared.histories.Root.{Root as Noted}
use Rattle.cs_core.specs.Puts.{MeansTheSame}
use Rattle.cs_core.specs.Stored.{AreInside, AreSwept, IsKept, IsKeptApart, KeepsDevice, Stored}
use Rattle.cs_core.proofs.PutsMeant.{live_means, settled_means, then_means}
use Rattle.cs_core.proofs.Kept.{kept_on, not_both, noted_on, only_apart}
use Rattle.cs_core.proofs.Moves.{AddsRoot, last_root, moves_extents, moves_newest, moves_refused, moves_then, root_newest}
use Rattle.cs_reader.specs.ImageReads.{page_total}

-- where chunks and runs may lie on one extent nothing of this is asked
pub kept_together : (x y : ExtentsState) (j : IndexState) (copies : List Copy) → shape y ≡ shape x → (shape x).apart ≡ false → (shape y).apart ≡ true → IsKeptApart y j copies
kept_together x y j copies same rule apart = absurd (not_both (shape x).apart rule (sym (ap (λ (S : Shape). S.apart) same) ∙ apart))

-- nothing changed
pub kept_same : (x y : ExtentsState) (i j : IndexState) (copies after : List Copy) → y ≡ x → j ≡ i → after ≡ copies → ((shape x).apart ≡ true → IsKeptApart x i copies)
    → (shape y).apart ≡ true → IsKeptApart y j after
kept_same x y i j copies after extents index same kept =
    subst (λ (z : ExtentsState). (shape z).apart ≡ true → IsKeptApart z j after) (sym extents)
    (subst (λ (k : IndexState). (shape x).apart ≡ true → IsKeptApart x k after) (sym index)
    (subst (λ (cs : List Copy). (shape x).apart ≡ true → IsKeptApart x i cs) (sym same) kept))

-- it was refused
pub kept_refused : (v : Stored) → IsKept v → (y : ExtentsState) (h : GraphState) (j : IndexState) (after : List Copy) (roots : List Noted) → IsReady y h.staging
    → j.format ≡ v.index.format → j.limit ≡ v.index.limit
    → j ≡ v.index → after ≡ v.copies → y ≡ v.extents → h ≡ record v.graph { room = h.room } → roots ≡ v.roots → IsKept (record v { extents = y; graph = h; out = h.round; index = j; copies = after; roots = roots })
kept_refused v kept y h j after roots ready format limit refused stay unwritten unstaged noted =
    let m = moves_refused v.extents v.graph y h unwritten unstaged in
    kept_on v (record v { extents = y; graph = h; out = h.round; index = j; copies = after; roots = roots }) kept m ready format limit
    (subst (λ (k : IndexState). AreInside (shape v.extents) k) (sym refused) kept.places) (m.round ∙ sym kept.round) refl kept.numbers
    (subst (λ (x : ExtentsState). AreSwept x) (sym unwritten) kept.swept)
    (kept_same v.extents y v.index j v.copies after unwritten refused stay kept.apart)
    (noted_on v kept h (ap last_root unstaged) roots noted v.accepted (omega arith))

-- ---- how many runs there are

-- without a table no run is written where no run is merged
nothing_in : (go : Bool) (s : IndexState) (es : List Entry) → s.table ≡ [] → IsRunOf go (part s 0) es → es ≢ [] → ⊥
nothing_in go s [] none run some = some refl
nothing_in go s (e ∷ es) none run some =
    let wrong : Some e.locators ≡ None = sym (lookup_here e es e.id refl) ∙ at go (lookup e.id (e ∷ es)) (run.1 e.id) in cc wrong
  where
    at : (b : Bool) (o : Option (List Place)) → o ≡ (if b then if_live (lookup e.id (part s 0)) else lookup e.id (part s 0)) → o ≡ None
    at true o is = is ∙ ap (λ (zs : List Entry). if_live (lookup e.id (zs ++ []))) none
    at false o is = is ∙ ap (λ (zs : List Entry). lookup e.id (zs ++ [])) none

-- with one run more than are left there are no more than may be
part_runs : (go : Bool) (k most : ℕ) (s : IndexState) (x : ExtentsState) (g : GraphState) (reason : Reason) (runs : List Run) (y : ExtentsState) (h : GraphState)
    → IsPartAppendedBy true go s k x g reason runs y h → length (drop k s.runs) < most → length runs ≤ most
part_runs go k most s x g reason runs y h (inl m) left = let many : length runs ≡ suc (length (drop k s.runs)) = ap (λ (rs : List Run). length rs) m.5 in omega (arith, many, left)
part_runs go k most s x g reason runs y h (inr m) left = let many : length runs ≡ length (drop k s.runs) = ap (λ (rs : List Run). length rs) m.3 in omega (arith, many, left)

-- without a table all runs stand
same_runs : (go : Bool) (s : IndexState) (x : ExtentsState) (g : GraphState) (reason : Reason) (runs : List Run) (y : ExtentsState) (h : GraphState)
    → IsPartAppendedBy true go s 0 x g reason runs y h → s.table ≡ [] → runs ≡ s.runs
same_runs go s x g reason runs y h (inl m) none = absurd (nothing_in go s m.0 none m.3 m.2)
same_runs go s x g reason runs y h (inr m) none = m.3

none_or_some : (es : List Entry) → (es ≡ []) ⊎ (es ≢ [])
none_or_some [] = inl refl
none_or_some (e ∷ es) = inr (λ is. let wrong : e ∷ es ≡ [] = is in cc wrong)

-- ---- what was staged

module _ (s : IndexState) (x : ExtentsState) (g : GraphState) (v commands : ℕ) (t : IndexState) (y : ExtentsState) (h : GraphState) where
  abbrev Newest : Type 0
  Newest = IsNewestStagedApart (takes_apart (shape x) s) s x g ForRun v commands t y h

  abbrev All : Type 0
  All = IsFullApart (WritesNewest (shape x) s (takes_apart (shape x) s)) x ForRun × IsNewestStagedApart (length s.runs) s x g ForMerge v commands t y h

  few_runs : 4 ≤ (shape x).most_runs → length s.runs ≤ (shape x).most_runs → IsStagedApart s x g v commands t y h → length t.runs ≤ (shape x).most_runs
  few_runs enough few staged = ⊎_elim
      (λ (m : Newest). ⊎_elim
      (λ (none : s.table ≡ []).
      let at : IsPartAppendedBy true (deletions_go (shape x) s 0) s 0 x g ForRun t.runs y m.between =
      subst (λ (k : ℕ). IsPartAppendedBy true (deletions_go (shape x) s k) s k x g ForRun t.runs y m.between) (takes_none (shape x) s none) m.appended in
      subst (λ (rs : List Run). length rs ≤ (shape x).most_runs) (sym (same_runs (deletions_go (shape x) s 0) s x g ForRun t.runs y m.between at none)) few)
      (λ (some : s.table ≢ []).
      part_runs (deletions_go (shape x) s (takes_apart (shape x) s)) (takes_apart (shape x) s) (shape x).most_runs s x g ForRun t.runs y m.between m.appended
      (subst (λ (k : ℕ). length (drop k s.runs) < (shape x).most_runs) (sym (takes_some (shape x) s some)) (takes_below (shape x) s enough)))
      (none_or_some s.table))
      (λ (m : All).
      part_runs (deletions_go (shape x) s (length s.runs)) (length s.runs) (shape x).most_runs s x g ForMerge t.runs y m.1.between m.1.appended
      (let none : length (drop (length s.runs) s.runs) ≡ 0 = none_left (shape x) s in omega (arith, none, enough)))
      staged

  same_live : IsStagedApart s x g v commands t y h → (id : ℕ) → live_at (index_of t) id ≡ live_at (index_of s) id
  same_live staged = ⊎_elim
      (λ (m : Newest). part_live (deletions_go (shape x) s (takes_apart (shape x) s)) (takes_apart (shape x) s) s x g ForRun v commands t y h m (goes_all (shape x) s (takes_apart (shape x) s)))
      (λ (m : All). part_live (deletions_go (shape x) s (length s.runs)) (length s.runs) s x g ForMerge v commands t y h m.1 (goes_all (shape x) s (length s.runs)))
      staged

  no_table : IsStagedApart s x g v commands t y h → t.table ≡ []
  no_table staged = ⊎_elim (λ (m : Newest). m.table) (λ (m : All). m.1.table) staged

  moves_staged : 1 < page_total (shape x) → IsStagedApart s x g v commands t y h → KeepsDevice x g y h
  moves_staged some staged = ⊎_elim
      (λ (m : Newest). moves_newest true (deletions_go (shape x) s (takes_apart (shape x) s)) (takes_apart (shape x) s) s x g ForRun v commands t y h some m)
      (λ (m : All). moves_newest true (deletions_go (shape x) s (length s.runs)) (length s.runs) s x g ForMerge v commands t y h some m.1)
      staged

  adds_staged : root_family < length h.staging.latest → IsStagedApart s x g v commands t y h → AddsRoot g h v
  adds_staged lt staged = ⊎_elim
      (λ (m : Newest). root_newest true (deletions_go (shape x) s (takes_apart (shape x) s)) (takes_apart (shape x) s) s x g ForRun v commands t y h lt m)
      (λ (m : All). root_newest true (deletions_go (shape x) s (length s.runs)) (length s.runs) s x g ForMerge v commands t y h lt m.1)
      staged

  part_marks : (go : Bool) (k : ℕ) (reason : Reason) (between : GraphState) → IsPartAppendedBy true go s k x g reason t.runs y between → (e : ℕ) → (extents_of y).swept e ≡ (extents_of x).swept e
  part_marks go k reason between (inl m) e = ap (λ (u : Extents). u.swept e) m.4.extents
  part_marks go k reason between (inr m) e = ap (λ (z : ExtentsState). (extents_of z).swept e) m.1

  marks_staged : IsStagedApart s x g v commands t y h → (e : ℕ) → (extents_of y).swept e ≡ (extents_of x).swept e
  marks_staged staged = ⊎_elim
      (λ (m : Newest). part_marks (deletions_go (shape x) s (takes_apart (shape x) s)) (takes_apart (shape x) s) ForRun m.between m.appended)
      (λ (m : All). part_marks (deletions_go (shape x) s (length s.runs)) (length s.runs) ForMerge m.1.between m.1.appended)
      staged

-- ---- a Stage

module _ (s : IndexState) (x : ExtentsState) (g : GraphState) (copies : List Copy) (v commands : ℕ) (t : IndexState) (y : ExtentsState) (h : GraphState) (after : List Copy)
    (done : IsSweepStaged s x g copies v commands t y h after) where
  pub swept_moves : 1 < page_total (shape x) → KeepsDevice x g y h
  swept_moves some = moves_then x g done.mid h y h (moves_staged s x g v commands t done.mid h some done.staged) (moves_extents done.mid h y done.rooted.same_shape)

  pub swept_adds : root_family < length h.staging.latest → AddsRoot g h v
  swept_adds lt = adds_staged s x g v commands t done.mid h lt done.staged

  pub swept_table : t.table ≡ []
  swept_table = no_table s x g v commands t done.mid h done.staged

  swept_shape : shape y ≡ shape x
  swept_shape = done.rooted.same_shape ∙ done.same_shape

  -- what lives is the same
  pub swept_live : (id : ℕ) → live_at (index_of t) id ≡ live_at (index_of s) id
  swept_live = same_live s x g v commands t done.mid h done.staged

  -- there are not too many runs
  swept_runs : IsWhole x → length s.runs ≤ (shape x).most_runs → length t.runs ≤ (shape x).most_runs
  swept_runs whole few = few_runs s x g v commands t done.mid h (store_shape x whole).enough_runs few done.staged

  abbrev rest : Extents
  rest = extents_at_rest (shape done.mid) (extents_of done.mid)

  marks_mid : (e : ℕ) → (extents_of y).swept e ≡ (extents_of done.mid).swept e
  marks_mid e = ap (λ (u : Extents). u.swept e) done.rooted.freed
      ∙ ap (λ (f : ℕ → Bool). f e) (swept_stay (lying_apart (shape done.mid)) rest v (is_blank_by (shape done.mid) rest (index_of t) t.runs after) (shape done.mid).extents)

  -- the same extents are being swept
  swept_marks : (e : ℕ) → (extents_of y).swept e ≡ (extents_of x).swept e
  swept_marks e = marks_mid e ∙ marks_staged s x g v commands t done.mid h done.staged e

  pub swept_still : (shape x).apart ≡ true → AreSwept x → AreSwept y
  swept_still rule swept = only_apart y (ap (λ (S : Shape). S.apart) swept_shape ∙ rule)
      (λ e is. stage_stays s t x y g h copies after v commands e done ((swept e (sym (swept_marks e) ∙ is)).1 rule))

  -- the copies are the same, or there are none
  at_rest : (b : Bool) → is_any_swept (shape done.mid) (extents_of done.mid) ≡ b → (after ≡ copies) ⊎ ((after ≡ []) × (b ≡ false))
  at_rest true is = inl (done.rooted.copies_rest ∙ ap (λ (b : Bool). if b then copies else []) is)
  at_rest false is = inr (done.rooted.copies_rest ∙ ap (λ (b : Bool). if b then copies else []) is, refl)

  -- they are the same where an extent is being swept
  swept_copies : (e : ℕ) → (extents_of y).swept e ≡ true → e < (shape x).extents → after ≡ copies
  swept_copies e is there =
      let inside : e < (shape done.mid).extents = subst (λ (S : Shape). e < S.extents) (sym done.same_shape) there in
      let any : is_any_swept (shape done.mid) (extents_of done.mid) ≡ true = swept_below (extents_of done.mid).swept (shape done.mid).extents e inside (sym (marks_mid e) ∙ is) in
      ⊎_elim (λ (same : after ≡ copies). same) (λ (not : (after ≡ []) × (true ≡ false)). absurd (let wrong : true ≡ false = not.1 in cc wrong)) (at_rest true any)

  each_copy : (P : List Copy → Type 0) → P copies → P [] → P after
  each_copy P all none = ⊎_elim
      (λ (same : after ≡ copies). subst P (sym same) all)
      (λ (gone : (after ≡ []) × (is_any_swept (shape done.mid) (extents_of done.mid) ≡ false)). subst P (sym gone.0) none)
      (at_rest (is_any_swept (shape done.mid) (extents_of done.mid)) refl)

  pub swept_kept : IsWhole x → (shape x).apart ≡ true → AreSwept x → IsKeptApart x s copies → IsKeptApart y t after
  swept_kept whole rule swept kept = record {
    runs = subst (λ (S : Shape). length t.runs ≤ S.most_runs) (sym swept_shape) (swept_runs whole kept.runs);
    one = λ d e is at. kept.one d e (sym (swept_marks d) ∙ is) (sym (swept_marks e) ∙ at);
    order = each_copy AreInOrder kept.order tt;
    up_to = λ e is. let was : (extents_of x).swept e ≡ true = sym (swept_marks e) ∙ is in
        subst (λ (cs : List Copy). AllUpTo (index_of t) cs e) (sym (swept_copies e is ((swept e was).1 rule).inside))
        (up_to_same (index_of s) (index_of t) copies e swept_live (kept.up_to e was));
    placed = subst (λ (S : Shape). (c : Copy) → c ∈ after → Inside S c.to.extent c.to.page) (sym swept_shape)
        (each_copy (λ (cs : List Copy). (c : Copy) → c ∈ cs → Inside (shape x) c.to.extent c.to.page) kept.placed (λ c none. absurd none));
    marks = each_copy (λ (cs : List Copy). (c : Copy) → c ∈ cs → c.to.mark ≡ c.from.mark) kept.marks (λ c none. absurd none);
  }

-- ---- what was copied counts

in_replaced : (ls : List Place) (k : ℕ) (p l : Place) → l ∈ replaced ls k p → (l ≡ p) ⊎ (l ∈ ls)
in_replaced [] k p l among = absurd among
in_replaced (m ∷ ls) zero p l (inl here) = inl here
in_replaced (m ∷ ls) zero p l (inr there) = inr (inr there)
in_replaced (m ∷ ls) (suc k) p l (inl here) = inr (inl here)
in_replaced (m ∷ ls) (suc k) p l (inr there) = ⊎_elim (λ (e : l ≡ p). inl e) (λ (old : l ∈ ls). inr (inr old)) (in_replaced ls k p l there)

module _ (S : Shape) where
  abbrev AllInside : List Entry → Type 0
  AllInside index = (id : ℕ) (l : Place) → l ∈ live_at index id → Inside S l.extent l.page

  -- a chunk lies where its copy is
  one_counts : (older table : List Entry) (c : Copy) → Inside S c.to.extent c.to.page → AllInside (table ++ older) → AllInside (settle_in older table c ++ older)
  one_counts older table c to old id l among = split (is_place (nth (live_at (table ++ older) c.id) c.chunk) c.from) among
    where
      at : (b : Bool) → l ∈ live (if b then Some (replaced (live_at (table ++ older) c.id) c.chunk c.to) else lookup id (table ++ older)) → Inside S l.extent l.page
      at true new = ⊎_elim
          (λ (e : l ≡ c.to). subst (λ (p : Place). Inside S p.extent p.page) (sym e) to)
          (λ (was : l ∈ live_at (table ++ older) c.id). old c.id l was)
          (in_replaced (live_at (table ++ older) c.id) c.chunk c.to l new)
      at false was = old id l was

      split : (b : Bool) → l ∈ live_at ((if b then record { id = c.id; locators = replaced (live_at (table ++ older) c.id) c.chunk c.to } ∷ table else table) ++ older) id → Inside S l.extent l.page
      split true new = at (c.id == id) new
      split false was = old id l was

  all_count : (older table : List Entry) (copies : List Copy) → ((c : Copy) → c ∈ copies → Inside S c.to.extent c.to.page) → AllInside (table ++ older) → AllInside (settle_table older table copies ++ older)
  all_count older table [] placed old = old
  all_count older table (c ∷ cs) placed old = one_counts older (settle_table older table cs) c (placed c (inl refl)) (all_count older table cs (λ d among. placed d (inr among)) old)

-- all that lives once copies count lies on pages that are there
settled_inside : (S : Shape) (s counted : IndexState) (copies : List Copy) → IsSettled s copies counted → ((c : Copy) → c ∈ copies → Inside S c.to.extent c.to.page) → AreInside S s → AreInside S counted
settled_inside S s counted copies settled placed old id l among =
    all_count S (entries_of s.runs) s.table copies placed old id l (subst (λ (o : Option (List Place)). l ∈ live o) (settled.index id) among)

-- ---- a Retire

module _ (s : IndexState) (x : ExtentsState) (g : GraphState) (copies : List Copy) (e v commands : ℕ) (t : IndexState) (y : ExtentsState) (h : GraphState) (after : List Copy)
    (done : IsRetiredApart s x g copies e v commands t y h after) where
  pub retired_moves : 1 < page_total (shape x) → KeepsDevice x g y h
  retired_moves some = moves_then x g done.unmarked g y h (moves_extents x g done.unmarked done.ended.same_shape)
      (swept_moves done.counted done.unmarked g [] v commands t y h after done.staged (subst (λ (S : Shape). 1 < page_total S) (sym done.ended.same_shape) some))

  pub retired_adds : root_family < length h.staging.latest → AddsRoot g h v
  retired_adds lt = swept_adds done.counted done.unmarked g [] v commands t y h after done.staged lt

  -- all that lives lies on pages that are there
  pub retired_inside : ((c : Copy) → c ∈ copies → Inside (shape x) c.to.extent c.to.page) → AreInside (shape x) s → AreInside (shape x) t
  retired_inside placed old id l among =
      settled_inside (shape x) s done.counted copies done.settled placed old id l
      (subst (λ (ls : List Place). l ∈ ls) (swept_live done.counted done.unmarked g [] v commands t y h after done.staged id) among)

  -- all that lives means what it meant
  pub retired_means : ((c : Copy) → c ∈ copies → c.to.mark ≡ c.from.mark) → MeansTheSame s t
  retired_means mean = then_means s done.counted t (settled_means s done.counted copies done.settled mean)
      (live_means done.counted t (swept_live done.counted done.unmarked g [] v commands t y h after done.staged))

  module _ (one : (d k : ℕ) → (extents_of x).swept d ≡ true → (extents_of x).swept k ≡ true → d ≡ k) (marked : (extents_of x).swept e ≡ true) where
    -- no extent is being swept any more
    none_marked : (d : ℕ) → (extents_of y).swept d ≡ true → ⊥
    none_marked d is =
        let was : (extents_of done.unmarked).swept d ≡ true = sym (swept_marks done.counted done.unmarked g [] v commands t y h after done.staged d) ∙ is in
        elim (cases_eq d e) [
          | inl at ↦ (let wrong : false ≡ true = sym (ap (λ (u : Extents). u.swept d) done.ended.mark ∙ cond-true (d == e) false ((extents_of x).swept d) (eq-eqb d e at)) ∙ was in cc wrong)
          | inr away ↦ away (one d e (sym (ap (λ (u : Extents). u.swept d) done.ended.mark ∙ cond-false (d == e) false ((extents_of x).swept d) (ne_eqb d e away)) ∙ was) marked)
        ]

    pub retired_swept : AreSwept y
    retired_swept d is = absurd (none_marked d is)

    pub retired_kept : IsWhole x → length s.runs ≤ (shape x).most_runs → after ≡ [] → IsKeptApart y t after
    retired_kept whole few none = record {
      runs = subst (λ (S : Shape). length t.runs ≤ S.most_runs) (sym (swept_shape done.counted done.unmarked g [] v commands t y h after done.staged))
          (swept_runs done.counted done.unmarked g [] v commands t y h after done.staged done.ended.whole
          (subst (λ (rs : List Run). length rs ≤ (shape done.unmarked).most_runs) (sym done.settled.runs) (subst (λ (S : Shape). length s.runs ≤ S.most_runs) (sym done.ended.same_shape) few)));
      one = λ d k is at. absurd (none_marked d is);
      order = subst AreInOrder (sym none) tt;
      up_to = λ d is. absurd (none_marked d is);
      placed = λ c among. absurd (subst (λ (cs : List Copy). c ∈ cs) none among);
      marks = λ c among. absurd (subst (λ (cs : List Copy). c ∈ cs) none among);
    }
