-- What is noted of extents, and what changes of lists do to it.
use Rattle.std.proofs.Common.{◌≡◌, ◌≢◌, ◌∙◌, ℕ, suc, ◌+◌, ◌<◌, ◌≤◌, Bool, true, false, List, length, set, get_or, Option, Some, None, refl, sym, ap, subst, arith, length-set}
use Rattle.std.specs.Prelude.{◌==◌, if◌then◌else◌}
use Rattle.std.proofs.lemmas.Bool.Decides.{nat_tests}
use Rattle.std.proofs.lemmas.Option.{same_Some}
use Rattle.law_machine.specs.Device.{Shape}
use Rattle.law_machine.specs.Extents.{Extents, ForMerge, ForMove, ForPut, ForRun, Purpose as Reason, emptied, forgotten, marked, noted_by, open_after, other_than, taken_by}
use Rattle.law_machine.specs.Lists.{with}
use Rattle.cs_extent.specs.Notes.{noted_in}
use Rattle.cs_extent.specs.State.{IsWhole, State, extents_of, shape}
use Rattle.cs_extent.proofs.Changes.{reset_extents, written_at}
use Rattle.cs_extent.proofs.Fitting.{with_same}

-- another extent keeps what it had
pub other_is : (e d : ℕ) (o : Option ℕ) → other_than e o ≡ Some d → (o ≡ Some d) × (d ≢ e)
other_is e d None is = absurd (let wrong : None ≡ Some d = is in cc)
other_is e d (Some n) is = split (n == e) refl is
  where
    split : (b : Bool) → (n == e) ≡ b → (if b then None else Some n) ≡ Some d → (Some n ≡ Some d) × (d ≢ e)
    split true same at = absurd (let wrong : None ≡ Some d = at in cc)
    split false apart at =
        let one : n ≡ d = same_Some n d at in
        let other : n ≢ e = grind (arith, nat_tests) in
        (at, (λ here. other (one ∙ here)))

-- one flag of a list was set
pub flag_set : (s : State) (e : ℕ) (b : Bool) → e < length s.of_runs → (d : ℕ)
    → get_or (set s.of_runs e b) d false ≡ (if d == e then b else (extents_of s).of_runs d)
flag_set s e b lt d = written_at s.of_runs e b false lt d

-- a run went to e
run_noted : (s : State) (S : Shape) (x : Extents) (e k : ℕ) → e < length s.of_runs → s.open_extent ≡ x.open_extent
    → extents_of (record s { of_runs = set s.of_runs e true }) ≡ noted_by S true ForRun x e k (extents_of s)
run_noted s S x e k lt before = λ i. record {
  pointer = (extents_of s).pointer;
  generation = (extents_of s).generation;
  reset = (extents_of s).reset;
  open_extent = before i;
  swept = (extents_of s).swept;
  of_runs = λ d. flag_set s e true lt d i;
  found = (extents_of s).found;
  fresh = s.fresh;
  last = s.last;
}

-- what is noted isn't of the device
pub noted_shape : (r : Reason) (e given : ℕ) (s : State) → shape (noted_in r e given s) ≡ shape s
noted_shape ForPut e given s = refl
noted_shape ForRun e given s = refl
noted_shape ForMove e given s = refl
noted_shape ForMerge e given s = refl

-- what is noted of the extents, where they were x before
pub noted_extents : (s : State) (S : Shape) (x : Extents) (r : Reason) (e k given : ℕ) → e < length s.of_runs → given ≡ x.pointer e → s.open_extent ≡ x.open_extent
    → extents_of (noted_in r e given s) ≡ noted_by S true r x e k (extents_of s)
noted_extents s S x ForPut e k given lt is before = refl
noted_extents s S x ForRun e k given lt is before = run_noted s S x e k lt before
noted_extents s S x ForMove e k given lt is before =
    ap (λ (o : Option ℕ). record (extents_of s) { open_extent = o; fresh = if given == 0 then Some e else s.fresh; last = Some e }) before
    ∙ ap (λ (n : ℕ). record (extents_of s) { open_extent = x.open_extent; fresh = if n == 0 then Some e else s.fresh; last = Some e }) is
noted_extents s S x ForMerge e k given lt is before = run_noted s S x e k lt before

-- an extent is emptied, and nothing is noted of it
pub reset_noted : (s : State) (e root g : ℕ) (o l : Option ℕ) → e < length s.written → e < length s.resets → e < length s.of_runs → e < length s.found
    → g ≡ suc ((extents_of s).generation e) → o ≡ other_than e s.open_extent → l ≡ other_than e s.last
    → extents_of (record s {
      written = set s.written e (0, g);
      resets = set s.resets e root;
      of_runs = set s.of_runs e false;
      found = set s.found e 0;
      open_extent = o;
      last = l;
    }) ≡ forgotten true (emptied (extents_of s) e root) e
reset_noted s e root g o l lw lr lk lf is opened copied = λ i. record {
  pointer = (reset_extents s e root g lw lr is i).pointer;
  generation = (reset_extents s e root g lw lr is i).generation;
  reset = (reset_extents s e root g lw lr is i).reset;
  open_extent = opened i;
  swept = (extents_of s).swept;
  of_runs = λ d. written_at s.of_runs e false false lk d i;
  found = λ d. written_at s.found e 0 0 lf d i;
  fresh = s.fresh;
  last = copied i;
}

-- so it is where chunks and runs lie apart
pub reset_apart : (s : State) (e root g : ℕ) (o l : Option ℕ) → (shape s).apart ≡ true → e < length s.written → e < length s.resets → e < length s.of_runs
    → e < length s.found → g ≡ suc ((extents_of s).generation e) → o ≡ other_than e s.open_extent → l ≡ other_than e s.last
    → extents_of (record s {
      written = set s.written e (0, g);
      resets = set s.resets e root;
      of_runs = set s.of_runs e false;
      found = set s.found e 0;
      open_extent = o;
      last = l;
    }) ≡ forgotten (shape s).apart (emptied (extents_of s) e root) e
reset_apart s e root g o l so lw lr lk lf is opened copied =
    reset_noted s e root g o l lw lr lk lf is opened copied ∙ ap (λ (b : Bool). forgotten b (emptied (extents_of s) e root) e) (sym so)

-- and where they don't it is emptied
pub reset_mixed : (s : State) (e root g : ℕ) → (shape s).apart ≡ false → e < length s.written → e < length s.resets → g ≡ suc ((extents_of s).generation e)
    → extents_of (record s { written = set s.written e (0, g); resets = set s.resets e root }) ≡ forgotten (shape s).apart (emptied (extents_of s) e root) e
reset_mixed s e root g so lw lr is =
    reset_extents s e root g lw lr is ∙ ap (λ (b : Bool). forgotten b (emptied (extents_of s) e root) e) (sym so)

-- one flag was set
pub kind_set : (s : State) (e : ℕ) (b kind : Bool) → e < length s.of_runs → b ≡ kind
    → extents_of (record s { of_runs = set s.of_runs e b }) ≡ record (extents_of s) { of_runs = λ d. if d == e then kind else (extents_of s).of_runs d }
kind_set s e b kind lt is = λ i. record {
  pointer = (extents_of s).pointer;
  generation = (extents_of s).generation;
  reset = (extents_of s).reset;
  open_extent = s.open_extent;
  swept = (extents_of s).swept;
  of_runs = λ d. (written_at s.of_runs e b false lt d ∙ ap (λ (c : Bool). if d == e then c else (extents_of s).of_runs d) is) i;
  found = (extents_of s).found;
  fresh = s.fresh;
  last = s.last;
}

pub mark_set : (s : State) (e : ℕ) (b : Bool) → e < length s.swept → extents_of (record s { swept = set s.swept e b }) ≡ marked (extents_of s) e b
mark_set s e b lt = λ i. record {
  pointer = (extents_of s).pointer;
  generation = (extents_of s).generation;
  reset = (extents_of s).reset;
  open_extent = s.open_extent;
  swept = λ d. written_at s.swept e b false lt d i;
  of_runs = (extents_of s).of_runs;
  found = (extents_of s).found;
  fresh = s.fresh;
  last = s.last;
}

-- extents keep what they do, whatever is noted
module _ (s : State) (whole : IsWhole s) (e : ℕ) (there : e < length s.written) (some : 0 < (extents_of s).pointer e) where
  kept : (o fresh last : Option ℕ) (kinds : List Bool) → length kinds ≡ length s.of_runs
      → ((d : ℕ) → o ≡ Some d → (d < length s.written) × (0 < (extents_of s).pointer d))
      → IsWhole (record s { open_extent = o; of_runs = kinds; fresh = fresh; last = last })
  kept o fresh last kinds same opened = record {
    geometry = whole.geometry;
    all_resets = whole.all_resets;
    all_swept = whole.all_swept;
    all_kinds = same ∙ whole.all_kinds;
    all_found = whole.all_found;
    pointers = whole.pointers;
    found_pages = whole.found_pages;
    found_given = whole.found_given;
    roots = whole.roots;
    open_inside = λ d at. (opened d at).0;
    open_begun = λ d at. (opened d at).1;
  }

  as_before : (d : ℕ) → s.open_extent ≡ Some d → (d < length s.written) × (0 < (extents_of s).pointer d)
  as_before d at = (whole.open_inside d at, whole.open_begun d at)

  pub noted_whole : (r : Reason) (given : ℕ) → IsWhole (noted_in r e given s)
  noted_whole ForPut given = kept (Some e) s.fresh s.last s.of_runs refl (λ d at.
      let same : e ≡ d = same_Some e d at in
      (subst (λ (n : ℕ). n < length s.written) same there, subst (λ (n : ℕ). 0 < (extents_of s).pointer n) same some))
  noted_whole ForRun given = kept s.open_extent s.fresh s.last (set s.of_runs e true) (length-set s.of_runs e true) as_before
  noted_whole ForMove given = kept s.open_extent (if given == 0 then Some e else s.fresh) (Some e) s.of_runs refl as_before
  noted_whole ForMerge given = kept s.open_extent s.fresh s.last (set s.of_runs e true) (length-set s.of_runs e true) as_before

-- ---- a frame is given pages

-- k pages of e are given, and the pointer alone has moved on
module _ (s mid new : State) (r : Reason) (e k : ℕ)
    (moved : extents_of mid ≡ record (extents_of s) { pointer = with (extents_of s).pointer e ((extents_of s).pointer e + k) }) where
  pub given_there : 1 ≤ k → 0 < (extents_of mid).pointer e
  given_there some =
      let read : (extents_of mid).pointer e ≡ with (extents_of s).pointer e ((extents_of s).pointer e + k) e = ap (λ (z : Extents). z.pointer e) moved in
      omega (arith, read, with_same (extents_of s).pointer e ((extents_of s).pointer e + k), some)

  -- where chunks and runs lie apart, it is noted then
  pub taken_apart : (given : ℕ) → (shape s).apart ≡ true → e < length mid.of_runs → given ≡ (extents_of s).pointer e → new ≡ noted_in r e given mid
      → extents_of new ≡ taken_by (shape s) (shape s).apart r (extents_of s) e k
  taken_apart given so lt is noted =
      ap extents_of noted
      ∙ noted_extents mid (shape s) (extents_of s) r e k given lt is (ap (λ (z : Extents). z.open_extent) moved)
      ∙ ap (noted_by (shape s) true r (extents_of s) e k) moved
      ∙ ap (λ (b : Bool). taken_by (shape s) b r (extents_of s) e k) (sym so)

  -- else e is open, unless it is full
  pub taken_mixed : (shape s).apart ≡ false → shape mid ≡ shape s → new ≡ record mid { open_extent = open_after (shape mid) e ((extents_of mid).pointer e) }
      → extents_of new ≡ taken_by (shape s) (shape s).apart r (extents_of s) e k
  taken_mixed so same opened =
      let read : (extents_of mid).pointer e ≡ (extents_of s).pointer e + k =
      ap (λ (z : Extents). z.pointer e) moved ∙ with_same (extents_of s).pointer e ((extents_of s).pointer e + k) in
      ap extents_of opened
      ∙ ap (λ (S : Shape). record (extents_of mid) { open_extent = open_after S e ((extents_of mid).pointer e) }) same
      ∙ ap (λ (n : ℕ). record (extents_of mid) { open_extent = open_after (shape s) e n }) read
      ∙ ap (λ (z : Extents). record z { open_extent = open_after (shape s) e ((extents_of s).pointer e + k) }) moved
      ∙ ap (λ (b : Bool). taken_by (shape s) b r (extents_of s) e k) (sym so)
