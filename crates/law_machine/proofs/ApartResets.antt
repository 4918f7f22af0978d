-- Where chunks and runs lie apart: blank extents are reset, and the state stays sound.
use Rattle.std.proofs.Common.{◌≡◌, ◌≢◌, ◌⊎◌, inl, inr, ⊎_elim, ℕ, zero, suc, ◌+◌, ◌<◌, ◌≤◌, Bool, true, false, not, ◌&&◌, ◌||◌, ◌∷◌, ◌==◌, List, length, Some, [], nat_lt, nat_le, if◌then◌else◌, eq-eqb, true≢false, le_refl, le_trans, le_of_eq, refl, sym, ap, ◌∙◌, subst, arith}
use Rattle.std.proofs.lemmas.Bool.{cases_eq}
use Rattle.std.proofs.lemmas.Bool.Decides.{nat_tests}
use Rattle.law_machine.proofs.Carries.{and_left, and_right, and_true, carry, root_local}
use Rattle.law_machine.proofs.Filled.{filled_on}
use Rattle.law_machine.proofs.Gives.{gives_under}
use Rattle.law_machine.proofs.Parts.{with_same, with_other}
use Rattle.law_machine.proofs.ResetMoves.{keeps_reset}
use Rattle.law_machine.proofs.Resets.{was_open}
use Rattle.law_machine.proofs.Tallies.{lives_none}
use Rattle.law_machine.specs.Apart.{any_below, any_copy_on, any_run_on, any_swept, freed, is_blank, is_held, reset_all}
use Rattle.law_machine.specs.Device.{IsShape, Shape}
use Rattle.law_machine.specs.Element.{A_root, A_superblock, A_write, Copy, Element, Locator, Root, Run, Write, roots_of, writes_of}
use Rattle.law_machine.specs.Events.{ReadsNow, newest_page}
use Rattle.law_machine.specs.Extents.{Extents, emptied, forgotten}
use Rattle.law_machine.specs.Formats.{ChunkFrame, Formats}
use Rattle.law_machine.specs.Index.{live_at}
use Rattle.law_machine.specs.Lists.{with, ◌∈◌}
use Rattle.law_machine.specs.Recovery.{RootGives}
use Rattle.law_machine.specs.Round.{IsMember}
use Rattle.law_machine.specs.Safe.{Safe}
use Rattle.law_machine.specs.Sound.{Sound}
use Rattle.law_machine.specs.State.{State, index_now, map_now}
use Rattle.law_machine.specs.Tally.{lives_on}

module _ (S : Shape) (x : Extents) (root : ℕ) (test : ℕ → Bool) where
  -- what a reset of those below n that pass leaves of d
  abbrev pub IsReset : (n d : ℕ) → Extents → Type 0
  IsReset n d z = (d < n) × (test d ≡ true) × (z.pointer d ≡ 0) × (z.generation d ≡ suc (x.generation d))
      × (S.apart ≡ true → z.found d ≡ 0)

  abbrev pub IsKept : (n d : ℕ) → Extents → Type 0
  IsKept n d z = (d < n → test d ≡ false) × (z.pointer d ≡ x.pointer d) × (z.generation d ≡ x.generation d)
      × (z.found d ≡ x.found d)

  found_other : (b : Bool) (f : ℕ → ℕ) (n d : ℕ) → d ≢ n → (if b then with f n 0 else f) d ≡ f d
  found_other true f n d not = with_other f n 0 d not
  found_other false f n d not = refl

  found_none : (b : Bool) (f : ℕ → ℕ) (n d : ℕ) → d ≡ n → b ≡ true → (if b then with f n 0 else f) d ≡ 0
  found_none true f n d same on = with_same f n 0 d same
  found_none false f n d same off = absurd (true≢false (sym off))

  step : (n d : ℕ) (b : Bool) → test n ≡ b → (z : Extents) → IsReset n d z ⊎ IsKept n d z → z.generation n ≡ x.generation n
      → IsReset (suc n) d (if b then forgotten S.apart (emptied z n root) n else z)
      ⊎ IsKept (suc n) d (if b then forgotten S.apart (emptied z n root) n else z)
  step n d false is z (inl r) young = inl ((let lt : d < n = r.0 in omega arith), r.1, r.2, r.3, r.4)
  step n d false is z (inr k) young = inr (
    (λ lt. elim (cases_eq d n) [
      | inl same ↦ ap test same ∙ is
      | inr other ↦ k.0 (omega arith)
    ]),
    k.1,
    k.2,
    k.3,
  )
  step n d true is z old young = elim (cases_eq d n) [
    | inl same ↦ inl (
      omega arith,
      ap test same ∙ is,
      with_same z.pointer n 0 d same,
      with_same z.generation n (suc (z.generation n)) d same ∙ ap suc (young ∙ ap x.generation (sym same)),
      found_none S.apart z.found n d same,
    )
    | inr other ↦ ⊎_elim
        (λ r. inl (
          (let lt : d < n = r.0 in omega arith),
          r.1,
          with_other z.pointer n 0 d other ∙ r.2,
          with_other z.generation n (suc (z.generation n)) d other ∙ r.3,
          λ on. found_other S.apart z.found n d other ∙ r.4 on,
        ))
        (λ k. inr (
          (λ lt. k.0 (omega arith)),
          with_other z.pointer n 0 d other ∙ k.1,
          with_other z.generation n (suc (z.generation n)) d other ∙ k.2,
          found_other S.apart z.found n d other ∙ k.3,
        )) old
  ]

  unraised : (n : ℕ) (z : Extents) → IsReset n n z ⊎ IsKept n n z → z.generation n ≡ x.generation n
  unraised n z (inl r) = absurd (let lt : n < n = r.0 in omega arith)
  unraised n z (inr k) = k.2

  pub each_extent : (n d : ℕ) → IsReset n d (reset_all S x root test n) ⊎ IsKept n d (reset_all S x root test n)
  each_extent zero d = inr ((λ lt. absurd (omega arith)), refl, refl, refl)
  each_extent (suc n) d = step n d (test n) refl (reset_all S x root test n) (each_extent n d)
      (unraised n (reset_all S x root test n) (each_extent n n))

  pub swept_stay : (n : ℕ) → (reset_all S x root test n).swept ≡ x.swept
  swept_stay zero = refl
  swept_stay (suc n) = either (test n) ∙ swept_stay n
    where
      either : (b : Bool) → (if b then forgotten S.apart (emptied (reset_all S x root test n) n root) n
          else reset_all S x root test n).swept ≡ (reset_all S x root test n).swept
      either true = refl
      either false = refl

  pub open_before : (n d : ℕ) → (reset_all S x root test n).open_extent ≡ Some d → x.open_extent ≡ Some d
  open_before zero d is = is
  open_before (suc n) d is = open_before n d (either (test n) is)
    where
      either : (b : Bool) → (if b then forgotten S.apart (emptied (reset_all S x root test n) n root) n
          else reset_all S x root test n).open_extent ≡ Some d → (reset_all S x root test n).open_extent ≡ Some d
      either true at = was_open S.apart n d (reset_all S x root test n).open_extent at
      either false at = at

-- what is blank
pub record Blank (S : Shape) (s : State) (e : ℕ) : Type 0 where
  pub some : 0 < s.world.extents.pointer e
  pub dead : (id : ℕ) (l : Locator) → l ∈ live_at (index_now s) id → l.extent ≢ e
  pub no_run : any_run_on s.runs e ≡ false
  pub not_held : is_held S s e ≡ false
  pub young : s.world.extents.generation e < S.greatest_generation
  pub none_lives : lives_on e (index_now s) ≡ 0

pub blank : (S : Shape) (s : State) (e : ℕ) → is_blank S s e ≡ true → Blank S s e
blank S s e is =
    let first = and_left (nat_lt 0 (s.world.extents.pointer e) && nat_le (lives_on e (index_now s)) 0) _ is in
    let second = and_right (nat_lt 0 (s.world.extents.pointer e) && nat_le (lives_on e (index_now s)) 0) _ is in
    let pointer_test : nat_lt 0 (s.world.extents.pointer e) ≡ true = and_left (nat_lt 0 (s.world.extents.pointer e)) _ first in
    let lives_test : nat_le (lives_on e (index_now s)) 0 ≡ true = and_right (nat_lt 0 (s.world.extents.pointer e)) _ first in
    let nothing : (any_run_on s.runs e || is_held S s e) ≡ false = negated (any_run_on s.runs e || is_held S s e)
    (and_left (not (any_run_on s.runs e || is_held S s e)) _ second) in
    let young_test : nat_lt (s.world.extents.generation e) S.greatest_generation ≡ true =
    and_right (not (any_run_on s.runs e || is_held S s e)) _ second in
    let none : lives_on e (index_now s) ≡ 0 = (let le : lives_on e (index_now s) ≤ 0 = grind (arith, nat_tests) in omega arith) in
    record {
      some = grind (arith, nat_tests);
      dead = (lives_none (index_now s) e).0 none;
      no_run = or_left (any_run_on s.runs e) (is_held S s e) nothing;
      not_held = or_right (any_run_on s.runs e) (is_held S s e) nothing;
      young = grind (arith, nat_tests);
      none_lives = none;
    }
  where
    negated : (b : Bool) → not b ≡ true → b ≡ false
    negated true wrong = sym wrong
    negated false is = refl

    or_left : (a b : Bool) → (a || b) ≡ false → a ≡ false
    or_left true b wrong = wrong
    or_left false b is = refl

    or_right : (a b : Bool) → (a || b) ≡ false → b ≡ false
    or_right true b wrong = absurd (true≢false wrong)
    or_right false b is = is

pub run_there : (runs : List Run) (run : Run) → run ∈ runs → any_run_on runs run.place.extent ≡ true
run_there [] run none = absurd none
run_there (r ∷ runs) run (inl is) = let test : (r.place.extent == run.place.extent) ≡ true =
    eq-eqb _ _ (ap (λ (y : Run). y.place.extent) (sym is)) in rw test refl
run_there (r ∷ runs) run (inr has) = later (r.place.extent == run.place.extent) (run_there runs run has)
  where
    later : (b : Bool) → any_run_on runs run.place.extent ≡ true → (b || any_run_on runs run.place.extent) ≡ true
    later true is = refl
    later false is = is

pub copy_there : (copies : List Copy) (c : Copy) → c ∈ copies → any_copy_on copies c.to.extent ≡ true
copy_there [] c none = absurd none
copy_there (d ∷ copies) c (inl is) = let test : (d.to.extent == c.to.extent) ≡ true =
    eq-eqb _ _ (ap (λ (y : Copy). y.to.extent) (sym is)) in rw test refl
copy_there (d ∷ copies) c (inr has) = later (d.to.extent == c.to.extent) (copy_there copies c has)
  where
    later : (b : Bool) → any_copy_on copies c.to.extent ≡ true → (b || any_copy_on copies c.to.extent) ≡ true
    later true is = refl
    later false is = is

pub swept_below : (test : ℕ → Bool) (n e : ℕ) → e < n → test e ≡ true → any_below test n ≡ true
swept_below test zero e lt is = absurd (omega arith)
swept_below test (suc n) e lt is = elim (cases_eq e n) [
  | inl same ↦ (let here : test n ≡ true = ap test (sym same) ∙ is in rw here refl)
  | inr other ↦ later (test n) (swept_below test n e (omega arith) is)
]
  where
    later : (b : Bool) → any_below test n ≡ true → (b || any_below test n) ≡ true
    later true is = refl
    later false is = is

pub none_swept : (test : ℕ → Bool) (n : ℕ) → ((e : ℕ) → test e ≡ false) → any_below test n ≡ false
none_swept test zero none = refl
none_swept test (suc n) none = let here : test n ≡ false = none n in rw here (none_swept test n none)

module _ (S : Shape) (F : Formats) (shape : IsShape S) (on : S.apart ≡ true) (s : State)
    (sound : Sound S F s)
    -- the last root names nothing that is blank, and counts all that was written
    (unnamed : (e : ℕ) → is_blank S s e ≡ true → (r : Root) → r ∈ roots_of s.world.elements → s.world.root ≤ r.version
    → r.pointers e ≡ 0)
    (last : (r : Root) × (r ∈ roots_of s.world.elements) × (r.version ≡ s.world.root)
    × ((e : ℕ) (x : Write) → x ∈ writes_of s.world.elements → S.extent x.page ≡ e → x.number ≤ r.writes (S.section e))) where
  abbrev after : ℕ → Extents
  after n = reset_all S s.world.extents s.world.root (is_blank S s) n

  cases : (d : ℕ) → IsReset S s.world.extents s.world.root (is_blank S s) S.extents d (after S.extents)
      ⊎ IsKept S s.world.extents s.world.root (is_blank S s) S.extents d (after S.extents)
  cases d = each_extent S s.world.extents s.world.root (is_blank S s) S.extents d

  young_there : (n : ℕ) → (after n).generation n ≡ s.world.extents.generation n
  young_there n = ⊎_elim (λ r. absurd (let lt : n < n = r.0 in omega arith)) (λ k. k.2)
      (each_extent S s.world.extents s.world.root (is_blank S s) n n)

  -- each reset may come
  reset_safe : (n : ℕ) → n ≤ S.extents
      → Safe S (RootGives S F s.opening) s.opening.frozen s.opened (record s.world { extents = after n })
  reset_safe zero le = sound.safe
  reset_safe (suc n) le = one (is_blank S s n) refl (reset_safe n (omega arith))
    where
      one : (b : Bool) → is_blank S s n ≡ b
          → Safe S (RootGives S F s.opening) s.opening.frozen s.opened (record s.world { extents = after n })
          → Safe S (RootGives S F s.opening) s.opening.frozen s.opened (record s.world {
            extents = if b then forgotten S.apart (emptied (after n) n s.world.root) n else after n;
          })
      one false is safe = safe
      one true is safe = keeps_reset S (RootGives S F s.opening) s.opening.frozen s.opened (root_local S F shape)
          (record s.world { extents = after n }) n (
            unnamed n is,
            (last.0, last.1, last.2, last.3 n),
            subst (λ (k : ℕ). k < S.greatest_generation) (sym (young_there n)) (blank S s n is).young,
            omega arith,
          ) safe

  -- what isn't blank stays
  stays : (d : ℕ) → (is_blank S s d ≡ true → ⊥)
      → ((after S.extents).pointer d ≡ s.world.extents.pointer d) × ((after S.extents).generation d ≡ s.world.extents.generation d)
  stays d not = ⊎_elim (λ r. absurd (not r.1)) (λ k. (k.1, k.2)) (cases d)

  live_stays : (id : ℕ) (l : Locator) → l ∈ live_at (index_now s) id
      → (after S.extents).pointer l.extent ≡ s.world.extents.pointer l.extent
  live_stays id l has = (stays l.extent (λ is. (blank S s l.extent is).dead id l has refl)).0

  run_stays : (run : Run) → run ∈ s.runs
      → (after S.extents).pointer run.place.extent ≡ s.world.extents.pointer run.place.extent
  run_stays run has = (stays run.place.extent (λ is. true≢false
      (sym (run_there s.runs run has) ∙ (blank S s run.place.extent is).no_run))).0

  held_stays : (d : ℕ) → is_held S s d ≡ true
      → ((after S.extents).pointer d ≡ s.world.extents.pointer d) × ((after S.extents).generation d ≡ s.world.extents.generation d)
  held_stays d held = stays d (λ is. true≢false (sym held ∙ (blank S s d is).not_held))

  sweep_held : (d : ℕ) → s.world.extents.swept d ≡ true → is_held S s d ≡ true
  sweep_held d is = and_true (any_swept S s) _
      (swept_below s.world.extents.swept S.extents d (sound.swept d is).2 is) (or_true is)
    where
      or_true : s.world.extents.swept d ≡ true → (s.world.extents.swept d || any_copy_on s.copies d) ≡ true
      or_true here = rw here refl

  copy_held : any_swept S s ≡ true → (c : Copy) → c ∈ s.copies → is_held S s c.to.extent ≡ true
  copy_held some c has = and_true (any_swept S s) _ some (or_true (s.world.extents.swept c.to.extent))
    where
      or_true : (b : Bool) → (b || any_copy_on s.copies c.to.extent) ≡ true
      or_true true = refl
      or_true false = copy_there s.copies c has

  -- what was read where the extent stays is read
  reads_stay : (l : Locator) (payload : List ℕ)
      → ((after S.extents).pointer l.extent ≡ s.world.extents.pointer l.extent)
      × ((after S.extents).generation l.extent ≡ s.world.extents.generation l.extent)
      → ReadsNow S F s l ChunkFrame payload → ReadsNow S F (freed S s) l ChunkFrame payload
  reads_stay l payload same r = record {
    passes = record {
      generation = same.1 ∙ r.passes.generation;
      below = subst (λ (n : ℕ). l.page < n) (sym same.0) r.passes.below;
      inside = r.passes.inside;
      mark = r.passes.mark;
    };
    below = ⊎_elim (λ (below : l.page + length (F.frame ChunkFrame payload) ≤ s.world.extents.pointer l.extent). inl
        (subst (λ (n : ℕ). l.page + length (F.frame ChunkFrame payload) ≤ n) (sym same.0) below)) (λ fz. inr fz) r.below;
    inside = r.inside;
    within = r.within;
    stand = r.stand;
    marked = r.marked;
    long = r.long;
  }

  thawed : (d : ℕ) → (after S.extents).generation d ≡ suc (s.world.extents.generation d)
      → (i : ℕ) → s.opening.frozen d i ((after S.extents).generation d) ≡ true → ⊥
  thawed d up i fz =
      let le : suc (s.world.extents.generation d) ≤ s.world.extents.generation d = sound.safe.frozen_before d i
      (suc (s.world.extents.generation d)) (ap (s.opening.frozen d i) (sym up) ∙ fz) in omega arith

  was_swept : (d : ℕ) → (after S.extents).swept d ≡ true → s.world.extents.swept d ≡ true
  was_swept d is = ap (λ (f : ℕ → Bool). f d) (sym (swept_stay S s.world.extents s.world.root (is_blank S s) S.extents)) ∙ is

  member : (m : Element) → IsMember S s.world m → IsMember S (freed S s).world m
  member (A_write x) is = is
  member (A_superblock u) is = is
  member (A_root r) is = is

  back : (m : Element) → IsMember S (freed S s).world m → IsMember S s.world m
  back (A_write x) is = is
  back (A_superblock u) is = is
  back (A_root r) is = is

  pub freed_sound : Sound S F (freed S s)
  freed_sound = record {
    safe = reset_safe S.extents (le_refl _);
    settled = λ d. let o = sound.settled d in record {
      last = o.last;
      pages = o.pages;
      current = λ u is sec ver. ⊎_elim (λ r. inr r.2)
          (λ k. ⊎_elim (λ eqs. inl (eqs.0 ∙ sym k.1, eqs.1 ∙ sym k.2))
          (λ (none : s.world.extents.pointer d ≡ 0). inr (k.1 ∙ none)) (o.current u is sec ver)) (cases d);
    };
    gives = carry S F s.opening (newest_page s) (newest_page s) (after S.extents).pointer s.world.extents.generation
        (after S.extents).pointer (after S.extents).generation
        (λ d k lt inside. (
          refl,
          ⊎_elim
              (λ r. absurd (let none : (after S.extents).pointer d ≡ 0 = r.2 in let some : k < (after S.extents).pointer d = lt in omega arith))
              (λ kept. kept.2) (cases d),
          lt,
        ))
        (λ d k fz some inside. refl) s.table s.runs (map_now s)
        (gives_under S F (newest_page s) s.world.extents.pointer (after S.extents).pointer
        s.world.extents.generation s.table s.runs (map_now s) sound.gives (shape.apart on).0 live_stays run_stays);
    maps = sound.maps;
    caught_up = sound.caught_up;
    left = λ m has. member m (sound.left m has);
    issued = λ m has. member m (sound.issued m has);
    complete = λ busy m is. sound.complete busy m (back m is);
    once = sound.once;
    idle = sound.idle;
    swept = λ d is. (let was = was_swept d is in let o = sound.swept d was in (
      (λ now_open. o.0 (open_before S s.world.extents s.world.root (is_blank S s) S.extents d now_open)),
      subst (λ (n : ℕ). 0 < n) (sym (held_stays d (sweep_held d was)).0) o.1,
      o.2,
    ));
    frozen = λ off d i fz. ⊎_elim (λ r. absurd (thawed d r.3 i fz))
        (λ k. (let o = sound.frozen off d i (ap (s.opening.frozen d i) (sym k.2) ∙ fz) in (
          (λ now_open. o.0 (open_before S s.world.extents s.world.root (is_blank S s) S.extents d now_open)),
          subst (λ (n : ℕ). 0 < n) (sym k.1) o.1,
        ))) (cases d);
    damaged = sound.damaged;
    shown = sound.shown;
    unfilled = sound.unfilled;
    filled = λ full. filled_on S F s.opening s.world.extents.pointer s.world.extents.generation s.world.extents.found
        (after S.extents).pointer (after S.extents).generation (after S.extents).found (roots_of s.world.elements) (sound.filled full)
        sound.safe.frozen_before
        (λ d. ⊎_elim (λ r. inl (r.4 on, r.3)) (λ k. inr (k.3, k.2, le_of_eq (sym k.1))) (cases d));
    apart = λ yes. record {
      found = λ d i fz. ⊎_elim (λ r. absurd (thawed d r.3 i fz))
          (λ k. subst (λ (n : ℕ). 0 < n) (sym k.3)
          ((sound.apart on).found d i (ap (s.opening.frozen d i) (sym k.2) ∙ fz))) (cases d);
      one_sweep = λ d e is also. (sound.apart on).one_sweep d e (was_swept d is) (was_swept e also);
      copied = λ some c has.
          (let any : any_swept S s ≡ true = ap (λ (f : ℕ → Bool). any_below f S.extents)
          (sym (swept_stay S s.world.extents s.world.root (is_blank S s) S.extents)) ∙ some in
          let old = (sound.apart on).copied any c has in (
            (
              old.0.0,
              reads_stay c.from old.0.0 (held_stays c.from.extent (sweep_held c.from.extent old.1)) old.0.1,
              reads_stay c.to old.0.0 (held_stays c.to.extent (copy_held any c has)) old.0.2,
              old.0.3,
            ),
            ap (λ (f : ℕ → Bool). f c.from.extent)
                (swept_stay S s.world.extents s.world.root (is_blank S s) S.extents) ∙ old.1,
          ));
    };
  }

-- no generation passes the greatest
pub freed_fits : (S : Shape) (s : State) → ((e : ℕ) → s.world.extents.generation e ≤ S.greatest_generation) → (d : ℕ)
    → (freed S s).world.extents.generation d ≤ S.greatest_generation
freed_fits S s fits d = ⊎_elim
    (λ r. let lt : s.world.extents.generation d < S.greatest_generation = (blank S s d r.1).young in
    let up : (freed S s).world.extents.generation d ≡ suc (s.world.extents.generation d) = r.3 in omega arith)
    (λ k. le_trans (le_of_eq k.2) (fits d))
    (each_extent S s.world.extents s.world.root (is_blank S s) S.extents d)
