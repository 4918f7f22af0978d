-- Extents are reset in the machine and in its room.
use Rattle.std.proofs.Common.{◌≡◌, ◌≢◌, ◌⊎◌, inl, inr, ⊎_elim, ℕ, zero, suc, ◌<◌, ◌≤◌, ◌==◌, Bool, true, false, Option, Some, None, if◌then◌else◌, eq-eqb, refl, sym, ap, ◌∙◌, subst, arith}
use Rattle.std.proofs.lemmas.Bool.{cases_eq, cases_lt, ne_eqb, true≢false}
use Rattle.law_machine.proofs.Parts.{with_other, with_same}
use Rattle.law_machine.specs.Apart.{reset_all}
use Rattle.law_machine.specs.Device.{Shape}
use Rattle.law_machine.specs.Extents.{Extents, MayFill, emptied, forgotten, other_than}
use Rattle.law_machine.specs.Lists.{with}
use Rattle.law_room.specs.Events.{reset, unless}
use Rattle.law_room.specs.OfMachine.{AreExtentsOf, IsFilled, holding}
use Rattle.law_room.specs.Rooms.{Empty, Holding, Room}

-- what is left of what is noted, once those below n that pass are reset
abbrev pub forget_all : (ℕ → Bool) → ℕ → Option ℕ → Option ℕ
forget_all test zero o = o
forget_all test (suc n) o = if test n then other_than n (forget_all test n o) else forget_all test n o

forget_step : (b : Bool) (n : ℕ) (o : Option ℕ) → o ≡ None → (if b then other_than n o else o) ≡ None
forget_step true n o is = ap (other_than n) is
forget_step false n o is = is

pub forget_none : (test : ℕ → Bool) (n : ℕ) → forget_all test n None ≡ None
forget_none test zero = refl
forget_none test (suc n) = forget_step (test n) n (forget_all test n None) (forget_none test n)

other_stays : (d n : ℕ) → d ≢ n → other_than n (Some d) ≡ Some d
other_stays d n not = rw (ne_eqb d n not) refl

other_goes : (d n : ℕ) → d ≡ n → other_than n (Some d) ≡ None
other_goes d n is = rw (eq-eqb d n is) refl

-- d was forgotten, or is still noted
abbrev pub Left : (test : ℕ → Bool) (n d : ℕ) → Option ℕ → Type 0
Left test n d o = ((d < n) × (test d ≡ true) × (o ≡ None)) ⊎ ((d < n → test d ≡ false) × (o ≡ Some d))

left_step : (test : ℕ → Bool) (n d : ℕ) (b : Bool) → test n ≡ b → (o : Option ℕ) → Left test n d o
    → Left test (suc n) d (if b then other_than n o else o)
left_step test n d true is o (inl gone) =
    inl ((let lt : d < n = gone.0 in omega arith), gone.1, ap (other_than n) gone.2)
left_step test n d false is o (inl gone) = inl ((let lt : d < n = gone.0 in omega arith), gone.1, gone.2)
left_step test n d true is o (inr there) = elim (cases_eq d n) [
  | inl same ↦ inl (omega arith, ap test same ∙ is, ap (other_than n) there.1 ∙ other_goes d n same)
  | inr other ↦ inr ((λ lt. there.0 (omega arith)), ap (other_than n) there.1 ∙ other_stays d n other)
]
left_step test n d false is o (inr there) = inr (
  (λ lt. elim (cases_eq d n) [
    | inl same ↦ ap test same ∙ is
    | inr other ↦ there.0 (omega arith)
  ]),
  there.1,
)

pub left_or_gone : (test : ℕ → Bool) (n d : ℕ) → Left test n d (forget_all test n (Some d))
left_or_gone test zero d = inr ((λ lt. absurd (omega arith)), refl)
left_or_gone test (suc n) d = left_step test n d (test n) refl (forget_all test n (Some d)) (left_or_gone test n d)

module _ (S : Shape) (apart : S.apart ≡ true) (x : Extents) (root : ℕ) (test : ℕ → Bool) where
  abbrev after : ℕ → Extents
  after n = reset_all S x root test n

  one_forgotten : (b : Bool) (n : ℕ) (z : Extents)
      → ((if b then forgotten S.apart (emptied z n root) n else z).open_extent
      ≡ (if b then other_than n z.open_extent else z.open_extent))
      × ((if b then forgotten S.apart (emptied z n root) n else z).last ≡ (if b then other_than n z.last else z.last))
      × ((if b then forgotten S.apart (emptied z n root) n else z).fresh ≡ z.fresh)
      × ((if b then forgotten S.apart (emptied z n root) n else z).swept ≡ z.swept)
  one_forgotten true n z = (
    ap (λ (a : Bool). if a then other_than n z.open_extent else z.open_extent) apart,
    ap (λ (a : Bool). if a then other_than n z.last else z.last) apart,
    refl,
    refl,
  )
  one_forgotten false n z = (refl, refl, refl, refl)

  pub open_after_all : (n : ℕ) → (reset_all S x root test n).open_extent ≡ forget_all test n x.open_extent
  open_after_all zero = refl
  open_after_all (suc n) = (one_forgotten (test n) n (reset_all S x root test n)).0
      ∙ ap (λ (o : Option ℕ). if test n then other_than n o else o) (open_after_all n)

  pub last_after_all : (n : ℕ) → (reset_all S x root test n).last ≡ forget_all test n x.last
  last_after_all zero = refl
  last_after_all (suc n) = (one_forgotten (test n) n (reset_all S x root test n)).1
      ∙ ap (λ (o : Option ℕ). if test n then other_than n o else o) (last_after_all n)

  pub fresh_after_all : (n : ℕ) → (reset_all S x root test n).fresh ≡ x.fresh
  fresh_after_all zero = refl
  fresh_after_all (suc n) = (one_forgotten (test n) n (reset_all S x root test n)).2 ∙ fresh_after_all n

  pub swept_after_all : (n : ℕ) → (reset_all S x root test n).swept ≡ x.swept
  swept_after_all zero = refl
  swept_after_all (suc n) = (one_forgotten (test n) n (reset_all S x root test n)).3 ∙ swept_after_all n

  -- d was reset; it is as it was
  pub record IsEmptied (n d : ℕ) (z : Extents) : Type 0 where
    pub below : d < n
    pub passes : test d ≡ true
    pub pointer : z.pointer d ≡ 0
    pub of_runs : z.of_runs d ≡ false
    pub found : z.found d ≡ 0

  pub record IsSame (n d : ℕ) (z : Extents) : Type 0 where
    pub fails : d < n → test d ≡ false
    pub pointer : z.pointer d ≡ x.pointer d
    pub of_runs : z.of_runs d ≡ x.of_runs d
    pub found : z.found d ≡ x.found d

  runs_there : (a : Bool) → a ≡ true → (f : ℕ → Bool) (n d : ℕ) → d ≡ n
      → (if a then (λ (e : ℕ). if e == n then false else f e) else f) d ≡ false
  runs_there true on f n d is = rw (eq-eqb d n is) refl
  runs_there false off f n d is = absurd (true≢false (sym off))

  runs_other : (a : Bool) (f : ℕ → Bool) (n d : ℕ) → d ≢ n
      → (if a then (λ (e : ℕ). if e == n then false else f e) else f) d ≡ f d
  runs_other true f n d not = rw (ne_eqb d n not) refl
  runs_other false f n d not = refl

  found_there : (a : Bool) → a ≡ true → (f : ℕ → ℕ) (n d : ℕ) → d ≡ n → (if a then with f n 0 else f) d ≡ 0
  found_there true on f n d is = with_same f n 0 d is
  found_there false off f n d is = absurd (true≢false (sym off))

  found_other : (a : Bool) (f : ℕ → ℕ) (n d : ℕ) → d ≢ n → (if a then with f n 0 else f) d ≡ f d
  found_other true f n d not = with_other f n 0 d not
  found_other false f n d not = refl

  each_step : (n d : ℕ) (b : Bool) → test n ≡ b → (z : Extents) → IsEmptied n d z ⊎ IsSame n d z
      → IsEmptied (suc n) d (if b then forgotten S.apart (emptied z n root) n else z)
      ⊎ IsSame (suc n) d (if b then forgotten S.apart (emptied z n root) n else z)
  each_step n d false is z (inl r) = inl (record {
    below = (let lt : d < n = r.below in omega arith);
    passes = r.passes;
    pointer = r.pointer;
    of_runs = r.of_runs;
    found = r.found;
  })
  each_step n d false is z (inr k) = inr (record {
    fails = λ lt. elim (cases_eq d n) [
      | inl same ↦ ap test same ∙ is
      | inr other ↦ k.fails (omega arith)
    ];
    pointer = k.pointer;
    of_runs = k.of_runs;
    found = k.found;
  })
  each_step n d true is z was = elim (cases_eq d n) [
    | inl same ↦ inl (record {
      below = omega arith;
      passes = ap test same ∙ is;
      pointer = with_same z.pointer n 0 d same;
      of_runs = runs_there S.apart apart z.of_runs n d same;
      found = found_there S.apart apart z.found n d same;
    })
    | inr other ↦ ⊎_elim
        (λ (r : IsEmptied n d z). inl (record {
          below = (let lt : d < n = r.below in omega arith);
          passes = r.passes;
          pointer = with_other z.pointer n 0 d other ∙ r.pointer;
          of_runs = runs_other S.apart z.of_runs n d other ∙ r.of_runs;
          found = found_other S.apart z.found n d other ∙ r.found;
        }))
        (λ (k : IsSame n d z). inr (record {
          fails = λ lt. k.fails (omega arith);
          pointer = with_other z.pointer n 0 d other ∙ k.pointer;
          of_runs = runs_other S.apart z.of_runs n d other ∙ k.of_runs;
          found = found_other S.apart z.found n d other ∙ k.found;
        })) was
  ]

  pub each_after_all : (n d : ℕ) → IsEmptied n d (reset_all S x root test n) ⊎ IsSame n d (reset_all S x root test n)
  each_after_all zero d = inr (record { fails = λ lt. absurd (omega arith); pointer = refl; of_runs = refl; found = refl })
  each_after_all (suc n) d = each_step n d (test n) refl (reset_all S x root test n) (each_after_all n d)

holding_empty : (x : Extents) (e : ℕ) → x.pointer e ≡ 0 → holding x e ≡ Empty
holding_empty x e is = rw is refl

holding_same : (x z : Extents) (e : ℕ) → z.pointer e ≡ x.pointer e → z.of_runs e ≡ x.of_runs e → holding z e ≡ holding x e
holding_same x z e pointer runs = rw (pointer, runs) refl

-- the room is reset as the machine is: an extent that is set aside is reset, and of the others the tests agree where
-- something lies
module _ (S : Shape) (apart : S.apart ≡ true) (aside test : ℕ → Bool) (x : Extents) (root : ℕ) (r : Room) (blank : ℕ → Bool)
    (of : AreExtentsOf S aside x r)
    (goes : (e : ℕ) → e < S.extents → aside e ≡ true → test e ≡ true)
    (agree : (e : ℕ) → e < S.extents → aside e ≡ false → 0 < x.pointer e → test e ≡ blank e)
    (fresh : (e : ℕ) → x.fresh ≡ Some e → test e ≡ false) where
  abbrev z : Extents
  z = reset_all S x root test S.extents

  noted_alike : (o : Option ℕ) → ((e : ℕ) → o ≡ Some e → IsFilled S x e)
      → unless blank (unless aside o) ≡ unless (λ (e : ℕ). false) (forget_all test S.extents o)
  noted_alike None filled = ap (unless (λ (e : ℕ). false)) (sym (forget_none test S.extents))
  noted_alike (Some d) filled =
      let there = filled d refl in
      go (aside d) (blank d) refl refl (forget_all test S.extents (Some d)) (left_or_gone test S.extents d) there
    where
      go : (a b : Bool) → aside d ≡ a → blank d ≡ b → (o : Option ℕ) → Left test S.extents d o → IsFilled S x d
          → unless blank (if a then None else Some d) ≡ unless (λ (e : ℕ). false) o
      go true b is_a is_b o (inl gone) there = ap (unless (λ (e : ℕ). false)) (sym gone.2)
      go true b is_a is_b o (inr stays) there =
          absurd (true≢false (sym (goes d there.0 is_a) ∙ stays.0 there.0))
      go false true is_a is_b o (inl gone) there = rw is_b (ap (unless (λ (e : ℕ). false)) (sym gone.2))
      go false true is_a is_b o (inr stays) there =
          absurd (true≢false (sym (agree d there.0 is_a there.1 ∙ is_b) ∙ stays.0 there.0))
      go false false is_a is_b o (inl gone) there =
          absurd (true≢false (sym gone.1 ∙ agree d there.0 is_a there.1 ∙ is_b))
      go false false is_a is_b o (inr stays) there = rw is_b (ap (unless (λ (e : ℕ). false)) (sym stays.1))

  -- what is said of an extent, where of an empty one always the same is said
  value_alike : (A : Type 0) (none was now_there room : A) (e : ℕ) → e < S.extents → (x.pointer e ≡ 0 → was ≡ none)
      → (z.pointer e ≡ 0 → now_there ≡ none) → (z.pointer e ≡ x.pointer e → z.of_runs e ≡ x.of_runs e → now_there ≡ was)
      → room ≡ (if aside e then none else was) → (if blank e then none else room) ≡ now_there
  value_alike A none was now_there room e lt at_none then_none then_same is =
      go (aside e) (blank e) refl refl (each_after_all S apart x root test S.extents e) is
    where
      go : (a b : Bool) → aside e ≡ a → blank e ≡ b → IsEmptied S apart x root test S.extents e z
          ⊎ IsSame S apart x root test S.extents e z → room ≡ (if a then none else was)
          → (if b then none else room) ≡ now_there
      go a true is_a is_b (inl gone) room_is = sym (then_none gone.pointer)
      go true false is_a is_b (inl gone) room_is = room_is ∙ sym (then_none gone.pointer)
      go false false is_a is_b (inl gone) room_is = ⊎_elim
          (λ (some : 0 < x.pointer e). absurd (true≢false (sym gone.passes ∙ agree e lt is_a some ∙ is_b)))
          (λ (le : x.pointer e ≤ 0). (let nothing : x.pointer e ≡ 0 = omega arith in
          room_is ∙ at_none nothing ∙ sym (then_none gone.pointer))) (cases_lt 0 (x.pointer e))
      go true b is_a is_b (inr same) room_is = absurd (true≢false (sym (goes e lt is_a) ∙ same.fails lt))
      go false true is_a is_b (inr same) room_is = ⊎_elim
          (λ (some : 0 < x.pointer e). absurd (true≢false (sym is_b ∙ sym (agree e lt is_a some) ∙ same.fails lt)))
          (λ (le : x.pointer e ≤ 0). (let nothing : x.pointer e ≡ 0 = omega arith in
          sym (then_none (same.pointer ∙ nothing)))) (cases_lt 0 (x.pointer e))
      go false false is_a is_b (inr same) room_is = room_is ∙ sym (then_same same.pointer same.of_runs)

  -- an extent on which chunks were appended is as it was, where it wasn't reset
  filled_still : (e : ℕ) → IsFilled S x e → test e ≡ false → IsFilled S z e
  filled_still e there off = ⊎_elim
      (λ (gone : IsEmptied S apart x root test S.extents e z). absurd (true≢false (sym gone.passes ∙ off)))
      (λ (same : IsSame S apart x root test S.extents e z). (
        there.0,
        (let some : 0 < x.pointer e = there.1 in
            let is : z.pointer e ≡ x.pointer e = same.pointer in omega arith),
        same.of_runs ∙ there.2,
        subst (λ (n : ℕ). MayFill S.fills n) (sym same.found) there.3,
      ))
      (each_after_all S apart x root test S.extents e)

  still_noted : (o : Option ℕ) (e : ℕ) → ((d : ℕ) → o ≡ Some d → IsFilled S x d)
      → forget_all test S.extents o ≡ Some e → IsFilled S z e
  still_noted None e filled is = absurd (let wrong : None ≡ Some e = sym (forget_none test S.extents) ∙ is in cc)
  still_noted (Some d) e filled is = ⊎_elim
      (λ (gone : (d < S.extents) × (test d ≡ true) × (forget_all test S.extents (Some d) ≡ None)).
      absurd (let wrong : None ≡ Some e = sym gone.2 ∙ is in cc))
      (λ (stays : (d < S.extents → test d ≡ false) × (forget_all test S.extents (Some d) ≡ Some d)).
      (let same : Some d ≡ Some e = sym stays.1 ∙ is in let at : d ≡ e = cc in
      subst (λ (y : ℕ). IsFilled S z y) at (filled_still d (filled d refl) (stays.0 (filled d refl).0))))
      (left_or_gone test S.extents d)

  pub reset_alike : AreExtentsOf S (λ (e : ℕ). false) z (reset r blank)
  reset_alike = record {
    pointer = λ e lt. value_alike ℕ 0 (x.pointer e) (z.pointer e) (r.pointer e) e lt (λ is. is) (λ is. is)
        (λ is runs. is) (of.pointer e lt);
    holds = λ e lt. value_alike Holding Empty (holding x e) (holding z e) (r.holds e) e lt (holding_empty x e)
        (holding_empty z e) (holding_same x z e) (of.holds e lt);
    open_extent = ap (unless blank) of.open_extent ∙ noted_alike x.open_extent of.noted.appended
        ∙ ap (unless (λ (e : ℕ). false)) (sym (open_after_all S apart x root test S.extents));
    last = ap (unless blank) of.last ∙ noted_alike x.last of.noted.copied
        ∙ ap (unless (λ (e : ℕ). false)) (sym (last_after_all S apart x root test S.extents));
    noted = record {
      appended = λ e is. still_noted x.open_extent e of.noted.appended
          (sym (open_after_all S apart x root test S.extents) ∙ is);
      copied = λ e is. still_noted x.last e of.noted.copied (sym (last_after_all S apart x root test S.extents) ∙ is);
      opened = λ e is. (let was = sym (fresh_after_all S apart x root test S.extents) ∙ is in
          filled_still e (of.noted.opened e was) (fresh e was));
      empty = λ e lt none. ⊎_elim
          (λ (gone : IsEmptied S apart x root test S.extents e z). (gone.of_runs, gone.found))
          (λ (same : IsSame S apart x root test S.extents e z). (let was = of.noted.empty e lt (sym same.pointer ∙ none) in
          (same.of_runs ∙ was.0, same.found ∙ was.1))) (each_after_all S apart x root test S.extents e);
    };
  }
