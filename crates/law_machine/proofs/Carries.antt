-- What lies in places that are kept is read as before.
use Rattle.std.proofs.Common.{◌≡◌, ◌⊎◌, inl, inr, subst, ℕ, zero, suc, ◌+◌, ◌<◌, ◌≤◌, Bool, true, false, ◌&&◌, nat_le, List, [], ◌∷◌, ◌++◌, length, Option, Some, None, ◌==◌, leb-true, eqb-true, true≢false, subst₂, refl, sym, ap, ◌∙◌, arith}
use Rattle.std.proofs.lemmas.Bool.{cases_Bool}
use Rattle.law_machine.specs.Device.{Inside, IsShape, Page, Place, Shape}
use Rattle.law_machine.specs.Element.{Content, Entry, Locator, Map, Opening, Root, Run, Superblock, SuperblockBefore}
use Rattle.law_machine.specs.Formats.{ChunkFrame, Formats, Stand}
use Rattle.law_machine.specs.Guard.{Covers}
use Rattle.law_machine.specs.Index.{AllPass, Chunks, Gives, Holds, Passes, Reads, ReadsAs, Value, entries_of, lookup}
use Rattle.law_machine.specs.Lists.{Descends, latest, ◌∈◌}
use Rattle.law_machine.specs.Recovery.{RootGives}

-- the newest that passes the test is found
pub found : {A : Type 0} (Before : A → A → Type 0) (has : A → Bool) (bytes : A → Page) (base : Page) (xs : List A)
    (x : A)
    → Descends Before xs → x ∈ xs → has x ≡ true → ((y : A) → y ∈ xs → has y ≡ true → Before x y → ⊥)
    → latest has bytes base xs ≡ bytes x
found Before has bytes base [] x order none passes newest = absurd none
found Before has bytes base (y ∷ ys) x order (inl is) passes newest = let test : has y ≡ true = ap has (sym is)
    ∙ passes in rw (test, is)
found Before has bytes base (y ∷ ys) x order (inr later) passes newest = elim (cases_Bool (has y)) [
  | inl takes ↦ absurd (newest y (inl refl) takes (order.0 x later))
  | inr not ↦ rw (not, found Before has bytes base ys x order.1 later passes (λ z has_z. newest z (inr has_z)))
]

module _ (S : Shape) (F : Formats) (opening : Opening) (img old : ℕ → Page) (p g q k : ℕ → ℕ)
    (carries : (e i : ℕ) → i < p e → Inside S e i → (img (S.address e i) ≡ old (S.address e i)) × (k e ≡ g e)
    × (i < q e))
    (still : (e i : ℕ) → opening.frozen e i (g e) ≡ true → 0 < p e → Inside S e i
    → img (S.address e i) ≡ old (S.address e i)) where
  pub carry_stand : (e i : ℕ) (bs : List Page) → e < S.extents → i + length bs ≤ p e → i + length bs ≤ S.pages
      → Stand S F old e i bs → Stand S F img e i bs
  carry_stand e i [] ex below inside stand = tt
  carry_stand e i (b ∷ bs) ex below inside stand = (
    (carries e i (omega arith) (ex, omega arith)).0 ∙ stand.0,
    carry_stand e (suc i) bs ex (omega arith) (omega arith) stand.1,
  )

  still_stand : (e i : ℕ) (bs : List Page) → e < S.extents → ((k : ℕ) → opening.frozen e k (g e) ≡ true) → 0 < p e
      → i + length bs ≤ S.pages → Stand S F old e i bs → Stand S F img e i bs
  still_stand e i [] ex fz some inside stand = tt
  still_stand e i (b ∷ bs) ex fz some inside stand = (
    still e i (fz i) some (ex, omega arith) ∙ stand.0,
    still_stand e (suc i) bs ex fz some (omega arith) stand.1,
  )

  pub carry_passes : (l : Locator) → Passes S F old p g l → Passes S F img q k l
  carry_passes l pass = let c = carries l.extent l.page pass.below pass.inside in
      record { generation = c.1 ∙ pass.generation; below = c.2; inside = pass.inside; mark = pass.mark }

  carry_below : (e i n : ℕ) → e < S.extents → i < p e → i + n ≤ p e → i + n ≤ S.pages → i < q e → i + n ≤ q e
  carry_below e i zero ex some below inside new = omega arith
  carry_below e i (suc n) ex some below inside new = let last : i + n < q e =
      (carries e (i + n) (omega arith) (ex, omega arith)).2 in omega arith

  carry_frame : (l : Locator) (bs : List Page) → Reads S F opening old p g l bs → (l.page + length bs ≤ p l.extent)
      ⊎ ((i : ℕ) → opening.frozen l.extent i l.generation ≡ true)
      → ((l.page + length bs ≤ q l.extent) ⊎ ((i : ℕ) → opening.frozen l.extent i l.generation ≡ true))
      × Stand S F img l.extent l.page bs
  carry_frame l bs r (inl below) = (
    inl (carry_below l.extent l.page (length bs) r.passes.inside.0 r.passes.below below r.inside
        (carry_passes l r.passes).below),
    carry_stand l.extent l.page bs r.passes.inside.0 below r.inside r.stand,
  )
  carry_frame l bs r (inr fz) = (
    inr fz,
    still_stand l.extent l.page bs r.passes.inside.0
        (λ k. subst (λ (n : ℕ). opening.frozen l.extent k n ≡ true) (sym r.passes.generation) (fz k))
        (let lt : l.page < p l.extent = r.passes.below in omega arith) r.inside r.stand,
  )

  pub carry_reads : (l : Locator) (bs : List Page) → Reads S F opening old p g l bs → Reads S F opening img q k l bs
  carry_reads l bs r = let f = carry_frame l bs r r.below in
      record {
        passes = carry_passes l r.passes;
        inside = r.inside;
        within = r.within;
        below = f.0;
        stand = f.1;
        marked = r.marked;
        long = r.long;
      }

  pub carry_chunks : (ls : List Locator) (cs : List (List ℕ)) → Chunks S F opening old p g ls cs
      → Chunks S F opening img q k ls cs
  carry_chunks [] [] c = tt
  carry_chunks [] (c ∷ cs) no_chunk = absurd no_chunk
  carry_chunks (l ∷ ls) [] no_chunk = absurd no_chunk
  carry_chunks (l ∷ ls) (c ∷ cs) all = (carry_reads l (F.frame ChunkFrame c) all.0, carry_chunks ls cs all.1)

  pub carry_reading : (ls : List Locator) (content : Content) → ReadsAs S F opening old p g ls content
      → ReadsAs S F opening img q k ls content
  carry_reading [] content is = is
  carry_reading (l ∷ ls) content (inl r) = inl (
    r.0,
    r.1,
    carry_reads l (F.frame ChunkFrame r.0) r.2,
    carry_reading ls r.1 r.3,
    r.4,
  )
  carry_reading (l ∷ ls) content (inr bad) = inr bad

  pub carry_value : (o : Option (List Locator)) (v : Option Content) → Value S F opening old p g o v
      → Value S F opening img q k o v
  carry_value None v value = value
  carry_value (Some []) v value = value
  carry_value (Some (l ∷ ls)) v value = (value.0, carry_reading (l ∷ ls) value.0 value.1, value.2)

  pub carry_holds : (l : Locator) → Holds S F opening old p g l → Holds S F opening img q k l
  carry_holds l (inl bad) = inl bad
  carry_holds l (inr has) = inr (has.0, carry_reads l (F.frame ChunkFrame has.0) has.1)

  pub carry_pass : (o : Option (List Locator)) → AllPass S F old p g o → AllPass S F img q k o
  carry_pass None all = tt
  carry_pass (Some ls) all = λ l has. carry_passes l (all l has)

  pub carry : (table : List Entry) (runs : List Run) (m : Map) → Gives S F opening old p g table runs m
      → Gives S F opening img q k table runs m
  carry table runs m gives = record {
    runs_read = λ run has. carry_reads run.place _ (gives.runs_read run has);
    table_passes = λ id. carry_pass (lookup id table) (gives.table_passes id);
    visible_pass = λ id. carry_pass (lookup id (table ++ entries_of runs)) (gives.visible_pass id);
    runs_pass = λ stand run has id. carry_pass (lookup id run.entries) (gives.runs_pass stand run has id);
    holds = λ id l has. carry_holds l (gives.holds id l has);
    values = λ id. carry_value (lookup id (_ ++ entries_of runs)) (m id) (gives.values id);
  }

-- what a root gives lies in the places that it covers, and in extents that were frozen
pub root_local : (S : Shape) (F : Formats) {opening : Opening} → IsShape S → (r : Root) (a b : ℕ → Page)
    → ((h : Place) → Covers S r h → b h.page ≡ a h.page)
    → ((e i : ℕ) → opening.frozen e i (r.generations e) ≡ true → 0 < r.pointers e → Inside S e i
    → b (S.address e i) ≡ a (S.address e i)) → RootGives S F opening r a → RootGives S F opening r b
root_local S F {opening} shape r a b same still gives = (
  carry S F opening b a r.pointers r.generations r.pointers r.generations
      (λ e i below inside. (
        same (record { page = S.address e i; generation = r.generations e })
            (record {
              generation = ap r.generations (shape.extent e i inside);
              below = subst₂ (λ (m n : ℕ). m < r.pointers n) (sym (shape.index e i inside))
                  (sym (shape.extent e i inside)) below;
            }),
        refl,
        below,
      ))
      still [] r.runs r.map gives.0,
  gives.1,
  gives.2,
  gives.3,
)

pub and_true : (a b : Bool) → a ≡ true → b ≡ true → (a && b) ≡ true
and_true a b p q = rw (p, q)

pub and_left : (a b : Bool) → (a && b) ≡ true → a ≡ true
and_left true b p = refl
and_left false b p = absurd (true≢false (sym p))

pub and_right : (a b : Bool) → (a && b) ≡ true → b ≡ true
and_right true b p = p
and_right false b p = absurd (true≢false (sym p))

-- a later version of the section isn't in X
pub no_later : (u y : Superblock) (j n : ℕ) → u.section ≡ j → u.version ≡ n
    → ((y.section == j) && nat_le y.version n) ≡ true → SuperblockBefore u y → ⊥
no_later u y j n sec ver has before =
    let same : y.section ≡ j = eqb-true y.section j (and_left (y.section == j) _ has) in
    let below : y.version ≤ n = leb-true y.version n (and_right (y.section == j) _ has) in
    let after : u.version < y.version = before (sec ∙ sym same) in
    omega arith
