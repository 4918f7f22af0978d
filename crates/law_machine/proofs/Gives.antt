-- What an index gives, when its table, its runs or the pointers change.
use Rattle.std.proofs.Common.{◌≡◌, ◌≢◌, inl, inr, ⊎_elim, ℕ, ◌+◌, ◌<◌, ◌≤◌, Bool, true, false, List, [], ◌∷◌, ◌++◌, length, Option, Some, None, if◌then◌else◌, ◌==◌, eq-eqb, ne_eqb, refl, sym, ap, ◌∙◌, subst, true≢false}
use Rattle.std.proofs.lemmas.Bool.{cases_eq}
use Rattle.law_machine.specs.Device.{IsShape, Page, Shape}
use Rattle.law_machine.specs.Element.{Content, Entry, Locator, Map, Opening, Run}
use Rattle.law_machine.specs.Formats.{ChunkFrame, Formats, RunFrame}
use Rattle.law_machine.specs.Frames.{IsFormat}
use Rattle.law_machine.specs.Index.{AllPass, Chunks, Gives, Holds, Passes, Reads, ReadsAs, Value, entries_of, if_live, live, lookup}
use Rattle.law_machine.specs.Lists.{◌∈◌}

-- the value of an identifier in two lists
pub lookup_append : (id : ℕ) (xs ys zs : List Entry) → lookup id xs ≡ lookup id ys
    → lookup id (xs ++ zs) ≡ lookup id (ys ++ zs)
lookup_append id xs ys zs same = split xs ∙ ap or_else same ∙ sym (split ys)
  where
    or_else : Option (List Locator) → Option (List Locator)
    or_else None = lookup id zs
    or_else (Some ls) = Some ls

    split : (us : List Entry) → lookup id (us ++ zs) ≡ or_else (lookup id us)
    split [] = refl
    split (u ∷ us) = elim (cases_eq u.id id) [
      | inl is ↦ let test : (u.id == id) ≡ true = eq-eqb u.id id is in rw test
      | inr not ↦ let test : (u.id == id) ≡ false = ne_eqb u.id id not in rw test (split us)
    ]

module _ (S : Shape) (F : Formats) (shape : IsShape S) (format : IsFormat S F) where
  module _ (opening : Opening) (img : ℕ → Page) (p g : ℕ → ℕ) where
    pub chunks_pass : (ls : List Locator) (cs : List (List ℕ)) → Chunks S F opening img p g ls cs → (l : Locator)
        → l ∈ ls → Passes S F img p g l
    chunks_pass [] cs all l has = absurd has
    chunks_pass (k ∷ ls) [] all l has = absurd all
    chunks_pass (k ∷ ls) (c ∷ cs) all l (inl is) = subst (λ (x : Locator). Passes S F img p g x) (sym is) all.0.passes
    chunks_pass (k ∷ ls) (c ∷ cs) all l (inr has) = chunks_pass ls cs all.1 l has

    pub chunks_hold : (ls : List Locator) (cs : List (List ℕ)) → Chunks S F opening img p g ls cs → (l : Locator)
        → l ∈ ls → Holds S F opening img p g l
    chunks_hold [] cs all l has = absurd has
    chunks_hold (k ∷ ls) [] all l has = absurd all
    chunks_hold (k ∷ ls) (c ∷ cs) all l (inl is) = subst (λ (x : Locator). Holds S F opening img p g x) (sym is)
        (inr (c, all.0))
    chunks_hold (k ∷ ls) (c ∷ cs) all l (inr has) = chunks_hold ls cs all.1 l has

    -- one entry more in the table
    pub gives_set : (table : List Entry) (runs : List Run) (m new : Map) (id : ℕ) (ls : List Locator)
        → Gives S F opening img p g table runs m
        → ((l : Locator) → l ∈ ls → Passes S F img p g l) → ((l : Locator) → l ∈ ls → Holds S F opening img p g l)
        → Value S F opening img p g (Some ls) (new id) → ((x : ℕ) → x ≢ id → new x ≡ m x)
        → Gives S F opening img p g (record { id = id; locators = ls } ∷ table) runs new
    gives_set table runs m new id ls gives passes hold value same = record {
      runs_read = gives.runs_read;
      runs_pass = gives.runs_pass;
      visible_pass = λ x. elim (cases_eq id x) [
        | inl is ↦ let test : (id == x) ≡ true = eq-eqb id x is in rw test passes
        | inr not ↦ let test : (id == x) ≡ false = ne_eqb id x not in rw test (gives.visible_pass x)
      ];
      holds = λ x l. elim (cases_eq id x) [
        | inl is ↦ let test : (id == x) ≡ true = eq-eqb id x is in rw test (hold l)
        | inr not ↦ let test : (id == x) ≡ false = ne_eqb id x not in rw test (gives.holds x l)
      ];
      table_passes = λ x. elim (cases_eq id x) [
        | inl is ↦ let test : (id == x) ≡ true = eq-eqb id x is in rw test passes
        | inr not ↦ let test : (id == x) ≡ false = ne_eqb id x not in rw test (gives.table_passes x)
      ];
      values = λ x. elim (cases_eq id x) [
        | inl is ↦ let test : (id == x) ≡ true = eq-eqb id x is in
            rw test (subst (λ (y : ℕ). Value S F opening img p g (Some ls) (new y)) is value)
        | inr not ↦ let test : (id == x) ≡ false = ne_eqb id x not in
            rw test (subst (λ (v : Option Content). Value S F opening img p g
            (lookup x (table ++ entries_of runs)) v) (sym (same x (λ is. not (sym is)))) (gives.values x))
      ];
    }

module _ (S : Shape) (F : Formats) where
  -- under other pointers that agree where the locators are
  pub reads_under : (opening : Opening) (img : ℕ → Page) (p q g : ℕ → ℕ) (l : Locator) (bs : List Page)
      → q l.extent ≡ p l.extent → Reads S F opening img p g l bs → Reads S F opening img q g l bs
  reads_under opening img p q g l bs same r = record {
    passes = record {
      generation = r.passes.generation;
      below = subst (λ (n : ℕ). l.page < n) (sym same) r.passes.below;
      inside = r.passes.inside;
      mark = r.passes.mark;
    };
    below = ⊎_elim (λ (below : l.page + length bs ≤ p l.extent). inl
        (subst (λ (n : ℕ). l.page + length bs ≤ n) (sym same) below)) (λ fz. inr fz) r.below;
    inside = r.inside;
    within = r.within;
    stand = r.stand;
    marked = r.marked;
    long = r.long;
  }

  reading_under : (opening : Opening) → (img : ℕ → Page) (p q g : ℕ → ℕ) (ls : List Locator) (content : Content)
      → ((l : Locator) → l ∈ ls → q l.extent ≡ p l.extent) → ReadsAs S F opening img p g ls content
      → ReadsAs S F opening img q g ls content
  reading_under opening img p q g [] content same is = is
  reading_under opening img p q g (l ∷ ls) content same (inl r) = inl (
    r.0,
    r.1,
    reads_under opening img p q g l (F.frame ChunkFrame r.0) (same l (inl refl)) r.2,
    reading_under opening img p q g ls r.1 (λ k has. same k (inr has)) r.3,
    r.4,
  )
  reading_under opening img p q g (l ∷ ls) content same (inr bad) = inr bad

  live_value : (opening : Opening)
      → (img : ℕ → Page) (p q g : ℕ → ℕ) (o : Option (List Locator)) (v : Option Content)
      → ((l : Locator) → l ∈ live o → q l.extent ≡ p l.extent) → Value S F opening img p g o v
      → Value S F opening img q g (if_live o) v
  live_value opening img p q g None v same value = value
  live_value opening img p q g (Some []) v same value = value
  live_value opening img p q g (Some (l ∷ ls)) v same value =
      (value.0, reading_under opening img p q g (l ∷ ls) value.0 same value.1, value.2)

  in_live : (o : Option (List Locator)) (l : Locator) → l ∈ live (if_live o) → l ∈ live o
  in_live None l has = has
  in_live (Some []) l has = has
  in_live (Some (k ∷ ls)) l has = has

  holds_under : (opening : Opening) → (img : ℕ → Page) (p q g : ℕ → ℕ) (l : Locator) → q l.extent ≡ p l.extent
      → Holds S F opening img p g l → Holds S F opening img q g l
  holds_under opening img p q g l same (inl bad) = inl bad
  holds_under opening img p q g l same (inr has) = inr
      (has.0, reads_under opening img p q g l (F.frame ChunkFrame has.0) same has.1)

  live_pass : (img : ℕ → Page) (p q g : ℕ → ℕ) (o : Option (List Locator))
      → ((l : Locator) → l ∈ live o → q l.extent ≡ p l.extent) → AllPass S F img p g o → AllPass S F img q g (if_live o)
  live_pass img p q g None same pass = tt
  live_pass img p q g (Some []) same pass = tt
  live_pass img p q g (Some (l ∷ ls)) same pass = λ k has.
      (let old = pass k has in
      record {
        generation = old.generation;
        below = subst (λ (n : ℕ). k.page < n) (sym (same k has)) old.below;
        inside = old.inside;
        mark = old.mark;
      })

  pass_if : (img : ℕ → Page) (p g : ℕ → ℕ) (b : Bool) (ls : List Locator) (o r : Option (List Locator))
      → (AllPass S F img p g o → AllPass S F img p g r)
      → AllPass S F img p g (if b then Some ls else o) → AllPass S F img p g (if b then Some ls else r)
  pass_if img p g true ls o r on a = a
  pass_if img p g false ls o r on a = on a

  -- what the first entries name passes where it does among all
  pub front_passes : (img : ℕ → Page) (p g : ℕ → ℕ) (id : ℕ) (xs ys : List Entry)
      → AllPass S F img p g (lookup id (xs ++ ys)) → AllPass S F img p g (lookup id xs)
  front_passes img p g id [] ys all = tt
  front_passes img p g id (x ∷ xs) ys all = pass_if img p g (x.id == id) x.locators _ _
      (λ rest. front_passes img p g id xs ys rest) all

  value_under : (opening : Opening)
      → (img : ℕ → Page) (p q g : ℕ → ℕ) (o : Option (List Locator)) (v : Option Content)
      → ((l : Locator) → l ∈ live o → q l.extent ≡ p l.extent) → Value S F opening img p g o v
      → Value S F opening img q g o v
  value_under opening img p q g None v same value = value
  value_under opening img p q g (Some []) v same value = value
  value_under opening img p q g (Some (l ∷ ls)) v same value =
      (value.0, reading_under opening img p q g (l ∷ ls) value.0 same value.1, value.2)

  pub pass_under : (img : ℕ → Page) (p q g : ℕ → ℕ) (o : Option (List Locator))
      → ((l : Locator) → l ∈ live o → q l.extent ≡ p l.extent) → AllPass S F img p g o → AllPass S F img q g o
  pass_under img p q g None same pass = tt
  pass_under img p q g (Some ls) same pass = λ k has.
      (let old = pass k has in
      record {
        generation = old.generation;
        below = subst (λ (n : ℕ). k.page < n) (sym (same k has)) old.below;
        inside = old.inside;
        mark = old.mark;
      })

  -- what a merge keeps of what an identifier has
  in_kept : (go : Bool) (o : Option (List Locator)) (l : Locator) → l ∈ live (if go then if_live o else o) → l ∈ live o
  in_kept true o l has = in_live o l has
  in_kept false o l has = has

  pub kept_pass : (go : Bool) (img : ℕ → Page) (p q g : ℕ → ℕ) (o : Option (List Locator))
      → ((l : Locator) → l ∈ live o → q l.extent ≡ p l.extent) → AllPass S F img p g o
      → AllPass S F img q g (if go then if_live o else o)
  kept_pass true img p q g o same pass = live_pass img p q g o same pass
  kept_pass false img p q g o same pass = pass_under img p q g o same pass

  kept_value : (go : Bool) (opening : Opening)
      → (img : ℕ → Page) (p q g : ℕ → ℕ) (o : Option (List Locator)) (v : Option Content)
      → ((l : Locator) → l ∈ live o → q l.extent ≡ p l.extent) → Value S F opening img p g o v
      → Value S F opening img q g (if go then if_live o else o) v
  kept_value true opening img p q g o v same value = live_value opening img p q g o v same value
  kept_value false opening img p q g o v same value = value_under opening img p q g o v same value

  -- other runs in which each identifier has what it had, or where deletions go all that lives, under pointers that agree
  -- where it lies
  pub gives_kept : {opening : Opening} (go : Bool)
      → (img : ℕ → Page) (p q g : ℕ → ℕ) (table : List Entry) (runs : List Run) (m : Map) (new : List Run)
      → Gives S F opening img p g table runs m
      → ((id : ℕ) → lookup id (entries_of new) ≡ (if go then if_live (lookup id (table ++ entries_of runs))
      else lookup id (table ++ entries_of runs)))
      → ((id : ℕ) (k : Locator) → k ∈ live (lookup id (table ++ entries_of runs)) → q k.extent ≡ p k.extent)
      → ((run : Run) → run ∈ new → Reads S F opening img q g run.place (F.frame RunFrame (F.run run.entries)))
      → (S.hidden_stand ≡ true → (run : Run) → run ∈ new → (id : ℕ) → AllPass S F img q g (lookup id run.entries))
      → Gives S F opening img q g [] new m
  gives_kept {opening} go img p q g table runs m new gives same agree reads hidden = record {
    runs_read = reads;
    table_passes = λ id. tt;
    visible_pass = λ id. subst (λ (o : Option (List Locator)). AllPass S F img q g o) (sym (same id))
        (kept_pass go img p q g (lookup id (table ++ entries_of runs)) (agree id) (gives.visible_pass id));
    runs_pass = hidden;
    holds = λ id k has.
        (let old : k ∈ live (lookup id (table ++ entries_of runs)) = in_kept go
        (lookup id (table ++ entries_of runs)) k (subst (λ (o : Option (List Locator)). k ∈ live o) (same id) has) in
        holds_under opening img p q g k (agree id k old) (gives.holds id k old));
    values = λ id. subst (λ (o : Option (List Locator)). Value S F opening img q g o (m id)) (sym (same id))
        (kept_value go opening img p q g (lookup id (table ++ entries_of runs)) (m id) (agree id) (gives.values id));
  }

  -- the same table and runs, under pointers that agree where what they name lies
  pub gives_under : {opening : Opening} (img : ℕ → Page) (p q g : ℕ → ℕ) (table : List Entry) (runs : List Run) (m : Map)
      → Gives S F opening img p g table runs m → S.hidden_stand ≡ false
      → ((id : ℕ) (k : Locator) → k ∈ live (lookup id (table ++ entries_of runs)) → q k.extent ≡ p k.extent)
      → ((run : Run) → run ∈ runs → q run.place.extent ≡ p run.place.extent)
      → Gives S F opening img q g table runs m
  gives_under {opening} img p q g table runs m gives gone agree there = record {
    runs_read = λ run has. reads_under opening img p q g run.place (F.frame RunFrame (F.run run.entries)) (there run has)
        (gives.runs_read run has);
    table_passes = λ id. front_passes img q g id table (entries_of runs) (pass id);
    visible_pass = pass;
    runs_pass = λ stand. absurd (true≢false (sym stand ∙ gone));
    holds = λ id k has. holds_under opening img p q g k (agree id k has) (gives.holds id k has);
    values = λ id. value_under opening img p q g (lookup id (table ++ entries_of runs)) (m id) (agree id) (gives.values id);
  }
    where
      pass : (id : ℕ) → AllPass S F img q g (lookup id (table ++ entries_of runs))
      pass id = pass_under img p q g (lookup id (table ++ entries_of runs)) (agree id) (gives.visible_pass id)
