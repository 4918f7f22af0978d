-- Recovery looks at the pages of the store alone.
use Rattle.std.proofs.Common.{◌≡◌, inl, inr, ⊎_elim, ℕ, zero, suc, ◌+◌, ◌-◌, ◌*◌, ◌<◌, ◌≤◌, true, false, nat_lt, ◌==◌, ◌&&◌, List, [], ◌∷◌, ◌++◌, length, Option, Some, None, if◌then◌else◌, mul-le-mul_right, ne_eqb, refl, sym, ap, ap₂, ◌∙◌, subst, arith}
use Rattle.std.proofs.lemmas.Bool.{cases_eq}
use Rattle.law_machine.specs.Device.{Inside, Page, Shape}
use Rattle.law_machine.specs.Element.{Content, Entry, Locator, Map, Opening, Run}
use Rattle.law_machine.specs.Formats.{ChunkFrame, Formats, damage_in, fault_for, limit_in, opening_in, pages_from}
use Rattle.law_machine.specs.Format.{Format}
use Rattle.law_machine.specs.Geometry.{IsGeometry, shape_of}
use Rattle.law_machine.specs.Index.{AllPass, Gives, Holds, Passes, Reads, ReadsAs, Value, entries_of, live, lookup}
use Rattle.law_machine.specs.Lists.{◌∈◌}
use Rattle.law_machine.specs.Local.{AgreeBelow, LiesBelow}
use Rattle.law_machine.specs.Recovery.{Recovers, RecoversBut}
use Rattle.law_machine.specs.Safe.{FitsExtent}
use Rattle.law_machine.proofs.Carries.{carry}
use Rattle.law_machine.proofs.Filled.{limit_low}

-- each locator that an identifier has passes
pub live_passes : (S : Shape) (F : Formats) (opening : Opening) (img : ℕ → Page) (p g : ℕ → ℕ) (table : List Entry)
    (runs : List Run) (m : Map) → Gives S F opening img p g table runs m → (id : ℕ) (l : Locator)
    → l ∈ live (lookup id (table ++ entries_of runs)) → Passes S F img p g l
live_passes S F opening img p g table runs m gives id = passes (lookup id (table ++ entries_of runs)) (gives.visible_pass id)
  where
    passes : (o : Option (List Locator)) → AllPass S F img p g o → (l : Locator) → l ∈ live o → Passes S F img p g l
    passes None pass l none = absurd none
    passes (Some ls) pass l has = pass l has

-- an index gives the same map by two openings that say the same of every locator that passes
module _ (S : Shape) (F : Formats) (d h : Opening) (img : ℕ → Page) (p g : ℕ → ℕ)
    (damage : (l : Locator) → Passes S F img p g l → h.damage l ≡ d.damage l)
    (frozen : (e i n : ℕ) → d.frozen e i n ≡ true → h.frozen e i n ≡ true)
    (limit : (l : Locator) → Passes S F img p g l → h.limit l ≡ d.limit l) where
  reads_by : (l : Locator) (bs : List Page) → Reads S F d img p g l bs → Reads S F h img p g l bs
  reads_by l bs r = record {
    passes = r.passes;
    below = ⊎_elim (λ below. inl below) (λ fz. inr (λ i. frozen l.extent i l.generation (fz i))) r.below;
    inside = r.inside;
    within = subst (λ (n : ℕ). l.page + length bs ≤ n) (sym (limit l r.passes)) r.within;
    stand = r.stand;
    marked = r.marked;
    long = r.long;
  }

  reading_by : (ls : List Locator) (content : Content) → ((l : Locator) → l ∈ ls → Passes S F img p g l)
      → ReadsAs S F d img p g ls content → ReadsAs S F h img p g ls content
  reading_by [] content pass is = is
  reading_by (l ∷ ls) content pass (inl r) = inl (
    r.0,
    r.1,
    reads_by l (F.frame ChunkFrame r.0) r.2,
    reading_by ls r.1 (λ k has. pass k (inr has)) r.3,
    r.4,
  )
  reading_by (l ∷ ls) content pass (inr bad) = inr (bad.0, damage l (pass l (inl refl)) ∙ bad.1, bad.2)

  holds_by : (l : Locator) → Passes S F img p g l → Holds S F d img p g l → Holds S F h img p g l
  holds_by l pass (inl bad) = inl (bad.0, damage l pass ∙ bad.1)
  holds_by l pass (inr has) = inr (has.0, reads_by l (F.frame ChunkFrame has.0) has.1)

  value_by : (o : Option (List Locator)) (v : Option Content)
      → ((l : Locator) → l ∈ live o → Passes S F img p g l) → Value S F d img p g o v → Value S F h img p g o v
  value_by None v pass value = value
  value_by (Some []) v pass value = value
  value_by (Some (l ∷ ls)) v pass value = (value.0, reading_by (l ∷ ls) value.0 pass value.1, value.2)

  gives_by : (table : List Entry) (runs : List Run) (m : Map) → Gives S F d img p g table runs m
      → Gives S F h img p g table runs m
  gives_by table runs m gives = record {
    runs_read = λ run has. reads_by run.place _ (gives.runs_read run has);
    table_passes = gives.table_passes;
    visible_pass = gives.visible_pass;
    runs_pass = gives.runs_pass;
    holds = λ id l has. holds_by l (live_passes S F d img p g table runs m gives id l has) (gives.holds id l has);
    values = λ id. value_by (lookup id (table ++ entries_of runs)) (m id)
        (live_passes S F d img p g table runs m gives id) (gives.values id);
  }

module _ (S : Shape) (F : Formats) (count : ℕ) (a b : ℕ → Page) (lies : LiesBelow S count) (agree : AgreeBelow count a b) where
  at : (e i : ℕ) → Inside S e i → b (S.address e i) ≡ a (S.address e i)
  at e i inside = sym (agree (S.address e i) (lies.frames e i inside))

  same_pages : (e i n : ℕ) → e < S.extents → i + n ≤ S.pages → pages_from S F b e i n ≡ pages_from S F a e i n
  same_pages e i zero there fits = refl
  same_pages e i (suc n) there fits = ap₂ (λ (x : Page) (xs : List Page). x ∷ xs)
      (at e i (there, omega arith)) (same_pages e (suc i) n there (omega arith))

  same_damage : (p g : ℕ → ℕ) → ((e : ℕ) → FitsExtent S (p e) (g e)) → (l : Locator) → Passes S F b p g l
      → damage_in S F b p g l ≡ damage_in S F a p g l
  same_damage p g fits l pass = ap
      (λ (bs : List Page). if (g l.extent == l.generation) && nat_lt l.page (p l.extent) then fault_for S F ChunkFrame l.mark bs else None)
      (same_pages l.extent l.page (limit_in S F p g l - l.page) pass.inside.0
      (let lt : l.page < S.pages = pass.inside.1 in
      let end : limit_in S F p g l ≤ S.pages = limit_low S F p g (λ e. (fits e).0) l in omega arith))

  gives_alike : (opening : Opening) (p g : ℕ → ℕ) (table : List Entry) (runs : List Run) (m : Map)
      → Gives S F opening a p g table runs m → Gives S F opening b p g table runs m
  gives_alike opening p g table runs m gives = carry S F opening b a p g p g (λ e i below inside. (at e i inside, refl, below))
      (λ e i fz some inside. at e i inside) table runs m gives

  pub recovers_alike_but : (opening next : (pointers generations : ℕ → ℕ) → Opening) (n : ℕ) (m : Map)
      → ((p g : ℕ → ℕ) → ((e : ℕ) → FitsExtent S (p e) (g e)) → (l : Locator) → Passes S F b p g l
      → (next p g).damage l ≡ (opening p g).damage l)
      → ((p g : ℕ → ℕ) (e i k : ℕ) → (opening p g).frozen e i k ≡ true → (next p g).frozen e i k ≡ true)
      → ((p g : ℕ → ℕ) (l : Locator) → (next p g).limit l ≡ (opening p g).limit l)
      → RecoversBut S F opening a n m → RecoversBut S F next b n m
  recovers_alike_but opening next n m damage frozen limit r = record {
    formats = r.formats;
    versions = r.versions;
    recorded = r.recorded;
    pointers = r.pointers;
    generations = r.generations;
    superblock = λ j lt. sym (agree (S.section_page j) (lies.sections j lt)) ∙ r.superblock j lt;
    versions_fit = r.versions_fit;
    extents_fit = r.extents_fit;
    version = r.version;
    recorded_fit = r.recorded_fit;
    runs = r.runs;
    root = sym (agree S.root_page lies.root) ∙ r.root;
    root_fits = r.root_fits;
    runs_fit = r.runs_fit;
    bounds = r.bounds;
    gives = gives_by S F (opening r.pointers r.generations) (next r.pointers r.generations) b r.pointers r.generations
        (damage r.pointers r.generations r.extents_fit) (frozen r.pointers r.generations)
        (λ l pass. limit r.pointers r.generations l) [] r.runs m
        (gives_alike (opening r.pointers r.generations) r.pointers r.generations [] r.runs m r.gives);
  }

  pub recovers_alike : (n : ℕ) (m : Map) → Recovers S F a n m → Recovers S F b n m
  recovers_alike n m r = recovers_alike_but (opening_in S F a) (opening_in S F b) n m same_damage (λ p g e i k fz. fz) (λ p g l. refl) r

-- where the pages of a geometry lie
module _ (E P N Q : ℕ) (f : Format) (g : IsGeometry E P N Q) where
  frame_below : (e i : ℕ) → e < E → i < P → 2 + (e * P + i) < 1 + E * P + N
  frame_below e i le li = let more : suc e * P ≤ E * P = mul-le-mul_right P le in let some : 0 < N = g.some_section in omega arith

  section_below : (j : ℕ) → j < N → (shape_of E P N Q f).section_page j < 1 + E * P + N
  section_below j lt = elim (cases_eq j 0) [
    | inl is ↦ subst (λ (k : ℕ). (shape_of E P N Q f).section_page k < 1 + E * P + N) (sym is) (let zero_there : 0 < 1 + E * P + N = omega arith in zero_there)
    | inr some ↦ (let t : (j == 0) ≡ false = ne_eqb j 0 some in rw t (omega arith))
  ]

  pub lies_below : LiesBelow (shape_of E P N Q f) (1 + E * P + N)
  lies_below = record {
    root = (let some : 0 < N = g.some_section in omega arith);
    sections = section_below;
    frames = λ e i inside. frame_below e i inside.0 inside.1;
  }
