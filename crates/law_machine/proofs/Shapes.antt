-- The device's pages are apart.
use Rattle.std.proofs.Common.{◌≡◌, ◌≢◌, inl, inr, ℕ, suc, ◌+◌, ◌-◌, ◌*◌, ◌/◌, ◌%◌, ◌<◌, ◌≤◌, true, false, ◌==◌, nat_lt, eq-eqb, ne_eqb, mul-le-mul_right, refl, sym, ap, ◌∙◌, arith}
use Rattle.std.proofs.lemmas.Bool.{cases_eq, cases_lt}
use Rattle.std.proofs.lemmas.Bool.Decides.{nat_tests}
use Rattle.std.proofs.lemmas.Nat.{div-mul-add, mod-mul-add, div_below}
use Rattle.law_machine.specs.Device.{FramePage, IsShape, IsWeighing, Page, RootPage, SectionPage, Shape}
use Rattle.law_machine.specs.Format.{Format, Four, Two}
use Rattle.law_machine.specs.Geometry.{HasExtentsApart, IsGeometry, apart_in, by_size_in, chunk_bytes_in, fills_in, greatest_mark_in, hidden_stand_in, mark_in, most_run_extents, most_runs_in, most_weight_in, number_at, shape_of, weigh_in}
use Rattle.law_machine.proofs.Meant.{digest_fits}
use Rattle.law_machine.proofs.Pieces.{few_pieces, small_piece, some_piece}

-- in a format in which chunks and runs lie apart hidden entries don't stand, and merges go by size
rules_apart : (f : Format) → apart_in f ≡ true → (hidden_stand_in f ≡ false) × (by_size_in f ≡ true)
rules_apart Two on = absurd (let e : false ≡ true = on in cc)
rules_apart (Four store device) on = (refl, refl)

-- only there is an extent filled up
fills_apart : (f : Format) → fills_in f ≡ true → apart_in f ≡ true
fills_apart Two on = on
fills_apart (Four store device) on = on

some_run_extents : (E : ℕ) → 1 ≤ most_run_extents E
some_run_extents E = grind (arith, nat_tests)

-- an entry weighs something, one of more chunks no less, and one of eight no more than a run may
weighs_some : (f : Format) → 1 ≤ weigh_in f 0
weighs_some Two = omega arith
weighs_some (Four store device) = omega arith

weighs_more : (f : Format) (c d : ℕ) → c ≤ d → weigh_in f c ≤ weigh_in f d
weighs_more Two c d le = omega arith
weighs_more (Four store device) c d le = omega arith

pub is_weighing : (f : Format) → IsWeighing (weigh_in f)
is_weighing f = record { some = weighs_some f; more = λ c d le. weighs_more f c d le }

weighs_few : (f : Format) (pages : ℕ) → 0 < pages → weigh_in f 8 ≤ most_weight_in f pages
weighs_few Two pages some = omega arith
weighs_few (Four store device) pages some = omega arith

-- a chunk holds something beside its head
holds_some : (f : Format) (pages : ℕ) → 0 < pages → 0 < chunk_bytes_in f pages
holds_some Two pages some = omega arith
holds_some (Four store device) pages some = omega arith

-- a root may have as many runs as a Stage leaves
runs_enough : (f : Format) → 4 ≤ most_runs_in f
runs_enough Two = omega arith
runs_enough (Four store device) = omega arith

-- a mark can be
marks_fit : (f : Format) (page : Page) → mark_in f page ≤ greatest_mark_in f
marks_fit Two page = omega arith
marks_fit (Four store device) page = digest_fits (number_at 9 8 page)

-- in format 2 each entry weighs one
pub weighs_one : (E P N Q : ℕ) → ((c : ℕ) → (shape_of E P N Q Two).weigh c ≡ 1)
    × ((shape_of E P N Q Two).most_weight ≡ (4096 * P - 45) / 81)
weighs_one E P N Q = ((λ c. refl), refl)

module _ (E P N Q : ℕ) (f : Format) (g : IsGeometry E P N Q) where
  S : Shape
  S = shape_of E P N Q f

  at_zero : (p : ℕ) → p ≡ 0 → (shape_of E P N Q f).kind p ≡ SectionPage 0
  at_zero p is = let test : (p == 0) ≡ true = eq-eqb p 0 is in rw test

  at_one : (p : ℕ) → p ≡ 1 → (shape_of E P N Q f).kind p ≡ RootPage
  at_one p is = let test : (p == 0) ≡ false = ne_eqb p 0 (λ z. omega arith) in
      let test2 : (p == 1) ≡ true = eq-eqb p 1 is in rw (test, test2)

  at_frames : (p : ℕ) → 2 ≤ p → p < 2 + E * P → (shape_of E P N Q f).kind p ≡ FramePage
  at_frames p low high = let not_first : (p == 0) ≡ false = ne_eqb p 0 (λ z. omega arith) in
      let not_second : (p == 1) ≡ false = ne_eqb p 1 (λ z. omega arith) in
      let in_frames : nat_lt p (2 + E * P) ≡ true = grind (arith, nat_tests) in rw (not_first, not_second, in_frames)

  pub at_behind : (p : ℕ) → 2 + E * P ≤ p → (shape_of E P N Q f).kind p ≡ SectionPage (p - (1 + E * P))
  at_behind p low = let not_first : (p == 0) ≡ false = ne_eqb p 0 (λ z. omega arith) in
      let not_second : (p == 1) ≡ false = ne_eqb p 1 (λ z. omega arith) in
      let in_frames : nat_lt p (2 + E * P) ≡ false = grind (arith, nat_tests) in rw (not_first, not_second, in_frames)

  inside_below : (e i : ℕ) → e < E → i < P → 2 + (e * P + i) < 2 + E * P
  inside_below e i le li = let more : suc e * P ≤ E * P = mul-le-mul_right P le in omega arith

  page_of_section : (j : ℕ) → j ≢ 0 → (shape_of E P N Q f).section_page j ≡ 1 + E * P + j
  page_of_section j some = let t : (j == 0) ≡ false = ne_eqb j 0 some in rw t

  only_root : (p : ℕ) → (shape_of E P N Q f).kind p ≡ RootPage → p ≡ 1
  only_root p fam = elim (cases_eq p 0) [
    | inl z ↦ absurd (let e : SectionPage 0 ≡ RootPage = sym (at_zero p z) ∙ fam in cc)
    | inr nz ↦ elim (cases_eq p 1) [
      | inl is ↦ is
      | inr not ↦ elim (cases_lt p (2 + E * P)) [
        | inl lt ↦ absurd (let e : FramePage ≡ RootPage = sym (at_frames p (omega arith) lt) ∙ fam in cc)
        | inr ge ↦ absurd (let e : SectionPage (p - (1 + E * P)) ≡ RootPage = sym (at_behind p ge) ∙ fam in cc)
      ]
    ]
  ]

  only_section : (p j : ℕ) → (shape_of E P N Q f).kind p ≡ SectionPage j → p ≡ (shape_of E P N Q f).section_page j
  only_section p j fam = elim (cases_eq p 0) [
    | inl z ↦ (let e : SectionPage 0 ≡ SectionPage j = sym (at_zero p z) ∙ fam in let is : 0 ≡ j = cc in
        let t : (j == 0) ≡ true = eq-eqb j 0 (sym is) in rw t z)
    | inr nz ↦ elim (cases_eq p 1) [
      | inl is ↦ absurd (let e : RootPage ≡ SectionPage j = sym (at_one p is) ∙ fam in cc)
      | inr not ↦ elim (cases_lt p (2 + E * P)) [
        | inl lt ↦ absurd (let e : FramePage ≡ SectionPage j = sym (at_frames p (omega arith) lt) ∙ fam in cc)
        | inr ge ↦ (let e : SectionPage (p - (1 + E * P)) ≡ SectionPage j = sym (at_behind p ge) ∙ fam in
            let is : p - (1 + E * P) ≡ j = cc in
            let page = page_of_section j (λ z. omega arith) in omega arith)
      ]
    ]
  ]

  pub is_shape : HasExtentsApart E f → IsShape (shape_of E P N Q f)
  is_shape wide = record {
    root_kind = at_one 1 refl;
    section_kind = λ j lt. elim (cases_eq j 0) [
      | inl z ↦ (let t : (j == 0) ≡ true = eq-eqb j 0 z in rw t (at_zero 0 refl ∙ ap SectionPage (sym z)))
      | inr nz ↦ ap (shape_of E P N Q f).kind (page_of_section j nz) ∙ at_behind (1 + E * P + j) (omega arith)
          ∙ ap SectionPage (let e : 1 + E * P + j - (1 + E * P) ≡ j = omega arith in e)
    ];
    root_only = only_root;
    some_chunk = omega arith;
    enough_runs = runs_enough f;
    weighs = is_weighing f;
    one_fits = weighs_few f P g.some_page;
    fills = fills_apart f;
    marks = marks_fit f;
    apart = λ on. ((rules_apart f on).0, (rules_apart f on).1, some_run_extents E, wide on);
    some_byte = holds_some f P g.some_page;
    some_piece = λ bytes. some_piece f P bytes (holds_some f P g.some_page);
    small_pieces = λ bytes. small_piece f P bytes (holds_some f P g.some_page);
    few_pieces = λ bytes short. few_pieces f P bytes (holds_some f P g.some_page) short;
    section_only = only_section;
    frame_kind = λ e i inside. at_frames (2 + (e * P + i)) (omega arith) (inside_below e i inside.0 inside.1);
    extent = λ e i inside. ap (λ (n : ℕ). n / P) (let m : 2 + (e * P + i) - 2 ≡ e * P + i = omega arith in m)
        ∙ div-mul-add e P i inside.1;
    index = λ e i inside. ap (λ (n : ℕ). n % P) (let m : 2 + (e * P + i) - 2 ≡ e * P + i = omega arith in m)
        ∙ mod-mul-add e P i inside.1;
    section = λ e. elim (cases_lt e E) [
      | inl lt ↦ (let t : nat_lt e E ≡ true = grind (arith, nat_tests) in
          rw t (div_below e Q N g.some_extent (let a : E ≤ N * Q = g.all in omega arith)))
      | inr ge ↦ (let t : nat_lt e E ≡ false = grind (arith, nat_tests) in rw t g.some_section)
    ];
  }
