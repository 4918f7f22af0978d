-- What is written is a document: of the same elements, with needs that name what waits alone.
use Rattle.std.proofs.Common.{◌≡◌, ◌∙◌, ℕ, zero, suc, ◌<◌, ◌≤◌, List, [], ◌∷◌, length, take, take_all, get_or, slice_index, Some, slice_get, Result, Ok, Err, IfOk, OnOk, String, string_bytes, refl, sym, ap, subst, inl, inr, ⊎_elim, arith}
use Rattle.std.specs.Prelude.{Contains, All, ◌↔◌, codes}
use Rattle.std.proofs.lemmas.Bool.{cases_eq}
use Rattle.std.proofs.lemmas.Option.{same_Some, slice_get_within, some_pair_parts}
use Rattle.std.proofs.lemmas.List.{length-map}
use Rattle.std.proofs.lemmas.List.Elements.{All-weaker, Contains-append_cases, Contains-append_left, Contains-append_right, Contains-get_or, Contains-push, Contains-push_cases}
use Rattle.std.specs.Global.{Global}
use Rattle.serde_json.specs.Data.{Data, number, string, unsigned}
use Rattle.serde_json.proofs.OnLiterals.{serde_json_on_literals}
use Rattle.serde_json.specs.Read.{read}
use Rattle.cs_deps.specs.declared.elements.Element.{Element}
use Rattle.cs_deps.specs.declared.elements.Element.TheVariants.{Plain, Version}
use Rattle.cs_deps.specs.Entries.{nothing, union}
use Rattle.cs_deps.specs.Named.{Named, Names, IsInSpans}
use Rattle.cs_deps.specs.Pending.{Pending, WaitsAt, Waits, IsPersistent}
use Rattle.cs_deps.proofs.Entries.{names_of_union}
use Rattle.cs_deps.proofs.InSpans.{in_none, in_one}
use Rattle.cs_check.specs.Documents.{AreEntries, HasMember, IsDocument, IsDocumentOf, NamesThese, NamesToo, elements_in, names_data}
use Rattle.cs_check.specs.Listing.{IsListing, WaitsBefore}
use Rattle.cs_check.specs.Names.{IsName, name_of}
use Rattle.cs_check.specs.Written.{AreWritten, HasDocument, IsGreatest, IsListOf, IsTextOf, document_data, entry_data}
use Rattle.cs_check.proofs.Agrees.{entry_element, entry_needs, has_chain, has_elements, has_families, has_persistent, has_rounds, has_target, list_names, named_by, waiting_name}
use Rattle.cs_check.proofs.Alike.{AreAlike, well_formed_alike}
use Rattle.cs_check.proofs.Entries.{data_at}
use Rattle.cs_check.proofs.ListingSteps.{listed_not_persistent}

-- ---- what names what a list of elements names

-- v at place f, and 0 at those before
least_of : (f v : ℕ) → List ℕ
least_of zero v = v ∷ []
least_of (suc f) v = 0 ∷ least_of f v

least_here : (f v : ℕ) → slice_index (least_of f v) f ≡ v
unfolding least_of
least_here zero v = refl
least_here (suc f) v = least_here f v

least_other : (f v g : ℕ) → (g ≡ f → ⊥) → slice_index (least_of f v) g ≡ 0
unfolding least_of
least_other zero v zero other = absurd (other refl)
least_other zero v (suc g) other = refl
least_other (suc f) v zero other = refl
least_other (suc f) v (suc g) other = least_other f v g (λ e. other (ap (λ n. suc n) e))

one : Element → Named
one (Plain n) = record { through = 0; spans = record { first = n; last = n } ∷ []; least = [] }
one (Version f v) = record { through = 0; spans = []; least = least_of f v }

one_names : (x y : Element) → Names (one x) y ↔ NamesToo x y
unfolding one
one_names (Plain m) (Plain n) = (
  (λ named. ⊎_elim
      (λ (b : (1 ≤ n) × (n ≤ 0)). absurd (omega (arith, b.0, b.1)))
      (λ (c : IsInSpans (record { first = m; last = m } ∷ []) n). let h = (in_one (record { first = m; last = m }) n).0 c in omega (arith, h.0, h.1))
      named),
  (λ same. inr ((in_one (record { first = m; last = m }) n).1 (omega (arith, same), omega (arith, same)))),
)
one_names (Plain m) (Version g w) = ((λ named. absurd (omega (arith, named.0, named.1))), (λ wrong. absurd wrong))
one_names (Version f v) (Plain n) = (
  (λ named. ⊎_elim
      (λ (b : (1 ≤ n) × (n ≤ 0)). absurd (omega (arith, b.0, b.1)))
      (λ (c : IsInSpans [] n). absurd (in_none n c))
      named),
  (λ wrong. absurd wrong),
)
one_names (Version f v) (Version g w) = (
  (λ named. ⊎_elim
      (λ (e : g ≡ f). (e, named.0, omega (arith, named.1, ap (λ n. slice_index (least_of f v) n) e, least_here f v)))
      (λ (ne : g ≡ f → ⊥). absurd (omega (arith, named.0, named.1, least_other f v g ne)))
      (cases_eq g f)),
  (λ too. (too.1, omega (arith, too.2, ap (λ n. slice_index (least_of f v) n) too.0, least_here f v))),
)

named_of : List Element → Named
named_of [] = nothing
named_of (x ∷ xs) = union (one x) (named_of xs)

none_named : (y : Element) → Names nothing y → ⊥
none_named (Plain n) named = ⊎_elim (λ (b : (1 ≤ n) × (n ≤ 0)). absurd (omega (arith, b.0, b.1))) (λ (c : IsInSpans [] n). in_none n c) named
none_named (Version f v) named = absurd (omega (arith, named.0, named.1))

these : (xs : List Element) → NamesThese (named_of xs) xs
unfolding named_of
these [] y = ((λ named. absurd (none_named y named)), (λ c. absurd (omega (arith, c.1.1))))
these (x ∷ xs) y =
    let both = names_of_union (one x) (named_of xs) y in (
      (λ named. ⊎_elim
          (λ (a : Names (one x) y). (x, Contains-append_left (x ∷ []) xs x (Contains-push [] x), (one_names x y).0 a))
          (λ (b : Names (named_of xs) y). let r = (these xs y).0 b in (r.0, Contains-append_right (x ∷ []) xs r.0 r.1, r.2))
          (both.0 named)),
      (λ c. ⊎_elim
          (λ (a : Contains (x ∷ []) c.0). ⊎_elim
          (λ (e : Contains [] c.0). absurd (omega (arith, e.1)))
          (λ (e : x ≡ c.0). both.1 (inl ((one_names x y).1 (subst (λ z. NamesToo z y) (sym e) c.2))))
          (Contains-push_cases [] x c.0 a))
          (λ (b : Contains xs c.0). both.1 (inr ((these xs y).1 (c.0, b, c.2))))
          (Contains-append_cases (x ∷ []) xs c.0 c.1)),
    )

-- ---- the same elements with other needs

-- The same elements, each with the needs that a list names, which was picked for it.
record Picked (ws : List (Element × Named)) (P : ℕ → Element → Named → List Element → Type 0) : Type 0 where
  waiting : List (Element × Named)
  same : elements_in waiting ≡ elements_in ws
  from : (k : ℕ) (x : Element) (n : Named) → slice_get waiting k ≡ Some (x, n) → (d : Named) × (xs : List Element) × (slice_get ws k ≡ Some (x, d)) × P k x d xs × (n ≡ named_of xs)
  there : (k : ℕ) (x : Element) (d : Named) → slice_get ws k ≡ Some (x, d) → (n : Named) × (slice_get waiting k ≡ Some (x, n))

picked : (ws : List (Element × Named)) (P : ℕ → Element → Named → List Element → Type 0) → ((k : ℕ) (x : Element) (d : Named) → slice_get ws k ≡ Some (x, d) → (xs : List Element) × P k x d xs) → Picked ws P
picked [] P pick = record {
  waiting = [];
  same = refl;
  from = λ k x n at. absurd (omega (arith, slice_get_within [] k (x, n) at));
  there = λ k x d at. absurd (omega (arith, slice_get_within [] k (x, d) at));
}
picked (w ∷ ws) P pick =
    let first = pick 0 w.0 w.1 refl in
    let rest = picked ws (λ k. P (suc k)) (λ k x d at. pick (suc k) x d at) in
    record {
      waiting = (w.0, named_of first.0) ∷ rest.waiting;
      same = ap (λ zs. w.0 ∷ zs) rest.same;
      from = from_first first rest;
      there = there_first first rest;
    }
  where
    from_first : (first : (xs : List Element) × P 0 w.0 w.1 xs) (rest : Picked ws (λ k. P (suc k))) (k : ℕ) (x : Element) (n : Named) → slice_get ((w.0, named_of first.0) ∷ rest.waiting) k ≡ Some (x, n)
        → (d : Named) × (xs : List Element) × (slice_get (w ∷ ws) k ≡ Some (x, d)) × P k x d xs × (n ≡ named_of xs)
    from_first first rest zero x n at =
        let parts = some_pair_parts w.0 x (named_of first.0) n at in
        (w.1, first.0, ap (λ z. Some (z, w.1)) parts.0, subst (λ z. P 0 z w.1 first.0) parts.0 first.1, sym parts.1)
    from_first first rest (suc k) x n at = rest.from k x n at

    there_first : (first : (xs : List Element) × P 0 w.0 w.1 xs) (rest : Picked ws (λ k. P (suc k))) (k : ℕ) (x : Element) (d : Named) → slice_get (w ∷ ws) k ≡ Some (x, d) → (n : Named) × (slice_get ((w.0, named_of first.0) ∷ rest.waiting) k ≡ Some (x, n))
    there_first first rest zero x d at = (named_of first.0, ap (λ z. Some (z, named_of first.0)) (some_pair_parts w.0 x w.1 d at).0)
    there_first first rest (suc k) x d at = rest.there k x d at

-- ---- what is listed stands among the elements

listed_before : (ws : List (Element × Named)) (k j : ℕ) (y : Element) (e : Named) → j < k → slice_get ws j ≡ Some (y, e) → Contains (take k (elements_in ws)) y
listed_before ws zero j y e lt at = absurd (omega (arith, lt))
listed_before [] (suc k) j y e lt at = absurd (omega (arith, slice_get_within [] j (y, e) at))
listed_before (w ∷ ws) (suc k) zero y e lt at =
    subst (λ z. Contains (z ∷ take k (elements_in ws)) y) (sym (some_pair_parts w.0 y w.1 e at).0) (Contains-append_left (y ∷ []) (take k (elements_in ws)) y (Contains-push [] y))
listed_before (w ∷ ws) (suc k) (suc j) y e lt at = Contains-append_right (w.0 ∷ []) (take k (elements_in ws)) y (listed_before ws k j y e (omega (arith, lt)) at)

listed_in : (ws : List (Element × Named)) (j : ℕ) (y : Element) (e : Named) → slice_get ws j ≡ Some (y, e) → Contains (elements_in ws) y
listed_in ws j y e at =
    subst (λ zs. Contains zs y) (take_all (length ws) (elements_in ws) (omega (arith, length-map ws (λ (w : Element × Named). w.0))))
    (listed_before ws (length ws) j y e (slice_get_within ws j (y, e) at) at)

greatest_waits : (g : Pending) (d : Named) (x : Element) → IsGreatest g d x → Waits g x × Names d x
greatest_waits g d (Plain n) is = (is.0, is.1)
greatest_waits g d (Version f v) is = (is.0, is.1)

-- ---- the document

module _ (letters : List ℕ) (g : Pending) (target : Named) (rounds : List (List Element)) (chain : List Element) (has : HasDocument letters g target rounds chain)
    (entries : List Data) (written : AreWritten letters g entries) (named : List Element) (list : IsListOf g target named) where
  abbrev whole : Data
  whole = document_data letters g.persistent entries named rounds chain

  listing : IsListing g
  listing = has.well_formed.elements

  -- the list of needs that was written for an element
  abbrev Wrote : ℕ → Element → Named → List Element → Type 0
  Wrote k x d xs = IsListOf g d xs × ((e : Data) → slice_get entries k ≡ Some e → e ≡ entry_data letters x xs)

  wrote : (k : ℕ) (x : Element) (d : Named) → WaitsAt g k x d → (xs : List Element) × Wrote k x d xs
  wrote k x d at =
      let f = data_at entries k (omega (arith, slice_get_within g.waiting k (x, d) at, written.count)) in
      let one = written.each k f.0 x d f.1 at in
      (one.0, (one.1, λ e there. same_Some e f.0 (sym there ∙ f.1) ∙ one.2))

  other : Picked g.waiting Wrote
  other = picked g.waiting Wrote wrote

  h : Pending
  h = record { persistent = g.persistent; waiting = other.waiting }

  alike : AreAlike g h
  unfolding h
  alike = record {
    persistent = refl;
    elements = sym other.same;
    there = λ k x n at. let q = other.from k x n at in (q.0, q.2, λ y names. less q.0 q.1 q.3.0 y (subst (λ m. Names m y) q.4 names));
    back = other.there;
  }
    where
      less : (d : Named) (xs : List Element) → IsListOf g d xs → (y : Element) → Names (named_of xs) y → Names d y
      less d xs of y names = let c = (these xs y).0 names in named_by g d c.0 y ((of.members c.0).0 c.1) c.2

  -- what is listed as a need stands before
  stand_before : (k : ℕ) (x : Element) (d : Named) (xs : List Element) → WaitsAt g k x d → IsListOf g d xs → All (Contains (take k (elements_in other.waiting))) xs
  stand_before k x d xs at of i z lt =
      let is = greatest_waits g d (get_or xs i z) ((of.members (get_or xs i z)).0 (Contains-get_or xs i z lt)) in
      subst (λ es. Contains (take k es) (get_or xs i z)) (sym other.same) (⊎_elim
      (λ (p : IsPersistent g (get_or xs i z)). absurd (listed_not_persistent g listing is.0.0 (get_or xs i z) is.0.1 is.0.2 p))
      (λ (b : WaitsBefore g k (get_or xs i z)). listed_before g.waiting k b.0 (get_or xs i z) b.1 b.2 b.3)
      ((listing k x d at).needs (get_or xs i z) is.1))

  are : AreEntries letters entries other.waiting
  are = record {
    count = omega (arith, written.count, ap length other.same, length-map other.waiting (λ (w : Element × Named). w.0), length-map g.waiting (λ (w : Element × Named). w.0));
    each = λ k e x n there at.
        let q = other.from k x n at in
        let is : e ≡ entry_data letters x q.1 = q.3.1 e there in
        record {
          name = waiting_name g letters listing has.count x (k, q.0, q.2);
          element = subst (λ z. HasMember z (codes "e") (string (name_of letters x))) (sym is) (entry_element letters x q.1);
          needs = (
            q.1,
            list_names g letters q.0 q.1 listing has.count q.3.0,
            stand_before k x q.0 q.1 q.2 q.3.0,
            subst (λ z. HasMember z (codes "needs") (names_data letters q.1)) (sym is) (entry_needs letters x q.1),
            subst (λ m. NamesThese m q.1) (sym q.4) (these q.1),
          );
        };
  }

  target_stands : All (Contains (elements_in other.waiting)) named
  target_stands i z lt =
      let is = greatest_waits g target (get_or named i z) ((list.members (get_or named i z)).0 (Contains-get_or named i z lt)) in
      subst (λ es. Contains es (get_or named i z)) (sym other.same) (listed_in g.waiting is.0.0 (get_or named i z) is.0.1 is.0.2)

  target_less : (y : Element) → Names (named_of named) y → Names target y
  target_less y names = let c = (these named y).0 names in named_by g target c.0 y ((list.members c.0).0 c.1) c.2

  has_format : HasMember whole (codes "format") (number (unsigned 1))
  unfolding serde_json_on_literals document_data
  has_format = refl

  says : IsDocumentOf whole letters h (named_of named) rounds chain
  unfolding h
  says = record {
    format = has_format;
    families = has_families letters g.persistent entries named rounds chain;
    distinct = has.distinct;
    persistent = has_persistent letters g.persistent entries named rounds chain;
    count = sym has.count;
    elements = (entries, has_elements letters g.persistent entries named rounds chain, are);
    named = (named, list_names g letters target named listing has.count list, target_stands, has_target letters g.persistent entries named rounds chain, these named);
    taken = (
      All-weaker (λ (zs : List Element). All (Waits g) zs) (λ (zs : List Element). All (IsName letters) zs) (λ zs all. All-weaker (Waits g) (IsName letters) (waiting_name g letters listing has.count) zs all) rounds has.well_formed.schedule,
      has_rounds letters g.persistent entries named rounds chain,
    );
    links = (All-weaker (Waits g) (IsName letters) (waiting_name g letters listing has.count) chain has.well_formed.links, has_chain letters g.persistent entries named rounds chain);
    well_formed = well_formed_alike g h alike target (named_of named) target_less rounds chain has.well_formed;
  }

pub documented : (text letters : List ℕ) (g : Pending) (target : Named) (rounds : List (List Element)) (chain : List Element) → HasDocument letters g target rounds chain → IsTextOf text letters g target rounds chain
    → (d : Data) × (read text ≡ Some d) × IsDocument d
documented text letters g target rounds chain has written = (
  document_data letters g.persistent written.0 written.2 rounds chain,
  written.5,
  (letters, h letters g target rounds chain has written.0 written.1 written.2 written.3, named_of written.2, rounds, chain, says letters g target rounds chain has written.0 written.1 written.2 written.3),
)

pub written_document : {E : Type 0} (r : Result (String Global) E) (letters : List ℕ) (g : Pending) (target : Named) (rounds : List (List Element)) (chain : List Element) → OnOk r (HasDocument letters g target rounds chain)
    → IfOk r (λ text. IsTextOf (string_bytes text) letters g target rounds chain) → IfOk r (λ text. (d : Data) × (read (string_bytes text) ≡ Some d) × IsDocument d)
written_document (Ok text) letters g target rounds chain has written = documented (string_bytes text) letters g target rounds chain has written
written_document (Err e) letters g target rounds chain has written = tt
