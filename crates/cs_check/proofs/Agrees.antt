-- What is read from what was written.
use Rattle.std.proofs.Common.{◌≡◌, ◌∙◌, ℕ, ◌≤◌, List, length, slice_index, get_or, Some, refl, sym, subst, ⊎_elim, arith}
use Rattle.std.specs.Prelude.{Contains, All, ◌↔◌, codes}
use Rattle.std.proofs.lemmas.Option.{slice_get_within, same_Some}
use Rattle.std.proofs.lemmas.List.Elements.{All-weaker, Contains-get_or}
use Rattle.serde_json.specs.Data.{Data, array, string}
use Rattle.serde_json.proofs.OnLiterals.{serde_json_on_literals}
use Rattle.std.proofs.lemmas.List.{length-map}
use Rattle.serde_json.specs.Read.{read}
use Rattle.serde_json.specs.View.{items_of}
use Rattle.cs_deps.specs.declared.elements.Element.{Element}
use Rattle.cs_deps.specs.declared.elements.Element.TheVariants.{Plain, Version}
use Rattle.cs_deps.specs.Named.{Named, Names}
use Rattle.cs_deps.specs.Pending.{Pending, WaitsAt, Waits, IsPersistent}
use Rattle.cs_check.specs.Listing.{IsListing}
use Rattle.cs_check.specs.Names.{AreLetters, IsName, name_of}
use Rattle.cs_check.specs.Documents.{HasMember, AreEntries, IsDocumentOf, NamesThese, NamesToo, elements_in, names_data, rounds_data, letters_data, numbers_data}
use Rattle.cs_check.specs.Written.{IsTextOf, HasDocument, AreWritten, entry_data, AgreesOnWaiting, IsListOf, IsGreatest, NamesListed, document_data}
use Rattle.cs_check.proofs.ValueSteps.{arrays_same, same_letters, same_numbers, same_names, same_rounds}
use Rattle.cs_check.proofs.Entries.{data_at, lists_same, element_at, same_name_of}
use Rattle.cs_check.proofs.Listed.{needs_listed}
use Rattle.cs_check.proofs.ListingSteps.{listed_not_persistent}

-- what waits has a name
pub waiting_name : (g : Pending) (letters : List ℕ) → IsListing g → length letters ≡ length g.persistent → (x : Element) → Waits g x → IsName letters x
waiting_name g letters listing count (Plain n) w = let number = (listing w.0 (Plain n) w.1 w.2).number in (number.0, number.1)
waiting_name g letters listing count (Version f v) w = let number = (listing w.0 (Version f v) w.1 w.2).number in (omega (arith, number.0, count), (omega (arith, number.2), number.1))

greatest_name : (g : Pending) (letters : List ℕ) (d : Named) → IsListing g → length letters ≡ length g.persistent → (x : Element) → IsGreatest g d x → IsName letters x
greatest_name g letters d listing count (Plain n) is = waiting_name g letters listing count (Plain n) is.0
greatest_name g letters d listing count (Version f v) is = waiting_name g letters listing count (Version f v) is.0

pub list_names : (g : Pending) (letters : List ℕ) (d : Named) (xs : List Element) → IsListing g → length letters ≡ length g.persistent → IsListOf g d xs → All (IsName letters) xs
list_names g letters d xs listing count list k e lt = greatest_name g letters d listing count (get_or xs k e) ((list.members (get_or xs k e)).0 (Contains-get_or xs k e lt))

-- what is listed of what d names names no more
pub named_by : (g : Pending) (d : Named) (x y : Element) → IsGreatest g d x → NamesToo x y → Names d y
named_by g d (Plain m) (Plain n) is e = subst (λ i. Names d (Plain i)) e is.1
named_by g d (Version f v) (Version c u) is e = subst (λ i. Names d (Version i u)) (sym e.0) (e.1, omega (arith, e.2, is.1.1))
named_by g d (Plain m) (Version c u) is e = absurd e
named_by g d (Version f v) (Plain n) is e = absurd e

-- the list names what d names among what waits
list_is : (g : Pending) (d : Named) (xs : List Element) → IsListing g → NamesListed g d → IsListOf g d xs → (y : Element) → Waits g y → Names d y ↔ ((x : Element) × Contains xs x × NamesToo x y)
list_is g d xs listing listed list y w = (to y w, from)
  where
    to : (y : Element) → Waits g y → Names d y → (x : Element) × Contains xs x × NamesToo x y
    to (Plain n) w named = (Plain n, (list.members (Plain n)).1 (w, named), refl)
    to (Version f v) w named =
        let one : 1 ≤ slice_index d.least f = omega (arith, named.0, named.1) in
        let same : slice_index d.least f ≤ slice_index d.least f = omega arith in
        ⊎_elim
        (λ (p : IsPersistent g (Version f (slice_index d.least f))).
        let here : IsPersistent g (Version f v) = omega (arith, p, named.1) in
        absurd (listed_not_persistent g listing w.0 (Version f v) w.1 w.2 here))
        (λ (u : Waits g (Version f (slice_index d.least f))). (Version f (slice_index d.least f), (list.members (Version f (slice_index d.least f))).1 (u, (one, same), λ i other less. less.1), (refl, named.0, named.1)))
        (listed f (slice_index d.least f) (one, same))

    from : (x : Element) × Contains xs x × NamesToo x y → Names d y
    from c = named_by g d c.0 y ((list.members c.0).0 c.1) c.2

-- the same list, the same names
alike : (g : Pending) (d e : Named) (xs ys : List Element) → IsListing g → NamesListed g d → IsListOf g d xs → NamesThese e ys → ys ≡ xs → (y : Element) → Waits g y → Names d y ↔ Names e y
alike g d e xs ys listing listed list these same y w = (
  (λ n. (these y).1 (subst (λ zs. (x : Element) × Contains zs x × NamesToo x y) (sym same) ((list_is g d xs listing listed list y w).0 n))),
  (λ n. (list_is g d xs listing listed list y w).1 (subst (λ zs. (x : Element) × Contains zs x × NamesToo x y) same ((these y).0 n))),
)

-- ---- the members of a document that was written

module _ (letters persistent : List ℕ) (entries : List Data) (named : List Element) (rounds : List (List Element)) (chain : List Element) where
  pub has_chain : HasMember (document_data letters persistent entries named rounds chain) (codes "chain") (names_data letters chain)
  unfolding serde_json_on_literals document_data
  has_chain = refl

  pub has_elements : HasMember (document_data letters persistent entries named rounds chain) (codes "elements") (array (items_of entries))
  unfolding serde_json_on_literals document_data
  has_elements = refl

  pub has_families : HasMember (document_data letters persistent entries named rounds chain) (codes "families") (letters_data letters)
  unfolding serde_json_on_literals document_data
  has_families = refl

  pub has_persistent : HasMember (document_data letters persistent entries named rounds chain) (codes "persistent") (numbers_data persistent)
  unfolding serde_json_on_literals document_data
  has_persistent = refl

  pub has_rounds : HasMember (document_data letters persistent entries named rounds chain) (codes "rounds") (rounds_data letters rounds)
  unfolding serde_json_on_literals document_data
  has_rounds = refl

  pub has_target : HasMember (document_data letters persistent entries named rounds chain) (codes "target") (names_data letters named)
  unfolding serde_json_on_literals document_data
  has_target = refl

pub entry_element : (letters : List ℕ) (x : Element) (xs : List Element) → HasMember (entry_data letters x xs) (codes "e") (string (name_of letters x))
unfolding serde_json_on_literals
entry_element letters x xs = refl

pub entry_needs : (letters : List ℕ) (x : Element) (xs : List Element) → HasMember (entry_data letters x xs) (codes "needs") (names_data letters xs)
unfolding serde_json_on_literals
entry_needs letters x xs = refl

-- entry by entry
same_entry : (letters : List ℕ) (g h : Pending) → AreLetters letters → IsListing g → length letters ≡ length g.persistent → (es : List Data) → AreWritten letters g es → AreEntries letters es h.waiting
    → (k : ℕ) (x y : Element) (d e : Named) → WaitsAt g k x d → WaitsAt h k y e → (x ≡ y) × ((z : Element) → Waits g z → Names d z ↔ Names e z)
same_entry letters g h are listing count es written entries k x y d e here there =
    let f = data_at es k (omega (arith, slice_get_within g.waiting k (x, d) here, written.count)) in
    let one = written.each k f.0 x d f.1 here in
    let two = entries.each k f.0 y e f.1 there in
    let element : HasMember f.0 (codes "e") (string (name_of letters x)) = subst (λ z. HasMember z (codes "e") (string (name_of letters x))) (sym one.2) (entry_element letters x one.0) in
    let needs : HasMember f.0 (codes "needs") (names_data letters one.0) = subst (λ z. HasMember z (codes "needs") (names_data letters one.0)) (sym one.2) (entry_needs letters x one.0) in
    let ys : List Element = two.needs.0 in
    let same : ys ≡ one.0 = same_names letters are ys one.0 two.needs.1 (list_names g letters d one.0 listing count one.1) (same_Some (names_data letters ys) (names_data letters one.0) (sym two.needs.3 ∙ needs)) in (
      same_name_of letters are f.0 x y (waiting_name g letters listing count x (k, d, here)) two.name element two.element,
      alike g d e one.0 ys listing (needs_listed g k x d listing here) one.1 two.needs.4 same,
    )

agrees_at : (letters : List ℕ) (g : Pending) (target : Named) (rounds : List (List Element)) (chain : List Element) → HasDocument letters g target rounds chain → (entries : List Data) → AreWritten letters g entries → (named : List Element) → IsListOf g target named
    → (letters' : List ℕ) (h : Pending) (target' : Named) (rounds' : List (List Element)) (chain' : List Element) → IsDocumentOf (document_data letters g.persistent entries named rounds chain) letters' h target' rounds' chain'
    → AgreesOnWaiting letters g target rounds chain letters' h target' rounds' chain'
agrees_at letters g target rounds chain has entries written named list letters' h target' rounds' chain' said' =
    let same : letters' ≡ letters = same_letters letters' letters (same_Some (letters_data letters') (letters_data letters) (sym said'.families ∙ has_families letters g.persistent entries named rounds chain)) in
    let said : IsDocumentOf (document_data letters g.persistent entries named rounds chain) letters h target' rounds' chain' = subst (λ ls. IsDocumentOf (document_data letters g.persistent entries named rounds chain) ls h target' rounds' chain') same said' in
    let listing = has.well_formed.elements in
    let es : entries ≡ said.elements.0 = arrays_same entries said.elements.0 (same_Some (array (items_of entries)) (array (items_of said.elements.0)) (sym (has_elements letters g.persistent entries named rounds chain) ∙ said.elements.1)) in
    let theirs : AreEntries letters entries h.waiting = subst (λ ds. AreEntries letters ds h.waiting) (sym es) said.elements.2 in
    let each = same_entry letters g h has.distinct listing has.count entries written theirs in
    let xs : List Element = said.named.0 in
    let target_same : xs ≡ named = same_names letters has.distinct xs named said.named.1 (list_names g letters target named listing has.count list) (same_Some (names_data letters xs) (names_data letters named) (sym said.named.3 ∙ has_target letters g.persistent entries named rounds chain)) in
    record {
      same_letters = sym same;
      persistent = same_numbers g.persistent h.persistent (same_Some (numbers_data g.persistent) (numbers_data h.persistent) (sym (has_persistent letters g.persistent entries named rounds chain) ∙ said.persistent));
      elements = lists_same (elements_in g.waiting) (elements_in h.waiting)
          (omega (arith, length-map g.waiting (λ (w : Element × Named). w.0), length-map h.waiting (λ (w : Element × Named). w.0), written.count, theirs.count))
          (λ k x y here there. let w = element_at g.waiting k x here in let v = element_at h.waiting k y there in (each k x y w.0 v.0 w.1 v.1).0);
      needs = λ k x d e here there. (each k x x d e here there).1;
      named = alike g target target' named xs listing has.listed list said.named.4 target_same;
      same_rounds = same_rounds letters has.distinct rounds rounds' (All-weaker (λ (zs : List Element). All (Waits g) zs) (λ (zs : List Element). All (IsName letters) zs) (λ zs all. All-weaker (Waits g) (IsName letters) (waiting_name g letters listing has.count) zs all) rounds has.well_formed.schedule) said.taken.0
          (same_Some (rounds_data letters rounds) (rounds_data letters rounds') (sym (has_rounds letters g.persistent entries named rounds chain) ∙ said.taken.1));
      same_chain = same_names letters has.distinct chain chain' (All-weaker (Waits g) (IsName letters) (waiting_name g letters listing has.count) chain has.well_formed.links) said.links.0
          (same_Some (names_data letters chain) (names_data letters chain') (sym (has_chain letters g.persistent entries named rounds chain) ∙ said.links.1));
    }

pub agrees : (text letters : List ℕ) (g : Pending) (target : Named) (rounds : List (List Element)) (chain : List Element) → HasDocument letters g target rounds chain → IsTextOf text letters g target rounds chain
    → (d : Data) → read text ≡ Some d → (letters' : List ℕ) (h : Pending) (target' : Named) (rounds' : List (List Element)) (chain' : List Element) → IsDocumentOf d letters' h target' rounds' chain'
    → AgreesOnWaiting letters g target rounds chain letters' h target' rounds' chain'
agrees text letters g target rounds chain has written d reads letters' h target' rounds' chain' said =
    let whole : Data = document_data letters g.persistent written.0 written.2 rounds chain in
    let is : whole ≡ d = same_Some whole d (sym written.5 ∙ reads) in
    agrees_at letters g target rounds chain has written.0 written.1 written.2 written.3 letters' h target' rounds' chain' (subst (λ e. IsDocumentOf e letters' h target' rounds' chain') (sym is) said)
