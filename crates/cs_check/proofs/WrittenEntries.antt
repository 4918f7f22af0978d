-- Entries that are written one after another, and the text of a document.
use Rattle.std.proofs.Common.{◌≡◌, ◌∙◌, ℕ, suc, ◌+◌, ◌<◌, ◌≤◌, List, [], ◌∷◌, ◌++◌, length, map, Some, None, Option, option_map, slice_get, refl, sym, ap, subst, ⊎_elim, arith, false, length-append, Result, Ok, Err, IfOk, String, string_bytes}
use Rattle.std.proofs.lemmas.Option.{slice_get-map, slice_get_within, same_Some}
use Rattle.std.proofs.lemmas.List.{length-map}
use Rattle.std.proofs.lemmas.Bool.{or_from}
use Rattle.std.specs.Global.{Global}
use Rattle.std.specs.Prelude.{codes}
use Rattle.serde_json.specs.Data.{Data, Members, string, number, unsigned, object, no_members, put, depth, items_depth}
use Rattle.serde_json.proofs.OnLiterals.{serde_json_on_literals}
use Rattle.serde_json.specs.Read.{read, max_depth}
use Rattle.serde_json.specs.View.{view, items_of}
use Rattle.serde_json.specs.Written.{compact_text, has_float, items_have_float}
use Rattle.serde_json.specs.declared.value.Value.{Value}
use Rattle.cs_deps.specs.declared.elements.Element.{Element}
use Rattle.cs_deps.specs.Named.{Named}
use Rattle.cs_deps.specs.Pending.{Pending, WaitsAt}
use Rattle.cs_deps.proofs.Within.{same_at}
use Rattle.cs_check.specs.Names.{name_of}
use Rattle.cs_check.specs.Documents.{names_data}
use Rattle.cs_check.specs.Written.{IsListOf, AreWritten, IsTextOf, entry_data, object_data, document_data}
use Rattle.cs_check.proofs.Entries.{push_cases, entry_at}

-- the entries of the first k elements
pub record WrittenTill (letters : List ℕ) (g : Pending) (k : ℕ) (vs : List Value) : Type 0 where
  pub count : length vs ≡ k
  pub each : (j : ℕ) (v : Value) (x : Element) (d : Named) → slice_get vs j ≡ Some v → WaitsAt g j x d → (xs : List Element) × IsListOf g d xs × (view v ≡ entry_data letters x xs)

pub written_none : (letters : List ℕ) (g : Pending) (vs : List Value) → vs ≡ [] → WrittenTill letters g 0 vs
written_none letters g vs none = record {
  count = ap length none;
  each = λ j v x d at here. let empty : slice_get [] j ≡ Some v = ap (λ ws. slice_get ws j) (sym none) ∙ at in cc empty;
}

pub entry_written : (letters : List ℕ) (g : Pending) (k : ℕ) (vs new : List Value) (v : Value) (x : Element) (d : Named) (xs : List Element) → WaitsAt g k x d → IsListOf g d xs → view v ≡ entry_data letters x xs → new ≡ vs ++ v ∷ [] → WrittenTill letters g k vs → WrittenTill letters g (k + 1) new
entry_written letters g k vs new v x d xs here list is pushed till = record {
  count = omega (arith, ap length pushed, length-append vs (v ∷ []), till.count);
  each = λ j w y e at there. ⊎_elim
      (λ (l : (j < length vs) × (slice_get vs j ≡ Some w)). till.each j w y e l.1 there)
      (λ (r : (j ≡ length vs) × (v ≡ w)).
      let place : j ≡ k = r.0 ∙ till.count in
      let same = same_at g.waiting k x y d e here (subst (λ n. WaitsAt g n y e) place there) in
      (xs, subst (λ n. IsListOf g n xs) same.1 list, ap view (sym r.1) ∙ is ∙ ap (λ z. entry_data letters z xs) same.0))
      (push_cases vs v w j (ap (λ ws. slice_get ws j) (sym pushed) ∙ at));
}

pub entries_written : (letters : List ℕ) (g : Pending) (k : ℕ) (vs : List Value) → k ≡ length g.waiting → WrittenTill letters g k vs → AreWritten letters g (map view vs)
entries_written letters g k vs end till = record {
  count = length-map vs view ∙ till.count ∙ end;
  each = λ j e x d at there. from j e x d there (slice_get vs j) refl (sym (slice_get-map view vs j) ∙ at);
}
  where
    from : (j : ℕ) (e : Data) (x : Element) (d : Named) → WaitsAt g j x d → (o : Option Value) → slice_get vs j ≡ o → option_map view o ≡ Some e → (xs : List Element) × IsListOf g d xs × (e ≡ entry_data letters x xs)
    from j e x d there None at h = cc h
    from j e x d there (Some v) at h = let w = till.each j v x d at there in (w.0, w.1, sym (same_Some (view v) e h) ∙ w.2)

-- ---- no value of a document has a float

no_floats : {X : Type 0} (s : X → Data) → ((x : X) → has_float (s x) ≡ false) → (xs : List X) → items_have_float (items_of (map s xs)) ≡ false
no_floats s each [] = refl
no_floats s each (x ∷ xs) = or_from (has_float (s x)) (items_have_float (items_of (map s xs))) (each x) (no_floats s each xs)

names_no_float : (letters : List ℕ) (xs : List Element) → has_float (names_data letters xs) ≡ false
names_no_float letters xs = no_floats (λ x. string (name_of letters x)) (λ x. refl) xs

entries_no_float : (letters : List ℕ) (es : List Data) → ((k : ℕ) (e : Data) → slice_get es k ≡ Some e → (x : Element) × (xs : List Element) × (e ≡ entry_data letters x xs)) → items_have_float (items_of es) ≡ false
entries_no_float letters [] each = refl
entries_no_float letters (e ∷ es) each =
    let first = each 0 e refl in
    or_from (has_float e) (items_have_float (items_of es))
    (ap has_float first.2 ∙ or_from (has_float (names_data letters first.1)) false (names_no_float letters first.1) refl)
    (entries_no_float letters es (λ k d at. each (suc k) d at))

pub no_float : (letters : List ℕ) (g : Pending) (entries : List Data) (named : List Element) (rounds : List (List Element)) (chain : List Element) → AreWritten letters g entries → has_float (document_data letters g.persistent entries named rounds chain) ≡ false
unfolding document_data
no_float letters g entries named rounds chain are =
    or_from _ _ (names_no_float letters chain) (or_from _ _ elements (or_from _ _ (no_floats (λ c. string (c ∷ [])) (λ c. refl) letters) (or_from _ _ refl (or_from _ _ (no_floats (λ v. number (unsigned v)) (λ v. refl) g.persistent) (or_from _ _ (no_floats (names_data letters) (names_no_float letters) rounds) (or_from _ _ (names_no_float letters named) refl))))))
  where
    elements : items_have_float (items_of entries) ≡ false
    elements = entries_no_float letters entries (λ k e at.
        let w = entry_at g.waiting k (omega (arith, slice_get_within entries k e at, are.count)) in
        let is = are.each k e w.0 w.1 at w.2 in
        (w.0, is.0, is.2))

-- ---- no document nests deep

flat : {X : Type 0} (n : ℕ) (s : X → Data) → ((x : X) → depth (s x) ≤ n) → (xs : List X) → items_depth (items_of (map s xs)) ≤ n
flat n s each [] = omega arith
flat n s each (x ∷ xs) = let a = each x in let b = flat n s each xs in omega (arith, a, b)

names_flat : (letters : List ℕ) (xs : List Element) → depth (names_data letters xs) ≤ 1
names_flat letters xs = let a = flat 0 (λ x. string (name_of letters x)) (λ x. omega arith) xs in omega (arith, a)

entry_flat : (letters : List ℕ) (x : Element) (xs : List Element) → depth (entry_data letters x xs) ≤ 2
entry_flat letters x xs = let a = names_flat letters xs in omega (arith, a)

entries_flat : (letters : List ℕ) (es : List Data) → ((k : ℕ) (e : Data) → slice_get es k ≡ Some e → (x : Element) × (xs : List Element) × (e ≡ entry_data letters x xs)) → items_depth (items_of es) ≤ 2
entries_flat letters [] each = omega arith
entries_flat letters (e ∷ es) each =
    let first = each 0 e refl in
    let a : depth e ≤ 2 = subst (λ d. depth d ≤ 2) (sym first.2) (entry_flat letters first.0 first.1) in
    let b = entries_flat letters es (λ k d at. each (suc k) d at) in
    omega (arith, a, b)

pub is_flat : (letters : List ℕ) (g : Pending) (entries : List Data) (named : List Element) (rounds : List (List Element)) (chain : List Element) → AreWritten letters g entries → depth (document_data letters g.persistent entries named rounds chain) ≤ max_depth
unfolding document_data
is_flat letters g entries named rounds chain are =
    let a = names_flat letters chain in
    let b = entries_flat letters entries (λ k e at.
    let w = entry_at g.waiting k (omega (arith, slice_get_within entries k e at, are.count)) in
    let is = are.each k e w.0 w.1 at w.2 in
    (w.0, is.0, is.2)) in
    let c = flat 0 (λ (l : ℕ). string (l ∷ [])) (λ l. omega arith) letters in
    let d = flat 0 (λ (v : ℕ). number (unsigned v)) (λ v. omega arith) g.persistent in
    let e = flat 1 (names_data letters) (names_flat letters) rounds in
    let f = names_flat letters named in
    omega (arith, a, b, c, d, e, f)

-- the text of a value that says a document
pub text_of_document : {E : Type 0} (letters : List ℕ) (g : Pending) (target : Named) (rounds : List (List Element)) (chain : List Element) (entries : List Data) (named : List Element) (v : Data) (r : Result (String Global) E) → AreWritten letters g entries → IsListOf g target named → v ≡ document_data letters g.persistent entries named rounds chain
    → IfOk r (λ s. has_float v ≡ false → string_bytes s ≡ compact_text v) → IfOk r (λ s. depth v ≤ max_depth → read (string_bytes s) ≡ Some v) → IfOk r (λ s. IsTextOf (string_bytes s) letters g target rounds chain)
text_of_document letters g target rounds chain entries named v (Ok s) are list is text back = (
  entries,
  are,
  named,
  list,
  text (ap has_float is ∙ no_float letters g entries named rounds chain are) ∙ ap compact_text is,
  back (subst (λ d. depth d ≤ max_depth) (sym is) (is_flat letters g entries named rounds chain are)) ∙ ap Some is,
)
text_of_document letters g target rounds chain entries named v (Err e) are list is text back = tt

-- ---- members that are put one after another

members_in_order : (a b c d e f : Data) → object (put (codes "target") f (put (codes "rounds") e (put (codes "persistent") d (put (codes "format") (number (unsigned 1)) (put (codes "families") c (put (codes "elements") b (put (codes "chain") a no_members))))))) ≡ object_data a b c d e f
unfolding serde_json_on_literals
members_in_order a b c d e f = refl

pub two_put : (k l : List ℕ) (m n o : Members) (a a' b b' : Data) → n ≡ put k a' m → a' ≡ a → o ≡ put l b' n → b' ≡ b → o ≡ put l b (put k a m)
two_put k l m n o a a' b b' first is second too = second ∙ ap (put l b') first ∙ ap (λ d. put l d (put k a' m)) too ∙ ap (λ d. put l b (put k d m)) is

pub members_written : (v : Data) (m n o p : Members) (a b c d e f : Data) → v ≡ object p → m ≡ no_members → n ≡ put (codes "elements") b (put (codes "chain") a m) → o ≡ put (codes "persistent") d (put (codes "format") (number (unsigned 1)) (put (codes "families") c n)) → p ≡ put (codes "target") f (put (codes "rounds") e o) → v ≡ object_data a b c d e f
members_written v m n o p a b c d e f is none first second third =
    is ∙ ap object third
    ∙ ap (λ ms. object (put (codes "target") f (put (codes "rounds") e ms))) second
    ∙ ap (λ ms. object (put (codes "target") f (put (codes "rounds") e (put (codes "persistent") d (put (codes "format") (number (unsigned 1)) (put (codes "families") c ms)))))) first
    ∙ ap (λ ms. object (put (codes "target") f (put (codes "rounds") e (put (codes "persistent") d (put (codes "format") (number (unsigned 1)) (put (codes "families") c (put (codes "elements") b (put (codes "chain") a ms)))))))) none
    ∙ members_in_order a b c d e f
