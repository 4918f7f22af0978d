-- Arrays that are read item by item.
use Rattle.std.proofs.Common.{add-one, drop, ◌≡◌, ◌∙◌, ℕ, zero, suc, ◌+◌, ◌≤◌, ◌⊎◌, List, [], ◌∷◌, ◌++◌, length, take, take_all, map, Some, None, Option, option_map, slice_get, refl, sym, ap, subst, inl, inr, ⊎_elim, arith, Bool, is_some, MatchOption, IsTrue, Result, Ok, Err, IfOk, Vec}
use Rattle.std.specs.Prelude.{All, Contains, ◌↔◌}
use Rattle.std.proofs.lemmas.Option.{slice_get-map, slice_get_within, slice_get-get_or, get_or_from_slice_get, same_Some}
use Rattle.std.proofs.lemmas.List.{take-append-drop}
use Rattle.std.proofs.lemmas.List.Elements.{All-push, All-head, All-tail, Contains-append_left, Contains-append_right, Contains-append_cases}
use Rattle.std.specs.Prelude.{decimal, slice_index, ⊤}
use Rattle.std.proofs.lemmas.Fmt.{decimal_injective}
use Rattle.serde_json.specs.Data.{Data, array, string, number, unsigned}
use Rattle.serde_json.specs.View.{view, items_of, items_view}
use Rattle.serde_json.specs.declared.value.Value.{Value}
use Rattle.cs_deps.specs.declared.elements.Element.{Element}
use Rattle.cs_deps.specs.declared.elements.Element.TheVariants.{Plain, Version}
use Rattle.cs_deps.specs.Named.{Named, Names}
use Rattle.cs_deps.specs.State.{IsListed}
use Rattle.std.specs.Global.{Global}
use Rattle.cs_check.specs.Progress.{elements_of}
use Rattle.cs_check.specs.Documents.{elements_in, NamesThese, names_data, rounds_data, letters_data, numbers_data}
use Rattle.cs_check.specs.Names.{AreLetters, IsName, name_of, plain_letter}
use Rattle.cs_check.specs.Faults.{Blames}
use Rattle.cs_check.specs.declared.faults.CheckFault.{CheckFault}
use Rattle.cs_check.specs.declared.faults.CheckFault.TheVariants.{OutOfMemory, BadDocument}
use Rattle.cs_check.proofs.Numerals.{same_family, letter_apart}

pub items_of_injective : (xs ys : List Data) → items_of xs ≡ items_of ys → xs ≡ ys
items_of_injective [] [] e = refl
items_of_injective [] (y ∷ ys) e = cc e
items_of_injective (x ∷ xs) [] e = cc e
items_of_injective (x ∷ xs) (y ∷ ys) e =
    let rest : items_of xs ≡ items_of ys = cc e in
    let first : x ≡ y = cc e in
    let same = items_of_injective xs ys rest in
    cc (first, same)

pub arrays_same : (xs ys : List Data) → array (items_of xs) ≡ array (items_of ys) → xs ≡ ys
arrays_same xs ys e = let items : items_of xs ≡ items_of ys = cc e in items_of_injective xs ys items

pub map_push : {A B : Type 0} (f : A → B) (xs : List A) (x : A) → map f (xs ++ x ∷ []) ≡ map f xs ++ f x ∷ []
map_push f [] x = refl
map_push f (y ∷ ys) x = ap (λ zs. f y ∷ zs) (map_push f ys x)

take_next : {A : Type 0} (xs : List A) (k : ℕ) (x : A) → slice_get xs k ≡ Some x → take (suc k) xs ≡ take k xs ++ x ∷ []
take_next [] k x at = cc at
take_next (y ∷ ys) zero x at = ap (λ z. z ∷ []) (same_Some y x at)
take_next (y ∷ ys) (suc k) x at = ap (λ zs. y ∷ zs) (take_next ys k x at)

-- one more item
pub converted_next : {X : Type 0} (s : X → Data) (vs : List Value) (k : ℕ) (v : Value) (xs : List X) (x : X) → slice_get vs k ≡ Some v → view v ≡ s x → map view (take k vs) ≡ map s xs → map view (take (k + 1) vs) ≡ map s (xs ++ x ∷ [])
converted_next {X} s vs k v xs x at is before =
    ap (λ n. map view (take n vs)) (add-one k) ∙ ap (map view) (take_next vs k v at) ∙ map_push view (take k vs) v ∙ ap (λ ds. ds ++ view v ∷ []) before ∙ ap (λ d. map s xs ++ d ∷ []) is ∙ sym (map_push s xs x)

pub converted_all : {X : Type 0} (s : X → Data) (vs : List Value) (k : ℕ) (xs : List X) (d : Data) → d ≡ array (items_view vs) → length vs ≤ k → map view (take k vs) ≡ map s xs → d ≡ array (items_of (map s xs))
converted_all s vs k xs d is le all = is ∙ ap (λ ds. array (items_of (map view ds))) (sym (take_all k vs le)) ∙ ap (λ ds. array (items_of ds)) all

-- an item that none can be makes an array that none can be
pub no_item : {X : Type 0} (s : X → Data) (P : X → Type 0) (vs : List Value) (k : ℕ) (v : Value) (d : Data) → d ≡ array (items_view vs) → slice_get vs k ≡ Some v → ((x : X) → P x → view v ≡ s x → ⊥) → (xs : List X) → All P xs → d ≡ array (items_of (map s xs)) → ⊥
no_item {X} s P vs k v d is at none xs all other =
    let same : map view vs ≡ map s xs = arrays_same (map view vs) (map s xs) (sym is ∙ other) in
    let here : slice_get (map s xs) k ≡ Some (view v) = ap (λ ds. slice_get ds k) (sym same) ∙ slice_get-map view vs k ∙ ap (option_map view) at in
    from (slice_get xs k) refl (sym (slice_get-map s xs k) ∙ here)
  where
    from : (o : Option X) → slice_get xs k ≡ o → option_map s o ≡ Some (view v) → ⊥
    from None e h = cc h
    from (Some x) e h = none x (subst P (get_or_from_slice_get xs k x x e) (all k x (slice_get_within xs k x e))) (sym (same_Some (s x) (view v) h))

-- ---- elements that are listed

pub listed_iff : (waiting : List (Element × Named)) (x : Element) → IsListed waiting x ↔ Contains (elements_in waiting) x
listed_iff waiting x = (
  (λ l.
      let at : slice_get (elements_in waiting) l.0 ≡ Some x = slice_get-map (λ w. w.0) waiting l.0 ∙ ap (option_map (λ (w : Element × Named). w.0)) l.2 in
      (l.0, slice_get_within (elements_in waiting) l.0 x at, get_or_from_slice_get (elements_in waiting) l.0 x x at)),
  (λ c.
      let at : slice_get (elements_in waiting) c.0 ≡ Some x = slice_get-get_or (elements_in waiting) c.0 x c.1 ∙ ap Some c.2 in
      from c.0 (slice_get waiting c.0) refl (sym (slice_get-map (λ w. w.0) waiting c.0) ∙ at)),
)
  where
    from : (k : ℕ) (o : Option (Element × Named)) → slice_get waiting k ≡ o → option_map (λ (w : Element × Named). w.0) o ≡ Some x → IsListed waiting x
    from k None e h = cc h
    from k (Some w) e h = (k, w.1, e ∙ ap (λ y. Some (y, w.1)) (same_Some w.0 x h))

pub found_in : (waiting : List (Element × Named)) (x : Element) (o : Option ℕ) (b : Bool) → b ≡ is_some o → MatchOption o (IsListed waiting x → ⊥) (λ k. (d : Named) × (slice_get waiting k ≡ Some (x, d))) → IsTrue b ↔ Contains (elements_in waiting) x
found_in waiting x None b e found = ((λ t. absurd (cc (t, e))), (λ c. absurd (found ((listed_iff waiting x).1 c))))
found_in waiting x (Some k) b e found = ((λ t. (listed_iff waiting x).0 (k, found.0, found.1)), (λ c. e))

-- a step of a loop that reads items
pub read_next : {X : Type 0} (s : X → Data) (P : X → Type 0) (vs : List Value) (k : ℕ) (v : Value) (xs ys : List X) (x : X) → slice_get vs k ≡ Some v → P x → view v ≡ s x → ys ≡ xs ++ x ∷ [] → All P xs → map view (take k vs) ≡ map s xs → All P ys × (map view (take (k + 1) vs) ≡ map s ys)
read_next {X} s P vs k v xs ys x at is same pushed all before = (
  subst (λ zs. All P zs) (sym pushed) (All-push P xs x all is),
  subst (λ zs. map view (take (k + 1) vs) ≡ map s zs) (sym pushed) (converted_next s vs k v xs x at same before),
)

-- ---- what names name

pub named_both : (d a b : Named) (xs front back : List Element) → xs ≡ front ++ back → NamesThese a front → NamesThese b back → ((y : Element) → Names d y ↔ (Names a y ⊎ Names b y)) → NamesThese d xs
named_both d a b xs front back is first second both y = (
  (λ n. ⊎_elim
      (λ (h : Names a y). let c = (first y).0 h in (c.0, subst (λ zs. Contains zs c.0) (sym is) (Contains-append_left front back c.0 c.1), c.2))
      (λ (h : Names b y). let c = (second y).0 h in (c.0, subst (λ zs. Contains zs c.0) (sym is) (Contains-append_right front back c.0 c.1), c.2))
      ((both y).0 n)),
  (λ c. ⊎_elim
      (λ (h : Contains front c.0). (both y).1 (inl ((first y).1 (c.0, h, c.2))))
      (λ (h : Contains back c.0). (both y).1 (inr ((second y).1 (c.0, h, c.2))))
      (Contains-append_cases front back c.0 (subst (λ zs. Contains zs c.0) is c.1))),
)

pub both_named : {E : Type 0} (a b : Named) (xs front back : List Element) (r : Result Named E) → xs ≡ front ++ back → NamesThese a front → NamesThese b back → IfOk r (λ d. (y : Element) → Names d y ↔ (Names a y ⊎ Names b y)) → IfOk r (λ d. NamesThese d xs)
both_named a b xs front back (Ok d) is first second both = named_both d a b xs front back is first second both
both_named a b xs front back (Err e) is first second both = tt

pub elements_push : (rounds : List (Vec Element Global)) (round : Vec Element Global) → elements_of (rounds ++ round ∷ []) ≡ elements_of rounds ++ round.items ∷ []
elements_push rounds round = map_push (λ (r : Vec Element Global). r.items) rounds round

pub halves : {A : Type 0} (xs : List A) (k : ℕ) (front back : List A) → front ≡ take k xs → back ≡ drop k xs → xs ≡ front ++ back
halves xs k front back f b = sym (take-append-drop k xs) ∙ sym (ap (λ ys. ys ++ drop k xs) f) ∙ sym (ap (λ ys. front ++ ys) b)

-- the item that stands at a place
pub item_at : {X : Type 0} (s : X → Data) (P : X → Type 0) (vs : List Value) (k : ℕ) (v : Value) (d : Data) → d ≡ array (items_view vs) → slice_get vs k ≡ Some v → (xs : List X) → All P xs → d ≡ array (items_of (map s xs)) → (x : X) × P x × (view v ≡ s x)
item_at {X} s P vs k v d is at xs all other =
    let same : map view vs ≡ map s xs = arrays_same (map view vs) (map s xs) (sym is ∙ other) in
    let here : slice_get (map s xs) k ≡ Some (view v) = ap (λ ds. slice_get ds k) (sym same) ∙ slice_get-map view vs k ∙ ap (option_map view) at in
    from (slice_get xs k) refl (sym (slice_get-map s xs k) ∙ here)
  where
    from : (o : Option X) → slice_get xs k ≡ o → option_map s o ≡ Some (view v) → (x : X) × P x × (view v ≡ s x)
    from None e h = cc h
    from (Some x) e h = (x, subst P (get_or_from_slice_get xs k x x e) (all k x (slice_get_within xs k x e)), sym (same_Some (s x) (view v) h))

pub blame_for : (fault : CheckFault) (P Q : Type 0) → (Q → P) → Blames fault P → Blames fault Q
blame_for fault P Q weaker blame =
    ⊎_elim
    (λ (m : fault ≡ OutOfMemory). inl m)
    (λ (b : (fault ≡ BadDocument) × (P → ⊥)). inr (b.0, λ q. b.1 (weaker q)))
    blame

-- different items make different arrays
pub same_items : {X : Type 0} (s : X → Data) (P : X → Type 0) → ((x y : X) → P x → P y → s x ≡ s y → x ≡ y) → (xs ys : List X) → All P xs → All P ys → map s xs ≡ map s ys → xs ≡ ys
same_items s P apart [] [] all more e = refl
same_items s P apart [] (y ∷ ys) all more e = cc e
same_items s P apart (x ∷ xs) [] all more e = cc e
same_items s P apart (x ∷ xs) (y ∷ ys) all more e =
    let head : s x ≡ s y = cc e in
    let rest : map s xs ≡ map s ys = cc e in
    let first = apart x y (All-head P x xs all) (All-head P y ys more) head in
    let same = same_items s P apart xs ys (All-tail P x xs all) (All-tail P y ys more) rest in
    cc (first, same)

pub same_name : (letters : List ℕ) → AreLetters letters → (x y : Element) → IsName letters x → IsName letters y → name_of letters x ≡ name_of letters y → x ≡ y
same_name letters are (Plain m) (Plain n) a b e =
    let rest : decimal m ≡ decimal n = cc e in
    ap Plain (decimal_injective m n (omega (arith, a.1)) (omega (arith, b.1)) rest)
same_name letters are (Version f v) (Version g w) a b e =
    let head : slice_index letters f ≡ slice_index letters g = cc e in
    let rest : decimal v ≡ decimal w = cc e in
    let family : f ≡ g = same_family letters are f g a.0 b.0 head in
    let number : v ≡ w = decimal_injective v w (omega (arith, a.1.1)) (omega (arith, b.1.1)) rest in
    cc (family, number)
same_name letters are (Plain m) (Version g w) a b e =
    let head : slice_index letters g ≡ plain_letter = cc e in
    absurd (letter_apart letters are g b.0 head)
same_name letters are (Version f v) (Plain n) a b e =
    let head : slice_index letters f ≡ plain_letter = cc e in
    absurd (letter_apart letters are f a.0 head)

pub same_text : (letters : List ℕ) → AreLetters letters → (x y : Element) → IsName letters x → IsName letters y → string (name_of letters x) ≡ string (name_of letters y) → x ≡ y
same_text letters are x y a b e = let text : name_of letters x ≡ name_of letters y = cc e in same_name letters are x y a b text

-- an array of names is of one list of elements
pub same_names : (letters : List ℕ) → AreLetters letters → (xs ys : List Element) → All (IsName letters) xs → All (IsName letters) ys → names_data letters xs ≡ names_data letters ys → xs ≡ ys
same_names letters are xs ys all more e =
    same_items (λ x. string (name_of letters x)) (IsName letters) (same_text letters are) xs ys all more
    (arrays_same (map (λ x. string (name_of letters x)) xs) (map (λ x. string (name_of letters x)) ys) e)

pub same_rounds : (letters : List ℕ) → AreLetters letters → (xs ys : List (List Element)) → All (All (IsName letters)) xs → All (All (IsName letters)) ys → rounds_data letters xs ≡ rounds_data letters ys → xs ≡ ys
same_rounds letters are xs ys all more e =
    same_items (names_data letters) (λ (zs : List Element). All (IsName letters) zs) (same_names letters are) xs ys all more
    (arrays_same (map (names_data letters) xs) (map (names_data letters) ys) e)

same_letter : (a b : ℕ) → ⊤ → ⊤ → string (a ∷ []) ≡ string (b ∷ []) → a ≡ b
same_letter a b s t e = cc e

pub same_letters : (xs ys : List ℕ) → letters_data xs ≡ letters_data ys → xs ≡ ys
same_letters xs ys e = same_items (λ c. string (c ∷ [])) (λ _. ⊤) same_letter xs ys (λ k d lt. tt) (λ k d lt. tt) (arrays_same (map (λ c. string (c ∷ [])) xs) (map (λ c. string (c ∷ [])) ys) e)

same_number : (a b : ℕ) → ⊤ → ⊤ → number (unsigned a) ≡ number (unsigned b) → a ≡ b
same_number a b s t e = cc e

pub same_numbers : (xs ys : List ℕ) → numbers_data xs ≡ numbers_data ys → xs ≡ ys
same_numbers xs ys e = same_items (λ v. number (unsigned v)) (λ _. ⊤) same_number xs ys (λ k d lt. tt) (λ k d lt. tt) (arrays_same (map (λ v. number (unsigned v)) xs) (map (λ v. number (unsigned v)) ys) e)

pub take_next_one : {A : Type 0} (xs : List A) (k : ℕ) (x : A) → slice_get xs k ≡ Some x → take (k + 1) xs ≡ take k xs ++ x ∷ []
take_next_one xs k x at = ap (λ n. take n xs) (add-one k) ∙ take_next xs k x at
