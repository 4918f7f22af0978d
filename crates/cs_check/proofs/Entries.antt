-- Entries that are read one after another.
use Rattle.std.proofs.Common.{◌≡◌, ◌∙◌, ℕ, zero, suc, ◌+◌, ◌<◌, ◌≤◌, ◌⊎◌, List, [], ◌∷◌, ◌++◌, length, take, take_all, map, Some, None, Option, option_map, slice_get, refl, sym, ap, subst, inl, inr, ⊎_elim, arith, length-append}
use Rattle.std.specs.Prelude.{codes}
use Rattle.std.proofs.lemmas.Option.{slice_get-map, slice_get_within, same_Some}
use Rattle.std.proofs.lemmas.List.{take-append-le, length-map}
use Rattle.serde_json.specs.Data.{Data, array, string}
use Rattle.serde_json.specs.View.{view, items_of, items_view}
use Rattle.serde_json.specs.declared.value.Value.{Value}
use Rattle.cs_deps.specs.declared.elements.Element.{Element}
use Rattle.cs_deps.specs.Named.{Named}
use Rattle.cs_check.specs.Documents.{elements_in, HasMember, IsEntry, AreEntries}
use Rattle.cs_check.specs.Names.{AreLetters, IsName, name_of}
use Rattle.cs_check.proofs.ValueSteps.{arrays_same, same_text, map_push, take_next_one}

pub push_cases : {A : Type 0} (xs : List A) (x y : A) (k : ℕ) → slice_get (xs ++ x ∷ []) k ≡ Some y → ((k < length xs) × (slice_get xs k ≡ Some y)) ⊎ ((k ≡ length xs) × (x ≡ y))
push_cases [] x y zero e = inr (refl, same_Some x y e)
push_cases [] x y (suc k) e = cc e
push_cases (z ∷ zs) x y zero e = inl (omega arith, e)
push_cases (z ∷ zs) x y (suc k) e =
    ⊎_elim
    (λ (l : (k < length zs) × (slice_get zs k ≡ Some y)). inl (omega (arith, l.0), l.1))
    (λ (r : (k ≡ length zs) × (x ≡ y)). inr (omega (arith, r.0), r.1))
    (push_cases zs x y k e)

elements_push : (ws : List (Element × Named)) (w : Element × Named) → elements_in (ws ++ w ∷ []) ≡ elements_in ws ++ w.0 ∷ []
elements_push ws w = map_push (λ (v : Element × Named). v.0) ws w

take_push : (ws : List (Element × Named)) (w : Element × Named) (k : ℕ) → k ≤ length ws → take k (elements_in (ws ++ w ∷ [])) ≡ take k (elements_in ws)
take_push ws w k le = ap (take k) (elements_push ws w) ∙ take-append-le k (elements_in ws) (w.0 ∷ []) (omega (arith, le, length-map ws (λ (v : Element × Named). v.0)))

pub entries_push : (letters : List ℕ) (ds : List Data) (ws : List (Element × Named)) (d : Data) (w : Element × Named) → AreEntries letters ds ws → IsEntry letters (elements_in ws) d w.0 w.1 → AreEntries letters (ds ++ d ∷ []) (ws ++ w ∷ [])
entries_push letters ds ws d w are new = record {
  count = omega (arith, length-append ds (d ∷ []), length-append ws (w ∷ []), are.count);
  each = λ k e y m first second. ⊎_elim
      (λ (l : (k < length ws) × (slice_get ws k ≡ Some (y, m))). ⊎_elim
      (λ (h : (k < length ds) × (slice_get ds k ≡ Some e)). subst (λ before. IsEntry letters before e y m) (sym (take_push ws w k (omega (arith, l.0)))) (are.each k e y m h.1 l.1))
      (λ (h : (k ≡ length ds) × (d ≡ e)). absurd (omega (arith, h.0, l.0, are.count)))
      (push_cases ds d e k first))
      (λ (r : (k ≡ length ws) × (w ≡ (y, m))). ⊎_elim
      (λ (h : (k < length ds) × (slice_get ds k ≡ Some e)). absurd (omega (arith, h.0, r.0, are.count)))
      (λ (h : (k ≡ length ds) × (d ≡ e)). last k e y m r.0 r.1 h.1)
      (push_cases ds d e k first))
      (push_cases ws w (y, m) k second);
}
  where
    last : (k : ℕ) (e : Data) (y : Element) (m : Named) → k ≡ length ws → w ≡ (y, m) → d ≡ e → IsEntry letters (take k (elements_in (ws ++ w ∷ []))) e y m
    last k e y m end same here =
        let all : take k (elements_in ws) ≡ elements_in ws = take_all k (elements_in ws) (omega (arith, end, length-map ws (λ (v : Element × Named). v.0))) in
        let before : take k (elements_in (ws ++ w ∷ [])) ≡ elements_in ws = take_push ws w k (omega (arith, end)) ∙ all in
        subst (λ b. IsEntry letters b e y m) (sym before) (subst (λ z. IsEntry letters (elements_in ws) z y m) here (subst (λ (v : Element × Named). IsEntry letters (elements_in ws) d v.0 v.1) same new))

pub entries_next : (letters : List ℕ) (vs : List Value) (k : ℕ) (v : Value) (ws new : List (Element × Named)) (w : Element × Named) → slice_get vs k ≡ Some v → AreEntries letters (map view (take k vs)) ws → IsEntry letters (elements_in ws) (view v) w.0 w.1 → new ≡ ws ++ w ∷ [] → AreEntries letters (map view (take (k + 1) vs)) new
entries_next letters vs k v ws new w at are entry pushed =
    let more : map view (take (k + 1) vs) ≡ map view (take k vs) ++ view v ∷ [] = ap (map view) (take_next_one vs k v at) ∙ map_push view (take k vs) v in
    subst (λ (zs : List (Element × Named)). AreEntries letters (map view (take (k + 1) vs)) zs) (sym pushed)
    (subst (λ (ds : List Data). AreEntries letters ds (ws ++ w ∷ [])) (sym more) (entries_push letters (map view (take k vs)) ws (view v) w are entry))

pub entries_all : (letters : List ℕ) (vs : List Value) (k : ℕ) (ws : List (Element × Named)) → length vs ≤ k → AreEntries letters (map view (take k vs)) ws → AreEntries letters (map view vs) ws
entries_all letters vs k ws le are = subst (λ (zs : List Value). AreEntries letters (map view zs) ws) (take_all k vs le) are

-- ---- entries tell their elements

pub lists_same : {A : Type 0} (xs ys : List A) → length xs ≡ length ys → ((k : ℕ) (x y : A) → slice_get xs k ≡ Some x → slice_get ys k ≡ Some y → x ≡ y) → xs ≡ ys
lists_same [] [] e each = refl
lists_same [] (y ∷ ys) e each = absurd (omega (arith, e))
lists_same (x ∷ xs) [] e each = absurd (omega (arith, e))
lists_same (x ∷ xs) (y ∷ ys) e each =
    let first = each 0 x y refl refl in
    let rest = lists_same xs ys (omega (arith, e)) (λ k a b. each (suc k) a b) in
    cc (first, rest)

take_at : {A : Type 0} (xs : List A) (i k : ℕ) (x : A) → slice_get (take i xs) k ≡ Some x → (k < i) × (slice_get xs k ≡ Some x)
take_at xs zero k x e = cc e
take_at [] (suc i) k x e = cc e
take_at (y ∷ ys) (suc i) zero x e = (omega arith, e)
take_at (y ∷ ys) (suc i) (suc k) x e = let r = take_at ys i k x e in (omega (arith, r.0), r.1)

pub element_at : (ws : List (Element × Named)) (k : ℕ) (x : Element) → slice_get (elements_in ws) k ≡ Some x → (n : Named) × (slice_get ws k ≡ Some (x, n))
element_at ws k x at = from (slice_get ws k) refl (sym (slice_get-map (λ (w : Element × Named). w.0) ws k) ∙ at)
  where
    from : (o : Option (Element × Named)) → slice_get ws k ≡ o → option_map (λ (w : Element × Named). w.0) o ≡ Some x → (n : Named) × (slice_get ws k ≡ Some (x, n))
    from None e h = cc h
    from (Some w) e h = (w.1, e ∙ ap (λ y. Some (y, w.1)) (same_Some w.0 x h))

pub data_at : (ds : List Data) (k : ℕ) → k < length ds → (d : Data) × (slice_get ds k ≡ Some d)
data_at [] k lt = absurd (omega (arith, lt))
data_at (d ∷ ds) zero lt = (d, refl)
data_at (d ∷ ds) (suc k) lt = data_at ds k (omega (arith, lt))

pub entry_at : (ws : List (Element × Named)) (k : ℕ) → k < length ws → (x : Element) × (n : Named) × (slice_get ws k ≡ Some (x, n))
entry_at [] k lt = absurd (omega (arith, lt))
entry_at (w ∷ ws) zero lt = (w.0, w.1, refl)
entry_at (w ∷ ws) (suc k) lt = entry_at ws k (omega (arith, lt))

length_take : {A : Type 0} (xs : List A) (i : ℕ) → i ≤ length xs → length (take i xs) ≡ i
length_take xs zero le = refl
length_take [] (suc i) le = absurd (omega (arith, le))
length_take (x ∷ xs) (suc i) le = let r = length_take xs i (omega (arith, le)) in omega (arith, r)

-- the first entries tell the first elements
pub same_elements : (letters : List ℕ) → AreLetters letters → (ds es : List Data) (ws vs : List (Element × Named)) (i : ℕ) → i ≤ length es → ds ≡ take i es → AreEntries letters ds ws → AreEntries letters es vs → take i (elements_in vs) ≡ elements_in ws
same_elements letters are ds es ws vs i le front first second =
    lists_same (take i (elements_in vs)) (elements_in ws)
    (omega (arith, length_take (elements_in vs) i (omega (arith, le, second.count, length-map vs (λ (w : Element × Named). w.0))), length-map ws (λ (w : Element × Named). w.0), first.count, ap length front, length_take es i le))
    (λ k x y here there.
    let at = take_at (elements_in vs) i k x here in
    let v = element_at vs k x at.1 in
    let w = element_at ws k y there in
    let d = data_at ds k (omega (arith, slice_get_within ws k (y, w.0) w.1, first.count)) in
    let e = take_at es i k d.0 (ap (λ zs. slice_get zs k) (sym front) ∙ d.1) in
    let one = second.each k d.0 x v.0 e.1 v.1 in
    let two = first.each k d.0 y w.0 d.1 w.1 in
    same_text letters are x y one.name two.name (same_Some _ _ (sym one.element ∙ two.element)))

-- what entry i of another list of entries is, after the same first entries
pub other_entry : (letters : List ℕ) → AreLetters letters → (vs : List Value) (i : ℕ) (v : Value) (ws : List (Element × Named)) (d : Data) → d ≡ array (items_view vs) → slice_get vs i ≡ Some v → AreEntries letters (map view (take i vs)) ws
    → (es : List Data) × (us : List (Element × Named)) × (d ≡ array (items_of es)) × AreEntries letters es us → (x : Element) × (n : Named) × IsEntry letters (elements_in ws) (view v) x n
other_entry letters are vs i v ws d is at first p =
    let all : map view vs ≡ p.0 = arrays_same (map view vs) p.0 (sym is ∙ p.2) in
    let within : i < length vs = slice_get_within vs i v at in
    let count : length p.0 ≡ length vs = ap length (sym all) ∙ length-map vs view in
    let here : slice_get p.0 i ≡ Some (view v) = ap (λ zs. slice_get zs i) (sym all) ∙ slice_get-map view vs i ∙ ap (option_map view) at in
    let entry = entry_at p.1 i (omega (arith, within, count, p.3.count)) in
    let front : map view (take i vs) ≡ take i p.0 = map_take view vs i ∙ ap (take i) all in
    let same = same_elements letters are (map view (take i vs)) p.0 ws p.1 i (omega (arith, within, count)) front first p.3 in
    (entry.0, entry.1, subst (λ before. IsEntry letters before (view v) entry.0 entry.1) same (p.3.each i (view v) entry.0 entry.1 here entry.2))
  where
    map_take : {A B : Type 0} (f : A → B) (xs : List A) (i : ℕ) → map f (take i xs) ≡ take i (map f xs)
    map_take f xs zero = refl
    map_take f [] (suc i) = refl
    map_take f (x ∷ xs) (suc i) = ap (λ zs. f x ∷ zs) (map_take f xs i)

pub same_name_of : (letters : List ℕ) → AreLetters letters → (d : Data) (x y : Element) → IsName letters x → IsName letters y → HasMember d (codes "e") (string (name_of letters x)) → HasMember d (codes "e") (string (name_of letters y)) → x ≡ y
same_name_of letters are d x y a b first second = same_text letters are x y a b (same_Some _ _ (sym first ∙ second))
