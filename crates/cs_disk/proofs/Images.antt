-- Images, and the page writes that are applied to them.
use Rattle.std.proofs.Common.{◌≡◌, ◌≢◌, ◌⊎◌, inl, inr, if◌then◌else◌, ◌==◌, All, map, ℕ, zero, suc, ◌+◌, ◌<◌, Bool, true, false, List, [], ◌∷◌, ◌++◌, length, get_or, set, take, drop, refl, sym, ◌∙◌, ap, subst, arith, add-one, append_assoc, take-append-drop, ◌*◌}
use Rattle.std.proofs.lemmas.List.{length-set, get_or-set_same, get_or-set_other, append-nil, take_more, drop-drop, nil_from_length, ext_get_or}
use Rattle.std.proofs.lemmas.Bool.{cases_eq}
use Rattle.std.proofs.lemmas.Bool.Decides.{nat_tests}
use Rattle.std.specs.List.{flat_map}
use Rattle.std.specs.Simd.{first_chunks}
use Rattle.cs_disk.specs.Disk.{Image, Write, page, applied, latest, kept}

-- writes applied in two parts
pub applied-append : (image : Image) (first more : List Write) → applied image (first ++ more) ≡ applied (applied image first) more
applied-append image [] more = refl
applied-append image (w ∷ first) more = applied-append (set image w.0 w.1) first more

-- one write more
pub applied_push : (image : Image) (writes : List Write) (w : Write) → applied image (writes ++ w ∷ []) ≡ set (applied image writes) w.0 w.1
applied_push image writes w = applied-append image writes (w ∷ [])

-- no write changes how many pages there are
pub length-applied : (image : Image) (writes : List Write) → length (applied image writes) ≡ length image
length-applied image [] = refl
length-applied image (w ∷ writes) = length-applied (set image w.0 w.1) writes ∙ length-set image w.0 w.1

-- one write more of a list that is applied in a loop
pub applied_more : (image : Image) (writes : List Write) (i : ℕ) (d : Write) → i < length writes → applied image (take (i + 1) writes) ≡ set (applied image (take i writes)) (get_or writes i d).0 (get_or writes i d).1
applied_more image writes i d lt = ap (applied image) (take_more writes i d lt) ∙ applied_push image (take i writes) (get_or writes i d)

-- the pages after a write
pub page_same : (image : Image) (p : ℕ) (bytes : List ℕ) → p < length image → page (set image p bytes) p ≡ bytes
page_same image p bytes lt = get_or-set_same image p bytes [] lt

-- the two cases of `latest`
if_same : (p : ℕ) (x y : List ℕ) → (if p == p then x else y) ≡ x
if_same p x y = grind (arith, nat_tests)

if_other : (q p : ℕ) (x y : List ℕ) → q ≢ p → (if q == p then x else y) ≡ y
if_other q p x y other = grind (arith, nat_tests)

pub page_other : (image : Image) (p q : ℕ) (bytes : List ℕ) → q ≢ p → page (set image p bytes) q ≡ page image q
page_other image p q bytes ne = get_or-set_other image p q bytes [] ne

-- one write more, at the page that is read or at another
pub page_more_here : (image : Image) (writes : List Write) (i p : ℕ) (d : Write) → i < length writes → p < length image → (get_or writes i d).0 ≡ p
    → page (applied image (take (i + 1) writes)) p ≡ (get_or writes i d).1
page_more_here image writes i p d lt in_range at =
    let so_far = applied image (take i writes) in
    ap (λ (im : Image). page im p) (applied_more image writes i d lt)
    ∙ subst (λ q. page (set so_far q (get_or writes i d).1) p ≡ (get_or writes i d).1) (sym at) (page_same so_far p (get_or writes i d).1 (omega (arith, in_range, length-applied image (take i writes))))

pub page_more_other : (image : Image) (writes : List Write) (i p : ℕ) (d : Write) → i < length writes → ((get_or writes i d).0 ≡ p → ⊥)
    → page (applied image (take (i + 1) writes)) p ≡ page (applied image (take i writes)) p
page_more_other image writes i p d lt other =
    ap (λ (im : Image). page im p) (applied_more image writes i d lt) ∙ page_other (applied image (take i writes)) (get_or writes i d).0 p (get_or writes i d).1 (λ same. other (sym same))

-- one truth value and one write more
kept_next : (mask : List Bool) (writes : List Write) (i : ℕ) (b : Bool) (d : Write) → i < length mask → i < length writes → get_or mask i false ≡ b
    → kept (take (suc i) mask) (take (suc i) writes) ≡ kept (take i mask) (take i writes) ++ kept (b ∷ []) (get_or writes i d ∷ [])
kept_next [] writes i b d short lt is = absurd (omega arith)
kept_next (x ∷ mask) [] i b d lm short is = absurd (omega arith)
kept_next (x ∷ mask) (w ∷ writes) zero b d lm lt is = ap (λ y. kept (y ∷ []) (w ∷ [])) is
kept_next (true ∷ mask) (w ∷ writes) (suc i) b d lm lt is = ap (λ (l : List Write). w ∷ l) (kept_next mask writes i b d (omega arith) (omega arith) is)
kept_next (false ∷ mask) (w ∷ writes) (suc i) b d lm lt is = kept_next mask writes i b d (omega arith) (omega arith) is

pub applied_kept_more : (image : Image) (mask : List Bool) (writes : List Write) (i : ℕ) (b : Bool) (d : Write) → i < length mask → i < length writes → get_or mask i false ≡ b
    → applied image (kept (take (i + 1) mask) (take (i + 1) writes)) ≡ applied (applied image (kept (take i mask) (take i writes))) (kept (b ∷ []) (get_or writes i d ∷ []))
applied_kept_more image mask writes i b d lm lt is =
    rw (add-one i) (ap (applied image) (kept_next mask writes i b d lm lt is) ∙ applied-append image (kept (take i mask) (take i writes)) (kept (b ∷ []) (get_or writes i d ∷ [])))

-- the pages of bytes, joined again, and the bytes behind them
pub flat_map-first_chunks : (n k : ℕ) (bytes : List ℕ) → flat_map (λ (p : List ℕ). p) (first_chunks n k bytes) ++ drop (k * n) bytes ≡ bytes
flat_map-first_chunks n zero bytes = let none : 0 * n ≡ 0 = omega arith in ap (λ m. drop m bytes) none
flat_map-first_chunks n (suc k) bytes =
    let others = flat_map (λ (p : List ℕ). p) (first_chunks n k (drop n bytes)) in
    let more : suc k * n ≡ n + k * n = omega arith in
    append_assoc (take n bytes) others (drop (suc k * n) bytes)
    ∙ ap (λ (l : List ℕ). take n bytes ++ (others ++ l)) (ap (λ m. drop m bytes) more ∙ sym (drop-drop (k * n) n bytes))
    ∙ ap (λ (l : List ℕ). take n bytes ++ l) (flat_map-first_chunks n k (drop n bytes))
    ∙ take-append-drop n bytes

-- where no byte stands behind them
pub flat_map-first_chunks_all : (n k : ℕ) (bytes rest : List ℕ) → rest ≡ drop (k * n) bytes → length rest ≡ 0 → flat_map (λ (p : List ℕ). p) (first_chunks n k bytes) ≡ bytes
flat_map-first_chunks_all n k bytes rest is none =
    let pages = flat_map (λ (p : List ℕ). p) (first_chunks n k bytes) in
    sym (append-nil pages) ∙ ap (λ (l : List ℕ). pages ++ l) (sym (nil_from_length rest none) ∙ is) ∙ flat_map-first_chunks n k bytes

-- An image, page by page.
pub page-applied : (image : Image) (writes : List Write) (p : ℕ) → p < length image → page (applied image writes) p ≡ latest writes p (page image p)
page-applied image [] p lt = refl
page-applied image (w ∷ writes) p lt =
    page-applied (set image w.0 w.1) writes p (omega (arith, lt, length-set image w.0 w.1)) ∙ ap (latest writes p) (one (cases_eq w.0 p))
  where
    one : (w.0 ≡ p) ⊎ (w.0 ≢ p) → page (set image w.0 w.1) p ≡ (if w.0 == p then w.1 else page image p)
    one (inl here) = subst (λ q. page (set image q w.1) p ≡ (if q == p then w.1 else page image p)) (sym here) (page_same image p w.1 lt ∙ sym (if_same p w.1 (page image p)))
    one (inr other) = page_other image w.0 p w.1 (λ same. other (sym same)) ∙ sym (if_other w.0 p w.1 (page image p) other)

-- Two lists of writes after which each page reads the same make one image, in whatever order.
pub applied_alike : (image : Image) (writes others : List Write) → ((p : ℕ) → p < length image → latest writes p (page image p) ≡ latest others p (page image p)) → applied image writes ≡ applied image others
applied_alike image writes others alike =
    ext_get_or [] (applied image writes) (applied image others) (length-applied image writes ∙ sym (length-applied image others))
    (λ p lt. let within : p < length image = omega (arith, lt, length-applied image writes) in page-applied image writes p within ∙ alike p within ∙ sym (page-applied image others p within))

-- what is kept of a list that was made of another
pub kept-map : {A B : Type 0} (f : A → B) (mask : List Bool) (xs : List A) → kept mask (map f xs) ≡ map f (kept mask xs)
kept-map f [] xs = refl
kept-map f (true ∷ mask) [] = refl
kept-map f (false ∷ mask) [] = refl
kept-map f (true ∷ mask) (x ∷ xs) = ap (λ l. f x ∷ l) (kept-map f mask xs)
kept-map f (false ∷ mask) (x ∷ xs) = kept-map f mask xs

-- a fact of the first and of the others
pub All_cons : {A : Type 0} (P : A → Type 0) (x : A) (xs : List A) → P x → All P xs → All P (x ∷ xs)
All_cons P x xs here others zero d lt = here
All_cons P x xs here others (suc k) d lt = others k d (omega arith)

-- What is kept is among what there was.
pub kept_All : {A : Type 0} (P : A → Type 0) (mask : List Bool) (xs : List A) → All P xs → All P (kept mask xs)
kept_All P [] xs all = λ k d lt. absurd (omega arith)
kept_All P (true ∷ mask) [] all = λ k d lt. absurd (omega arith)
kept_All P (false ∷ mask) [] all = λ k d lt. absurd (omega arith)
kept_All P (true ∷ mask) (x ∷ xs) all = All_cons P x (kept mask xs) (all 0 x (omega arith)) (kept_All P mask xs (λ k d lt. all (suc k) d (omega arith)))
kept_All P (false ∷ mask) (x ∷ xs) all = kept_All P mask xs (λ k d lt. all (suc k) d (omega arith))
