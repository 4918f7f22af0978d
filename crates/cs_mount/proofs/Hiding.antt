-- What shows where some pages are hidden.
use Rattle.std.proofs.Common.{◌≡◌, ◌≢◌, ◌⊎◌, inl, inr, ⊎_elim, if◌then◌else◌, ◌==◌, ◌||◌, ◌++◌, ◌-◌, ℕ, ◌<◌, ◌≤◌, Bool, true, false, not, List, [], ◌∷◌, Option, Some, None, bytes_eq, length, map, option_to_list, replicate, slice_index, refl, sym, ◌∙◌, ap, subst, arith}
use Rattle.std.proofs.lemmas.Bool.{cases_eq, cases_lt}
use Rattle.std.proofs.lemmas.Bool.Decides.{nat_tests}
use Rattle.std.proofs.lemmas.List.{append-nil, ext_get_or, get_or-replicate, get_or_past, length-replicate}
use Rattle.std.proofs.lemmas.List.Folds.{list_any-append}
use Rattle.cs_disk.specs.Disk.{Image, State, Write, page, seen}
use Rattle.cs_frame.specs.Bytes.{IsPage}
use Rattle.cs_frame.specs.FirstFormat.{page_zero_fault}
use Rattle.cs_frame.proofs.TestLaws.{equal_bytes, same_bytes}
use Rattle.cs_mount.specs.Hidden.{hidden_at, is_among, is_another, page_to_hide, state_without, without_hidden}
use Rattle.cs_mount.specs.Identities.{AreOfTwo, IsOfOne, both_said, identity_said}
use Rattle.cs_mount.specs.Makings.{zero_page}
use Rattle.cs_mount.specs.Repaged.{repaged_write}
use Rattle.cs_mount.specs.StorePairs.{dimensions_on, first_says}
use Rattle.cs_mount.proofs.Blank.{zero_fault}
use Rattle.cs_mount.proofs.Ones.{both_one, damaged_unsaid, one_found}
use Rattle.cs_mount.proofs.Repaging.{length-repaged, page-repaged, seen_repaged}
use Rattle.cs_mount.proofs.Telling.{last_said, said_first}

-- ---- a page stays one

zeros_are : IsPage zero_page
zeros_are = record { size = length-replicate {A = ℕ} 4096 0; bytes = each }
  where
    each : (i : ℕ) → slice_index zero_page i < 256
    each i = ⊎_elim
        (λ (inside : i < 4096). let is = get_or-replicate {A = ℕ} 4096 i 0 0 inside in omega (arith, is))
        (λ (past : 4096 ≤ i). let is = get_or_past {X = ℕ} (replicate 4096 0) i 0 (let size = length-replicate {A = ℕ} 4096 0 in omega (arith, past, size)) in omega (arith, is))
        (cases_lt i 4096)

pub hidden_stays : (hidden : List ℕ) (p : ℕ) (bytes : List ℕ) → IsPage bytes → IsPage (hidden_at hidden p bytes)
hidden_stays hidden p bytes is = both (is_among hidden p)
  where
    both : (b : Bool) → IsPage (if b then zero_page else bytes)
    both true = zeros_are
    both false = is

-- ---- which pages are hidden

pub hides_page : (hidden : List ℕ) (p : ℕ) (bytes : List ℕ) → is_among hidden p ≡ true → hidden_at hidden p bytes ≡ zero_page
hides_page hidden p bytes is = ap (λ (b : Bool). if b then zero_page else bytes) is

pub leaves_page : (hidden : List ℕ) (p : ℕ) (bytes : List ℕ) → is_among hidden p ≡ false → hidden_at hidden p bytes ≡ bytes
leaves_page hidden p bytes isnt = ap (λ (b : Bool). if b then zero_page else bytes) isnt

-- a page alone
pub among_one : (q : ℕ) → is_among (q ∷ []) q ≡ true
among_one q = grind (arith, nat_tests)

pub not_among_one : (q p : ℕ) → (p ≡ q → ⊥) → is_among (q ∷ []) p ≡ false
not_among_one q p other = grind (arith, nat_tests)

pub among-append : (first more : List ℕ) (p : ℕ) → is_among (first ++ more) p ≡ (is_among first p || is_among more p)
among-append first more p = list_any-append (λ q. q == p) first more

-- pages that are hidden, and more of them
hidden_both : (a b c : Bool) (bytes : List ℕ) → c ≡ (a || b) → (if a then zero_page else (if b then zero_page else bytes)) ≡ (if c then zero_page else bytes)
hidden_both true b c bytes is = sym (ap (λ (t : Bool). if t then zero_page else bytes) is)
hidden_both false b c bytes is = sym (ap (λ (t : Bool). if t then zero_page else bytes) is)

pub hidden_at_twice : (first more : List ℕ) (p : ℕ) (bytes : List ℕ) → hidden_at first p (hidden_at more p bytes) ≡ hidden_at (first ++ more) p bytes
hidden_at_twice first more p bytes = hidden_both (is_among first p) (is_among more p) (is_among (first ++ more) p) bytes (among-append first more p)

pub hidden_twice : (first more : List ℕ) (image : Image) → without_hidden first (without_hidden more image) ≡ without_hidden (first ++ more) image
hidden_twice first more image =
    let inner = length-repaged (hidden_at more) image in
    let outer = length-repaged (hidden_at first) (without_hidden more image) in
    let both = length-repaged (hidden_at (first ++ more)) image in
    ext_get_or [] _ _ (outer ∙ inner ∙ sym both)
    (λ p lt.
    let here : p < length image = omega (arith, lt, inner, outer) in
    page-repaged (hidden_at first) (without_hidden more image) p (omega (arith, here, inner)) ∙ ap (hidden_at first p) (page-repaged (hidden_at more) image p here)
    ∙ hidden_at_twice first more p (page image p) ∙ sym (page-repaged (hidden_at (first ++ more)) image p here))

-- ---- no page is hidden

writes_all : (writes : List Write) → map (repaged_write (hidden_at [])) writes ≡ writes
writes_all [] = refl
writes_all (w ∷ writes) = ap (λ (l : List Write). w ∷ l) (writes_all writes)

pub image_all : (image : Image) → without_hidden [] image ≡ image
image_all image = ext_get_or [] _ _ (length-repaged (hidden_at []) image) (λ p lt. page-repaged (hidden_at []) image p (omega (arith, lt, length-repaged (hidden_at []) image)))

pub shows_all : (s : State) → state_without [] s ≡ s
shows_all s =
    ap (λ (i : Image). record { durable = i; volatile = map (repaged_write (hidden_at [])) s.volatile }) (image_all s.durable) ∙ ap (λ (l : List Write). record { durable = s.durable; volatile = l }) (writes_all s.volatile)

-- one page, or none, alone
pub joined_none : (items more : List ℕ) (other target : Option ℕ) → items ≡ option_to_list other ++ more → more ≡ [] → other ≡ target → items ≡ option_to_list target
joined_none items more other target is none same = is ∙ ap (λ (l : List ℕ). option_to_list other ++ l) none ∙ append-nil (option_to_list other) ∙ ap option_to_list same

-- and with others after it
pub joined_all : (items more list : List ℕ) (other target : Option ℕ) → items ≡ option_to_list other ++ more → more ≡ list → other ≡ target → items ≡ option_to_list target ++ list
joined_all items more list other target is same named = is ∙ ap (λ (l : List ℕ). option_to_list other ++ l) same ∙ ap (λ (o : Option ℕ). option_to_list o ++ list) named

-- what shows where these pages are hidden, after reads
pub state_chosen_is : (h hidden : List ℕ) (was s : State) → h ≡ hidden → was ≡ s → state_without h was ≡ state_without hidden s
state_chosen_is h hidden was s is same = ap (λ (o : List ℕ). state_without o was) is ∙ ap (state_without hidden) same

-- and what is seen
pub seen_chosen : (h hidden : List ℕ) (was s : State) → h ≡ hidden → was ≡ s → seen (state_without h was) ≡ without_hidden hidden (seen s)
seen_chosen h hidden was s is same = ap (λ (o : List ℕ). seen (state_without o was)) is ∙ ap (λ (z : State). seen (state_without hidden z)) same ∙ seen_repaged (hidden_at hidden) s

-- ---- one store shows

zeros_unsaid : (bytes : List ℕ) → bytes ≡ zero_page → identity_said bytes ≡ None
zeros_unsaid bytes is = damaged_unsaid bytes (λ whole. let clash : None ≡ Some _ = sym whole ∙ ap page_zero_fault is ∙ zero_fault in cc clash)

-- so a page that says an identity isn't hidden
pub says_shown : (hidden : List ℕ) (p : ℕ) (bytes id shown : List ℕ) → shown ≡ hidden_at hidden p bytes → identity_said shown ≡ Some id → shown ≡ bytes
says_shown hidden p bytes id shown is says = by (is_among hidden p) refl
  where
    by : (b : Bool) → is_among hidden p ≡ b → shown ≡ bytes
    by true among = let clash : None ≡ Some id = sym (zeros_unsaid shown (is ∙ hides_page hidden p bytes among)) ∙ says in cc clash
    by false among = is ∙ leaves_page hidden p bytes among

-- what isn't another identity is none, or this one
not_another : (id : List ℕ) (o : Option (List ℕ)) → is_another id o ≡ false → (o ≡ None) ⊎ (o ≡ Some id)
not_another id None test = inl refl
not_another id (Some said) test = by (bytes_eq said id) refl test
  where
    by : (t : Bool) → bytes_eq said id ≡ t → not t ≡ false → (Some said ≡ None) ⊎ (Some said ≡ Some id)
    by true same test = inr (ap (λ (l : List ℕ). Some l) (same_bytes said id same))
    by false same test = cc test

its_own : (id : List ℕ) (o : Option (List ℕ)) → o ≡ Some id → is_another id o ≡ false
its_own id o is = ap (is_another id) is ∙ ap not (equal_bytes id id refl)

-- of two that differ, where the last is this one, the first is another
first_another : (id : List ℕ) (first last : Option (List ℕ)) → both_said first last ≢ None → last ≡ Some id → is_another id first ≡ true
first_another id None last two is = absurd (two refl)
first_another id (Some a) last two is = by (bytes_eq a id) refl
  where
    by : (t : Bool) → bytes_eq a id ≡ t → not (bytes_eq a id) ≡ true
    by true same = absurd (two (ap (both_said (Some a)) is ∙ ap (λ (t : Bool). if t then None else Some (a, id)) same))
    by false same = ap not same

module _ (n : ℕ) (id : List ℕ) (image : Image) (some : 0 < n) (size : length image ≡ n) where
  abbrev first : Option (List ℕ)
  first = identity_said (page image 0)

  abbrev last : Option (List ℕ)
  last = identity_said (page image (n - 1))

  -- the page that is hidden, by two tests
  abbrev by_tests : (b c : Bool) → Option ℕ
  by_tests b c = if b then Some 0 else (if c then Some (n - 1) else None)

  hidden_is : (b c : Bool) → is_another id first ≡ b → is_another id last ≡ c → page_to_hide n id image ≡ by_tests b c
  hidden_is b c one two = ap (λ (t : Bool). by_tests t (is_another id last)) one ∙ ap (by_tests b) two

  -- what shows of a page
  shows_at : (hidden : List ℕ) (p : ℕ) → p < n → page (without_hidden hidden image) p ≡ hidden_at hidden p (page image p)
  shows_at hidden p lt = page-repaged (hidden_at hidden) image p (omega (arith, lt, size))

  hides : (q : ℕ) → q < n → page (without_hidden (q ∷ []) image) q ≡ zero_page
  hides q lt = shows_at (q ∷ []) q lt ∙ hides_page (q ∷ []) q (page image q) (among_one q)

  leaves : (q p : ℕ) → p < n → (p ≡ q → ⊥) → page (without_hidden (q ∷ []) image) p ≡ page image p
  leaves q p lt other = shows_at (q ∷ []) p lt ∙ leaves_page (q ∷ []) p (page image p) (not_among_one q p other)

  -- a page that is hidden says nothing, and another says what it said
  says_still : (q p : ℕ) (o : Option (List ℕ)) → p < n → (identity_said (page image p) ≡ None) ⊎ (identity_said (page image p) ≡ o)
      → (identity_said (page (without_hidden (q ∷ []) image) p) ≡ None) ⊎ (identity_said (page (without_hidden (q ∷ []) image) p) ≡ o)
  says_still q p o lt said = ⊎_elim
      (λ (same : p ≡ q). inl (zeros_unsaid (page (without_hidden (q ∷ []) image) p) (shows_at (q ∷ []) p lt ∙ hides_page (q ∷ []) p (page image p) (subst (λ (r : ℕ). is_among (q ∷ []) r ≡ true) (sym same) (among_one q)))))
      (λ (other : p ≢ q). subst (λ (l : List ℕ). (identity_said l ≡ None) ⊎ (identity_said l ≡ o)) (sym (leaves q p lt other)) said)
      (cases_eq p q)

  shows_one : (b c : Bool) → is_another id first ≡ b → is_another id last ≡ c → IsOfOne n (without_hidden (option_to_list (by_tests b c)) image)
  shows_one true c one two = ap (λ (a : Option (List ℕ)). both_said a (identity_said (page (without_hidden (0 ∷ []) image) (n - 1)))) (zeros_unsaid (page (without_hidden (0 ∷ []) image) 0) (hides 0 some))
  shows_one false true one two = both_one n (without_hidden ((n - 1) ∷ []) image) (Some id) (says_still (n - 1) 0 (Some id) some (not_another id first one))
      (inl (zeros_unsaid (page (without_hidden ((n - 1) ∷ []) image) (n - 1)) (hides (n - 1) (omega (arith, some)))))
  shows_one false false one two = both_one n (without_hidden [] image) (Some id)
      (subst (λ (l : List ℕ). (identity_said l ≡ None) ⊎ (identity_said l ≡ Some id)) (sym (shows_at [] 0 some)) (not_another id first one))
      (subst (λ (l : List ℕ). (identity_said l ≡ None) ⊎ (identity_said l ≡ Some id)) (sym (shows_at [] (n - 1) (omega (arith, some)))) (not_another id last two))

  pub chosen_one : IsOfOne n (without_hidden (option_to_list (page_to_hide n id image)) image)
  chosen_one = subst (λ (h : Option ℕ). IsOfOne n (without_hidden (option_to_list h) image)) (sym (hidden_is (is_another id first) (is_another id last) refl refl)) (shows_one (is_another id first) (is_another id last) refl refl)

  -- page 0 says the identity, so it shows
  first_stays : first ≡ Some id → (c : Bool) → is_another id last ≡ c → page (without_hidden (option_to_list (if c then Some (n - 1) else None)) image) 0 ≡ page image 0
  first_stays is true two = leaves (n - 1) 0 some (λ same. let clash : true ≡ false = sym two ∙ ap (λ (p : ℕ). is_another id (identity_said (page image p))) (sym same) ∙ its_own id first is in cc clash)
  first_stays is false two = shows_at [] 0 some

  pub chosen_first : first ≡ Some id → dimensions_on n (without_hidden (option_to_list (page_to_hide n id image)) image) ≡ first_says n (page image 0)
  chosen_first is =
      let shows = without_hidden (option_to_list (page_to_hide n id image)) image in
      let stays : page shows 0 ≡ page image 0 = ap (λ (h : Option ℕ). page (without_hidden (option_to_list h) image) 0) (hidden_is false (is_another id last) (its_own id first is) refl) ∙ first_stays is (is_another id last) refl in
      one_found n shows chosen_one ∙ said_first n shows id (ap identity_said stays ∙ is) ∙ ap (first_says n) stays

  -- the last page says it, and page 0 another one
  pub chosen_last : AreOfTwo n image → last ≡ Some id → dimensions_on n (without_hidden (option_to_list (page_to_hide n id image)) image) ≡ first_says n (page image (n - 1))
  chosen_last two is =
      let another = first_another id first last two is in
      let hidden : page_to_hide n id image ≡ Some 0 = hidden_is true (is_another id last) another refl in
      let apart : n - 1 ≡ 0 → ⊥ = λ same. let clash : true ≡ false = sym another ∙ ap (λ (p : ℕ). is_another id (identity_said (page image p))) (sym same) ∙ its_own id last is in cc clash in
      let shows = without_hidden (option_to_list (page_to_hide n id image)) image in
      let damaged : page_zero_fault (page shows 0) ≡ Some _ = ap (λ (h : Option ℕ). page_zero_fault (page (without_hidden (option_to_list h) image) 0)) hidden ∙ ap page_zero_fault (hides 0 some) ∙ zero_fault in
      let stays : page shows (n - 1) ≡ page image (n - 1) = ap (λ (h : Option ℕ). page (without_hidden (option_to_list h) image) (n - 1)) hidden ∙ leaves 0 (n - 1) (omega (arith, some)) apart in
      one_found n shows chosen_one ∙ last_said n shows _ damaged ∙ ap (first_says n) stays
