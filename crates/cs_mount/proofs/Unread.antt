-- Halves of pairs that weren't read, and how many of them there are.
use Rattle.std.proofs.Common.{◌≡◌, ◌≢◌, ◌⊎◌, inl, inr, ⊎_elim, if◌then◌else◌, ◌||◌, ◌++◌, ◌+◌, ◌-◌, ℕ, ◌<◌, ◌≤◌, Bool, true, false, List, [], ◌∷◌, Some, length, length-append, append_assoc, slice_get, refl, sym, ◌∙◌, ap, subst, arith}
use Rattle.std.proofs.lemmas.Bool.{cases_eq}
use Rattle.std.proofs.lemmas.List.{append-nil}
use Rattle.std.proofs.lemmas.Option.{same_Some, slice_get_within}
use Rattle.cs_disk.specs.Disk.{Image, Rises, page}
use Rattle.cs_twin.specs.declared.pairs.Pair.{Pair}
use Rattle.cs_twin.specs.Pairs.{ArePairs, half}
use Rattle.cs_mount.specs.Hidden.{is_among}
use Rattle.cs_mount.specs.Makings.{zero_page}
use Rattle.cs_mount.specs.Unreadable.{AreEnds, AreHalves, AreOneEnd, IsHalfOfFirst, RisesBy, halves_unread}
use Rattle.cs_mount.proofs.Hiding.{among-append, among_one, not_among_one}

-- ---- truth values

pub not_true : (b : Bool) → (b ≡ true → ⊥) → b ≡ false
not_true true never = absurd (never refl)
not_true false never = refl

pub one_of : (a b c : Bool) → c ≡ (a || b) → c ≡ true → (a ≡ true) ⊎ (b ≡ true)
one_of true b c is so = inl refl
one_of false b c is so = inr (sym is ∙ so)

pub none_of : (a b c : Bool) → c ≡ (a || b) → a ≡ false → b ≡ false → c ≡ false
none_of a b c is first second = is ∙ ap (λ (t : Bool). t || b) first ∙ second

-- ---- how many reads failed

pub rises_later : (count before old now : ℕ) → RisesBy count before old → old ≤ now → RisesBy count before now
rises_later count before old now rises later = omega (arith, rises, later)

pub rises_more : (count more before old now : ℕ) → RisesBy count before old → Rises old now → more ≡ count + 1 → RisesBy more before now
rises_more count more before old now rises one is = omega (arith, rises, one, is)

pub rises_none : (before now : ℕ) → before ≤ now → RisesBy 0 before now
rises_none before now later = omega (arith, later)

-- two reads failed
pub rises_twice : (old mid now : ℕ) → Rises old mid → Rises mid now → RisesBy 2 old now
rises_twice old mid now one two = omega (arith, one, two)

pub both_failed : (own twin : Bool) (old mid now : ℕ) → (own ≡ false → Rises old mid) → (twin ≡ false → Rises mid now) → (own || twin) ≡ false → RisesBy 2 old now
both_failed true twin old mid now first second failed = cc failed
both_failed false true old mid now first second failed = cc failed
both_failed false false old mid now first second failed = rises_twice old mid now (first refl) (second refl)

-- after reads that didn't
pub rises_after : (count old mid now : ℕ) → old ≤ mid → RisesBy count mid now → RisesBy count old now
rises_after count old mid now later rises = omega (arith, later, rises)

-- a page that was read, or else added to the list
pub counted_if : (read : Bool) (before old now number : ℕ) (was list : List ℕ) → list ≡ (if read then was else was ++ number ∷ []) → old ≤ now → (read ≡ false → Rises old now)
    → RisesBy (length was) before old → RisesBy (length list) before now
counted_if true before old now number was list is later fails rises = subst (λ (l : List ℕ). RisesBy (length l) before now) (sym is) (rises_later (length was) before old now rises later)
counted_if false before old now number was list is later fails rises =
    rises_more (length was) (length list) before old now rises (fails refl) (ap (λ (l : List ℕ). length l) is ∙ length-append was (number ∷ []))

-- both halves of a pair
pub halves_added : (x : Pair) (own twin : Bool) (was mid now : List ℕ) → mid ≡ (if own then was else was ++ x.page ∷ []) → now ≡ (if twin then mid else mid ++ x.twin ∷ []) → now ≡ was ++ halves_unread x own twin
halves_added x true true was mid now first second = second ∙ first ∙ sym (append-nil was)
halves_added x true false was mid now first second = second ∙ ap (λ (l : List ℕ). l ++ x.twin ∷ []) first
halves_added x false true was mid now first second = second ∙ first ∙ ap (λ (l : List ℕ). was ++ l) (sym (append-nil (x.page ∷ [])))
halves_added x false false was mid now first second = second ∙ ap (λ (l : List ℕ). l ++ x.twin ∷ []) first ∙ append_assoc was (x.page ∷ []) (x.twin ∷ [])

-- ---- which halves they are

one_page : (q p : ℕ) → is_among (q ∷ []) p ≡ true → p ≡ q
one_page q p among = ⊎_elim (λ (same : p ≡ q). same) (λ (other : p ≢ q). let clash : true ≡ false = sym among ∙ not_among_one q p other in cc clash) (cases_eq p q)

-- what isn't read of a pair is a half of it
of_pair : (x : Pair) (own twin : Bool) (p : ℕ) → is_among (halves_unread x own twin) p ≡ true → (b : Bool) × (p ≡ half x b)
of_pair x true true p among = cc among
of_pair x true false p among = (true, one_page x.twin p among)
of_pair x false true p among = (false, one_page x.page p among)
of_pair x false false p among = both (cases_eq p x.page) (cases_eq p x.twin)
  where
    both : (p ≡ x.page) ⊎ (p ≢ x.page) → (p ≡ x.twin) ⊎ (p ≢ x.twin) → (b : Bool) × (p ≡ half x b)
    both (inl own) _ = (false, own)
    both (inr other) (inl twin) = (true, twin)
    both (inr other) (inr neither) =
        let clash : true ≡ false = sym among ∙ none_of (is_among (x.page ∷ []) p) (is_among (x.twin ∷ []) p) (is_among (x.page ∷ x.twin ∷ []) p) (among-append (x.page ∷ []) (x.twin ∷ []) p) (not_among_one x.page p other) (not_among_one x.twin p neither) in
        cc clash

module _ (pairs : List Pair) (n : ℕ) (are : ArePairs pairs n) where
  -- no half of one pair is one of another
  apart : (j k : ℕ) (x y : Pair) (b c : Bool) → slice_get pairs j ≡ Some x → slice_get pairs k ≡ Some y → half x b ≡ half y c → j ≡ k
  apart j k x y b c at_j at_k same = (are.apart j k x y b c at_j at_k same).0

  twin_apart : (k : ℕ) (x : Pair) (b c : Bool) → slice_get pairs k ≡ Some x → half x b ≡ half x c → b ≡ c
  twin_apart k x b c at same = (are.apart k k x x b c at at same).1

  -- what isn't read of one pair is no half of another
  not_there : (j k : ℕ) (x y : Pair) (own twin b : Bool) → slice_get pairs k ≡ Some x → slice_get pairs j ≡ Some y → (j ≡ k → ⊥) → is_among (halves_unread x own twin) (half y b) ≡ false
  not_there j k x y own twin b at_k at_j other = not_true (is_among (halves_unread x own twin) (half y b)) (λ among. let is = of_pair x own twin (half y b) among in other (apart j k y x b is.0 at_j at_k is.1))

  -- a half that is read isn't among those that aren't
  read_left : (k : ℕ) (x : Pair) (own twin : Bool) → slice_get pairs k ≡ Some x → (own || twin) ≡ true → (b : Bool) × (is_among (halves_unread x own twin) (half x b) ≡ false)
  read_left k x true true at one = (false, refl)
  read_left k x true false at one = (false, not_among_one x.twin x.page (λ same. let clash : false ≡ true = twin_apart k x false true at same in cc clash))
  read_left k x false true at one = (true, not_among_one x.page x.twin (λ same. let clash : true ≡ false = twin_apart k x true false at same in cc clash))
  read_left k x false false at one = cc one

  module _ (list now : List ℕ) (k : ℕ) (x : Pair) (own twin : Bool) (at : slice_get pairs k ≡ Some x) (is : now ≡ list ++ halves_unread x own twin) where
    abbrev more : List ℕ
    more = halves_unread x own twin

    among_now : (p : ℕ) → is_among now p ≡ (is_among list p || is_among more p)
    among_now p = ap (λ (l : List ℕ). is_among l p) is ∙ among-append list more p

    -- halves of other pairs are in the list as they were
    pub others_same : (j : ℕ) (y : Pair) (b : Bool) → slice_get pairs j ≡ Some y → (j ≡ k → ⊥) → is_among now (half y b) ≡ is_among list (half y b)
    others_same j y b at_j other = among_now (half y b) ∙ ap (λ (t : Bool). is_among list (half y b) || t) (not_there j k x y own twin b at at_j other) ∙ or_false (is_among list (half y b))
      where
        or_false : (t : Bool) → (t || false) ≡ t
        or_false true = refl
        or_false false = refl

    pub halves_next : (needed : Bool) → (k ≡ 1 → needed ≡ true) → 1 ≤ k → AreHalves pairs k list → (needed ≡ true → (own || twin) ≡ true) → AreHalves pairs (k + 1) now
    halves_next needed root from before one = record { each = each; one_left = left }
      where
        each : (p : ℕ) → is_among now p ≡ true → IsHalfOfFirst pairs (k + 1) p
        each p among = ⊎_elim
            (λ (was : is_among list p ≡ true). let it = before.each p was in (it.0, it.1, it.2, (let lt = it.3 in omega (arith, lt)), it.4, it.5))
            (λ (new : is_among more p ≡ true). let it = of_pair x own twin p new in (k, x, it.0, omega arith, at, it.1))
            (one_of (is_among list p) (is_among more p) (is_among now p) (among_now p) among)

        -- no half of this pair was in the list
        not_before : (b : Bool) → is_among list (half x b) ≡ false
        not_before b = not_true (is_among list (half x b)) (λ among. let it = before.each (half x b) among in let same = apart k it.0 x it.1 b it.2 at it.4 it.5 in let lt = it.3 in absurd (omega (arith, same, lt)))

        left : (j : ℕ) (y : Pair) → j < 2 → slice_get pairs j ≡ Some y → (b : Bool) × (is_among now (half y b) ≡ false)
        left j y lt at_j = ⊎_elim
            (λ (same : j ≡ k).
            let this : x ≡ y = same_Some x y (sym at ∙ subst (λ (i : ℕ). slice_get pairs i ≡ Some y) same at_j) in
            let read = read_left k x own twin at (one (root (omega (arith, lt, same, from)))) in
            subst (λ (z : Pair). (b : Bool) × (is_among now (half z b) ≡ false)) this
            (read.0, none_of (is_among list (half x read.0)) (is_among more (half x read.0)) (is_among now (half x read.0)) (among_now (half x read.0)) (not_before read.0) read.1))
            (λ (other : j ≢ k). let was = before.one_left j y lt at_j in (was.0, others_same j y was.0 at_j other ∙ was.1))
            (cases_eq j k)

  -- the ends of a device are the halves of the first pair
  pub ends_are : (list : List ℕ) (x : Pair) → slice_get pairs 0 ≡ Some x → x.page ≡ 0 → x.twin ≡ n - 1 → AreOneEnd n list → AreHalves pairs 1 list
  ends_are list x at own twin ends = record { each = each; one_left = left }
    where
      each : (p : ℕ) → is_among list p ≡ true → IsHalfOfFirst pairs 1 p
      each p among = ⊎_elim (λ (zero : p ≡ 0). (0, x, false, omega arith, at, zero ∙ sym own)) (λ (last : p ≡ n - 1). (0, x, true, omega arith, at, last ∙ sym twin)) (ends.ends p among)

      here : (b : Bool) × (is_among list (half x b) ≡ false)
      here = ⊎_elim
          (λ (zero : is_among list 0 ≡ false). (false, ap (is_among list) own ∙ zero))
          (λ (last : is_among list (n - 1) ≡ false). (true, ap (is_among list) twin ∙ last))
          ends.one_left

      left : (j : ℕ) (y : Pair) → j < 2 → slice_get pairs j ≡ Some y → (b : Bool) × (is_among list (half y b) ≡ false)
      left j y lt at_j = ⊎_elim
          (λ (same : j ≡ 0).
          let this : x ≡ y = same_Some x y (sym at ∙ subst (λ (i : ℕ). slice_get pairs i ≡ Some y) same at_j) in
          subst (λ (z : Pair). (b : Bool) × (is_among list (half z b) ≡ false)) this here)
          (λ (other : j ≢ 0). (false, not_true (is_among list (half y false)) (λ among. let it = each (half y false) among in let same = apart j it.0 y it.1 false it.2 at_j it.4 it.5 in let first = it.3 in absurd (other (omega (arith, same, first))))))
          (cases_eq j 0)

  -- each of the halves lies on the device
  pub halves_inside : (count : ℕ) (list : List ℕ) → AreHalves pairs count list → (p : ℕ) → is_among list p ≡ true → p < n
  halves_inside count list halves p among = let it = halves.each p among in subst (λ (q : ℕ). q < n) (sym it.5) (are.inside it.0 it.1 it.2 it.4)

-- ---- what was read of the two ends

module _ (n : ℕ) (some : 2 ≤ n) (first second : Bool) (mid list : List ℕ) (one : mid ≡ (if first then [] else [] ++ 0 ∷ [])) (two : list ≡ (if second then mid else mid ++ (n - 1) ∷ [])) where
  apart_last : n - 1 ≡ 0 → ⊥
  apart_last same = omega (arith, same, some)

  apart_zero : 0 ≡ n - 1 → ⊥
  apart_zero same = omega (arith, same, some)

  abbrev ends_list : List ℕ
  ends_list = (if first then [] else 0 ∷ []) ++ (if second then [] else (n - 1) ∷ [])

  is_list : list ≡ ends_list
  is_list = by first second one two
    where
      by : (a b : Bool) → mid ≡ (if a then [] else [] ++ 0 ∷ []) → list ≡ (if b then mid else mid ++ (n - 1) ∷ []) → list ≡ (if a then [] else 0 ∷ []) ++ (if b then [] else (n - 1) ∷ [])
      by true true one two = two ∙ one
      by true false one two = two ∙ ap (λ (l : List ℕ). l ++ (n - 1) ∷ []) one
      by false true one two = two ∙ one
      by false false one two = two ∙ ap (λ (l : List ℕ). l ++ (n - 1) ∷ []) one

  -- an end is in the list if it wasn't read
  zero_in : (a b : Bool) → is_among ((if a then [] else 0 ∷ []) ++ (if b then [] else (n - 1) ∷ [])) 0 ≡ (if a then false else true)
  zero_in true true = refl
  zero_in true false = not_among_one (n - 1) 0 apart_zero
  zero_in false true = refl
  zero_in false false = refl

  last_in : (a b : Bool) → is_among ((if a then [] else 0 ∷ []) ++ (if b then [] else (n - 1) ∷ [])) (n - 1) ≡ (if b then false else true)
  last_in true true = refl
  last_in true false = among_one (n - 1)
  last_in false true = not_among_one 0 (n - 1) apart_last
  last_in false false = among-append (0 ∷ []) ((n - 1) ∷ []) (n - 1) ∙ ap (λ (t : Bool). t || is_among ((n - 1) ∷ []) (n - 1)) (not_among_one 0 (n - 1) apart_last) ∙ among_one (n - 1)

  zero_list : is_among list 0 ≡ (if first then false else true)
  zero_list = ap (λ (l : List ℕ). is_among l 0) is_list ∙ zero_in first second

  last_list : is_among list (n - 1) ≡ (if second then false else true)
  last_list = ap (λ (l : List ℕ). is_among l (n - 1)) is_list ∙ last_in first second

  pub one_end : (first || second) ≡ true → AreOneEnd n list
  one_end read = record { ends = each; one_left = left first second read zero_list last_list }
    where
      left : (a b : Bool) → (a || b) ≡ true → is_among list 0 ≡ (if a then false else true) → is_among list (n - 1) ≡ (if b then false else true) → (is_among list 0 ≡ false) ⊎ (is_among list (n - 1) ≡ false)
      left true b read zero last = inl zero
      left false true read zero last = inr last
      left false false read zero last = cc read

      each : (p : ℕ) → is_among list p ≡ true → (p ≡ 0) ⊎ (p ≡ n - 1)
      each p among = let it = of_pair (record { page = 0; twin = n - 1 }) first second p (sym (ap (λ (l : List ℕ). is_among l p) is_list) ∙ among) in of_half it.0 it.1
        where
          of_half : (b : Bool) → p ≡ half (record { page = 0; twin = n - 1 }) b → (p ≡ 0) ⊎ (p ≡ n - 1)
          of_half true is = inr is
          of_half false is = inl is

  -- what the buffers hold then
  buffered : (b read : Bool) (bytes buffer : List ℕ) → buffer ≡ (if read then bytes else zero_page) → b ≡ (if read then false else true) → buffer ≡ (if b then zero_page else bytes)
  buffered b true bytes buffer is test = is ∙ sym (ap (λ (t : Bool). if t then zero_page else bytes) test)
  buffered b false bytes buffer is test = is ∙ sym (ap (λ (t : Bool). if t then zero_page else bytes) test)

  pub ends_hold : (image : Image) (zero last : List ℕ) → zero ≡ (if first then page image 0 else zero_page) → last ≡ (if second then page image (n - 1) else zero_page) → AreEnds n list image zero last
  ends_hold image zero last is_zero is_last = record {
    first = buffered (is_among list 0) first (page image 0) zero is_zero zero_list;
    final = buffered (is_among list (n - 1)) second (page image (n - 1)) last is_last last_list;
  }

-- all pairs were looked at
pub halves_all : (pairs : List Pair) (k : ℕ) (list : List ℕ) → length pairs ≤ k → AreHalves pairs k list → AreHalves pairs (length pairs) list
halves_all pairs k list all halves = record {
  each = λ p among. let it = halves.each p among in (it.0, it.1, it.2, slice_get_within pairs it.0 it.1 it.4, it.4, it.5);
  one_left = halves.one_left;
}
