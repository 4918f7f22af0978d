-- The greatest number among parts, a part or a stretch of pages more.
use Rattle.std.proofs.Common.{◌≡◌, ◌∙◌, ◌⊎◌, ℕ, ◌+◌, ◌*◌, ◌<◌, ◌≤◌, All, IfSome, List, Option, Some, None, [], ◌++◌, true, get_or, length, refl, sym, ap, subst, inl, inr, ⊎_elim, arith}
use Rattle.std.specs.List.{AllPairs, Contains}
use Rattle.std.specs.Prelude.{max}
use Rattle.std.proofs.lemmas.Bool.{cases_lt}
use Rattle.std.proofs.lemmas.List.Elements.{All-contains, All-nil, Contains-append_cases, Contains-append_left, Contains-get_or}
use Rattle.cs_disk.specs.Disk.{Image}
use Rattle.cs_frame.specs.Geometries.{Dimensions}
use Rattle.cs_salvage.specs.declared.parts.Part.{Part}
use Rattle.cs_salvage.specs.declared.scans.Counted.{Counted}
use Rattle.cs_salvage.specs.declared.scans.Scanned.{Scanned}
use Rattle.cs_salvage.specs.declared.searches.Sought.{Sought}
use Rattle.cs_salvage.specs.Frames.{IsOfFrame}
use Rattle.cs_salvage.specs.Greatest.{BeginsWithin, CountsOn, IsGreatestBefore, IsGreatestOf, IsOfAFrame, IsOfAPart, IsOfOneOutside, IsOutermost, IsOutermostBefore, IsPartBefore, IsScanOf, IsWithinAPart, IsWithinBefore, IsWithinLast, IsWithinOneOf}
use Rattle.cs_salvage.specs.Looks.{AreApart, AreEnded, AreFoundBefore, AreWithin, look_end}
use Rattle.cs_salvage.specs.Parts.{AreSought, IsBefore, IsPart, IsSought}
use Rattle.cs_salvage.specs.Passed.{Avoids, first_page_of, without}
use Rattle.cs_salvage.proofs.Pages.{before_end, found_there, lies_there}
use Rattle.cs_salvage.proofs.Sames.{at_any}

-- ---- the greater of two numbers

pub which_max : (a b m : ℕ) → m ≡ max a b → (m ≡ a) ⊎ (m ≡ b)
which_max a b m is = ⊎_elim
    (λ (less : a < b). inr (omega (arith, is, less)))
    (λ (le : b ≤ a). inl (omega (arith, is, le)))
    (cases_lt a b)

-- ---- parts, one after another

-- So many of the parts were counted.
pub record AreCountedTo (parts : List Part) (k : ℕ) (counted : Counted) : Type 0 where
  pub sound : (counted.greatest ≡ 0) ⊎ ((part : Part) × Contains parts part × (part.head.command ≡ counted.greatest))
  pub last : IfSome counted.last (Contains parts)
  pub greatest : (j : ℕ) (d : Part) → j < k → j < length parts → ((get_or parts j d).head.command ≤ counted.greatest) ⊎ ((outer : Part) × Contains parts outer × BeginsWithin outer (get_or parts j d))

pub none_counted : (parts : List Part) (counted : Counted) → counted.greatest ≡ 0 → counted.last ≡ None → AreCountedTo parts 0 counted
none_counted parts counted zero none = record {
  sound = inl zero;
  last = subst (λ (last : Option Part). IfSome last (Contains parts)) (sym none) tt;
  greatest = λ j d lt inside. absurd (omega (arith, lt));
}

-- and one more
module _ (parts : List Part) (k : ℕ) (inside : k < length parts) (part : Part) (at : part ≡ get_or parts k part) (old new : Counted) (was : AreCountedTo parts k old) (step : CountsOn old part new) where
  sound : (new.greatest ≡ old.greatest) ⊎ (new.greatest ≡ part.head.command)
  sound = ⊎_elim
      (λ (it : IsWithinLast old part × (new ≡ old)). inl (ap (λ (c : Counted). c.greatest) it.1))
      (λ (it : (IsWithinLast old part → ⊥) × (new.greatest ≡ max old.greatest part.head.command) × (new.last ≡ Some part)). which_max old.greatest part.head.command new.greatest it.1)
      step

  last : (new.last ≡ old.last) ⊎ (new.last ≡ Some part)
  last = ⊎_elim
      (λ (it : IsWithinLast old part × (new ≡ old)). inl (ap (λ (c : Counted). c.last) it.1))
      (λ (it : (IsWithinLast old part → ⊥) × (new.greatest ≡ max old.greatest part.head.command) × (new.last ≡ Some part)). inr it.2)
      step

  before : old.greatest ≤ new.greatest
  before = ⊎_elim
      (λ (it : IsWithinLast old part × (new ≡ old)). let same : new.greatest ≡ old.greatest = ap (λ (c : Counted). c.greatest) it.1 in omega (arith, same))
      (λ (it : (IsWithinLast old part → ⊥) × (new.greatest ≡ max old.greatest part.head.command) × (new.last ≡ Some part)). let most = it.1 in omega (arith, most))
      step

  counts : (part.head.command ≤ new.greatest) ⊎ IsWithinLast old part
  counts = ⊎_elim
      (λ (it : IsWithinLast old part × (new ≡ old)). inr it.0)
      (λ (it : (IsWithinLast old part → ⊥) × (new.greatest ≡ max old.greatest part.head.command) × (new.last ≡ Some part)). let most = it.1 in inl (omega (arith, most)))
      step

  there : Contains parts part
  there = subst (Contains parts) (sym at) (Contains-get_or parts k part inside)

  here : (d : Part) → get_or parts k d ≡ part
  here d = at_any parts k inside d part ∙ sym at

  outer_of : ((outer : Part) × (old.last ≡ Some outer) × BeginsWithin outer part) → (outer : Part) × Contains parts outer × BeginsWithin outer part
  outer_of it = (it.0, subst (λ (l : Option Part). IfSome l (Contains parts)) it.1 was.last, it.2)

  raised : (other : Part) → (other.head.command ≤ old.greatest) ⊎ ((outer : Part) × Contains parts outer × BeginsWithin outer other) → (other.head.command ≤ new.greatest) ⊎ ((outer : Part) × Contains parts outer × BeginsWithin outer other)
  raised other (inl few) = inl (omega (arith, few, before))
  raised other (inr inner) = inr inner

  counted_here : (part.head.command ≤ new.greatest) ⊎ ((outer : Part) × (old.last ≡ Some outer) × BeginsWithin outer part) → (part.head.command ≤ new.greatest) ⊎ ((outer : Part) × Contains parts outer × BeginsWithin outer part)
  counted_here (inl few) = inl few
  counted_here (inr inner) = inr (outer_of inner)

  sound_on : (old.greatest ≡ 0) ⊎ ((other : Part) × Contains parts other × (other.head.command ≡ old.greatest)) → (new.greatest ≡ old.greatest) → (new.greatest ≡ 0) ⊎ ((other : Part) × Contains parts other × (other.head.command ≡ new.greatest))
  sound_on (inl zero) same = inl (same ∙ zero)
  sound_on (inr it) same = inr (it.0, it.1, it.2 ∙ sym same)

  pub one_counted : AreCountedTo parts (k + 1) new
  one_counted = record {
    sound = ⊎_elim
        (λ (same : new.greatest ≡ old.greatest). sound_on was.sound same)
        (λ (fresh : new.greatest ≡ part.head.command). inr (part, there, sym fresh))
        sound;
    last = ⊎_elim
        (λ (same : new.last ≡ old.last). subst (λ (l : Option Part). IfSome l (Contains parts)) (sym same) was.last)
        (λ (fresh : new.last ≡ Some part). subst (λ (l : Option Part). IfSome l (Contains parts)) (sym fresh) there)
        last;
    greatest = λ j d lt inner. ⊎_elim
        (λ (l : j < k). raised (get_or parts j d) (was.greatest j d l inner))
        (λ (le : k ≤ j).
        let same : k ≡ j = omega (arith, le, lt) in
        subst (λ (i : ℕ). ((get_or parts i d).head.command ≤ new.greatest) ⊎ ((outer : Part) × Contains parts outer × BeginsWithin outer (get_or parts i d))) same
        (subst (λ (p : Part). (p.head.command ≤ new.greatest) ⊎ ((outer : Part) × Contains parts outer × BeginsWithin outer p)) (sym (here d)) (counted_here counts)))
        (cases_lt j k);
  }

pub all_counted : (parts : List Part) (k : ℕ) (counted : Counted) → length parts ≤ k → AreCountedTo parts k counted → IsGreatestOf parts counted.greatest
all_counted parts k counted ends was = record {
  sound = was.sound;
  greatest = λ part there. subst (λ (p : Part). (p.head.command ≤ counted.greatest) ⊎ ((outer : Part) × Contains parts outer × BeginsWithin outer p)) there.2
      (was.greatest there.0 part (omega (arith, there.1, ends)) there.1);
}

-- ---- stretches, one after another

-- a part begins before what begins within it, and ends after that begins
begins_before : (g : Dimensions) (outer part : Part) → BeginsWithin outer part → (first_page_of g outer < first_page_of g part) × (first_page_of g part < first_page_of g outer + outer.pages)
begins_before g outer part within =
    let same : outer.extent * g.pages ≡ part.extent * g.pages = ap (λ (e : ℕ). e * g.pages) within.0 in
    (omega (arith, same, within.1), omega (arith, same, within.2))

-- before the first page
pub nothing_scanned : (sought : Sought) (image : Image) (n : ℕ) → n ≡ 2 → IsGreatestBefore sought image n [] 0
nothing_scanned sought image n is = record {
  sound = inl refl;
  greatest = λ part payload it before avoids. absurd (omega (arith, before, is));
  ended = λ part payload it from before avoids. absurd (omega (arith, before, is));
}

-- what begins on a page and before it
pub none_here : (sought : Sought) (image : Image) (n : ℕ) (passed : List ℕ) → AreFoundBefore sought image n n passed []
none_here sought image n passed = record {
  sound = λ part there. absurd (omega (arith, there.1));
  complete = λ part payload it from before avoids. absurd (omega (arith, from, before));
  ordered = λ i j d less lt. absurd (omega (arith, lt));
}

-- the pages that were passed over, without the parts
pub only_passed : (g : Dimensions) (first count end : ℕ) (passed : List ℕ) (parts : List Part) → AreApart g first count end passed parts → AreApart g first count end passed []
only_passed g first count end passed parts are = record {
  passed_are = are.passed_are;
  before = are.before;
  ended = λ k d lt. absurd (omega (arith, lt));
  avoid = λ k d lt. absurd (omega (arith, lt));
}

module _ (sought : Sought) (image : Image) (n next : ℕ) (passed rest : List ℕ) (on : n ≤ next) (later : All (λ (p : ℕ). n ≤ p) rest) where
  before_later : (part : Part) (payload : List ℕ) → IsPartBefore sought image n passed part payload → IsPartBefore sought image next (passed ++ rest) part payload
  before_later part payload was = record {
    is = was.is;
    ends = let ends = was.ends in omega (arith, ends, on);
    avoids = λ p there. ⊎_elim
        (λ (old : Contains passed p). was.avoids p old)
        (λ (new : Contains rest p). let le = All-contains (λ (q : ℕ). n ≤ q) rest p later new in let ends = was.ends in inr (omega (arith, le, ends)))
        (Contains-append_cases passed rest p there);
  }

  module _ (a b m : ℕ) (parts : List Part) (was : IsGreatestBefore sought image n passed a) (are : AreFoundBefore sought image n next (passed ++ rest) parts)
      (ended : AreEnded sought.geometry next parts) (avoid : All (Avoids sought.geometry (passed ++ rest)) parts) (of : IsGreatestOf parts b) (outside : IsOfOneOutside parts b) (greater : m ≡ max a b) where
    -- a part that was found
    found : (part : Part) → Contains parts part → (payload : List ℕ) × IsPartBefore sought image next (passed ++ rest) part payload
    found part there =
        let it = are.sound part there in (
          it.2.0,
          record {
            is = it.2.1;
            ends = All-contains (λ (p : Part). first_page_of sought.geometry p + p.pages ≤ next) parts part ended there;
            avoids = All-contains (Avoids sought.geometry (passed ++ rest)) parts part avoid there;
          },
        )

    abbrev OneOf : ℕ → ℕ → List ℕ → Type 0
    OneOf number end skipped = (number ≡ 0)
        ⊎ ((part : Part) × (payload : List ℕ) × IsPartBefore sought image end skipped part payload × IsOutermostBefore sought image end skipped part × (part.head.command ≡ number))

    -- of more pages that are passed over, fewer parts avoid all
    fewer : (part : Part) → Avoids sought.geometry (passed ++ rest) part → Avoids sought.geometry passed part
    fewer part avoids p there = avoids p (Contains-append_left passed rest p there)

    within_later : (part : Part) → IsWithinBefore sought image n passed part → IsWithinBefore sought image next (passed ++ rest) part
    within_later part it = (it.0, it.1, before_later it.0 it.1 it.2, it.3)

    within_found : (part : Part) → IsWithinOneOf parts part → IsWithinBefore sought image next (passed ++ rest) part
    within_found part it = let outer = found it.0 it.1 in (it.0, outer.0, outer.1, it.2)

    -- what a part of this stretch begins within begins on this stretch too
    of_stretch : (part : Part) → Contains parts part → (outer : Part) (payload : List ℕ) → IsPart sought image outer payload → Avoids sought.geometry (passed ++ rest) outer → BeginsWithin outer part → Contains parts outer
    of_stretch part there outer payload is avoids within =
        let from : n ≤ first_page_of sought.geometry part = (are.sound part there).0 in
        let here : first_page_of sought.geometry part < next = (are.sound part there).1 in
        let begins = begins_before sought.geometry outer part within in
        are.complete outer payload is (⊎_elim
        (λ (l : first_page_of sought.geometry outer < n). let ends = was.ended outer payload is (omega arith) l (fewer outer avoids) in absurd (omega (arith, ends, from, begins.1)))
        (λ (le : n ≤ first_page_of sought.geometry outer). le)
        (cases_lt (first_page_of sought.geometry outer) n)) (omega (arith, begins.0, here)) avoids

    old_one : m ≡ a → OneOf a n passed → OneOf m next (passed ++ rest)
    old_one same (inl zero) = inl (same ∙ zero)
    old_one same (inr it) = inr (
      it.0,
      it.1,
      before_later it.0 it.1 it.2,
      λ outer payload is avoids within. within_later outer (it.3 outer payload is (fewer outer avoids) within),
      it.4 ∙ sym same,
    )

    new_one : m ≡ b → IsOfOneOutside parts b → OneOf m next (passed ++ rest)
    new_one same (inl zero) = inl (same ∙ zero)
    new_one same (inr it) =
        let part = found it.0 it.1 in inr (
          it.0,
          part.0,
          part.1,
          λ outer payload is avoids within. within_found outer (it.2 outer (of_stretch it.0 it.1 outer payload is avoids within) within),
          it.3 ∙ sym same,
        )

    old_rest : (part : Part) → (part.head.command ≤ a) ⊎ IsWithinBefore sought image n passed part → (part.head.command ≤ m) ⊎ IsWithinBefore sought image next (passed ++ rest) part
    old_rest part (inl few) = inl (omega (arith, few, greater))
    old_rest part (inr it) = inr (within_later part it)

    new_rest : (part : Part) → (part.head.command ≤ b) ⊎ IsWithinOneOf parts part → (part.head.command ≤ m) ⊎ IsWithinBefore sought image next (passed ++ rest) part
    new_rest part (inl few) = inl (omega (arith, few, greater))
    new_rest part (inr it) = inr (within_found part it)

    all_end : AreWithin sought image 0 next next (passed ++ rest)
    all_end part payload is from before avoids = ⊎_elim
        (λ (l : first_page_of sought.geometry part < n). let ends = was.ended part payload is from l (fewer part avoids) in omega (arith, ends, on))
        (λ (le : n ≤ first_page_of sought.geometry part). All-contains (λ (p : Part). first_page_of sought.geometry p + p.pages ≤ next) parts part ended (are.complete part payload is le before avoids))
        (cases_lt (first_page_of sought.geometry part) n)

    pub stretch_scanned : IsGreatestBefore sought image next (passed ++ rest) m
    stretch_scanned = record {
      sound = ⊎_elim
          (λ (old : m ≡ a). old_one old was.sound)
          (λ (new : m ≡ b). new_one new outside)
          (which_max a b m greater);
      greatest = λ part payload is before avoids. ⊎_elim
          (λ (l : first_page_of sought.geometry part < n). old_rest part (was.greatest part payload is l (fewer part avoids)))
          (λ (le : n ≤ first_page_of sought.geometry part). new_rest part (of.greatest part (are.complete part payload is le before avoids)))
          (cases_lt (first_page_of sought.geometry part) n);
      ended = all_end;
    }

-- ---- no number is made up

pub frames_more : (sought : Sought) (parts : List Part) (a b m : ℕ) → All IsOfFrame parts → AreSought sought parts → IsGreatestOf parts b → m ≡ max a b → IsOfAFrame sought a → IsOfAFrame sought m
frames_more sought parts a b m spelled taken of greater was = ⊎_elim
    (λ (old : m ≡ a). subst (IsOfAFrame sought) (sym old) was)
    (λ (new : m ≡ b). subst (IsOfAFrame sought) (sym new) (one of.sound))
    (which_max a b m greater)
  where
    one : (b ≡ 0) ⊎ ((part : Part) × Contains parts part × (part.head.command ≡ b)) → IsOfAFrame sought b
    one (inl zero) = inl zero
    one (inr it) = inr (it.0, All-contains IsOfFrame parts it.0 spelled it.1, All-contains (λ (part : Part). IsSought sought part.store) parts it.0 taken it.1, it.2)

-- ---- a stretch more, by what is said of its pages where they are read: no part was found before them
module _ (sought : Sought) (image : Image) (n next count : ℕ) (passed now : List ℕ) (none parts items : List Part) (fresh : none ≡ []) where
  pub still_apart : (AreApart sought.geometry 0 count n passed none → AreApart sought.geometry 0 count next now parts) → AreApart sought.geometry 0 count n passed [] → AreApart sought.geometry 0 count next now parts
  still_apart step was = step (subst (AreApart sought.geometry 0 count n passed) (sym fresh) was)

  pub more_scanned : (a b m : ℕ) → items ≡ parts → IsGreatestOf items b → (AllPairs IsBefore items → IsOfOneOutside items b) → m ≡ max a b → n < next → (rest : List ℕ) × (now ≡ passed ++ rest) × All (λ (p : ℕ). n ≤ p) rest
      → (AreFoundBefore sought image n n passed none → AreFoundBefore sought image n next now parts) → AreApart sought.geometry 0 count next now parts
      → IsGreatestBefore sought image n passed a → IsGreatestBefore sought image next now m
  more_scanned a b m value of outside greater on more step apart was =
      let are = step (subst (AreFoundBefore sought image n n passed) (sym fresh) (none_here sought image n passed)) in
      subst (λ (us : List ℕ). IsGreatestBefore sought image next us m) (sym more.1)
      (stretch_scanned sought image n next passed more.0 (omega (arith, on)) more.2 a b m parts was (subst (λ (us : List ℕ). AreFoundBefore sought image n next us parts) more.1 are)
      apart.ended (subst (λ (us : List ℕ). All (Avoids sought.geometry us) parts) more.1 apart.avoid) (subst (λ (ps : List Part). IsGreatestOf ps b) value of)
      (subst (λ (ps : List Part). AllPairs IsBefore ps → IsOfOneOutside ps b) value outside are.ordered) greater)

  pub still_frames : (a b m : ℕ) → items ≡ parts → IsGreatestOf items b → m ≡ max a b → (All IsOfFrame none → All IsOfFrame parts) → (AreSought sought none → AreSought sought parts) → IsOfAFrame sought a → IsOfAFrame sought m
  still_frames a b m value of greater spelled taken was =
      frames_more sought parts a b m (spelled (subst (All IsOfFrame) (sym fresh) (All-nil IsOfFrame))) (taken (subst (AreSought sought) (sym fresh) (All-nil (λ (part : Part). IsSought sought part.store))))
      (subst (λ (ps : List Part). IsGreatestOf ps b) value of) greater was

-- ---- after the last page, or before it

module _ (sought : Sought) (image : Image) (n count : ℕ) (passed : List ℕ) (scanned : Scanned) (sized : count ≡ length image) (was : IsGreatestBefore sought image n passed scanned.greatest) where
  left_there : (part : Part) (payload : List ℕ) → IsPartBefore sought image n passed part payload → IsPart sought (without passed image) part payload
  left_there part payload it = found_there sought image 0 passed part payload it.is (omega arith) it.avoids

  within_there : (part : Part) → IsWithinBefore sought image n passed part → IsWithinAPart sought (without passed image) part
  within_there part it = (it.0, it.1, left_there it.0 it.1 it.2, it.3)

  outermost_there : (part : Part) → IsOutermostBefore sought image n passed part → IsOutermost sought (without passed image) part
  outermost_there part is outer payload lies within =
      let it = lies_there sought image 0 passed outer payload lies in
      within_there outer (is outer payload it.0 it.2 within)

  number_of_one : (scanned.greatest ≡ 0)
      ⊎ ((part : Part) × (payload : List ℕ) × IsPartBefore sought image n passed part payload × IsOutermostBefore sought image n passed part × (part.head.command ≡ scanned.greatest))
      → IsOfAPart sought (without passed image) scanned.greatest
  number_of_one (inl zero) = inl zero
  number_of_one (inr it) = inr (it.0, it.1, left_there it.0 it.1 it.2, outermost_there it.0 it.3, it.4)

  within_left : (part : Part) → (part.head.command ≤ scanned.greatest) ⊎ IsWithinBefore sought image n passed part → (part.head.command ≤ scanned.greatest) ⊎ IsWithinAPart sought (without passed image) part
  within_left part (inl few) = inl few
  within_left part (inr it) = inr (within_there part it)

  pub scan_of : (scanned.is_whole ≡ true → look_end sought.geometry count ≤ n) → IsScanOf sought (without passed image) scanned
  scan_of ends = record {
    sound = number_of_one was.sound;
    greatest = λ whole part payload is.
        let it = lies_there sought image 0 passed part payload is in
        let end = ends whole in
        let begins = before_end sought image part payload it.0 in
        within_left part (was.greatest part payload it.0 (omega (arith, begins, end, sized)) it.2);
  }

-- a format that has no heads has no parts
pub none_scanned : (sought : Sought) (image : Image) (scanned : Scanned) → scanned.greatest ≡ 0 → ((part : Part) (payload : List ℕ) → IsPart sought image part payload → ⊥) → IsScanOf sought image scanned
none_scanned sought image scanned zero none = record {
  sound = inl zero;
  greatest = λ whole part payload is. absurd (none part payload is);
}
