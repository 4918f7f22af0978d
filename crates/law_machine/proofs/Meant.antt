-- Marks of frames.
use Rattle.std.proofs.Common.{◌==◌, ◌≡◌, ℕ, zero, suc, ◌+◌, ◌<◌, ◌≤◌, ◌%◌, Bool, true, List, [], ◌∷◌, length, Some, None, if◌then◌else◌, eq-eqb, eqb-true, refl, ap, ◌∙◌, arith, ◌&&◌, subst, Option, false}
use Rattle.law_machine.specs.Element.{Locator}
use Rattle.law_machine.specs.Apart.{same_place}
use Rattle.law_machine.proofs.Carries.{and_left, and_right, and_true}
use Rattle.law_machine.specs.Device.{FitsMark, IsShape, Page, Shape, is_meant, mark_of}
use Rattle.law_machine.specs.Formats.{Formats, FrameKind, Stand, fault_for, fault_of_meant, is_long_frame, pages_from, refused_or}
use Rattle.law_machine.specs.Frames.{IsFormat}
use Rattle.law_machine.specs.Meant.{Mark, first_mark, same_mark}
use Rattle.law_machine.specs.Refusal.{BadLength, Misplaced, Refusal}

pub own_mark : (a : Mark) → same_mark a a ≡ true
own_mark a = eq-eqb a a refl

-- two locators are one where each of their numbers is one
pub one_place : (a b : Locator) → same_place a b ≡ true → a ≡ b
one_place a b is =
    let numbers : Bool = (a.extent == b.extent) && ((a.page == b.page) && (a.generation == b.generation)) in
    let all : numbers ≡ true = and_right (same_mark a.mark b.mark) numbers is in
    let rest = and_right (a.extent == b.extent) ((a.page == b.page) && (a.generation == b.generation)) all in
    let e : a.extent ≡ b.extent = eqb-true _ _ (and_left (a.extent == b.extent) _ all) in
    let p : a.page ≡ b.page = eqb-true _ _ (and_left (a.page == b.page) _ rest) in
    let g : a.generation ≡ b.generation = eqb-true _ _ (and_right (a.page == b.page) _ rest) in
    let m : a.mark ≡ b.mark = eqb-true a.mark b.mark (and_left (same_mark a.mark b.mark) numbers is) in
    λ i. record { extent = e i; page = p i; generation = g i; mark = m i }

pub own_place : (a b : Locator) → a ≡ b → same_place a b ≡ true
own_place a b is = subst (λ (l : Locator). same_place a l ≡ true) is
    (and_true (same_mark a.mark a.mark) _ (own_mark a.mark)
    (and_true (a.extent == a.extent) _ (eq-eqb a.extent a.extent refl)
    (and_true (a.page == a.page) (a.generation == a.generation) (eq-eqb a.page a.page refl)
    (eq-eqb a.generation a.generation refl))))

-- the number of eight bytes is no greater than it may be
pub digest_fits : (n : ℕ) → n % 18446744073709551616 ≤ 18446744073709551615
digest_fits n = omega arith

first_fits : (greatest : ℕ) (mark : Page → Mark) → ((page : Page) → mark page ≤ greatest) → (pages : List Page)
    → first_mark mark pages ≤ greatest
first_fits greatest mark fits [] = omega arith
first_fits greatest mark fits (page ∷ pages) = fits page

-- the mark of a frame can be
pub frame_fits : (S : Shape) → IsShape S → (pages : List Page) → FitsMark S (mark_of S pages)
frame_fits S shape pages = first_fits S.greatest_mark S.mark shape.marks pages

-- the pages that begin with a frame have its mark
pub stands_first : (S : Shape) (F : Formats) (img : ℕ → Page) (e i count : ℕ) (bs : List Page) → 0 < length bs
    → length bs ≤ count → Stand S F img e i bs → mark_of S (pages_from S F img e i count) ≡ mark_of S bs
stands_first S F img e i count [] some fits stand = absurd (omega arith)
stands_first S F img e i zero (b ∷ bs) some fits stand = absurd (omega arith)
stands_first S F img e i (suc count) (b ∷ bs) some fits stand =
    ap S.mark stand.0

-- and are long enough where the frame is
long_first : (S : Shape) (F : Formats) (img : ℕ → Page) (e i count : ℕ) (bs : List Page) → 0 < length bs
    → length bs ≤ count → Stand S F img e i bs → is_long_frame F (pages_from S F img e i count) ≡ is_long_frame F bs
long_first S F img e i count [] some fits stand = absurd (omega arith)
long_first S F img e i zero (b ∷ bs) some fits stand = absurd (omega arith)
long_first S F img e i (suc count) (b ∷ bs) some fits stand = ap F.is_long stand.0

if_true : {A : Type 0} (b : Bool) (x y : A) → b ≡ true → (if b then x else y) ≡ x
if_true b x y is = rw is refl

-- where the frame stands that is meant and long enough there is no fault
pub none_for : (S : Shape) (F : Formats) → IsFormat S F → (img : ℕ → Page) (e i count : ℕ) (kind : FrameKind)
    (payload : List ℕ) (m : Mark) → length (F.frame kind payload) ≤ count → i + count ≤ S.pages
    → Stand S F img e i (F.frame kind payload) → is_meant S m (F.frame kind payload) ≡ true
    → is_long_frame F (F.frame kind payload) ≡ true → fault_for S F kind m (pages_from S F img e i count) ≡ None
none_for S F format img e i count kind payload m fits inside stand meant long =
    let pages : List Page = pages_from S F img e i count in
    let some : 0 < length (F.frame kind payload) = format.some_page kind payload in
    if_true (is_long_frame F pages) (fault_of_meant S F kind m pages) (Some (refused_or (fault_of_meant S F kind m pages) BadLength))
    (long_first S F img e i count (F.frame kind payload) some fits stand ∙ long)
    ∙ if_true (is_meant S m pages) (F.fault kind pages) (Some (refused_or (F.fault kind pages) Misplaced))
    (ap (λ (a : Mark). same_mark a m) (stands_first S F img e i count (F.frame kind payload) some fits stand) ∙ meant)
    ∙ format.no_fault img e i count kind payload fits inside stand

-- where another frame stands it is told as misplaced, long enough or not
other_told : (long meant : Bool) (fault : Option Refusal) → meant ≡ false → fault ≡ None
    → (if long then (if meant then fault else Some (refused_or fault Misplaced))
    else Some (refused_or (if meant then fault else Some (refused_or fault Misplaced)) BadLength)) ≡ Some Misplaced
other_told true meant fault other none = rw (other, none) refl
other_told false meant fault other none = rw (other, none) refl

pub other_for : (S : Shape) (F : Formats) → IsFormat S F → (img : ℕ → Page) (e i count : ℕ) (kind : FrameKind)
    (payload : List ℕ) (m : Mark) → length (F.frame kind payload) ≤ count → i + count ≤ S.pages
    → Stand S F img e i (F.frame kind payload) → is_meant S m (F.frame kind payload) ≡ false
    → fault_for S F kind m (pages_from S F img e i count) ≡ Some Misplaced
other_for S F format img e i count kind payload m fits inside stand other =
    let pages : List Page = pages_from S F img e i count in
    other_told (is_long_frame F pages) (is_meant S m pages) (F.fault kind pages)
    (ap (λ (a : Mark). same_mark a m)
    (stands_first S F img e i count (F.frame kind payload) (format.some_page kind payload) fits stand) ∙ other)
    (format.no_fault img e i count kind payload fits inside stand)

-- where the frame stands that is meant, and is too short, that is told
short_told : (long meant : Bool) (fault : Option Refusal) → long ≡ false → meant ≡ true → fault ≡ None
    → (if long then (if meant then fault else Some (refused_or fault Misplaced))
    else Some (refused_or (if meant then fault else Some (refused_or fault Misplaced)) BadLength)) ≡ Some BadLength
short_told long meant fault short is none = rw (short, is, none) refl

pub short_for : (S : Shape) (F : Formats) → IsFormat S F → (img : ℕ → Page) (e i count : ℕ) (kind : FrameKind)
    (payload : List ℕ) (m : Mark) → length (F.frame kind payload) ≤ count → i + count ≤ S.pages
    → Stand S F img e i (F.frame kind payload) → is_meant S m (F.frame kind payload) ≡ true
    → is_long_frame F (F.frame kind payload) ≡ false → fault_for S F kind m (pages_from S F img e i count) ≡ Some BadLength
short_for S F format img e i count kind payload m fits inside stand meant short =
    let pages : List Page = pages_from S F img e i count in
    let some : 0 < length (F.frame kind payload) = format.some_page kind payload in
    short_told (is_long_frame F pages) (is_meant S m pages) (F.fault kind pages)
    (long_first S F img e i count (F.frame kind payload) some fits stand ∙ short)
    (ap (λ (a : Mark). same_mark a m) (stands_first S F img e i count (F.frame kind payload) some fits stand) ∙ meant)
    (format.no_fault img e i count kind payload fits inside stand)
