-- An extent that was marked, then not, and then again, is as it was.
use Rattle.std.proofs.Common.{◌≡◌, ◌∙◌, ◌==◌, ℕ, suc, Bool, List, [], ◌∷◌, false, true, if◌then◌else◌, get_or, length, refl, sym, ap, arith}
use Rattle.std.proofs.lemmas.Bool.Decides.{nat_tests}
use Rattle.law_machine.specs.Device.{Shape}
use Rattle.law_machine.specs.Extents.{Extents, marked}
use Rattle.cs_extent.specs.State.{IsWhole, State, extents_of, shape}

-- lists of one length with the same members are one
pub one_list : {T : Type 0} (d : T) (xs ys : List T) → length xs ≡ length ys → ((i : ℕ) → get_or xs i d ≡ get_or ys i d) → xs ≡ ys
one_list d [] [] size each = refl
one_list d [] (y ∷ ys) size each = absurd (cc size)
one_list d (x ∷ xs) [] size each = absurd (cc size)
one_list d (x ∷ xs) (y ∷ ys) size each = λ i. each 0 i ∷ one_list d xs ys (omega (arith, size)) (λ j. each (suc j)) i

-- two whole states of one shape whose extents are the same are one
pub one_state : (s t : State) → IsWhole s → IsWhole t → shape s ≡ shape t → extents_of s ≡ extents_of t → s ≡ t
one_state s t ws wt shapes same = λ i. record {
  format = format i;
  pages = pages i;
  sections = sections i;
  written = written i;
  resets = resets i;
  swept = swept i;
  open_extent = ap (λ (x : Extents). x.open_extent) same i;
  of_runs = of_runs i;
  found = found i;
  fresh = ap (λ (x : Extents). x.fresh) same i;
  last = ap (λ (x : Extents). x.last) same i;
}
  where
    format : s.format ≡ t.format
    format = ap (λ (S : Shape). S.format) shapes

    pages : s.pages ≡ t.pages
    pages = ap (λ (S : Shape). S.pages) shapes

    sections : s.sections ≡ t.sections
    sections = ap (λ (S : Shape). S.sections) shapes

    size : length s.written ≡ length t.written
    size = ap (λ (S : Shape). S.extents) shapes

    written : s.written ≡ t.written
    written = one_list (0, 0) s.written t.written size
        (λ e i. (ap (λ (x : Extents). x.pointer e) same i, ap (λ (x : Extents). x.generation e) same i))

    resets : s.resets ≡ t.resets
    resets = one_list 0 s.resets t.resets (ws.all_resets ∙ size ∙ sym wt.all_resets) (λ e. ap (λ (x : Extents). x.reset e) same)

    swept : s.swept ≡ t.swept
    swept = one_list false s.swept t.swept (ws.all_swept ∙ size ∙ sym wt.all_swept) (λ e. ap (λ (x : Extents). x.swept e) same)

    of_runs : s.of_runs ≡ t.of_runs
    of_runs = one_list false s.of_runs t.of_runs (ws.all_kinds ∙ size ∙ sym wt.all_kinds) (λ e. ap (λ (x : Extents). x.of_runs e) same)

    found : s.found ≡ t.found
    found = one_list 0 s.found t.found (ws.all_found ∙ size ∙ sym wt.all_found) (λ e. ap (λ (x : Extents). x.found e) same)

-- a mark that is taken off and set again
pub marked_again : (x : Extents) (e : ℕ) → x.swept e ≡ true → marked (marked x e false) e true ≡ x
marked_again x e is = λ i. record x { swept = λ d. here d i }
  where
    here : (d : ℕ) → (if d == e then true else (if d == e then false else x.swept d)) ≡ x.swept d
    here d = split (d == e) refl
      where
        split : (b : Bool) → (d == e) ≡ b → (if b then true else (if b then false else x.swept d)) ≡ x.swept d
        split true at = let same : d ≡ e = grind (arith, nat_tests) in sym (ap x.swept same ∙ is)
        split false at = refl

pub restored : (x y z : State) (e : ℕ) → IsWhole x → IsWhole z → (extents_of x).swept e ≡ true → extents_of y ≡ marked (extents_of x) e false → extents_of z ≡ marked (extents_of y) e true
    → shape y ≡ shape x → shape z ≡ shape y → z ≡ x
restored x y z e whole_x whole_z is off on first second =
    one_state z x whole_z whole_x (second ∙ first) (on ∙ ap (λ (w : Extents). marked w e true) off ∙ marked_again (extents_of x) e is)
