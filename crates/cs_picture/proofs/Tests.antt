-- The test of what is named, and the set.
use Rattle.std.proofs.Common.{◌≡◌, ◌≤◌, ◌↔◌, ℕ, List, Bool, true, false, ◌&&◌, ◌||◌, nat_le, sym, subst, refl, inl, inr, ◌⊎◌}
use Rattle.std.specs.Prelude.{Any}
use Rattle.std.specs.List.{list_any}
use Rattle.std.proofs.lemmas.Bool.{leb-true, le-leb}
use Rattle.std.proofs.lemmas.List.Folds.{Any-from_list_any, list_any-from_Any}
use Rattle.cs_deps.specs.declared.elements.Element.{Element}
use Rattle.cs_deps.specs.declared.elements.Element.TheVariants.{Plain, Version}
use Rattle.cs_deps.specs.declared.spans.Span.{Span}
use Rattle.cs_deps.specs.Named.{IsInSpan, IsInSpans, Named, Names, NamesPlain}
use Rattle.cs_picture.specs.Picture.{is_in, is_named}

same_test : (a b : Bool) → (a ≡ true → b ≡ true) → (b ≡ true → a ≡ true) → a ≡ b
same_test true b f g = sym (f refl)
same_test false true f g = g refl
same_test false false f g = refl

pub either : (a b : Bool) → (a || b) ≡ true → (a ≡ true) ⊎ (b ≡ true)
either true b h = inl refl
either false b h = inr h

pub both : (a b : Bool) → (a && b) ≡ true → (a ≡ true) × (b ≡ true)
both true b h = (refl, h)
both false true h = (h, refl)
both false false h = (h, h)

first_of_two : (a b : Bool) → a ≡ true → (a || b) ≡ true
first_of_two a b h = subst (λ (c : Bool). (c || b) ≡ true) (sym h) refl

last_of_two : (a b : Bool) → b ≡ true → (a || b) ≡ true
last_of_two true b h = refl
last_of_two false b h = h

pub are_both : (a b : Bool) → a ≡ true → b ≡ true → (a && b) ≡ true
are_both a b h k = subst (λ (c : Bool). (c && b) ≡ true) (sym h) k

pub between_from : (m n o : ℕ) → (nat_le m n && nat_le n o) ≡ true → (m ≤ n) × (n ≤ o)
between_from m n o h = let p = both (nat_le m n) (nat_le n o) h in (leb-true m n p.0, leb-true n o p.1)

pub from_between : (m n o : ℕ) → (m ≤ n) × (n ≤ o) → (nat_le m n && nat_le n o) ≡ true
from_between m n o h = are_both (nat_le m n) (nat_le n o) (le-leb m n h.0) (le-leb n o h.1)

in_spans_from : (n : ℕ) (spans : List Span) → list_any (is_in n) spans ≡ true → IsInSpans spans n
in_spans_from n spans h = let a = Any-from_list_any (is_in n) spans h in (a.0, a.1, a.2, a.3, between_from a.1.first n a.1.last a.4)

from_in_spans : (n : ℕ) (spans : List Span) → IsInSpans spans n → list_any (is_in n) spans ≡ true
from_in_spans n spans a = list_any-from_Any (is_in n) spans (a.0, a.1, a.2, a.3, from_between a.1.first n a.1.last a.4)

-- a plain write passes the test that is named
pub plain_from : (d : Named) (n : ℕ) → is_named d (Plain n) ≡ true → NamesPlain d.through d.spans n
plain_from d n h = go (either (nat_le 1 n && nat_le n d.through) (list_any (is_in n) d.spans) h)
  where
    go : ((nat_le 1 n && nat_le n d.through) ≡ true) ⊎ (list_any (is_in n) d.spans ≡ true) → NamesPlain d.through d.spans n
    go (inl a) = inl (between_from 1 n d.through a)
    go (inr b) = inr (in_spans_from n d.spans b)

-- the converse
pub from_plain : (d : Named) (n : ℕ) → NamesPlain d.through d.spans n → is_named d (Plain n) ≡ true
from_plain d n (inl a) = first_of_two (nat_le 1 n && nat_le n d.through) (list_any (is_in n) d.spans) (from_between 1 n d.through a)
from_plain d n (inr b) = last_of_two (nat_le 1 n && nat_le n d.through) (list_any (is_in n) d.spans) (from_in_spans n d.spans b)

-- whether a plain write is named
pub plain_test : (d : Named) (x : Element) (n : ℕ) (b : Bool) → x ≡ Plain n → (b ≡ true) ↔ Names d x → b ≡ is_named d x
plain_test d x n b e h = subst (λ (y : Element). ((b ≡ true) ↔ Names d y) → b ≡ is_named d y) (sym e)
    (λ k. same_test b (is_named d (Plain n)) (λ t. from_plain d n (k.0 t)) (λ t. k.1 (plain_from d n t))) h
