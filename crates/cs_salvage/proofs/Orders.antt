-- The order of puts.
use Rattle.std.proofs.Common.{◌≡◌, ◌∙◌, ◌⊎◌, ℕ, ◌<◌, false, List, [], ◌∷◌, get_or, refl, sym, ap, ap₂, subst, inl, inr, ⊎_elim, arith, Ordering, Less, Equal, Greater, is_lt, nat_cmp}
use Rattle.std.specs.Cmp.{IsTotalOrder}
use Rattle.std.specs.Cmp.Lexicographic.{slice_cmp}
use Rattle.std.specs.List.Sorted.{IsSortedBy}
use Rattle.std.specs.Ordering.{MatchOrdering, ordering_reverse, ordering_then}
use Rattle.std.proofs.lemmas.Cmp.{back_total, nat_cmp_total, nat_list_cmp_total, on_total, ranked, then_total, tied_itself}
use Rattle.std.proofs.lemmas.List.Sorted.{ranks_by, sorted_far}
use Rattle.cs_frame.specs.declared.identifiers.ShardId.{ShardId}
use Rattle.cs_salvage.specs.declared.parts.Part.{Part}
use Rattle.cs_salvage.specs.declared.parts.Put.{Put}
use Rattle.cs_salvage.specs.Puts.{AreInOrder, Precedes, put_cmp}
use Rattle.cs_salvage.specs.Shards.{ComesBefore, put_of}

pub put_total : IsTotalOrder put_cmp
put_total = then_total (on_total (λ (put : Put). put.id.0) nat_list_cmp_total) (on_total (λ (put : Put). put.command) (back_total nat_cmp_total))

pub precedes_on : (a b c : Put) → Precedes a b → Precedes b c → Precedes a c
precedes_on a b c one two = put_total.trans a b c one two

pub not_itself : (a : Put) → Precedes a a → ⊥
not_itself a is = let tied = tied_itself put_total a in absurd (cc (tied, is))

pub comes_on : (a b c : ShardId) → ComesBefore a b → ComesBefore b c → ComesBefore a c
comes_on a b c one two = nat_list_cmp_total.trans a.0 b.0 c.0 one two

pub not_before_itself : (a : ShardId) → ComesBefore a a → ⊥
not_before_itself a is = let tied = tied_itself nat_list_cmp_total a.0 in absurd (cc (tied, is))

-- what ties is the same
same_number : (x y : ℕ) → nat_cmp x y ≡ Equal → x ≡ y
same_number x y is = subst (λ (o : Ordering). MatchOrdering o (x < y) (x ≡ y) (y < x)) is (ranked x y (nat_cmp x y) refl)

less_number : (x y : ℕ) → nat_cmp x y ≡ Less → x < y
less_number x y is = subst (λ (o : Ordering). MatchOrdering o (x < y) (x ≡ y) (y < x)) is (ranked x y (nat_cmp x y) refl)

then_equal : (a b : Ordering) → ordering_then a b ≡ Equal → (a ≡ Equal) × (b ≡ Equal)
then_equal Less b is = absurd (cc is)
then_equal Equal b is = (refl, is)
then_equal Greater b is = absurd (cc is)

then_less : (a b : Ordering) → ordering_then a b ≡ Less → (a ≡ Less) ⊎ ((a ≡ Equal) × (b ≡ Less))
then_less Less b is = inl refl
then_less Equal b is = inr (refl, is)
then_less Greater b is = absurd (cc is)

same_list : (xs ys : List ℕ) → slice_cmp nat_cmp xs ys ≡ Equal → xs ≡ ys
same_list [] [] is = refl
same_list [] (y ∷ ys) is = absurd (cc is)
same_list (x ∷ xs) [] is = absurd (cc is)
same_list (x ∷ xs) (y ∷ ys) is =
    let both = then_equal (nat_cmp x y) (slice_cmp nat_cmp xs ys) is in
    ap₂ (λ (z : ℕ) (zs : List ℕ). z ∷ zs) (same_number x y both.0) (same_list xs ys both.1)

pub same_id : (a b : ShardId) → slice_cmp nat_cmp a.0 b.0 ≡ Equal → a ≡ b
same_id a b is = ap (λ (bytes : List ℕ). record { 0 = bytes }) (same_list a.0 b.0 is)

same_put : (a b : Put) → put_cmp a b ≡ Equal → a ≡ b
same_put a b is =
    let both = then_equal (slice_cmp nat_cmp a.id.0 b.id.0) (nat_cmp b.command a.command) is in
    ap₂ (λ (id : ShardId) (command : ℕ). record { id = id; command = command }) (same_id a.id b.id both.0) (sym (same_number b.command a.command both.1))

-- a put before another is of an identifier before it, or a newer one of the same
pub precedes_by : (a b : Put) → Precedes a b → ComesBefore a.id b.id ⊎ ((a.id ≡ b.id) × (b.command < a.command))
precedes_by a b is = ⊎_elim
    (λ (h : slice_cmp nat_cmp a.id.0 b.id.0 ≡ Less). inl h)
    (λ (h : (slice_cmp nat_cmp a.id.0 b.id.0 ≡ Equal) × (nat_cmp b.command a.command ≡ Less)). inr (same_id a.id b.id h.0, less_number b.command a.command h.1))
    (then_less (slice_cmp nat_cmp a.id.0 b.id.0) (nat_cmp b.command a.command) is)

-- one that isn't behind another is before it or the same
not_behind : (a b : Put) → is_lt (put_cmp b a) ≡ false → Precedes a b ⊎ (a ≡ b)
not_behind a b is = go (put_cmp b a) refl is
  where
    go : (o : Ordering) → put_cmp b a ≡ o → is_lt o ≡ false → Precedes a b ⊎ (a ≡ b)
    go Less e h = absurd (cc h)
    go Equal e h = inr (sym (same_put b a e))
    go Greater e h = inl (put_total.antisymm a b ∙ ap ordering_reverse e)

-- what was sorted is in order
pub in_order : (parts : List Part) → IsSortedBy (λ a b. is_lt (put_cmp (put_of a) (put_of b))) parts → AreInOrder parts
in_order parts sorted i j d less inside =
    not_behind (put_of (get_or parts i d)) (put_of (get_or parts j d))
    (sorted_far (λ (a b : Part). is_lt (put_cmp (put_of a) (put_of b))) (ranks_by put_total put_of) parts sorted i j d (omega (arith, less)) inside)
