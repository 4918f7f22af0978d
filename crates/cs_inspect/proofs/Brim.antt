-- The extent that is swept next, up to the brim.
use Rattle.std.proofs.Common.{◌≡◌, ◌≢◌, ◌∙◌, inl, inr, ◌≤◌, ◌<◌, ◌+◌, ◌-◌, ◌^◌, ◌++◌, ◌∷◌, [], ℕ, zero, suc, min, max, Bool, true, false, List, Option, None, Some, MatchOption, unwrap_or, refl, sym, ap, subst, arith, get_or, length, if◌then◌else◌}
use Rattle.std.specs.Prelude.{slice_get}
use Rattle.std.proofs.lemmas.Option.{get_or_from_slice_get, same_Some, slice_get_within}
use Rattle.cs_inspect.specs.declared.surveys.ExtentUse.{ExtentUse}
use Rattle.cs_inspect.specs.Brim.{HasDead, IsFewestDead, IsNext, IsSureFewest, NoneNext, NoneSure, NothingDead, greatest_in, sum_below, sure_at}
use Rattle.cs_inspect.specs.Fewest.{IsFewest, IsFewestLive, IsFewestOf, IsSought, NoTwoFit, NoneSought}
use Rattle.cs_inspect.specs.Uses.{Head, pages_in}

-- ---- the greatest chunk

pub greatest_last : (hs : List Head) (h : Head) → greatest_in (hs ++ h ∷ []) ≡ max (greatest_in hs) (pages_in h.1)
greatest_last [] h = zero_max (pages_in h.1)
  where
    zero_max : (n : ℕ) → max n 0 ≡ max 0 n
    zero_max n = omega arith
greatest_last (g ∷ hs) h = turned (pages_in g.1) (greatest_in (hs ++ h ∷ [])) (greatest_in hs) (pages_in h.1) (greatest_last hs h)
  where
    turned : (a b c d : ℕ) → b ≡ max c d → max a b ≡ max (max a c) d
    turned a b c d is = omega (arith, is)

-- one head more is read
pub greatest_read : (hs : List Head) (e : ℕ) (x : Option ℕ) (greatest pages new : ℕ) → greatest ≡ greatest_in hs → pages ≡ unwrap_or x 0 → new ≡ max greatest pages
    → new ≡ greatest_in (hs ++ (e, x) ∷ [])
greatest_read hs e x greatest pages new was count is =
    is ∙ ap (λ (n : ℕ). max n pages) was ∙ ap (λ (n : ℕ). max (greatest_in hs) n) (count ∙ same x) ∙ sym (greatest_last hs (e, x))
  where
    same : (y : Option ℕ) → unwrap_or y 0 ≡ pages_in y
    same None = refl
    same (Some n) = refl

-- ---- dead pages

dead_sought : (uses : List ExtentUse) (e : ℕ) (used : ExtentUse) → IsSought uses None 1 e used → HasDead uses e used
dead_sought uses e used is = (is.0, is.2, omega (arith, is.3))

sought_dead : (uses : List ExtentUse) (e : ℕ) (used : ExtentUse) → HasDead uses e used → IsSought uses None 1 e used
sought_dead uses e used has = (has.0, not_none, has.1, omega (arith, has.2))
  where
    not_none : None ≢ Some e
    not_none is = absurd (cc is)

pub fewest_dead : (uses : List ExtentUse) (e : ℕ) → IsFewestOf (IsSought uses None 1) e → IsFewestDead uses e
fewest_dead uses e best = record {
  its = best.its;
  there = dead_sought uses e best.its best.there;
  fewest = λ k used has. best.fewest k used (sought_dead uses k used has);
}

pub none_dead : (uses : List ExtentUse) → NoneSought uses None 1 → NothingDead uses
none_dead uses none e used has = none e used (sought_dead uses e used has)

-- ---- the pages that are sure

-- those of the first i extents
abbrev pub IsSureTo : List ExtentUse → (pages greatest x i sure : ℕ) → Type 0
IsSureTo uses pages greatest x i sure = (i ≤ length uses) × (sure ≡ min (sum_below (sure_at uses pages greatest x) i) (2 ^ 64 - 1))

pub sure_more : (uses : List ExtentUse) (pages greatest x i sure more new : ℕ) → IsSureTo uses pages greatest x i sure → i < length uses
    → more ≡ sure_at uses pages greatest x i → new ≡ min (sure + more) (2 ^ 64 - 1) → IsSureTo uses pages greatest x (i + 1) new
sure_more uses pages greatest x i sure more new was lt one is = subst (λ (k : ℕ). IsSureTo uses pages greatest x k new) next
    (omega (arith, lt), capped sure (sum_below (sure_at uses pages greatest x) i) more (sure_at uses pages greatest x i) new (2 ^ 64 - 1) was.1 one is)
  where
    next : suc i ≡ i + 1
    next = omega arith

    capped : (s a w b n m : ℕ) → s ≡ min a m → w ≡ b → n ≡ min (s + w) m → n ≡ min (b + a) m
    capped s a w b n m p q r = omega (arith, p, q, r)

pub sure_all : (uses : List ExtentUse) (pages greatest x i sure : ℕ) → length uses ≤ i → IsSureTo uses pages greatest x i sure
    → sure ≡ min (sum_below (sure_at uses pages greatest x) (length uses)) (2 ^ 64 - 1)
sure_all uses pages greatest x i sure enough was = subst (λ (k : ℕ). sure ≡ min (sum_below (sure_at uses pages greatest x) k) (2 ^ 64 - 1)) same was.1
  where
    same : i ≡ length uses
    same = omega (arith, enough, was.0)

-- ---- whether a sweep is sure to gain

module _ (uses : List ExtentUse) (pages greatest : ℕ) where
  pub none_sought : NoneSought uses None 0 → NoneSure uses pages greatest
  none_sought none = inl (λ e used is. none e used (is.0, is.1, is.2, omega arith))

  module _ (extent : ℕ) (sought : IsFewestOf (IsSought uses None 0) extent) where
    abbrev best : IsFewest uses None extent
    best = record {
      its = sought.its;
      there = (sought.there.0, sought.there.1, sought.there.2);
      fewest = λ k used is. sought.fewest k used (is.0, is.1, is.2, omega arith);
    }

    module _ (d : ExtentUse) (live : ℕ) (reads : live ≡ (get_or uses extent d).live) where
      its_live : live ≡ sought.its.live
      its_live = reads ∙ ap (λ (u : ExtentUse). u.live) (get_or_from_slice_get uses extent sought.its d sought.there.0)

      pub nothing_lives : live ≡ 0 → NoneSure uses pages greatest
      nothing_lives none = inr (extent, best, λ sure. let some : 0 < sought.its.live = sure.0 in absurd (omega (arith, its_live, none, some)))

      pub is_sure : live ≢ 0 → live ≤ sum_below (sure_at uses pages greatest extent) (length uses) → IsSureFewest uses pages greatest extent
      is_sure some le = (best, (positive sought.its.live (λ zero_is. some (its_live ∙ zero_is)), omega (arith, le, its_live)))
        where
          positive : (n : ℕ) → n ≢ 0 → 0 < n
          positive zero not = absurd (not refl)
          positive (suc n) not = omega arith

      pub not_sure : sum_below (sure_at uses pages greatest extent) (length uses) < live → NoneSure uses pages greatest
      not_sure lt = inr (
        extent,
        best,
        λ sure.
            let enough : sought.its.live ≤ sum_below (sure_at uses pages greatest extent) (length uses) = sure.1 in
            absurd (omega (arith, enough, its_live, lt)),
      )

-- ---- which is the next

module _ (uses : List ExtentUse) (last : Option ℕ) (pages greatest : ℕ) where
  pub next_of_two : (e : ℕ) → IsFewestLive uses last pages e → IsNext uses last pages greatest e
  next_of_two e two = inl two

  pub next_dead : (e : ℕ) → NoTwoFit uses pages → IsFewestOf (IsSought uses None 1) e → IsNext uses last pages greatest e
  next_dead e no_two best = inr (inl (no_two, fewest_dead uses e best))

  pub next_sure : (found : Option ℕ) → NoTwoFit uses pages → NoneSought uses None 1 → MatchOption found (NoneSure uses pages greatest) (IsSureFewest uses pages greatest)
      → MatchOption found (NoneNext uses pages greatest) (IsNext uses last pages greatest)
  next_sure None no_two none unsure = record { no_two = no_two; nothing = none_dead uses none; unsure = unsure }
  next_sure (Some e) no_two none sure = inr (inr (no_two, none_dead uses none, sure))
