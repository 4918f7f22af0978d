-- A sweep that is sure to gain an extent gains one.
use Rattle.std.proofs.Common.{◌≡◌, ◌≢◌, inl, inr, ⊎_elim, ℕ, ◌+◌, ◌-◌, ◌<◌, ◌≤◌, ◌==◌, ◌&&◌, Bool, true, false, List, [], ◌∷◌, map, Option, Some, None, if◌then◌else◌, le_of_eq, le_trans, refl, sym, ap, ◌∙◌, subst, arith}
use Rattle.std.specs.Prelude.{is_none}
use Rattle.std.proofs.Math.Nat.{le-max_left, le-max_right}
use Rattle.std.proofs.lemmas.Bool.{cases_eq, cases_lt, eq-eqb, ne_eqb, true≢false}
use Rattle.law_machine.specs.Device.{Shape}
use Rattle.law_machine.specs.Lists.{◌∈◌}
use Rattle.law_room.specs.Brim.{IsSure, greatest_chunk, sum_to}
use Rattle.law_room.specs.Events.{GoesForCopy, TakesCopy, settle, with_copy}
use Rattle.law_room.specs.Invariant.{Keeps}
use Rattle.law_room.specs.Rooms.{Chunk, Holding, OfChunks, Room, Sweep, any_on, chunk_extents, how_many, is_of_chunks, left_pages, live_pages, one_if}
use Rattle.law_room.specs.Sweeps.{IsSwept}
use Rattle.law_room.proofs.Chunks.{in_middle, left_le, middle_in}
use Rattle.law_room.proofs.Counts.{chunks_is}
use Rattle.law_room.proofs.Gaining.{IsKept, IsSweptWith, noted, swept_with}
use Rattle.law_room.proofs.Given.{holds_here, holds_there, kind_stays, pointer_here, pointer_there}
use Rattle.law_room.proofs.Moving.{IsCopied, copied_to, left_before}
use Rattle.law_room.proofs.Places.{at_most_all, left_here}
use Rattle.law_room.proofs.Weights.{sum_more, sum_nothing, sum_some}

pub at_most_greatest : (cs : List Chunk) (c : Chunk) → c ∈ cs → c.pages ≤ greatest_chunk cs
at_most_greatest [] c none = absurd none
at_most_greatest (x ∷ cs) c (inl is) = subst (λ (n : ℕ). n ≤ greatest_chunk (x ∷ cs)) (ap (λ (y : Chunk). y.pages) (sym is))
    (le-max_left x.pages (greatest_chunk cs))
at_most_greatest (x ∷ cs) c (inr there) = le_trans (at_most_greatest cs c there) (le-max_right x.pages (greatest_chunk cs))

-- what is left of P pages after p, but for g - 1
abbrev pub spare_of : (P g : ℕ) → Bool → ℕ → ℕ
spare_of P g chunks p = if chunks then (P - p) - (g - 1) else 0

-- so of an extent other than x
abbrev pub sure_of : (P g x e : ℕ) → Bool → ℕ → ℕ
sure_of P g x e chunks p = if e == x then 0 else spare_of P g chunks p

-- k pages more take k of them at most
spare_less : (P g k p : ℕ) (b : Bool) → spare_of P g b p ≤ spare_of P g true (p + k) + k
spare_less P g k p true = omega arith
spare_less P g k p false = omega arith

sure_less : (P g x e k p : ℕ) (b : Bool) → sure_of P g x e b p ≤ sure_of P g x e true (p + k) + k
sure_less P g x e k p b = go (e == x)
  where
    go : (same : Bool) → (if same then 0 else spare_of P g b p) ≤ (if same then 0 else spare_of P g true (p + k)) + k
    go true = omega arith
    go false = spare_less P g k p b

none_at : (same : Bool) (n : ℕ) → same ≡ true → 0 < (if same then 0 else n) → ⊥
none_at true n is lt = omega (arith, lt)
none_at false n is lt = true≢false (sym is)

spare_some : (P g p : ℕ) (b : Bool) → 0 < spare_of P g b p → (b ≡ true) × (0 < (P - p) - (g - 1))
spare_some P g p true some = (refl, some)
spare_some P g p false none = absurd (omega (arith, none))

-- there are some only on another extent of chunks
sure_some : (P g x e p : ℕ) (b : Bool) → 0 < sure_of P g x e b p → (e ≢ x) × (b ≡ true) × (0 < (P - p) - (g - 1))
sure_some P g x e p b some = elim (cases_eq e x) [
  | inl same ↦ absurd (none_at (e == x) (spare_of P g b p) (eq-eqb e x same) some)
  | inr other ↦ (let rest = spare_some P g p b
      (subst (λ (same : Bool). 0 < (if same then 0 else spare_of P g b p)) (ne_eqb e x other) some) in
      (other, rest.0, rest.1))
]

module _ (S : Shape) (J g : ℕ) where
  abbrev sure_on : Room → (x e : ℕ) → ℕ
  sure_on s x e = sure_of S.pages g x e (is_of_chunks (s.holds e)) (s.pointer e)

  -- no extent was opened, all that is left goes to other extents of chunks, and there is one
  record IsSureStill (s : Room) (w : Sweep) : Type 0 where
    none : w.fresh ≡ None
    each : (c : Chunk) → c ∈ s.chunks → c.pages ≤ g
    left : left_pages s.chunks w.extent ≤ sum_to (sure_on s w.extent) S.extents
    other : (b : ℕ) × (b < S.extents) × (b ≢ w.extent) × (s.holds b ≡ OfChunks)

  module _ (filled : S.fills ≡ true) (s : Room) (w : Sweep) (before : List Chunk) (c : Chunk) (behind : List Chunk) (e : ℕ)
      (fresh : Option ℕ) (keeps : Keeps S J s) (is : s.sweep ≡ Some w) (copied : IsCopied S s w before c behind e fresh)
      (old : IsSureStill s w) where
    abbrev t : Room
    t = with_copy S s w before c behind e fresh

    has_it : c ∈ s.chunks
    has_it = subst (λ (cs : List Chunk). c ∈ cs) (sym copied.chunks) (middle_in before behind c)

    over : (d : ℕ) → ((d : ℕ) → TakesCopy S s w c.pages d → ⊥) → d < S.extents → 0 < sure_on s w.extent d → ⊥
    over d full lt some =
        let at = sure_some S.pages g w.extent d (s.pointer d) (is_of_chunks (s.holds d)) some in
        let small : c.pages ≤ g = old.each c has_it in
        let spare : 0 < (S.pages - s.pointer d) - (g - 1) = at.2 in
        full d ((lt, chunks_is (s.holds d) at.1, omega arith), at.0)

    -- one that fits behind no other extent would find all moved, and no other extent
    never_full : ((d : ℕ) → TakesCopy S s w c.pages d → ⊥) → ⊥
    never_full full =
        let nothing : sum_to (sure_on s w.extent) S.extents ≡ 0 = sum_nothing (sure_on s w.extent) S.extents (λ d lt.
        elim (cases_lt 0 (sure_on s w.extent d)) [
          | inl some ↦ absurd (over d full lt some)
          | inr none ↦ omega arith
        ]) in
        let least : c.pages ≤ left_pages s.chunks w.extent = at_most_all S J
        (λ x. (x.extent == w.extent) && is_none x.copy) s.chunks c has_it (left_here S J w c copied.left) in
        let other = old.other in
        let fits : s.pointer other.0 ≤ S.pages = keeps.lies.fits other.0 other.1 in
        let few : left_pages s.chunks w.extent ≤ sum_to (sure_on s w.extent) S.extents = old.left in
        full other.0 ((other.1, other.3, omega arith), other.2)

    -- so it goes behind other chunks
    goes_behind : GoesForCopy S s w c.pages e fresh → (fresh ≡ w.fresh) × (s.holds e ≡ OfChunks)
    goes_behind (inl last) = (last.2, last.1.0.1)
    goes_behind (inr (inl another)) = (another.2, another.1.0.1)
    goes_behind (inr (inr empty)) = absurd (never_full (empty.4 filled))

    sure_after : IsSureStill t (noted w e fresh)
    sure_after =
        let goes = goes_behind copied.goes in
        let parts : left_pages s.chunks w.extent ≡ c.pages + left_pages t.chunks w.extent =
        left_before S J s w before c behind e fresh keeps is copied in
        let fewer : sum_to (sure_on s w.extent) S.extents ≤ sum_to (sure_on t w.extent) S.extents + c.pages =
        sum_more (sure_on s w.extent) (sure_on t w.extent) e c.pages S.extents
        (λ d lt other. le_of_eq (sym (sure_there d other))) (sure_here goes.1) in
        let few : left_pages s.chunks w.extent ≤ sum_to (sure_on s w.extent) S.extents = old.left in
        record {
          none = goes.0 ∙ old.none;
          each = λ b got. ⊎_elim
              (λ here. subst (λ (y : Chunk). y.pages ≤ g) (sym here) (old.each c has_it))
              (λ more. old.each b (subst (λ (cs : List Chunk). b ∈ cs) (sym copied.chunks) more))
              (in_middle before behind (copied_to c e) b c got);
          left = omega arith;
          other = (old.other.0, old.other.1, old.other.2, kind_stays s e c.pages OfChunks old.other.0 old.other.3);
        }
      where
        sure_there : (d : ℕ) → d ≢ e → sure_on t w.extent d ≡ sure_on s w.extent d
        sure_there d other = ap (λ (h : Holding). sure_of S.pages g w.extent d (is_of_chunks h) (t.pointer d))
            (holds_there s e c.pages OfChunks d other)
            ∙ ap (sure_of S.pages g w.extent d (is_of_chunks (s.holds d))) (pointer_there s e c.pages OfChunks d other)

        sure_here : s.holds e ≡ OfChunks → sure_on s w.extent e ≤ sure_on t w.extent e + c.pages
        sure_here there =
            let after : sure_on t w.extent e ≡ sure_of S.pages g w.extent e true (s.pointer e + c.pages) =
            ap (λ (h : Holding). sure_of S.pages g w.extent e (is_of_chunks h) (t.pointer e)) (holds_here s e c.pages OfChunks)
            ∙ ap (sure_of S.pages g w.extent e true) (pointer_here s e c.pages OfChunks) in
            let less : sure_on s w.extent e ≤ sure_of S.pages g w.extent e true (s.pointer e + c.pages) + c.pages =
            sure_less S.pages g w.extent e c.pages (s.pointer e) (is_of_chunks (s.holds e)) in omega arith

  sure_still : S.fills ≡ true → IsKept S J IsSureStill
  sure_still filled s w before c behind e fresh keeps is copied old =
      sure_after filled s w before c behind e fresh keeps is copied old

  -- there is another extent of chunks
  another : (s : Room) (x : ℕ) → 0 < sum_to (sure_on s x) S.extents → (b : ℕ) × (b < S.extents) × (b ≢ x) × (s.holds b ≡ OfChunks)
  another s x some =
      let found = sum_some (sure_on s x) S.extents some in
      let at = sure_some S.pages g x found.0 (s.pointer found.0) (is_of_chunks (s.holds found.0)) found.2 in
      (found.0, found.1, at.0, chunks_is (s.holds found.0) at.1)

  pub gains_by : (s t : Room) (x : ℕ) → 1 ≤ J → S.fills ≡ true → Keeps S J s → ((c : Chunk) → c ∈ s.chunks → c.pages ≤ g)
      → 0 < live_pages s.chunks x → live_pages s.chunks x ≤ sum_to (sure_on s x) S.extents → IsSwept S J s x t
      → chunk_extents t S.extents < chunk_extents s S.extents
  gains_by s t x some filled keeps each lives few swept =
      let small : left_pages s.chunks x ≤ live_pages s.chunks x = left_le s.chunks x in
      let all : IsSweptWith S J IsSureStill s x t = swept_with S J IsSureStill (sure_still filled) s t x some keeps (record {
        none = refl;
        each = each;
        left = omega arith;
        other = another s x (omega arith);
      }) swept in
      let a : chunk_extents t S.extents ≤ how_many (any_on (map settle all.moved.chunks)) S.extents = all.fewer in
      let b : how_many (any_on (map settle all.moved.chunks)) S.extents < chunk_extents all.moved S.extents = all.less in
      let c : chunk_extents all.moved S.extents ≤ chunk_extents s S.extents + one_if all.moves.sweep.fresh =
      all.moves.kept.1 in
      let none : one_if all.moves.sweep.fresh ≡ 0 = ap one_if all.moves.kept.0.none in omega arith

pub sure_gains : (S : Shape) (J : ℕ) (s t : Room) (x : ℕ) → 1 ≤ J → S.fills ≡ true → Keeps S J s → IsSure S s x → IsSwept S J s x t
    → chunk_extents t S.extents < chunk_extents s S.extents
sure_gains S J s t x some filled keeps sure swept = gains_by S J (greatest_chunk s.chunks) s t x some filled keeps
    (at_most_greatest s.chunks) sure.0 sure.1 swept
