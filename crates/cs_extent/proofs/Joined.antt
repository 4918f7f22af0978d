-- What a section's version needs in all, where the superblock has one section.
use Rattle.std.proofs.Common.{◌≡◌, ◌∙◌, ℕ, zero, suc, ◌+◌, ◌<◌, ◌≤◌, ◌⊎◌, List, [], ◌∷◌, ◌++◌, length, get_or, Some, slice_get, sym, ap, subst, inl, inr, ⊎_elim, arith, length-append, append_assoc, Bool, true, false, cond}
use Rattle.std.specs.Prelude.{◌↔◌, filter}
use Rattle.cs_deps.specs.declared.elements.Element.{Element}
use Rattle.cs_deps.specs.declared.elements.Element.TheVariants.{Plain, Version}
use Rattle.cs_deps.specs.Named.{Named, Names}
use Rattle.cs_deps.specs.Staging.{IsVersionStaged, Staging, settled, is_left_waiting}
use Rattle.std.proofs.lemmas.Option.{same_Some, slice_get_within}
use Rattle.cs_extent.proofs.Staged.{frame_latest, get_front, get_last}
use Rattle.cs_extent.specs.Frames.{ArePagesStaged, AreOneSectionsNeedsWithin, IsFrameBehind, IsFrameStaged, IsSectionNeed, IsSectionStaged, family_of, next_section, root_family}
use Rattle.cs_extent.proofs.Given.{in_either}

more_needs : (m n need greater : ℕ) → m ≤ n → need ≤ greater → (x : Element) → IsSectionNeed 1 m need x → IsSectionNeed 1 n greater x
more_needs m n need greater le more (Plain k) h = (h.0, omega (arith, h.1, le))
more_needs m n need greater le more (Version f v) h = (h.0, h.1, omega (arith, h.2, more))

-- the pages that are staged bring no version of the section
pages_within : (old new : Staging) (count root need : ℕ) → ArePagesStaged old new count root → AreOneSectionsNeedsWithin old need → AreOneSectionsNeedsWithin new need
pages_within old new count root need pages within k v d x at names = ⊎_elim
    (λ (l : (k < length old.pending.waiting) × (slice_get old.pending.waiting k ≡ Some (Version (family_of 0) v, d))).
    more_needs old.staged new.staged need need (omega (arith, pages.staged)) (omega arith) x (within k v d x l.1 names))
    (λ (r : (j : ℕ) × (k ≡ length old.pending.waiting + j) × (slice_get pages.entries j ≡ Some (Version (family_of 0) v, d))).
    let inside : r.0 < count = omega (arith, slice_get_within pages.entries r.0 (Version (family_of 0) v, d) r.2, pages.size) in
    let e = pages.each r.0 inside in
    let apart : Version (family_of 0) v ≡ Plain (old.staged + 1 + r.0) = ap (λ (p : Element × Named). p.0) (same_Some (Version (family_of 0) v, d) (Plain (old.staged + 1 + r.0), e.0) (sym r.2 ∙ e.1)) in
    absurd (cc apart))
    (in_either old.pending.waiting pages.entries k (Version (family_of 0) v, d) (subst (λ (l : List (Element × Named)). slice_get l k ≡ Some (Version (family_of 0) v, d)) pages.behind at))

-- the members of a list with one more
in_push : {X : Type 0} (xs : List X) (y : X) (k : ℕ) (x : X) → slice_get (xs ++ y ∷ []) k ≡ Some x → (slice_get xs k ≡ Some x) ⊎ (y ≡ x)
in_push [] y zero x h = inr (same_Some y x h)
in_push [] y (suc k) x h = absurd (cc h)
in_push (z ∷ xs) y zero x h = inl h
in_push (z ∷ xs) y (suc k) x h = in_push xs y k x h

-- a version of the section brings no needs but its own
module _ (old new : Staging) (need : ℕ) (staged : IsSectionStaged old new 0 1 need) (within : AreOneSectionsNeedsWithin old need) where
  exact : (x : Element) → Names (staged.version.1) x ↔ IsSectionNeed 1 old.staged need x
  exact x = (
    (λ h. ⊎_elim
        (λ (own : Names staged.needs x). (staged.names x).0 own)
        (λ (before : (k : ℕ) × (d : Named) × (slice_get old.pending.waiting k ≡ Some (Version (family_of 0) staged.version.0, d)) × Names d x). within before.0 staged.version.0 before.1 x before.2 before.3)
        ((staged.version.4 x).0 h)),
    (λ h. (staged.version.4 x).1 (inl ((staged.names x).1 h))),
  )

  waiting_is : new.pending.waiting ≡ old.pending.waiting ++ (next_section old 0, staged.version.1) ∷ []
  waiting_is = ap (λ (s : Staging). s.pending.waiting) staged.version.5

  staged_is : new.staged ≡ old.staged
  staged_is = ap (λ (s : Staging). s.staged) staged.version.5

  version_within : AreOneSectionsNeedsWithin new need
  version_within k v d x at names = ⊎_elim
      (λ (l : slice_get old.pending.waiting k ≡ Some (Version (family_of 0) v, d)). more_needs old.staged new.staged need need (omega (arith, staged_is)) (omega arith) x (within k v d x l names))
      (λ (e : (next_section old 0, staged.version.1) ≡ (Version (family_of 0) v, d)).
      let same : staged.version.1 ≡ d = ap (λ (p : Element × Named). p.1) e in
      more_needs old.staged new.staged need need (omega (arith, staged_is)) (omega arith) x ((exact x).0 (subst (λ (f : Named). Names f x) (sym same) names)))
      (in_push old.pending.waiting (next_section old 0, staged.version.1) k (Version (family_of 0) v, d) (subst (λ (l : List (Element × Named)). slice_get l k ≡ Some (Version (family_of 0) v, d)) waiting_is at))

pub frame_within : (old new : Staging) (count root need : ℕ) → IsFrameStaged old new true 1 0 count root need → AreOneSectionsNeedsWithin old need → AreOneSectionsNeedsWithin new need
frame_within old new count root need staged within = version_within staged.between new need staged.section (pages_within old staged.between count root need staged.pages within)

pub frame_exact : (old new : Staging) (count root need : ℕ) → IsFrameStaged old new true 1 0 count root need → AreOneSectionsNeedsWithin old need → IsFrameBehind old new count root need
frame_exact old new count root need staged within =
    let middle : Staging = staged.between in
    let last : Element × Named = (next_section middle 0, staged.section.version.1) in
    let so_far : AreOneSectionsNeedsWithin middle need = pages_within old middle count root need staged.pages within in
    let same : next_section middle 0 ≡ next_section old 0 = ap (λ l. Version (family_of 0) (get_or l (family_of 0) 0 + 1)) staged.pages.latest in
    let number : middle.staged ≡ old.staged + count = staged.pages.staged in
    record {
      entries = staged.pages.entries ++ last ∷ [];
      behind = waiting_is middle new need staged.section so_far ∙ ap (λ ws. ws ++ last ∷ []) staged.pages.behind ∙ append_assoc old.pending.waiting staged.pages.entries (last ∷ []);
      size = length-append staged.pages.entries (last ∷ []) ∙ ap (λ n. n + 1) staged.pages.size;
      pages = λ i lt. let e = staged.pages.each i lt in (e.0, get_front staged.pages.entries (last ∷ []) i (Plain (old.staged + 1 + i), e.0) e.1, e.2);
      section = (
        staged.section.version.1,
        subst (λ (y : Element). slice_get (staged.pages.entries ++ last ∷ []) count ≡ Some (y, staged.section.version.1)) same
            (subst (λ n. slice_get (staged.pages.entries ++ last ∷ []) n ≡ Some last) staged.pages.size (get_last staged.pages.entries last)),
        (λ x. subst (λ n. Names staged.section.version.1 x ↔ IsSectionNeed 1 n need x) number (exact middle new need staged.section so_far x)),
      );
      persistent = ap (λ (s : Staging). s.pending.persistent) staged.section.version.5 ∙ staged.pages.persistent;
      staged = staged_is middle new need staged.section so_far ∙ number;
      latest = frame_latest old new true 1 0 count root need staged;
    }

-- other changes

pub root_within : (old new : Staging) (v need : ℕ) (needs : Named) → IsVersionStaged old root_family v needs new → AreOneSectionsNeedsWithin old need → AreOneSectionsNeedsWithin new need
root_within old new v need needs staged within k w d x at names =
    let waiting : new.pending.waiting ≡ old.pending.waiting ++ (Version root_family v, staged.1) ∷ [] = ap (λ (s : Staging). s.pending.waiting) staged.5 in
    let number : new.staged ≡ old.staged = ap (λ (s : Staging). s.staged) staged.5 in
    ⊎_elim
    (λ (l : slice_get old.pending.waiting k ≡ Some (Version (family_of 0) w, d)). more_needs old.staged new.staged need need (omega (arith, number)) (omega arith) x (within k w d x l names))
    (λ (e : (Version root_family v, staged.1) ≡ (Version (family_of 0) w, d)).
    let element : Version root_family v ≡ Version (family_of 0) w = ap (λ (p : Element × Named). p.0) e in
    let family : root_family ≡ (family_of 0) = cc element in
    absurd (omega (arith, family)))
    (in_push old.pending.waiting (Version root_family v, staged.1) k (Version (family_of 0) w, d) (subst (λ (l : List (Element × Named)). slice_get l k ≡ Some (Version (family_of 0) w, d)) waiting at))

filtered_from : {X : Type 0} (p : X → Bool) (xs : List X) (k : ℕ) (x : X) → slice_get (filter p xs) k ≡ Some x → (j : ℕ) × (slice_get xs j ≡ Some x)
filtered_from p [] k x h = absurd (cc h)
filtered_from p (y ∷ xs) k x h = split (p y) k (λ i g. filtered_from p xs i x g) h
  where
    split : (b : Bool) (i : ℕ) → ((i : ℕ) → slice_get (filter p xs) i ≡ Some x → (j : ℕ) × (slice_get xs j ≡ Some x)) → slice_get (cond b (y ∷ filter p xs) (filter p xs)) i ≡ Some x → (j : ℕ) × (slice_get (y ∷ xs) j ≡ Some x)
    split true zero rest g = (0, g)
    split true (suc i) rest g = let r = rest i g in (suc r.0, r.1)
    split false i rest g = let r = rest i g in (suc r.0, r.1)

pub settled_within : (s : Staging) (round : List Element) (need : ℕ) → AreOneSectionsNeedsWithin s need → AreOneSectionsNeedsWithin (record s { pending = settled s.pending round }) need
settled_within s round need within k v d x at names =
    let r = filtered_from (is_left_waiting round) s.pending.waiting k (Version (family_of 0) v, d) at in
    within r.0 v d x r.1 names
