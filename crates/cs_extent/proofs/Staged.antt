-- What is staged with a frame, one element after another.
use Rattle.std.proofs.Common.{◌≡◌, ◌≢◌, ◌∙◌, ℕ, zero, suc, ◌+◌, ◌^◌, ◌<◌, ◌≤◌, ◌⊎◌, Bool, List, [], ◌∷◌, ◌++◌, length, get_or, Some, slice_get, refl, sym, ap, subst, inl, inr, ⊎_elim, arith, append_assoc, length-append, length-set, set}
use Rattle.std.specs.Prelude.{◌↔◌, slice_index_or}
use Rattle.std.proofs.lemmas.List.{get_or-set_other}
use Rattle.law_machine.specs.Extents.{Extents}
use Rattle.std.proofs.lemmas.Bool.{cases_eq, cases_lt}
use Rattle.std.proofs.lemmas.Option.{same_Some}
use Rattle.cs_deps.specs.declared.elements.Element.{Element}
use Rattle.cs_deps.specs.declared.elements.Element.TheVariants.{Plain, Version}
use Rattle.cs_deps.specs.Named.{Named, Names, NamesFamily, IsWithin}
use Rattle.cs_deps.specs.Staging.{Staging, IsVersionStaged, staged_after}
use Rattle.cs_deps.specs.State.{State, Write, write_of, AddsOnly}
use Rattle.cs_extent.specs.Frames.{AreResetsStaged, ArePagesStaged, AreWritten, IsFrameStaged, IsNextPlain, IsRootNeed, IsSectionNeed, IsSectionStaged, IsSectionVersionUpTo, IsVersionUpTo, IsWorn, AddsOnlyOf, family_of, root_family}
use Rattle.cs_extent.specs.State.{State as Store, need_of, shape}

-- what dependencies name

pub names_versions : (d : Named) (family version : ℕ) → ((n : ℕ) → Names d (Plain n) → ⊥) → ((f v : ℕ) → Names d (Version f v) ↔ ((f ≡ family) × (1 ≤ v) × (v ≤ version))) → (x : Element) → Names d x ↔ IsVersionUpTo family version x
names_versions d family version plain versions (Plain n) = ((λ h. plain n h), (λ h. absurd h))
names_versions d family version plain versions (Version f v) = versions f v

pub names_section : (a d : Named) (first last version : ℕ) → ((n : ℕ) → Names a (Plain n) ↔ ((first ≤ n) × (n ≤ last))) → ((f v : ℕ) → Names a (Version f v) → ⊥)
    → ((x : Element) → Names d x ↔ (Names a x ⊎ IsVersionUpTo root_family version x)) → (x : Element) → Names d x ↔ IsSectionNeed first last version x
names_section a d first last version plain none both (Plain n) = (
  (λ h. ⊎_elim (λ (l : Names a (Plain n)). (plain n).0 l) (λ (r : IsVersionUpTo root_family version (Plain n)). absurd r) ((both (Plain n)).0 h)),
  (λ h. (both (Plain n)).1 (inl ((plain n).1 h))),
)
names_section a d first last version plain none both (Version f v) = (
  (λ h. ⊎_elim (λ (l : Names a (Version f v)). absurd (none f v l)) (λ (r : IsVersionUpTo root_family version (Version f v)). r) ((both (Version f v)).0 h)),
  (λ h. (both (Version f v)).1 (inr h)),
)

pub section_within : (d : Named) (first last version : ℕ) (latest : List ℕ) → 1 ≤ first → ((x : Element) → Names d x ↔ IsSectionNeed first last version x) → version ≤ get_or latest root_family 0 → IsWithin d last latest
section_within d first last version latest some names le (Plain n) h = let r = (names (Plain n)).0 h in (omega (arith, r.0, some), r.1)
section_within d first last version latest some names le (Version f v) h =
    let r = (names (Version f v)).0 h in
    subst (λ g. v ≤ get_or latest g 0) (sym r.0) (omega (arith, r.2, le))

-- a section's family isn't the root's
pub not_root : (j : ℕ) → family_of j ≢ root_family
not_root zero is = absurd (omega (arith, is))
not_root (suc j) is = absurd (omega (arith, is))

pub section_not_own : (d : Named) (j first last version : ℕ) → ((x : Element) → Names d x ↔ IsSectionNeed first last version x) → NamesFamily d (family_of j) → ⊥
section_not_own d j first last version names h = let r = (names (Version (family_of j) h.0)).0 h.1 in not_root j r.0

-- the families of sections that there are
pub family_inside : (sections j : ℕ) → j < sections → family_of j < 1 + sections
family_inside sections zero lt = omega (arith, lt)
family_inside sections (suc j) lt = omega (arith, lt)

pub family_small : (j : ℕ) → family_of j ≤ suc j
family_small zero = omega arith
family_small (suc j) = omega arith

-- what a root needs of its own, family by family

abbrev pub IsBelow : (pages families : ℕ) → (latest : List ℕ) → Element → Type 0
IsBelow pages families latest (Plain n) = (1 ≤ n) × (n ≤ pages)
IsBelow pages families latest (Version f v) = (f < families) × IsSectionVersionUpTo latest (Version f v)

pub none_below : (d : Named) (pages : ℕ) (latest : List ℕ) → ((n : ℕ) → Names d (Plain n) ↔ ((1 ≤ n) × (n ≤ pages))) → ((f v : ℕ) → Names d (Version f v) → ⊥)
    → (x : Element) → Names d x ↔ IsBelow pages 0 latest x
none_below d pages latest plain none (Plain n) = plain n
none_below d pages latest plain none (Version f v) = ((λ h. absurd (none f v h)), (λ h. absurd (omega (arith, h.0))))

-- the root's family is passed over
pub below_root : (d : Named) (pages : ℕ) (latest : List ℕ) (k : ℕ) → k ≡ root_family → ((x : Element) → Names d x ↔ IsBelow pages k latest x) → (x : Element) → Names d x ↔ IsBelow pages (k + 1) latest x
below_root d pages latest k is was (Plain n) = was (Plain n)
below_root d pages latest k is was (Version f v) = (
  (λ h. let r = (was (Version f v)).0 h in (omega (arith, r.0), r.1)),
  (λ h.
      let lower : f < k = less f k (omega (arith, h.0)) (λ same. h.1.0 (same ∙ is)) in
      (was (Version f v)).1 (lower, h.1)),
)
  where
    less : (f k : ℕ) → f ≤ k → f ≢ k → f < k
    less f k le other = omega (arith, le, other)

-- and of each other one its versions are named
pub below_more : (d e : Named) (pages : ℕ) (latest : List ℕ) (k version : ℕ) → k ≢ root_family → version ≡ get_or latest k 0 → ((x : Element) → Names d x ↔ IsBelow pages k latest x)
    → ((x : Element) → Names e x ↔ (Names d x ⊎ IsVersionUpTo k version x)) → (x : Element) → Names e x ↔ IsBelow pages (k + 1) latest x
below_more d e pages latest k version other is was both (Plain n) = (
  (λ h. ⊎_elim (λ (l : Names d (Plain n)). (was (Plain n)).0 l) (λ (r : IsVersionUpTo k version (Plain n)). absurd r) ((both (Plain n)).0 h)),
  (λ h. (both (Plain n)).1 (inl ((was (Plain n)).1 h))),
)
below_more d e pages latest k version other is was both (Version f v) = (
  (λ h. ⊎_elim
      (λ (l : Names d (Version f v)). let r = (was (Version f v)).0 l in (omega (arith, r.0), r.1))
      (λ (r : IsVersionUpTo k version (Version f v)).
      (omega (arith, r.0), ((λ same. other (sym r.0 ∙ same)), r.1, subst (λ g. v ≤ get_or latest g 0) (sym r.0) (omega (arith, r.2, is)))))
      ((both (Version f v)).0 h)),
  (λ h. (both (Version f v)).1 (⊎_elim
      (λ (l : f < k). inl ((was (Version f v)).1 (l, h.1)))
      (λ (l : k ≤ f).
      let same : f ≡ k = omega (arith, l, h.0) in
      let at : v ≤ get_or latest k 0 = subst (λ g. v ≤ get_or latest g 0) same h.1.2 in
      inr (same, h.1.1, omega (arith, at, is)))
      (cases_lt f k))),
)

pub below_step : (d e : Named) (pages : ℕ) (latest : List ℕ) (k version : ℕ) → (k ≡ root_family → version ≡ 0) → (k ≢ root_family → version ≡ get_or latest k 0)
    → ((x : Element) → Names d x ↔ IsBelow pages k latest x) → ((x : Element) → Names e x ↔ (Names d x ⊎ IsVersionUpTo k version x)) → (x : Element) → Names e x ↔ IsBelow pages (k + 1) latest x
below_step d e pages latest k version none last was both = ⊎_elim
    (λ (is : k ≡ root_family). below_root e pages latest k is (λ x. same x (none is)))
    (λ (other : k ≢ root_family). below_more d e pages latest k version other (last other) was both)
    (cases_eq k root_family)
  where
    nothing : (x : Element) → version ≡ 0 → IsVersionUpTo k version x → ⊥
    nothing (Plain n) is h = h
    nothing (Version f v) is h = absurd (omega (arith, h.1, h.2, is))

    same : (x : Element) → version ≡ 0 → Names e x ↔ IsBelow pages k latest x
    same x is = (
      (λ h. ⊎_elim (λ (l : Names d x). (was x).0 l) (λ (r : IsVersionUpTo k version x). absurd (nothing x is r)) ((both x).0 h)),
      (λ h. (both x).1 (inl ((was x).1 h))),
    )

pub all_below : (d : Named) (pages : ℕ) (latest : List ℕ) (k : ℕ) → length latest ≤ k → ((x : Element) → Names d x ↔ IsBelow pages k latest x) → (x : Element) → Names d x ↔ IsRootNeed pages latest x
all_below d pages latest k le was (Plain n) = was (Plain n)
all_below d pages latest k le was (Version f v) = (
  (λ h. ((was (Version f v)).0 h).1),
  (λ h. (was (Version f v)).1 (inside f (λ past. omega (arith, h.1, h.2, past_end latest f past)), h)),
)
  where
    past_end : (xs : List ℕ) (f : ℕ) → length xs ≤ f → get_or xs f 0 ≡ 0
    past_end [] f le = refl
    past_end (x ∷ xs) zero le = absurd (omega (arith, le))
    past_end (x ∷ xs) (suc f) le = past_end xs f (omega (arith, le))

    inside : (f : ℕ) → (length latest ≤ f → ⊥) → f < k
    inside f not = ⊎_elim (λ (l : f < length latest). omega (arith, l, le)) (λ (l : length latest ≤ f). absurd (not l)) (cases_lt f (length latest))

-- lists

pub get_front : {X : Type 0} (xs ys : List X) (k : ℕ) (x : X) → slice_get xs k ≡ Some x → slice_get (xs ++ ys) k ≡ Some x
get_front [] ys k x h = absurd (cc h)
get_front (y ∷ xs) ys zero x h = h
get_front (y ∷ xs) ys (suc k) x h = get_front xs ys k x h

pub get_last : {X : Type 0} (xs : List X) (x : X) → slice_get (xs ++ x ∷ []) (length xs) ≡ Some x
get_last [] x = refl
get_last (y ∷ xs) x = get_last xs x

pub pages_more : (old middle new : Staging) (count root : ℕ) → ArePagesStaged old middle count root → (needs : Named) → ((x : Element) → Names needs x ↔ IsVersionUpTo root_family root x)
    → new ≡ record { pending = staged_after middle.pending (Plain (middle.staged + 1)) needs; staged = middle.staged + 1; latest = middle.latest }
    → ArePagesStaged old new (count + 1) root
pages_more old middle new count root was needs names is = subst (λ s. ArePagesStaged old s (count + 1) root) (sym is) (record {
  entries = was.entries ++ (Plain (middle.staged + 1), needs) ∷ [];
  behind = ap (λ ws. ws ++ (Plain (middle.staged + 1), needs) ∷ []) was.behind ∙ append_assoc old.pending.waiting was.entries ((Plain (middle.staged + 1), needs) ∷ []);
  size = length-append was.entries ((Plain (middle.staged + 1), needs) ∷ []) ∙ ap (λ n. n + 1) was.size;
  each = λ i lt. ⊎_elim
      (λ (l : i < count). let e = was.each i l in (e.0, get_front was.entries ((Plain (middle.staged + 1), needs) ∷ []) i (Plain (old.staged + 1 + i), e.0) e.1, e.2))
      (λ (l : count ≤ i).
      let here : length was.entries ≡ i = omega (arith, l, lt, was.size) in
      let number : middle.staged + 1 ≡ old.staged + 1 + i = omega (arith, l, lt, was.staged) in
      (needs, subst (λ n. slice_get (was.entries ++ (Plain (middle.staged + 1), needs) ∷ []) i ≡ Some (Plain n, needs)) number (subst (λ k. slice_get (was.entries ++ (Plain (middle.staged + 1), needs) ∷ []) k ≡ Some (Plain (middle.staged + 1), needs)) here (get_last was.entries (Plain (middle.staged + 1), needs))), names))
      (cases_lt i count);
  persistent = was.persistent;
  staged = omega (arith, was.staged);
  latest = was.latest;
})

-- their writes

module _ (middle new : State) (before count m : ℕ) (is : m ≡ before + count) (others : AddsOnly middle new (Plain (m + 1))) where
  pub written_more : (page : ℕ → ℕ) (frame : List (List ℕ)) (w : Write) → AreWritten middle before count page frame → write_of new (Plain (m + 1)) ≡ Some w → w ≡ (page count, slice_index_or frame count [])
      → AreWritten new before (count + 1) page frame
  written_more page frame w was here right i u lt h = ⊎_elim
      (λ (l : i < count). ⊎_elim
      (λ (o : write_of middle (Plain (before + 1 + i)) ≡ Some u). was i u l o)
      (λ (e : Plain (before + 1 + i) ≡ Plain (m + 1)). let same : before + 1 + i ≡ m + 1 = cc in absurd (omega (arith, same, is, l)))
      (others (Plain (before + 1 + i)) u h))
      (λ (l : count ≤ i).
      let last : i ≡ count = omega (arith, l, lt) in
      let number : before + 1 + i ≡ m + 1 = omega (arith, last, is) in
      same_Some u w (sym h ∙ ap (λ n. write_of new (Plain n)) number ∙ here) ∙ right ∙ ap (λ k. (page k, slice_index_or frame k [])) (sym last))
      (cases_lt i count)

  pub others_more : (old : State) → old.staging.staged ≡ before → AddsOnlyOf old middle (IsNextPlain old.staging count) → AddsOnlyOf old new (IsNextPlain old.staging (count + 1))
  others_more old same was x w h = ⊎_elim
      (λ (o : write_of middle x ≡ Some w). ⊎_elim (λ (p : write_of old x ≡ Some w). inl p) (λ (p : IsNextPlain old.staging count x). inr (more x p)) (was x w o))
      (λ (e : x ≡ Plain (m + 1)). inr (subst (IsNextPlain old.staging (count + 1)) (sym e) (omega (arith, same, is), omega (arith, same, is))))
      (others x w h)
    where
      more : (x : Element) → IsNextPlain old.staging count x → IsNextPlain old.staging (count + 1) x
      more (Plain n) p = (p.0, omega (arith, p.1))
      more (Version f v) p = absurd p

-- the version of a section behind them

pub section_staged : (old new : Staging) (j first need : ℕ) (needs : Named) (v : ℕ) → ((x : Element) → Names needs x ↔ IsSectionNeed first old.staged need x) → IsVersionStaged old (family_of j) v needs new → IsSectionStaged old new j first need
section_staged old new j first need needs v names staged = record {
  needs = needs;
  names = names;
  version = subst (λ n. IsVersionStaged old (family_of j) n needs new) (staged.3 ∙ ap (λ n. n + 1) staged.2) staged;
}

-- the pages by another name
pub written_pages : (s : State) (before count : ℕ) (p q : ℕ → ℕ) (frame : List (List ℕ)) → ((i : ℕ) → p i ≡ q i) → AreWritten s before count p frame → AreWritten s before count q frame
written_pages s before count p q frame same was i w lt h = was i w lt h ∙ ap (λ n. (n, slice_index_or frame i [])) (same i)

-- the versions that are staged then

pub frame_latest : (old new : Staging) (first : Bool) (sections j count root need : ℕ) → IsFrameStaged old new first sections j count root need → new.latest ≡ set old.latest (family_of j) (get_or old.latest (family_of j) 0 + 1)
frame_latest old new first sections j count root need staged =
    ap (λ (s : Staging). s.latest) staged.section.version.5 ∙ ap (λ l. set l (family_of j) (get_or l (family_of j) 0 + 1)) staged.pages.latest

pub frame_families : (old new : Staging) (first : Bool) (sections j count root need : ℕ) → IsFrameStaged old new first sections j count root need → length new.latest ≡ length old.latest
frame_families old new first sections j count root need staged = ap length (frame_latest old new first sections j count root need staged) ∙ length-set old.latest (family_of j) (get_or old.latest (family_of j) 0 + 1)

pub frame_root : (old new : Staging) (first : Bool) (sections j count root need : ℕ) → IsFrameStaged old new first sections j count root need → get_or new.latest root_family 0 ≡ get_or old.latest root_family 0
frame_root old new first sections j count root need staged =
    let other : root_family ≢ family_of j = λ is. not_root j (sym is) in
    ap (λ l. get_or l root_family 0) (frame_latest old new first sections j count root need staged) ∙ get_or-set_other old.latest (family_of j) root_family (get_or old.latest (family_of j) 0 + 1) 0 other

pub resets_still : (x y : Extents) (old new : Staging) → ((e : ℕ) → y.reset e ≡ x.reset e) → get_or new.latest root_family 0 ≡ get_or old.latest root_family 0 → AreResetsStaged x old → AreResetsStaged y new
resets_still x y old new same root was e = omega (arith, same e, root, was e)

-- numbers that are not worn

pub fresh : (s : Staging) (j count : ℕ) → (IsWorn s j count → ⊥) → (s.staged + count < 2 ^ 63) × (get_or s.latest (family_of j) 0 + 1 < 2 ^ 63)
fresh s j count not = (below (s.staged + count) (λ h. not (inl h)), below (get_or s.latest (family_of j) 0 + 1) (λ h. not (inr h)))
  where
    below : (n : ℕ) → (2 ^ 63 ≤ n → ⊥) → n < 2 ^ 63
    below n h = ⊎_elim (λ (l : n < 2 ^ 63). l) (λ (l : 2 ^ 63 ≤ n). absurd (h l)) (cases_lt n (2 ^ 63))

-- a frame that was staged, in the extents' words

pub framed : (old new : Staging) (s : Store) (first : Bool) (sections j k count root reset need : ℕ) → IsFrameStaged old new first sections j count root need
    → first ≡ (shape s).pages_first → sections ≡ s.sections → j ≡ k → root ≡ reset → need ≡ need_of s j
    → IsFrameStaged old new (shape s).pages_first s.sections k count reset (need_of s k)
framed old new s first sections j k count root reset need staged rule a b c d =
    subst (λ (i : ℕ). IsFrameStaged old new (shape s).pages_first s.sections i count reset (need_of s i)) b
    (subst (λ (n : ℕ). IsFrameStaged old new (shape s).pages_first s.sections j count n (need_of s j)) c
    (subst (λ (n : ℕ). IsFrameStaged old new (shape s).pages_first n j count root (need_of s j)) a
    (subst (λ (f : Bool). IsFrameStaged old new f sections j count root (need_of s j)) rule
    (subst (λ (n : ℕ). IsFrameStaged old new first sections j count root n) d staged))))
