-- What the machine stages is staged in the graph.
use Rattle.std.proofs.Common.{◌≡◌, ◌↔◌, inl, inr, ⊎_elim, ℕ, suc, ◌<◌, ◌≤◌, Bool, true, false, List, [], ◌∷◌, ◌++◌, true≢false, if◌then◌else◌, refl, sym, ap, ◌∙◌, subst, arith}
use Rattle.std.proofs.lemmas.Bool.{false_from_ne_true}
use Rattle.cs_deps.specs.declared.elements.Element.{Element as Name}
use Rattle.cs_deps.specs.declared.elements.Element.TheVariants.{Plain, Version}
use Rattle.cs_deps.specs.Named.{Named, Names}
use Rattle.cs_deps.specs.Pending.{Pending}
use Rattle.cs_deps.specs.Staging.{staged_after}
use Rattle.law_machine.specs.Lists.{◌∈◌}
use Rattle.law_machine.specs.Device.{Shape, Page}
use Rattle.law_machine.specs.Element.{Element, A_write, A_superblock, A_root, Write, Superblock, Root, roots_of, superblocks_of, writes_of}
use Rattle.law_machine.specs.Cut.{Cut, satisfied}
use Rattle.law_machine.specs.Machine.{World, StagePage, happens}
use Rattle.law_machine.specs.Safe.{IsStaged}
use Rattle.law_machine.proofs.ClosedSets.{gt-leb}
use Rattle.law_machine.proofs.Waiting.{Listed, listed}
use Rattle.cs_extent.specs.Frames.{family_of}
use Rattle.law_refinement.specs.Bridge.{AreNeedsOf, MayLeaveOut, name, NeedsName, Matches, waiting_in, IsPendingOf}
use Rattle.law_refinement.proofs.Places.{from_waiting}

-- needs that are the same where more was staged
needs_grow : (S : Shape) (P : Cut) (old new : List Element) (x : Element) (d : Named) → ((z : Name) → NeedsName S old x z ↔ NeedsName S new x z) → AreNeedsOf S P old x d → AreNeedsOf S P new x d
needs_grow S P old new x d same are = record { only = λ z h. (same z).0 (are.only z h); all = λ z h. are.all z ((same z).1 h) }

-- needs that leave out nothing
pub exact_needs : (S : Shape) (P : Cut) (staged : List Element) (x : Element) (d : Named) → ((z : Name) → Names d z ↔ NeedsName S staged x z) → AreNeedsOf S P staged x d
exact_needs S P staged x d names = record { only = λ z h. (names z).0 h; all = λ z h. inl ((names z).1 h) }

none_left_out : (S : Shape) (P : Cut) (x : Element) (z : Name) → S.sections ≡ 1 → MayLeaveOut S P x z → ⊥
none_left_out S P (A_write x) z one out = out
none_left_out S P (A_superblock u) (Plain n) one out = let several : 1 < S.sections = out.0 in omega arith
none_left_out S P (A_superblock u) (Version f v) one out = out
none_left_out S P (A_root r) z one out = out

-- those of one section leave out nothing
pub one_section_needs : (S : Shape) (P : Cut) (staged : List Element) (x : Element) (d : Named) (z : Name) → S.sections ≡ 1 → AreNeedsOf S P staged x d → Names d z ↔ NeedsName S staged x z
one_section_needs S P staged x d z one are = (
  (λ names. are.only z names),
  (λ needs. ⊎_elim (λ (names : Names d z). names) (λ (out : MayLeaveOut S P x z). absurd (none_left_out S P x z one out)) (are.all z needs)),
)

matches_grow : (S : Shape) (P : Cut) (old new xs : List Element) (ys : List (Name × Named)) → ((m : Element) → m ∈ xs → (z : Name) → NeedsName S old m z ↔ NeedsName S new m z) → Matches S P old xs ys → Matches S P new xs ys
matches_grow S P old new [] [] same all = tt
matches_grow S P old new [] (y ∷ ys) same all = absurd all
matches_grow S P old new (x ∷ xs) [] same all = absurd all
matches_grow S P old new (x ∷ xs) (y ∷ ys) same all =
    ((all.0.0, needs_grow S P old new x y.1 (same x (inl refl)) all.0.1), matches_grow S P old new xs ys (λ m has. same m (inr has)) all.1)

matches_push : (S : Shape) (P : Cut) (staged xs : List Element) (ys : List (Name × Named)) (e : Element) (d : Named) → Matches S P staged xs ys → AreNeedsOf S P staged e d
    → Matches S P staged (xs ++ e ∷ []) (ys ++ (name e, d) ∷ [])
matches_push S P staged [] [] e d all needs = ((refl, needs), tt)
matches_push S P staged [] (y ∷ ys) e d all needs = absurd all
matches_push S P staged (x ∷ xs) [] e d all needs = absurd all
matches_push S P staged (x ∷ xs) (y ∷ ys) e d all needs = (all.0, matches_push S P staged xs ys e d all.1 needs)

-- what adds no plain write adds no need
same_needs : (S : Shape) (old new : List Element) → writes_of new ≡ writes_of old → (m : Element) (z : Name) → NeedsName S old m z ↔ NeedsName S new m z
same_needs S old new same (A_write x) (Plain n) = ((λ h. h), (λ h. h))
same_needs S old new same (A_write x) (Version f v) = ((λ h. h), (λ h. h))
same_needs S old new same (A_superblock u) (Plain n) =
    ((λ h. (h.0, subst (λ (ws : List Write). h.0 ∈ ws) (sym same) h.1, h.2, h.3, h.4)), (λ h. (h.0, subst (λ (ws : List Write). h.0 ∈ ws) same h.1, h.2, h.3, h.4)))
same_needs S old new same (A_superblock u) (Version f v) = ((λ h. h), (λ h. h))
same_needs S old new same (A_root r) (Plain n) =
    ((λ h. (h.0, subst (λ (ws : List Write). h.0 ∈ ws) (sym same) h.1, h.2, h.3)), (λ h. (h.0, subst (λ (ws : List Write). h.0 ∈ ws) same h.1, h.2, h.3)))
same_needs S old new same (A_root r) (Version f v) = ((λ h. h), (λ h. h))

module _ (S : Shape) (w : World) (g : Pending) (low : IsStaged S w w.persistent) (below : (u : Superblock) → u ∈ superblocks_of w.elements → u.writes ≤ w.written)
    (below_root : (r : Root) → r ∈ roots_of w.elements → r.pages ≤ w.written) (is : IsPendingOf S w g) where
  pushed : (e : Element) (d : Named) (b : Bool) → b ≡ false → ((m : Element) → m ∈ waiting_in w.persistent w.elements → (z : Name) → NeedsName S w.elements m z ↔ NeedsName S (e ∷ w.elements) m z)
      → AreNeedsOf S w.persistent (e ∷ w.elements) e d
      → Matches S w.persistent (e ∷ w.elements) (if b then waiting_in w.persistent w.elements else waiting_in w.persistent w.elements ++ e ∷ []) (g.waiting ++ (name e, d) ∷ [])
  pushed e d true wrong same needs = absurd (true≢false wrong)
  pushed e d false test same needs = matches_push S w.persistent (e ∷ w.elements) (waiting_in w.persistent w.elements) g.waiting e d (matches_grow S w.persistent w.elements (e ∷ w.elements) (waiting_in w.persistent w.elements) g.waiting same is.waiting) needs

  page_needs : (x : Write) → x.number ≡ suc w.written → (m : Element) → Listed w.elements m → (z : Name) → NeedsName S w.elements m z ↔ NeedsName S (A_write x ∷ w.elements) m z
  page_needs x new (A_write y) has (Plain n) = ((λ h. h), (λ h. h))
  page_needs x new (A_write y) has (Version f v) = ((λ h. h), (λ h. h))
  page_needs x new (A_superblock u) has (Plain n) = (
    (λ h. (h.0, inr h.1, h.2, h.3, h.4)),
    (λ h. (
      h.0,
      ⊎_elim (λ (same : h.0 ≡ x). absurd (let old : u.writes ≤ w.written = below u has in let le : h.0.number ≤ u.writes = h.3 in let e : h.0.number ≡ x.number = ap (λ (y : Write). y.number) same in omega arith))
          (λ (old : h.0 ∈ writes_of w.elements). old) h.1,
      h.2,
      h.3,
      h.4,
    )),
  )
  page_needs x new (A_superblock u) has (Version f v) = ((λ h. h), (λ h. h))
  page_needs x new (A_root r) has (Plain n) = (
    (λ h. (h.0, inr h.1, h.2, h.3)),
    (λ h. (
      h.0,
      ⊎_elim (λ (same : h.0 ≡ x). absurd (let old : r.pages ≤ w.written = below_root r has in let le : h.0.number ≤ r.pages = h.2 in let e : h.0.number ≡ x.number = ap (λ (y : Write). y.number) same in omega arith))
          (λ (old : h.0 ∈ writes_of w.elements). old) h.1,
      h.2,
      h.3,
    )),
  )
  page_needs x new (A_root r) has (Version f v) = ((λ h. h), (λ h. h))

  pub page_staged : (p : ℕ) (b : Page) (d : Named) → (let x : Write = record { number = suc w.written; page = p; bytes = b; root = w.extents.reset (S.extent p) } in
      ((z : Name) → Names d z ↔ NeedsName S (A_write x ∷ w.elements) (A_write x) z) → IsPendingOf S (happens S w (StagePage p b)) (staged_after g (Plain (suc w.written)) d))
  page_staged p b d needs = record {
    families = is.families;
    root = is.root;
    sections = is.sections;
    waiting = pushed (A_write x) d (w.persistent.writes (suc w.written)) (false_from_ne_true (w.persistent.writes (suc w.written)) (λ has. absurd (let le : suc w.written ≤ w.written = low.writes (suc w.written) has in omega arith)))
        (λ m has z. page_needs x refl m (listed w.elements m (from_waiting w.persistent w.elements m has).0) z)
        (exact_needs S w.persistent (A_write x ∷ w.elements) (A_write x) d needs);
  }
    where
      x : Write
      x = record { number = suc w.written; page = p; bytes = b; root = w.extents.reset (S.extent p) }

  pub version_staged : (u : Superblock) (d : Named) (next : World) → u.version ≡ suc (w.superblocks u.section) → next.elements ≡ A_superblock u ∷ w.elements → next.persistent ≡ w.persistent
      → AreNeedsOf S w.persistent (A_superblock u ∷ w.elements) (A_superblock u) d → IsPendingOf S next (staged_after g (Version (family_of u.section) u.version) d)
  version_staged u d next version els same needs = record {
    families = is.families;
    root = is.root ∙ ap (λ (X : Cut). X.root) (sym same);
    sections = λ j lt. is.sections j lt ∙ ap (λ (X : Cut). X.superblocks j) (sym same);
    waiting = subst (λ (X : Cut). Matches S X next.elements (waiting_in X next.elements) (g.waiting ++ (Version (family_of u.section) u.version, d) ∷ [])) (sym same)
        (subst (λ (es : List Element). Matches S w.persistent es (waiting_in w.persistent es) (g.waiting ++ (Version (family_of u.section) u.version, d) ∷ [])) (sym els)
        (pushed (A_superblock u) d (satisfied w.persistent (A_superblock u)) (gt-leb _ _ (let behind : w.persistent.superblocks u.section ≤ w.superblocks u.section = low.superblocks u.section in omega arith))
        (λ m has z. same_needs S w.elements (A_superblock u ∷ w.elements) refl m z) needs));
  }

  pub root_staged : (r : Root) (d : Named) (next : World) → r.version ≡ suc w.root → next.elements ≡ A_root r ∷ w.elements → next.persistent ≡ w.persistent
      → ((z : Name) → Names d z ↔ NeedsName S (A_root r ∷ w.elements) (A_root r) z) → IsPendingOf S next (staged_after g (Version 1 r.version) d)
  root_staged r d next version els same needs = record {
    families = is.families;
    root = is.root ∙ ap (λ (X : Cut). X.root) (sym same);
    sections = λ j lt. is.sections j lt ∙ ap (λ (X : Cut). X.superblocks j) (sym same);
    waiting = subst (λ (X : Cut). Matches S X next.elements (waiting_in X next.elements) (g.waiting ++ (Version 1 r.version, d) ∷ [])) (sym same)
        (subst (λ (es : List Element). Matches S w.persistent es (waiting_in w.persistent es) (g.waiting ++ (Version 1 r.version, d) ∷ [])) (sym els)
        (pushed (A_root r) d (satisfied w.persistent (A_root r)) (gt-leb _ _ (let behind : w.persistent.root ≤ w.root = low.root in omega arith))
        (λ m has z. same_needs S w.elements (A_root r ∷ w.elements) refl m z) (exact_needs S w.persistent (A_root r ∷ w.elements) (A_root r) d needs)));
  }
