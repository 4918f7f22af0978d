-- What is at rest once a root was staged, and what the root goes with.
use Rattle.std.proofs.Common.{◌≡◌, ◌≢◌, ◌∙◌, ⊎_elim, ℕ, ◌^◌, ◌<◌, ◌≤◌, Bool, List, [], ◌∷◌, None, true, false, not, if◌then◌else◌, length, length-set, refl, sym, ap, subst, arith}
use Rattle.std.specs.Prelude.{IsTrue, ◌↔◌, drop, slice_index}
use Rattle.std.proofs.lemmas.List.{get_or-set_same}
use Rattle.cs_deps.specs.Named.{Named}
use Rattle.cs_deps.specs.Staging.{IsVersionStaged, Staging}
use Rattle.cs_deps.specs.State.{State as Graph}
use Rattle.cs_extent.specs.Frames.{root_family}
use Rattle.cs_extent.specs.State.{State as ExtentsState, shape}
use Rattle.cs_index.specs.Apart.{IsFullApart, IsNewestStagedApart, IsStagedApart, WritesNewest, takes_apart}
use Rattle.cs_index.specs.Merges.{deletions_go, part}
use Rattle.cs_index.specs.Staged.{IsPartStagedBy, IsRunAppendedBy}
use Rattle.cs_index.specs.State.{State, index_of}
use Rattle.law_machine.specs.Apart.{is_any_swept, is_blank_by, some_copy}
use Rattle.law_machine.specs.Device.{Shape}
use Rattle.law_machine.specs.Element.{Copy, Entry, Locator as Place}
use Rattle.law_machine.specs.Extents.{Extents, ForMerge, ForRun, Purpose as Reason}
use Rattle.law_machine.specs.Merges.{IsRunOf}
use Rattle.cs_reclaim.specs.Rooted.{copies_at_rest, extents_at_rest, freed_under, lying_apart}
use Rattle.cs_reclaim.proofs.Freeing.{resets_within}

module _ (S : Shape) (x : Extents) where
  pub copies_kept : (copies : List Copy) → is_any_swept S x ≡ true → copies ≡ copies_at_rest S x copies
  copies_kept copies is = by (is_any_swept S x) is
    where
      by : (b : Bool) → b ≡ true → copies ≡ (if b then copies else [])
      by true is = refl
      by false is = absurd (cc is)

  pub copies_gone : (copies : List Copy) → is_any_swept S x ≡ false → [] ≡ copies_at_rest S x copies
  copies_gone copies is = by (is_any_swept S x) is
    where
      by : (b : Bool) → b ≡ false → [] ≡ (if b then copies else [])
      by true is = absurd (cc is)
      by false is = refl

  pub fresh_kept : is_any_swept S x ≡ true → x ≡ extents_at_rest S x
  fresh_kept is = by (is_any_swept S x) is
    where
      by : (b : Bool) → b ≡ true → x ≡ record x { fresh = if b then x.fresh else None }
      by true is = refl
      by false is = absurd (cc is)

  pub fresh_gone : is_any_swept S x ≡ false → record x { fresh = None } ≡ extents_at_rest S x
  fresh_gone is = by (is_any_swept S x) is
    where
      by : (b : Bool) → b ≡ false → record x { fresh = None } ≡ record x { fresh = if b then x.fresh else None }
      by true is = absurd (cc is)
      by false is = refl

abbrev none_at_all : List Copy
none_at_all = []

-- no copies rest as none
pub none_rest : (S : Shape) (x : Extents) (after : List Copy) → after ≡ copies_at_rest S x [] → after ≡ []
none_rest S x after is = is ∙ by (is_any_swept S x)
  where
    by : (b : Bool) → (if b then none_at_all else none_at_all) ≡ none_at_all
    by true = refl
    by false = refl

pub some_of : (b : Bool) (copies : List Copy) → IsTrue b ↔ (copies ≡ []) → not b ≡ some_copy copies
some_of true [] is = refl
some_of false [] is = absurd (cc (is.1 refl))
some_of true (c ∷ cs) is = absurd (cc (is.0 refl))
some_of false (c ∷ cs) is = refl

-- the same of what stands then
pub freed_as : (S T : Shape) (x y : Extents) (t : State) (copies : List Copy) (v : ℕ) → T ≡ S → y ≡ x → freed_under T y t copies v ≡ freed_under S x t copies v
freed_as S T x y t copies v shapes same = ap (λ (U : Shape). freed_under U y t copies v) shapes ∙ ap (λ (z : Extents). freed_under S z t copies v) same

-- what is reset then goes with the root
pub resets_then : (S : Shape) (x y z : Extents) (t : State) (copies : List Copy) (v most : ℕ) → y ≡ extents_at_rest S x → z ≡ freed_under S y t copies v → ((e : ℕ) → x.reset e ≤ most) → v ≤ most → (e : ℕ) → z.reset e ≤ most
resets_then S x y z t copies v most rest freed old le e =
    subst (λ (w : Extents). w.reset e ≤ most) (sym freed)
    (resets_within (lying_apart S) y v (is_blank_by S y (index_of t) t.runs copies) most (λ d. subst (λ (w : Extents). w.reset d ≤ most) (sym rest) (old d)) le S.extents e)

-- ---- the root that was staged

module _ (apart go : Bool) (k : ℕ) (s t : State) (x y : ExtentsState) (g h : Graph) (reason : Reason) (v commands : ℕ) (staged : IsPartStagedBy apart go k s x g reason v commands t y h) where
  pub part_shape : shape y ≡ shape x
  part_shape = ⊎_elim
      (λ (m : (entries : List Entry) × (place : Place) × (entries ≢ []) × IsRunOf go (part s k) entries × IsRunAppendedBy apart x g reason entries place y staged.between
      × (t.runs ≡ record { place = place; entries = entries } ∷ drop k s.runs)). m.4.same_shape)
      (λ (n : IsRunOf go (part s k) [] × (y ≡ x) × (staged.between ≡ g) × (t.runs ≡ drop k s.runs)). ap shape n.1)
      staged.appended

  part_small : v < 2 ^ 63
  part_small = staged.root.page.2.fits.last_version

  part_root : root_family < length h.staging.latest → slice_index h.staging.latest root_family ≡ v
  part_root families = root_is staged.between.staging h.staging v staged.root.needs staged.root.version families
    where
      root_is : (old new : Staging) (w : ℕ) (d : Named) → IsVersionStaged old root_family w d new → root_family < length new.latest → slice_index new.latest root_family ≡ w
      root_is old new w d version lt =
          let is = ap (λ (z : Staging). z.latest) version.5 in
          ap (λ ls. slice_index ls root_family) is ∙ get_or-set_same old.latest root_family w 0 (omega (arith, lt, ap length is, length-set old.latest root_family w))

module _ (s t : State) (x y : ExtentsState) (g h : Graph) (v commands : ℕ) (staged : IsStagedApart s x g v commands t y h) where
  pub staged_shape : shape y ≡ shape x
  staged_shape = ⊎_elim
      (λ (one : IsNewestStagedApart (takes_apart (shape x) s) s x g ForRun v commands t y h).
      part_shape true (deletions_go (shape x) s (takes_apart (shape x) s)) (takes_apart (shape x) s) s t x y g h ForRun v commands one)
      (λ (all : IsFullApart (WritesNewest (shape x) s (takes_apart (shape x) s)) x ForRun × IsNewestStagedApart (length s.runs) s x g ForMerge v commands t y h).
      part_shape true (deletions_go (shape x) s (length s.runs)) (length s.runs) s t x y g h ForMerge v commands all.1)
      staged

  pub staged_limit : t.limit ≡ s.limit
  staged_limit = ⊎_elim
      (λ (one : IsNewestStagedApart (takes_apart (shape x) s) s x g ForRun v commands t y h). one.limit)
      (λ (all : IsFullApart (WritesNewest (shape x) s (takes_apart (shape x) s)) x ForRun × IsNewestStagedApart (length s.runs) s x g ForMerge v commands t y h). all.1.limit)
      staged

  pub staged_format : t.format ≡ s.format
  staged_format = ⊎_elim
      (λ (one : IsNewestStagedApart (takes_apart (shape x) s) s x g ForRun v commands t y h). one.format)
      (λ (all : IsFullApart (WritesNewest (shape x) s (takes_apart (shape x) s)) x ForRun × IsNewestStagedApart (length s.runs) s x g ForMerge v commands t y h). all.1.format)
      staged

  pub staged_root : root_family < length h.staging.latest → slice_index h.staging.latest root_family ≡ v
  staged_root families = ⊎_elim
      (λ (one : IsNewestStagedApart (takes_apart (shape x) s) s x g ForRun v commands t y h).
      part_root true (deletions_go (shape x) s (takes_apart (shape x) s)) (takes_apart (shape x) s) s t x y g h ForRun v commands one families)
      (λ (all : IsFullApart (WritesNewest (shape x) s (takes_apart (shape x) s)) x ForRun × IsNewestStagedApart (length s.runs) s x g ForMerge v commands t y h).
      part_root true (deletions_go (shape x) s (length s.runs)) (length s.runs) s t x y g h ForMerge v commands all.1 families)
      staged

  pub staged_small : v < 2 ^ 63
  staged_small = ⊎_elim
      (λ (one : IsNewestStagedApart (takes_apart (shape x) s) s x g ForRun v commands t y h).
      part_small true (deletions_go (shape x) s (takes_apart (shape x) s)) (takes_apart (shape x) s) s t x y g h ForRun v commands one)
      (λ (all : IsFullApart (WritesNewest (shape x) s (takes_apart (shape x) s)) x ForRun × IsNewestStagedApart (length s.runs) s x g ForMerge v commands t y h).
      part_small true (deletions_go (shape x) s (length s.runs)) (length s.runs) s t x y g h ForMerge v commands all.1)
      staged
