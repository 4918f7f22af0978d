-- Which extent is chosen to be swept.
use Rattle.std.proofs.Common.{◌≡◌, ◌+◌, ◌*◌, ◌-◌, ◌/◌, ◌<◌, ◌≤◌, ℕ, List, Option, Some, None, Bool, true, false, ⊎_elim, ◌∙◌, ap, arith, get_or, min, refl, inl, inr, sym, subst, true≢false}
use Rattle.std.specs.Prelude.{if◌then◌else◌, slice_get}
use Rattle.std.proofs.lemmas.Bool.{cases_lt}
use Rattle.std.proofs.lemmas.Option.{get_or_from_slice_get}
use Rattle.cs_extent.specs.State.{State as Extents, IsWhole, extents_of, shape}
use Rattle.cs_frame.specs.Frames.{page_count}
use Rattle.cs_frame.specs.Geometries.{run_bytes, weight_bytes}
use Rattle.law_machine.specs.Format.{Format, Four, Two}
use Rattle.law_machine.specs.Geometry.{marks_in, most_weight_in}
use Rattle.cs_inspect.specs.Brim.{ChoosesNext, IsNext}
use Rattle.cs_inspect.specs.Choices.{ChoosesApart, ChoosesBy, ChoosesNextBy, ChoosesTogether, run_pages}
use Rattle.cs_inspect.specs.declared.surveys.ExtentUse.{ExtentUse}
use Rattle.cs_inspect.specs.Fewest.{IsFewestLive}
use Rattle.cs_inspect.specs.Uses.{AreExtents, HasNoGarbage, IsMostGarbage, garbage}

-- ---- the pages of a run

-- one with no more than so many entries takes no more pages than one with all
pub pages_all : (named limit dead : ℕ) → dead ≤ page_count (run_bytes (min named limit)) → dead ≤ run_pages named
pages_all named limit dead le = omega (arith, le)

-- where an entry takes as many bytes whatever it has, this is how many may be named
plain_limit : (format : Format) (pages limit : ℕ) → marks_in format ≡ false → limit ≡ most_weight_in format pages → limit ≡ (4096 * pages - 45) / 81
plain_limit Two pages limit plain is = is
plain_limit (Four store device) pages limit plain is = absurd (true≢false plain)

-- and a run has so many bytes for each
plain_pages : (format : Format) (named index_pages : ℕ) → marks_in format ≡ false → index_pages ≡ page_count (weight_bytes format named) → index_pages ≡ page_count (run_bytes named)
plain_pages Two named index_pages plain is = is
plain_pages (Four store device) named index_pages plain is = absurd (true≢false plain)

-- one that has as many entries as it may takes all pages of an extent
full_run : (pages limit : ℕ) → limit ≡ (4096 * pages - 45) / 81 → pages ≤ page_count (run_bytes limit)
full_run pages limit is = omega (arith, is)

pub pages_fewer : (pages named limit dead : ℕ) → limit ≡ (4096 * pages - 45) / 81 → dead ≤ pages → page_count (run_bytes (min named limit)) < dead → run_pages named < dead
pages_fewer pages named limit dead is le lt = elim (cases_lt limit named) [
  | inl more ↦ (let same : min named limit ≡ limit = omega (arith, more) in let less : page_count (run_bytes limit) < dead = subst (λ (n : ℕ). page_count (run_bytes n) < dead) same lt in absurd (omega (arith, full_run pages limit is, le, less)))
  | inr few ↦ (let same : min named limit ≡ named = omega (arith, few) in subst (λ (n : ℕ). page_count (run_bytes n) < dead) same lt)
]

-- ---- the extent with most garbage

-- what can be swept frees all pages that are dead
all_dead : (used : ExtentUse) → 0 < garbage used → garbage used ≡ used.pointer - used.live
all_dead used some = go used.is_open used.is_swept used.holds_runs some
  where
    of_marks : (is_open is_swept holds_runs : Bool) → ℕ
    of_marks is_open is_swept holds_runs = if is_open then 0 else if is_swept then 0 else if holds_runs then 0 else used.pointer - used.live

    go : (is_open is_swept holds_runs : Bool) → 0 < of_marks is_open is_swept holds_runs → of_marks is_open is_swept holds_runs ≡ used.pointer - used.live
    go true swept runs none = absurd (let l : 0 < 0 = none in omega arith)
    go false true runs none = absurd (let l : 0 < 0 = none in omega arith)
    go false false true none = absurd (let l : 0 < 0 = none in omega arith)
    go false false false most = refl

module _ (uses : List ExtentUse) where
  pub none_chosen : (pages : ℕ) → HasNoGarbage uses → ChoosesTogether uses pages None
  none_chosen pages none e used at = let zero : garbage used ≡ 0 = none e used at in omega (arith, zero)

  module _ (extent dead : ℕ) (d : ExtentUse) (is : dead ≡ (get_or uses extent d).pointer - (get_or uses extent d).live) where
    -- what is read of the extent is its use
    dead_of : (used : ExtentUse) → slice_get uses extent ≡ Some used → used.pointer - used.live ≡ dead
    dead_of used at = ap (λ (u : ExtentUse). u.pointer - u.live) (sym (get_or_from_slice_get uses extent used d at)) ∙ sym is

    pub fewest_chosen : (last : Option ℕ) (pages : ℕ) → IsFewestLive uses last pages extent → ChoosesApart uses last pages (Some (extent, dead))
    fewest_chosen last pages chosen = (chosen, dead_of chosen.best.its chosen.best.there.0)

    pub next_chosen : (last : Option ℕ) (pages greatest : ℕ) → IsNext uses last pages greatest extent → ChoosesNext uses last pages greatest (Some (extent, dead))
    next_chosen last pages greatest next = (next, dead_of)

    module _ (best : IsMostGarbage uses extent) where
      its_dead : garbage best.its ≡ dead
      its_dead = all_dead best.its best.some ∙ dead_of best.its best.there

      pub some_chosen : (pages : ℕ) → pages < dead → ChoosesTogether uses pages (Some (extent, dead))
      some_chosen pages lt = (best, its_dead, lt)

      pub not_chosen : (pages : ℕ) → dead ≤ pages → ChoosesTogether uses pages None
      not_chosen pages le e other there = ⊎_elim
          (λ (less : garbage other < garbage best.its). omega (arith, less, its_dead, le))
          (λ (same : (garbage other ≡ garbage best.its) × (extent ≤ e)). let equal : garbage other ≡ garbage best.its = same.0 in omega (arith, equal, its_dead, le))
          (best.most e other there)

-- ---- what was read of the extents x, and of the index

module _ (x held : Extents) (uses listed : List ExtentUse) (whole : IsWhole x) (same : x ≡ held) (are : AreExtents (shape held).extents (extents_of held) uses) (is_listed : listed ≡ uses) (chosen : Option (ℕ × ℕ)) where
  rule_held : (b : Bool) → (shape x).apart ≡ b → (shape held).apart ≡ b
  rule_held b is = sym (ap (λ (y : Extents). (shape y).apart) same) ∙ is

  pub by_fewest : (last : Option ℕ) (pages index_pages : ℕ) → (shape x).apart ≡ true → last ≡ (extents_of x).last → pages ≡ (shape x).pages → ChoosesApart listed last pages chosen
      → ChoosesBy (shape held).apart uses index_pages (extents_of held).last (shape held).pages chosen
  by_fewest last pages index_pages is lasts given goes =
      subst (λ (a : Bool). ChoosesBy a uses index_pages (extents_of held).last (shape held).pages chosen) (sym (rule_held true is))
      (subst (λ (us : List ExtentUse). ChoosesApart us (extents_of held).last (shape held).pages chosen) is_listed
      (subst (λ (l : Option ℕ). ChoosesApart listed l (shape held).pages chosen) (lasts ∙ ap (λ (y : Extents). (extents_of y).last) same)
      (subst (λ (n : ℕ). ChoosesApart listed last n chosen) (given ∙ ap (λ (y : Extents). (shape y).pages) same) goes)))

  pub by_next : (last : Option ℕ) (pages greatest index_pages : ℕ) → (shape x).apart ≡ true → last ≡ (extents_of x).last → pages ≡ (shape x).pages → ChoosesNext listed last pages greatest chosen
      → ChoosesNextBy (shape held).apart uses greatest index_pages (extents_of held).last (shape held).pages chosen
  by_next last pages greatest index_pages is lasts given goes =
      subst (λ (a : Bool). ChoosesNextBy a uses greatest index_pages (extents_of held).last (shape held).pages chosen) (sym (rule_held true is))
      (subst (λ (us : List ExtentUse). ChoosesNext us (extents_of held).last (shape held).pages greatest chosen) is_listed
      (subst (λ (l : Option ℕ). ChoosesNext listed l (shape held).pages greatest chosen) (lasts ∙ ap (λ (y : Extents). (extents_of y).last) same)
      (subst (λ (n : ℕ). ChoosesNext listed last n greatest chosen) (given ∙ ap (λ (y : Extents). (shape y).pages) same) goes)))

  module _ (named limit index_pages entries : ℕ) (limited : limit ≡ most_weight_in x.format x.pages) (pages : index_pages ≡ page_count (weight_bytes x.format (min named limit))) (all : named ≡ entries) where
    -- no more pages are dead than an extent has
    dead_within : (extent : ℕ) (used : ExtentUse) → slice_get uses extent ≡ Some used → used.pointer - used.live ≤ x.pages
    dead_within extent used at =
        let its : AreExtents (shape x).extents (extents_of x) uses = subst (λ (y : Extents). AreExtents (shape y).extents (extents_of y) uses) (sym same) are in
        let given : used.pointer ≡ (extents_of x).pointer extent = (its.1 extent used at).pointer in
        let within : (extents_of x).pointer extent ≤ x.pages = whole.pointers extent in
        omega (arith, given, within)

    -- the pages of the run, where chunks and runs may lie on one extent
    pages_together : (shape x).apart ≡ false → index_pages ≡ page_count (run_bytes (min named limit))
    pages_together together = plain_pages x.format (min named limit) index_pages together pages

    run_chosen : (shape x).apart ≡ false → (found : Option (ℕ × ℕ)) → ChoosesTogether uses index_pages found → ChoosesTogether uses (run_pages named) found
    run_chosen together None goes = λ e used at. pages_all named limit (garbage used) (subst (λ (n : ℕ). garbage used ≤ n) (pages_together together) (goes e used at))
    run_chosen together (Some (extent, dead)) (best, is, lt) =
        let all_of : garbage best.its ≡ best.its.pointer - best.its.live = all_dead best.its best.some in
        let within : best.its.pointer - best.its.live ≤ x.pages = dead_within extent best.its best.there in
        (best, is, pages_fewer x.pages named limit dead (plain_limit x.format x.pages limit together limited) (omega (arith, all_of, within, is)) (subst (λ (n : ℕ). n < dead) (pages_together together) lt))

    pub by_garbage : (last : Option ℕ) (each : ℕ) → (shape x).apart ≡ false → ChoosesTogether listed index_pages chosen → ChoosesBy (shape held).apart uses (run_pages entries) last each chosen
    by_garbage last each is goes = subst (λ (a : Bool). ChoosesBy a uses (run_pages entries) last each chosen) (sym (rule_held false is))
        (subst (λ (n : ℕ). ChoosesTogether uses (run_pages n) chosen) all (run_chosen is chosen (subst (λ (us : List ExtentUse). ChoosesTogether us index_pages chosen) is_listed goes)))

    pub by_garbage_next : (greatest : ℕ) (last : Option ℕ) (each : ℕ) → (shape x).apart ≡ false → ChoosesTogether listed index_pages chosen → ChoosesNextBy (shape held).apart uses greatest (run_pages entries) last each chosen
    by_garbage_next greatest last each is goes = subst (λ (a : Bool). ChoosesNextBy a uses greatest (run_pages entries) last each chosen) (sym (rule_held false is))
        (subst (λ (n : ℕ). ChoosesTogether uses (run_pages n) chosen) all (run_chosen is chosen (subst (λ (us : List ExtentUse). ChoosesTogether us index_pages chosen) is_listed goes)))
