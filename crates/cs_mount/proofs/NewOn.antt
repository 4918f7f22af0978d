-- What a disk shows on which a new store was laid.
use Rattle.std.proofs.Common.{◌≡◌, ◌≢◌, ⊎_elim, ℕ, zero, suc, ◌+◌, ◌<◌, ◌≤◌, Bool, true, false, List, [], ◌∷◌, ◌++◌, Some, length, slice_get, refl, sym, ◌∙◌, ap, subst, arith}
use Rattle.std.proofs.lemmas.Bool.{cases_eq}
use Rattle.std.proofs.lemmas.List.{ext_get_or}
use Rattle.cs_disk.specs.Disk.{State, Write, applied, latest, seen}
use Rattle.cs_disk.proofs.Images.{length-applied, page-applied}
use Rattle.cs_frame.specs.Geometries.{Dimensions, IsGeometry}
use Rattle.law_machine.specs.Geometry.{twins_in}
use Rattle.cs_twin.specs.declared.pairs.Pair.{Pair}
use Rattle.cs_twin.specs.Pairs.{ArePairs, Versions, half, is_turned, shown, shown_page, version_at}
use Rattle.cs_twin.proofs.Roles.{IsHalf, IsOwn, role, shown_page-none, shown_page-own, shown_page-twin}
use Rattle.cs_twin.proofs.Shown.{length-shown, page-shown}
use Rattle.cs_mount.specs.Makings.{HoldsFirst, laid, new_page}
use Rattle.cs_mount.specs.StorePairs.{pages_of, store_pair, store_pairs, store_version}
use Rattle.cs_mount.proofs.Halves.{latest_append, latest_here, latest_there, one_place}
use Rattle.cs_mount.proofs.Laid.{other_laid, size_laid, there_laid}
use Rattle.cs_mount.proofs.NewPages.{new_first}
use Rattle.cs_mount.proofs.NewShown.{ShowsFirst}
use Rattle.cs_mount.proofs.Twins.{frames as some_frames, made_at}
use Rattle.cs_mount.proofs.Unpaired.{are_pairs, listed_pairs, pair_there}

-- the writes of a new store to the pages of its pairs up to this place, as they show
abbrev pub own_up_to : Dimensions → (k : ℕ) → List Write
own_up_to d zero = ((store_pair d 0).page, new_page d 0) ∷ []
own_up_to d (suc k) = own_up_to d k ++ ((store_pair d (suc k)).page, new_page d (suc k)) ∷ []

module _ (d : Dimensions) (g : IsGeometry d.format d.extents d.pages d.sections) (twins : twins_in d.format ≡ true) where
  are : ArePairs (store_pairs d) (pages_of d)
  are = are_pairs d g twins

  -- a pair of the store is one of its places
  pub placed : (k : ℕ) (x : Pair) → slice_get (store_pairs d) k ≡ Some x → (k ≤ d.sections) × (store_pair d k ≡ x)
  placed k x at =
      let made = made_at (store_pair d) 0 (1 + d.sections) k x (ap (λ (l : List Pair). slice_get l k) (sym (listed_pairs d g twins)) ∙ at) in
      let zeroth : 0 + k ≡ k = omega arith in
      (omega (arith, made.0), ap (store_pair d) (sym zeroth) ∙ made.1)

  pub own_there : (n k : ℕ) (bytes : List ℕ) → n ≤ d.sections → k ≤ n → latest (own_up_to d n) (store_pair d k).page bytes ≡ new_page d k
  own_there zero k bytes le few =
      let none : 0 ≡ k = omega (arith, few) in
      subst (λ m. latest (own_up_to d 0) (store_pair d m).page bytes ≡ new_page d m) none (latest_here (store_pair d 0).page (store_pair d 0).page bytes (new_page d 0) refl)
  own_there (suc n) k bytes le few =
      latest_append (own_up_to d n) (((store_pair d (suc n)).page, new_page d (suc n)) ∷ []) (store_pair d k).page bytes
      ∙ ⊎_elim
      (λ (here : suc n ≡ k). subst (λ m. latest (((store_pair d (suc n)).page, new_page d (suc n)) ∷ []) (store_pair d m).page (latest (own_up_to d n) (store_pair d m).page bytes) ≡ new_page d m) here
      (latest_here (store_pair d (suc n)).page (store_pair d (suc n)).page (latest (own_up_to d n) (store_pair d (suc n)).page bytes) (new_page d (suc n)) refl))
      (λ (other : suc n ≢ k).
      latest_there (store_pair d (suc n)).page (store_pair d k).page (latest (own_up_to d n) (store_pair d k).page bytes) (new_page d (suc n)) (λ same. other (one_place d g twins (suc n) k false false le (omega (arith, le, few)) same).0)
      ∙ own_there n k bytes (omega (arith, le)) (omega (arith, few, other)))
      (cases_eq (suc n) k)

  pub own_other : (n p : ℕ) (bytes : List ℕ) → ((k : ℕ) → k ≤ n → (store_pair d k).page ≡ p → ⊥) → latest (own_up_to d n) p bytes ≡ bytes
  own_other zero p bytes none = latest_there (store_pair d 0).page p bytes (new_page d 0) (none 0 (omega arith))
  own_other (suc n) p bytes none =
      latest_append (own_up_to d n) (((store_pair d (suc n)).page, new_page d (suc n)) ∷ []) p bytes
      ∙ latest_there (store_pair d (suc n)).page p (latest (own_up_to d n) p bytes) (new_page d (suc n)) (none (suc n) (omega arith))
      ∙ own_other n p bytes (λ k le. none k (omega (arith, le)))

  module _ (s : State) (sized : length s.durable ≡ pages_of d) where
    abbrev V : Versions
    V = store_version (Some d)

    -- each half is of version 1
    pub holds_first : HoldsFirst d (laid d s).durable
    holds_first k x twin at =
        let here = placed k x at in
        subst (λ (y : Pair). version_at V (laid d s).durable y twin ≡ 1) here.1
        (ap (V (store_pair d k).page) (there_laid d g twins s sized k twin here.0) ∙ new_first d g (some_frames d g twins) k here.0)

    -- what it shows
    shows_pair : (k : ℕ) → k ≤ d.sections → shown_page V (store_pairs d) (laid d s).durable (store_pair d k).page ≡ new_page d k
    shows_pair k le =
        shown_page-own V (laid d s).durable (store_pairs d) (pages_of d) are k (store_pair d k) (pair_there d g twins k le) ∙ there_laid d g twins s sized k (is_turned V (laid d s).durable (store_pair d k)) le

    pub shows_first : ShowsFirst d (shown V (store_pairs d) (laid d s).durable)
    shows_first k le =
        let lt = are.inside k (store_pair d k) false (pair_there d g twins k le) in
        let size = size_laid d g twins s sized in
        page-shown V (store_pairs d) (laid d s).durable (store_pair d k).page (omega (arith, lt, size)) ∙ shows_pair k le

    -- each page as it shows, by what the disk showed before
    abbrev ShowsAfter : ℕ → Type 0
    ShowsAfter p = latest (own_up_to d d.sections) p (shown_page V (store_pairs d) (seen s) p) ≡ shown_page V (store_pairs d) (laid d s).durable p

    after_half : (k : ℕ) (twin : Bool) → k ≤ d.sections → ShowsAfter (half (store_pair d k) twin)
    after_half k false le = own_there d.sections k (shown_page V (store_pairs d) (seen s) (store_pair d k).page) (omega arith) le ∙ sym (shows_pair k le)
    after_half k true le =
        let at = pair_there d g twins k le in
        own_other d.sections (store_pair d k).twin (shown_page V (store_pairs d) (seen s) (store_pair d k).twin) (λ j few same. let clash : false ≡ true = (one_place d g twins j k false true few le same).1 in cc)
        ∙ shown_page-twin V (seen s) (store_pairs d) (pages_of d) are k (store_pair d k) at ∙ sym (shown_page-twin V (laid d s).durable (store_pairs d) (pages_of d) are k (store_pair d k) at)

    after_own : (p : ℕ) → p < pages_of d → IsOwn (store_pairs d) p → ShowsAfter p
    after_own p lt own =
        own_other d.sections p (shown_page V (store_pairs d) (seen s) p) (λ k le same. own k (store_pair d k) false (pair_there d g twins k le) (sym same))
        ∙ shown_page-none V (seen s) (store_pairs d) p own ∙ sym (other_laid d g twins s sized p lt (λ k twin le same. own k (store_pair d k) twin (pair_there d g twins k le) (sym same)))
        ∙ sym (shown_page-none V (laid d s).durable (store_pairs d) p own)

    each_after : (p : ℕ) → p < pages_of d → ShowsAfter p
    each_after p lt = ⊎_elim
        (λ (found : IsHalf (store_pairs d) p). let here = placed found.place found.pair found.at in
        subst ShowsAfter (sym (found.is ∙ ap (λ (y : Pair). half y found.twin) (sym here.1))) (after_half found.place found.twin here.0))
        (λ (own : IsOwn (store_pairs d) p). after_own p lt own)
        (role (store_pairs d) p)

    -- It shows what it showed, with these writes.
    pub laid_shows : applied (shown V (store_pairs d) (seen s)) (own_up_to d d.sections) ≡ shown V (store_pairs d) (laid d s).durable
    laid_shows =
        let was = length-shown V (store_pairs d) (seen s) ∙ length-applied s.durable s.volatile ∙ sized in
        let now = length-shown V (store_pairs d) (laid d s).durable ∙ size_laid d g twins s sized in
        let size = length-applied (shown V (store_pairs d) (seen s)) (own_up_to d d.sections) ∙ was in
        ext_get_or [] (applied (shown V (store_pairs d) (seen s)) (own_up_to d d.sections)) (shown V (store_pairs d) (laid d s).durable) (size ∙ sym now)
        (λ p lt.
        let inside : p < pages_of d = omega (arith, lt, size) in
        let there = length-applied s.durable s.volatile ∙ sized in
        page-applied (shown V (store_pairs d) (seen s)) (own_up_to d d.sections) p (omega (arith, inside, was))
        ∙ ap (latest (own_up_to d d.sections) p) (page-shown V (store_pairs d) (seen s) p (omega (arith, inside, there)))
        ∙ each_after p inside ∙ sym (page-shown V (store_pairs d) (laid d s).durable p (omega (arith, inside, size_laid d g twins s sized))))
