-- What is found by the two ends of a device, some pages of which are hidden.
use Rattle.std.proofs.Common.{◌≡◌, ◌≢◌, ◌++◌, ◌||◌, ◌-◌, ◌<◌, ◌≤◌, ℕ, true, if◌then◌else◌, Bool, List, [], Option, Some, None, IfSome, Result, Ok, Err, IfOk, length, option_map, option_to_list, replicate, set, refl, sym, ◌∙◌, ap, subst, arith}
use Rattle.std.proofs.lemmas.List.{get_or-replicate, get_or-set_other, get_or-set_same, length-replicate}
use Rattle.cs_disk.specs.declared.fault.DiskFault.{DiskFault}
use Rattle.cs_disk.specs.Disk.{Image, page}
use Rattle.cs_frame.specs.declared.superblocks.Superblock.{Superblock}
use Rattle.cs_frame.specs.FirstFormat.{page_zero_fault}
use Rattle.cs_frame.specs.Geometries.{Dimensions}
use Rattle.law_machine.specs.Geometry.{twins_in}
use Rattle.cs_mount.specs.Hidden.{hidden_at, is_among, page_to_hide, without_hidden}
use Rattle.cs_mount.specs.Identities.{AreOfTwo, IsOfOne, both_said, identity_said}
use Rattle.cs_mount.specs.Makings.{zero_page}
use Rattle.cs_mount.specs.StorePairs.{IsOnPageZero, dimensions_on, first_says, geometry_of_first, pages_of, unless_two, zero_or_last}
use Rattle.cs_mount.specs.Unreadable.{AreEnds, all_hidden, dimensions_by, end_hidden_for, other_hidden}
use Rattle.cs_mount.proofs.Hiding.{among-append, chosen_first, chosen_last, chosen_one, hidden_at_twice, hidden_twice, says_shown}
use Rattle.cs_mount.proofs.Repaging.{length-repaged, page-repaged}
use Rattle.cs_mount.proofs.Spelling.{zero_damaged, zero_reads}
use Rattle.cs_mount.proofs.Telling.{found_third}

-- by the bytes of the two ends
pub found_by : (n : ℕ) (image : Image) (zero last : List ℕ) → zero ≡ page image 0 → last ≡ page image (n - 1) → dimensions_by n zero last ≡ dimensions_on n image
found_by n image zero last is_zero is_last = ap (λ (l : List ℕ). dimensions_by n l last) is_zero ∙ ap (dimensions_by n (page image 0)) is_last

-- So what is found has pairs, and the device its pages.
pub by_twins : (n : ℕ) (zero last : List ℕ) (d : Dimensions) → 2 ≤ n → dimensions_by n zero last ≡ Some d → (twins_in d.format ≡ true) × (pages_of d ≡ n)
by_twins n zero last d some found =
    let blank : Image = replicate n zero in
    let size = length-replicate {A = List ℕ} n zero in
    let image : Image = set blank (n - 1) last in
    let first : page image 0 ≡ zero = get_or-set_other blank (n - 1) 0 last [] (λ same. omega (arith, same, some)) ∙ get_or-replicate n 0 zero [] (omega (arith, some)) in
    let final : page image (n - 1) ≡ last = get_or-set_same blank (n - 1) last [] (omega (arith, some, size)) in
    found_third n image d (sym (found_by n image zero last (sym first) (sym final)) ∙ found)

pub pages_found : (n : ℕ) (zero last : List ℕ) (geometry : Option Dimensions) → 2 ≤ n → geometry ≡ dimensions_by n zero last → IfSome geometry (λ d. (pages_of d ≡ n) × (twins_in d.format ≡ true))
pages_found n zero last None some is = tt
pages_found n zero last (Some d) some is = let both = by_twins n zero last d some (sym is) in (both.1, both.0)

module _ (n : ℕ) (image : Image) (some : 0 < n) (size : length image ≡ n) where
  -- what shows of a page
  pub shows : (hidden : List ℕ) (p : ℕ) → p < n → page (without_hidden hidden image) p ≡ hidden_at hidden p (page image p)
  shows hidden p lt = page-repaged (hidden_at hidden) image p (omega (arith, lt, size))

  last_in : n - 1 < n
  last_in = omega (arith, some)

  module _ (list : List ℕ) (zero last : List ℕ) (ends : AreEnds n list image zero last) where
    pub other_found : (id : Option (List ℕ)) → end_hidden_for n id zero last ≡ other_hidden n id list image
    other_found id = ap (λ (l : List ℕ). end_hidden_for n id l last) (ends.first ∙ sym (shows list 0 some)) ∙ ap (end_hidden_for n id (page (without_hidden list image) 0)) (ends.final ∙ sym (shows list (n - 1) last_in))

    pub store_found : (other : Option ℕ) (zero_now last_now : List ℕ) → zero_now ≡ hidden_at (option_to_list other) 0 zero → last_now ≡ hidden_at (option_to_list other) (n - 1) last
        → dimensions_by n zero_now last_now ≡ dimensions_on n (without_hidden (option_to_list other ++ list) image)
    store_found other zero_now last_now is_zero is_last =
        let hidden = option_to_list other ++ list in
        found_by n (without_hidden hidden image) zero_now last_now
        (is_zero ∙ ap (hidden_at (option_to_list other) 0) ends.first ∙ hidden_at_twice (option_to_list other) list 0 (page image 0) ∙ sym (shows hidden 0 some))
        (is_last ∙ ap (hidden_at (option_to_list other) (n - 1)) ends.final ∙ hidden_at_twice (option_to_list other) list (n - 1) (page image (n - 1)) ∙ sym (shows hidden (n - 1) last_in))

  -- lists that have the same ends
  module _ (all list : List ℕ) (zero : is_among all 0 ≡ is_among list 0) (last : is_among all (n - 1) ≡ is_among list (n - 1)) where
    alike : (p : ℕ) → p < n → is_among all p ≡ is_among list p → page (without_hidden all image) p ≡ page (without_hidden list image) p
    alike p lt same = shows all p lt ∙ ap (λ (b : Bool). if b then zero_page else page image p) same ∙ sym (shows list p lt)

    pub other_alike : (id : Option (List ℕ)) → other_hidden n id all image ≡ other_hidden n id list image
    other_alike id =
        ap (λ (l : List ℕ). end_hidden_for n id l (page (without_hidden all image) (n - 1))) (alike 0 some zero) ∙ ap (end_hidden_for n id (page (without_hidden list image) 0)) (alike (n - 1) last_in last)

    pub store_alike : dimensions_on n (without_hidden all image) ≡ dimensions_on n (without_hidden list image)
    store_alike =
        sym (found_by n (without_hidden all image) (page (without_hidden all image) 0) (page (without_hidden all image) (n - 1)) refl refl)
        ∙ found_by n (without_hidden list image) (page (without_hidden all image) 0) (page (without_hidden all image) (n - 1)) (alike 0 some zero) (alike (n - 1) last_in last)

  -- one store is chosen of those whose pages can be read
  module _ (id unread : List ℕ) where
    abbrev read : Image
    read = without_hidden unread image

    read_size : length read ≡ n
    read_size = length-repaged (hidden_at unread) image ∙ size

    shows_chosen : without_hidden (all_hidden n (Some id) unread image) image ≡ without_hidden (option_to_list (page_to_hide n id read)) read
    shows_chosen = sym (hidden_twice (option_to_list (page_to_hide n id read)) unread image)

    pub readable_one : IsOfOne n (without_hidden (all_hidden n (Some id) unread image) image)
    readable_one = subst (IsOfOne n) (sym shows_chosen) (chosen_one n id read some read_size)

    pub readable_first : identity_said (page read 0) ≡ Some id → dimensions_on n (without_hidden (all_hidden n (Some id) unread image) image) ≡ first_says n (page image 0)
    readable_first says = ap (dimensions_on n) shows_chosen ∙ chosen_first n id read some read_size says ∙ ap (first_says n) (says_shown unread 0 (page image 0) id (page read 0) (shows unread 0 some) says)

    pub readable_last : AreOfTwo n read → identity_said (page read (n - 1)) ≡ Some id → dimensions_on n (without_hidden (all_hidden n (Some id) unread image) image) ≡ first_says n (page image (n - 1))
    readable_last two says =
        ap (dimensions_on n) shows_chosen ∙ chosen_last n id read some read_size two says ∙ ap (first_says n) (says_shown unread (n - 1) (page image (n - 1)) id (page read (n - 1)) (shows unread (n - 1) last_in) says)

  pub readable_of_one : (id : Option (List ℕ)) (unread : List ℕ) → id ≢ None → IsOfOne n (without_hidden (all_hidden n id unread image) image)
  readable_of_one None unread chosen = absurd (chosen refl)
  readable_of_one (Some id) unread chosen = readable_one id unread

pub chosen_some : {A B : Type 0} (f : A → B) (o : Option A) → o ≢ None → option_map f o ≢ None
chosen_some f None some = absurd (some refl)
chosen_some f (Some a) some = λ none. cc none

-- lists with a page before them
pub among_after : (first all list : List ℕ) (p : ℕ) → is_among all p ≡ is_among list p → is_among (first ++ all) p ≡ is_among (first ++ list) p
among_after first all list p same = among-append first all p ∙ ap (λ (b : Bool). is_among first p || b) same ∙ sym (among-append first list p)

-- ---- as it is read

pub two_by : (n : ℕ) (zero last : List ℕ) → both_said (identity_said zero) (identity_said last) ≢ None → dimensions_by n zero last ≡ None
two_by n zero last two = by (both_said (identity_said zero) (identity_said last)) two
  where
    by : (o : Option (List ℕ × List ℕ)) → o ≢ None → unless_two o (zero_or_last n (page_zero_fault zero) zero (first_says n last)) ≡ None
    by None two = absurd (two refl)
    by (Some both) two = refl

one_by : (n : ℕ) (zero last : List ℕ) → both_said (identity_said zero) (identity_said last) ≡ None → dimensions_by n zero last ≡ zero_or_last n (page_zero_fault zero) zero (first_says n last)
one_by n zero last one = ap (λ (o : Option (List ℕ × List ℕ)). unless_two o (zero_or_last n (page_zero_fault zero) zero (first_says n last))) one

pub by_zero : (n : ℕ) (zero last : List ℕ) (it : Superblock) → both_said (identity_said zero) (identity_said last) ≡ None → IsOnPageZero zero (Some it)
    → geometry_of_first n it.format it.extent_count it.pages it.sections it.section ≡ dimensions_by n zero last
by_zero n zero last it one spells = (zero_reads n zero (first_says n last) it spells).1 ∙ sym (one_by n zero last one)

pub by_last : (result : Result (Option Dimensions) DiskFault) (n : ℕ) (zero last : List ℕ) → both_said (identity_said zero) (identity_said last) ≡ None → IsOnPageZero zero None
    → IfOk result (λ found. found ≡ first_says n last) → IfOk result (λ found. found ≡ dimensions_by n zero last)
by_last (Ok found) n zero last one damaged is = is ∙ zero_damaged n zero (first_says n last) damaged ∙ sym (one_by n zero last one)
by_last (Err refused) n zero last one damaged is = tt
