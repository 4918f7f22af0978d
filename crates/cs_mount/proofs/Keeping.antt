-- Whatever is written by way of a store's disk in pairs, it is that of the store which page 0 shows.
use Rattle.std.proofs.Common.{◌≡◌, ◌≢◌, inl, ⊎_elim, if◌then◌else◌, ◌==◌, ◌&&◌, not, ℕ, zero, suc, ◌+◌, ◌-◌, ◌<◌, Bool, true, false, List, [], Option, Some, None, IfSome, slice_get, slice_index, length, map, refl, sym, ◌∙◌, ap, subst, arith, eq-eqb}
use Rattle.std.proofs.lemmas.Option.{same_Some}
use Rattle.std.specs.List.{range_with_len}
use Rattle.cs_disk.specs.Disk.{Image, MayLeave, State, kept, page}
use Rattle.cs_disk.proofs.Images.{length-applied}
use Rattle.cs_frame.specs.FirstFormat.{page_zero_fault}
use Rattle.cs_frame.specs.Geometries.{Dimensions}
use Rattle.law_machine.specs.Geometry.{twins_in}
use Rattle.cs_twin.specs.declared.pairs.Pair.{Pair}
use Rattle.cs_twin.specs.Kept.{AreAllowed}
use Rattle.cs_mount.specs.Identities.{IsOfOne}
use Rattle.cs_mount.specs.OfStores.{IsOfStore, is_allowed}
use Rattle.cs_twin.specs.Pairs.{ArePairs, AreNoOlder, Versions, half, is_turned, shown, shown_page}
use Rattle.cs_mount.specs.StorePairs.{dimensions_on, first_says, pages_of, pairs_where, said_on, section_version, store_pair, store_pairs, store_version}
use Rattle.cs_twin.specs.Tears.{IsLeft, IsUnpaired}
use Rattle.cs_mount.proofs.Ones.{one_found}
use Rattle.cs_mount.proofs.Refinding.{IsWrite, first_pair, left_at, left_found, newest_some}
use Rattle.cs_twin.proofs.Roles.{IsOwn, shown_page-none, shown_page-own}
use Rattle.cs_twin.proofs.Shown.{page-shown}
use Rattle.cs_twin.proofs.Tearing.{MaySpoil}
use Rattle.cs_mount.proofs.Telling.{found_third, said_found, said_third, says_twins, version_says, whole_zero}

-- a crash image has of each page what some of the writes leave
is_left : (s : State) (c : Image) (p : ℕ) → MayLeave s c → IsLeft s p (page c p)
is_left s c p left = (left.0, left.1, ap (λ (image : Image). page image p) left.2)

same_size : (s : State) (c : Image) → MayLeave s c → length c ≡ length s.durable
same_size s c left = ap (λ (image : Image). length image) left.2 ∙ length-applied s.durable (kept left.0 s.volatile)

-- what is said isn't nothing
pub not_both : (o : Option Dimensions) (e : Dimensions) → o ≡ None → o ≡ Some e → ⊥
not_both None e none some = cc
not_both (Some d) e none some = cc

-- ---- page 0 is in no pair

shows_unpaired : (V : Versions) (pairs : List Pair) (image : Image) → IsOwn pairs 0 → 0 < length image → page (shown V pairs image) 0 ≡ page image 0
shows_unpaired V pairs image own inside = page-shown V pairs image 0 inside ∙ shown_page-none V image pairs 0 own

-- bytes that are allowed there aren't of format 4
never_third : (p : ℕ) (bytes : List ℕ) → p ≡ 0 → is_allowed p bytes ≡ true → slice_index bytes 3 ≡ 52 → ⊥
never_third p bytes first_page is third =
    let first = eq-eqb p 0 first_page in
    let fourth = eq-eqb (slice_index bytes 3) 52 third in
    by_tests (p == 0) (slice_index bytes 3 == 52) first fourth is
  where
    by_tests : (a b : Bool) → a ≡ true → b ≡ true → not (a && b) ≡ true → ⊥
    by_tests true true first second is = cc
    by_tests false b first second is = cc
    by_tests true false first second is = cc

none_said : (n : ℕ) (d : Dimensions) → first_says n [] ≡ Some d → ⊥
none_said n d says = let third = said_third n [] d says in cc

module _ (V : Versions) (pairs : List Pair) (n : ℕ) (s : State) (c : Image) (own : IsOwn pairs 0) (sized : length s.durable ≡ n) (allowed : AreAllowed is_allowed pairs s) (left : MayLeave s c) where
  own_shows : (image : Image) → 0 < length image → page (shown V pairs image) 0 ≡ page image 0
  own_shows image inside = shows_unpaired V pairs image own inside

  pub own_said : (d : Dimensions) → first_says n (page (shown V pairs c) 0) ≡ Some d → first_says n (page (shown V pairs s.durable) 0) ≡ Some d
  own_said d says = by_pages n refl
    where
      by_pages : (m : ℕ) → n ≡ m → first_says n (page (shown V pairs s.durable) 0) ≡ Some d
      by_pages zero none =
          let empty : length c ≡ 0 = same_size s c left ∙ sized ∙ none in
          let nothing : page (shown V pairs c) 0 ≡ [] = ap (λ m. page (map (shown_page V pairs c) (range_with_len 0 m)) 0) empty in
          absurd (none_said n d (ap (first_says n) (sym nothing) ∙ says))
      by_pages (suc m) some =
          let size = same_size s c left in
          let inside : 0 < length s.durable = omega (arith, sized, some) in
          let there : 0 < length c = omega (arith, inside, size) in
          let here : first_says n (page c 0) ≡ Some d = ap (first_says n) (sym (own_shows c there)) ∙ says in
          ⊎_elim
          (λ (same : page c 0 ≡ page s.durable 0). ap (first_says n) (own_shows s.durable inside ∙ sym same) ∙ here)
          (λ (w : IsWrite s 0 (page c 0)).
          absurd (never_third w.write.0 w.write.1 w.goes (allowed w.place w.write w.at (subst (λ p. IsUnpaired pairs p) (sym w.goes) own)) (ap (λ (l : List ℕ). slice_index l 3) (sym w.is) ∙ said_third n (page c 0) d here)))
          (left_at s 0 (page c 0) inside (is_left s c 0 left))

-- ---- page 0 is in a pair

-- what shows there is the store that is found
module _ (d : Dimensions) (twins : twins_in d.format ≡ true) (image : Image) (lies : ArePairs (store_pairs d) (length image)) (found : dimensions_on (pages_of d) image ≡ Some d) where
  abbrev V : Versions
  V = store_version (Some d)

  abbrev x : Pair
  x = store_pair d 0

  there : slice_get (store_pairs d) 0 ≡ Some x
  there = first_pair d twins

  shows : page (shown V (store_pairs d) image) 0 ≡ page image (half x (is_turned V image x))
  shows = page-shown V (store_pairs d) image 0 (lies.inside 0 x false there) ∙ shown_page-own V image (store_pairs d) (length image) lies 0 x there

  pub shown_says : (e : Dimensions) → first_says (pages_of d) (page (shown V (store_pairs d) image) 0) ≡ Some e → (Some d ≡ Some e) × (dimensions_on (pages_of d) image ≡ Some e)
  shown_says e says =
      let newest = newest_some d twins image found in
      let version = ap (section_version d 0) shows in
      let same = sym (version_says d (page (shown V (store_pairs d) image) 0) twins (omega (arith, newest, version))) ∙ says in
      (same, found ∙ same)

-- ---- of whatever store

no_half : (pairs : List Pair) (p : ℕ) → pairs ≡ [] → IsOwn pairs p
no_half pairs p none k x twin at is = nothing k (ap (λ (l : List Pair). slice_get l k) (sym none) ∙ at)
  where
    nothing : (k : ℕ) → slice_get {X = Pair} [] k ≡ Some x → ⊥
    nothing k at = cc

no_twins : (d : Dimensions) (n : ℕ) (bytes : List ℕ) (e : Dimensions) → twins_in d.format ≡ false → Some d ≡ Some e → first_says n bytes ≡ Some e → ⊥
no_twins d n bytes e single same says =
    let twins : twins_in d.format ≡ true = ap (λ (it : Dimensions). twins_in it.format) (same_Some d e same) ∙ says_twins n bytes e says in
    let clash : true ≡ false = sym twins ∙ single in
    cc clash

unpaired : (d : Dimensions) (pairs : List Pair) → twins_in d.format ≡ false → pairs ≡ pairs_where (Some d) → pairs ≡ []
unpaired d pairs single its = its ∙ ap (λ (b : Bool). if b then map (store_pair d) (range_with_len 0 (1 + d.sections)) else []) single

-- a store whose pages lie once, on a device whose page 0 says none of format 4
single_store : (d : Dimensions) (pairs : List Pair) (n : ℕ) (image : Image) → twins_in d.format ≡ false → pairs ≡ pairs_where (Some d) → pages_of d ≡ n
    → ((e : Dimensions) → first_says n (page (shown (store_version (Some d)) pairs image) 0) ≡ Some e → ⊥) → IsOfStore (Some d) pairs n image
single_store d pairs n image single its sized none = record {
  its = its;
  sized = sized;
  there = λ twins. absurd (let clash : true ≡ false = sym twins ∙ single in cc clash);
  found = λ e says. absurd (none e says);
}

-- a store whose pages lie twice, and that is found
paired_store : (d : Dimensions) (pairs : List Pair) (n : ℕ) (image : Image) → twins_in d.format ≡ true → length image ≡ n → ArePairs pairs n → pairs ≡ pairs_where (Some d) → pages_of d ≡ n → dimensions_on (pages_of d) image ≡ Some d
    → IsOfStore (Some d) pairs n image
paired_store d pairs n image twins size are its sized found =
    let same : pairs ≡ store_pairs d = its in
    let lies = subst (λ m. ArePairs (store_pairs d) m) (sym size) (subst (λ (l : List Pair). ArePairs l n) same are) in
    let now : IsOfStore (Some d) (store_pairs d) (pages_of d) image = record { its = refl; sized = refl; there = λ is. found; found = shown_says d twins image lies found } in
    subst (λ (l : List Pair). IsOfStore (Some d) l n image) (sym same) (subst (λ m. IsOfStore (Some d) (store_pairs d) m image) sized now)

pub kept_of_store : (g : Option Dimensions) (pairs : List Pair) (n : ℕ) (s : State) (c : Image) → ArePairs pairs n → length s.durable ≡ n → AreNoOlder (store_version g) pairs s → AreAllowed is_allowed pairs s
    → IsOfStore g pairs n s.durable → MayLeave s c → IsOfStore g pairs n c
kept_of_store None pairs n s c are sized newer allowed fits left = record {
  its = fits.its;
  sized = fits.sized;
  there = tt;
  found = λ e says. absurd (let was = (fits.found e (own_said (store_version None) pairs n s c (no_half pairs 0 fits.its) sized allowed left e says)).0 in cc was);
}
kept_of_store (Some d) pairs n s c are sized newer allowed fits left = by_format (twins_in d.format) refl
  where
    by_format : (b : Bool) → twins_in d.format ≡ b → IsOfStore (Some d) pairs n c
    by_format false single = single_store d pairs n c single fits.its fits.sized (λ e says.
        let was = own_said (store_version (Some d)) pairs n s c (no_half pairs 0 (unpaired d pairs single fits.its)) sized allowed left e says in
        no_twins d n (page (shown (store_version (Some d)) pairs s.durable) 0) e single (fits.found e was).0 was)
    by_format true twins =
        let V = store_version (Some d) in
        let same : pairs ≡ store_pairs d = fits.its in
        let lies = subst (λ m. ArePairs (store_pairs d) m) (sym sized) (subst (λ (l : List Pair). ArePairs l n) same are) in
        let no_older = subst (λ (l : List Pair). AreNoOlder V l s) same newer in
        let before : dimensions_on (pages_of d) s.durable ≡ Some d = ap (λ m. dimensions_on m s.durable) fits.sized ∙ fits.there twins in
        let tear : MaySpoil V (store_pairs d) s c = record { size = same_size s c left; each = λ p inside. inl (is_left s c p left) } in
        let found = left_found d twins s c lies no_older tear before (inl (is_left s c 0 left)) (inl (is_left s c (pages_of d - 1) left)) in
        paired_store d pairs n c twins (same_size s c left ∙ sized) are fits.its fits.sized found

-- ---- as it is opened, and as it is made

-- where the dimensions are those that an opening finds
pub opened_of_store : (g : Option Dimensions) (pairs : List Pair) (n : ℕ) (image : Image) → 0 < n → length image ≡ n → ArePairs pairs n → IsOfOne n image → g ≡ dimensions_on n image → pairs ≡ pairs_where g → IfSome g (λ d. pages_of d ≡ n) → IsOfStore g pairs n image
opened_of_store None pairs n image some size are one is its sized = record {
  its = its;
  sized = sized;
  there = tt;
  found = λ e says. absurd (not_both (said_on n image) e (sym (one_found n image one) ∙ sym is)
      (said_found n image e (ap (first_says n) (sym (shows_unpaired (store_version None) pairs image (no_half pairs 0 its) (omega (arith, size, some)))) ∙ says)));
}
opened_of_store (Some d) pairs n image some size are one is its sized = paired_store d pairs n image (found_third n image d (sym is)).0 size are its sized (ap (λ m. dimensions_on m image) sized ∙ sym is)

-- where page 0 isn't whole, and the pages of the store lie once
pub made_of_store : (d : Dimensions) (pairs : List Pair) (n : ℕ) (image : Image) → 0 < n → length image ≡ n → twins_in d.format ≡ false → pairs ≡ store_pairs d → pages_of d ≡ n → page_zero_fault (page image 0) ≢ None → IsOfStore (Some d) pairs n image
made_of_store d pairs n image some size single its sized damaged = single_store d pairs n image single its sized (λ e says.
    damaged (whole_zero n (page image 0) e (ap (first_says n) (sym (shows_unpaired (store_version (Some d)) pairs image (no_half pairs 0 (unpaired d pairs single its)) (omega (arith, size, some)))) ∙ says)))
