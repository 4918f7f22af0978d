-- What shows of a pair of which one half isn't whole.
use Rattle.std.proofs.Common.{◌≡◌, ◌<◌, ℕ, Bool, true, false, not, List, Some, length, slice_get, sym, ◌∙◌, ap, subst, arith}
use Rattle.cs_disk.specs.Disk.{Image, page}
use Rattle.cs_frame.specs.Geometries.{Dimensions, IsGeometry}
use Rattle.cs_twin.specs.declared.pairs.Pair.{Pair}
use Rattle.cs_twin.specs.Pairs.{fence, half, version_at}
use Rattle.cs_twin.proofs.Roles.{shown_page-own}
use Rattle.cs_twin.proofs.Shown.{page-shown, turns}
use Rattle.cs_mount.specs.Hidden.{hidden_at, is_among, without_hidden}
use Rattle.cs_mount.specs.Hollow.{no_fence}
use Rattle.cs_mount.specs.Makings.{zero_page}
use Rattle.cs_mount.specs.Showing.{shown_of}
use Rattle.cs_mount.specs.StorePairs.{pages_of, store_pairs, store_version}
use Rattle.cs_mount.proofs.Blank.{apart_of, no_version}
use Rattle.cs_mount.proofs.Hiding.{hides_page, leaves_page}
use Rattle.cs_mount.proofs.Repaging.{length-repaged, page-repaged}

module _ (d : Dimensions) (k : ℕ) (x : Pair) (twin : Bool) (g : IsGeometry d.format d.extents d.pages d.sections) (at : slice_get (store_pairs d) k ≡ Some x) where
  pub other_shows : (image : Image) → length image ≡ pages_of d → version_at (store_version (Some d)) image x twin ≡ 0 → 0 < version_at (store_version (Some d)) image x (not twin)
      → page (shown_of d image) x.page ≡ page image (half x (not twin))
  other_shows image size none whole =
      let V = store_version (Some d) in
      let are = apart_of d g in
      let inside = are.inside k x false at in
      page-shown V (store_pairs d) image x.page (omega (arith, inside, size)) ∙ shown_page-own V image (store_pairs d) (pages_of d) are k x at
      ∙ ap (λ (b : Bool). page image (half x b)) (turns V image x twin (omega (arith, none, whole)))

  pub hidden_shows : (image : Image) (hidden : List ℕ) → length image ≡ pages_of d → is_among hidden (half x twin) ≡ true → is_among hidden (half x (not twin)) ≡ false
      → 0 < version_at (store_version (Some d)) image x (not twin) → page (shown_of d (without_hidden hidden image)) x.page ≡ page image (half x (not twin))
  hidden_shows image hidden size is isnt whole =
      let V = store_version (Some d) in
      let are = apart_of d g in
      let shows = without_hidden hidden image in
      let holds : (b : Bool) → page shows (half x b) ≡ hidden_at hidden (half x b) (page image (half x b)) = λ b. (let inside = are.inside k x b at in page-repaged (hidden_at hidden) image (half x b) (omega (arith, inside, size))) in
      let stays : page shows (half x (not twin)) ≡ page image (half x (not twin)) = holds (not twin) ∙ leaves_page hidden (half x (not twin)) (page image (half x (not twin))) isnt in
      let gone : page shows (half x twin) ≡ zero_page = holds twin ∙ hides_page hidden (half x twin) (page image (half x twin)) is in
      other_shows shows (length-repaged (hidden_at hidden) image ∙ size) (ap (V x.page) gone ∙ no_version d x.page) (subst (λ (l : List ℕ). 0 < V x.page l) (sym stays) whole) ∙ stays

  pub fenced_shows : (image : Image) → length image ≡ pages_of d → page image (half x twin) ≡ fence → 0 < version_at (store_version (Some d)) image x (not twin) → page (shown_of d image) x.page ≡ page image (half x (not twin))
  fenced_shows image size is whole = other_shows image size (ap (store_version (Some d) x.page) is ∙ no_fence (Some d) x.page) whole
