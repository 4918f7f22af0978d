-- Reads one after another.
use Rattle.std.proofs.Common.{◌≡◌, ◌∙◌, ℕ, ◌+◌, ◌<◌, ◌≤◌, ◌++◌, ◌∷◌, [], List, get_or, sym, ap, subst, ⊎_elim, arith}
use Rattle.std.proofs.lemmas.Bool.{cases_lt}
use Rattle.std.proofs.lemmas.List.{get_or_append_left, get_or_push, length_push}
use Rattle.cs_disk.specs.Disk.{Image, page}
use Rattle.cs_salvage.specs.Frames.{AreReadAs}

-- one page more was read
read_more : (image : Image) (first count : ℕ) (pages : List (List ℕ)) (bytes : List ℕ) → AreReadAs image first count pages → bytes ≡ page image (first + count) → AreReadAs image first (count + 1) (pages ++ bytes ∷ [])
read_more image first count pages bytes was is = record {
  size = length_push pages bytes ∙ ap (λ n. n + 1) was.size;
  each = λ i lt. ⊎_elim
      (λ (l : i < count). get_or_append_left pages (bytes ∷ []) [] i (omega (arith, l, was.size)) ∙ was.each i l)
      (λ (l : count ≤ i).
      let here : i ≡ count = omega (arith, l, lt) in
      subst (λ k. get_or (pages ++ bytes ∷ []) k [] ≡ page image (first + k)) (sym here) (get_or_push pages bytes [] count was.size ∙ is))
      (cases_lt i count);
}

pub read_pushed : (image : Image) (first count : ℕ) (pages new : List (List ℕ)) (bytes : List ℕ) → new ≡ pages ++ bytes ∷ [] → AreReadAs image first count pages → bytes ≡ page image (first + count) → AreReadAs image first (count + 1) new
read_pushed image first count pages new bytes pushed was is = subst (λ ps. AreReadAs image first (count + 1) ps) (sym pushed) (read_more image first count pages bytes was is)
