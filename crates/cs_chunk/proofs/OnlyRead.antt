-- Reads one after another.
use Rattle.std.proofs.Common.{◌≡◌, ◌∙◌, ◌⊎◌, ℕ, ◌+◌, ◌≤◌, List, sym, ap, subst, inl, ⊎_elim, arith, ◌++◌, ◌∷◌, [], ◌<◌, get_or, length, IfErr, IfOk, Ok, Err, Result}
use Rattle.std.proofs.lemmas.Bool.{cases_lt}
use Rattle.std.proofs.lemmas.List.{get_or_append_left, get_or_push, length_push}
use Rattle.cs_chunk.specs.Newest.{IsReadAs}
use Rattle.cs_chunk.specs.Reads.{AreReadAs, IsCaused, IsNoAnswer, IsReadRefusal}
use Rattle.cs_refusal.specs.declared.refusals.Refusal.{Refusal}
use Rattle.cs_deps.specs.State.{State as Graph}
use Rattle.cs_disk.specs.Disk.{Image}

-- one page more was read
read_more : (g : Graph) (image : Image) (first count : ℕ) (pages : List (List ℕ)) (page : List ℕ) → AreReadAs g image first count pages → IsReadAs g image (first + count) page → AreReadAs g image first (count + 1) (pages ++ page ∷ [])
read_more g image first count pages page was is = record {
  size = length_push pages page ∙ ap (λ n. n + 1) was.size;
  each = λ i lt. ⊎_elim
      (λ (l : i < count). subst (IsReadAs g image (first + i)) (sym (get_or_append_left pages (page ∷ []) [] i (omega (arith, l, was.size)))) (was.each i l))
      (λ (l : count ≤ i).
      let here : i ≡ count = omega (arith, l, lt) in
      subst (λ k. IsReadAs g image (first + k) (get_or (pages ++ page ∷ []) k [])) (sym here) (subst (IsReadAs g image (first + count)) (sym (get_or_push pages page [] count was.size)) is))
      (cases_lt i count);
}

pub read_pushed : (g : Graph) (image : Image) (first count : ℕ) (pages new : List (List ℕ)) (page : List ℕ) → new ≡ pages ++ page ∷ [] → AreReadAs g image first count pages → IsReadAs g image (first + count) page → AreReadAs g image first (count + 1) new
read_pushed g image first count pages new page pushed was is = subst (λ ps. AreReadAs g image first (count + 1) ps) (sym pushed) (read_more g image first count pages page was is)

-- ---- answers of reads one after another

pub caused_on : {T U : Type 0} (a b c : ℕ) (first : Result U Refusal) (more : Result T Refusal) → IsCaused a b first → IsCaused b c more → IsCaused a c more
caused_on a b c first more one two = record { later = omega (arith, one.later, two.later); failed = λ is. let rise = two.failed is in omega (arith, rise, one.later) }

pub read_refusal : {T : Type 0} (r : Result T Refusal) → IfErr r IsNoAnswer → IfErr r IsReadRefusal
read_refusal (Ok t) none = tt
read_refusal (Err e) none = inl none

pub no_fault : {T : Type 0} (r : Result T Refusal) (Fault : Refusal → Type 0) → IfErr r IsNoAnswer → IfErr r (λ e. IsNoAnswer e ⊎ Fault e)
no_fault (Ok t) Fault none = tt
no_fault (Err e) Fault none = inl none

-- as many pages as were counted
pub some_read : {V : Type 0} (r : Result V Refusal) (items : V → List (List ℕ)) (count : ℕ) → 1 ≤ count → IfOk r (λ v. length (items v) ≡ count) → IfOk r (λ v. 0 < length (items v))
some_read (Ok v) items count some size = omega (arith, some, size)
some_read (Err e) items count some size = tt

pub all_fit_in : {V : Type 0} (r : Result V Refusal) (items : V → List (List ℕ)) (count from pages : ℕ) → from + count ≤ pages → IfOk r (λ v. length (items v) ≡ count) → IfOk r (λ v. from + length (items v) ≤ pages)
all_fit_in (Ok v) items count from pages fit size = omega (arith, fit, size)
all_fit_in (Err e) items count from pages fit size = tt
