-- The newest write to a page, and frames that are read.
use Rattle.std.proofs.Common.{◌≡◌, ◌∙◌, ℕ, zero, suc, ◌+◌, ◌*◌, ◌/◌, ◌%◌, ◌<◌, ◌≤◌, List, [], ◌∷◌, length, Some, get_or, refl, sym, ap, ⊎_elim, arith}
use Rattle.std.proofs.lemmas.Bool.{cases_lt}
use Rattle.std.proofs.lemmas.Nat.{div-mul-add, mod-mul-add}
use Rattle.std.proofs.lemmas.Option.{same_Some}
use Rattle.cs_chunk.specs.Newest.{AreNewest}
use Rattle.cs_deps.specs.declared.elements.Element.TheVariants.{Plain}
use Rattle.cs_deps.specs.State.{IsNewestOn, NoneOn, State, Write, write_of}
use Rattle.cs_disk.specs.Disk.{Image, page}
use Rattle.law_machine.specs.Device.{Shape}
use Rattle.law_machine.specs.Format.{Two}
use Rattle.law_machine.specs.Formats.{Formats, Stand}
use Rattle.law_machine.specs.Geometry.{shape_of}

-- two newest writes to a page are one
pub one_newest : (g : State) (p : ℕ) (a b : List ℕ) → IsNewestOn g p a → IsNewestOn g p b → a ≡ b
one_newest g p a b m n = ⊎_elim
    (λ (l : m.number < n.number). absurd (m.last n.number (p, b) l n.waits n.write refl))
    (λ (l : n.number ≤ m.number). ⊎_elim
    (λ (k : n.number < m.number). absurd (n.last m.number (p, a) k m.waits m.write refl))
    (λ (k : m.number ≤ n.number).
    let same : m.number ≡ n.number = omega arith in
    let both : Some (p, a) ≡ Some (p, b) = sym m.write ∙ ap (λ i. write_of g (Plain i)) same ∙ n.write in
    ap (λ (w : Write). w.1) (same_Some (p, a) (p, b) both))
    (cases_lt n.number m.number))
    (cases_lt m.number n.number)

-- a page has a newest write, or none
pub not_none : (g : State) (p : ℕ) (b : List ℕ) → IsNewestOn g p b → NoneOn g p → ⊥
not_none g p b n none = none n.number (p, b) n.waits n.write refl

-- what a page with a waiting write reads as
pub reads_newest : (g : State) (image : Image) (view : ℕ → List ℕ) (p : ℕ) (b : List ℕ) → AreNewest g image view → IsNewestOn g p b → view p ≡ b
reads_newest g image view p b are n = ⊎_elim
    (λ (m : IsNewestOn g p (view p)). one_newest g p (view p) b m n)
    (λ (none : NoneOn g p × (view p ≡ page image p)). absurd (not_none g p b n none.0))
    (are p)

-- what a page with no waiting write reads as
pub reads_image : (g : State) (image : Image) (view : ℕ → List ℕ) (p : ℕ) → AreNewest g image view → NoneOn g p → view p ≡ page image p
reads_image g image view p are none = ⊎_elim
    (λ (m : IsNewestOn g p (view p)). absurd (not_none g p (view p) m none))
    (λ (h : NoneOn g p × (view p ≡ page image p)). h.1)
    (are p)

pub one_view : (g : State) (image : Image) (v w : ℕ → List ℕ) → AreNewest g image v → AreNewest g image w → (p : ℕ) → v p ≡ w p
one_view g image v w a b p = ⊎_elim
    (λ (n : IsNewestOn g p (w p)). reads_newest g image v p (w p) a n)
    (λ (h : NoneOn g p × (w p ≡ page image p)). reads_image g image v p a h.0 ∙ sym h.1)
    (b p)

-- frames stand page by page
pub stand_of : (S : Shape) (F : Formats) (view : ℕ → List ℕ) (e p : ℕ) (frame : List (List ℕ)) → ((i : ℕ) → i < length frame → view (S.address e (p + i)) ≡ get_or frame i []) → Stand S F view e p frame
stand_of S F view e p [] each = tt
stand_of S F view e p (b ∷ bs) each =
    let first : p + 0 ≡ p = omega arith in
    (ap (λ q. view (S.address e q)) (sym first) ∙ each 0 (omega arith), stand_of S F view e (suc p) bs (λ i lt. let next : suc p + i ≡ p + suc i = omega arith in ap (λ q. view (S.address e q)) next ∙ each (suc i) (omega (arith, lt))))

pub of_stand : (S : Shape) (F : Formats) (view : ℕ → List ℕ) (e p : ℕ) (frame : List (List ℕ)) → Stand S F view e p frame → (i : ℕ) → i < length frame → view (S.address e (p + i)) ≡ get_or frame i []
of_stand S F view e p [] stand i lt = absurd (omega (arith, lt))
of_stand S F view e p (b ∷ bs) stand zero lt = let first : p + 0 ≡ p = omega arith in ap (λ q. view (S.address e q)) first ∙ stand.0
of_stand S F view e p (b ∷ bs) stand (suc i) lt = let next : p + suc i ≡ suc p + i = omega arith in ap (λ q. view (S.address e q)) next ∙ of_stand S F view e (suc p) bs stand.1 i (omega (arith, lt))

-- pages of two places are two pages
pub one_place : (E P d i e j : ℕ) → i < P → j < P → (shape_of E P 1 E Two).address d i ≡ (shape_of E P 1 E Two).address e j → (d ≡ e) × (i ≡ j)
one_place E P d i e j li lj same =
    let is : d * P + i ≡ e * P + j = omega (arith, same) in
    (sym (div-mul-add d P i li) ∙ ap (λ n. n / P) is ∙ div-mul-add e P j lj, sym (mod-mul-add d P i li) ∙ ap (λ n. n % P) is ∙ mod-mul-add e P j lj)
