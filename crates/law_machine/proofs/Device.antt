-- What the calls on the device make of what a crash may leave.
use Rattle.std.proofs.Common.{◌≡◌, ⊎_elim, ℕ, Bool, true, false, List, [], ◌∷◌, ◌++◌, if◌then◌else◌, refl, ap, ◌∙◌, subst}
use Rattle.law_machine.specs.Device.{IsShape, Page, Shape}
use Rattle.law_machine.specs.Disk.{applied, kept_of, page_write, page_writes, written}
use Rattle.law_machine.specs.Element.{Element, log_of}
use Rattle.law_machine.specs.Formats.{Formats, image}
use Rattle.law_machine.specs.Lists.{◌∈◌}
use Rattle.law_machine.specs.Sound.{Sound, crashed}
use Rattle.law_machine.specs.State.{State}
use Rattle.law_machine.proofs.WholeRounds.{whole_round}

pub write_more : (img : ℕ → Page) (ws : List (ℕ × Page)) (v : ℕ × Page) (mask : List Bool) (k : Bool)
    → (more : List Bool)
    × (applied img (kept_of more (ws ++ v ∷ [])) ≡
    (if k then written (applied img (kept_of mask ws)) v.0 v.1 else applied img (kept_of mask ws)))
write_more img [] v [] true = (true ∷ [], refl)
write_more img [] v [] false = (false ∷ [], refl)
write_more img [] v (b ∷ mask) true = (true ∷ [], refl)
write_more img [] v (b ∷ mask) false = (false ∷ [], refl)
write_more img (w ∷ ws) v [] k = (let rest = write_more img ws v [] k in (false ∷ rest.0, rest.1))
write_more img (w ∷ ws) v (true ∷ mask) k = (let rest = write_more (written img w.0 w.1) ws v mask k in
    (true ∷ rest.0, rest.1))
write_more img (w ∷ ws) v (false ∷ mask) k = (let rest = write_more img ws v mask k in (false ∷ rest.0, rest.1))

pub writes_more : (S : Shape) (F : Formats) (ms : List Element) (m : Element)
    → page_writes S F (ms ++ m ∷ []) ≡ page_writes S F ms ++ page_write S F m ∷ []
writes_more S F [] m = refl
writes_more S F (x ∷ ms) m = ap (λ (l : List (ℕ × Page)). page_write S F x ∷ l) (writes_more S F ms m)

pub issue_adds : (S : Shape) (F : Formats) (s : State) (m : Element) (mask : List Bool) (k : Bool)
    → (more : List Bool)
    × (crashed S F (record s { issued = s.issued ++ m ∷ [] }) more ≡
    (if k then written (crashed S F s mask) (page_write S F m).0 (page_write S F m).1 else crashed S F s mask))
issue_adds S F s m mask k =
    let one = write_more (image S F s.world.persistent s.opened (log_of s.world.elements))
    (page_writes S F s.issued) (page_write S F m) mask k in (
      one.0,
      ap (λ (ws : List (ℕ × Page)). applied (image S F s.world.persistent s.opened (log_of s.world.elements))
          (kept_of one.0 ws)) (writes_more S F s.issued m) ∙ one.1,
    )

pub flush_makes : (S : Shape) (F : Formats) → IsShape S → (s : State) → Sound S F s → s.round_out ≡ true
    → s.left ≡ [] → (p : ℕ)
    → applied (image S F s.world.persistent s.opened (log_of s.world.elements)) (page_writes S F s.issued) p
    ≡ image S F s.world.round s.opened (log_of s.world.elements) p
flush_makes S F shape s sound busy none p =
    whole_round S F shape s.opened s.world sound.safe s.issued sound.issued
    (λ m is. ⊎_elim (λ (waits : m ∈ s.left). absurd (subst (λ (l : List Element). m ∈ l) none waits))
    (λ (gone : m ∈ s.issued). gone) (sound.complete busy m is)) p
