-- What was found in an extent is as it was at open until it is reset: all of it where it is frozen, else what lies below the
-- pointer that was found. So is the damage in it.
use Rattle.std.proofs.Common.{◌≡◌, ◌≢◌, inl, inr, ℕ, zero, suc, ◌+◌, ◌-◌, ◌<◌, ◌≤◌, ◌==◌, Bool, true, false, true≢false, length, List, [], ◌∷◌, Some, eq-eqb, ne_eqb, le_of_eq, le_refl, le_trans, refl, sym, ap, ap₂, ◌∙◌, subst, arith}
use Rattle.law_machine.proofs.Filled.{reach_low, reach_off}
use Rattle.law_machine.proofs.Places.{unfrozen}
use Rattle.law_machine.specs.Append.{AppendsFrameBy, next_locator}
use Rattle.law_machine.specs.Cut.{Cut, page_in}
use Rattle.law_machine.specs.Device.{Inside, IsShape, Page, Shape}
use Rattle.law_machine.specs.Element.{Locator, Write, writes_of}
use Rattle.law_machine.specs.Events.{newest_page}
use Rattle.law_machine.specs.Extents.{Purpose, reach}
use Rattle.law_machine.specs.Formats.{ChunkFrame, Formats, FrameKind, fault_for, pages_from}
use Rattle.law_machine.specs.Index.{Passes, Reads}
use Rattle.law_machine.specs.Lists.{◌∈◌}
use Rattle.law_machine.specs.Machine.{everything}
use Rattle.law_machine.specs.Refusal.{Refusal}
use Rattle.law_machine.specs.Sound.{Sound}
use Rattle.law_machine.specs.State.{State}

-- a page that nothing was written to
pub page_unwritten : (X : Cut) (opened : ℕ → Page) (ws : List Write) (p : ℕ) → ((x : Write) → x ∈ ws → x.page ≢ p)
    → page_in X opened ws p ≡ opened p
page_unwritten X opened [] p none = refl
page_unwritten X opened (w ∷ ws) p none =
    let test : (w.page == p) ≡ false = ne_eqb w.page p (none w (inl refl)) in
    let rest : page_in X opened ws p ≡ opened p = page_unwritten X opened ws p (λ x has. none x (inr has)) in
    rw (test, rest)

module _ (S : Shape) (F : Formats) (s : State) (sound : Sound S F s) where
  -- how far a frame may reach that begins there now
  abbrev pub reach_now : Locator → ℕ
  reach_now l = reach S (s.world.extents.found l.extent) l.page

  -- so far as was known at open
  pub limit_now : (l : Locator) → s.world.extents.generation l.extent ≡ l.generation → s.opening.limit l ≡ reach_now l
  limit_now l same = go S.fills refl
    where
      go : (b : Bool) → S.fills ≡ b → s.opening.limit l ≡ reach_now l
      go true on = (sound.filled on).limits l (le_of_eq same)
          ∙ ap (λ (n : ℕ). reach S n l.page) (let test : (s.world.extents.generation l.extent == l.generation) ≡ true =
          eq-eqb (s.world.extents.generation l.extent) l.generation same in rw test refl)
      go false off = sound.unfilled off l ∙ sym (reach_off S (s.world.extents.found l.extent) l.page off)

  pub within_now : (l : Locator) (bs : List Page)
      → Reads S F s.opening (newest_page s) s.world.extents.pointer s.world.extents.generation l bs
      → l.page + length bs ≤ reach_now l
  within_now l bs r = le_trans r.within (le_of_eq (limit_now l r.passes.generation))

  -- and no further than the extent
  pub reach_fits : (l : Locator) → reach_now l ≤ S.pages
  reach_fits l = go S.fills refl
    where
      go : (b : Bool) → S.fills ≡ b → reach_now l ≤ S.pages
      go true on = reach_low S (s.world.extents.found l.extent) l.page
          (le_trans ((sound.filled on).given l.extent) (sound.safe.extents_fit l.extent).0)
      go false off = le_of_eq (reach_off S (s.world.extents.found l.extent) l.page off)

module _ (S : Shape) (F : Formats) (shape : IsShape S) (s : State) (sound : Sound S F s) where
  pub as_at_open : (e i : ℕ) → s.opening.frozen e i (s.world.extents.generation e) ≡ true → Inside S e i
      → newest_page s (S.address e i) ≡ s.opened (S.address e i)
  as_at_open e i fz inside = page_unwritten (everything s.world) s.opened (writes_of s.world.elements) (S.address e i)
      (λ x has at. sound.safe.unwritten e i fz x has (ap S.extent at ∙ shape.extent e i inside)
      (ap S.index at ∙ shape.index e i inside))

  pages_same : (e i count end : ℕ)
      → ((k : ℕ) → k < end → s.opening.frozen e k (s.world.extents.generation e) ≡ true) → e < S.extents
      → i + count ≤ end → end ≤ S.pages → pages_from S F (newest_page s) e i count ≡ pages_from S F s.opened e i count
  pages_same e i zero end fz exists fits low = refl
  pages_same e i (suc count) end fz exists fits low = ap₂ (λ (x : Page) (xs : List Page). x ∷ xs)
      (as_at_open e i (fz i (omega arith)) (exists, omega arith))
      (pages_same e (suc i) count end fz exists (omega arith) low)

  pub damage_stays : (l : Locator) (f : Refusal) → s.opening.damage l ≡ Some f
      → Passes S F (newest_page s) s.world.extents.pointer s.world.extents.generation l
      → fault_for S F ChunkFrame l.mark (pages_from S F (newest_page s) l.extent l.page (reach_now S F s sound l - l.page)) ≡ Some f
  damage_stays l f is pass =
      let known = sound.damaged l f is in
      let same : s.opening.limit l ≡ reach_now S F s sound l = limit_now S F s sound l pass.generation in
      let low : reach_now S F s sound l ≤ S.pages = reach_fits S F s sound l in
      let lt : l.page < s.opening.limit l = known.0 in
      ap (fault_for S F ChunkFrame l.mark) (pages_same l.extent l.page (reach_now S F s sound l - l.page) (reach_now S F s sound l)
      (λ k below. ap (s.opening.frozen l.extent k) pass.generation
      ∙ known.1 k (subst (λ (n : ℕ). k < n) (sym same) below)) pass.inside.0 (omega arith) low)
      ∙ ap (λ (n : ℕ). fault_for S F ChunkFrame l.mark (pages_from S F s.opened l.extent l.page (n - l.page))) (sym same) ∙ known.2

-- no chunk that is appended was damaged at open
pub new_undamaged_by : (S : Shape) (F : Formats) → (s : State) → Sound S F s → (apart : Bool)
    → (apart ≡ true → S.apart ≡ true) → (t : State) (purpose : Purpose) (kind : FrameKind) (payload : List ℕ) (l : Locator)
    (f : Refusal) → AppendsFrameBy S F apart s purpose kind payload l t → s.opening.damage l ≢ Some f
new_undamaged_by S F s sound apart by t purpose kind payload l f a is =
    let e = a.1.extent in
    let at : Locator = next_locator S s.world e (F.frame kind payload) in
    let known = sound.damaged at f (ap s.opening.damage (sym a.1.at) ∙ is) in
    true≢false (sym (known.1 (s.world.extents.pointer e) known.0)
    ∙ unfrozen S F apart by s purpose (length (F.frame kind payload)) e sound a.1.placed
    (s.world.extents.pointer e) (λ on. le_refl _))
