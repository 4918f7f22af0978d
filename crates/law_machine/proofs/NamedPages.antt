-- A page that the persistent root names is written in no round.
use Rattle.std.proofs.Common.{◌≡◌, ◌≢◌, ◌⊎◌, inl, inr, ⊎_elim, ℕ, ◌+◌, ◌<◌, ◌≤◌, true, true≢false, List, length, sym, ap, ◌∙◌, subst₂, arith}
use Rattle.law_machine.proofs.ClosedSets.{has_before}
use Rattle.law_machine.specs.Device.{Inside, IsShape, Page, Place, Shape}
use Rattle.law_machine.specs.Element.{A_write, Locator, Root, Write, log_of, roots_of, writes_of}
use Rattle.law_machine.specs.Formats.{Formats}
use Rattle.law_machine.specs.Guard.{Covers}
use Rattle.law_machine.specs.Index.{Reads}
use Rattle.law_machine.specs.Lists.{◌∈◌}
use Rattle.law_machine.specs.Round.{IsMember}
use Rattle.law_machine.specs.Sound.{Sound}
use Rattle.law_machine.specs.State.{State}

module _ (S : Shape) (F : Formats) (s : State) (sound : Sound S F s) (r : Root) (h : Place) where
  pub written_or_waits : r ∈ roots_of s.world.elements → r.version ≡ s.world.persistent.root → Covers S r h
      → (x : Write) → x ∈ writes_of s.world.elements → x.page ≡ h.page
      → (s.world.persistent.writes x.number ≡ true) ⊎ (r.version < x.root)
  written_or_waits is last covers x has at = ⊎_elim
      (λ before. inl (has_before S (log_of s.world.elements) s.opened s.world.persistent r h sound.safe.closed is last
      (sound.safe.needed r is (S.extent h.page)) (sound.safe.guarded r is h covers) x has at before))
      (λ later. inr later) ((sound.safe.guarded r is h covers).kept x has at)

  pub not_in_round : r ∈ roots_of s.world.elements → r.version ≡ s.world.persistent.root → Covers S r h
      → (x : Write) → IsMember S s.world (A_write x) → x.page ≢ h.page
  not_in_round is last covers x member at = ⊎_elim
      (λ (there : s.world.persistent.writes x.number ≡ true). true≢false (sym there ∙ member.2))
      (λ (later : r.version < x.root). ⊎_elim
      (λ (there : s.world.persistent.writes x.number ≡ true). true≢false (sym there ∙ member.2))
      (λ (ready : x.root ≤ s.world.persistent.root). absurd (omega arith))
      (sound.safe.ready.writes x member.0 member.1))
      (written_or_waits is last covers x member.0 at)

-- where extents are filled up each page of a frame is named that is read under a root's pointers
pub frame_named : (S : Shape) (F : Formats) (s : State) (r : Root) (img : ℕ → Page) (l : Locator) (bs : List Page) (i : ℕ)
    → IsShape S → Sound S F s → S.fills ≡ true → Reads S F s.opening img r.pointers r.generations l bs → i < length bs
    → Covers S r (record { page = S.address l.extent (l.page + i); generation = l.generation })
frame_named S F s r img l bs i shape sound on reads lt = record {
  generation = ap r.generations (shape.extent l.extent (l.page + i) inside) ∙ reads.passes.generation;
  below = subst₂ (λ (e k : ℕ). k < r.pointers e) (sym (shape.extent l.extent (l.page + i) inside))
      (sym (shape.index l.extent (l.page + i) inside)) end;
}
  where
    inside : Inside S l.extent (l.page + i)
    inside = (reads.passes.inside.0, (let fits : l.page + length bs ≤ S.pages = reads.inside in omega arith))

    end : l.page + i < r.pointers l.extent
    end = ⊎_elim (λ (below : l.page + length bs ≤ r.pointers l.extent). omega arith)
        (λ (fz : (k : ℕ) → s.opening.frozen l.extent k l.generation ≡ true). absurd
        (true≢false (sym (fz S.pages) ∙ (sound.filled on).thawed l.extent l.generation))) reads.below
