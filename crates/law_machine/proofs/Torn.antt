-- Pages of frames that the round writes aren't named by a root that a crash may leave, so what they hold isn't read.
use Rattle.std.proofs.Common.{◌≡◌, ◌≢◌, ⊎_elim, ℕ, ◌<◌, ◌≤◌, Bool, true, List, le_trans, le_of_eq, true≢false, sym, ap, ◌∙◌, subst, subst₂, arith}
use Rattle.law_machine.specs.Cut.{Cut, section_of}
use Rattle.law_machine.specs.Device.{FramePage, Inside, IsShape, Page, Place, RootPage, SectionPage, Shape}
use Rattle.law_machine.specs.Element.{A_write, Root, Write, log_of, roots_of, writes_of}
use Rattle.law_machine.specs.Formats.{Formats, image}
use Rattle.law_machine.specs.Frames.{IsFormat}
use Rattle.law_machine.specs.Guard.{Covers}
use Rattle.law_machine.specs.Lists.{◌∈◌}
use Rattle.law_machine.specs.Round.{IsMember}
use Rattle.law_machine.specs.Sound.{Sound, crashed}
use Rattle.law_machine.specs.State.{State}
use Rattle.law_machine.specs.Torn.{IsBeingWritten, TornFrom}
use Rattle.law_machine.proofs.Images.{Alike}
use Rattle.law_machine.proofs.Rounds.{Between}

module _ (S : Shape) (F : Formats) (s : State) (sound : Sound S F s) (r : Root) (is : r ∈ roots_of s.world.elements)
    (low : s.world.persistent.root ≤ r.version) (high : r.version ≤ s.world.round.root) where
  -- what the root needs of the sections is persistent
  needs_there : (j : ℕ) → r.superblocks j ≤ s.world.persistent.superblocks j
  needs_there j = ⊎_elim
      (λ (old : r.version ≤ s.world.persistent.root). sound.safe.closed.root_superblocks r is old j)
      (λ (met : (i : ℕ) → r.superblocks i ≤ s.world.persistent.superblocks i). met j)
      (sound.safe.ready.roots r is high)

  -- so is a write that it counts on
  counted_there : (h : Place) (x : Write) → x ∈ writes_of s.world.elements → x.page ≡ h.page
      → x.number ≤ r.writes (section_of S h.page) → s.world.persistent.writes x.number ≡ true
  counted_there h x has at before =
      let need = sound.safe.needed r is (S.extent h.page) in
      let u = need.0 in
      let version : u.version ≡ r.superblocks u.section = need.3 in
      let counted : x.number ≤ r.writes u.section = subst (λ (j : ℕ). x.number ≤ r.writes j) (sym need.2) before in
      ⊎_elim
      (λ (by_u : r.writes u.section ≤ u.writes). sound.safe.closed.superblock_writes u x need.1 has
      (le_trans (le_of_eq version) (needs_there u.section)) (ap (section_of S) at ∙ sym need.2) (le_trans counted by_u))
      (λ (by_r : r.writes u.section ≤ r.pages). ⊎_elim
      (λ (old : r.version ≤ s.world.persistent.root). sound.safe.closed.root_writes r x is has old (le_trans counted by_r))
      (λ (met : s.world.persistent.writes x.number ≡ true). met)
      (sound.safe.ready.root_writes r x is has high (le_trans counted by_r))) need.4

  -- no member of the round needs a later root
  none_later : (x : Write) → IsMember S s.world (A_write x) → r.version < x.root → ⊥
  none_later x member later = ⊎_elim
      (λ (there : s.world.persistent.writes x.number ≡ true). true≢false (sym there ∙ member.2))
      (λ (met : x.root ≤ s.world.persistent.root). absurd (omega arith))
      (sound.safe.ready.writes x member.0 member.1)

  pub not_named : (h : Place) → Covers S r h → (x : Write) → IsMember S s.world (A_write x) → x.page ≢ h.page
  not_named h covers x member at = ⊎_elim
      (λ (before : x.number ≤ r.writes (section_of S h.page)).
      true≢false (sym (counted_there h x member.0 at before) ∙ member.2))
      (λ (later : r.version < x.root). none_later x member later)
      ((sound.safe.guarded r is h covers).kept x member.0 at)

  -- nor does it find one frozen
  pub not_frozen : IsShape S → (e i : ℕ) → s.opening.frozen e i (r.generations e) ≡ true → 0 < r.pointers e → Inside S e i
      → (x : Write) → IsMember S s.world (A_write x) → x.page ≢ S.address e i
  not_frozen shape e i fz some inside x member at = none_later x member
      (sound.safe.written_later r is e i fz some x member.0 (ap S.extent at ∙ shape.extent e i inside)
      (ap S.index at ∙ shape.index e i inside)).0

module _ (S : Shape) (F : Formats) (shape : IsShape S) (format : IsFormat S F) (s : State) (sound : Sound S F s)
    (mask : List Bool) (img : ℕ → Page) (torn : TornFrom S F s mask img) where
  -- a page that isn't of frames isn't torn, nor is one to which no member of the round goes
  whole_page : (p : ℕ) → ((x : Write) → IsMember S s.world (A_write x) → x.page ≢ p) → img p ≡ crashed S F s mask p
  whole_page p none = ⊎_elim
      (λ (written : IsBeingWritten s p). absurd (none written.0 (sound.issued (A_write written.0) written.1) written.2))
      (λ (same : img p ≡ crashed S F s mask p). same) (torn p)

  of_root : (x : Write) → IsMember S s.world (A_write x) → x.page ≢ S.root_page
  of_root x member at = let e : FramePage ≡ RootPage = sym (sound.safe.frames x member.0) ∙ ap S.kind at ∙ shape.root_kind in cc

  of_section : (j : ℕ) → j < S.sections → (x : Write) → IsMember S s.world (A_write x) → x.page ≢ S.section_page j
  of_section j lt x member at =
      let e : FramePage ≡ SectionPage j = sym (sound.safe.frames x member.0) ∙ ap S.kind at ∙ shape.section_kind j lt in cc

  module _ (X : Cut) (between : Between S F shape s.opened s.world sound.safe X)
      (kept : (p : ℕ) → crashed S F s mask p ≡ image S F X s.opened (log_of s.world.elements) p) where
    low : s.world.persistent.root ≤ between.exact.root.0.version
    low = le_trans between.low.root (le_of_eq (sym between.exact.root.2))

    high : between.exact.root.0.version ≤ s.world.round.root
    high = le_trans (le_of_eq between.exact.root.2) between.high.root

    pub alike : Alike S F shape format s.opened s.world X sound.safe between.low between.high between.exact img
    alike = record {
      root = whole_page S.root_page of_root ∙ kept S.root_page;
      sections = λ j lt. whole_page (S.section_page j) (of_section j lt) ∙ kept (S.section_page j);
      named = λ e i below inside. whole_page (S.address e i)
          (λ x member. not_named S F s sound between.exact.root.0 between.exact.root.1 low high
          (record { page = S.address e i; generation = between.exact.root.0.generations e })
          (record {
            generation = ap between.exact.root.0.generations (shape.extent e i inside);
            below = subst₂ (λ (a b : ℕ). a < between.exact.root.0.pointers b) (sym (shape.index e i inside))
                (sym (shape.extent e i inside)) below;
          }) x member) ∙ kept (S.address e i);
      frozen = λ e i fz some inside. whole_page (S.address e i)
          (not_frozen S F s sound between.exact.root.0 between.exact.root.1 low high shape e i fz some inside)
          ∙ kept (S.address e i);
    }
