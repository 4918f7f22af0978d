-- A root that locates nothing on an extent, and the reset of the extent, keep a state sound.
use Rattle.std.proofs.Common.{◌≡◌, ◌≢◌, ◌⊎◌, inl, inr, ⊎_elim, ℕ, suc, ◌+◌, ◌<◌, ◌≤◌, true, false, List, [], length, if◌then◌else◌, ◌==◌, eq-eqb, ne_eqb, true≢false, refl, sym, ap, ◌∙◌, subst, arith, Bool, Option, Some, None}
use Rattle.std.proofs.lemmas.Bool.{cases_eq}
use Rattle.law_machine.proofs.Rules.{not_both_rules}
use Rattle.law_machine.specs.Extents.{other_than}
use Rattle.law_machine.specs.Device.{IsShape, Shape}
use Rattle.law_machine.specs.Element.{A_root, A_superblock, A_write, Element, Root, Run}
use Rattle.law_machine.specs.Events.{newest_page, retired}
use Rattle.law_machine.specs.Formats.{Formats}
use Rattle.law_machine.specs.Frames.{IsFormat}
use Rattle.law_machine.specs.Index.{Gives}
use Rattle.law_machine.specs.Lists.{with}
use Rattle.law_machine.specs.Machine.{ResetExtent, StageRoot, World, happens, root_now}
use Rattle.law_machine.specs.Recovery.{RootGives}
use Rattle.law_machine.specs.Round.{IsMember}
use Rattle.law_machine.specs.Sound.{Sound}
use Rattle.law_machine.specs.State.{State, map_now}
use Rattle.law_machine.proofs.Parts.{each, with_same, with_other}
use Rattle.law_machine.proofs.RootMoves.{keeps_root}
use Rattle.law_machine.proofs.ResetMoves.{keeps_reset}
use Rattle.law_machine.proofs.RoundMoves.{keeps_marks}
use Rattle.law_machine.proofs.Carries.{root_local, carry}
use Rattle.law_machine.proofs.Roots.{RootFits, root_staged, root_maps, root_last, root_member, root_back}

-- the extent that is open after one was forgotten was open before
pub was_open : (apart : Bool) (e d : ℕ) (o : Option ℕ) → (if apart then other_than e o else o) ≡ Some d → o ≡ Some d
was_open false e d o is = is
was_open true e d None is = is
was_open true e d (Some c) is = kept (c == e) is
  where
    kept : (b : Bool) → (if b then None else Some c) ≡ Some d → Some c ≡ Some d
    kept true at = absurd (let wrong : None ≡ Some d = at in cc)
    kept false at = at

module _ (S : Shape) (F : Formats) (shape : IsShape S) (format : IsFormat S F) where
  -- a root is staged that covers nothing of an extent, and the extent is reset
  pub reset_sound : S.apart ≡ false → (s : State) (runs : List Run) (e : ℕ) → Sound S F s
      → Gives S F s.opening (newest_page s) (with s.world.extents.pointer e 0) s.world.extents.generation [] runs
      (map_now s) → RootFits S F s runs → s.world.extents.generation e < S.greatest_generation
      → e < S.extents → Sound S F (retired S F s runs e)
  reset_sound before s runs e sound gives fit young exists = record {
    damaged = sound.damaged;
    shown = sound.shown;
    unfilled = sound.unfilled;
    filled = λ full. not_both_rules S.apart before (shape.fills full);
    apart = λ on. not_both_rules S.apart before on;
    frozen = λ off d i. elim (cases_eq d e) [
      | inl same ↦ (λ fz. absurd (
          let up : with s.world.extents.generation e (suc (s.world.extents.generation e)) d ≡ suc
          (s.world.extents.generation d) = with_same s.world.extents.generation e
          (suc (s.world.extents.generation e)) d same
          ∙ ap (λ (n : ℕ). suc (s.world.extents.generation n)) (sym same) in
          let le : suc (s.world.extents.generation d) ≤ s.world.extents.generation d = sound.safe.frozen_before d i
          (suc (s.world.extents.generation d)) (ap (s.opening.frozen d i) (sym up) ∙ fz) in omega arith))
      | inr not ↦ (λ fz. let old = sound.frozen off d i
          (ap (s.opening.frozen d i)
          (sym (with_other s.world.extents.generation e (suc (s.world.extents.generation e)) d not)) ∙ fz) in
          (still_closed d old.0, subst (λ (k : ℕ). 0 < k) (sym (with_other s.world.extents.pointer e 0 d not)) old.1))
    ];
    safe = keeps_marks S (RootGives S F s.opening) s.opening.frozen s.opened (root_local S F shape)
        (happens S w (ResetExtent e)) (retired S F s runs e).world.extents
        (keeps_reset S (RootGives S F s.opening) s.opening.frozen s.opened (root_local S F shape) w e (
          each (λ (r : Root). suc s.world.root ≤ r.version → r.pointers e ≡ 0) _ _
              (λ ver. with_same s.world.extents.pointer e 0 e refl)
              (λ r is ver. absurd (let old : r.version ≤ s.world.root = (sound.safe.roots_below r is).0 in
              omega arith)),
          (
            root_now S s.world n runs (map_now s) pointers,
            inl refl,
            refl,
            λ x is at. subst (λ (d : ℕ). x.number ≤ s.world.behind (S.section d)) refl
                ((sound.settled e).pages x is at),
          ),
          young,
          exists,
        )
        (keeps_root S (RootGives S F s.opening) s.opening.frozen s.opened (root_local S F shape) s.world n runs
        (map_now s) pointers (root_staged S F shape format s runs pointers sound agree gives fit) sound.safe));
    settled = λ d. let o = sound.settled d in record {
      last = o.last;
      pages = o.pages;
      current = λ u is sec ver. elim (cases_eq d e) [
        | inl same ↦ inr (with_same s.world.extents.pointer e 0 d same)
        | inr not ↦ ⊎_elim
            (λ eqs. inl (
              eqs.0 ∙ sym (with_other s.world.extents.pointer e 0 d not),
              eqs.1
                  ∙ sym (with_other s.world.extents.generation e (suc (s.world.extents.generation e)) d not),
            ))
            (λ (none : s.world.extents.pointer d ≡ 0). inr (with_other s.world.extents.pointer e 0 d not ∙ none))
            (o.current u is sec ver)
      ];
    };
    gives = carry S F s.opening (newest_page s) (newest_page s) pointers s.world.extents.generation pointers
        (with s.world.extents.generation e (suc (s.world.extents.generation e)))
        (λ d k lt inside. (
          refl,
          with_other s.world.extents.generation e (suc (s.world.extents.generation e)) d
              (λ same. let zero_there : pointers d ≡ 0 = with_same s.world.extents.pointer e 0 d same in
              let some : k < pointers d = lt in omega arith),
          lt,
        )) (λ d k fz some inside. refl)
        [] runs (map_now s) gives;
    maps = root_maps S F shape format s runs pointers sound;
    caught_up = λ none. root_last S F shape format s runs pointers sound;
    once = sound.once;
    idle = sound.idle;
    complete = λ busy m is. sound.complete busy m
        (root_back S F shape format s runs pointers sound m (reset_back m is));
    left = λ m has. reset_member m
        (root_member S F shape format s.world n runs (map_now s) pointers m (sound.left m has));
    issued = λ m has. reset_member m
        (root_member S F shape format s.world n runs (map_now s) pointers m (sound.issued m has));
    swept = λ d is. (let l = less d is in let o = sound.swept d l.1 in
        (still_closed d o.0, subst (λ (k : ℕ). 0 < k) (sym (with_other s.world.extents.pointer e 0 d l.0)) o.1, o.2));
  }
    where
      still_closed : (d : ℕ) → s.world.extents.open_extent ≢ Some d
          → (if S.apart then other_than e s.world.extents.open_extent else s.world.extents.open_extent) ≢ Some d
      still_closed d not is = not (was_open S.apart e d s.world.extents.open_extent is)

      less : (d : ℕ) → (if d == e then false else s.world.extents.swept d) ≡ true → (d ≢ e)
          × (s.world.extents.swept d ≡ true)
      less d = elim (cases_eq d e) [
        | inl is ↦ (let test : (d == e) ≡ true = eq-eqb d e is in rw test (λ wrong. absurd (true≢false (sym wrong))))
        | inr not ↦ (let test : (d == e) ≡ false = ne_eqb d e not in rw test (λ has. (not, has)))
      ]

      n : ℕ
      n = s.count + length s.commands

      pointers : ℕ → ℕ
      pointers = with s.world.extents.pointer e 0

      w : World
      w = happens S s.world (StageRoot n runs (map_now s) pointers)

      agree : (d : ℕ) → (pointers d ≡ s.world.extents.pointer d) ⊎ (pointers d ≡ 0)
      agree d = elim (cases_eq d e) [
        | inl same ↦ inr
            (with_same s.world.extents.pointer e 0 d same)
        | inr not ↦ inl
            (with_other s.world.extents.pointer e 0 d not)
      ]

      reset_back : (m : Element) → IsMember S (retired S F s runs e).world m → IsMember S w m
      reset_back (A_write x) is = is
      reset_back (A_superblock u) is = is
      reset_back (A_root r) is = is

      reset_member : (m : Element) → IsMember S w m → IsMember S (retired S F s runs e).world m
      reset_member (A_write x) is = is
      reset_member (A_superblock u) is = is
      reset_member (A_root r) is = is
