-- A mark on an extent keeps a state sound: a sweep begins or is given up.
use Rattle.std.proofs.Common.{◌≡◌, ◌≢◌, inl, inr, ℕ, ◌<◌, Bool, true, false, List, Option, Some, None, if◌then◌else◌, ◌==◌, eq-eqb, ne_eqb, true≢false, refl, sym, ◌∙◌, subst}
use Rattle.std.proofs.lemmas.Bool.{cases_Bool, cases_eq, false_from_ne_true}
use Rattle.law_machine.proofs.ApartResets.{none_swept, swept_below}
use Rattle.law_machine.proofs.Carries.{root_local}
use Rattle.law_machine.proofs.RoundMoves.{keeps_marks, marks_of}
use Rattle.law_machine.proofs.Rules.{apart_rule, before_rule, not_both_rules}
use Rattle.law_machine.specs.Apart.{BeginsApart, sweeping}
use Rattle.law_machine.specs.Device.{IsShape, Shape}
use Rattle.law_machine.specs.Element.{A_root, A_superblock, A_write, Copy, Element, roots_of}
use Rattle.law_machine.specs.Events.{Does, mark}
use Rattle.law_machine.specs.Extents.{Extents, marked, other_than}
use Rattle.law_machine.specs.Formats.{Formats}
use Rattle.law_machine.specs.Lists.{◌∈◌}
use Rattle.law_machine.specs.Machine.{World}
use Rattle.law_machine.specs.Recovery.{RootGives}
use Rattle.law_machine.specs.Round.{IsMember}
use Rattle.law_machine.specs.Sound.{IsFilledUp, Sound, SoundApart}
use Rattle.law_machine.specs.State.{BeginSweep, State, Sweeping}

-- the extent that is open, if it isn't e
other_open : (e k : ℕ) (o : Option ℕ) → other_than e o ≡ Some k → o ≡ Some k
other_open e k None is = is
other_open e k (Some d) is = kept (d == e) is
  where
    kept : (b : Bool) → (if b then None else Some d) ≡ Some k → Some d ≡ Some k
    kept true at = absurd (let wrong : None ≡ Some k = at in cc)
    kept false at = at

not_itself : (e : ℕ) (o : Option ℕ) → other_than e o ≢ Some e
not_itself e None = λ is. let wrong : None ≡ Some e = is in cc
not_itself e (Some d) = elim (cases_eq d e) [
  | inl same ↦ (let test : (d == e) ≡ true = eq-eqb d e same in rw test (λ at. let wrong : None ≡ Some e = at in cc))
  | inr other ↦ (let test : (d == e) ≡ false = ne_eqb d e other in rw test (λ at. other (let same : Some d ≡ Some e = at in cc)))
]

module _ (S : Shape) (F : Formats) (shape : IsShape S) where
  marks_member : (w : World) (x : Extents) (m : Element) → IsMember S w m
      → IsMember S (record w { extents = marks_of w.extents x }) m
  marks_member w x (A_write y) is = is
  marks_member w x (A_superblock u) is = is
  marks_member w x (A_root r) is = is

  marks_back : (w : World) (x : Extents) (m : Element)
      → IsMember S (record w { extents = marks_of w.extents x }) m → IsMember S w m
  marks_back w x (A_write y) is = is
  marks_back w x (A_superblock u) is = is
  marks_back w x (A_root r) is = is

  -- other marks on extents, and other copies
  pub remarked : (s : State) (x : Extents) (copies : List Copy) → Sound S F s → x.found ≡ s.world.extents.found
      → ((d : ℕ) → x.open_extent ≡ Some d → s.world.extents.open_extent ≡ Some d)
      → ((d : ℕ) → x.swept d ≡ true → (x.open_extent ≢ Some d) × (0 < s.world.extents.pointer d) × (d < S.extents))
      → (S.apart ≡ true → SoundApart S F
      (record s { world = record s.world { extents = marks_of s.world.extents x }; copies = copies }))
      → Sound S F (record s { world = record s.world { extents = marks_of s.world.extents x }; copies = copies })
  remarked s x copies sound found closed new apart = record {
    safe = keeps_marks S (RootGives S F s.opening) s.opening.frozen s.opened
        (root_local S F shape) s.world x sound.safe;
    settled = λ d. (let o = sound.settled d in record { last = o.last; pages = o.pages; current = o.current });
    gives = sound.gives;
    maps = sound.maps;
    caught_up = sound.caught_up;
    frozen = λ off d i fz. (let o = sound.frozen off d i fz in ((λ now_open. o.0 (closed d now_open)), o.1));
    damaged = sound.damaged;
    shown = sound.shown;
    unfilled = sound.unfilled;
    filled = λ full. subst (λ (f : ℕ → ℕ). IsFilledUp S F s.opening s.world.extents.pointer s.world.extents.generation f
        (roots_of s.world.elements)) (sym found) (sound.filled full);
    apart = apart;
    left = λ m has. marks_member s.world x m (sound.left m has);
    issued = λ m has. marks_member s.world x m (sound.issued m has);
    complete = λ busy m is. sound.complete busy m (marks_back s.world x m is);
    once = sound.once;
    idle = sound.idle;
    swept = new;
  }

  begun_swept : (s : State) (e : ℕ) → Sound S F s → s.world.extents.open_extent ≢ Some e → e < S.extents
      → 0 < s.world.extents.pointer e → (d : ℕ) → (if d == e then true else s.world.extents.swept d) ≡ true
      → (s.world.extents.open_extent ≢ Some d) × (0 < s.world.extents.pointer d) × (d < S.extents)
  begun_swept s e sound closed there some k = elim (cases_eq k e) [
    | inl is ↦ (λ has. subst (λ (x : ℕ). (s.world.extents.open_extent ≢ Some x) × (0 < s.world.extents.pointer x)
        × (x < S.extents)) (sym is) (closed, some, there))
    | inr not ↦ (let test : (k == e) ≡ false = ne_eqb k e not in rw test (λ has. sound.swept k has))
  ]

  keeps_begin_before : S.apart ≡ false → (s t : State) (e : ℕ) → Sound S F s → (s.world.extents.open_extent ≢ Some e)
      → e < S.extents → 0 < s.world.extents.pointer e → t ≡ mark s e true → Sound S F t
  keeps_begin_before before s t e sound closed there some is = subst (λ (x : State). Sound S F x) (sym is)
      (remarked s (marked s.world.extents e true) s.copies sound refl (λ d now_open. now_open)
      (begun_swept s e sound closed there some) (λ on. not_both_rules S.apart before on))

  keeps_begin_apart : S.apart ≡ true → (s t : State) (e : ℕ) → Sound S F s → BeginsApart S s e t → Sound S F t
  keeps_begin_apart on s t e sound d = subst (λ (x : State). Sound S F x) (sym d.5)
      (remarked s (sweeping S s e).world.extents s.copies sound refl (λ k now_open. other_open e k s.world.extents.open_extent now_open)
      new_swept (λ yes. record {
        found = (sound.apart on).found;
        one_sweep = λ a b is also. is_e a is ∙ sym (is_e b also);
        copied = λ some c has. absurd (subst (λ (cs : List Copy). c ∈ cs) d.1 has);
      }))
    where
      is_e : (k : ℕ) → (if k == e then true else s.world.extents.swept k) ≡ true → k ≡ e
      is_e k = elim (cases_eq k e) [
        | inl is ↦ (λ has. is)
        | inr not ↦ (let test : (k == e) ≡ false = ne_eqb k e not in rw test (λ has. absurd (true≢false
            (sym (swept_below s.world.extents.swept S.extents k (sound.swept k has).2 has) ∙ d.0))))
      ]

      new_swept : (k : ℕ) → (if k == e then true else s.world.extents.swept k) ≡ true
          → (other_than e s.world.extents.open_extent ≢ Some k) × (0 < s.world.extents.pointer k) × (k < S.extents)
      new_swept k is = subst (λ (x : ℕ). (other_than e s.world.extents.open_extent ≢ Some x)
          × (0 < s.world.extents.pointer x) × (x < S.extents)) (sym (is_e k is))
          (not_itself e s.world.extents.open_extent, d.3, d.2)

  pub keeps_begin_sweep : (s t : State) (e : ℕ) → Sound S F s → Does S F s (BeginSweep e) Sweeping t → Sound S F t
  keeps_begin_sweep s t e sound d = elim (cases_Bool S.apart) [
    | inl on ↦ keeps_begin_apart on s t e sound (apart_rule _ _ S.apart on d)
    | inr before ↦ (let o = before_rule _ _ S.apart before d in keeps_begin_before before s t e sound o.1 o.2 o.3 o.4)
  ]

  pub keeps_abandon : (s : State) (e : ℕ) → Sound S F s → s.world.extents.swept e ≡ true → Sound S F (mark s e false)
  keeps_abandon s e sound swept = remarked s (marked s.world.extents e false) s.copies sound refl (λ d now_open. now_open)
      (λ k is. sound.swept k (was k is))
      (λ on. record {
        found = (sound.apart on).found;
        one_sweep = λ a b is also. (sound.apart on).one_sweep a b (was a is) (was b also);
        copied = λ some c has. absurd (true≢false (sym some
            ∙ none_swept (λ (k : ℕ). if k == e then false else s.world.extents.swept k) S.extents (none on)));
      })
    where
      was : (k : ℕ) → (if k == e then false else s.world.extents.swept k) ≡ true → s.world.extents.swept k ≡ true
      was k = elim (cases_eq k e) [
        | inl is ↦ (let test : (k == e) ≡ true = eq-eqb k e is in rw test (λ wrong. absurd (true≢false (sym wrong))))
        | inr not ↦ (let test : (k == e) ≡ false = ne_eqb k e not in rw test (λ has. has))
      ]

      none : S.apart ≡ true → (k : ℕ) → (if k == e then false else s.world.extents.swept k) ≡ false
      none on k = elim (cases_eq k e) [
        | inl is ↦ (let test : (k == e) ≡ true = eq-eqb k e is in rw test refl)
        | inr not ↦ (let test : (k == e) ≡ false = ne_eqb k e not in rw test
            (false_from_ne_true (s.world.extents.swept k) (λ has. not ((sound.apart on).one_sweep k e has swept))))
      ]
