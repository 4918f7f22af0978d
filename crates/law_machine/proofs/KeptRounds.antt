-- Begin, Issue and End keep a state sound.
use Rattle.std.proofs.Common.{◌≡◌, ◌⊎◌, inl, inr, ⊎_elim, ℕ, ◌<◌, ◌≤◌, true, List, [], ◌∷◌, ◌++◌, le_of_eq, le_trans, append-nil, true≢false, refl, sym, ◌∙◌, subst}
use Rattle.law_machine.specs.Cut.{Cut, Exact, section_of}
use Rattle.law_machine.specs.Device.{IsShape, Shape}
use Rattle.law_machine.specs.Element.{Element, Superblock, Write, log_of, superblocks_of, writes_of}
use Rattle.law_machine.specs.Events.{Does}
use Rattle.law_machine.specs.Formats.{Formats}
use Rattle.law_machine.specs.Frames.{IsFormat}
use Rattle.law_machine.specs.Distinct.{AreDistinct}
use Rattle.law_machine.specs.Lists.{◌∈◌}
use Rattle.law_machine.specs.Machine.{BeginRound, World}
use Rattle.law_machine.specs.Recovery.{RootGives}
use Rattle.law_machine.specs.Round.{IsMember, IsRound}
use Rattle.law_machine.specs.Safe.{Allowed, IsStaged, Ready, Safe}
use Rattle.law_machine.specs.Sound.{Sound}
use Rattle.law_machine.specs.State.{Begin, Begun, End, Ended, Issue, Issued, State}
use Rattle.law_machine.proofs.RoundMoves.{keeps_begin, keeps_end}
use Rattle.law_machine.proofs.Carries.{root_local}
use Rattle.law_machine.proofs.Rounds.{one_of_a_number}
use Rattle.law_machine.proofs.Distinct.{apart, in_first, in_second, moved, not_empty}

module _ (S : Shape) (F : Formats) (shape : IsShape S) (format : IsFormat S F) where
  round_allowed : (s : State) (R : Cut) → Sound S F s → IsRound S s.world R
      → Allowed S (RootGives S F s.opening) s.opening.frozen s.opened s.world (BeginRound R)
  round_allowed s R sound is = (exact, is.persistent, staged, ready)
    where
      w : World
      w = s.world

      safe : Safe S (RootGives S F s.opening) s.opening.frozen s.opened w
      safe = sound.safe

      pick : (j : ℕ) → (R.superblocks j ≡ w.persistent.superblocks j)
          ⊎ ((u : Superblock) × (u ∈ superblocks_of w.elements) × (u.section ≡ j) × (u.version ≡ R.superblocks j)
          × ((u.root ≤ w.persistent.root)
          × ((x : Write) → x ∈ writes_of w.elements → section_of S x.page ≡ u.section → x.number ≤ u.writes
          → w.persistent.writes x.number ≡ true))) → Superblock
      pick j (inl same) = safe.exact.superblock j
      pick j (inr new) = new.0

      picked : (j : ℕ) → j < S.sections → (o : _) → (pick j o ∈ superblocks_of w.elements)
          × ((pick j o).section ≡ j) × ((pick j o).version ≡ R.superblocks j)
      picked j lt (inl same) = (let old = safe.exact.superblocks j lt in (old.0, old.1, old.2 ∙ sym same))
      picked j lt (inr new) = (new.1, new.2, new.3)

      exact : Exact S.sections (log_of w.elements) R
      exact = record {
        superblock = λ j. pick j (is.only_superblocks j);
        superblocks = λ j lt. picked j lt (is.only_superblocks j);
        root = ⊎_elim (λ same. (safe.exact.root.0, safe.exact.root.1, safe.exact.root.2 ∙ sym same))
            (λ new. (new.0, new.1, new.2)) is.only_root;
      }

      staged : IsStaged S w R
      staged = record {
        writes = λ n has. ⊎_elim (λ old. safe.staged.writes n old)
            (λ new. subst (λ (m : ℕ). m ≤ w.written) new.2 (safe.writes_below new.0 new.1)) (is.only_writes n has);
        superblocks = λ j. ⊎_elim (λ same. le_trans (le_of_eq same) (safe.staged.superblocks j))
            (λ new. le_trans (le_of_eq (sym new.3))
            (subst (λ (i : ℕ). new.0.version ≤ w.superblocks i) new.2 (safe.superblocks_below new.0 new.1).0))
            (is.only_superblocks j);
        root = ⊎_elim (λ same. le_trans (le_of_eq same) safe.staged.root)
            (λ new. le_trans (le_of_eq (sym new.2)) (safe.roots_below new.0 new.1).0) is.only_root;
      }

      ready : Ready S (log_of w.elements) w.persistent R
      ready = record {
        writes = λ x has in_R. ⊎_elim (λ old. inl old)
            (λ new. inr (subst (λ (y : Write). y.root ≤ w.persistent.root)
            (one_of_a_number (writes_of w.elements) new.0 x safe.writes_order new.1 has new.2) new.3))
            (is.only_writes x.number in_R);
        superblock_root = λ u has ver. ⊎_elim (λ same. inl (le_trans ver (le_of_eq same)))
            (λ new. inr (le_trans
            (safe.nested_superblocks u new.0 has new.1 (sym new.2) (le_trans ver (le_of_eq (sym new.3)))).0
            new.4.0)) (is.only_superblocks u.section);
        superblock_writes = λ u x has has_x ver sec bound. ⊎_elim (λ same. inl (le_trans ver (le_of_eq same)))
            (λ new. inr (new.4.1 x has_x (sec ∙ sym new.2)
            (le_trans bound (safe.nested_superblocks u new.0 has new.1 (sym new.2)
            (le_trans ver (le_of_eq (sym new.3)))).1))) (is.only_superblocks u.section);
        roots = λ r has ver. ⊎_elim (λ same. inl (le_trans ver (le_of_eq same)))
            (λ new. inr (λ j. le_trans (safe.nested_roots r new.0 has new.1 (le_trans ver (le_of_eq (sym new.2))) j)
            (new.3.0 j))) is.only_root;
        root_writes = λ r x has has_x ver bound. ⊎_elim (λ same. inl (le_trans ver (le_of_eq same)))
            (λ new. inr (new.3.1 x has_x (le_trans bound
            (safe.nested_pages r new.0 has new.1 (le_trans ver (le_of_eq (sym new.2))))))) is.only_root;
      }

  pub keeps_take : (s t : State) (members : List Element) → Sound S F s → Does S F s Begin (Begun members) t
      → Sound S F t
  keeps_take s t members sound d = subst (λ (x : State). Sound S F x) (sym d.6) (record {
    safe = keeps_begin S (RootGives S F s.opening) s.opening.frozen s.opened (root_local S F shape) s.world d.1
        (round_allowed s d.1 sound d.2) sound.safe;
    settled = λ e. (let o = sound.settled e in record { last = o.last; pages = o.pages; current = o.current });
    gives = sound.gives;
    maps = sound.maps;
    caught_up = sound.caught_up;
    frozen = sound.frozen;
    damaged = sound.damaged;
    shown = sound.shown;
    unfilled = sound.unfilled;
    filled = sound.filled;
    apart = λ on. record { found = (sound.apart on).found; one_sweep = (sound.apart on).one_sweep; copied = (sound.apart on).copied };
    left = λ m has. (d.3 m).0 has;
    issued = λ m has. absurd has;
    complete = λ busy m is. inl ((d.3 m).1 is);
    once = subst (λ (l : List Element). AreDistinct l) (sym (append-nil members)) d.4;
    idle = λ wrong. absurd (true≢false wrong);
    swept = sound.swept;
  })

  pub keeps_end_round : (s t : State) (n : ℕ) → Sound S F s → Does S F s End (Ended n) t → Sound S F t
  keeps_end_round s t n sound d = subst (λ (x : State). Sound S F x) (sym d.2) (record {
    safe = keeps_end S (RootGives S F s.opening) s.opening.frozen s.opened (root_local S F shape) s.world sound.safe;
    settled = λ e. (let o = sound.settled e in record { last = o.last; pages = o.pages; current = o.current });
    gives = sound.gives;
    maps = sound.maps;
    caught_up = sound.caught_up;
    frozen = sound.frozen;
    damaged = sound.damaged;
    shown = sound.shown;
    unfilled = sound.unfilled;
    filled = sound.filled;
    apart = λ on. record { found = (sound.apart on).found; one_sweep = (sound.apart on).one_sweep; copied = (sound.apart on).copied };
    left = λ m has. absurd has;
    issued = λ m has. absurd has;
    complete = λ wrong. absurd (true≢false (sym wrong));
    once = tt;
    idle = λ off. (refl, refl, refl);
    swept = sound.swept;
  })

  in_middle : (xs ys : List Element) (m x : Element) → x ∈ (xs ++ ys) → x ∈ (xs ++ m ∷ ys)
  in_middle [] ys m x has = inr has
  in_middle (y ∷ xs) ys m x (inl is) = inl is
  in_middle (y ∷ xs) ys m x (inr has) = inr (in_middle xs ys m x has)

  not_middle : (xs ys : List Element) (m x : Element) → x ∈ (xs ++ m ∷ ys) → (x ∈ (xs ++ ys)) ⊎ (x ≡ m)
  not_middle [] ys m x (inl is) = inr is
  not_middle [] ys m x (inr has) = inl has
  not_middle (y ∷ xs) ys m x (inl is) = inl (inl is)
  not_middle (y ∷ xs) ys m x (inr has) = ⊎_elim (λ there. inl (inr there)) (λ is. inr is) (not_middle xs ys m x has)

  in_front : (xs : List Element) (m x : Element) → x ∈ xs → x ∈ (xs ++ m ∷ [])
  in_front [] m x none = absurd none
  in_front (y ∷ xs) m x (inl is) = inl is
  in_front (y ∷ xs) m x (inr has) = inr (in_front xs m x has)

  the_middle : (xs ys : List Element) (m : Element) → m ∈ (xs ++ m ∷ ys)
  the_middle [] ys m = inl refl
  the_middle (y ∷ xs) ys m = inr (the_middle xs ys m)

  at_end : (P : Element → Type 0) (xs : List Element) (m : Element) → ((x : Element) → x ∈ xs → P x) → P m
      → (x : Element) → x ∈ (xs ++ m ∷ []) → P x
  at_end P [] m old new x (inl is) = subst P (sym is) new
  at_end P [] m old new x (inr none) = absurd none
  at_end P (y ∷ xs) m old new x (inl is) = old x (inl is)
  at_end P (y ∷ xs) m old new x (inr has) = at_end P xs m (λ z has_z. old z (inr has_z)) new x has

  pub keeps_issue : (s t : State) (m : Element) → Sound S F s → Does S F s Issue (Issued m) t → Sound S F t
  keeps_issue s t m sound d = subst (λ (x : State). Sound S F x) (sym d.3) (record {
    safe = sound.safe;
    settled = sound.settled;
    gives = sound.gives;
    maps = sound.maps;
    caught_up = sound.caught_up;
    frozen = sound.frozen;
    damaged = sound.damaged;
    shown = sound.shown;
    unfilled = sound.unfilled;
    filled = sound.filled;
    apart = λ on. record { found = (sound.apart on).found; one_sweep = (sound.apart on).one_sweep; copied = (sound.apart on).copied };
    swept = sound.swept;
    once = moved d.0 d.1 s.issued m (subst (λ (l : List Element). AreDistinct (l ++ s.issued)) d.2 sound.once);
    idle = λ off. absurd (not_empty d.0 d.1 m (sym d.2 ∙ (sound.idle off).0));
    complete = λ busy x is. ⊎_elim
        (λ (waits : x ∈ s.left). ⊎_elim (λ still. inl still)
        (λ (now : x ≡ m). inr
        (subst (λ (y : Element). y ∈ (s.issued ++ m ∷ [])) (sym now) (the_middle s.issued [] m)))
        (not_middle d.0 d.1 m x (subst (λ (l : List Element). x ∈ l) d.2 waits)))
        (λ (gone : x ∈ s.issued). inr (in_front s.issued m x gone)) (sound.complete busy x is);
    left = λ x has. sound.left x (subst (λ (l : List Element). x ∈ l) (sym d.2) (in_middle d.0 d.1 m x has));
    issued = at_end (λ x. IsMember S s.world x) s.issued m sound.issued
        (sound.left m (subst (λ (l : List Element). m ∈ l) (sym d.2) (the_middle d.0 d.1 m)));
  })

pub issued_once : (S : Shape) (F : Formats) (s t : State) (m : Element) → Sound S F s → Does S F s Issue (Issued m) t
    → (m ∈ s.issued → ⊥) × (m ∈ t.left → ⊥)
issued_once S F s t m sound d =
    let once : AreDistinct ((d.0 ++ m ∷ d.1) ++ s.issued) = subst (λ (l : List Element). AreDistinct (l ++ s.issued))
    d.2 sound.once in (
      (λ has. apart d.0 d.1 s.issued m once (in_second (d.0 ++ d.1) s.issued m has)),
      (λ has. apart d.0 d.1 s.issued m once
          (in_first (d.0 ++ d.1) s.issued m (subst (λ (z : State). m ∈ z.left) d.3 has))),
    )
