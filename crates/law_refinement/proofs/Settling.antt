-- What the end of a round makes persistent is settled in the graph.
use Rattle.std.proofs.Common.{◌≡◌, inl, inr, ⊎_elim, ℕ, suc, ◌<◌, ◌≤◌, Bool, true, false, cond, if◌then◌else◌, List, [], ◌∷◌, ◌++◌, length, get_or, true≢false}
use Rattle.std.proofs.Common.{le_of_eq, le_trans, le-leb, leb-true, refl, sym, ap, ◌∙◌, subst, arith}
use Rattle.std.specs.Prelude.{Contains, filter}
use Rattle.std.proofs.lemmas.Bool.{cases_Bool, cases_lt}
use Rattle.cs_deps.specs.declared.elements.Element.{Element as Name}
use Rattle.cs_deps.specs.declared.elements.Element.TheVariants.{Plain, Version}
use Rattle.cs_deps.specs.Named.{Named, Names, StandsFor}
use Rattle.cs_deps.specs.Pending.{Pending, SatisfiedBy}
use Rattle.cs_deps.specs.Staging.{raised, settled, is_left_waiting}
use Rattle.cs_deps.proofs.Settled.{none_stands, one_stands, raised_below, raised_count, raised_more, raised_reaches}
use Rattle.law_machine.specs.Lists.{◌∈◌}
use Rattle.law_machine.specs.Device.{Shape, Page}
use Rattle.law_machine.specs.Element.{Opening, Element, A_write, A_superblock, A_root}
use Rattle.law_machine.specs.Cut.{Cut, Within, satisfied}
use Rattle.law_machine.specs.Machine.{World, EndRound, happens}
use Rattle.law_machine.specs.Round.{IsMember}
use Rattle.law_machine.specs.Safe.{Safe}
use Rattle.law_machine.specs.Sound.{Sound}
use Rattle.law_machine.specs.State.{State}
use Rattle.law_machine.specs.Formats.{Formats}
use Rattle.law_machine.specs.Recovery.{RootGives}
use Rattle.law_machine.proofs.Waiting.{listed}
use Rattle.cs_extent.specs.Frames.{family_of}
use Rattle.law_refinement.specs.Bridge.{AreNeedsOf, name, Matches, MayLeaveOut, waiting_in, IsPendingOf, IsWaiting}
use Rattle.law_refinement.specs.Stores.{AreMemberNames}
use Rattle.law_refinement.proofs.Places.{family_below, not_one, one_family, from_waiting}

-- those of a list that aren't satisfied in R
abbrev left_in : Cut → List Element → List Element
left_in R [] = []
left_in R (x ∷ xs) = if satisfied R x then left_in R xs else x ∷ left_in R xs

left_push : (R : Cut) (xs : List Element) (x : Element) → left_in R (xs ++ x ∷ []) ≡ (if satisfied R x then left_in R xs else left_in R xs ++ x ∷ [])
left_push R [] x = choose (satisfied R x)
  where
    choose : (b : Bool) → (if b then [] else x ∷ []) ≡ (if b then [] else [] ++ x ∷ [])
    choose true = refl
    choose false = refl
left_push R (y ∷ xs) x = ap (λ (l : List Element). if satisfied R y then l else y ∷ l) (left_push R xs x) ∙ choose (satisfied R y) (satisfied R x)
  where
    choose : (a b : Bool) → (if a then (if b then left_in R xs else left_in R xs ++ x ∷ []) else y ∷ (if b then left_in R xs else left_in R xs ++ x ∷ []))
        ≡ (if b then (if a then left_in R xs else y ∷ left_in R xs) else (if a then left_in R xs else y ∷ left_in R xs) ++ x ∷ [])
    choose true true = refl
    choose true false = refl
    choose false true = refl
    choose false false = refl

pub still : (P R : Cut) → Within P R → (m : Element) → satisfied P m ≡ true → satisfied R m ≡ true
still P R low (A_write x) met = low.writes x.number met
still P R low (A_superblock u) met = le-leb _ _ (le_trans (leb-true _ _ met) (low.superblocks u.section))
still P R low (A_root r) met = le-leb _ _ (le_trans (leb-true _ _ met) low.root)

left_is : (P R : Cut) → Within P R → (els : List Element) → waiting_in R els ≡ left_in R (waiting_in P els)
left_is P R low [] = refl
left_is P R low (x ∷ older) = ap (λ (l : List Element). if satisfied R x then l else l ++ x ∷ []) (left_is P R low older) ∙ choose (satisfied P x) refl
  where
    choose : (b : Bool) → satisfied P x ≡ b
        → (if satisfied R x then left_in R (waiting_in P older) else left_in R (waiting_in P older) ++ x ∷ []) ≡ left_in R (if b then waiting_in P older else waiting_in P older ++ x ∷ [])
    choose true met = ap (λ (b : Bool). if b then left_in R (waiting_in P older) else left_in R (waiting_in P older) ++ x ∷ []) (still P R low x met)
    choose false not = sym (left_push R (waiting_in P older) x)

-- what is satisfied in R waits no more
abbrev pub Tells : List Name → Cut → Element → Type 0
Tells round R m = (b : Bool) → satisfied R m ≡ b → (d : Named) → is_left_waiting round (name m, d) ≡ cond b false true

-- what may be left out may be left out once more is persistent
needs_later : (S : Shape) (P R : Cut) (staged : List Element) (x : Element) (d : Named) → Within P R → AreNeedsOf S P staged x d → AreNeedsOf S R staged x d
needs_later S P R staged x d low are = record { only = are.only; all = λ z needs. ⊎_elim (λ (names : Names d z). inl names) (λ (out : MayLeaveOut S P x z). inr (later x z out)) (are.all z needs) }
  where
    later : (m : Element) (z : Name) → MayLeaveOut S P m z → MayLeaveOut S R m z
    later (A_write y) z out = absurd out
    later (A_superblock u) (Plain n) out = (out.0, low.writes n out.1)
    later (A_superblock u) (Version f v) out = absurd out
    later (A_root r) z out = absurd out

matches_left : (S : Shape) (P : Cut) (staged : List Element) (round : List Name) (R : Cut) (xs : List Element) (ys : List (Name × Named)) → Within P R → ((m : Element) → m ∈ xs → Tells round R m) → Matches S P staged xs ys
    → Matches S R staged (left_in R xs) (filter (is_left_waiting round) ys)
matches_left S P staged round R [] [] low tells all = tt
matches_left S P staged round R [] (y ∷ ys) low tells all = absurd all
matches_left S P staged round R (x ∷ xs) [] low tells all = absurd all
matches_left S P staged round R (x ∷ xs) (y ∷ ys) low tells all =
    subst (λ (b : Bool). Matches S R staged (left_in R (x ∷ xs)) (cond b (y ∷ filter (is_left_waiting round) ys) (filter (is_left_waiting round) ys)))
    (sym (ap (λ (z : Name). is_left_waiting round (z, y.1)) all.0.0 ∙ tells x (inl refl) (satisfied R x) refl y.1))
    (choose (satisfied R x) (matches_left S P staged round R xs ys low (λ m has. tells m (inr has)) all.1))
  where
    choose : (b : Bool) → Matches S R staged (left_in R xs) (filter (is_left_waiting round) ys)
        → Matches S R staged (if b then left_in R xs else x ∷ left_in R xs) (cond (cond b false true) (y ∷ filter (is_left_waiting round) ys) (filter (is_left_waiting round) ys))
    choose true rest = rest
    choose false rest = ((all.0.0, needs_later S P R staged x y.1 low all.0.1), rest)

module _ (S : Shape) (F : Formats) {opening : Opening} (opened : ℕ → Page) (w : World) (g : Pending) (safe : Safe S (RootGives S F opening) opening.frozen opened w) (some : 0 < S.sections)
    (is : IsPendingOf S w g)
    (round : List Name) (names : AreMemberNames S w round) where
  -- what the names tell of the round
  root_at : (m : Element) → IsMember S w m → (v : ℕ) → name m ≡ Version 1 v → v ≡ w.round.root
  root_at (A_write x) member v same = absurd (let e : Plain x.number ≡ Version 1 v = same in cc)
  root_at (A_superblock u) member v same = absurd (not_one u.section (let e : Version (family_of u.section) u.version ≡ Version 1 v = same in cc))
  root_at (A_root r) member v same = let n : r.version ≡ v = (let e : Version 1 r.version ≡ Version 1 v = same in cc) in sym n ∙ member.1

  superblock_at : (m : Element) → IsMember S w m → (j v : ℕ) → name m ≡ Version (family_of j) v → v ≡ w.round.superblocks j
  superblock_at (A_write x) member j v same = absurd (let e : Plain x.number ≡ Version (family_of j) v = same in cc)
  superblock_at (A_superblock u) member j v same =
      let f : family_of u.section ≡ family_of j = (let e : Version (family_of u.section) u.version ≡ Version (family_of j) v = same in cc) in
      let n : u.version ≡ v = (let e : Version (family_of u.section) u.version ≡ Version (family_of j) v = same in cc) in
      sym n ∙ member.1 ∙ ap w.round.superblocks (one_family u.section j f)
  superblock_at (A_root r) member j v same = absurd (not_one j (let e : Version 1 r.version ≡ Version (family_of j) v = same in cc))

  write_at : (m : Element) → IsMember S w m → (n : ℕ) → name m ≡ Plain n → w.round.writes n ≡ true
  write_at (A_write x) member n same = ap w.round.writes (let e : Plain x.number ≡ Plain n = same in cc) ∙ member.1
  write_at (A_superblock u) member n same = absurd (let e : Version (family_of u.section) u.version ≡ Plain n = same in cc)
  write_at (A_root r) member n same = absurd (let e : Version 1 r.version ≡ Plain n = same in cc)

  root_named : (v : ℕ) → Contains round (Version 1 v) → v ≡ w.round.root
  root_named v has = let from = (names (Version 1 v)).0 has in root_at from.0 from.1 v from.2

  superblock_named : (j v : ℕ) → Contains round (Version (family_of j) v) → v ≡ w.round.superblocks j
  superblock_named j v has = let from = (names (Version (family_of j) v)).0 has in superblock_at from.0 from.1 j v from.2

  write_named : (n : ℕ) → Contains round (Plain n) → w.round.writes n ≡ true
  write_named n has = let from = (names (Plain n)).0 has in write_at from.0 from.1 n from.2

  -- the last version of the round, where it isn't persistent yet
  root_in_round : w.persistent.root < w.round.root → Contains round (Version 1 w.round.root)
  root_in_round low = let at = safe.roots_there w.round.root low safe.round_staged.root in
      (names (Version 1 w.round.root)).1 (A_root at.0, (at.1, at.2, le_trans low (le_of_eq (sym at.2))), ap (Version 1) at.2)

  superblock_in_round : (j : ℕ) → w.persistent.superblocks j < w.round.superblocks j → Contains round (Version (family_of j) (w.round.superblocks j))
  superblock_in_round j low = let at = safe.superblocks_there j (w.round.superblocks j) low (safe.round_staged.superblocks j) in
      (names (Version (family_of j) (w.round.superblocks j))).1 (
        A_superblock at.0,
        (at.1, at.3 ∙ ap w.round.superblocks (sym at.2), subst (λ (i : ℕ). w.persistent.superblocks i < at.0.version) (sym at.2) (le_trans low (le_of_eq (sym at.3)))),
        ap (λ (i : ℕ). Version (family_of i) at.0.version) at.2 ∙ ap (Version (family_of j)) at.3,
      )

  -- the versions are raised to those of the round
  raised_to : (f v : ℕ) → f < length g.persistent → get_or g.persistent f 0 ≤ v → ((u : ℕ) → Contains round (Version f u) → u ≡ v)
      → (get_or g.persistent f 0 < v → Contains round (Version f v)) → get_or (raised g.persistent round) f 0 ≡ v
  raised_to f v inside low one there =
      let high : get_or (raised g.persistent round) f 0 < suc v = raised_below round g.persistent f (suc v) (omega arith) (λ u has. (let e : u ≡ v = one u has in omega arith)) in
      ⊎_elim
      (λ (lt : get_or g.persistent f 0 < v). (let le : v ≤ get_or (raised g.persistent round) f 0 = raised_reaches round g.persistent f v inside (there lt) in omega arith))
      (λ (ge : v ≤ get_or g.persistent f 0). (let le : get_or g.persistent f 0 ≤ get_or (raised g.persistent round) f 0 = raised_more round g.persistent f in omega arith))
      (cases_lt (get_or g.persistent f 0) v)

  -- what waited and is satisfied in the round waits no more
  met_named : (m : Element) → IsWaiting w m → satisfied w.round m ≡ true → SatisfiedBy round (name m)
  met_named (A_write x) waits met = (Plain x.number, (names (Plain x.number)).1 (A_write x, (listed w.elements (A_write x) waits.0, met, waits.1), refl), refl)
  met_named (A_superblock u) waits met =
      let le : u.version ≤ w.round.superblocks u.section = leb-true _ _ met in
      ⊎_elim
      (λ (low : w.persistent.superblocks u.section < u.version). (Version (family_of u.section) (w.round.superblocks u.section), superblock_in_round u.section (omega arith), (refl, le)))
      (λ (high : u.version ≤ w.persistent.superblocks u.section). absurd (true≢false (sym (le-leb _ _ high) ∙ waits.1)))
      (cases_lt (w.persistent.superblocks u.section) u.version)
  met_named (A_root r) waits met =
      let le : r.version ≤ w.round.root = leb-true _ _ met in
      ⊎_elim
      (λ (low : w.persistent.root < r.version). (Version 1 w.round.root, root_in_round (omega arith), (refl, le)))
      (λ (high : r.version ≤ w.persistent.root). absurd (true≢false (sym (le-leb _ _ high) ∙ waits.1)))
      (cases_lt w.persistent.root r.version)

  named_met : (m : Element) (y : Name) → Contains round y → StandsFor y (name m) → satisfied w.round m ≡ true
  named_met (A_write x) (Plain n) has stands = ap w.round.writes (sym stands) ∙ write_named n has
  named_met (A_write x) (Version f v) has stands = absurd stands
  named_met (A_superblock u) (Plain n) has stands = absurd stands
  named_met (A_superblock u) (Version f v) has stands =
      le-leb _ _ (le_trans stands.1 (le_of_eq (superblock_named u.section v (subst (λ (i : ℕ). Contains round (Version i v)) stands.0 has))))
  named_met (A_root r) (Plain n) has stands = absurd stands
  named_met (A_root r) (Version f v) has stands = le-leb _ _ (le_trans stands.1 (le_of_eq (root_named v (subst (λ (i : ℕ). Contains round (Version i v)) stands.0 has))))

  tells : (m : Element) → IsWaiting w m → Tells round w.round m
  tells m waits true met d = elim (cases_Bool (is_left_waiting round (name m, d))) [
    | inl wait ↦ (let by = met_named m waits met in absurd (none_stands round (name m, d) wait by.0 by.1 by.2))
    | inr done ↦ done
  ]
  tells m waits false unmet d = elim (cases_Bool (is_left_waiting round (name m, d))) [
    | inl wait ↦ wait
    | inr done ↦ (let by = one_stands round (name m, d) done in absurd (true≢false (sym (named_met m by.0 by.1 by.2) ∙ unmet)))
  ]

  pub round_settled : IsPendingOf S (happens S w EndRound) (settled g round)
  round_settled = record {
    families = raised_count round g.persistent ∙ is.families;
    root = raised_to 1 w.round.root (let n : length g.persistent ≡ suc S.sections = is.families in omega arith) (le_trans (le_of_eq is.root) safe.within.root) root_named
        (λ lt. root_in_round (le_trans (le_of_eq (ap suc (sym is.root))) lt));
    sections = λ j lt. raised_to (family_of j) (w.round.superblocks j) (le_trans (family_below j S.sections lt) (le_of_eq (sym is.families)))
        (le_trans (le_of_eq (is.sections j lt)) (safe.within.superblocks j)) (superblock_named j)
        (λ low. superblock_in_round j (le_trans (le_of_eq (ap suc (sym (is.sections j lt)))) low));
    waiting = subst (λ (l : List Element). Matches S w.round w.elements l (filter (is_left_waiting round) g.waiting)) (sym (left_is w.persistent w.round safe.within w.elements))
        (matches_left S w.persistent w.elements round w.round (waiting_in w.persistent w.elements) g.waiting safe.within (λ m has. tells m (from_waiting w.persistent w.elements m has)) is.waiting);
  }

pub some_section : (S : Shape) (F : Formats) (s : State) → Sound S F s → 0 < S.sections
some_section S F s sound = let last = (sound.settled 0).last in let lt : last.0.section < S.sections = sound.safe.sections_there last.0 last.1 in omega arith
