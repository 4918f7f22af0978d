-- An element has height 1 exactly where it is ready.
use Rattle.std.proofs.Common.{◌≡◌, ◌↔◌, inl, inr, ⊎_elim, ℕ, ◌+◌, ◌<◌, ◌≤◌, true, false, nat_le, List, [], ◌∷◌, length, true≢false, le_of_eq, le_trans, le_refl, le-leb, refl, sym, ap, ◌∙◌, subst, arith}
use Rattle.std.proofs.lemmas.Bool.{cases_Bool, cases_lt}
use Rattle.cs_deps.specs.declared.elements.Element.{Element as Name}
use Rattle.cs_deps.specs.declared.elements.Element.TheVariants.{Plain, Version}
use Rattle.cs_deps.specs.Named.{Named}
use Rattle.cs_deps.specs.Pending.{Pending, Waits, Needs}
use Rattle.cs_deps.specs.Chain.{IsChain, LastIs, IsHeight}
use Rattle.cs_deps.specs.Rounds.{IsDue, IsTaken}
use Rattle.cs_deps.proofs.Chains.{chain_of_one, chain_to_next, named_is_needed, needed_waits}
use Rattle.law_machine.specs.Lists.{◌∈◌}
use Rattle.law_machine.specs.Device.{Shape, Page}
use Rattle.law_machine.specs.Element.{Opening, Element, A_write, A_superblock, A_root, Write, Superblock, Root, writes_of, superblocks_of, roots_of}
use Rattle.law_machine.specs.Cut.{Cut}
use Rattle.law_machine.specs.Machine.{World}
use Rattle.law_machine.specs.Safe.{Safe}
use Rattle.law_machine.specs.Formats.{Formats}
use Rattle.law_machine.specs.Recovery.{RootGives}
use Rattle.law_machine.specs.Round.{WriteReady, SuperblockReady, RootReady, IsRound, IsMember}
use Rattle.law_machine.proofs.ClosedSets.{gt-leb}
use Rattle.law_machine.proofs.Waiting.{Listed, listed, write_in, superblock_in, root_in}
use Rattle.cs_extent.specs.Frames.{family_of}
use Rattle.law_refinement.specs.Bridge.{name, MayLeaveOut, NeedsName, IsPendingOf, IsWaiting, NamesAll}
use Rattle.law_refinement.proofs.Places.{not_one, one_family, one_write, one_superblock, one_root, waits_name, waits_from, needs_name, name_needs, version_needs}

-- nothing that waits is needed
abbrev pub NoneWaits : Pending → Name → Type 0
NoneWaits g x = (y : Name) → Needs g x y → Waits g y → ⊥

short : (g : Pending) (z x y : Name) (ys : List Name) → NoneWaits g z → IsChain g (x ∷ y ∷ ys) → LastIs (λ v. v ≡ z) (y ∷ ys) → ⊥
short g z x y [] none chain last = none x (subst (λ (v : Name). Needs g v x) last chain.1) chain.0
short g z x y (v ∷ vs) none chain last = short g z y v vs none chain.2 last

lowest : (g : Pending) (z : Name) (xs : List Name) → NoneWaits g z → IsChain g xs → LastIs (λ v. v ≡ z) xs → length xs ≤ 1
lowest g z [] none chain last = omega arith
lowest g z (x ∷ []) none chain last = omega arith
lowest g z (x ∷ y ∷ ys) none chain last = absurd (short g z x y ys none chain last)

pub height_one : (g : Pending) (z : Name) → Waits g z → NoneWaits g z → IsHeight g z 1
height_one g z waits none = record { reached = chain_of_one g z waits; greatest = λ m to. (let le : length to.0 ≤ 1 = lowest g z to.0 none to.1 to.2 in let e : length to.0 ≡ m = to.3 in omega arith) }

pub one_height : (g : Pending) (z : Name) → IsHeight g z 1 → NoneWaits g z
one_height g z height y needs waits = let two : 1 + 1 ≤ 1 = height.greatest (1 + 1) (chain_to_next g z y 1 (chain_of_one g y waits) needs) in absurd (omega arith)

module _ (S : Shape) (F : Formats) {opening : Opening} (opened : ℕ → Page) (w : World) (g : Pending) (safe : Safe S (RootGives S F opening) opening.frozen opened w) (is : IsPendingOf S w g) where
  -- the needs of an element are satisfied in P
  abbrev pub IsReady : Element → Type 0
  IsReady (A_write x) = WriteReady S w x
  IsReady (A_superblock u) = SuperblockReady S w u
  IsReady (A_root r) = RootReady S w r

  root_waits : (n : ℕ) → w.persistent.root < n → n ≤ w.root → Waits g (Version 1 n)
  root_waits n low high = let at = safe.roots_there n low high in
      subst (λ (v : ℕ). Waits g (Version 1 v)) at.2 (waits_name S F opened w g safe is (A_root at.0) (root_in w.elements at.0 at.1, gt-leb _ _ (le_trans low (le_of_eq (sym at.2)))))

  superblock_waits : (j n : ℕ) → w.persistent.superblocks j < n → n ≤ w.superblocks j → (j < S.sections) × Waits g (Version (family_of j) n)
  superblock_waits j n low high = let at = safe.superblocks_there j n low high in (
    subst (λ (i : ℕ). i < S.sections) at.2 (safe.sections_there at.0 at.1),
    subst (λ (v : ℕ). Waits g (Version (family_of j) v)) at.3 (subst (λ (i : ℕ). Waits g (Version (family_of i) at.0.version)) at.2
        (waits_name S F opened w g safe is (A_superblock at.0) (superblock_in w.elements at.0 at.1, gt-leb _ _ (subst (λ (i : ℕ). w.persistent.superblocks i < at.0.version) (sym at.2) (le_trans low (le_of_eq (sym at.3))))))),
  )

  root_met : (m : Element) (n : ℕ) → IsWaiting w m → NoneWaits g (name m) → n ≤ w.root → ((v : ℕ) → 1 ≤ v → v ≤ n → NeedsName S w.elements m (Version 1 v)) → n ≤ w.persistent.root
  root_met m n waits none staged needs = ⊎_elim
      (λ (low : w.persistent.root < n). absurd (none (Version 1 n) (version_needs S F opened w g safe is m 1 n waits (needs n (omega arith) (le_refl _))) (root_waits n low staged)))
      (λ (met : n ≤ w.persistent.root). met)
      (cases_lt w.persistent.root n)

  pub ready : (m : Element) → IsWaiting w m → Listed w.elements m → NoneWaits g (name m) → IsReady m
  ready (A_write x) waits has none = root_met (A_write x) x.root waits none (safe.write_roots x has) (λ v one le. (refl, one, le))
  ready (A_superblock u) waits has none = (
    root_met (A_superblock u) u.root waits none (safe.superblock_roots u has) (λ v one le. (refl, one, le)),
    λ x has_x sec bound. elim (cases_Bool (w.persistent.writes x.number)) [
      | inl met ↦ met
      | inr not ↦ ⊎_elim
          (λ (named : Needs g (name (A_superblock u)) (Plain x.number)). absurd (none (Plain x.number) named (waits_name S F opened w g safe is (A_write x) (write_in w.elements x has_x, not))))
          (λ (out : MayLeaveOut S w.persistent (A_superblock u) (Plain x.number)). out.1)
          (name_needs S F opened w g safe is (A_superblock u) (Plain x.number) waits (x, has_x, sec, bound, refl))
    ],
  )
  ready (A_root r) waits has none = (
    λ j. ⊎_elim
        (λ (low : w.persistent.superblocks j < r.superblocks j). (let at = superblock_waits j (r.superblocks j) low ((safe.roots_below r has).1 j) in
        absurd (none (Version (family_of j) (r.superblocks j)) (version_needs S F opened w g safe is (A_root r) (family_of j) (r.superblocks j) waits (j, at.0, refl, omega arith, le_refl _)) at.1)))
        (λ (met : r.superblocks j ≤ w.persistent.superblocks j). met)
        (cases_lt (w.persistent.superblocks j) (r.superblocks j)),
    λ x has_x bound. elim (cases_Bool (w.persistent.writes x.number)) [
      | inl met ↦ met
      | inr not ↦ ⊎_elim
          (λ (named : Needs g (name (A_root r)) (Plain x.number)). absurd (none (Plain x.number) named (waits_name S F opened w g safe is (A_write x) (write_in w.elements x has_x, not))))
          (λ (out : MayLeaveOut S w.persistent (A_root r) (Plain x.number)). absurd out)
          (name_needs S F opened w g safe is (A_root r) (Plain x.number) waits (x, has_x, bound, refl))
    ],
  )

  -- a waiting version is above the persistent one
  root_above : (n : ℕ) → Waits g (Version 1 n) → w.persistent.root < n
  root_above n waits = above (at.0) at.1 at.2
    where
      at : (m : Element) × IsWaiting w m × (Version 1 n ≡ name m)
      at = waits_from S F opened w g safe is (Version 1 n) waits

      above : (m : Element) → IsWaiting w m → Version 1 n ≡ name m → w.persistent.root < n
      above (A_write x) wait same = absurd (let e : Version 1 n ≡ Plain x.number = same in cc)
      above (A_superblock u) wait same = absurd (not_one u.section (sym (let e : Version 1 n ≡ Version (family_of u.section) u.version = same in cc)))
      above (A_root r) wait same = ⊎_elim (λ (lt : w.persistent.root < n). lt)
          (λ (le : n ≤ w.persistent.root). absurd (let v : n ≡ r.version = (let e : Version 1 n ≡ Version 1 r.version = same in cc) in true≢false (sym (le-leb r.version w.persistent.root (le_trans (le_of_eq (sym v)) le)) ∙ wait.1)))
          (cases_lt w.persistent.root n)

  superblock_above : (j n : ℕ) → Waits g (Version (family_of j) n) → w.persistent.superblocks j < n
  superblock_above j n waits = above (at.0) at.1 at.2
    where
      at : (m : Element) × IsWaiting w m × (Version (family_of j) n ≡ name m)
      at = waits_from S F opened w g safe is (Version (family_of j) n) waits

      above : (m : Element) → IsWaiting w m → Version (family_of j) n ≡ name m → w.persistent.superblocks j < n
      above (A_write x) wait same = absurd (let e : Version (family_of j) n ≡ Plain x.number = same in cc)
      above (A_root r) wait same = absurd (not_one j (let e : Version (family_of j) n ≡ Version 1 r.version = same in cc))
      above (A_superblock u) wait same = ⊎_elim (λ (lt : w.persistent.superblocks j < n). lt)
          (λ (le : n ≤ w.persistent.superblocks j). absurd (
          let v : n ≡ u.version = (let e : Version (family_of j) n ≡ Version (family_of u.section) u.version = same in cc) in
          let f : family_of j ≡ family_of u.section = (let e : Version (family_of j) n ≡ Version (family_of u.section) u.version = same in cc) in
          let i : j ≡ u.section = one_family j u.section f in
          true≢false (sym (le-leb u.version (w.persistent.superblocks u.section) (le_trans (le_of_eq (sym v)) (subst (λ (k : ℕ). n ≤ w.persistent.superblocks k) i le))) ∙ wait.1)))
          (cases_lt (w.persistent.superblocks j) n)

  pub write_waits : (n : ℕ) → Waits g (Plain n) → w.persistent.writes n ≡ false
  write_waits n waits = below (at.0) at.1 at.2
    where
      at : (m : Element) × IsWaiting w m × (Plain n ≡ name m)
      at = waits_from S F opened w g safe is (Plain n) waits

      below : (m : Element) → IsWaiting w m → Plain n ≡ name m → w.persistent.writes n ≡ false
      below (A_write x) wait same = ap w.persistent.writes (let e : Plain n ≡ Plain x.number = same in cc) ∙ wait.1
      below (A_superblock u) wait same = absurd (let e : Plain n ≡ Version (family_of u.section) u.version = same in cc)
      below (A_root r) wait same = absurd (let e : Plain n ≡ Version 1 r.version = same in cc)

  pub not_ready : (m : Element) → IsWaiting w m → IsReady m → NoneWaits g (name m)
  not_ready (A_write x) waits met (Plain n) needs wait = absurd (needs_name S F opened w g safe is (A_write x) (Plain n) waits needs)
  not_ready (A_write x) waits met (Version f v) needs wait =
      let n = needs_name S F opened w g safe is (A_write x) (Version f v) waits needs in
      let low : w.persistent.root < v = root_above v (subst (λ (i : ℕ). Waits g (Version i v)) n.0 wait) in let le : v ≤ x.root = n.2 in let up : x.root ≤ w.persistent.root = met in absurd (omega arith)
  not_ready (A_superblock u) waits met (Plain n) needs wait =
      let at = needs_name S F opened w g safe is (A_superblock u) (Plain n) waits needs in
      absurd (true≢false (sym (met.1 at.0 at.1 at.2 at.3) ∙ ap w.persistent.writes at.4 ∙ write_waits n wait))
  not_ready (A_superblock u) waits met (Version f v) needs wait =
      let n = needs_name S F opened w g safe is (A_superblock u) (Version f v) waits needs in
      let low : w.persistent.root < v = root_above v (subst (λ (i : ℕ). Waits g (Version i v)) n.0 wait) in let le : v ≤ u.root = n.2 in let up : u.root ≤ w.persistent.root = met.0 in absurd (omega arith)
  not_ready (A_root r) waits met (Plain n) needs wait =
      let at = needs_name S F opened w g safe is (A_root r) (Plain n) waits needs in
      absurd (true≢false (sym (met.1 at.0 at.1 at.2) ∙ ap w.persistent.writes at.3 ∙ write_waits n wait))
  not_ready (A_root r) waits met (Version f v) needs wait =
      let n = needs_name S F opened w g safe is (A_root r) (Version f v) waits needs in
      let low : w.persistent.superblocks n.0 < v = superblock_above n.0 v (subst (λ (i : ℕ). Waits g (Version i v)) n.2 wait) in let le : v ≤ r.superblocks n.0 = n.4 in let up : r.superblocks n.0 ≤ w.persistent.superblocks n.0 = met.0 n.0 in absurd (omega arith)

  module _ (target : Named) (all : NamesAll g target) where
    pub due : (m : Element) → IsWaiting w m → IsReady m → IsDue g target 1 (name m)
    due m waits met = let wait : Waits g (name m) = waits_name S F opened w g safe is m waits in
        (named_is_needed g target (name m) (all (name m) wait) wait, height_one g (name m) wait (not_ready m waits met))

    pub due_ready : (m : Element) → IsWaiting w m → IsDue g target 1 (name m) → IsReady m
    due_ready m waits d = ready m waits (listed w.elements m waits.0) (one_height g (name m) d.1)

    due_superblock : (j v : ℕ) → IsDue g target 1 (Version (family_of j) v) → (u : Superblock) × (u ∈ superblocks_of w.elements) × (u.section ≡ j) × (u.version ≡ v) × SuperblockReady S w u
    due_superblock j v d = find (waits_from S F opened w g safe is (Version (family_of j) v) (needed_waits g target _ d.0)).0
        (waits_from S F opened w g safe is (Version (family_of j) v) (needed_waits g target _ d.0)).1
        (waits_from S F opened w g safe is (Version (family_of j) v) (needed_waits g target _ d.0)).2
      where
        find : (m : Element) → IsWaiting w m → Version (family_of j) v ≡ name m → (u : Superblock) × (u ∈ superblocks_of w.elements) × (u.section ≡ j) × (u.version ≡ v) × SuperblockReady S w u
        find (A_write x) wait same = absurd (let e : Version (family_of j) v ≡ Plain x.number = same in cc)
        find (A_root r) wait same = absurd (not_one j (let e : Version (family_of j) v ≡ Version 1 r.version = same in cc))
        find (A_superblock u) wait same =
            let f : family_of j ≡ family_of u.section = (let e : Version (family_of j) v ≡ Version (family_of u.section) u.version = same in cc) in
            let n : v ≡ u.version = (let e : Version (family_of j) v ≡ Version (family_of u.section) u.version = same in cc) in
            (u, listed w.elements (A_superblock u) wait.0, sym (one_family j u.section f), sym n, due_ready (A_superblock u) wait (subst (λ (z : Name). IsDue g target 1 z) same d))

    due_root : (v : ℕ) → IsDue g target 1 (Version 1 v) → (r : Root) × (r ∈ roots_of w.elements) × (r.version ≡ v) × RootReady S w r
    due_root v d = find (waits_from S F opened w g safe is (Version 1 v) (needed_waits g target _ d.0)).0
        (waits_from S F opened w g safe is (Version 1 v) (needed_waits g target _ d.0)).1
        (waits_from S F opened w g safe is (Version 1 v) (needed_waits g target _ d.0)).2
      where
        find : (m : Element) → IsWaiting w m → Version 1 v ≡ name m → (r : Root) × (r ∈ roots_of w.elements) × (r.version ≡ v) × RootReady S w r
        find (A_write x) wait same = absurd (let e : Version 1 v ≡ Plain x.number = same in cc)
        find (A_superblock u) wait same = absurd (not_one u.section (sym (let e : Version 1 v ≡ Version (family_of u.section) u.version = same in cc)))
        find (A_root r) wait same =
            let n : v ≡ r.version = (let e : Version 1 v ≡ Version 1 r.version = same in cc) in
            (r, listed w.elements (A_root r) wait.0, sym n, due_ready (A_root r) wait (subst (λ (z : Name). IsDue g target 1 z) same d))

    taken_waits : (z : Name) → IsTaken g target 1 z → Waits g z
    taken_waits (Plain n) t = needed_waits g target _ t.0
    taken_waits (Version f v) t = needed_waits g target _ t.0.0

    module _ (R : Cut) (round : IsRound S w R) where
      above_superblock : (u : Superblock) → u ∈ superblocks_of w.elements → w.persistent.superblocks u.section < u.version → IsWaiting w (A_superblock u)
      above_superblock u has lt = (superblock_in w.elements u has, gt-leb _ _ lt)

      above_root : (r : Root) → r ∈ roots_of w.elements → w.persistent.root < r.version → IsWaiting w (A_root r)
      above_root r has lt = (root_in w.elements r has, gt-leb _ _ lt)

      not_below : (a b : ℕ) → nat_le a b ≡ false → b < a
      not_below a b not = ⊎_elim (λ (lt : b < a). lt) (λ (le : a ≤ b). absurd (true≢false (sym (le-leb a b le) ∙ not))) (cases_lt b a)

      pub taken : (m : Element) → IsMember S (record w { round = R }) m → IsTaken g target 1 (name m)
      taken (A_write x) member = ⊎_elim
          (λ (old : w.persistent.writes x.number ≡ true). absurd (true≢false (sym old ∙ member.2)))
          (λ new. due (A_write x) (write_in w.elements x member.0, member.2)
          (subst (λ (y : Write). y.root ≤ w.persistent.root) (one_write S F opened w g safe is new.0 x new.1 member.0 new.2) new.3))
          (round.only_writes x.number member.1)
      taken (A_superblock u) member = ⊎_elim
          (λ (old : R.superblocks u.section ≡ w.persistent.superblocks u.section). absurd (let lt : w.persistent.superblocks u.section < u.version = member.2 in let e : u.version ≡ R.superblocks u.section = member.1 in omega arith))
          (λ new. (
            due (A_superblock u) (above_superblock u member.0 member.2)
                (subst (λ (y : Superblock). SuperblockReady S w y) (one_superblock S F opened w g safe is new.0 u new.1 member.0 new.2 (new.3 ∙ sym member.1)) new.4),
            λ v d. (let at = due_superblock u.section v d in
                let le : at.0.version ≤ R.superblocks at.0.section = round.superblocks at.0 at.1 at.4 in
                le_trans (le_of_eq (sym at.3)) (le_trans le (le_of_eq (ap R.superblocks at.2 ∙ sym member.1)))),
          ))
          (round.only_superblocks u.section)
      taken (A_root r) member = ⊎_elim
          (λ (old : R.root ≡ w.persistent.root). absurd (let lt : w.persistent.root < r.version = member.2 in let e : r.version ≡ R.root = member.1 in omega arith))
          (λ new. (
            due (A_root r) (above_root r member.0 member.2)
                (subst (λ (y : Root). RootReady S w y) (one_root S F opened w g safe is new.0 r new.1 member.0 (new.2 ∙ sym member.1)) new.3),
            λ v d. (let at = due_root v d in
                let le : at.0.version ≤ R.root = round.roots at.0 at.1 at.3 in
                le_trans (le_of_eq (sym at.2)) (le_trans le (le_of_eq (sym member.1)))),
          ))
          round.only_root

      pub member : (m : Element) → IsWaiting w m → IsTaken g target 1 (name m) → IsMember S (record w { round = R }) m
      member (A_write x) waits t = (let has : x ∈ writes_of w.elements = listed w.elements (A_write x) waits.0 in (has, round.writes x has (due_ready (A_write x) waits t), waits.1))
      member (A_superblock u) waits t =
          let has : u ∈ superblocks_of w.elements = listed w.elements (A_superblock u) waits.0 in
          let low : w.persistent.superblocks u.section < u.version = not_below _ _ waits.1 in
          let le : u.version ≤ R.superblocks u.section = round.superblocks u has (due_ready (A_superblock u) waits t.0) in (
            has,
            ⊎_elim
                (λ (old : R.superblocks u.section ≡ w.persistent.superblocks u.section). absurd (omega arith))
                (λ new.
                let v : new.0.version ≡ R.superblocks u.section = new.3 in
                let above : w.persistent.superblocks new.0.section < new.0.version = subst (λ (j : ℕ). w.persistent.superblocks j < new.0.version) (sym new.2) (omega arith) in
                let d : IsDue g target 1 (name (A_superblock new.0)) = due (A_superblock new.0) (above_superblock new.0 new.1 above) new.4 in
                let back : new.0.version ≤ u.version = t.1 new.0.version (subst (λ (j : ℕ). IsDue g target 1 (Version (family_of j) new.0.version)) new.2 d) in omega arith)
                (round.only_superblocks u.section),
            low,
          )
      member (A_root r) waits t =
          let has : r ∈ roots_of w.elements = listed w.elements (A_root r) waits.0 in
          let low : w.persistent.root < r.version = not_below _ _ waits.1 in
          let le : r.version ≤ R.root = round.roots r has (due_ready (A_root r) waits t.0) in (
            has,
            ⊎_elim
                (λ (old : R.root ≡ w.persistent.root). absurd (omega arith))
                (λ new.
                let v : new.0.version ≡ R.root = new.2 in
                let above : w.persistent.root < new.0.version = omega arith in
                let d : IsDue g target 1 (name (A_root new.0)) = due (A_root new.0) (above_root new.0 new.1 above) new.3 in
                let back : new.0.version ≤ r.version = t.1 new.0.version d in omega arith)
                round.only_root,
            low,
          )

      pub first_round : (z : Name) → IsTaken g target 1 z ↔ ((m : Element) × IsMember S (record w { round = R }) m × (name m ≡ z))
      first_round z = (
        (λ t. (let at = waits_from S F opened w g safe is z (taken_waits z t) in (at.0, member at.0 at.1 (subst (λ (y : Name). IsTaken g target 1 y) at.2 t), sym at.2))),
        (λ from. subst (λ (y : Name). IsTaken g target 1 y) from.2 (taken from.0 from.1)),
      )
