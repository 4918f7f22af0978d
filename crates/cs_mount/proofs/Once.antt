-- Between two flushes a core writes each page once that isn't one of frames.
use Rattle.std.proofs.Common.{◌≡◌, ◌≢◌, inl, inr, ⊎_elim, if◌then◌else◌, ◌==◌, ◌-◌, ◌*◌, ℕ, zero, suc, ◌+◌, ◌<◌, ◌≤◌, Bool, true, false, List, [], ◌∷◌, ◌++◌, Some, map, nat_lt, slice_get, refl, sym, ◌∙◌, ap, subst, arith}
use Rattle.std.proofs.lemmas.Bool.{cases_lt}
use Rattle.std.proofs.lemmas.Bool.Decides.{nat_tests}
use Rattle.std.proofs.lemmas.Option.{same_Some}
use Rattle.cs_frame.specs.Formats.{formats_of}
use Rattle.cs_frame.specs.Geometries.{Dimensions, IsGeometry}
use Rattle.law_machine.specs.Geometry.{twins_in}
use Rattle.law_machine.specs.Device.{FramePage, Page, RootPage, SectionPage, Shape}
use Rattle.law_machine.specs.Disk.{page_write, page_writes}
use Rattle.law_machine.specs.Distinct.{AreDistinct}
use Rattle.law_machine.specs.Element.{A_root, A_superblock, A_write, Element, RootBefore, SuperblockBefore, roots_of, superblocks_of}
use Rattle.law_machine.specs.Formats.{Formats}
use Rattle.law_machine.specs.Lists.{Descends, ◌∈◌}
use Rattle.law_machine.specs.Sound.{Sound}
use Rattle.law_machine.specs.State.{State}
use Rattle.cs_disk.specs.Disk.{State as DiskState, Write}
use Rattle.cs_twin.specs.declared.pairs.Pair.{Pair}
use Rattle.cs_twin.specs.Fences.{AreWhole, AreWrittenOnce}
use Rattle.cs_twin.specs.Pairs.{Versions, half, shown_half, shown_write}
use Rattle.cs_twin.proofs.Roles.{shown_half-none, shown_half-whole, shown_write-half}
use Rattle.cs_mount.specs.StorePairs.{pages_of, store_pair, store_pairs, store_shape}
use Rattle.cs_mount.proofs.NewOn.{placed}
use Rattle.cs_mount.proofs.Twins.{frames, total_pages}
use Rattle.cs_mount.proofs.Unpaired.{are_pairs}

-- ---- lists

member : {A : Type 0} (xs : List A) (i : ℕ) (x : A) → slice_get xs i ≡ Some x → x ∈ xs
member [] i x at = cc
member (y ∷ xs) zero x at = inl (sym (same_Some y x at))
member (y ∷ xs) (suc i) x at = inr (member xs i x at)

distinct_second : {A : Type 0} (xs ys : List A) → AreDistinct (xs ++ ys) → AreDistinct ys
distinct_second [] ys once = once
distinct_second (x ∷ xs) ys once = distinct_second xs ys once.1

-- an element of a list of different ones has one place
one_at : {A : Type 0} (xs : List A) (i j : ℕ) (x : A) → AreDistinct xs → slice_get xs i ≡ Some x → slice_get xs j ≡ Some x → i ≡ j
one_at [] i j x once at also = cc
one_at (y ∷ xs) zero zero x once at also = refl
one_at {A} (y ∷ xs) zero (suc j) x once at also = absurd (once.0 (subst (λ (z : A). z ∈ xs) (sym (same_Some y x at)) (member xs j x also)))
one_at {A} (y ∷ xs) (suc i) zero x once at also = absurd (once.0 (subst (λ (z : A). z ∈ xs) (sym (same_Some y x also)) (member xs i x at)))
one_at (y ∷ xs) (suc i) (suc j) x once at also = let same = one_at xs i j x once.1 at also in omega (arith, same)

-- two elements of a list in order, neither of which is before the other, are one
one_of : {A : Type 0} (Before : A → A → Type 0) (xs : List A) (u v : A) → Descends Before xs → u ∈ xs → v ∈ xs → (Before u v → ⊥) → (Before v u → ⊥) → u ≡ v
one_of Before [] u v order in_u in_v not_u not_v = absurd in_u
one_of Before (x ∷ xs) u v order (inl is_u) (inl is_v) not_u not_v = is_u ∙ sym is_v
one_of {A} Before (x ∷ xs) u v order (inl is_u) (inr in_v) not_u not_v = absurd (not_v (subst (λ (z : A). Before v z) (sym is_u) (order.0 v in_v)))
one_of {A} Before (x ∷ xs) u v order (inr in_u) (inl is_v) not_u not_v = absurd (not_u (subst (λ (z : A). Before u z) (sym is_v) (order.0 u in_u)))
one_of Before (x ∷ xs) u v order (inr in_u) (inr in_v) not_u not_v = one_of Before xs u v order.1 in_u in_v not_u not_v

module _ (d : Dimensions) (some : 2 ≤ d.extents * d.pages) where
  abbrev S : Shape
  S = store_shape d

  abbrev F : Formats
  F = formats_of (store_shape d)

  -- the element that was written at a place
  written_at : (ms : List Element) (i : ℕ) (v : ℕ × Page) → slice_get (page_writes S F ms) i ≡ Some v → (m : Element) × (slice_get ms i ≡ Some m) × (page_write S F m ≡ v)
  written_at [] i v at = cc
  written_at (m ∷ ms) zero v at = (m, refl, same_Some (page_write S F m) v at)
  written_at (m ∷ ms) (suc i) v at = written_at ms i v at

  -- where sections lie, and frames
  same_section : (frames i j : ℕ) → (if i == 0 then 0 else 1 + frames + i) ≡ (if j == 0 then 0 else 1 + frames + j) → i ≡ j
  same_section frames i j same = grind (arith, nat_tests)

  root_no_section : (frames j : ℕ) → 1 ≡ (if j == 0 then 0 else 1 + frames + j) → 2 ≤ frames → ⊥
  root_no_section frames j same many = grind (arith, nat_tests)

  section_low : (frames sections j : ℕ) → j < sections → (if j == 0 then 0 else 1 + frames + j) ≤ frames + sections
  section_low frames sections j lt = grind (arith, nat_tests)

  frame_low : (frames p : ℕ) → (if p == 0 then SectionPage 0 else if p == 1 then RootPage else if nat_lt p (2 + frames) then FramePage else SectionPage (p - (1 + frames))) ≡ FramePage → p < 2 + frames
  frame_low frames p is = by (p == 0) (p == 1) (nat_lt p (2 + frames)) refl is
    where
      below : nat_lt p (2 + frames) ≡ true → p < 2 + frames
      below test = grind (arith, nat_tests)

      by : (a b c : Bool) → nat_lt p (2 + frames) ≡ c → (if a then SectionPage 0 else if b then RootPage else if c then FramePage else SectionPage (p - (1 + frames))) ≡ FramePage → p < 2 + frames
      by true b c test is = absurd (cc is)
      by false true c test is = absurd (cc is)
      by false false true test is = below test
      by false false false test is = absurd (cc is)

  module _ (s : State) (sound : Sound S F s) where
    -- two members that were written to one such page are one
    one_member : (m n : Element) → m ∈ s.issued → n ∈ s.issued → (page_write S F m).0 ≡ (page_write S F n).0 → S.kind (page_write S F m).0 ≢ FramePage → m ≡ n
    one_member (A_write x) n in_m in_n same other = absurd (other (sound.safe.frames x (sound.issued (A_write x) in_m).0))
    one_member m (A_write y) in_m in_n same other = absurd (other (ap S.kind same ∙ sound.safe.frames y (sound.issued (A_write y) in_n).0))
    one_member (A_superblock u) (A_superblock v) in_m in_n same other =
        let a = sound.issued (A_superblock u) in_m in
        let b = sound.issued (A_superblock v) in_n in
        let section = same_section (d.extents * d.pages) u.section v.section same in
        let version : u.version ≡ v.version = a.1 ∙ ap s.world.round.superblocks section ∙ sym b.1 in
        ap A_superblock (one_of SuperblockBefore (superblocks_of s.world.elements) u v sound.safe.superblocks_order a.0 b.0 (λ before. (let lt = before section in omega (arith, lt, version))) (λ before. (let lt = before (sym section) in omega (arith, lt, version))))
    one_member (A_superblock u) (A_root r) in_m in_n same other = absurd (root_no_section (d.extents * d.pages) u.section (sym same) some)
    one_member (A_root q) (A_superblock v) in_m in_n same other = absurd (root_no_section (d.extents * d.pages) v.section same some)
    one_member (A_root q) (A_root r) in_m in_n same other =
        let a = sound.issued (A_root q) in_m in
        let b = sound.issued (A_root r) in_n in
        let version : q.version ≡ r.version = a.1 ∙ sym b.1 in
        ap A_root (one_of RootBefore (roots_of s.world.elements) q r sound.safe.roots_order a.0 b.0 (λ (before : RootBefore q r). omega (arith, before, version)) (λ (before : RootBefore r q). omega (arith, before, version)))

    -- So each such page was written once.
    pub written_once : (i j : ℕ) (v w : ℕ × Page) → slice_get (page_writes S F s.issued) i ≡ Some v → slice_get (page_writes S F s.issued) j ≡ Some w → v.0 ≡ w.0 → S.kind v.0 ≢ FramePage → i ≡ j
    written_once i j v w at also same other =
        let m = written_at s.issued i v at in
        let n = written_at s.issued j w also in
        let page_m : (page_write S F m.0).0 ≡ v.0 = ap (λ (z : ℕ × Page). z.0) m.2 in
        let page_n : (page_write S F n.0).0 ≡ w.0 = ap (λ (z : ℕ × Page). z.0) n.2 in
        let one = one_member m.0 n.0 (member s.issued i m.0 m.1) (member s.issued j n.0 n.1) (page_m ∙ same ∙ sym page_n) (λ frame. other (ap S.kind (sym page_m) ∙ frame)) in
        one_at s.issued i j m.0 (distinct_second s.left s.issued sound.once) m.1 (subst (λ (e : Element). slice_get s.issued j ≡ Some e) (sym one) n.1)

    -- And no page after those of the sections.
    pub written_below : 1 ≤ d.sections → (i : ℕ) (v : ℕ × Page) → slice_get (page_writes S F s.issued) i ≡ Some v → v.0 ≤ d.extents * d.pages + d.sections
    written_below one i v at =
        let m = written_at s.issued i v at in
        subst (λ (z : ℕ × Page). z.0 ≤ d.extents * d.pages + d.sections) m.2 (low m.0 (member s.issued i m.0 m.1))
      where
        low : (m : Element) → m ∈ s.issued → (page_write S F m).0 ≤ d.extents * d.pages + d.sections
        low (A_write x) in_m = let lt = frame_low (d.extents * d.pages) x.page (sound.safe.frames x (sound.issued (A_write x) in_m).0) in omega (arith, lt, one)
        low (A_superblock u) in_m = let le = section_low (d.extents * d.pages) d.sections u.section (sound.safe.sections_there u (sound.issued (A_superblock u) in_m).0) in omega (arith, le)
        low (A_root r) in_m = omega (arith, one)

-- ---- as the device below has it

mapped : {A B : Type 0} (f : A → B) (xs : List A) (i : ℕ) (x : A) → slice_get xs i ≡ Some x → slice_get (map f xs) i ≡ Some (f x)
mapped f [] i x at = cc
mapped f (y ∷ xs) zero x at = ap (λ z. Some (f z)) (same_Some y x at)
mapped f (y ∷ xs) (suc i) x at = mapped f xs i x at

pair_kind : (frames p k : ℕ) → p ≡ (if nat_lt k 2 then k else frames + k)
    → (if p == 0 then SectionPage 0 else if p == 1 then RootPage else if nat_lt p (2 + frames) then FramePage else SectionPage (p - (1 + frames))) ≡ FramePage → ⊥
pair_kind frames p k is frame = by (p == 0) (p == 1) (nat_lt p (2 + frames)) refl refl refl frame
  where
    between : (p == 0) ≡ false → (p == 1) ≡ false → nat_lt p (2 + frames) ≡ true → ⊥
    between not_first not_second below = grind (arith, nat_tests)

    by : (a b c : Bool) → (p == 0) ≡ a → (p == 1) ≡ b → nat_lt p (2 + frames) ≡ c → (if a then SectionPage 0 else if b then RootPage else if c then FramePage else SectionPage (p - (1 + frames))) ≡ FramePage → ⊥
    by true b c first second third is = cc is
    by false true c first second third is = cc is
    by false false true first second third is = between first second third
    by false false false first second third is = cc is

-- no write waits on a page after those of the sections
abbrev pub LiesBelow : Dimensions → DiskState → Type 0
LiesBelow d disk = (i : ℕ) (w : Write) → slice_get disk.volatile i ≡ Some w → w.0 ≤ d.extents * d.pages + d.sections

pub core_below : (d : Dimensions) → IsGeometry d.format d.extents d.pages d.sections → twins_in d.format ≡ true → (s : State) → Sound (store_shape d) (formats_of (store_shape d)) s → (disk : DiskState)
    → disk.volatile ≡ page_writes (store_shape d) (formats_of (store_shape d)) s.issued → LiesBelow d disk
core_below d g twins s sound disk volatile i w at =
    written_below d (frames d g twins) s sound g.fewest_sections i w (subst (λ (l : List Write). slice_get l i ≡ Some w) volatile at)

module _ (d : Dimensions) (g : IsGeometry d.format d.extents d.pages d.sections) (twins : twins_in d.format ≡ true) (s : State) (sound : Sound (store_shape d) (formats_of (store_shape d)) s) (V : Versions) (disk : DiskState)
    (volatile : map (shown_write V (store_pairs d)) disk.volatile ≡ page_writes (store_shape d) (formats_of (store_shape d)) s.issued) where
  -- what shows of a write is one that the core issued
  issued_at : (i : ℕ) (w : Write) → slice_get disk.volatile i ≡ Some w → slice_get (page_writes (store_shape d) (formats_of (store_shape d)) s.issued) i ≡ Some (shown_write V (store_pairs d) w)
  issued_at i w at = subst (λ (l : List Write). slice_get l i ≡ Some (shown_write V (store_pairs d) w)) volatile (mapped (shown_write V (store_pairs d)) disk.volatile i w at)

  shows_half : (k : ℕ) (x : Pair) (w : Write) (twin : Bool) → slice_get (store_pairs d) k ≡ Some x → w.0 ≡ half x twin → shown_write V (store_pairs d) w ≡ shown_half V x w.1
  shows_half k x w twin at goes = shown_write-half V (store_pairs d) (pages_of d) (are_pairs d g twins) k x twin w at goes

  -- Each is whole, since none shows as one to a twin.
  pub core_whole : AreWhole V (store_pairs d) disk
  core_whole k i x w twin at at_i goes = ⊎_elim
      (λ (whole : 0 < V x.page w.1). whole)
      (λ (none : V x.page w.1 ≤ 0).
      let here = placed d g twins k x at in
      let some = frames d g twins in
      let total = total_pages d g twins in
      let shows = shows_half k x w twin at goes ∙ shown_half-none V x w.1 (omega (arith, none)) in
      let number : (shown_write V (store_pairs d) w).0 ≡ x.twin = ap (λ (z : Write). z.0) shows in
      let place : pages_of d - (1 + k) ≡ x.twin = ap (λ (y : Pair). y.twin) here.1 in
      let below = written_below d some s sound g.fewest_sections i (shown_write V (store_pairs d) w) (issued_at i w at_i) in
      absurd (omega (arith, number, place, below, total, here.0)))
      (cases_lt 0 (V x.page w.1))

  -- And each pair is written once.
  pub core_once : AreWrittenOnce (store_pairs d) disk
  core_once k i j x v w b c at at_i at_j goes also =
      let here = placed d g twins k x at in
      let some = frames d g twins in
      let one = shows_half k x v b at goes ∙ shown_half-whole V x v.1 (core_whole k i x v b at at_i goes) in
      let two = shows_half k x w c at also ∙ shown_half-whole V x w.1 (core_whole k j x w c at at_j also) in
      let first : (shown_write V (store_pairs d) v).0 ≡ x.page = ap (λ (z : Write). z.0) one in
      let second : (shown_write V (store_pairs d) w).0 ≡ x.page = ap (λ (z : Write). z.0) two in
      let place : x.page ≡ (store_pair d k).page = ap (λ (y : Pair). y.page) (sym here.1) in
      written_once d some s sound i j (shown_write V (store_pairs d) v) (shown_write V (store_pairs d) w) (issued_at i v at_i) (issued_at j w at_j) (first ∙ sym second)
      (λ frame. pair_kind (d.extents * d.pages) (shown_write V (store_pairs d) v).0 k (first ∙ place) frame)
