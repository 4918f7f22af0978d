-- No sweep leaves more dead pages than were there.
use Rattle.std.proofs.Common.{◌≡◌, ◌≢◌, ◌⊎◌, inl, inr, ⊎_elim, ℕ, ◌+◌, ◌-◌, ◌<◌, ◌≤◌, ◌==◌, true, false, nat_lt, List, [], ◌∷◌, map, Option, Some, None, if◌then◌else◌, true≢false, refl, sym, ap, ◌∙◌, subst, arith}
use Rattle.std.proofs.lemmas.Bool.{cases_Bool, cases_eq, ne_eqb}
use Rattle.std.proofs.lemmas.Bool.Decides.{nat_tests}
use Rattle.law_machine.specs.Device.{Shape}
use Rattle.law_machine.specs.Lists.{◌∈◌}
use Rattle.law_room.specs.Brim.{all_dead, dead_extents, dead_pages}
use Rattle.law_room.specs.Events.{GoesForCopy, settle, with_copy}
use Rattle.law_room.specs.Invariant.{Keeps, SweepsRight}
use Rattle.law_room.specs.Rooms.{Chunk, Empty, Holding, OfChunks, Room, Sweep, any_on, copied_pages, is_of_chunks, live_pages}
use Rattle.law_room.specs.Sweeps.{IsSwept}
use Rattle.law_room.proofs.Chunks.{in_middle}
use Rattle.law_room.proofs.Counts.{chunks_is, count_le, count_less}
use Rattle.law_room.proofs.Gaining.{IsKept, IsSweptWith, noted, swept_with}
use Rattle.law_room.proofs.Given.{holds_there, pointer_here, pointer_there}
use Rattle.law_room.proofs.Moving.{IsCopied, copied_to, moved_here, moved_live, moved_there}
use Rattle.law_room.proofs.Syncing.{IsRested}
use Rattle.law_room.proofs.Weights.{sum_less}

-- what is dead of p pages on which l live
abbrev pub dead_of : Holding → (p l : ℕ) → ℕ
dead_of h p l = if is_of_chunks h then p - l else 0

dead_chunks : (h : Holding) (p l : ℕ) → h ≡ OfChunks → dead_of h p l ≡ p - l
dead_chunks h p l is = rw is refl

dead_others : (h : Holding) (p l : ℕ) → is_of_chunks h ≡ false → dead_of h p l ≡ 0
dead_others h p l off = rw off refl

-- an extent of chunks has no more pages than live and are dead
pub dead_rest : (s : Room) (e : ℕ) → s.holds e ≡ OfChunks → s.pointer e ≤ live_pages s.chunks e + dead_pages s e
dead_rest s e is = let all : dead_pages s e ≡ s.pointer e - live_pages s.chunks e =
    dead_chunks (s.holds e) (s.pointer e) (live_pages s.chunks e) is in omega arith

pub dead_at_most : (s : Room) (e n : ℕ) → (s.holds e ≡ OfChunks → s.pointer e ≤ live_pages s.chunks e + n)
    → dead_pages s e ≤ n
dead_at_most s e n small = elim (cases_Bool (is_of_chunks (s.holds e))) [
  | inl on ↦ (let all : dead_pages s e ≡ s.pointer e - live_pages s.chunks e =
      dead_chunks (s.holds e) (s.pointer e) (live_pages s.chunks e) (chunks_is (s.holds e) on) in
      let few : s.pointer e ≤ live_pages s.chunks e + n = small (chunks_is (s.holds e) on) in omega arith)
  | inr off ↦ (let none : dead_pages s e ≡ 0 = dead_others (s.holds e) (s.pointer e) (live_pages s.chunks e) off in omega arith)
]

-- what has a dead page is an extent of chunks
pub dead_holds : (s : Room) (e : ℕ) → 0 < dead_pages s e → s.holds e ≡ OfChunks
dead_holds s e some = elim (cases_Bool (is_of_chunks (s.holds e))) [
  | inl on ↦ chunks_is (s.holds e) on
  | inr off ↦ absurd (let none : dead_pages s e ≡ 0 =
      dead_others (s.holds e) (s.pointer e) (live_pages s.chunks e) off in omega arith)
]

-- chunks that have copies lie on x, so elsewhere all that was copied lives
settle_whole : (cs : List Chunk) (x e : ℕ) → e ≢ x → ((c : Chunk) (d : ℕ) → c ∈ cs → c.copy ≡ Some d → c.extent ≡ x)
    → live_pages cs e + copied_pages cs e ≤ live_pages (map settle cs) e
settle_whole [] x e other from = omega arith
settle_whole (c ∷ cs) x e other from = step c.copy refl
    (settle_whole cs x e other (λ b d has_it. from b d (inr has_it)))
  where
    step : (o : Option ℕ) → c.copy ≡ o → live_pages cs e + copied_pages cs e ≤ live_pages (map settle cs) e
        → live_pages (c ∷ cs) e + copied_pages (c ∷ cs) e ≤ live_pages (map settle (c ∷ cs)) e
    step None is rest = rw is (omega (arith, rest))
    step (Some d) is rest =
        let off : (c.extent == e) ≡ false = ne_eqb c.extent e (λ same. other (sym same ∙ from c d (inl refl) is)) in
        rw is (rw off (omega (arith, rest)))

module _ (S : Shape) (J : ℕ) where
  -- chunks that have copies lie on the swept extent; and of each extent of chunks all that is given lives, is a copy, or was dead
  record DeadStays (was : Room) (s : Room) (w : Sweep) : Type 0 where
    copies : (c : Chunk) (d : ℕ) → c ∈ s.chunks → c.copy ≡ Some d → c.extent ≡ w.extent
    all : (e : ℕ) → s.holds e ≡ OfChunks
        → s.pointer e ≤ live_pages s.chunks e + copied_pages s.chunks e + dead_pages was e

  copy_was : (s : Room) (w : Sweep) (k e : ℕ) (fresh : Option ℕ) → GoesForCopy S s w k e fresh
      → (s.holds e ≡ OfChunks) ⊎ (s.holds e ≡ Empty)
  copy_was s w k e fresh (inl last) = inl last.1.0.1
  copy_was s w k e fresh (inr (inl other)) = inl other.1.0.1
  copy_was s w k e fresh (inr (inr empty)) = inr empty.1.1

  module _ (was s : Room) (w : Sweep) (before : List Chunk) (c : Chunk) (behind : List Chunk) (e : ℕ) (fresh : Option ℕ)
      (keeps : Keeps S J s) (is : s.sweep ≡ Some w) (copied : IsCopied S s w before c behind e fresh) (old : DeadStays was s w) where
    abbrev t : Room
    t = with_copy S s w before c behind e fresh

    stays_here : t.pointer e ≤ live_pages t.chunks e + copied_pages t.chunks e + dead_pages was e
    stays_here =
        let pointer : t.pointer e ≡ s.pointer e + c.pages = pointer_here s e c.pages OfChunks in
        let live : live_pages t.chunks e ≡ live_pages s.chunks e = moved_live S J s w before c behind e fresh keeps is copied e in
        let copies : copied_pages t.chunks e ≡ c.pages + copied_pages s.chunks e =
        moved_here S J s w before c behind e fresh keeps is copied in
        ⊎_elim
        (λ (chunks : s.holds e ≡ OfChunks). (let earlier : s.pointer e
        ≤ live_pages s.chunks e + copied_pages s.chunks e + dead_pages was e = old.all e chunks in omega arith))
        (λ (empty : s.holds e ≡ Empty). (let none : s.pointer e ≡ 0 = keeps.lies.empty e empty in omega arith))
        (copy_was s w c.pages e fresh copied.goes)

    stays_there : (d : ℕ) → d ≢ e → t.holds d ≡ OfChunks
        → t.pointer d ≤ live_pages t.chunks d + copied_pages t.chunks d + dead_pages was d
    stays_there d other there =
        let pointer : t.pointer d ≡ s.pointer d = pointer_there s e c.pages OfChunks d other in
        let live : live_pages t.chunks d ≡ live_pages s.chunks d = moved_live S J s w before c behind e fresh keeps is copied d in
        let copies : copied_pages t.chunks d ≡ copied_pages s.chunks d =
        moved_there S J s w before c behind e fresh keeps is copied d other in
        let earlier : s.pointer d ≤ live_pages s.chunks d + copied_pages s.chunks d + dead_pages was d =
        old.all d (sym (holds_there s e c.pages OfChunks d other) ∙ there) in omega arith

    stays_after : DeadStays was t (noted w e fresh)
    stays_after = record {
      copies = λ b d has_it at. ⊎_elim
          (λ here. ap (λ (y : Chunk). y.extent) here ∙ copied.left.0)
          (λ more. old.copies b d (subst (λ (cs : List Chunk). b ∈ cs) (sym copied.chunks) more) at)
          (in_middle before behind (copied_to c e) b c has_it);
      all = λ d there. elim (cases_eq d e) [
        | inl same ↦ subst (λ (n : ℕ). t.pointer n
            ≤ live_pages t.chunks n + copied_pages t.chunks n + dead_pages was n) (sym same) stays_here
        | inr other ↦ stays_there d other there
      ];
    }

  dead_stays : (was : Room) → IsKept S J (DeadStays was)
  dead_stays was s w before c behind e fresh keeps is copied old = stays_after was s w before c behind e fresh keeps is copied old

  no_copies : (s : Room) → Keeps S J s → s.sweep ≡ None → (c : Chunk) (d : ℕ) → c ∈ s.chunks → c.copy ≡ Some d → ⊥
  no_copies s keeps is c d has_it at = let none : SweepsRight S J s None =
      subst (λ (o : Option Sweep). SweepsRight S J s o) is keeps.sweeps in
      let wrong : None ≡ Some d = sym (none c has_it) ∙ at in cc

  swept_dead : (s t : Room) (x : ℕ) → 1 ≤ J → Keeps S J s → IsSwept S J s x t → IsSweptWith S J (DeadStays s) s x t
  swept_dead s t x some keeps swept = swept_with S J (DeadStays s) (dead_stays s) s t x some keeps (record {
    copies = λ c d has_it at. absurd (no_copies s keeps swept.begins.0 c d has_it at);
    all = λ e is. (let all : s.pointer e ≤ live_pages s.chunks e + dead_pages s e = dead_rest s e is in omega arith);
  }) swept

  module _ (s t : Room) (x : ℕ) (some : 1 ≤ J) (keeps : Keeps S J s) (swept : IsSwept S J s x t) where
    whole : IsSweptWith S J (DeadStays s) s x t
    whole = swept_dead s t x some keeps swept

    -- the swept extent holds no chunks then
    other_than_swept : (e : ℕ) → t.holds e ≡ OfChunks → e ≢ x
    other_than_swept e is same = true≢false (sym (whole.staged.named refl e is)
        ∙ ap (any_on (map settle whole.moved.chunks)) same ∙ whole.nothing)

    pub dead_each : (e : ℕ) → dead_pages t e ≤ dead_pages s e
    dead_each e = dead_at_most t e (dead_pages s e) (λ is.
        let was : whole.moved.holds e ≡ OfChunks = whole.staged.only e is in
        let all : whole.moved.pointer e
        ≤ live_pages whole.moved.chunks e + copied_pages whole.moved.chunks e + dead_pages s e =
        whole.moves.kept.0.all e was in
        let lives : live_pages whole.moved.chunks e + copied_pages whole.moved.chunks e
        ≤ live_pages (map settle whole.moved.chunks) e = settle_whole whole.moved.chunks x e (other_than_swept e is)
        (λ c d has_it at. whole.moves.kept.0.copies c d has_it at ∙ whole.moves.extent) in
        let same : live_pages t.chunks e ≡ live_pages (map settle whole.moved.chunks) e =
        ap (λ (cs : List Chunk). live_pages cs e) whole.staged.chunks in
        ⊎_elim
        (λ kept. let pointer : t.pointer e ≡ whole.moved.pointer e = kept.1 in omega arith)
        (λ gone. absurd (gone is))
        (whole.staged.kept e was))

    pub dead_swept : dead_pages t x ≡ 0
    dead_swept = let none : dead_pages t x ≤ 0 = dead_at_most t x 0 (λ is. absurd (other_than_swept x is refl)) in omega arith

    inside : x < S.extents
    inside = swept.begins.1

    pub dead_all : all_dead t S.extents + dead_pages s x ≤ all_dead s S.extents
    dead_all = sum_less (dead_pages t) (dead_pages s) x S.extents inside (λ e lt. dead_each e) dead_swept

    dead_still : (e : ℕ) → nat_lt 0 (dead_pages t e) ≡ true → nat_lt 0 (dead_pages s e) ≡ true
    dead_still e on = let less : dead_pages t e ≤ dead_pages s e = dead_each e in some_more (dead_pages t e) (dead_pages s e) less on
      where
        some_more : (a b : ℕ) → a ≤ b → nat_lt 0 a ≡ true → nat_lt 0 b ≡ true
        some_more a b le is = grind (arith, nat_tests)

    pub dead_few : dead_extents t S.extents ≤ dead_extents s S.extents
    dead_few = count_le (λ e. nat_lt 0 (dead_pages t e)) (λ e. nat_lt 0 (dead_pages s e)) S.extents
        (λ e lt on. dead_still e on)

    pub dead_fewer : 0 < dead_pages s x → dead_extents t S.extents < dead_extents s S.extents
    dead_fewer one = count_less (λ e. nat_lt 0 (dead_pages t e)) (λ e. nat_lt 0 (dead_pages s e)) x S.extents inside
        (ap (nat_lt 0) dead_swept) (some_is (dead_pages s x) one) (λ e lt on. dead_still e on)
      where
        some_is : (n : ℕ) → 0 < n → nat_lt 0 n ≡ true
        some_is n is = grind (arith, nat_tests)

  -- syncs leave no more either
  pub dead_rested : (s t : Room) → IsRested S J s t → (e : ℕ) → dead_pages t e ≤ dead_pages s e
  dead_rested s t rested e = dead_at_most t e (dead_pages s e) (λ is.
      let was : s.holds e ≡ OfChunks = rested.only e is in
      let all : s.pointer e ≤ live_pages s.chunks e + dead_pages s e = dead_rest s e was in
      let same : live_pages t.chunks e ≡ live_pages s.chunks e = ap (λ (cs : List Chunk). live_pages cs e) rested.chunks in
      ⊎_elim
      (λ kept. let pointer : t.pointer e ≡ s.pointer e = kept.1 in omega arith)
      (λ gone. absurd (gone is))
      (rested.kept e was))

  -- and an extent that still holds chunks has those that it had
  pub dead_kept : (s t : Room) → IsRested S J s t → (e : ℕ) → t.holds e ≡ OfChunks → dead_pages t e ≡ dead_pages s e
  dead_kept s t rested e is =
      let was : s.holds e ≡ OfChunks = rested.only e is in
      ⊎_elim
      (λ kept. dead_chunks (t.holds e) (t.pointer e) (live_pages t.chunks e) is
      ∙ ap (λ (n : ℕ). n - live_pages t.chunks e) kept.1
      ∙ ap (λ (cs : List Chunk). s.pointer e - live_pages cs e) rested.chunks
      ∙ sym (dead_chunks (s.holds e) (s.pointer e) (live_pages s.chunks e) was))
      (λ gone. absurd (gone is))
      (rested.kept e was)
