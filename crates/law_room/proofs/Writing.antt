-- A put finds its extents.
use Rattle.std.proofs.Common.{◌≡◌, ◌≢◌, ◌⊎◌, inl, inr, ⊎_elim, ℕ, suc, ◌+◌, ◌<◌, ◌≤◌, List, [], ◌∷◌, ◌++◌, length, Option, Some, None, le_refl, le_trans, refl, sym, ap, ◌∙◌, subst, arith}
use Rattle.std.specs.Prelude.{sum}
use Rattle.std.proofs.lemmas.Bool.{cases_Bool, cases_eq, cases_lt, true≢false}
use Rattle.std.proofs.lemmas.List.Sums.{sum_by-cons}
use Rattle.law_machine.specs.Device.{Shape}
use Rattle.law_machine.specs.Index.{joined}
use Rattle.law_machine.specs.Lists.{◌∈◌}
use Rattle.law_room.specs.Events.{Does, GoesForPut, LeftAlone, OpenIsFull, Put, TakesPut, Writes, dropped, given, with_chunk}
use Rattle.law_room.specs.Invariant.{Keeps}
use Rattle.law_room.specs.Rooms.{Holding, OfChunks, Room, Sweep, chunk_extents, is_of_chunks, run_extents}
use Rattle.law_room.specs.Sweeps.{FillsAtMost}
use Rattle.law_room.proofs.Gaining.{some_sweep}
use Rattle.law_room.proofs.Counts.{chunks_is, count_le, count_more, empty_there, find_below}
use Rattle.law_room.proofs.Given.{empty_alone, write_all, Orderly, drop_one, holds_here, holds_there, orderly, pointer_here, put_one}

pub sum_is : (k : ℕ) (ks : List ℕ) → sum (k ∷ ks) ≡ k + sum ks
sum_is k ks = sum_by-cons (λ (x : ℕ). x) k ks

module _ (S : Shape) (J : ℕ) where
  -- a frame more takes at most one extent more
  pub one_write : (s : Room) (id k e : ℕ)
      → chunk_extents (with_chunk S s id k e) S.extents ≤ suc (chunk_extents s S.extents)
  one_write s id k e = count_more (λ d. is_of_chunks ((given s e k OfChunks).holds d)) (λ d. is_of_chunks (s.holds d)) e
      S.extents (λ d lt on. elim (cases_eq d e) [
        | inl same ↦ inr same
        | inr other ↦ inl (ap (λ (h : Holding). is_of_chunks h) (sym (holds_there s e k OfChunks d other)) ∙ on)
      ])

  -- and none where it goes behind chunks
  pub same_write : (s : Room) (id k e : ℕ) → s.holds e ≡ OfChunks
      → chunk_extents (with_chunk S s id k e) S.extents ≤ chunk_extents s S.extents
  same_write s id k e is = count_le (λ d. is_of_chunks ((given s e k OfChunks).holds d)) (λ d. is_of_chunks (s.holds d))
      S.extents (λ d lt on. elim (cases_eq d e) [
        | inl same ↦ ap (λ (h : Holding). is_of_chunks h) (ap s.holds same ∙ is)
        | inr other ↦ ap (λ (h : Holding). is_of_chunks h) (sym (holds_there s e k OfChunks d other)) ∙ on
      ])

  some_number : (a b : ℕ) → Some a ≡ Some b → a ≡ b
  some_number a b same = cc

  -- the last frame of a put went to e, and these fit behind it
  record GoesOn (s : Room) (e : ℕ) (ks : List ℕ) : Type 0 where
    open_there : s.open_extent ≡ Some e
    there : e < S.extents
    chunks : s.holds e ≡ OfChunks
    alone : LeftAlone S s.sweep e
    fits : s.pointer e + sum ks ≤ S.pages

  goes_next : (s : Room) (id e k : ℕ) (ks : List ℕ) → e < S.extents → LeftAlone S s.sweep e
      → s.pointer e + (k + sum ks) ≤ S.pages → GoesOn (with_chunk S s id k e) e ks
  goes_next s id e k ks there alone fits = record {
    open_there = refl;
    there = there;
    chunks = holds_here s e k OfChunks;
    alone = alone;
    fits = rw (pointer_here s e k OfChunks) (omega (arith, fits));
  }

  takes_next : (s : Room) (e k : ℕ) (ks : List ℕ) → GoesOn s e (k ∷ ks) → TakesPut S s k e
  takes_next s e k ks on = let all : sum (k ∷ ks) ≡ k + sum ks = sum_is k ks in
      let fits : s.pointer e + sum (k ∷ ks) ≤ S.pages = on.fits in ((on.there, on.chunks, omega arith), on.alone)

  rest_fits : (s : Room) (e k : ℕ) (ks : List ℕ) → GoesOn s e (k ∷ ks) → s.pointer e + (k + sum ks) ≤ S.pages
  rest_fits s e k ks on = let all : sum (k ∷ ks) ≡ k + sum ks = sum_is k ks in
      let fits : s.pointer e + sum (k ∷ ks) ≤ S.pages = on.fits in omega arith

  -- the next goes there, and nowhere else
  goes_there : (s : Room) (e k d : ℕ) (ks : List ℕ) → GoesOn s e (k ∷ ks) → GoesForPut S s k d → d ≡ e
  goes_there s e k d ks on (inl last) = some_number d e (sym last.0 ∙ on.open_there)
  goes_there s e k d ks on (inr (inl other)) = absurd (other.0 e on.open_there (takes_next s e k ks on))
  goes_there s e k d ks on (inr (inr empty)) = absurd (empty.0 e on.open_there (takes_next s e k ks on))

  -- so no extent more holds chunks
  rest_behind : (ks : List ℕ) (s : Room) (id e : ℕ) (t : Room) → GoesOn s e ks → Writes S s id ks t
      → chunk_extents t S.extents ≤ chunk_extents s S.extents
  rest_behind [] s id e t on is = rw is (le_refl _)
  rest_behind (k ∷ ks) s id e t on writes =
      let same : writes.0 ≡ e = goes_there s e k writes.0 ks on writes.1 in
      let more : chunk_extents t S.extents ≤ chunk_extents (with_chunk S s id k e) S.extents = rest_behind ks
      (with_chunk S s id k e) id e t (goes_next s id e k ks on.there on.alone (rest_fits s e k ks on))
      (subst (λ (d : ℕ). Writes S (with_chunk S s id k d) id ks t) same writes.2) in
      le_trans more (same_write s id k e on.chunks)

  behind_step : (s t : Room) (id k e : ℕ) → s.holds e ≡ OfChunks
      → chunk_extents t S.extents ≤ suc (chunk_extents (with_chunk S s id k e) S.extents)
      → chunk_extents t S.extents ≤ suc (chunk_extents s S.extents)
  behind_step s t id k e is rest = let same : chunk_extents (with_chunk S s id k e) S.extents
      ≤ chunk_extents s S.extents = same_write s id k e is in omega arith

  part_step : (s t : Room) (id k e : ℕ) (ks : List ℕ) → Orderly S J s → k + sum ks ≤ S.pages → GoesForPut S s k e
      → Writes S (with_chunk S s id k e) id ks t
      → chunk_extents t S.extents ≤ suc (chunk_extents (with_chunk S s id k e) S.extents)
      → chunk_extents t S.extents ≤ suc (chunk_extents s S.extents)
  part_step s t id k e ks keeps fits (inl on) writes rest = behind_step s t id k e on.1.0.1 rest
  part_step s t id k e ks keeps fits (inr (inl behind)) writes rest = behind_step s t id k e behind.1.0.1 rest
  part_step s t id k e ks keeps fits (inr (inr empty)) writes rest =
      let none : s.pointer e ≡ 0 = keeps.lies.empty e empty.1.1 in
      let more : chunk_extents t S.extents ≤ chunk_extents (with_chunk S s id k e) S.extents = rest_behind ks
      (with_chunk S s id k e) id e t
      (goes_next s id e k ks empty.1.0 (empty_alone S J s e keeps empty.1.1) (omega arith)) writes in
      le_trans more (one_write s id k e)

  -- frames that fill at most one extent take at most one extent more
  part_takes : (ks : List ℕ) (s : Room) (id : ℕ) (t : Room) → Orderly S J s → sum ks ≤ S.pages → Writes S s id ks t
      → chunk_extents t S.extents ≤ suc (chunk_extents s S.extents)
  part_takes [] s id t keeps fits is = rw is (omega arith)
  part_takes (k ∷ ks) s id t keeps fits writes =
      let all : sum (k ∷ ks) ≡ k + sum ks = sum_is k ks in
      part_step s t id k writes.0 ks keeps (omega arith) writes.1 writes.2
      (part_takes ks (with_chunk S s id k writes.0) id t (put_one S J s id k writes.0 keeps writes.1) (omega arith)
      writes.2)

  writes_append : (xs ys : List ℕ) (s m t : Room) (id : ℕ) → Writes S s id xs m → Writes S m id ys t
      → Writes S s id (xs ++ ys) t
  writes_append [] ys s m t id is more = subst (λ (x : Room). Writes S x id ys t) is more
  writes_append (x ∷ xs) ys s m t id writes more =
      (writes.0, writes.1, writes_append xs ys (with_chunk S s id x writes.0) m t id writes.2 more)

  writes_split : (xs ys : List ℕ) (s t : Room) (id : ℕ) → Writes S s id (xs ++ ys) t
      → (m : Room) × Writes S s id xs m × Writes S m id ys t
  writes_split [] ys s t id writes = (s, refl, writes)
  writes_split (x ∷ xs) ys s t id writes =
      let rest = writes_split xs ys (with_chunk S s id x writes.0) t id writes.2 in
      (rest.0, (writes.0, writes.1, rest.1), rest.2)

  parts_take : (parts : List (List ℕ)) (s : Room) (id : ℕ) (t : Room) → Orderly S J s
      → ((part : List ℕ) → part ∈ parts → sum part ≤ S.pages) → Writes S s id (joined parts) t
      → chunk_extents t S.extents ≤ chunk_extents s S.extents + length parts
  parts_take [] s id t keeps fits is = rw is (omega arith)
  parts_take (part ∷ parts) s id t keeps fits writes =
      let two = writes_split part (joined parts) s t id writes in
      let one : chunk_extents two.0 S.extents ≤ suc (chunk_extents s S.extents) = part_takes part s id two.0 keeps
      (fits part (inl refl)) two.1 in
      let rest : chunk_extents t S.extents ≤ chunk_extents two.0 S.extents + length parts = parts_take parts two.0 id t
      (write_all S J s id part two.0 keeps two.1).0 (λ p got. fits p (inr got)) two.2 in omega arith

  -- however the frames of a put go, it keeps the quota
  pub wherever : (n : ℕ) (s t : Room) (id : ℕ) (sizes : List ℕ) → Keeps S J s
      → chunk_extents s S.extents + n + J + 2 ≤ S.extents → FillsAtMost S.pages n sizes
      → Writes S (dropped s id) id sizes t → Does S J s (Put id sizes) t
  wherever n s t id sizes keeps left parts writes =
      let few : length parts.0 ≤ n = parts.2 in
      let all : chunk_extents t S.extents ≤ chunk_extents (dropped s id) S.extents + length parts.0 = parts_take parts.0
      (dropped s id) id t (drop_one S J s id (orderly S J s keeps)) parts.3
      (subst (λ (x : List ℕ). Writes S (dropped s id) id x t) (sym parts.1) writes) in (writes, omega arith)

  -- where a frame goes
  pub some_or_not : (o : Option ℕ) (e : ℕ) → (o ≡ Some e) ⊎ (o ≡ Some e → ⊥)
  some_or_not None e = inr (λ is. let wrong : None ≡ Some e = is in cc)
  some_or_not (Some d) e = elim (cases_eq d e) [
    | inl same ↦ inl (ap (λ (x : ℕ). Some x) same)
    | inr other ↦ inr (λ is. other (some_number d e is))
  ]

  alone_or_not : (o : Option Sweep) (e : ℕ) → LeftAlone S o e ⊎ (LeftAlone S o e → ⊥)
  alone_or_not None e = inl (λ w is. absurd (let wrong : None ≡ Some w = is in cc))
  alone_or_not (Some v) e = elim (cases_eq v.extent e) [
    | inl swept ↦ inr (λ alone. (alone v refl).0 swept)
    | inr apart ↦ ⊎_elim
        (λ fresh. inr (λ alone. (alone v refl).1 fresh))
        (λ other. inl (λ w is. subst (λ (x : Sweep). (x.extent ≢ e) × (x.fresh ≢ Some e)) (some_sweep v w is)
        (apart, other)))
        (some_or_not v.fresh e)
  ]

  pub takes_or_not : (s : Room) (k e : ℕ) → TakesPut S s k e ⊎ (TakesPut S s k e → ⊥)
  takes_or_not s k e = elim (cases_lt e S.extents) [
    | inr out ↦ inr (λ takes. let lt : e < S.extents = takes.0.0 in omega arith)
    | inl lt ↦ elim (cases_Bool (is_of_chunks (s.holds e))) [
      | inr off ↦ inr (λ takes. true≢false (sym (ap (λ (h : Holding). is_of_chunks h) takes.0.1) ∙ off))
      | inl on ↦ elim (cases_lt S.pages (s.pointer e + k)) [
        | inl over ↦ inr (λ takes. let fits : s.pointer e + k ≤ S.pages = takes.0.2 in omega arith)
        | inr fits ↦ ⊎_elim (λ alone. inl ((lt, chunks_is (s.holds e) on, fits), alone))
            (λ busy. inr (λ takes. busy takes.1)) (alone_or_not s.sweep e)
      ]
    ]
  ]

  open_or_not : (s : Room) (k : ℕ) (o : Option ℕ) → s.open_extent ≡ o
      → ((e : ℕ) × (s.open_extent ≡ Some e) × TakesPut S s k e) ⊎ OpenIsFull S s k
  open_or_not s k None is = inr (λ e at takes. let wrong : None ≡ Some e = sym is ∙ at in cc)
  open_or_not s k (Some d) is = ⊎_elim (λ takes. inl (d, is, takes))
      (λ (full : TakesPut S s k d → ⊥). inr (λ e at takes. full
      (subst (λ (x : ℕ). TakesPut S s k x) (sym (some_number d e (sym is ∙ at))) takes)))
      (takes_or_not s k d)

  -- it goes behind chunks, or it fits behind none
  pub put_behind : (s : Room) (k : ℕ)
      → ((e : ℕ) × GoesForPut S s k e × (s.holds e ≡ OfChunks)) ⊎ ((e : ℕ) → TakesPut S s k e → ⊥)
  put_behind s k = ⊎_elim
      (λ takes. inl (takes.0, inl (takes.1, takes.2), takes.2.0.1))
      (λ full. ⊎_elim
      (λ found. inl (found.0, inr (inl (full, found.2)), found.2.0.1))
      (λ (none : (e : ℕ) → e < S.extents → TakesPut S s k e → ⊥). inr (λ e takes. none e takes.0.0 takes))
      (find_below (TakesPut S s k) (takes_or_not s k) S.extents))
      (open_or_not s k s.open_extent refl)

  -- then it goes to an empty extent
  pub put_empty : (s : Room) (k : ℕ) → Orderly S J s → chunk_extents s S.extents + J < S.extents → k ≤ S.pages
      → ((e : ℕ) → TakesPut S s k e → ⊥) → (e : ℕ) × GoesForPut S s k e
  put_empty s k keeps left fits none = let runs : run_extents s S.extents ≤ J = keeps.runs in
      let empty = empty_there s.holds S.extents (omega arith) in
      (empty.0, inr (inr ((λ e is takes. none e takes), (empty.1, empty.2, fits), (λ filled e takes. none e takes))))

  put_goes : (s : Room) (k : ℕ) → Orderly S J s → chunk_extents s S.extents + J < S.extents → k ≤ S.pages
      → (e : ℕ) × GoesForPut S s k e
  put_goes s k keeps left fits = ⊎_elim
      (λ behind. (behind.0, behind.1))
      (λ none. put_empty s k keeps left fits none)
      (put_behind s k)

  rest_there : (ks : List ℕ) (s : Room) (id e : ℕ) → GoesOn s e ks → (t : Room) × Writes S s id ks t
  rest_there [] s id e on = (s, refl)
  rest_there (k ∷ ks) s id e on =
      let rest = rest_there ks (with_chunk S s id k e) id e
      (goes_next s id e k ks on.there on.alone (rest_fits s e k ks on)) in
      (rest.0, (e, inl (on.open_there, takes_next s e k ks on), rest.1))

  part_there : (ks : List ℕ) (s : Room) (id : ℕ) → Orderly S J s → chunk_extents s S.extents + J < S.extents
      → sum ks ≤ S.pages → (t : Room) × Writes S s id ks t
  part_there [] s id keeps left fits = (s, refl)
  part_there (k ∷ ks) s id keeps left fits =
      let all : sum (k ∷ ks) ≡ k + sum ks = sum_is k ks in
      let place = put_goes s k keeps left (omega arith) in
      let rest = next_there s id k place.0 ks keeps (omega arith) place.1
      (λ few. part_there ks (with_chunk S s id k place.0) id (put_one S J s id k place.0 keeps place.1)
      (omega (arith, few, left)) (omega arith)) in
      (rest.0, (place.0, place.1, rest.1))
    where
      next_there : (s : Room) (id k e : ℕ) (ks : List ℕ) → Orderly S J s → k + sum ks ≤ S.pages → GoesForPut S s k e
          → (chunk_extents (with_chunk S s id k e) S.extents ≤ chunk_extents s S.extents
          → (t : Room) × Writes S (with_chunk S s id k e) id ks t)
          → (t : Room) × Writes S (with_chunk S s id k e) id ks t
      next_there s id k e ks keeps fits (inl on) more = more (same_write s id k e on.1.0.1)
      next_there s id k e ks keeps fits (inr (inl behind)) more = more (same_write s id k e behind.1.0.1)
      next_there s id k e ks keeps fits (inr (inr empty)) more =
          let none : s.pointer e ≡ 0 = keeps.lies.empty e empty.1.1 in
          rest_there ks (with_chunk S s id k e) id e
          (goes_next s id e k ks empty.1.0 (empty_alone S J s e keeps empty.1.1) (omega arith))

  parts_there : (parts : List (List ℕ)) (s : Room) (id : ℕ) → Orderly S J s
      → chunk_extents s S.extents + length parts + J + 2 ≤ S.extents
      → ((part : List ℕ) → part ∈ parts → sum part ≤ S.pages) → (t : Room) × Writes S s id (joined parts) t
  parts_there [] s id keeps left fits = (s, refl)
  parts_there (part ∷ parts) s id keeps left fits =
      let first = part_there part s id keeps (omega arith) (fits part (inl refl)) in
      let one : chunk_extents first.0 S.extents ≤ suc (chunk_extents s S.extents) = part_takes part s id first.0 keeps
      (fits part (inl refl)) first.1 in
      let rest = parts_there parts first.0 id (write_all S J s id part first.0 keeps first.1).0 (omega arith)
      (λ p got. fits p (inr got)) in
      (rest.0, writes_append part (joined parts) s first.0 rest.0 id first.1 rest.1)

  pub fills : (n : ℕ) (s : Room) (id : ℕ) (sizes : List ℕ) → Keeps S J s
      → chunk_extents s S.extents + n + J + 2 ≤ S.extents → FillsAtMost S.pages n sizes
      → (t : Room) × Does S J s (Put id sizes) t
  fills n s id sizes keeps left parts =
      let few : length parts.0 ≤ n = parts.2 in
      let all = parts_there parts.0 (dropped s id) id (drop_one S J s id (orderly S J s keeps)) (omega arith) parts.3 in (
        all.0,
        wherever n s all.0 id sizes keeps left parts
            (subst (λ (x : List ℕ). Writes S (dropped s id) id x all.0) parts.1 all.1),
      )
