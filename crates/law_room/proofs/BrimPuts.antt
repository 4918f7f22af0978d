-- Where nothing is dead, a put finds room up to the brim.
use Rattle.std.proofs.Common.{◌≡◌, inl, inr, ⊎_elim, ℕ, suc, ◌+◌, ◌-◌, ◌*◌, ◌<◌, ◌≤◌, Bool, true, false, List, [], ◌∷◌, Some, None, if◌then◌else◌, refl, sym, ap, ◌∙◌, subst, arith}
use Rattle.std.specs.Prelude.{sum}
use Rattle.std.proofs.lemmas.Bool.{cases_lt}
use Rattle.law_machine.specs.Device.{Shape}
use Rattle.law_machine.specs.Lists.{◌∈◌}
use Rattle.law_room.specs.Brim.{FitBeside, NothingDead, all_dead, dead_pages, sum_to}
use Rattle.law_room.specs.Events.{Does, GoesForPut, Put, TakesPut, Writes, dropped, with_chunk}
use Rattle.law_room.specs.Invariant.{Keeps}
use Rattle.law_room.specs.Rooms.{Holding, OfChunks, Room, all_pages, chunk_extents, is_of_chunks, live_pages, opened_by}
use Rattle.law_room.proofs.Counts.{chunks_is}
use Rattle.law_room.proofs.Given.{Orderly, drop_one, holds_here, holds_there, orderly, pointer_here, pointer_there, put_one}
use Rattle.law_room.proofs.Weights.{sum_le, sum_live, sum_more, sum_nothing, sum_plus, sum_times, times}
use Rattle.law_room.proofs.Writing.{one_write, put_behind, put_empty, same_write, sum_is}

-- the pages that count of an extent
abbrev pub counted : Holding → ℕ → ℕ
counted h p = if is_of_chunks h then p else 0

-- the pages that are given of an extent of chunks
abbrev pub chunk_pointer : Room → ℕ → ℕ
chunk_pointer s e = counted (s.holds e) (s.pointer e)

-- they live or are dead
counted_at_most : (h : Holding) (p l : ℕ) → counted h p ≤ l + (if is_of_chunks h then p - l else 0)
counted_at_most h p l = go (is_of_chunks h)
  where
    go : (b : Bool) → (if b then p else 0) ≤ l + (if b then p - l else 0)
    go true = omega arith
    go false = omega arith

-- N extents with d more pages each have at least d more
more_room : (N a d : ℕ) → 1 ≤ N → N * a + d ≤ N * (a + d)
more_room N a d some =
    let parts : N * (a + d) ≡ N * a + N * d = omega arith in
    let le : 1 * d ≤ N * d = times 1 N d some in omega arith

module _ (S : Shape) (J : ℕ) where
  abbrev pub given_pages : Room → ℕ
  given_pages s = sum_to (chunk_pointer s) S.extents

  given_live : (s : Room) → given_pages s ≤ all_pages s.chunks + all_dead s S.extents
  given_live s =
      let all : given_pages s ≤ sum_to (λ e. live_pages s.chunks e + dead_pages s e) S.extents =
      sum_le (chunk_pointer s) (λ e. live_pages s.chunks e + dead_pages s e) S.extents
      (λ e lt. counted_at_most (s.holds e) (s.pointer e) (live_pages s.chunks e)) in
      let parts : sum_to (λ e. live_pages s.chunks e + dead_pages s e) S.extents
      ≡ sum_to (live_pages s.chunks) S.extents + sum_to (dead_pages s) S.extents =
      sum_plus (live_pages s.chunks) (dead_pages s) S.extents in
      let live : sum_to (live_pages s.chunks) S.extents ≤ all_pages s.chunks = sum_live s.chunks S.extents in omega arith

  -- where nothing is dead, what lives is all
  pub beside_all : (s : Room) (sizes : List ℕ) → NothingDead S s → FitBeside S J (all_pages s.chunks) sizes
      → FitBeside S J (all_pages s.chunks + all_dead s S.extents) sizes
  beside_all s sizes nothing fit =
      let none : all_dead s S.extents ≡ 0 = sum_nothing (dead_pages s) S.extents nothing in
      let same : all_pages s.chunks ≡ all_pages s.chunks + all_dead s S.extents = omega arith in
      subst (λ (n : ℕ). FitBeside S J n sizes) same fit

  -- a frame goes behind chunks, or to an empty extent
  put_was : (s : Room) (k e : ℕ) → Orderly S J s → GoesForPut S s k e → s.pointer e ≤ chunk_pointer s e
  put_was s k e keeps (inl on) = behind s e on.1.0.1
    where
      behind : (s : Room) (e : ℕ) → s.holds e ≡ OfChunks → s.pointer e ≤ chunk_pointer s e
      behind s e is = rw is (omega arith)
  put_was s k e keeps (inr (inl other)) = (let is : s.holds e ≡ OfChunks = other.1.0.1 in rw is (omega arith))
  put_was s k e keeps (inr (inr empty)) = (let none : s.pointer e ≡ 0 = keeps.lies.empty e empty.1.1 in omega arith)

  more_given : (s : Room) (id k e : ℕ) → Orderly S J s → GoesForPut S s k e
      → given_pages (with_chunk S s id k e) ≤ given_pages s + k
  more_given s id k e keeps goes = sum_more (chunk_pointer (with_chunk S s id k e)) (chunk_pointer s) e k S.extents
      (λ d lt other. let same : chunk_pointer (with_chunk S s id k e) d ≡ chunk_pointer s d =
      ap (λ (h : Holding). counted h ((with_chunk S s id k e).pointer d)) (holds_there s e k OfChunks d other)
      ∙ ap (counted (s.holds d)) (pointer_there s e k OfChunks d other) in omega arith)
      (let here : chunk_pointer (with_chunk S s id k e) e ≡ s.pointer e + k =
      ap (λ (h : Holding). counted h ((with_chunk S s id k e).pointer e)) (holds_here s e k OfChunks)
      ∙ pointer_here s e k OfChunks in
      let was : s.pointer e ≤ chunk_pointer s e = put_was s k e keeps goes in omega arith)

  -- where a frame of k pages fits behind no extent, each has more pages than P - k given
  crowded : (s : Room) (k : ℕ) → s.sweep ≡ None → ((e : ℕ) → TakesPut S s k e → ⊥)
      → chunk_extents s S.extents * (S.pages + 1 - k) ≤ given_pages s
  crowded s k none full = sum_times (λ e. is_of_chunks (s.holds e)) (chunk_pointer s) (S.pages + 1 - k) S.extents
      (λ e lt on. elim (cases_lt S.pages (s.pointer e + k)) [
        | inl over ↦ (let at : chunk_pointer s e ≡ s.pointer e = rw on refl in omega arith)
        | inr fits ↦ absurd (full e
            ((lt, chunks_is (s.holds e) on, fits), (λ w is. absurd (let wrong : None ≡ Some w = sym none ∙ is in cc))))
      ])

  -- N: how many extents may hold chunks; y: the pages of a chunk at most
  module _ (N y : ℕ) (some : 1 ≤ N) (one_fits : y ≤ S.pages) where
    -- then one more may hold chunks
    pub one_left : (s : Room) (k rest : ℕ) → s.sweep ≡ None → k ≤ y
        → given_pages s + (k + rest) < N * (S.pages + 1 - y) + y → ((e : ℕ) → TakesPut S s k e → ⊥)
        → chunk_extents s S.extents < N
    one_left s k rest none small few full = elim (cases_lt (chunk_extents s S.extents) N) [
      | inl less ↦ less
      | inr all ↦ absurd (
          let filled : chunk_extents s S.extents * (S.pages + 1 - k) ≤ given_pages s = crowded s k none full in
          let at_least : N * (S.pages + 1 - k) ≤ chunk_extents s S.extents * (S.pages + 1 - k) =
          times N (chunk_extents s S.extents) (S.pages + 1 - k) all in
          let parts : S.pages + 1 - k ≡ (S.pages + 1 - y) + (y - k) = omega (arith, small, one_fits) in
          let wider : N * (S.pages + 1 - y) + (y - k) ≤ N * ((S.pages + 1 - y) + (y - k)) =
          more_room N (S.pages + 1 - y) (y - k) some in
          let same : N * (S.pages + 1 - k) ≡ N * ((S.pages + 1 - y) + (y - k)) = ap (λ (q : ℕ). N * q) parts in
          omega (arith, few, small))
    ]

    -- so many pages are little enough
    abbrev IsLittle : Room → List ℕ → Type 0
    IsLittle s ks = given_pages s + sum ks < N * (S.pages + 1 - y) + y

    pub next_little : (s : Room) (id k e : ℕ) (ks : List ℕ) → Orderly S J s → GoesForPut S s k e → IsLittle s (k ∷ ks)
        → IsLittle (with_chunk S s id k e) ks
    next_little s id k e ks keeps goes few =
        let more : given_pages (with_chunk S s id k e) ≤ given_pages s + k = more_given s id k e keeps goes in
        let all : sum (k ∷ ks) ≡ k + sum ks = sum_is k ks in
        let old : given_pages s + sum (k ∷ ks) < N * (S.pages + 1 - y) + y = few in omega arith

    first_little : (s : Room) (k : ℕ) (ks : List ℕ) → IsLittle s (k ∷ ks)
        → given_pages s + (k + sum ks) < N * (S.pages + 1 - y) + y
    first_little s k ks few = subst (λ (n : ℕ). given_pages s + n < N * (S.pages + 1 - y) + y) (sum_is k ks) few

    -- the frames find their places
    pub all_placed : (ks : List ℕ) (s : Room) (id : ℕ) → Orderly S J s → s.sweep ≡ None → N + J + 2 ≤ S.extents
        → chunk_extents s S.extents ≤ N → ((k : ℕ) → k ∈ ks → k ≤ y) → IsLittle s ks
        → (t : Room) × Writes S s id ks t × (chunk_extents t S.extents ≤ N)
    all_placed [] s id keeps none large few each little = (s, refl, few)
    all_placed (k ∷ ks) s id keeps none large few each little =
        let small : k ≤ y = each k (inl refl) in
        ⊎_elim
        (λ behind.
        let less : chunk_extents (with_chunk S s id k behind.0) S.extents ≤ chunk_extents s S.extents =
        same_write S J s id k behind.0 behind.2 in
        let rest = all_placed ks (with_chunk S s id k behind.0) id (put_one S J s id k behind.0 keeps behind.1) none large
        (omega (arith, few)) (λ j got. each j (inr got)) (next_little s id k behind.0 ks keeps behind.1 little) in
        (rest.0, (behind.0, behind.1, rest.1), rest.2))
        (λ (full : (e : ℕ) → TakesPut S s k e → ⊥).
        let left : chunk_extents s S.extents < N = one_left s k (sum ks) none small (first_little s k ks little) full in
        let place = put_empty S J s k keeps (omega (arith, large)) (omega (arith, small, one_fits)) full in
        let more : chunk_extents (with_chunk S s id k place.0) S.extents ≤ suc (chunk_extents s S.extents) =
        one_write S J s id k place.0 in
        let rest = all_placed ks (with_chunk S s id k place.0) id (put_one S J s id k place.0 keeps place.1) none large
        (omega arith) (λ j got. each j (inr got)) (next_little s id k place.0 ks keeps place.1 little) in
        (rest.0, (place.0, place.1, rest.1), rest.2))
        (put_behind S J s k)

    -- and wherever they go, no more extents hold chunks than may
    pub few_anywhere : (ks : List ℕ) (s : Room) (id : ℕ) (t : Room) → S.fills ≡ true → Orderly S J s → s.sweep ≡ None
        → chunk_extents s S.extents ≤ N → ((k : ℕ) → k ∈ ks → k ≤ y) → IsLittle s ks → Writes S s id ks t
        → chunk_extents t S.extents ≤ N
    few_anywhere [] s id t filled keeps none few each little is = rw is few
    few_anywhere (k ∷ ks) s id t filled keeps none few each little writes =
        few_anywhere ks (with_chunk S s id k writes.0) id t filled (put_one S J s id k writes.0 keeps writes.1) none
        (step writes.0 writes.1) (λ j got. each j (inr got)) (next_little s id k writes.0 ks keeps writes.1 little) writes.2
      where
        behind : (e : ℕ) → s.holds e ≡ OfChunks → chunk_extents (with_chunk S s id k e) S.extents ≤ N
        behind e is = let less : chunk_extents (with_chunk S s id k e) S.extents ≤ chunk_extents s S.extents =
            same_write S J s id k e is in omega (arith, few)

        step : (e : ℕ) → GoesForPut S s k e → chunk_extents (with_chunk S s id k e) S.extents ≤ N
        step e (inl on) = behind e on.1.0.1
        step e (inr (inl other)) = behind e other.1.0.1
        step e (inr (inr empty)) =
            let left : chunk_extents s S.extents < N = one_left s k (sum ks) none (each k (inl refl))
            (first_little s k ks little) (empty.2 filled) in
            let more : chunk_extents (with_chunk S s id k e) S.extents ≤ suc (chunk_extents s S.extents) =
            one_write S J s id k e in omega arith

  quota_now : (s : Room) → Keeps S J s → s.sweep ≡ None → chunk_extents s S.extents ≤ S.extents - (J + 2)
  quota_now s keeps none =
      let quota : chunk_extents s S.extents + J + 2 ≤ S.extents + opened_by s.sweep = keeps.quotas.chunks in
      let no_fresh : opened_by s.sweep ≡ 0 = ap opened_by none in omega arith

  pub little_now : (s : Room) (sizes : List ℕ) → (fit : FitBeside S J (all_pages s.chunks + all_dead s S.extents) sizes)
      → given_pages s + sum sizes < (S.extents - (J + 2)) * (S.pages + 1 - fit.most) + fit.most
  little_now s sizes fit =
      let lives : given_pages s ≤ all_pages s.chunks + all_dead s S.extents = given_live s in
      let few : all_pages s.chunks + all_dead s S.extents + sum sizes
      < (S.extents - (J + 2)) * (S.pages + 1 - fit.most) + fit.most = fit.few in omega arith

  quota_then : (s t : Room) → s.sweep ≡ None → J + 3 ≤ S.extents → chunk_extents t S.extents ≤ S.extents - (J + 2)
      → chunk_extents t S.extents + J + 2 ≤ S.extents + opened_by s.sweep
  quota_then s t none large few = let no_fresh : opened_by s.sweep ≡ 0 = ap opened_by none in omega arith

  pub put_there : (s : Room) (id : ℕ) (sizes : List ℕ) → Keeps S J s → s.sweep ≡ None
      → FitBeside S J (all_pages s.chunks + all_dead s S.extents) sizes → (t : Room) × Does S J s (Put id sizes) t
  put_there s id sizes keeps none fit =
      let large : J + 3 ≤ S.extents = fit.extents in
      let all = all_placed (S.extents - (J + 2)) fit.most (omega arith) fit.one_fits sizes (dropped s id) id
      (drop_one S J s id (orderly S J s keeps)) none (omega arith) (quota_now s keeps none) fit.each
      (little_now s sizes fit) in
      (all.0, (all.1, quota_then s all.0 none large all.2))

  pub put_anywhere : (s t : Room) (id : ℕ) (sizes : List ℕ) → S.fills ≡ true → Keeps S J s → s.sweep ≡ None
      → FitBeside S J (all_pages s.chunks + all_dead s S.extents) sizes → Writes S (dropped s id) id sizes t
      → Does S J s (Put id sizes) t
  put_anywhere s t id sizes filled keeps none fit writes =
      let large : J + 3 ≤ S.extents = fit.extents in (
        writes,
        quota_then s t none large (few_anywhere (S.extents - (J + 2)) fit.most (omega arith) fit.one_fits sizes
            (dropped s id) id t filled (drop_one S J s id (orderly S J s keeps)) none (quota_now s keeps none) fit.each
            (little_now s sizes fit) writes),
      )

  -- one chunk
  pub one_fits_beside : (live k : ℕ) → live < (S.extents - (J + 2)) * (S.pages + 1 - k) → FitBeside S J live (k ∷ [])
  one_fits_beside live k few = record {
    most = k;
    each = λ j got. ⊎_elim (λ is. omega (arith, is)) (λ none. absurd none) got;
    one_fits = elim (cases_lt S.pages k) [
      | inl over ↦ absurd (let zero_left : S.pages + 1 - k ≡ 0 = omega arith in
          let none : (S.extents - (J + 2)) * (S.pages + 1 - k) ≡ 0 = ap (λ (q : ℕ). (S.extents - (J + 2)) * q) zero_left
          ∙ omega arith in omega (arith, few))
      | inr fits ↦ fits
    ];
    extents = elim (cases_lt S.extents (J + 3)) [
      | inl small ↦ absurd (let no_extent : S.extents - (J + 2) ≡ 0 = omega arith in
          let none : (S.extents - (J + 2)) * (S.pages + 1 - k) ≡ 0 = ap (λ (q : ℕ). q * (S.pages + 1 - k)) no_extent
          ∙ omega arith in omega (arith, few))
      | inr large ↦ large
    ];
    few = (let all : sum (k ∷ []) ≡ k + sum [] = sum_is k [] in let none : sum [] ≡ 0 = refl in omega (arith, few));
  }
