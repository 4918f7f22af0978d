-- The rule by which an extent is swept next, or none.
use Rattle.std.proofs.Common.{◌≡◌, ◌≢◌, ◌⊎◌, inl, inr, ⊎_elim, ℕ, ◌+◌, ◌-◌, ◌<◌, ◌≤◌, true, false, nat_lt, Some, true≢false, le_of_eq, le_trans, refl, sym, ap, ◌∙◌, arith}
use Rattle.std.proofs.lemmas.Bool.{cases_eq, cases_lt}
use Rattle.std.proofs.lemmas.Bool.Decides.{nat_tests}
use Rattle.law_machine.specs.Device.{Shape}
use Rattle.law_room.specs.Brim.{IsFewest, IsFewestDead, IsNext, IsSure, NoneNext, NothingDead, dead_extents, dead_pages, greatest_chunk, sum_to, sure_pages}
use Rattle.law_room.specs.Invariant.{Keeps}
use Rattle.law_room.specs.Rooms.{Holding, OfChunks, Room, chunk_extents, copied_pages, how_many, is_of_chunks, live_pages}
use Rattle.law_room.specs.Sweeps.{IsChosen, IsChunkExtent, IsLeastPair, NoTwoFit}
use Rattle.law_room.proofs.BrimDead.{dead_holds, dead_rest}
use Rattle.law_room.proofs.BrimGain.{spare_of}
use Rattle.law_room.proofs.Counts.{chunks_is, count_there, count_two}
use Rattle.law_room.proofs.Sharing.{least_pair}
use Rattle.law_room.proofs.Weights.{except, least_of, sum_except}
use Rattle.law_room.proofs.Writing.{some_or_not}

-- tests of numbers
pub some_is : (n : ℕ) → 0 < n → nat_lt 0 n ≡ true
some_is n is = grind (arith, nat_tests)

pub is_some_of : (n : ℕ) → nat_lt 0 n ≡ true → 0 < n
is_some_of n is = grind (arith, nat_tests)

some_number : (a b : ℕ) → Some a ≡ Some b → a ≡ b
some_number a b same = cc

module _ (S : Shape) (J : ℕ) where
  two_there : (s : Room) (a b : ℕ) → a ≢ b → IsChunkExtent S J s a → IsChunkExtent S J s b → 2 ≤ chunk_extents s S.extents
  two_there s a b apart first second =
      let two : how_many (λ (e : ℕ). false) S.extents + 2 ≤ chunk_extents s S.extents = count_two (λ (e : ℕ). false)
      (λ e. is_of_chunks (s.holds e)) a b S.extents first.0 second.0 apart refl refl
      (ap (λ (h : Holding). is_of_chunks h) first.1) (ap (λ (h : Holding). is_of_chunks h) second.1)
      (λ e lt wrong. absurd (true≢false (sym wrong))) in omega arith

  module _ (s : Room) (a b : ℕ) (least : IsLeastPair S J s a b) where
    -- an extent other than a has no less than b
    more_than : (e : ℕ) → IsChunkExtent S J s e → e ≢ a → live_pages s.chunks b ≤ live_pages s.chunks e
    more_than e is other = least.least e is other

    pub no_less : (e : ℕ) → IsChunkExtent S J s e → live_pages s.chunks a ≤ live_pages s.chunks e
    no_less e is = elim (cases_eq e a) [
      | inl same ↦ le_of_eq (ap (live_pages s.chunks) (sym same))
      | inr other ↦ le_trans least.order (more_than e is other)
    ]

    none_fit : S.pages < live_pages s.chunks a + live_pages s.chunks b → NoTwoFit S J s
    none_fit over = λ c d apart c_is d_is. elim (cases_eq c a) [
      | inl same ↦ (let first : live_pages s.chunks c ≡ live_pages s.chunks a = ap (live_pages s.chunks) same in
          let second : live_pages s.chunks b ≤ live_pages s.chunks d = more_than d d_is (λ is. apart (same ∙ sym is)) in
          omega arith)
      | inr other ↦ (let first : live_pages s.chunks b ≤ live_pages s.chunks c = more_than c c_is other in
          let second : live_pages s.chunks a ≤ live_pages s.chunks d = no_less d d_is in omega arith)
    ]

    chosen : live_pages s.chunks a + live_pages s.chunks b ≤ S.pages → (c : ℕ) × IsChosen S J s c
    chosen fits = ⊎_elim
        (λ (last : s.last ≡ Some a). (
          b,
          record {
            chunks = least.second;
            not_last = λ at. least.two (some_number a b (sym last ∙ at));
            fewest = λ e is not_last. more_than e is (λ same. not_last (last ∙ ap (λ (n : ℕ). Some n) (sym same)));
            partner = (a, (λ same. least.two (sym same)), least.first, omega (arith, fits));
          },
        ))
        (λ (not_last : s.last ≡ Some a → ⊥). (
          a,
          record {
            chunks = least.first;
            not_last = not_last;
            fewest = λ e is other. no_less e is;
            partner = (b, least.two, least.second, fits);
          },
        ))
        (some_or_not S J s.last a)

  pub chosen_or_none : (s : Room) → ((c : ℕ) × IsChosen S J s c) ⊎ NoTwoFit S J s
  chosen_or_none s = elim (cases_lt (chunk_extents s S.extents) 2) [
    | inl few ↦ inr (λ a b apart first second. absurd (let two : 2 ≤ chunk_extents s S.extents =
        two_there s a b apart first second in omega arith))
    | inr two ↦ (let least = least_pair S J s two in
        elim (cases_lt S.pages (live_pages s.chunks least.0 + live_pages s.chunks least.1)) [
          | inl over ↦ inr (none_fit s least.0 least.1 least.2 over)
          | inr fits ↦ inl (chosen s least.0 least.1 least.2 fits)
        ])
  ]

  pub dead_or_none : (s : Room) → ((x : ℕ) × IsFewestDead S J s x) ⊎ NothingDead S s
  dead_or_none s = elim (cases_lt 0 (dead_extents s S.extents)) [
    | inl some ↦ (let best = least_of (λ e. nat_lt 0 (dead_pages s e)) (live_pages s.chunks) S.extents some in
        let one : 0 < dead_pages s best.0 = is_some_of (dead_pages s best.0) best.2 in
        inl (
          best.0,
          (
            (best.1, dead_holds s best.0 one),
            one,
            (λ e is dead. best.3 e is.0 (some_is (dead_pages s e) dead)),
          ),
        ))
    | inr none ↦ inr (λ e lt. elim (cases_lt 0 (dead_pages s e)) [
      | inl one ↦ absurd (let more : 0 < dead_extents s S.extents = count_there (λ d. nat_lt 0 (dead_pages s d)) e S.extents lt
          (some_is (dead_pages s e) one) in omega arith)
      | inr nothing ↦ omega arith
    ])
  ]

  pub fewest_or_none : (s : Room) → ((x : ℕ) × IsFewest S J s x) ⊎ ((x : ℕ) → IsChunkExtent S J s x → ⊥)
  fewest_or_none s = elim (cases_lt 0 (chunk_extents s S.extents)) [
    | inl some ↦ (let best = least_of (λ e. is_of_chunks (s.holds e)) (live_pages s.chunks) S.extents some in
        inl (
          best.0,
          (
            (best.1, chunks_is (s.holds best.0) best.2),
            (λ e is. best.3 e is.0 (ap (λ (h : Holding). is_of_chunks h) is.1)),
          ),
        ))
    | inr none ↦ inr (λ x is. (let more : 0 < chunk_extents s S.extents = count_there (λ d. is_of_chunks (s.holds d)) x S.extents
        is.0 (ap (λ (h : Holding). is_of_chunks h) is.1) in omega arith))
  ]

  sure_or_not : (s : Room) (x : ℕ) → IsSure S s x ⊎ (IsSure S s x → ⊥)
  sure_or_not s x = elim (cases_lt 0 (live_pages s.chunks x)) [
    | inr none ↦ inr (λ sure. (let some : 0 < live_pages s.chunks x = sure.0 in omega arith))
    | inl some ↦ elim (cases_lt (sum_to (sure_pages S s x) S.extents) (live_pages s.chunks x)) [
      | inl over ↦ inr (λ sure. (let few : live_pages s.chunks x ≤ sum_to (sure_pages S s x) S.extents = sure.1 in omega arith))
      | inr few ↦ inl (some, few)
    ]
  ]

  -- where nothing is dead, what is given of an extent of chunks lives
  pub given_is : (s : Room) (e : ℕ) → Keeps S J s → NothingDead S s → IsChunkExtent S J s e → s.pointer e ≡ live_pages s.chunks e
  given_is s e keeps nothing is =
      let none : dead_pages s e ≡ 0 = nothing e is.0 in
      let most : s.pointer e ≤ live_pages s.chunks e + dead_pages s e = dead_rest s e is.1 in
      let least : live_pages s.chunks e + copied_pages s.chunks e ≤ s.pointer e = keeps.lies.given e is.0 in omega arith

  -- then one of those on which the least lives is as sure as another
  pub alike : (s : Room) (x y : ℕ) → Keeps S J s → NothingDead S s → IsFewest S J s x → IsFewest S J s y → IsSure S s x → IsSure S s y
  alike s x y keeps nothing first second sure =
      let g : ℕ = greatest_chunk s.chunks in
      let a : live_pages s.chunks x ≤ live_pages s.chunks y = first.1 y second.0 in
      let b : live_pages s.chunks y ≤ live_pages s.chunks x = second.1 x first.0 in
      let some : 0 < live_pages s.chunks x = sure.0 in
      let few : live_pages s.chunks x ≤ sum_to (sure_pages S s x) S.extents = sure.1 in
      let all_x : sum_to spare S.extents ≡ spare x + sum_to (except spare x) S.extents = sum_except spare x S.extents first.0.0 in
      let all_y : sum_to spare S.extents ≡ spare y + sum_to (except spare y) S.extents = sum_except spare y S.extents second.0.0 in
      let here : spare x ≡ (S.pages - s.pointer x) - (g - 1) = spare_is x first.0.1 in
      let there : spare y ≡ (S.pages - s.pointer y) - (g - 1) = spare_is y second.0.1 in
      let at_x : s.pointer x ≡ live_pages s.chunks x = given_is s x keeps nothing first.0 in
      let at_y : s.pointer y ≡ live_pages s.chunks y = given_is s y keeps nothing second.0 in
      (omega arith, omega arith)
    where
      spare : ℕ → ℕ
      spare e = spare_of S.pages (greatest_chunk s.chunks) (is_of_chunks (s.holds e)) (s.pointer e)

      spare_is : (e : ℕ) → s.holds e ≡ OfChunks → spare e ≡ (S.pages - s.pointer e) - (greatest_chunk s.chunks - 1)
      spare_is e is = rw is refl

  -- the rule names an extent, or none
  pub next_or_none : (s : Room) → Keeps S J s → ((x : ℕ) × IsNext S J s x) ⊎ NoneNext S J s
  next_or_none s keeps = ⊎_elim
      (λ two. inl (two.0, inl two.1))
      (λ (no_two : NoTwoFit S J s). ⊎_elim
      (λ dead. inl (dead.0, inr (inl (no_two, dead.1))))
      (λ (nothing : NothingDead S s). ⊎_elim
      (λ least. ⊎_elim
      (λ (sure : IsSure S s least.0). inl (least.0, inr (inr (no_two, nothing, least.1, sure))))
      (λ (unsure : IsSure S s least.0 → ⊥). inr (record {
        no_two = no_two;
        nothing = nothing;
        unsure = λ x fewest sure. unsure (alike s x least.0 keeps nothing fewest least.1 sure);
      }))
      (sure_or_not s least.0))
      (λ (empty : (x : ℕ) → IsChunkExtent S J s x → ⊥). inr (record {
        no_two = no_two;
        nothing = nothing;
        unsure = λ x fewest sure. empty x fewest.0;
      }))
      (fewest_or_none s))
      (dead_or_none s))
      (chosen_or_none s)

  -- what is to be swept next holds chunks
  pub next_chunks : (s : Room) (x : ℕ) → IsNext S J s x → IsChunkExtent S J s x
  next_chunks s x (inl chosen) = chosen.chunks
  next_chunks s x (inr (inl dead)) = dead.1.0
  next_chunks s x (inr (inr sure)) = sure.2.0
