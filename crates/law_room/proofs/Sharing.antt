-- How much may live so that sweeps of pairs leave n extents for puts.
use Rattle.std.proofs.Common.{◌≡◌, ◌⊎◌, inl, inr, ⊎_elim, ℕ, zero, suc, ◌+◌, ◌-◌, ◌*◌, ◌<◌, ◌≤◌, Bool, true, List, None, le_trans, refl, sym, ap, ◌∙◌, subst, arith}
use Rattle.std.proofs.lemmas.Bool.{cases_lt}
use Rattle.law_machine.specs.Device.{Shape}
use Rattle.law_room.specs.Events.{Does, Put}
use Rattle.law_room.specs.Invariant.{Keeps}
use Rattle.law_room.specs.Rooms.{Holding, Room, Sweep, all_pages, chunk_extents, how_many, is_of_chunks, live_pages, opened_by}
use Rattle.law_room.specs.Sweeps.{AreFewPages, FillsAtMost, IsLeastPair, IsPairSwept, IsSwept, NoTwoFit, PairsSwept, SweepsMade}
use Rattle.law_room.proofs.Chunks.{settle_all, sum_same}
use Rattle.law_room.proofs.Counts.{chunks_is}
use Rattle.law_room.proofs.Gaining.{IsKept, IsSweptWith, no_more, swept_with}
use Rattle.law_room.proofs.Moving.{copied_to}
use Rattle.law_room.proofs.Pairs.{pair}
use Rattle.law_room.proofs.Weights.{but, but_is, but_one, but_other, least_of, sum_live, sum_of_pairs, sum_to, times}
use Rattle.law_room.proofs.Whole.{sweep_there}
use Rattle.law_room.proofs.Writing.{fills}

module _ (S : Shape) (J : ℕ) where
  -- a sweep moves what lives, and loses none of it
  abbrev AllStays : ℕ → Room → Sweep → Type 0
  AllStays all s w = all_pages s.chunks ≡ all

  all_stays : (all : ℕ) → IsKept S J (AllStays all)
  all_stays all s w before c behind e fresh keeps is copied same =
      sum_same before behind (λ x. true) (copied_to c e) c refl refl
      ∙ ap all_pages (sym copied.chunks) ∙ same

  -- what a sweep leaves
  record IsAfter (s t : Room) : Type 0 where
    keeps : Keeps S J t
    none : t.sweep ≡ None
    all : all_pages t.chunks ≡ all_pages s.chunks
    few : chunk_extents t S.extents ≤ chunk_extents s S.extents

  after_sweep : (s t : Room) (e : ℕ) → 1 ≤ J → Keeps S J s → IsSwept S J s e t → IsAfter s t
  after_sweep s t e some keeps swept =
      let whole : IsSweptWith S J (AllStays (all_pages s.chunks)) s e t = swept_with S J (AllStays (all_pages s.chunks))
      (all_stays (all_pages s.chunks)) s t e some keeps refl swept in record {
        keeps = whole.keeps;
        none = whole.staged.sweep;
        all = ap all_pages whole.staged.chunks ∙ settle_all whole.moved.chunks ∙ whole.moves.kept.0;
        few = no_more S J s t e some keeps swept;
      }

  after_both : (s m t : Room) → IsAfter s m → IsAfter m t → IsAfter s t
  after_both s m t a b = record {
    keeps = b.keeps;
    none = b.none;
    all = b.all ∙ a.all;
    few = le_trans b.few a.few;
  }

  after_pair : (s t : Room) → 1 ≤ J → Keeps S J s → IsPairSwept S J s t → IsAfter s t
  after_pair s t some keeps swept =
      let first : IsAfter s swept.2 = after_sweep s swept.2 swept.0 some keeps swept.4 in ⊎_elim
      (λ one. subst (λ (x : Room). IsAfter s x) (sym one.1) first)
      (λ two. after_both s swept.2 t first (after_sweep swept.2 t swept.1 some first.keeps two.1))
      swept.5

  pub sweep_leaves : (s t : Room) (e : ℕ) → 1 ≤ J → Keeps S J s → IsSwept S J s e t
      → (all_pages t.chunks ≡ all_pages s.chunks) × (t.sweep ≡ None)
  sweep_leaves s t e some keeps swept = let after : IsAfter s t = after_sweep s t e some keeps swept in
      (after.all, after.none)

  -- so many extents are left for puts
  abbrev IsLeftFor : ℕ → Room → Type 0
  IsLeftFor n s = chunk_extents s S.extents + n + J + 2 ≤ S.extents

  -- little enough lives
  abbrev LivesFew : ℕ → Room → Type 0
  LivesFew n s = AreFewPages S J n (all_pages s.chunks)

  -- where a pair with the least doesn't fit on one extent, enough extents are left
  fits_or_left : (n : ℕ) (s : Room) (a b : ℕ) → J + n + 3 ≤ S.extents → LivesFew n s → IsLeastPair S J s a b
      → (live_pages s.chunks a + live_pages s.chunks b ≤ S.pages) ⊎ IsLeftFor n s
  fits_or_left n s a b large few least = elim (cases_lt S.pages (live_pages s.chunks a + live_pages s.chunks b)) [
    | inr fits ↦ inl fits
    | inl over ↦ inr (
        let order : live_pages s.chunks a ≤ live_pages s.chunks b = least.order in
        let most : chunk_extents s S.extents * (S.pages + 1) ≤ 2 * sum_to (live_pages s.chunks) S.extents =
        sum_of_pairs (λ e. is_of_chunks (s.holds e)) (live_pages s.chunks) (S.pages + 1) S.extents a b least.first.0
        least.second.0 least.two (omega arith)
        (λ e lt on not_a not_b. let big : live_pages s.chunks b ≤ live_pages s.chunks e = least.least e
        (lt, chunks_is (s.holds e) on) not_a in omega arith) in
        let all : sum_to (live_pages s.chunks) S.extents ≤ all_pages s.chunks = sum_live s.chunks S.extents in
        elim (cases_lt (chunk_extents s S.extents) (S.extents - (J + 1 + n))) [
          | inl less ↦ (let left : chunk_extents s S.extents < S.extents - (J + 1 + n) = less in omega arith)
          | inr more ↦ absurd (let wrong : (S.extents - (J + 1 + n)) * (S.pages + 1)
              ≤ chunk_extents s S.extents * (S.pages + 1) = times (S.extents - (J + 1 + n)) (chunk_extents s S.extents)
              (S.pages + 1) more in
              let small : 2 * all_pages s.chunks < (S.extents - (J + 1 + n)) * (S.pages + 1) = few in omega arith)
        ])
  ]

  -- so a pair with the least gives an extent, or enough are left
  pair_gains : (n : ℕ) (s t : Room) → 1 ≤ J → Keeps S J s → J + n + 3 ≤ S.extents → LivesFew n s → IsPairSwept S J s t
      → IsLeftFor n t ⊎ (chunk_extents t S.extents < chunk_extents s S.extents)
  pair_gains n s t some keeps large few swept = ⊎_elim
      (λ fits. inr (⊎_elim
      (λ one. subst (λ (x : Room). chunk_extents x S.extents < chunk_extents s S.extents) (sym one.1) one.0)
      (λ two. ⊎_elim
      (λ less. let not_less : chunk_extents s S.extents ≤ chunk_extents swept.2 S.extents = two.0 in absurd (omega arith))
      (λ both. both.1 t two.1)
      (pair S J s swept.2 swept.0 swept.1 some keeps swept.3.two swept.3.second fits swept.4))
      swept.5))
      (λ left. inl (let less : chunk_extents t S.extents ≤ chunk_extents s S.extents = (after_pair s t some keeps
      swept).few in let old : chunk_extents s S.extents + n + J + 2 ≤ S.extents = left in omega arith))
      (fits_or_left n s swept.0 swept.1 large few swept.3)

  still_few : (n : ℕ) (s t : Room) → IsAfter s t → LivesFew n s → LivesFew n t
  still_few n s t after few = subst (λ (x : ℕ). 2 * x < (S.extents - (J + 1 + n)) * (S.pages + 1)) (sym after.all) few

  pairs_gain : (n pairs : ℕ) (s t : Room) → 1 ≤ J → Keeps S J s → J + n + 3 ≤ S.extents → LivesFew n s
      → PairsSwept S J pairs s t
      → IsLeftFor n t ⊎ (chunk_extents t S.extents + pairs ≤ chunk_extents s S.extents)
  pairs_gain n zero s t some keeps large few is = inr (rw is (omega arith))
  pairs_gain n (suc pairs) s t some keeps large few swept =
      let after : IsAfter s swept.0 = after_pair s swept.0 some keeps swept.1 in
      ⊎_elim
      (λ left. inl (not_raised pairs swept.0 t left after.keeps swept.2))
      (λ less. ⊎_elim (λ left. inl left)
      (λ more. inr (let a : chunk_extents t S.extents + pairs ≤ chunk_extents swept.0 S.extents = more in
      let b : chunk_extents swept.0 S.extents < chunk_extents s S.extents = less in omega arith))
      (pairs_gain n pairs swept.0 t some after.keeps large (still_few n s swept.0 after few) swept.2))
      (pair_gains n s swept.0 some keeps large few swept.1)
    where
      not_raised : (k : ℕ) (m u : Room) → IsLeftFor n m → Keeps S J m → PairsSwept S J k m u → IsLeftFor n u
      not_raised zero m u left good is = rw is left
      not_raised (suc k) m u left good more =
          let next : IsAfter m more.0 = after_pair m more.0 some good more.1 in
          let fewer : chunk_extents more.0 S.extents ≤ chunk_extents m S.extents = next.few in
          let old : chunk_extents m S.extents + n + J + 2 ≤ S.extents = left in
          not_raised k more.0 u (omega arith) next.keeps more.2

  pub every_way : (n : ℕ) (s t : Room) → Keeps S J s → 1 ≤ J → s.sweep ≡ None → J + n + 3 ≤ S.extents → LivesFew n s
      → PairsSwept S J n s t → chunk_extents t S.extents + n + J + 2 ≤ S.extents
  every_way n s t keeps some none large few swept = ⊎_elim
      (λ left. left)
      (λ less. let quota : chunk_extents s S.extents + J + 2 ≤ S.extents + opened_by s.sweep = keeps.quotas.chunks in
      let no_fresh : opened_by s.sweep ≡ 0 = ap opened_by none in
      let all : chunk_extents t S.extents + n ≤ chunk_extents s S.extents = less in omega arith)
      (pairs_gain n n s t some keeps large few swept)

  -- two extents of chunks are there, so two with the least are
  pub least_pair : (s : Room) → 2 ≤ chunk_extents s S.extents → (a : ℕ) × (b : ℕ) × IsLeastPair S J s a b
  least_pair s two =
      let test : ℕ → Bool = (λ e. is_of_chunks (s.holds e)) in
      let first = least_of (λ e. is_of_chunks (s.holds e)) (live_pages s.chunks) S.extents (omega arith) in
      let a : ℕ = first.0 in
      let rest : chunk_extents s S.extents ≤ suc (how_many (but (λ e. is_of_chunks (s.holds e)) a) S.extents) = but_one
      (λ e. is_of_chunks (s.holds e)) a S.extents in
      let second = least_of (but (λ e. is_of_chunks (s.holds e)) a) (live_pages s.chunks) S.extents (omega arith) in
      let other = but_is (λ e. is_of_chunks (s.holds e)) a second.0 second.2 in (
        a,
        second.0,
        record {
          two = λ same. other.0 (sym same);
          first = (first.1, chunks_is (s.holds a) first.2);
          second = (second.1, chunks_is (s.holds second.0) other.1);
          order = first.3 second.0 second.1 other.1;
          least = λ e chunks not_a. second.3 e chunks.0
              (but_other (λ d. is_of_chunks (s.holds d)) a e not_a ∙ ap (λ (h : Holding). is_of_chunks h) chunks.1);
        },
      )

  -- where what lives on no two has room on one extent, enough are left
  pub none_fits : (n : ℕ) (s : Room) → J + n + 3 ≤ S.extents → LivesFew n s → NoTwoFit S J s
      → chunk_extents s S.extents + n + J + 2 ≤ S.extents
  none_fits n s large few none = elim (cases_lt (chunk_extents s S.extents) 2) [
    | inl one ↦ omega arith
    | inr two ↦ (let least = least_pair s two in ⊎_elim
        (λ fits. absurd (let over : S.pages < live_pages s.chunks least.0 + live_pages s.chunks least.1 =
        none least.0 least.1 least.2.two least.2.first least.2.second in
        let both : live_pages s.chunks least.0 + live_pages s.chunks least.1 ≤ S.pages = fits in omega arith))
        (λ left. left)
        (fits_or_left n s least.0 least.1 large few least.2))
  ]

  -- a pair can be swept
  pair_there : (s : Room) → 1 ≤ J → Keeps S J s → s.sweep ≡ None → (a b : ℕ) → IsLeastPair S J s a b
      → live_pages s.chunks a + live_pages s.chunks b ≤ S.pages → (t : Room) × IsPairSwept S J s t
  pair_there s some keeps none a b least fits =
      let first = sweep_there S J s a 0 0 0 keeps none least.first (omega arith) in
      let m : Room = first.0 in
      let after : IsAfter s m = after_sweep s m a some keeps first.1 in
      elim (cases_lt (chunk_extents m S.extents) (chunk_extents s S.extents)) [
        | inl less ↦ (m, (a, b, m, least, first.1, inl (less, refl)))
        | inr same ↦ ⊎_elim
            (λ less. absurd (let wrong : chunk_extents m S.extents < chunk_extents s S.extents = less in omega arith))
            (λ both. let second = sweep_there S J m b 0 0 0 after.keeps after.none both.0 (omega arith) in
            (second.0, (a, b, m, least, first.1, inr (same, second.1))))
            (pair S J s m a b some keeps least.two least.second fits first.1)
      ]

  record IsReached (n most : ℕ) (s : Room) : Type 0 where
    pairs : ℕ
    after : Room
    few : pairs ≤ most
    swept : PairsSwept S J pairs s after
    keeps : Keeps S J after
    left : IsLeftFor n after

  fits_if_full : (n : ℕ) (s : Room) (a b : ℕ) → J + n + 3 ≤ S.extents → LivesFew n s → IsLeastPair S J s a b
      → S.extents < chunk_extents s S.extents + n + J + 2 → live_pages s.chunks a + live_pages s.chunks b ≤ S.pages
  fits_if_full n s a b large few least full = ⊎_elim (λ is. is)
      (λ left. absurd (let wrong : chunk_extents s S.extents + n + J + 2 ≤ S.extents = left in omega arith))
      (fits_or_left n s a b large few least)

  one_gained : (n most : ℕ) (s t : Room) → chunk_extents s S.extents + n + J + 2 ≤ S.extents + suc most
      → IsLeftFor n t ⊎ (chunk_extents t S.extents < chunk_extents s S.extents)
      → chunk_extents t S.extents + n + J + 2 ≤ S.extents + most
  one_gained n most s t quota (inl left) = let old : chunk_extents t S.extents + n + J + 2 ≤ S.extents = left in
      omega arith
  one_gained n most s t quota (inr less) = let old : chunk_extents t S.extents < chunk_extents s S.extents = less in
      omega arith

  reach : (n most : ℕ) (s : Room) → 1 ≤ J → Keeps S J s → s.sweep ≡ None → J + n + 3 ≤ S.extents → LivesFew n s
      → chunk_extents s S.extents + n + J + 2 ≤ S.extents + most → IsReached n most s
  reach n zero s some keeps none large few quota = record {
    pairs = 0;
    after = s;
    few = omega arith;
    swept = refl;
    keeps = keeps;
    left = omega arith;
  }
  reach n (suc most) s some keeps none large few quota =
      elim (cases_lt S.extents (chunk_extents s S.extents + n + J + 2)) [
        | inr left ↦ record {
          pairs = 0;
          after = s;
          few = omega arith;
          swept = refl;
          keeps = keeps;
          left = left;
        }
        | inl full ↦ (
            let least = least_pair s (omega arith) in
            let fits : live_pages s.chunks least.0 + live_pages s.chunks least.1 ≤ S.pages = fits_if_full n s least.0
            least.1 large few least.2 full in
            let next = pair_there s some keeps none least.0 least.1 least.2 fits in
            let after : IsAfter s next.0 = after_pair s next.0 some keeps next.1 in
            let gained : chunk_extents next.0 S.extents + n + J + 2 ≤ S.extents + most = one_gained n most s next.0 quota
            (pair_gains n s next.0 some keeps large few next.1) in
            let rest : IsReached n most next.0 = reach n most next.0 some after.keeps after.none large
            (still_few n s next.0 after few) gained in record {
              pairs = suc rest.pairs;
              after = rest.after;
              few = (let less : rest.pairs ≤ most = rest.few in omega arith);
              swept = (next.0, next.1, rest.swept);
              keeps = rest.keeps;
              left = rest.left;
            })
      ]

  pub reached : (n : ℕ) (s : Room) → Keeps S J s → 1 ≤ J → s.sweep ≡ None → J + n + 3 ≤ S.extents → LivesFew n s
      → (pairs : ℕ) × (t : Room) × (pairs ≤ n) × PairsSwept S J pairs s t × Keeps S J t
      × (chunk_extents t S.extents + n + J + 2 ≤ S.extents)
  reached n s keeps some none large few =
      let quota : chunk_extents s S.extents + J + 2 ≤ S.extents + opened_by s.sweep = keeps.quotas.chunks in
      let no_fresh : opened_by s.sweep ≡ 0 = ap opened_by none in
      let all : IsReached n n s = reach n n s some keeps none large few (omega arith) in
      (all.pairs, all.after, all.few, all.swept, all.keeps, all.left)

  made_append : (k n : ℕ) (s m t : Room) → SweepsMade S J k s m → SweepsMade S J n m t → SweepsMade S J (k + n) s t
  made_append zero n s m t is more = let same : 0 + n ≡ n = omega arith in
      rw same (subst (λ (x : Room). SweepsMade S J n x t) is more)
  made_append (suc k) n s m t made more = let next : suc k + n ≡ suc (k + n) = omega arith in
      rw next (made.0, made.1, made.2, made_append k n made.1 m t made.3 more)

  pair_made : (s t : Room) → IsPairSwept S J s t → (k : ℕ) × (k ≤ 2) × SweepsMade S J k s t
  pair_made s t swept = ⊎_elim
      (λ one. (1, omega arith, (swept.0, swept.2, swept.4, one.1)))
      (λ two. (2, omega arith, (swept.0, swept.2, swept.4, (swept.1, t, two.1, refl))))
      swept.5

  pairs_made : (pairs : ℕ) (s t : Room) → PairsSwept S J pairs s t → (k : ℕ) × (k ≤ 2 * pairs) × SweepsMade S J k s t
  pairs_made zero s t is = (0, omega arith, is)
  pairs_made (suc pairs) s t swept =
      let first = pair_made s swept.0 swept.1 in
      let rest = pairs_made pairs swept.0 t swept.2 in
      let a : first.0 ≤ 2 = first.1 in
      let b : rest.0 ≤ 2 * pairs = rest.1 in
      (first.0 + rest.0, omega arith, made_append first.0 rest.0 s swept.0 t first.2 rest.2)

  pub put_room : (n : ℕ) (s : Room) (id : ℕ) (sizes : List ℕ) → Keeps S J s → 1 ≤ J → s.sweep ≡ None
      → J + n + 3 ≤ S.extents → LivesFew n s → FillsAtMost S.pages n sizes
      → (sweeps : ℕ) × (t : Room) × (u : Room) × (sweeps ≤ 2 * n) × SweepsMade S J sweeps s t
      × Does S J t (Put id sizes) u
  put_room n s id sizes keeps some none large few fit =
      let all = reached n s keeps some none large few in
      let made = pairs_made all.0 s all.1 all.3 in
      let put = fills S J n all.1 id sizes all.4 all.5 fit in
      let a : made.0 ≤ 2 * all.0 = made.1 in
      let b : all.0 ≤ n = all.2 in
      (made.0, all.1, put.0, omega arith, made.2, put.1)
