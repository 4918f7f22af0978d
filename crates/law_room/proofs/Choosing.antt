-- What sweeps of chosen extents gain.
use Rattle.std.proofs.Common.{◌≡◌, ◌≢◌, inl, inr, ⊎_elim, ℕ, zero, suc, ◌+◌, ◌-◌, ◌*◌, ◌<◌, ◌≤◌, List, Option, Some, None, sym, ap, ◌∙◌, subst, arith}
use Rattle.std.proofs.lemmas.Bool.{cases_Bool}
use Rattle.law_machine.specs.Device.{Shape}
use Rattle.law_room.specs.Invariant.{Keeps}
use Rattle.law_room.specs.Rooms.{Chunk, OfChunks, Room, all_pages, chunk_extents, is_of_chunks, live_pages, opened_by}
use Rattle.law_room.specs.Sweeps.{ChosenSwept, IsChosen, IsChunkExtent, IsSwept, NoTwoFit}
use Rattle.law_room.proofs.Counts.{chunks_is, count_le, count_less}
use Rattle.law_room.proofs.Gaining.{no_more, single, swept_keeps}
use Rattle.law_room.proofs.Pairs.{FitsBehindLast, first_or_behind}
use Rattle.law_room.proofs.Sharing.{none_fits, sweep_leaves}
use Rattle.law_room.proofs.Syncing.{IsRested, synced}

module _ (S : Shape) (J : ℕ) where
  other_place : (o : Option ℕ) (d e : ℕ) → o ≡ Some d → d ≢ e → o ≢ Some e
  other_place o d e is apart same = apart (let at : Some d ≡ Some e = sym is ∙ same in cc)

  last_apart : (o : Option ℕ) (d e : ℕ) → o ≡ Some d → o ≢ Some e → d ≢ e
  last_apart o d e is other same = other (is ∙ ap (λ (x : ℕ). Some x) same)

  -- no more extents hold chunks after syncs; fewer do where one holds none any more
  pub rested_few : (s t : Room) → IsRested S J s t → chunk_extents t S.extents ≤ chunk_extents s S.extents
  rested_few s t rested = count_le (λ e. is_of_chunks (t.holds e)) (λ e. is_of_chunks (s.holds e)) S.extents
      (λ e lt on. ap is_of_chunks (rested.only e (chunks_is (t.holds e) on)))

  pub rested_less : (s t : Room) (e : ℕ) → IsRested S J s t → e < S.extents → s.holds e ≡ OfChunks → (t.holds e ≡ OfChunks → ⊥)
      → chunk_extents t S.extents < chunk_extents s S.extents
  rested_less s t e rested lt is gone = count_less (λ d. is_of_chunks (t.holds d)) (λ d. is_of_chunks (s.holds d)) e S.extents lt
      (elim (cases_Bool (is_of_chunks (t.holds e))) [ inl on ↦ absurd (gone (chunks_is (t.holds e) on)) | inr off ↦ off ])
      (ap is_of_chunks is)
      (λ d inside on. ap is_of_chunks (rested.only d (chunks_is (t.holds d) on)))

  -- two of them give an extent
  module _ (s v t w u : Room) (a c : ℕ) (some : 1 ≤ J) (one : IsChosen S J s a) (rested : IsRested S J s v)
      (first : IsSwept S J v a t) (other : IsChosen S J t c) (again : IsRested S J t w) (second : IsSwept S J w c u) where
    abbrev b : ℕ
    b = one.partner.0

    few_first : chunk_extents v S.extents ≤ chunk_extents s S.extents
    few_first = rested_few s v rested

    few_second : chunk_extents u S.extents ≤ chunk_extents w S.extents
    few_second = no_more S J w u c some again.keeps second

    keeps_second : Keeps S J t
    keeps_second = swept_keeps S J v t a some rested.keeps first

    -- all that lives on the second fits behind the extent to which the last copy of the first went
    behind_gains : FitsBehindLast S J t b → IsChunkExtent S J t b → chunk_extents u S.extents < chunk_extents s S.extents
    behind_gains behind there =
        let less : chunk_extents t S.extents ≤ chunk_extents v S.extents = no_more S J v t a some rested.keeps first in
        ⊎_elim
        (λ kept.
        let fits : t.pointer behind.place + live_pages t.chunks b ≤ S.pages = behind.fits in
        let few : live_pages t.chunks c ≤ live_pages t.chunks b =
        other.fewest b there (other_place t.last behind.place b behind.last behind.apart) in
        let same : live_pages w.chunks c ≡ live_pages t.chunks c = ap (λ (cs : List Chunk). live_pages cs c) again.chunks in
        let pointer : w.pointer behind.place ≡ t.pointer behind.place = kept.1 in
        let gained : chunk_extents u S.extents < chunk_extents w S.extents = single S J w u behind.place c some again.keeps
        (kept.2 behind.last) (behind.chunks.0, kept.0) (last_apart t.last behind.place c behind.last other.not_last)
        (omega arith) second in
        let rest : chunk_extents w S.extents ≤ chunk_extents t S.extents = rested_few t w again in omega (arith, few_first))
        (λ gone.
        let fewer : chunk_extents w S.extents < chunk_extents t S.extents =
        rested_less t w behind.place again behind.chunks.0 behind.chunks.1 gone in
        omega (arith, few_first, few_second))
        (again.kept behind.place behind.chunks.1)

    pub two_gain : chunk_extents u S.extents < chunk_extents s S.extents
    two_gain =
        let few : chunk_extents w S.extents ≤ chunk_extents t S.extents = rested_few t w again in
        let less : chunk_extents t S.extents ≤ chunk_extents v S.extents = no_more S J v t a some rested.keeps first in
        ⊎_elim
        (λ kept.
        let same : (e : ℕ) → live_pages v.chunks e ≡ live_pages s.chunks e =
        (λ e. ap (λ (cs : List Chunk). live_pages cs e) rested.chunks) in
        let fits : live_pages v.chunks a + live_pages v.chunks b ≤ S.pages =
        (let both : live_pages s.chunks a + live_pages s.chunks b ≤ S.pages = one.partner.3 in omega (arith, same a, same b)) in
        ⊎_elim
        (λ fewer. let is : chunk_extents t S.extents < chunk_extents v S.extents = fewer in
        omega (arith, few_first, few_second, few))
        (λ behind. behind_gains behind.1 behind.0)
        (first_or_behind S J v t a b some rested.keeps one.partner.1 (one.partner.2.0, kept.0) fits first))
        (λ gone.
        let fewer : chunk_extents v S.extents < chunk_extents s S.extents =
        rested_less s v b rested one.partner.2.0 one.partner.2.1 gone in
        omega (arith, few_second, few, less))
        (rested.kept b one.partner.2.1)

  double : (k : ℕ) → 2 * suc k ≡ suc (suc (2 * k))
  double k = omega arith

  pub chosen_gain : (n : ℕ) (s t : Room) → 1 ≤ J → Keeps S J s → ChosenSwept S J (2 * n) s t
      → chunk_extents t S.extents + n ≤ chunk_extents s S.extents
  chosen_gain zero s t some keeps swept =
      let same : chunk_extents t S.extents ≡ chunk_extents s S.extents = ap (λ (x : Room). chunk_extents x S.extents) swept in
      omega arith
  chosen_gain (suc n) s t some keeps swept =
      let two : ChosenSwept S J (suc (suc (2 * n))) s t = subst (λ (k : ℕ). ChosenSwept S J k s t) (double n) swept in
      let rested = synced S J two.3 s two.1 some keeps two.5 in
      let good : Keeps S J two.2 = swept_keeps S J two.1 two.2 two.0 some rested.keeps two.6 in
      let again = synced S J two.7.3 two.2 two.7.1 some good two.7.5 in
      let gained : chunk_extents two.7.2 S.extents < chunk_extents s S.extents =
      two_gain s two.1 two.2 two.7.1 two.7.2 two.0 two.7.0 some two.4 rested two.6 two.7.4 again two.7.6 in
      let more : chunk_extents t S.extents + n ≤ chunk_extents two.7.2 S.extents =
      chosen_gain n two.7.2 t some (swept_keeps S J two.7.1 two.7.2 two.7.0 some again.keeps two.7.6) two.7.7 in omega arith

  -- what is left of a store with no sweep
  record IsLeftSo (s t : Room) : Type 0 where
    keeps : Keeps S J t
    all : all_pages t.chunks ≡ all_pages s.chunks

  along : (k : ℕ) (s t : Room) → 1 ≤ J → Keeps S J s → ChosenSwept S J k s t → IsLeftSo s t
  along zero s t some keeps is = record {
    keeps = subst (λ (x : Room). Keeps S J x) (sym is) keeps;
    all = ap (λ (x : Room). all_pages x.chunks) is;
  }
  along (suc k) s t some keeps (c, r, m, n, chosen, syncs, swept, rest) =
      let rested = synced S J n s r some keeps syncs in
      let later = along k m t some (swept_keeps S J r m c some rested.keeps swept) rest in record {
        keeps = later.keeps;
        all = later.all ∙ (sweep_leaves S J r m c some rested.keeps swept).0 ∙ ap all_pages rested.chunks;
      }

  -- so two for each of n extents leave these for puts
  pub chosen_left : (n : ℕ) (s t : Room) → Keeps S J s → 1 ≤ J → s.sweep ≡ None → ChosenSwept S J (2 * n) s t
      → chunk_extents t S.extents + n + J + 2 ≤ S.extents
  chosen_left n s t keeps some none swept =
      let quota : chunk_extents s S.extents + J + 2 ≤ S.extents + opened_by s.sweep = keeps.quotas.chunks in
      let no_fresh : opened_by s.sweep ≡ 0 = ap opened_by none in
      let gained : chunk_extents t S.extents + n ≤ chunk_extents s S.extents = chosen_gain n s t some keeps swept in omega arith

  -- and so do fewer, where none can be chosen then
  pub none_left : (n k : ℕ) (s t : Room) → Keeps S J s → 1 ≤ J → J + n + 3 ≤ S.extents
      → 2 * all_pages s.chunks < (S.extents - (J + 1 + n)) * (S.pages + 1) → ChosenSwept S J k s t → NoTwoFit S J t
      → chunk_extents t S.extents + n + J + 2 ≤ S.extents
  none_left n k s t keeps some large few swept none = let after = along k s t some keeps swept in
      none_fits S J n t large (subst (λ (x : ℕ). 2 * x < (S.extents - (J + 1 + n)) * (S.pages + 1)) (sym after.all) few) none
