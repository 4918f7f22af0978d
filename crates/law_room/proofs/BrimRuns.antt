-- How many sweeps the rule makes until it says none.
use Rattle.std.proofs.Common.{◌≡◌, ◌⊎◌, inl, inr, ⊎_elim, ℕ, zero, suc, ◌+◌, ◌*◌, ◌<◌, ◌≤◌, ◌==◌, Bool, true, false, nat_lt, List, None, if◌then◌else◌, le_of_eq, le_trans, refl, sym, ap, ◌∙◌, subst, arith}
use Rattle.std.proofs.lemmas.Bool.{cases_Bool, cases_lt}
use Rattle.std.proofs.lemmas.Bool.Decides.{nat_tests}
use Rattle.law_machine.specs.Device.{Shape}
use Rattle.law_machine.specs.Lists.{◌∈◌}
use Rattle.law_room.specs.Brim.{IsNext, IsSure, NextSwept, NoneNext, dead_extents, dead_pages, greatest_chunk, sum_to, sure_pages}
use Rattle.law_room.specs.Invariant.{Keeps}
use Rattle.law_room.specs.Rooms.{Chunk, Holding, Room, all_pages, chunk_extents, is_of_chunks, live_pages}
use Rattle.law_room.specs.Sweeps.{IsChosen, IsChunkExtent, IsSwept, NoTwoFit}
use Rattle.law_room.proofs.BrimDead.{dead_few, dead_fewer, dead_kept, dead_rested}
use Rattle.law_room.proofs.BrimGain.{at_most_greatest, gains_by, spare_of, sure_of}
use Rattle.law_room.proofs.BrimRule.{next_chunks, next_or_none}
use Rattle.law_room.proofs.Choosing.{rested_few, rested_less, two_gain}
use Rattle.law_room.proofs.Counts.{chunks_is, count_le}
use Rattle.law_room.proofs.Gaining.{no_more, swept_keeps}
use Rattle.law_room.proofs.Pairs.{FitsBehindLast, first_or_behind}
use Rattle.law_room.proofs.Sharing.{sweep_leaves}
use Rattle.law_room.proofs.Syncing.{IsRested, synced}
use Rattle.law_room.proofs.Weights.{sum_le}
use Rattle.law_room.proofs.Whole.{sweep_there}

module _ (S : Shape) (J : ℕ) where
  -- the measure: how many extents have dead pages, and two for each that holds chunks
  abbrev pub to_do : Room → ℕ
  to_do s = dead_extents s S.extents + 2 * chunk_extents s S.extents

  rested_dead : (s t : Room) → IsRested S J s t → dead_extents t S.extents ≤ dead_extents s S.extents
  rested_dead s t rested = count_le (λ e. nat_lt 0 (dead_pages t e)) (λ e. nat_lt 0 (dead_pages s e)) S.extents
      (λ e lt on. let less : dead_pages t e ≤ dead_pages s e = dead_rested S J s t rested e in
      some_more (dead_pages t e) (dead_pages s e) less on)
    where
      some_more : (a b : ℕ) → a ≤ b → nat_lt 0 a ≡ true → nat_lt 0 b ≡ true
      some_more a b le is = grind (arith, nat_tests)

  -- x was chosen in s, syncs led to v, and a sweep of x from there to t
  module _ (some : 1 ≤ J) (s v t : Room) (x : ℕ) (rested : IsRested S J s v) (swept : IsSwept S J v x t) where
    few_dead : dead_extents t S.extents ≤ dead_extents s S.extents
    few_dead = le_trans (dead_few S J v t x some rested.keeps swept) (rested_dead s v rested)

    few_chunks : chunk_extents t S.extents ≤ chunk_extents s S.extents
    few_chunks = le_trans (no_more S J v t x some rested.keeps swept) (rested_few S J s v rested)

    fewer_dead : 0 < dead_pages s x → dead_extents t S.extents < dead_extents s S.extents
    fewer_dead one =
        let same : dead_pages v x ≡ dead_pages s x = dead_kept S J s v rested x swept.begins.2 in
        let less : dead_extents t S.extents < dead_extents v S.extents = dead_fewer S J v t x some rested.keeps swept (omega arith) in
        let old : dead_extents v S.extents ≤ dead_extents s S.extents = rested_dead s v rested in omega arith

    -- where no two fit after a sweep of one that was chosen by two that fit, it gave an extent
    alone_gains : IsChosen S J s x → NoTwoFit S J t → chunk_extents t S.extents < chunk_extents s S.extents
    alone_gains one no_two =
        let b : ℕ = one.partner.0 in
        let few_rested : chunk_extents v S.extents ≤ chunk_extents s S.extents = rested_few S J s v rested in
        let few_after : chunk_extents t S.extents ≤ chunk_extents v S.extents = no_more S J v t x some rested.keeps swept in
        ⊎_elim
        (λ kept.
        let both : live_pages s.chunks x + live_pages s.chunks b ≤ S.pages = one.partner.3 in
        let a_same : live_pages v.chunks x ≡ live_pages s.chunks x = ap (λ (cs : List Chunk). live_pages cs x) rested.chunks in
        let b_same : live_pages v.chunks b ≡ live_pages s.chunks b = ap (λ (cs : List Chunk). live_pages cs b) rested.chunks in
        ⊎_elim
        (λ fewer. let less : chunk_extents t S.extents < chunk_extents v S.extents = fewer in omega arith)
        (λ behind. absurd (not_behind b behind.0 behind.1 no_two))
        (first_or_behind S J v t x b some rested.keeps one.partner.1 (one.partner.2.0, kept.0) (omega arith) swept))
        (λ gone. let less : chunk_extents v S.extents < chunk_extents s S.extents =
        rested_less S J s v b rested one.partner.2.0 one.partner.2.1 gone in omega arith)
        (rested.kept b one.partner.2.1)
      where
        not_behind : (b : ℕ) → IsChunkExtent S J t b → FitsBehindLast S J t b → NoTwoFit S J t → ⊥
        not_behind b there behind none =
            let keeps : Keeps S J t = swept_keeps S J v t x some rested.keeps swept in
            let over : S.pages < live_pages t.chunks behind.place + live_pages t.chunks b =
            none behind.place b behind.apart behind.chunks there in
            let given : live_pages t.chunks behind.place ≤ t.pointer behind.place =
            le_trans (omega arith) (keeps.lies.given behind.place behind.chunks.0) in
            let fits : t.pointer behind.place + live_pages t.chunks b ≤ S.pages = behind.fits in omega arith

    -- where all extents of chunks still are some, it is as sure as it was
    still_sure : chunk_extents s S.extents ≤ chunk_extents v S.extents
        → sum_to (sure_pages S s x) S.extents
        ≤ sum_to (λ e. sure_of S.pages (greatest_chunk s.chunks) x e (is_of_chunks (v.holds e)) (v.pointer e)) S.extents
    still_sure all = sum_le (sure_pages S s x)
        (λ e. sure_of S.pages (greatest_chunk s.chunks) x e (is_of_chunks (v.holds e)) (v.pointer e)) S.extents
        (λ e lt. elim (cases_Bool (is_of_chunks (s.holds e))) [
          | inl on ↦ le_of_eq (there e lt on)
          | inr off ↦ none e (is_of_chunks (s.holds e)) off
        ])
      where
        none : (e : ℕ) (b : Bool) → b ≡ false → sure_of S.pages (greatest_chunk s.chunks) x e b (s.pointer e)
            ≤ sure_of S.pages (greatest_chunk s.chunks) x e (is_of_chunks (v.holds e)) (v.pointer e)
        none e b off = rw off (both (e == x))
          where
            both : (same : Bool) → (if same then 0 else 0)
                ≤ (if same then 0 else spare_of S.pages (greatest_chunk s.chunks) (is_of_chunks (v.holds e)) (v.pointer e))
            both true = omega arith
            both false = omega arith

        there : (e : ℕ) → e < S.extents → is_of_chunks (s.holds e) ≡ true
            → sure_of S.pages (greatest_chunk s.chunks) x e (is_of_chunks (s.holds e)) (s.pointer e)
            ≡ sure_of S.pages (greatest_chunk s.chunks) x e (is_of_chunks (v.holds e)) (v.pointer e)
        there e lt on = ⊎_elim
            (λ kept. ap (λ (b : Bool). sure_of S.pages (greatest_chunk s.chunks) x e b (s.pointer e))
            (on ∙ sym (ap (λ (h : Holding). is_of_chunks h) kept.0))
            ∙ ap (sure_of S.pages (greatest_chunk s.chunks) x e (is_of_chunks (v.holds e))) (sym kept.1))
            (λ gone. absurd (let less : chunk_extents v S.extents < chunk_extents s S.extents =
            rested_less S J s v e rested lt (chunks_is (s.holds e) on) gone in omega (arith, all)))
            (rested.kept e (chunks_is (s.holds e) on))

    sure_gains_then : S.fills ≡ true → IsSure S s x → chunk_extents t S.extents < chunk_extents s S.extents
    sure_gains_then filled sure =
        let few_rested : chunk_extents v S.extents ≤ chunk_extents s S.extents = rested_few S J s v rested in
        let few_after : chunk_extents t S.extents ≤ chunk_extents v S.extents = no_more S J v t x some rested.keeps swept in
        elim (cases_lt (chunk_extents v S.extents) (chunk_extents s S.extents)) [
          | inl fewer ↦ omega arith
          | inr all ↦ (
              let lives : 0 < live_pages s.chunks x = sure.0 in
              let same : live_pages v.chunks x ≡ live_pages s.chunks x = ap (λ (cs : List Chunk). live_pages cs x) rested.chunks in
              let few : live_pages s.chunks x ≤ sum_to (sure_pages S s x) S.extents = sure.1 in
              let still : sum_to (sure_pages S s x) S.extents
              ≤ sum_to (λ e. sure_of S.pages (greatest_chunk s.chunks) x e (is_of_chunks (v.holds e)) (v.pointer e)) S.extents =
              still_sure all in
              let gained : chunk_extents t S.extents < chunk_extents v S.extents = gains_by S J (greatest_chunk s.chunks) v t x some
              filled rested.keeps (λ c got. at_most_greatest s.chunks c (subst (λ (cs : List Chunk). c ∈ cs) rested.chunks got))
              (omega arith) (omega arith) swept in omega arith)
        ]

    -- a sweep by the rule does something, unless two fit
    falls : S.fills ≡ true → IsNext S J s x → (to_do t < to_do s) ⊎ IsChosen S J s x
    falls filled (inl one) = inr one
    falls filled (inr (inl dead)) = inl (
        let less : dead_extents t S.extents < dead_extents s S.extents = fewer_dead dead.1.1 in
        let few : chunk_extents t S.extents ≤ chunk_extents s S.extents = few_chunks in omega arith)
    falls filled (inr (inr sure)) = inl (
        let few : dead_extents t S.extents ≤ dead_extents s S.extents = few_dead in
        let less : chunk_extents t S.extents < chunk_extents s S.extents = sure_gains_then filled sure.3 in omega arith)

    -- then it does two things
    falls_alone : IsChosen S J s x → NoTwoFit S J t → to_do t + 2 ≤ to_do s
    falls_alone one none =
        let few : dead_extents t S.extents ≤ dead_extents s S.extents = few_dead in
        let less : chunk_extents t S.extents < chunk_extents s S.extents = alone_gains one none in omega arith

  -- or two sweeps do
  falls_twice : 1 ≤ J → (s v t w u : Room) (x y : ℕ) → IsChosen S J s x → IsRested S J s v → IsSwept S J v x t
      → IsChosen S J t y → IsRested S J t w → IsSwept S J w y u → to_do u + 2 ≤ to_do s
  falls_twice some s v t w u x y one rested first other again second =
      let a : dead_extents t S.extents ≤ dead_extents s S.extents = few_dead some s v t x rested first in
      let b : dead_extents u S.extents ≤ dead_extents t S.extents = few_dead some t w u y again second in
      let less : chunk_extents u S.extents < chunk_extents s S.extents =
      two_gain S J s v t w u x y some one rested first other again second in omega arith

  -- how many sweeps there were, and how many where no two fit then
  abbrev IsBound : (k : ℕ) (s t : Room) → Type 0
  IsBound k s t = (k + to_do t ≤ to_do s + 1) × (NoTwoFit S J t → k + to_do t ≤ to_do s)

  no_two_of : (s : Room) (x : ℕ) → IsNext S J s x → IsChosen S J s x ⊎ NoTwoFit S J s
  no_two_of s x (inl one) = inl one
  no_two_of s x (inr (inl dead)) = inr dead.0
  no_two_of s x (inr (inr sure)) = inr sure.0

  once : 1 ≤ J → S.fills ≡ true → (s v t : Room) (x : ℕ) → IsNext S J s x → IsRested S J s v → IsSwept S J v x t → IsBound 1 s t
  once some filled s v t x next rested swept =
      let few : chunk_extents t S.extents ≤ chunk_extents s S.extents = few_chunks some s v t x rested swept in
      let dead : dead_extents t S.extents ≤ dead_extents s S.extents = few_dead some s v t x rested swept in (
        omega arith,
        λ none. ⊎_elim
            (λ (less : to_do t < to_do s). (let is : to_do t < to_do s = less in omega arith))
            (λ (one : IsChosen S J s x). (let less : to_do t + 2 ≤ to_do s = falls_alone some s v t x rested swept one none in omega arith))
            (falls some s v t x rested swept filled next),
      )

  -- a sweep that did something, and others
  after_one : (k : ℕ) (s m t : Room) → to_do m < to_do s → IsBound k m t → IsBound (suc k) s t
  after_one k s m t less (some_more, none_more) = (
    omega (arith, less, some_more),
    λ none. (let rest : k + to_do t ≤ to_do m = none_more none in
        omega (arith, less)),
  )

  after_two : (k : ℕ) (s m t : Room) → to_do m + 2 ≤ to_do s → IsBound k m t → IsBound (suc (suc k)) s t
  after_two k s m t less (some_more, none_more) = (
    omega (arith, less, some_more),
    λ none. (let rest : k + to_do t ≤ to_do m = none_more none in
        omega (arith, less)),
  )

  pub bound : (k : ℕ) (s t : Room) → 1 ≤ J → S.fills ≡ true → Keeps S J s → NextSwept S J k s t → IsBound k s t
  bound zero s t some filled keeps is = rw is (omega arith, λ none. omega arith)
  bound (suc zero) s t some filled keeps (x, v, m, syncs, next, rests, swept, is) =
      rw is (once some filled s v m x next (synced S J syncs s v some keeps rests) swept)
  bound (suc (suc k)) s t some filled keeps (x, v, m, syncs, next, rests, swept, (y, w, u, more, again, rests_more, second, rest)) =
      let first : IsRested S J s v = synced S J syncs s v some keeps rests in
      let good : Keeps S J m = swept_keeps S J v m x some first.keeps swept in
      let other : IsRested S J m w = synced S J more m w some good rests_more in
      let later : IsBound (suc k) m t = bound (suc k) m t some filled good (y, w, u, more, again, rests_more, second, rest) in
      ⊎_elim
      (λ (less : to_do m < to_do s). after_one (suc k) s m t less later)
      (λ (one : IsChosen S J s x). ⊎_elim
      (λ (two : IsChosen S J m y). after_two k s u t (falls_twice some s v m w u x y one first swept two other second)
      (bound k u t some filled (swept_keeps S J w u y some other.keeps second) rest))
      (λ (none : NoTwoFit S J m). after_one (suc k) s m t (let less : to_do m + 2 ≤ to_do s = falls_alone some s v m x first swept one none in
      omega arith) later)
      (no_two_of m y again))
      (falls some s v m x first swept filled next)

  -- what the rule leaves
  record IsEnd (s t : Room) : Type 0 where
    keeps : Keeps S J t
    rests : t.sweep ≡ None
    all : all_pages t.chunks ≡ all_pages s.chunks

  pub along : (k : ℕ) (s t : Room) → 1 ≤ J → Keeps S J s → s.sweep ≡ None → NextSwept S J k s t
      → Keeps S J t × (t.sweep ≡ None) × (all_pages t.chunks ≡ all_pages s.chunks)
  along zero s t some keeps none is = rw is (keeps, none, refl)
  along (suc k) s t some keeps none (x, v, m, events, next, rests, swept, rest) =
      let rested : IsRested S J s v = synced S J events s v some keeps rests in
      let left = sweep_leaves S J v m x some rested.keeps swept in
      let later = along k m t some (swept_keeps S J v m x some rested.keeps swept) left.1 rest in
      (later.0, later.1, later.2 ∙ left.0 ∙ ap all_pages rested.chunks)

  -- n sweeps are made by the rule, or it says none before
  run : (n : ℕ) (s : Room) → 1 ≤ J → Keeps S J s → s.sweep ≡ None
      → ((k : ℕ) × (t : Room) × NextSwept S J k s t × NoneNext S J t × IsEnd s t) ⊎ ((t : Room) × NextSwept S J n s t)
  run zero s some keeps none = inr (s, refl)
  run (suc n) s some keeps none = ⊎_elim
      (λ next.
      let made = sweep_there S J s next.0 0 0 0 keeps none (next_chunks S J s next.0 next.1) (omega arith) in
      let m : Room = made.0 in
      let left = sweep_leaves S J s m next.0 some keeps made.1 in
      ⊎_elim
      (λ ends. inl (
        suc ends.0,
        ends.1,
        (next.0, s, m, 0, next.1, refl, made.1, ends.2),
        ends.3,
        (record { keeps = ends.4.keeps; rests = ends.4.rests; all = ends.4.all ∙ left.0 }),
      ))
      (λ more. inr (more.0, (next.0, s, m, 0, next.1, refl, made.1, more.1)))
      (run n m some (swept_keeps S J s m next.0 some keeps made.1) left.1))
      (λ ends. inl (0, s, refl, ends, (record { keeps = keeps; rests = none; all = refl })))
      (next_or_none S J s keeps)

  pub ends : (s : Room) → 1 ≤ J → S.fills ≡ true → Keeps S J s → s.sweep ≡ None
      → (k : ℕ) × (t : Room) × NextSwept S J k s t × NoneNext S J t × Keeps S J t × (t.sweep ≡ None)
      × (all_pages t.chunks ≡ all_pages s.chunks)
  ends s some filled keeps none = ⊎_elim
      (λ done. (done.0, done.1, done.2, done.3, done.4.keeps, done.4.rests, done.4.all))
      (λ more. absurd (let few : (to_do s + 2) + to_do more.0 ≤ to_do s + 1 =
      (bound (to_do s + 2) s more.0 some filled keeps more.1).0 in omega arith))
      (run (to_do s + 2) s some keeps none)

  pub most_sweeps : (k : ℕ) (s t : Room) → 1 ≤ J → S.fills ≡ true → Keeps S J s → NextSwept S J k s t
      → k + dead_extents t S.extents + 2 * chunk_extents t S.extents
      ≤ dead_extents s S.extents + 2 * chunk_extents s S.extents + 1
  most_sweeps k s t some filled keeps swept = let all : k + to_do t ≤ to_do s + 1 = (bound k s t some filled keeps swept).0 in omega arith

  pub most_until_none : (k : ℕ) (s t : Room) → 1 ≤ J → S.fills ≡ true → Keeps S J s → NextSwept S J k s t → NoTwoFit S J t
      → k + dead_extents t S.extents + 2 * chunk_extents t S.extents ≤ dead_extents s S.extents + 2 * chunk_extents s S.extents
  most_until_none k s t some filled keeps swept none =
      let all : k + to_do t ≤ to_do s = (bound k s t some filled keeps swept).1 none in omega arith
