-- How many whole extents are left when the rule says none.
use Rattle.std.proofs.Common.{◌≡◌, ◌≢◌, inl, inr, ℕ, suc, ◌+◌, ◌-◌, ◌*◌, ◌<◌, ◌≤◌, ◌==◌, Bool, true, false, List, [], ◌∷◌, if◌then◌else◌, refl, ap, ◌∙◌, arith}
use Rattle.std.proofs.Math.Nat.{max-le}
use Rattle.std.proofs.lemmas.Bool.{cases_lt, ne_eqb}
use Rattle.law_machine.specs.Device.{Shape}
use Rattle.law_machine.specs.Lists.{◌∈◌}
use Rattle.law_room.specs.Brim.{AreFewFor, NoneNext, greatest_chunk, sum_to, sure_pages}
use Rattle.law_room.specs.Invariant.{Keeps}
use Rattle.law_room.specs.Rooms.{Chunk, Room, all_pages, chunk_extents, copied_pages, how_many, is_of_chunks, live_pages}
use Rattle.law_room.specs.Sweeps.{IsChunkExtent, IsLeastPair}
use Rattle.law_room.proofs.BrimGain.{spare_of, sure_of}
use Rattle.law_room.proofs.BrimRule.{given_is, no_less}
use Rattle.law_room.proofs.Counts.{chunks_is}
use Rattle.law_room.proofs.Sharing.{least_pair}
use Rattle.law_room.proofs.Weights.{but, but_is, but_one, except, except_other, sum_except, sum_live, sum_plus, sum_times, times}

greatest_at_most : (cs : List Chunk) (c : ℕ) → ((d : Chunk) → d ∈ cs → d.pages ≤ c) → greatest_chunk cs ≤ c
greatest_at_most [] c each = omega arith
greatest_at_most (x ∷ cs) c each = max-le (each x (inl refl)) (greatest_at_most cs c (λ d there. each d (inr there)))

no_pages : (cs : List Chunk) → ((d : Chunk) → d ∈ cs → d.pages ≤ 0) → all_pages cs ≡ 0
no_pages [] each = refl
no_pages (x ∷ cs) each = let rest : all_pages cs ≡ 0 = no_pages cs (λ d there. each d (inr there)) in
    let here : x.pages ≤ 0 = each x (inl refl) in omega arith

-- what is sure of another extent of chunks
sure_there : (P g x e p : ℕ) (b : Bool) → e ≢ x → b ≡ true → sure_of P g x e b p ≡ (P - p) - (g - 1)
sure_there P g x e p b other on = let off : (e == x) ≡ false = ne_eqb e x other in
    ap (λ (same : Bool). if same then 0 else spare_of P g b p) off ∙ ap (λ (c : Bool). spare_of P g c p) on

module _ (S : Shape) (J n c : ℕ) (s : Room) (keeps : Keeps S J s) (none : NoneNext S J s) (few : AreFewFor S J n c s) where
  g : ℕ
  g = greatest_chunk s.chunks

  -- of extents of chunks other than x: they, but for x
  abbrev others : ℕ → ℕ → Bool
  others x = but (λ e. is_of_chunks (s.holds e)) x

  abbrev sure_and_live : ℕ → ℕ → ℕ
  sure_and_live x e = sure_pages S s x e + except (live_pages s.chunks) x e

  each_has : (x e : ℕ) → 1 ≤ c → e < S.extents → others x e ≡ true → S.pages + 1 - c ≤ sure_and_live x e
  each_has x e one lt on =
      let at = but_is (λ d. is_of_chunks (s.holds d)) x e on in
      let sure : sure_pages S s x e ≡ (S.pages - s.pointer e) - (greatest_chunk s.chunks - 1) =
      sure_there S.pages (greatest_chunk s.chunks) x e (s.pointer e) (is_of_chunks (s.holds e)) at.0 at.1 in
      let lives : except (live_pages s.chunks) x e ≡ live_pages s.chunks e = except_other (live_pages s.chunks) x e at.0 in
      let given : s.pointer e ≡ live_pages s.chunks e = given_is S J s e keeps none.nothing (lt, chunks_is (s.holds e) at.1) in
      let fits : s.pointer e ≤ S.pages = keeps.lies.fits e lt in
      let small : greatest_chunk s.chunks ≤ c = greatest_at_most s.chunks c few.each in omega arith

  -- the sweep of x would be sure, if as many extents hold chunks as little enough lives for, and another one
  sure_then : (x : ℕ) → IsChunkExtent S J s x → 1 ≤ c → S.extents - (J + 2 + n) < chunk_extents s S.extents
      → live_pages s.chunks x ≤ sum_to (sure_pages S s x) S.extents
  sure_then x is one many =
      let q : ℕ = S.pages + 1 - c in
      let m : ℕ = S.extents - (J + 2 + n) in
      let k : ℕ = how_many (others x) S.extents in
      let most : chunk_extents s S.extents ≤ suc (how_many (others x) S.extents) =
      but_one (λ e. is_of_chunks (s.holds e)) x S.extents in
      let all : how_many (others x) S.extents * (S.pages + 1 - c) ≤ sum_to (sure_and_live x) S.extents =
      sum_times (others x) (sure_and_live x) (S.pages + 1 - c) S.extents (λ e lt on. each_has x e one lt on) in
      let parts : sum_to (sure_and_live x) S.extents
      ≡ sum_to (sure_pages S s x) S.extents + sum_to (except (live_pages s.chunks) x) S.extents =
      sum_plus (sure_pages S s x) (except (live_pages s.chunks) x) S.extents in
      let live : sum_to (live_pages s.chunks) S.extents
      ≡ live_pages s.chunks x + sum_to (except (live_pages s.chunks) x) S.extents =
      sum_except (live_pages s.chunks) x S.extents is.0 in
      let total : sum_to (live_pages s.chunks) S.extents ≤ all_pages s.chunks = sum_live s.chunks S.extents in
      let little : all_pages s.chunks ≤ (S.extents - (J + 2 + n)) * (S.pages + 1 - c) = few.few in
      let wide : (S.extents - (J + 2 + n)) * (S.pages + 1 - c) ≤ how_many (others x) S.extents * (S.pages + 1 - c) =
      times (S.extents - (J + 2 + n)) (how_many (others x) S.extents) (S.pages + 1 - c) (omega arith) in omega arith

  -- two extents of chunks with the least
  module _ (a b : ℕ) (least : IsLeastPair S J s a b) where
    both_over : S.pages < live_pages s.chunks a + live_pages s.chunks b
    both_over = none.no_two a b least.two least.first least.second

    some_on_a : 0 < live_pages s.chunks a
    some_on_a =
        let lives : live_pages s.chunks b + copied_pages s.chunks b ≤ s.pointer b = keeps.lies.given b least.second.0 in
        let fits : s.pointer b ≤ S.pages = keeps.lies.fits b least.second.0 in omega (arith, both_over)

    some_chunk : 1 ≤ c
    some_chunk = elim (cases_lt 0 c) [
      | inl some ↦ omega arith
      | inr zero_pages ↦ absurd (
          let all : all_pages s.chunks ≡ 0 = no_pages s.chunks (λ d there. (let small : d.pages ≤ c = few.each d there in omega arith)) in
          let live : sum_to (live_pages s.chunks) S.extents
          ≡ live_pages s.chunks a + sum_to (except (live_pages s.chunks) a) S.extents =
          sum_except (live_pages s.chunks) a S.extents least.first.0 in
          let total : sum_to (live_pages s.chunks) S.extents ≤ all_pages s.chunks = sum_live s.chunks S.extents in
          omega (arith, some_on_a))
    ]

    wrong : S.extents - (J + 2 + n) < chunk_extents s S.extents → ⊥
    wrong many = none.unsure a (least.first, (λ e is. no_less S J s a b least e is))
        (some_on_a, sure_then a least.first some_chunk many)

  pub left_by_greatest : J + n + 3 ≤ S.extents → chunk_extents s S.extents + n + J + 2 ≤ S.extents
  left_by_greatest large = elim (cases_lt (S.extents - (J + 2 + n)) (chunk_extents s S.extents)) [
    | inr few_hold ↦ omega (arith, large)
    | inl many ↦ (let pair = least_pair S J s (omega (arith, large)) in absurd (wrong pair.0 pair.1 pair.2 many))
  ]
