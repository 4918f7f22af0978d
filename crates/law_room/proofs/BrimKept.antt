-- Sweeps by the rule keep what lives, so what was little enough before them is so after.
use Rattle.std.proofs.Common.{◌≡◌, inl, inr, ℕ, zero, suc, ◌+◌, ◌-◌, ◌*◌, ◌≤◌, true, List, [], ◌∷◌, ◌++◌, map, None, refl, sym, ap, ◌∙◌, subst, arith}
use Rattle.law_machine.specs.Device.{Shape}
use Rattle.law_machine.specs.Lists.{◌∈◌}
use Rattle.law_room.specs.Brim.{AreFewFor, FitBeside, NextSwept, NoneNext, dead_extents}
use Rattle.law_room.specs.Events.{Does, Put, settle}
use Rattle.law_room.specs.Invariant.{Keeps}
use Rattle.law_room.specs.Rooms.{Chunk, Room, Sweep, all_pages, chunk_extents}
use Rattle.law_room.specs.Sweeps.{IsSwept}
use Rattle.law_room.proofs.BrimPuts.{beside_all, put_there}
use Rattle.law_room.proofs.BrimRuns.{along, ends, most_until_none}
use Rattle.law_room.proofs.BrimShare.{left_by_greatest}
use Rattle.law_room.proofs.Gaining.{IsKept, IsSweptWith, swept_keeps, swept_with}
use Rattle.law_room.proofs.Moving.{copied_to}
use Rattle.law_room.proofs.Syncing.{IsRested, synced}

-- how many pages each chunk takes
abbrev pub sizes_of : List Chunk → List ℕ
sizes_of cs = map (λ (c : Chunk). c.pages) cs

same_sizes : (xs ys : List Chunk) (c d : Chunk) → c.pages ≡ d.pages → sizes_of (xs ++ c ∷ ys) ≡ sizes_of (xs ++ d ∷ ys)
same_sizes [] ys c d same = ap (λ (n : ℕ). n ∷ sizes_of ys) same
same_sizes (x ∷ xs) ys c d same = ap (λ (ns : List ℕ). x.pages ∷ ns) (same_sizes xs ys c d same)

settle_sizes : (cs : List Chunk) → sizes_of (map settle cs) ≡ sizes_of cs
settle_sizes [] = refl
settle_sizes (c ∷ cs) = ap (λ (ns : List ℕ). c.pages ∷ ns) (settle_sizes cs)

-- what no chunk of the one list passes none of the other does
each_too : (most : ℕ) (cs ds : List Chunk) → sizes_of cs ≡ sizes_of ds → ((d : Chunk) → d ∈ ds → d.pages ≤ most)
    → (c : Chunk) → c ∈ cs → c.pages ≤ most
each_too most [] ds same each c none = absurd none
each_too most (x ∷ cs) [] same each c there = absurd (let wrong : x.pages ∷ sizes_of cs ≡ [] = same in cc)
each_too most (x ∷ cs) (y ∷ ds) same each c (inl is) =
    let first : x.pages ≡ y.pages = (let both : x.pages ∷ sizes_of cs ≡ y.pages ∷ sizes_of ds = same in cc) in
    subst (λ (n : ℕ). n ≤ most) (sym (ap (λ (z : Chunk). z.pages) is ∙ first)) (each y (inl refl))
each_too most (x ∷ cs) (y ∷ ds) same each c (inr there) =
    let rest : sizes_of cs ≡ sizes_of ds = (let both : x.pages ∷ sizes_of cs ≡ y.pages ∷ sizes_of ds = same in cc) in
    each_too most cs ds rest (λ d got. each d (inr got)) c there

module _ (S : Shape) (J : ℕ) where
  abbrev SizesStay : List ℕ → Room → Sweep → Type 0
  SizesStay sizes s w = sizes_of s.chunks ≡ sizes

  sizes_stay : (sizes : List ℕ) → IsKept S J (SizesStay sizes)
  sizes_stay sizes s w before c behind e fresh keeps is copied old =
      same_sizes before behind (copied_to c e) c refl ∙ ap sizes_of (sym copied.chunks) ∙ old

  swept_sizes : (s t : Room) (x : ℕ) → 1 ≤ J → Keeps S J s → IsSwept S J s x t → sizes_of t.chunks ≡ sizes_of s.chunks
  swept_sizes s t x some keeps swept =
      let all : IsSweptWith S J (SizesStay (sizes_of s.chunks)) s x t = swept_with S J (SizesStay (sizes_of s.chunks))
      (sizes_stay (sizes_of s.chunks)) s t x some keeps refl swept in
      ap sizes_of all.staged.chunks ∙ settle_sizes all.moved.chunks ∙ all.moves.kept.0

  next_sizes : (k : ℕ) (s t : Room) → 1 ≤ J → Keeps S J s → NextSwept S J k s t → sizes_of t.chunks ≡ sizes_of s.chunks
  next_sizes zero s t some keeps is = ap (λ (x : Room). sizes_of x.chunks) is
  next_sizes (suc k) s t some keeps (x, v, m, events, next, rests, swept, rest) =
      let rested : IsRested S J s v = synced S J events s v some keeps rests in
      next_sizes k m t some (swept_keeps S J v m x some rested.keeps swept) rest
      ∙ swept_sizes v m x some rested.keeps swept ∙ ap sizes_of rested.chunks

  -- so where little enough lived, n whole extents are left once the rule says none
  pub left_then : (n c k : ℕ) (s t : Room) → 1 ≤ J → Keeps S J s → s.sweep ≡ None → J + n + 3 ≤ S.extents → AreFewFor S J n c s
      → NextSwept S J k s t → NoneNext S J t → chunk_extents t S.extents + n + J + 2 ≤ S.extents
  left_then n c k s t some keeps rests large few swept none =
      let after = along S J k s t some keeps rests swept in
      left_by_greatest S J n c t after.0 none (record {
        each = each_too c t.chunks s.chunks (next_sizes k s t some keeps swept) few.each;
        few = (let same : all_pages t.chunks ≡ all_pages s.chunks = after.2 in
            let old : all_pages s.chunks ≤ (S.extents - (J + 2 + n)) * (S.pages + 1 - c) = few.few in omega arith);
      }) large

  -- and a put that fits beside what lived has a place
  pub put_then : (s : Room) (id : ℕ) (sizes : List ℕ) → 1 ≤ J → S.fills ≡ true → Keeps S J s → s.sweep ≡ None
      → FitBeside S J (all_pages s.chunks) sizes → (k : ℕ) × (t : Room) × (u : Room) × NextSwept S J k s t
      × Does S J t (Put id sizes) u
      × (k + 2 * chunk_extents t S.extents ≤ dead_extents s S.extents + 2 * chunk_extents s S.extents)
  put_then s id sizes some filled keeps rests fit =
      let end = ends S J s some filled keeps rests in
      let t : Room = end.1 in
      let beside : FitBeside S J (all_pages t.chunks) sizes = subst (λ (n : ℕ). FitBeside S J n sizes) (sym end.6) fit in
      let put = put_there S J t id sizes end.4 end.5 (beside_all S J t sizes end.3.nothing beside) in
      let few : end.0 + dead_extents t S.extents + 2 * chunk_extents t S.extents
      ≤ dead_extents s S.extents + 2 * chunk_extents s S.extents =
      most_until_none S J end.0 s t some filled keeps end.2 end.3.no_two in
      (end.0, t, put.0, end.2, put.1, omega arith)
