-- What a sweep gains.
use Rattle.std.proofs.Common.{◌≡◌, ◌≢◌, inl, inr, ℕ, zero, suc, ◌+◌, ◌<◌, ◌≤◌, ◌==◌, false, List, [], ◌∷◌, map, Option, Some, None, refl, sym, ap, ◌∙◌, subst, arith}
use Rattle.std.proofs.lemmas.Bool.{ne_eqb}
use Rattle.law_machine.specs.Device.{Shape}
use Rattle.law_room.specs.Events.{GoesForCopy, TakesCopy, settle, settled, unless, with_copy}
use Rattle.law_room.specs.Invariant.{Keeps, LiesRight}
use Rattle.law_room.specs.Rooms.{Chunk, OfChunks, Room, Sweep, any_on, chunk_extents, how_many, left_pages, live_pages, one_if}
use Rattle.law_room.specs.Sweeps.{IsChunkExtent, IsSwept, Moves}
use Rattle.law_room.proofs.Chunks.{left_le}
use Rattle.law_room.proofs.Given.{kind_stays, pointer_here}
use Rattle.law_room.proofs.Moving.{IsCopied, left_before, moved_chunks, moved_keeps}
use Rattle.law_room.proofs.Opening.{begin_keeps}
use Rattle.law_room.proofs.Retiring.{retire_is, retire_keeps, retired_few, settled_fewer, settled_none, settled_orderly}
use Rattle.law_room.proofs.Staging.{IsStaged}
use Rattle.law_room.proofs.Syncing.{IsRested, staged_rested, synced}

pub some_sweep : (v w : Sweep) → Some v ≡ Some w → v ≡ w
some_sweep v w same = ap (λ (o : Option Sweep). or_else o) same
  where
    or_else : Option Sweep → Sweep
    or_else None = v
    or_else (Some x) = x

abbrev pub noted : Sweep → ℕ → Option ℕ → Sweep
noted w e fresh = record w { fresh = fresh; targets = e ∷ w.targets }

abbrev pub sweep_begun : ℕ → Sweep
sweep_begun e = record { extent = e; fresh = None; targets = [] }

abbrev pub begun : Room → ℕ → Room
begun s e = record s {
  sweep = Some (record { extent = e; fresh = None; targets = [] });
  open_extent = unless (λ d. d == e) s.open_extent;
  last = unless (λ d. d == e) s.last;
}

module _ (S : Shape) (J : ℕ) where
  -- what is known at the end of moves, where Q is kept by each
  pub record IsMoved (Q : Room → Sweep → Type 0) (e : ℕ) (t : Room) : Type 0 where
    pub sweep : Sweep
    pub keeps : Keeps S J t
    pub is : t.sweep ≡ Some sweep
    pub extent : sweep.extent ≡ e
    pub kept : Q t sweep

  abbrev pub IsKept : (Room → Sweep → Type 0) → Type 0
  IsKept Q = (s : Room) (w : Sweep) (before : List Chunk) (c : Chunk) (behind : List Chunk) (e : ℕ) (fresh : Option ℕ)
      → Keeps S J s → s.sweep ≡ Some w → IsCopied S s w before c behind e fresh → Q s w
      → Q (with_copy S s w before c behind e fresh) (noted w e fresh)

  pub along : (Q : Room → Sweep → Type 0) → IsKept Q → (n : ℕ) (s t : Room) (w : Sweep) → Keeps S J s → s.sweep ≡ Some w
      → Q s w → Moves S J n s t → IsMoved Q w.extent t
  along Q step zero s t w keeps is kept done = rw done (record {
    sweep = w;
    keeps = keeps;
    is = is;
    extent = refl;
    kept = kept;
  })
  along Q step (suc n) s t w keeps is kept moves =
      let does = moves.1 in
      let same : w ≡ does.0 = some_sweep w does.0 (sym is ∙ does.6) in
      let copied : IsCopied S s does.0 does.1 does.2 does.3 does.4 does.5 = record {
        chunks = does.7;
        left = does.8;
        goes = does.9;
      } in
      let mid : Room = with_copy S s does.0 does.1 does.2 does.3 does.4 does.5 in
      let rest : IsMoved Q does.0.extent t = along Q step n mid t (noted does.0 does.4 does.5)
      (moved_keeps S J s does.0 does.1 does.2 does.3 does.4 does.5 keeps does.6 copied) refl
      (step s does.0 does.1 does.2 does.3 does.4 does.5 keeps does.6 copied
      (subst (λ (x : Sweep). Q s x) same kept))
      (subst (λ (x : Room). Moves S J n x t) does.10 moves.2) in
      subst (λ (x : Sweep). IsMoved Q x.extent t) (sym same) rest

  -- the sweep has opened at most one extent, and that is all that more extents hold chunks
  abbrev pub OneMore : ℕ → Room → Sweep → Type 0
  OneMore most s w = chunk_extents s S.extents ≤ most + one_if w.fresh

  one_more : (most : ℕ) → IsKept (OneMore most)
  one_more most s w before c behind e fresh keeps is copied less =
      let more : chunk_extents (with_copy S s w before c behind e fresh) S.extents + one_if w.fresh
      ≤ chunk_extents s S.extents + one_if fresh = moved_chunks S J s w before c behind e fresh keeps is copied in
      omega (arith, less)

  -- a sweep of e, with what each move keeps
  pub record IsSweptWith (Q : Room → Sweep → Type 0) (s : Room) (e : ℕ) (t : Room) : Type 0 where
    pub moved : Room
    pub moves : IsMoved (λ m w. Q m w × OneMore (chunk_extents s S.extents) m w) e moved
    pub staged : IsStaged S J (settled moved) t
    pub fewer : chunk_extents t S.extents ≤ how_many (any_on (map settle moved.chunks)) S.extents
    pub less : how_many (any_on (map settle moved.chunks)) S.extents < chunk_extents moved S.extents
    pub lies : LiesRight S J (settled moved)
    pub nothing : any_on (map settle moved.chunks) e ≡ false
    pub keeps : Keeps S J t

  pub swept_with : (Q : Room → Sweep → Type 0) → IsKept Q → (s t : Room) (e : ℕ) → 1 ≤ J → Keeps S J s
      → Q (begun s e) (sweep_begun e) → IsSwept S J s e t → IsSweptWith Q s e t
  swept_with Q step s t e some keeps first swept =
      let begins = swept.begins in
      let moves : IsMoved (λ m w. Q m w × OneMore (chunk_extents s S.extents) m w) e swept.moved = along
      (λ m w. Q m w × OneMore (chunk_extents s S.extents) m w)
      (λ m w before c behind d fresh good is copied both. (
        step m w before c behind d fresh good is copied both.0,
        one_more (chunk_extents s S.extents) m w before c behind d fresh good is copied both.1,
      ))
      swept.moves (begun s e) swept.moved (sweep_begun e)
      (begin_keeps S J s e keeps begins.0 begins.1 begins.2) refl (first, omega arith)
      (subst (λ (x : Room). Moves S J swept.moves x swept.moved) begins.3 swept.goes) in
      let retires = swept.retires in
      let same : retires.0.extent ≡ e = ap (λ (w : Sweep). w.extent)
      (some_sweep retires.0 moves.sweep (sym retires.1 ∙ moves.is)) ∙ moves.extent in
      let first_after : IsStaged S J (settled swept.moved) swept.retired = retire_is S J swept.moved swept.retired
      retires.0 swept.newest swept.pages swept.all some moves.keeps retires.1 retires.2 retires.3 in
      let rested : IsRested S J swept.retired t = synced S J swept.events swept.retired t some
      (retire_keeps S J swept.moved swept.retired retires.0 swept.newest swept.pages swept.all some moves.keeps retires.1
      retires.2 retires.3) swept.syncs in
      let after : IsStaged S J (settled swept.moved) t = staged_rested S J (settled swept.moved) swept.retired t
      first_after rested in record {
        moved = swept.moved;
        moves = moves;
        staged = after;
        fewer = retired_few S J swept.moved t after;
        less = settled_fewer S J swept.moved retires.0 moves.keeps retires.1 retires.2;
        lies = (settled_orderly S J swept.moved retires.0 moves.keeps retires.1 retires.2).lies;
        nothing = subst (λ (x : ℕ). any_on (map settle swept.moved.chunks) x ≡ false) same
            (settled_none S J swept.moved retires.0 moves.keeps retires.1 retires.2);
        keeps = rested.keeps;
      }

  abbrev Anything : Room → Sweep → Type 0
  Anything s w = Unit {0}

  swept_plain : (s t : Room) (e : ℕ) → 1 ≤ J → Keeps S J s → IsSwept S J s e t → IsSweptWith Anything s e t
  swept_plain s t e some keeps swept = swept_with Anything
      (λ m w before c behind d fresh good is copied has_it. tt) s t e some keeps tt swept

  at_most_one : (o : Option ℕ) → one_if o ≤ 1
  at_most_one None = omega arith
  at_most_one (Some e) = omega arith

  pub no_more : (s t : Room) (e : ℕ) → 1 ≤ J → Keeps S J s → IsSwept S J s e t
      → chunk_extents t S.extents ≤ chunk_extents s S.extents
  no_more s t e some keeps swept = let all : IsSweptWith Anything s e t = swept_plain s t e some keeps swept in
      let a : chunk_extents t S.extents ≤ how_many (any_on (map settle all.moved.chunks)) S.extents = all.fewer in
      let b : how_many (any_on (map settle all.moved.chunks)) S.extents < chunk_extents all.moved S.extents = all.less in
      let c : chunk_extents all.moved S.extents ≤ chunk_extents s S.extents + one_if all.moves.sweep.fresh =
      all.moves.kept.1 in
      let one : one_if all.moves.sweep.fresh ≤ 1 = at_most_one all.moves.sweep.fresh in omega arith

  pub swept_keeps : (s t : Room) (e : ℕ) → 1 ≤ J → Keeps S J s → IsSwept S J s e t → Keeps S J t
  swept_keeps s t e some keeps swept = (swept_plain s t e some keeps swept).keeps

  -- all that is left fits behind d, where the last copy went
  record FitsBehind (d : ℕ) (s : Room) (w : Sweep) : Type 0 where
    none : w.fresh ≡ None
    last : s.last ≡ Some d
    there : d < S.extents
    chunks : s.holds d ≡ OfChunks
    apart : d ≢ w.extent
    fits : s.pointer d + left_pages s.chunks w.extent ≤ S.pages

  some_number : (a b : ℕ) → Some a ≡ Some b → a ≡ b
  some_number a b same = cc

  fits_behind : (d : ℕ) → IsKept (FitsBehind d)
  fits_behind d s w before c behind e fresh keeps is copied room =
      let parts : left_pages s.chunks w.extent
      ≡ c.pages + left_pages (with_copy S s w before c behind e fresh).chunks w.extent = left_before S J s w before c
      behind e fresh keeps is copied in
      let all : s.pointer d + left_pages s.chunks w.extent ≤ S.pages = room.fits in
      let takes : TakesCopy S s w c.pages d = ((room.there, room.chunks, omega arith), room.apart) in
      let same : (e ≡ d) × (fresh ≡ w.fresh) = goes takes copied.goes in record {
        none = same.1 ∙ room.none;
        last = ap (λ (x : ℕ). Some x) same.0;
        there = room.there;
        chunks = kind_stays s e c.pages OfChunks d room.chunks;
        apart = room.apart;
        fits = subst (λ (x : ℕ). (with_copy S s w before c behind e fresh).pointer x
            + left_pages (with_copy S s w before c behind e fresh).chunks w.extent ≤ S.pages) same.0
            (rw (pointer_here s e c.pages OfChunks) (let at : s.pointer e ≡ s.pointer d = ap s.pointer same.0 in
            omega arith));
      }
    where
      goes : TakesCopy S s w c.pages d → GoesForCopy S s w c.pages e fresh → (e ≡ d) × (fresh ≡ w.fresh)
      goes takes (inl last) = (some_number e d (sym last.0 ∙ room.last), last.2)
      goes takes (inr (inl other)) = absurd (other.0 d room.last takes)
      goes takes (inr (inr empty)) = absurd (empty.0 d room.last takes)

  pub single : (s t : Room) (d e : ℕ) → 1 ≤ J → Keeps S J s → s.last ≡ Some d → IsChunkExtent S J s d → d ≢ e
      → s.pointer d + live_pages s.chunks e ≤ S.pages → IsSwept S J s e t
      → chunk_extents t S.extents < chunk_extents s S.extents
  single s t d e some keeps last chunks apart fits swept =
      let small : left_pages s.chunks e ≤ live_pages s.chunks e = left_le s.chunks e in
      let off : (d == e) ≡ false = ne_eqb d e apart in
      let all : IsSweptWith (FitsBehind d) s e t = swept_with (FitsBehind d) (fits_behind d) s t e some keeps (record {
        none = refl;
        last = ap (unless (λ x. x == e)) last ∙ rw off;
        there = chunks.0;
        chunks = chunks.1;
        apart = apart;
        fits = omega arith;
      }) swept in
      let a : chunk_extents t S.extents ≤ how_many (any_on (map settle all.moved.chunks)) S.extents = all.fewer in
      let b : how_many (any_on (map settle all.moved.chunks)) S.extents < chunk_extents all.moved S.extents = all.less in
      let c : chunk_extents all.moved S.extents ≤ chunk_extents s S.extents + one_if all.moves.sweep.fresh =
      all.moves.kept.1 in
      let none : one_if all.moves.sweep.fresh ≡ 0 = ap one_if all.moves.kept.0.none in omega arith
