-- One more call joins what a disk in memory has held.
use Rattle.std.proofs.Common.{◌≡◌, ◌⊎◌, inl, inr, ℕ, ◌+◌, ◌≤◌, List, ◌∷◌, length, sym, ap, subst, arith}
use Rattle.std.specs.Prelude.{Result, Ok, Err}
use Rattle.cs_disk.specs.Disk.{Counts, State, Image, Write, MayLeave, Elapses}
use Rattle.cs_disk.specs.Past.{MightHaveLeft, LeftSince}

call_more : (past : List State) (old new : State) → Elapses (length past) (length (old ∷ past)) (LeftSince past old) (LeftSince (old ∷ past) new) new
call_more past old new = record { later = omega arith; nothing_else = was; keeps = λ t c le left. inr (still t c le left) }
  where
    was : (t : ℕ) (c : Image) → t ≤ length past → LeftSince (old ∷ past) new t c → LeftSince past old t c ⊎ MayLeave new c
    was t c le (inl now) = inr now
    was t c le (inr (inl here)) = inl (inl here.1)
    was t c le (inr (inr had)) = inl (inr had)

    still : (t : ℕ) (c : Image) → t ≤ length past → LeftSince past old t c → MightHaveLeft (old ∷ past) t c
    still t c le (inl here) = inl (le, here)
    still t c le (inr had) = inr had

-- a write or a flush, before which the contents were noted
pub elapses_call : (past later : List State) (old new : State) → later ≡ old ∷ past → Elapses (length past) (length later) (LeftSince past old) (LeftSince later new) new
elapses_call past later old new noted =
    subst (λ (l : List State). Elapses (length past) (length l) (LeftSince past old) (LeftSince l new) new) (sym noted) (call_more past old new)

-- which counts as one, whatever it answers
one_more : {T E : Type 0} (result : Result T E) (before now : ℕ) → now ≡ before + 1 → Counts result before now
one_more (Ok x) before now e = e
one_more (Err x) before now e = omega (arith, e)

pub one_call : (past later : List State) (old : State) → later ≡ old ∷ past → length later ≡ length past + 1
one_call past later old noted = subst (λ (l : List State). length l ≡ length past + 1) (sym noted) (omega arith)

pub counts_call : {T E : Type 0} (result : Result T E) (past later : List State) (old : State) → later ≡ old ∷ past → Counts result (length past) (length later)
counts_call result past later old noted = one_more result (length past) (length later) (one_call past later old noted)

-- a disk with these volatile writes
abbrev of_writes : Image → List Write → State
of_writes durable writes = record { durable = durable; volatile = writes }

-- what the disk holds once a write joined the volatile ones
pub pushed_state : (durable : Image) (before now : List Write) → now ≡ before → of_writes durable now ≡ of_writes durable before
pushed_state durable before now same = ap (λ (writes : List Write). of_writes durable writes) same
