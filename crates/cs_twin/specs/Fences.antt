-- Which halves of pairs are whole or a fence, and which writes wait over them.
use Rattle.std.specs.Prelude.{◌≡◌, ◌<◌, ℕ, Bool, List, Some, slice_get}
use Rattle.cs_disk.specs.Disk.{Image, State, Write, page}
use Rattle.cs_twin.specs.declared.pairs.Pair.{Pair}
use Rattle.cs_twin.specs.Pairs.{Versions, fence, half}

-- the bytes are whole as what this page holds, or else a fence
abbrev pub IsWholeOrFence : Versions → (page : ℕ) → List ℕ → Type 0
IsWholeOrFence V p bytes = V p bytes ≡ 0 → bytes ≡ fence

-- each half of each pair is whole or a fence
abbrev pub AreFenced : Versions → List Pair → Image → Type 0
AreFenced V pairs image = (k : ℕ) (x : Pair) (twin : Bool) → slice_get pairs k ≡ Some x → IsWholeOrFence V x.page (page image (half x twin))

-- If a whole page waits to be written to a pair, each half of that pair is whole or a fence.
abbrev pub IsGuarded : Versions → List Pair → State → Type 0
IsGuarded V pairs s = (k i : ℕ) (x : Pair) (w : Write) (twin other : Bool) → slice_get pairs k ≡ Some x → slice_get s.volatile i ≡ Some w → w.0 ≡ half x twin → 0 < V x.page w.1
    → IsWholeOrFence V x.page (page s.durable (half x other))

-- each volatile write to a pair is whole: no fence waits to be written
abbrev pub AreWhole : Versions → List Pair → State → Type 0
AreWhole V pairs s = (k i : ℕ) (x : Pair) (w : Write) (twin : Bool) → slice_get pairs k ≡ Some x → slice_get s.volatile i ≡ Some w → w.0 ≡ half x twin → 0 < V x.page w.1

-- Each page that waits to be written to a half of a pair waits over one that is whole or a fence.
abbrev pub AreOverKnown : Versions → List Pair → State → Type 0
AreOverKnown V pairs s = (k i : ℕ) (x : Pair) (w : Write) (twin : Bool) → slice_get pairs k ≡ Some x → slice_get s.volatile i ≡ Some w → w.0 ≡ half x twin → IsWholeOrFence V x.page (page s.durable (half x twin))

-- each volatile write to a pair is a fence
abbrev pub AreFences : List Pair → State → Type 0
AreFences pairs s = (k i : ℕ) (x : Pair) (w : Write) (twin : Bool) → slice_get pairs k ≡ Some x → slice_get s.volatile i ≡ Some w → w.0 ≡ half x twin → w.1 ≡ fence

-- between two flushes each pair is written once: two volatile writes to halves of one pair are the same one
abbrev pub AreWrittenOnce : List Pair → State → Type 0
AreWrittenOnce pairs s = (k i j : ℕ) (x : Pair) (v w : Write) (b c : Bool) → slice_get pairs k ≡ Some x → slice_get s.volatile i ≡ Some v → slice_get s.volatile j ≡ Some w → v.0 ≡ half x b → w.0 ≡ half x c → i ≡ j
