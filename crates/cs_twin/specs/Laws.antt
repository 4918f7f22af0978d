-- The laws of a disk in pairs, from those of the disk below.
use Rattle.std.specs.Prelude.{◌≡◌, ℕ, Bool, List, length, map}
use Rattle.std.proofs.Common.{◌∙◌, ap, refl, sym}
use Rattle.std.proofs.lemmas.List.{length-map}
use Rattle.std.proofs.lemmas.List.FromFn.{length-map-range_with_len}
use Rattle.cs_disk.specs.Disk.{Image, MayLeave, State, applied, kept}
use Rattle.cs_twin.specs.declared.pairs.Pair.{Pair}
use Rattle.cs_twin.specs.Pairs.{Versions, left_shown, shown, shown_page, shown_state, shown_write}

-- whichever of the volatile writes are kept, what is left shows as what they leave, as they show
abbrev pub ShowsKept : Versions → List Pair → State → Type 0
ShowsKept V pairs s = (mask : List Bool) → shown V pairs (applied s.durable (kept mask s.volatile)) ≡ applied (shown V pairs s.durable) (kept mask (map (shown_write V pairs) s.volatile))

-- The image has as many pages as it shows.
pub sized_shown : (V : Versions) (pairs : List Pair) (image : Image) → length (shown V pairs image) ≡ length image
sized_shown V pairs image = length-map-range_with_len (shown_page V pairs image) 0 (length image)

-- What a crash may leave now it might have left since.
pub counts_pairs : (V : Versions) (pairs : List Pair) (s : State) → ShowsKept V pairs s
    → (left : ℕ → Image → Type 0) (t : ℕ) → ((c : Image) → MayLeave s c → left t c) → (c : Image) → MayLeave (shown_state V pairs s) c → left_shown V pairs left t c
counts_pairs V pairs s shows left t now c is =
    let image = applied s.durable (kept is.0 s.volatile) in
    (image, now image (is.0, is.1 ∙ length-map s.volatile (shown_write V pairs), refl), is.2 ∙ sym (shows is.0))

-- Where nothing else might have been left below, nothing else might above.
pub only_pairs : (V : Versions) (pairs : List Pair) (s : State) → ShowsKept V pairs s
    → (left : ℕ → Image → Type 0) (t : ℕ) → ((c : Image) → left t c → MayLeave s c) → (c : Image) → left_shown V pairs left t c → MayLeave (shown_state V pairs s) c
only_pairs V pairs s shows left t only c is =
    let below = only is.0 is.1 in
    (below.0, below.1 ∙ sym (length-map s.volatile (shown_write V pairs)), is.2 ∙ ap (shown V pairs) below.2 ∙ shows below.0)
