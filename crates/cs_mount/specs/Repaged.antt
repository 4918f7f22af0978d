-- A disk that shows each page of the disk below otherwise, by the page's number and bytes alone.
use Rattle.std.specs.Prelude.{◌≡◌, ℕ, Bool, List, length, map}
use Rattle.std.proofs.Common.{◌∙◌, ap, refl, sym}
use Rattle.std.proofs.lemmas.List.{length-map}
use Rattle.std.proofs.lemmas.List.FromFn.{length-map-range_with_len}
use Rattle.std.specs.List.{range_with_len}
use Rattle.cs_disk.specs.Disk.{Image, MayLeave, State, Write, applied, kept, page}

-- an image as it shows: each of its pages so
abbrev pub repaged : ((page : ℕ) → List ℕ → List ℕ) → Image → Image
repaged f image = map (λ p. f p (page image p)) (range_with_len 0 (length image))

-- a write as it shows
abbrev pub repaged_write : ((page : ℕ) → List ℕ → List ℕ) → Write → Write
repaged_write f w = (w.0, f w.0 w.1)

-- a disk as it shows: its durable image, and each volatile write
abbrev pub repaged_state : ((page : ℕ) → List ℕ → List ℕ) → State → State
repaged_state f s = record { durable = repaged f s.durable; volatile = map (repaged_write f) s.volatile }

-- the images that a crash at some moment from that one on might have left, as they show
abbrev pub left_repaged : ((page : ℕ) → List ℕ → List ℕ) → (ℕ → Image → Type 0) → ℕ → Image → Type 0
left_repaged f left_since t c = (image : Image) × left_since t image × (c ≡ repaged f image)

-- ---- the laws of such a disk, from those of the disk below

-- whichever of the volatile writes are kept, what is left shows as what they leave, as they show
abbrev pub RepagesKept : ((page : ℕ) → List ℕ → List ℕ) → State → Type 0
RepagesKept f s = (mask : List Bool) → repaged f (applied s.durable (kept mask s.volatile)) ≡ applied (repaged f s.durable) (kept mask (map (repaged_write f) s.volatile))

-- What a crash may leave now it might have left since.
pub counts_repaged : (f : (page : ℕ) → List ℕ → List ℕ) (s : State) → RepagesKept f s
    → (left : ℕ → Image → Type 0) (t : ℕ) → ((c : Image) → MayLeave s c → left t c) → (c : Image) → MayLeave (repaged_state f s) c → left_repaged f left t c
counts_repaged f s shows left t now c is =
    let image = applied s.durable (kept is.0 s.volatile) in
    (image, now image (is.0, is.1 ∙ length-map s.volatile (repaged_write f), refl), is.2 ∙ sym (shows is.0))

-- Where nothing else might have been left below, nothing else might above.
pub only_repaged : (f : (page : ℕ) → List ℕ → List ℕ) (s : State) → RepagesKept f s
    → (left : ℕ → Image → Type 0) (t : ℕ) → ((c : Image) → left t c → MayLeave s c) → (c : Image) → left_repaged f left t c → MayLeave (repaged_state f s) c
only_repaged f s shows left t only c is =
    let below = only is.0 is.1 in
    (below.0, below.1 ∙ sym (length-map s.volatile (repaged_write f)), is.2 ∙ ap (repaged f) below.2 ∙ shows below.0)

-- The image has as many pages.
pub sized_repaged : (f : (page : ℕ) → List ℕ → List ℕ) (image : Image) → length (repaged f image) ≡ length image
sized_repaged f image = length-map-range_with_len (λ p. f p (page image p)) 0 (length image)
