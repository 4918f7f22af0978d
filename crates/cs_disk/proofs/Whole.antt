-- Pages of 4,096 bytes.
use Rattle.std.proofs.Common.{◌≡◌, ℕ, zero, suc, ◌≤◌, ◌+◌, ◌*◌, Bool, List, [], ◌∷◌, length, take, sym, subst, drop, All, arith, length-drop, set, replicate}
use Rattle.std.proofs.lemmas.List.{length-take-le}
use Rattle.std.proofs.lemmas.List.Elements.{All-set}
use Rattle.std.specs.Simd.{first_chunks}
use Rattle.cs_disk.specs.Disk.{Image, IsBytes, Write, applied, kept, State, seen, MayLeave, IsWhole}
use Rattle.cs_disk.proofs.Images.{All_cons, kept_All}

-- what each page and each write has, each page has once the writes are applied
module _ (P : List ℕ → Type 0) where
  abbrev pub Writes : List Write → Type 0
  Writes writes = All (λ (w : Write). P w.1) writes

  pub applied_whole : (image : Image) (writes : List Write) → All (λ (bytes : List ℕ). P bytes) image → Writes writes → All (λ (bytes : List ℕ). P bytes) (applied image writes)
  applied_whole image [] pages whole = pages
  applied_whole image (w ∷ writes) pages whole =
      applied_whole (set image w.0 w.1) writes (All-set (λ (bytes : List ℕ). P bytes) image w.0 w.1 (whole 0 w (omega arith)) pages) (λ k d lt. whole (suc k) d (omega arith))

  pub kept_whole : (image : Image) (mask : List Bool) (writes : List Write) → All (λ (bytes : List ℕ). P bytes) image → Writes writes → All (λ (bytes : List ℕ). P bytes) (applied image (kept mask writes))
  kept_whole image mask writes pages whole = applied_whole image (kept mask writes) pages (kept_All (λ (w : Write). P w.1) mask writes whole)

module _ (n : ℕ) where
  -- images of such pages alone
  abbrev pub Pages : Image → Type 0
  Pages image = All (λ (bytes : List ℕ). length bytes ≡ n) image

  pub first_chunks_whole : (k : ℕ) (bytes : List ℕ) → k * n ≤ length bytes → Pages (first_chunks n k bytes)
  first_chunks_whole zero bytes fits = λ i d lt. absurd (omega arith)
  first_chunks_whole (suc k) bytes fits =
      let more : suc k * n ≡ n + k * n = omega arith in
      All_cons (λ (page : List ℕ). length page ≡ n) (take n bytes) (first_chunks n k (drop n bytes)) (length-take-le n bytes (omega (arith, fits, more)))
      (first_chunks_whole k (drop n bytes) (omega (arith, fits, more, length-drop n bytes)))

-- each page of an image has bytes
abbrev pub BytePages : Image → Type 0
BytePages image = All (λ (bytes : List ℕ). IsBytes bytes) image

bytes_take : (n : ℕ) (xs : List ℕ) → IsBytes xs → IsBytes (take n xs)
bytes_take zero xs are i = omega arith
bytes_take (suc n) [] are i = omega arith
bytes_take (suc n) (x ∷ xs) are zero = are zero
bytes_take (suc n) (x ∷ xs) are (suc i) = bytes_take n xs (λ k. are (suc k)) i

bytes_drop : (n : ℕ) (xs : List ℕ) → IsBytes xs → IsBytes (drop n xs)
bytes_drop zero xs are = are
bytes_drop (suc n) [] are = are
bytes_drop (suc n) (x ∷ xs) are = bytes_drop n xs (λ k. are (suc k))

pub first_chunks_bytes : (n k : ℕ) (bytes : List ℕ) → IsBytes bytes → BytePages (first_chunks n k bytes)
first_chunks_bytes n zero bytes are = λ i d lt. absurd (omega arith)
first_chunks_bytes n (suc k) bytes are =
    All_cons (λ (page : List ℕ). IsBytes page) (take n bytes) (first_chunks n k (drop n bytes)) (bytes_take n bytes are) (first_chunks_bytes n k (drop n bytes) (bytes_drop n bytes are))

zero_bytes : (n : ℕ) → IsBytes (replicate n 0)
zero_bytes zero i = omega arith
zero_bytes (suc n) zero = omega arith
zero_bytes (suc n) (suc i) = zero_bytes n i

pub zero_pages : (k n : ℕ) → BytePages (replicate k (replicate n 0))
zero_pages zero n = λ i d lt. absurd (omega arith)
zero_pages (suc k) n = All_cons (λ (page : List ℕ). IsBytes page) (replicate n 0) (replicate k (replicate n 0)) (zero_bytes n) (zero_pages k n)

-- What a disk reads as, and what a crash may leave of it, has whole pages where the disk has.
pub seen_whole : (s : State) → IsWhole s → Pages 4096 (seen s) × BytePages (seen s)
seen_whole s whole = (
  applied_whole (λ bytes. length bytes ≡ 4096) s.durable s.volatile whole.durable whole.volatile,
  applied_whole IsBytes s.durable s.volatile whole.durable_bytes whole.volatile_bytes,
)

pub left_whole : (s : State) (c : Image) → IsWhole s → MayLeave s c → Pages 4096 c × BytePages c
left_whole s c whole left = subst (λ (image : Image). Pages 4096 image × BytePages image) (sym left.2) (
  kept_whole (λ bytes. length bytes ≡ 4096) s.durable left.0 s.volatile whole.durable whole.volatile,
  kept_whole IsBytes s.durable left.0 s.volatile whole.durable_bytes whole.volatile_bytes,
)
