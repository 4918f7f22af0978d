-- A disk that shows each page of the disk below otherwise.
use Rattle.std.proofs.Common.{◌≡◌, ◌≢◌, ◌⊎◌, inl, inr, ⊎_elim, if◌then◌else◌, ◌==◌, ℕ, ◌<◌, List, [], ◌∷◌, All, Result, Ok, Err, OnOk, length, map, slice_index_or, sym, refl, ◌∙◌, ap, subst, arith}
use Rattle.std.proofs.lemmas.Bool.{cases_eq}
use Rattle.std.proofs.lemmas.List.{ext_get_or, get_or_default, length-map}
use Rattle.std.proofs.lemmas.List.Elements.{All-map}
use Rattle.std.proofs.lemmas.List.FromFn.{get_or-map-range_with_len, length-map-range_with_len}
use Rattle.cs_disk.specs.Disk.{Elapses, Image, IsBytes, IsWhole, MayLeave, State, Write, applied, flushed, kept, latest, page, seen}
use Rattle.cs_disk.proofs.Images.{kept-map, length-applied, page-applied}
use Rattle.cs_frame.specs.Bytes.{IsPage}
use Rattle.cs_mount.specs.Repaged.{RepagesKept, left_repaged, repaged, repaged_state, repaged_write}
use Rattle.cs_twin.proofs.Roles.{if_other, if_same}

module _ (f : (page : ℕ) → List ℕ → List ℕ) where
  -- ---- images

  pub length-repaged : (image : Image) → length (repaged f image) ≡ length image
  length-repaged image = length-map-range_with_len (λ p. f p (page image p)) 0 (length image)

  pub page-repaged : (image : Image) (p : ℕ) → p < length image → page (repaged f image) p ≡ f p (page image p)
  page-repaged image p lt = get_or-map-range_with_len (λ q. f q (page image q)) 0 (length image) p p [] lt (omega arith)

  -- the last of some writes to a page
  latest_repaged : (writes : List Write) (p : ℕ) (bytes : List ℕ) → latest (map (repaged_write f) writes) p (f p bytes) ≡ f p (latest writes p bytes)
  latest_repaged [] p bytes = refl
  latest_repaged (w ∷ writes) p bytes = ap (latest (map (repaged_write f) writes) p) (one (cases_eq w.0 p)) ∙ latest_repaged writes p (if w.0 == p then w.1 else bytes)
    where
      one : (w.0 ≡ p) ⊎ (w.0 ≢ p) → (if w.0 == p then f w.0 w.1 else f p bytes) ≡ f p (if w.0 == p then w.1 else bytes)
      one (inl here) =
          subst (λ q. (if w.0 == q then f w.0 w.1 else f q bytes) ≡ f q (if w.0 == q then w.1 else bytes)) here
          (if_same w.0 (f w.0 w.1) (f w.0 bytes) ∙ ap (f w.0) (sym (if_same w.0 w.1 bytes)))
      one (inr other) = if_other w.0 p (f w.0 w.1) (f p bytes) other ∙ ap (f p) (sym (if_other w.0 p w.1 bytes other))

  -- an image after some writes
  pub repaged-applied : (image : Image) (writes : List Write) → repaged f (applied image writes) ≡ applied (repaged f image) (map (repaged_write f) writes)
  repaged-applied image writes =
      let size = length-applied image writes in
      let there = length-applied (repaged f image) (map (repaged_write f) writes) in
      let long = length-repaged image in
      let same : length (repaged f (applied image writes)) ≡ length (applied (repaged f image) (map (repaged_write f) writes)) = omega (arith, length-repaged (applied image writes), size, there, long) in
      ext_get_or [] _ _ same (λ p lt.
      let inside : p < length image = omega (arith, lt, length-repaged (applied image writes), size) in
      page-repaged (applied image writes) p (omega (arith, inside, size)) ∙ ap (f p) (page-applied image writes p inside) ∙ sym (latest_repaged writes p (page image p))
      ∙ ap (latest (map (repaged_write f) writes) p) (sym (page-repaged image p inside)) ∙ sym (page-applied (repaged f image) (map (repaged_write f) writes) p (omega (arith, inside, long))))

  module _ (s : State) where
    pub repages_kept : RepagesKept f s
    repages_kept mask = repaged-applied s.durable (kept mask s.volatile) ∙ ap (applied (repaged f s.durable)) (sym (kept-map (repaged_write f) mask s.volatile))

    pub seen_repaged : seen (repaged_state f s) ≡ repaged f (seen s)
    seen_repaged = sym (repaged-applied s.durable s.volatile)

    repages_left : (c : Image) → MayLeave s c → MayLeave (repaged_state f s) (repaged f c)
    repages_left c left = (left.0, left.1 ∙ sym (length-map s.volatile (repaged_write f)), ap (repaged f) left.2 ∙ repages_kept left.0)

    -- time goes on
    pub elapses_repaged : (before now : ℕ) (past since : ℕ → Image → Type 0) → Elapses before now past since s → Elapses before now (left_repaged f past) (left_repaged f since) (repaged_state f s)
    elapses_repaged before now past since time = record {
      later = time.later;
      nothing_else = λ t c le left. ⊎_elim
          (λ (was : past t left.0). inl (left.0, was, left.2))
          (λ (is : MayLeave s left.0). inr (subst (λ (image : Image). MayLeave (repaged_state f s) image) (sym left.2) (repages_left left.0 is)))
          (time.nothing_else t left.0 le left.1);
      keeps = λ t c le left. (left.0, time.keeps t left.0 le left.1, left.2);
    }

    -- what a page reads as
    pub read_repaged : (p : ℕ) (before bytes : List ℕ) → p < length s.durable → before ≡ page (seen s) p → bytes ≡ f p before → bytes ≡ page (seen (repaged_state f s)) p
    read_repaged p before bytes lt was is =
        is ∙ ap (f p) was ∙ sym (ap (λ (image : Image). page image p) seen_repaged ∙ page-repaged (seen s) p (omega (arith, lt, length-applied s.durable s.volatile)))

    pub reads_repaged : {T E : Type 0} (result : Result T E) (p : ℕ) (before bytes : List ℕ) → p < length s.durable → before ≡ page (seen s) p → OnOk result (bytes ≡ f p before) → OnOk result (bytes ≡ page (seen (repaged_state f s)) p)
    reads_repaged (Ok t) p before bytes lt was is = read_repaged p before bytes lt was is
    reads_repaged (Err e) p before bytes lt was is = tt

    -- a flush
    pub flush_repaged : {T E : Type 0} (result : Result T E) (now : State) → OnOk result (now ≡ flushed s) → OnOk result (repaged_state f now ≡ flushed (repaged_state f s))
    flush_repaged (Ok t) now is = ap (repaged_state f) is ∙ ap (λ (image : Image). record { durable = image; volatile = [] }) (sym seen_repaged)
    flush_repaged (Err e) now is = tt

  -- whole pages, where a page shows as one
  module _ (s : State) (stays_page : (p : ℕ) (bytes : List ℕ) → IsPage bytes → IsPage (f p bytes)) where
    page_of : (i : ℕ) (whole : IsWhole s) → i < length s.durable → IsPage (page s.durable i)
    page_of i whole lt = record { size = whole.durable i [] lt; bytes = whole.durable_bytes i [] lt }

    here : (i : ℕ) (x : List ℕ) (whole : IsWhole s) → i < length (repaged f s.durable) → IsPage (f i (page s.durable i))
    here i x whole lt = stays_page i (page s.durable i) (page_of i whole (omega (arith, lt, length-repaged s.durable)))

    stands : (i : ℕ) (x : List ℕ) → i < length (repaged f s.durable) → f i (page s.durable i) ≡ slice_index_or (repaged f s.durable) i x
    stands i x lt = sym (get_or_default (repaged f s.durable) i x [] lt ∙ page-repaged s.durable i (omega (arith, lt, length-repaged s.durable)))

    each_write : (P : List ℕ → Type 0) → ((bytes : List ℕ) → IsPage bytes → P bytes) → IsWhole s → All (λ (w : Write). P w.1) (map (repaged_write f) s.volatile)
    each_write P says whole = All-map (λ (w : Write). P w.1) (repaged_write f) s.volatile (λ i x lt.
        let w = slice_index_or s.volatile i x in says (f w.0 w.1) (stays_page w.0 w.1 (record { size = whole.volatile i x lt; bytes = whole.volatile_bytes i x lt })))

    pub whole_repaged : IsWhole s → IsWhole (repaged_state f s)
    whole_repaged whole = record {
      durable = λ i x lt. subst (λ (bytes : List ℕ). length bytes ≡ 4096) (stands i x lt) (here i x whole lt).size;
      volatile = each_write (λ bytes. length bytes ≡ 4096) (λ bytes is. is.size) whole;
      durable_bytes = λ i x lt. subst IsBytes (stands i x lt) (here i x whole lt).bytes;
      volatile_bytes = each_write IsBytes (λ bytes is. is.bytes) whole;
    }
