-- What becomes of volatile writes where a crash tears pages.
use Rattle.std.proofs.Common.{◌≡◌, ◌≢◌, ◌⊎◌, inl, inr, ⊎_elim, ℕ, zero, suc, ◌+◌, ◌-◌, ◌*◌, ◌<◌, ◌≤◌, Bool, false, List, [], ◌∷◌, ◌++◌, Some, get_or, set, slice_get, slice_index, take, drop, length, min, replicate, Result, Ok, Err, OnOk, refl, sym, ◌∙◌, ap, subst, arith, add-one}
use Rattle.std.proofs.lemmas.Bool.{cases_eq}
use Rattle.std.proofs.lemmas.List.{drop-drop, drop-take, length-set, set_past}
use Rattle.std.proofs.lemmas.Option.{get_or_from_slice_get, slice_get_within}
use borrow.Rule.Slice.PartMut.{put_mid}
use Rattle.cs_disk.specs.Disk.{Image, IsWhole, State, Write, applied, crashed, flushed, kept, page, seen, written}
use Rattle.cs_disk.proofs.Images.{applied_push, length-applied, page_other, page_same}
use Rattle.cs_twin.specs.declared.pairs.Pair.{Pair}
use Rattle.cs_twin.specs.declared.tears.Fate.{Fate}
use Rattle.cs_twin.specs.declared.tears.Fate.TheVariants.{Kept, Lost, Sectors, Torn}
use Rattle.cs_twin.specs.declared.tears.Sector.{Sector}
use Rattle.cs_twin.specs.declared.tears.Sector.TheVariants.{New, Noise, Old}
use Rattle.cs_twin.specs.Pairs.{Versions}
use Rattle.cs_twin.specs.Tears.{AreTold, IsNoisy, MayTear, NoneLooksWhole, after_fate, after_sector, after_sectors, left_by, spliced, spliced_at}
use Rattle.cs_twin.proofs.Mixing.{kept_none}

-- ---- parts of a page

-- what is written to a part of a page
pub spliced_is : (from to a b : ℕ) (new old part : List ℕ) → b ≡ min to 4096 → a ≡ min from b → part ≡ take (b - a) (drop a new) → put_mid a (b - a) old part ≡ spliced from to new old
spliced_is from to a b new old part end start is =
    let le : a ≤ b = omega (arith, start) in
    let whole : a + (b - a) ≡ b = omega (arith, le) in
    ap (λ (l : List ℕ). take a old ++ l) (ap (λ (l : List ℕ). l ++ drop (b - a) (drop a old)) (is ∙ sym (drop-take a (b - a) new) ∙ ap (λ n. drop a (take n new)) whole) ∙ ap (λ (l : List ℕ). drop a (take b new) ++ l) (drop-drop (b - a) a old ∙ ap (λ n. drop n old) whole))
    ∙ ap (λ n. spliced_at a n new old) end ∙ ap (λ n. spliced_at n (min to 4096) new old) (start ∙ ap (min from) end)

-- These bytes are each from one page or from another, which has as many.
pub record AreOfBoth (new old bytes : List ℕ) : Type 0 where
  pub size : length bytes ≡ length old
  pub each : (i : ℕ) → (slice_index bytes i ≡ slice_index old i) ⊎ (slice_index bytes i ≡ slice_index new i)

of_old : (new old : List ℕ) → AreOfBoth new old old
of_old new old = record { size = refl; each = λ i. inl refl }

of_both_then : (new old mid bytes : List ℕ) → AreOfBoth new old mid → AreOfBoth new mid bytes → AreOfBoth new old bytes
of_both_then new old mid bytes first more = record {
  size = more.size ∙ first.size;
  each = λ i. ⊎_elim
      (λ (same : slice_index bytes i ≡ slice_index mid i). ⊎_elim (λ (is : slice_index mid i ≡ slice_index old i). inl (same ∙ is)) (λ (is : slice_index mid i ≡ slice_index new i). inr (same ∙ is)) (first.each i))
      (λ (written : slice_index bytes i ≡ slice_index new i). inr written)
      (more.each i);
}

splices : (a b : ℕ) (new old : List ℕ) → a ≤ b → length new ≡ length old → AreOfBoth new old (spliced_at a b new old)
splices zero zero new old le same = of_old new old
splices (suc a) zero new old le same = absurd (omega (arith, le))
splices zero (suc b) [] [] le same = of_old [] []
splices zero (suc b) [] (o ∷ old) le same = absurd (omega (arith, same))
splices zero (suc b) (n ∷ new) [] le same = absurd (omega (arith, same))
splices zero (suc b) (n ∷ new) (o ∷ old) le same =
    let rest = splices zero b new old (omega arith) (omega (arith, same)) in
    record { size = omega (arith, rest.size); each = each rest }
  where
    each : AreOfBoth new old (take b new ++ drop b old) → (i : ℕ) → (slice_index (n ∷ take b new ++ drop b old) i ≡ slice_index (o ∷ old) i) ⊎ (slice_index (n ∷ take b new ++ drop b old) i ≡ slice_index (n ∷ new) i)
    each rest zero = inr refl
    each rest (suc i) = rest.each i
splices (suc a) (suc b) [] [] le same = of_old [] []
splices (suc a) (suc b) [] (o ∷ old) le same = absurd (omega (arith, same))
splices (suc a) (suc b) (n ∷ new) [] le same = absurd (omega (arith, same))
splices (suc a) (suc b) (n ∷ new) (o ∷ old) le same =
    let rest = splices a b new old (omega (arith, le)) (omega (arith, same)) in
    record { size = omega (arith, rest.size); each = each rest }
  where
    each : AreOfBoth new old (spliced_at a b new old) → (i : ℕ) → (slice_index (o ∷ spliced_at a b new old) i ≡ slice_index (o ∷ old) i) ⊎ (slice_index (o ∷ spliced_at a b new old) i ≡ slice_index (n ∷ new) i)
    each rest zero = inl refl
    each rest (suc i) = rest.each i

-- a sector of them is noise
abbrev HasNoise : List Sector → Type 0
HasNoise sectors = (j byte : ℕ) × (slice_get sectors j ≡ Some (Noise byte))

sectors_mix : (n : ℕ) (sectors : List Sector) (new old : List ℕ) → length new ≡ length old → AreOfBoth new old (after_sectors n sectors new old) ⊎ HasNoise sectors
sectors_mix n [] new old same = inl (of_old new old)
sectors_mix n (Old ∷ sectors) new old same = ⊎_elim (λ mixed. inl mixed) (λ noise. inr (suc noise.0, noise.1, noise.2)) (sectors_mix (n + 1) sectors new old same)
sectors_mix n (New ∷ sectors) new old same =
    let first = splices (min (512 * n) (min (512 * n + 512) 4096)) (min (512 * n + 512) 4096) new old (omega arith) same in
    ⊎_elim (λ mixed. inl (of_both_then new old (spliced (512 * n) (512 * n + 512) new old) (after_sectors (n + 1) sectors new (spliced (512 * n) (512 * n + 512) new old)) first mixed)) (λ noise. inr (suc noise.0, noise.1, noise.2))
    (sectors_mix (n + 1) sectors new (spliced (512 * n) (512 * n + 512) new old) (same ∙ sym first.size))
sectors_mix n (Noise byte ∷ sectors) new old same = inr (0, byte, refl)

-- one sector more
sectors_next : (n : ℕ) (sectors : List Sector) (new old : List ℕ) (i : ℕ) (d : Sector) → i < length sectors
    → after_sectors n (take (suc i) sectors) new old ≡ after_sector (n + i) (get_or sectors i d) new (after_sectors n (take i sectors) new old)
sectors_next n [] new old i d lt = absurd (omega (arith, lt))
sectors_next n (x ∷ sectors) new old zero d lt = let same : n ≡ n + zero = omega arith in ap (λ m. after_sector m x new old) same
sectors_next n (x ∷ sectors) new old (suc i) d lt =
    let same : n + 1 + i ≡ n + suc i = omega arith in
    sectors_next (n + 1) sectors new (after_sector n x new old) i d (omega (arith, lt))
    ∙ ap (λ m. after_sector m (get_or sectors i d) new (after_sectors (n + 1) (take i sectors) new (after_sector n x new old))) same

pub sectors_more : (sectors : List Sector) (new was now next : List ℕ) (i : ℕ) (d : Sector) → i < length sectors → now ≡ after_sectors 0 (take i sectors) new was → next ≡ after_sector i (get_or sectors i d) new now
    → next ≡ after_sectors 0 (take (i + 1) sectors) new was
sectors_more sectors new was now next i d lt so_far is =
    let first : i ≡ 0 + i = omega arith in
    rw (add-one i) (is ∙ ap (after_sector i (get_or sectors i d) new) so_far ∙ ap (λ m. after_sector m (get_or sectors i d) new (after_sectors 0 (take i sectors) new was)) first ∙ sym (sectors_next 0 sectors new was i d lt))

-- ---- a write

-- a write past the last page
pub fate_past : (image : Image) (w : Write) (fate : Fate) → length image ≤ w.0 → after_fate image w fate ≡ image
fate_past image w Lost past = refl
fate_past image w Kept past = set_past image w.0 w.1 past
fate_past image w (Torn from to) past = set_past image w.0 (spliced from to w.1 (page image w.0)) past
fate_past image w (Sectors sectors) past = set_past image w.0 (after_sectors 0 sectors w.1 (page image w.0)) past

-- a write that lays this on its page
pub laid : {T E : Type 0} (result : Result T E) (s now : State) (w : Write) (fate : Fate) (bytes : List ℕ) → after_fate (seen s) w fate ≡ set (seen s) w.0 bytes → OnOk result (now ≡ written s w.0 bytes)
    → OnOk result (seen now ≡ after_fate (seen s) w fate)
laid (Ok t) s now w fate bytes same is = ap seen is ∙ applied_push s.durable s.volatile (w.0, bytes) ∙ sym same
laid (Err e) s now w fate bytes same is = tt

pub laid_kept : {T E : Type 0} (result : Result T E) (s now : State) (w : Write) (fate : Fate) → fate ≡ Kept → OnOk result (now ≡ written s w.0 w.1) → OnOk result (seen now ≡ after_fate (seen s) w fate)
laid_kept result s now w fate is wrote = laid result s now w fate w.1 (ap (after_fate (seen s) w) is) wrote

-- one that changes a part of it
pub laid_part : {T E : Type 0} (result : Result T E) (s read now : State) (w : Write) (fate : Fate) (part : List ℕ → List ℕ) (was bytes : List ℕ) → ((image : Image) → after_fate image w fate ≡ set image w.0 (part (page image w.0))) → read ≡ s
    → was ≡ page (seen s) w.0 → bytes ≡ part was → OnOk result (now ≡ written read w.0 bytes) → OnOk result (seen now ≡ after_fate (seen s) w fate)
laid_part result s read now w fate part was bytes is same before changed wrote =
    laid result s now w fate bytes (is (seen s) ∙ ap (λ (l : List ℕ). set (seen s) w.0 (part l)) (sym before) ∙ ap (λ (l : List ℕ). set (seen s) w.0 l) (sym changed))
    (subst (λ (z : State). OnOk result (now ≡ written z w.0 bytes)) same wrote)

pub laid_past : (s : State) (w : Write) (fate : Fate) → length s.durable ≤ w.0 → seen s ≡ after_fate (seen s) w fate
laid_past s w fate past = sym (fate_past (seen s) w fate (omega (arith, past, length-applied s.durable s.volatile)))

-- one more of them
left_next : (image : Image) (writes : List Write) (fates : List Fate) (i : ℕ) (d : Write) (e : Fate) → i < length writes → i < length fates
    → left_by image (take (suc i) writes) (take (suc i) fates) ≡ after_fate (left_by image (take i writes) (take i fates)) (get_or writes i d) (get_or fates i e)
left_next image [] fates i d e lt lf = absurd (omega (arith, lt))
left_next image (w ∷ writes) [] i d e lt lf = absurd (omega (arith, lf))
left_next image (w ∷ writes) (f ∷ fates) zero d e lt lf = refl
left_next image (w ∷ writes) (f ∷ fates) (suc i) d e lt lf = left_next (after_fate image w f) writes fates i d e (omega (arith, lt)) (omega (arith, lf))

pub left_more : (image now new : Image) (writes : List Write) (fates : List Fate) (i : ℕ) (d : Write) (e : Fate) → i < length writes → length fates ≡ length writes
    → now ≡ left_by image (take i writes) (take i fates) → new ≡ after_fate now (get_or writes i d) (get_or fates i e) → new ≡ left_by image (take (i + 1) writes) (take (i + 1) fates)
left_more image now new writes fates i d e lt same so_far is =
    rw (add-one i) (is ∙ ap (λ (z : Image). after_fate z (get_or writes i d) (get_or fates i e)) so_far ∙ sym (left_next image writes fates i d e lt (omega (arith, lt, same))))

length-after : (image : Image) (w : Write) (fate : Fate) → length (after_fate image w fate) ≡ length image
length-after image w Lost = refl
length-after image w Kept = length-set image w.0 w.1
length-after image w (Torn from to) = length-set image w.0 (spliced from to w.1 (page image w.0))
length-after image w (Sectors sectors) = length-set image w.0 (after_sectors 0 sectors w.1 (page image w.0))

pub length-left_by : (image : Image) (writes : List Write) (fates : List Fate) → length (left_by image writes fates) ≡ length image
length-left_by image [] [] = refl
length-left_by image [] (f ∷ fates) = refl
length-left_by image (w ∷ writes) [] = refl
length-left_by image (w ∷ writes) (f ∷ fates) = length-left_by (after_fate image w f) writes fates ∙ length-after image w f

-- ---- what becomes of a page

-- It mixes what was there and what these writes to it have.
record IsMixedOf (was : List ℕ) (writes : List Write) (p : ℕ) (bytes : List ℕ) : Type 0 where
  size : length bytes ≡ length was
  each : (i : ℕ) → (slice_index bytes i ≡ slice_index was i) ⊎ ((k : ℕ) × (w : Write) × (slice_get writes k ≡ Some w) × (w.0 ≡ p) × (slice_index bytes i ≡ slice_index w.1 i))

-- a write of these bytes, which are of both
set_mixes : (image : Image) (w : Write) (bytes : List ℕ) (p : ℕ) → p < length image → AreOfBoth w.1 (page image w.0) bytes → IsMixedOf (page image p) (w ∷ []) p (page (set image w.0 bytes) p)
set_mixes image w bytes p lt both = ⊎_elim
    (λ (e : w.0 ≡ p).
    let there : page (set image w.0 bytes) p ≡ bytes = subst (λ q. page (set image w.0 bytes) q ≡ bytes) e (page_same image w.0 bytes (subst (λ q. q < length image) (sym e) lt)) in
    let old = ap (page image) e in
    record {
      size = ap (λ (l : List ℕ). length l) there ∙ both.size ∙ ap (λ (l : List ℕ). length l) old;
      each = λ i. ⊎_elim
          (λ (was : slice_index bytes i ≡ slice_index (page image w.0) i). inl (ap (λ (l : List ℕ). slice_index l i) there ∙ was ∙ ap (λ (l : List ℕ). slice_index l i) old))
          (λ (new : slice_index bytes i ≡ slice_index w.1 i). inr (0, w, refl, e, ap (λ (l : List ℕ). slice_index l i) there ∙ new))
          (both.each i);
    })
    (λ (ne : w.0 ≢ p).
    let stays = page_other image w.0 p bytes (λ e. ne (sym e)) in
    record { size = ap (λ (l : List ℕ). length l) stays; each = λ i. inl (ap (λ (l : List ℕ). slice_index l i) stays) })
    (cases_eq w.0 p)

-- what became of one write, or a sector of it is noise there
fate_mixes : (image : Image) (w : Write) (fate : Fate) (p : ℕ) → p < length image → length (page image p) ≡ 4096 → length w.1 ≡ 4096 → IsMixedOf (page image p) (w ∷ []) p (page (after_fate image w fate) p) ⊎ IsNoisy (w ∷ []) (fate ∷ []) p
fate_mixes image w Lost p lt size long = inl (record { size = refl; each = λ i. inl refl })
fate_mixes image w Kept p lt size long = by_page (cases_eq w.0 p)
  where
    by_page : (w.0 ≡ p) ⊎ (w.0 ≢ p) → IsMixedOf (page image p) (w ∷ []) p (page (set image w.0 w.1) p) ⊎ IsNoisy (w ∷ []) (Kept ∷ []) p
    by_page (inl e) = inl (set_mixes image w w.1 p lt (record { size = long ∙ sym size ∙ ap (λ q. length (page image q)) (sym e); each = λ i. inr refl }))
    by_page (inr ne) =
        let stays = page_other image w.0 p w.1 (λ e. ne (sym e)) in
        inl (record { size = ap (λ (l : List ℕ). length l) stays; each = λ i. inl (ap (λ (l : List ℕ). slice_index l i) stays) })
fate_mixes image w (Torn from to) p lt size long = by_page (cases_eq w.0 p)
  where
    by_page : (w.0 ≡ p) ⊎ (w.0 ≢ p) → IsMixedOf (page image p) (w ∷ []) p (page (set image w.0 (spliced from to w.1 (page image w.0))) p) ⊎ IsNoisy (w ∷ []) (Torn from to ∷ []) p
    by_page (inl e) = inl (set_mixes image w (spliced from to w.1 (page image w.0)) p lt (splices (min from (min to 4096)) (min to 4096) w.1 (page image w.0) (omega arith) (long ∙ sym size ∙ ap (λ q. length (page image q)) (sym e))))
    by_page (inr ne) =
        let stays = page_other image w.0 p (spliced from to w.1 (page image w.0)) (λ e. ne (sym e)) in
        inl (record { size = ap (λ (l : List ℕ). length l) stays; each = λ i. inl (ap (λ (l : List ℕ). slice_index l i) stays) })
fate_mixes image w (Sectors sectors) p lt size long = by_page (cases_eq w.0 p)
  where
    by_page : (w.0 ≡ p) ⊎ (w.0 ≢ p) → IsMixedOf (page image p) (w ∷ []) p (page (set image w.0 (after_sectors 0 sectors w.1 (page image w.0))) p) ⊎ IsNoisy (w ∷ []) (Sectors sectors ∷ []) p
    by_page (inl e) = ⊎_elim
        (λ (both : AreOfBoth w.1 (page image w.0) (after_sectors 0 sectors w.1 (page image w.0))). inl (set_mixes image w (after_sectors 0 sectors w.1 (page image w.0)) p lt both))
        (λ (noise : HasNoise sectors). inr (0, w, sectors, noise.0, noise.1, refl, refl, noise.2, e))
        (sectors_mix 0 sectors w.1 (page image w.0) (long ∙ sym size ∙ ap (λ q. length (page image q)) (sym e)))
    by_page (inr ne) =
        let stays = page_other image w.0 p (after_sectors 0 sectors w.1 (page image w.0)) (λ e. ne (sym e)) in
        inl (record { size = ap (λ (l : List ℕ). length l) stays; each = λ i. inl (ap (λ (l : List ℕ). slice_index l i) stays) })

-- what was noise of the first write, or of a later one
noisy_first : (w : Write) (fate : Fate) (writes : List Write) (fates : List Fate) (p : ℕ) → IsNoisy (w ∷ []) (fate ∷ []) p → IsNoisy (w ∷ writes) (fate ∷ fates) p
noisy_first w fate writes fates p noisy = by_place noisy.0 noisy.5 noisy.6
  where
    by_place : (i : ℕ) → slice_get (w ∷ []) i ≡ Some noisy.1 → slice_get (fate ∷ []) i ≡ Some (Sectors noisy.2) → IsNoisy (w ∷ writes) (fate ∷ fates) p
    by_place zero at at_fate = (0, noisy.1, noisy.2, noisy.3, noisy.4, at, at_fate, noisy.7, noisy.8)
    by_place (suc i) at at_fate = cc

noisy_later : (w : Write) (fate : Fate) (writes : List Write) (fates : List Fate) (p : ℕ) → IsNoisy writes fates p → IsNoisy (w ∷ writes) (fate ∷ fates) p
noisy_later w fate writes fates p noisy = (suc noisy.0, noisy.1, noisy.2, noisy.3, noisy.4, noisy.5, noisy.6, noisy.7, noisy.8)

-- one write, and then others
mixed_then : (was mid bytes : List ℕ) (w : Write) (writes : List Write) (p : ℕ) → IsMixedOf was (w ∷ []) p mid → IsMixedOf mid writes p bytes → IsMixedOf was (w ∷ writes) p bytes
mixed_then was mid bytes w writes p first more = record { size = more.size ∙ first.size; each = λ i. by_later i (more.each i) (first.each i) }
  where
    alone : (k : ℕ) (v : Write) → slice_get (w ∷ []) k ≡ Some v → slice_get (w ∷ writes) 0 ≡ Some v
    alone zero v at = at
    alone (suc k) v at = cc

    by_later : (i : ℕ) → (slice_index bytes i ≡ slice_index mid i) ⊎ ((k : ℕ) × (v : Write) × (slice_get writes k ≡ Some v) × (v.0 ≡ p) × (slice_index bytes i ≡ slice_index v.1 i))
        → (slice_index mid i ≡ slice_index was i) ⊎ ((k : ℕ) × (v : Write) × (slice_get (w ∷ []) k ≡ Some v) × (v.0 ≡ p) × (slice_index mid i ≡ slice_index v.1 i))
        → (slice_index bytes i ≡ slice_index was i) ⊎ ((k : ℕ) × (v : Write) × (slice_get (w ∷ writes) k ≡ Some v) × (v.0 ≡ p) × (slice_index bytes i ≡ slice_index v.1 i))
    by_later i (inr v) _ = inr (suc v.0, v.1, v.2, v.3, v.4)
    by_later i (inl same) (inl is) = inl (same ∙ is)
    by_later i (inl same) (inr v) = inr (0, v.1, alone v.0 v.1 v.2, v.3, same ∙ v.4)

-- of all of them
mixed_or_noisy : (image : Image) (writes : List Write) (fates : List Fate) (p : ℕ) → length fates ≡ length writes → p < length image → length (page image p) ≡ 4096 → ((i : ℕ) (w : Write) → slice_get writes i ≡ Some w → length w.1 ≡ 4096)
    → IsMixedOf (page image p) writes p (page (left_by image writes fates) p) ⊎ IsNoisy writes fates p
mixed_or_noisy image [] [] p same lt size long = inl (record { size = refl; each = λ i. inl refl })
mixed_or_noisy image [] (f ∷ fates) p same lt size long = absurd (omega (arith, same))
mixed_or_noisy image (w ∷ writes) [] p same lt size long = absurd (omega (arith, same))
mixed_or_noisy image (w ∷ writes) (f ∷ fates) p same lt size long = ⊎_elim
    (λ (first : IsMixedOf (page image p) (w ∷ []) p (page (after_fate image w f) p)). ⊎_elim
    (λ (more : IsMixedOf (page (after_fate image w f) p) writes p (page (left_by (after_fate image w f) writes fates) p)). inl (mixed_then (page image p) (page (after_fate image w f) p) (page (left_by (after_fate image w f) writes fates) p) w writes p first more))
    (λ (noisy : IsNoisy writes fates p). inr (noisy_later w f writes fates p noisy))
    (mixed_or_noisy (after_fate image w f) writes fates p (omega (arith, same)) (omega (arith, lt, length-after image w f)) (first.size ∙ size) (λ i v at. long (suc i) v at)))
    (λ (noisy : IsNoisy (w ∷ []) (f ∷ []) p). inr (noisy_first w f writes fates p noisy))
    (fate_mixes image w f p lt size (long 0 w refl))

-- What is left of writes some of which are torn is what a crash that tears may leave.
pub fates_tear : (V : Versions) (pairs : List Pair) (s : State) (fates : List Fate) (image : Image) → IsWhole s → length fates ≡ length s.volatile → image ≡ left_by s.durable s.volatile fates → NoneLooksWhole V pairs s fates image → AreTold V pairs s image
    → MayTear V pairs s image
fates_tear V pairs s fates image whole same is none told = record {
  size = ap (λ (l : Image). length l) is ∙ length-left_by s.durable s.volatile fates;
  each = λ p lt. ⊎_elim
      (λ (mixed : IsMixedOf (page s.durable p) s.volatile p (page (left_by s.durable s.volatile fates) p)).
      let here = ap (λ (l : Image). page l p) is in
      inl (record { size = ap (λ (l : List ℕ). length l) here ∙ mixed.size; each = λ i lt_i. subst (λ (l : List ℕ). (slice_index l i ≡ slice_index (page s.durable p) i) ⊎ ((k : ℕ) × (w : Write) × (slice_get s.volatile k ≡ Some w) × (w.0 ≡ p) × (slice_index l i ≡ slice_index w.1 i))) (sym here) (mixed.each i) }))
      (λ (noisy : IsNoisy s.volatile fates p). inr ((noisy.0, noisy.1, noisy.5, noisy.8), none p noisy))
      (mixed_or_noisy s.durable s.volatile fates p same lt (whole.durable p [] lt) (λ i w at. sized i w at));
  told = told;
}
  where
    sized : (i : ℕ) (w : Write) → slice_get s.volatile i ≡ Some w → length w.1 ≡ 4096
    sized i w at = ap (λ (v : Write). length v.1) (sym (get_or_from_slice_get s.volatile i w w at)) ∙ whole.volatile i w (slice_get_within s.volatile i w at)

-- What is durable then: all writes are lost, what became of each is written, and that is flushed.
pub torn_durable : (s start mid last : State) (mask : List Bool) (n : ℕ) (writes : List Write) (fates : List Fate) → start ≡ crashed s mask → mask ≡ replicate n false → writes ≡ s.volatile
    → seen mid ≡ left_by (seen start) writes fates → last ≡ flushed mid → last.durable ≡ left_by s.durable s.volatile fates
torn_durable s start mid last mask n writes fates lost none same became flush =
    let started : seen start ≡ s.durable = ap seen lost ∙ ap (λ (m : List Bool). applied s.durable (kept m s.volatile)) none ∙ ap (applied s.durable) (kept_none n s.volatile) in
    ap (λ (z : State). z.durable) flush ∙ became ∙ ap (λ (image : Image). left_by image writes fates) started ∙ ap (λ (l : List Write). left_by s.durable l fates) same
