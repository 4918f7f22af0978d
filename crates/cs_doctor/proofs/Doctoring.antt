-- What is told of the pages of a disk, one after another, with counts of its failures that lie further apart.
use Rattle.std.proofs.Common.{◌≡◌, ◌⊎◌, ◌↔◌, ◌<◌, ◌≤◌, ◌+◌, ℕ, inl, inr, ⊎_elim, List, [], ◌∷◌, ◌++◌, get_or, length, map, take, refl, sym, ap, subst, arith}
use Rattle.std.specs.Prelude.{Contains, Option, Some, None}
use Rattle.std.specs.List.{AllZip}
use Rattle.std.proofs.lemmas.Bool.{cases_lt}
use Rattle.std.proofs.lemmas.List.Elements.{Contains-append_left, Contains-push, Contains-push_cases}
use Rattle.cs_disk.specs.Disk.{Image, Rises}
use Rattle.cs_twin.specs.Findings.{finding_in}
use Rattle.cs_twin.specs.Pairs.{Versions}
use Rattle.cs_twin.specs.declared.findings.Finding.{Finding}
use Rattle.cs_twin.specs.declared.findings.Half.{Half}
use Rattle.cs_twin.specs.declared.pairs.Pair.{Pair}
use Rattle.cs_salvage.proofs.Zips.{zip_all, zip_more}
use Rattle.cs_salvage.specs.Missing.{AreMissing}
use Rattle.cs_salvage.specs.Parts.{AreParts, of_store}
use Rattle.cs_salvage.specs.Passed.{RisesBy, from_on, without}
use Rattle.cs_salvage.specs.Shards.{AreNewest}
use Rattle.cs_salvage.specs.declared.finds.Finds.{Finds}
use Rattle.cs_salvage.specs.declared.parts.Part.{Part}
use Rattle.cs_salvage.specs.declared.searches.Sought.{Sought}
use Rattle.cs_salvage.specs.declared.whole_shards.Missing.{Missing}
use Rattle.cs_salvage.specs.declared.whole_shards.WholeShard.{WholeShard}
use Rattle.cs_frame.specs.Geometries.{Dimensions}
use Rattle.cs_mount.specs.Showing.{findings_on}
use Rattle.cs_mount.specs.StorePairs.{dimensions_on, pairs_where, store_version}
use Rattle.cs_doctor.specs.Doctor.{AreFoundAs, AreFramesOf, ArePairsOn, IsDeep, IsDeepOn, IsFoundAs, IsHalfFound}
use Rattle.cs_doctor.specs.declared.diagnoses.Deep.{Deep}
use Rattle.cs_doctor.specs.declared.diagnoses.Deep.TheVariants as deep
use Rattle.cs_doctor.specs.declared.diagnoses.Frames.{Frames}
use Rattle.cs_doctor.specs.declared.diagnoses.PairFound.{PairFound}

-- what rose between two counts rose between counts before and after them
pub rises_within : (x y z u : ℕ) → x ≤ y → z ≤ u → Rises y z → Rises x u
rises_within x y z u le le' rise = omega (arith, le, le', rise)

zip_mapped : {X Y : Type 0} (R Q : X → Y → Type 0) → ((x : X) (y : Y) → R x y → Q x y) → (xs : List X) (ys : List Y) → AllZip R xs ys → AllZip Q xs ys
zip_mapped R Q f [] [] h = tt
zip_mapped R Q f [] (y ∷ ys) h = absurd h
zip_mapped R Q f (x ∷ xs) [] h = absurd h
zip_mapped R Q f (x ∷ xs) (y ∷ ys) h = (f x y h.0, zip_mapped R Q f xs ys h.1)

-- what is told with two counts is so with counts before and after them
abbrev pub Widens : {X Y : Type 0} → (ℕ → ℕ → X → Y → Type 0) → Type 0
Widens {X} {Y} R = (x y z u : ℕ) (a : X) (b : Y) → x ≤ y → z ≤ u → R y z a b → R x u a b

-- a loop's step: of one thing more it is told
pub told_more : {X Y : Type 0} (R : ℕ → ℕ → X → Y → Type 0) → Widens R → (x y z k : ℕ) (xs : List X) (ys zs : List Y) (a : X) (b : Y) → k < length xs → a ≡ get_or xs k a → x ≤ y → y ≤ z
    → AllZip (R x y) (take k xs) ys → R y z a b → zs ≡ ys ++ b ∷ [] → AllZip (R x z) (take (k + 1) xs) zs
told_more {X} {Y} R wider x y z k xs ys zs a b lt at le le' was is new =
    subst (λ (l : List Y). AllZip (R x z) (take (k + 1) xs) l) (sym new)
    (zip_more (R x z) xs ys k a b lt at (zip_mapped (R x y) (R x z) (λ i s told. wider x x y z i s (omega arith) le' told) (take k xs) ys was)
    (wider x y z z a b le (omega arith) is))

-- ---- pairs

half_around : (x y z u : ℕ) (half : Half) (found : Option Half) → x ≤ y → z ≤ u → IsHalfFound y z half found → IsHalfFound x u half found
half_around x y z u half None le le' rise = rises_within x y z u le le' rise
half_around x y z u half (Some h) le le' same = same

pub pair_around : Widens IsFoundAs
pair_around x y z u finding found le le' is = record {
  pair = is.pair;
  own = half_around x y z u finding.own found.own le le' is.own;
  twin = half_around x y z u finding.twin found.twin le le' is.twin;
}

-- of a pair whose two pages were read, one after the other
pub both_found : (x y z : ℕ) (finding : Finding) (own twin : Option Half) → x ≤ y → y ≤ z → IsHalfFound x y finding.own own → IsHalfFound y z finding.twin twin
    → IsFoundAs x z finding (record { pair = finding.pair; own = own; twin = twin })
both_found x y z finding own twin le le' first second = record {
  pair = refl;
  own = half_around x x y z finding.own own (omega arith) le' first;
  twin = half_around x y z z finding.twin twin le (omega arith) second;
}

-- what is told of a pair in an image
abbrev pub IsPairIn : Versions → Image → (before after : ℕ) → Pair → PairFound → Type 0
IsPairIn V image before after pair found = IsFoundAs before after (finding_in V image pair) found

pub pair_in_around : (V : Versions) (image : Image) → Widens (IsPairIn V image)
pair_in_around V image x y z u pair found le le' is = pair_around x y z u (finding_in V image pair) found le le' is

pub all_pairs : (V : Versions) (image : Image) (x y : ℕ) (pairs : List Pair) (found : List PairFound) → AllZip (IsPairIn V image x y) pairs found → AreFoundAs x y (map (finding_in V image) pairs) found
all_pairs V image x y [] [] h = tt
all_pairs V image x y [] (f ∷ found) h = absurd h
all_pairs V image x y (p ∷ pairs) [] h = absurd h
all_pairs V image x y (p ∷ pairs) (f ∷ found) h = (h.0, all_pairs V image x y pairs found h.1)

-- a loop's step over pairs, of which one more was read by a disk that holds the same, and its end
module _ (V : Versions) (x y z : ℕ) (mid : Image) (image : Image) (pairs : List Pair) (k : ℕ) (founds next : List PairFound) where
  pub pairs_step : (a : Pair) (b : PairFound) → k < length pairs → a ≡ get_or pairs k a → x ≤ y → y ≤ z → mid ≡ image → AllZip (IsPairIn V image x y) (take k pairs) founds → IsPairIn V mid y z a b
      → next ≡ founds ++ b ∷ [] → AllZip (IsPairIn V image x z) (take (k + 1) pairs) next
  pairs_step a b lt at le le' same was is new =
      told_more (IsPairIn V image) (pair_in_around V image) x y z k pairs founds next a b lt at le le' was (subst (λ (i : Image). IsPairIn V i y z a b) same is) new

  pub pairs_end : length pairs ≤ k → AllZip (IsPairIn V image x y) (take k pairs) founds → AreFoundAs x y (map (finding_in V image) pairs) founds
  pairs_end le was = all_pairs V image x y pairs founds (zip_all (IsPairIn V image x y) pairs founds k le was)

pub pairs_around : (a b d e : ℕ) (findings : List Finding) (found : List PairFound) → a ≤ b → d ≤ e → AreFoundAs b d findings found → AreFoundAs a e findings found
pairs_around a b d e findings found le le' are = zip_mapped (IsFoundAs b d) (IsFoundAs a e) (λ f p is. pair_around a b d e f p le le' is) findings found are

-- what is told of the pairs of a store that was found after some reads and before others
pub look_pairs : (count : ℕ) (image there : Image) (f0 f1 f2 f3 f5 : ℕ) (store : Option Dimensions) (pairs : List PairFound) → f0 ≤ f1 → f0 ≤ f2 → f2 ≤ f5 → f3 ≤ f5 → there ≡ image
    → (store ≡ dimensions_on count image) ⊎ Rises f1 f2 → AreFoundAs f2 f3 (map (finding_in (store_version store) there) (pairs_where store)) pairs → ArePairsOn count image f0 f5 pairs
look_pairs count image there f0 f1 f2 f3 f5 store pairs le01 le02 le25 le35 same found are = ⊎_elim
    (λ (is : store ≡ dimensions_on count image).
    inr (pairs_around f0 f2 f3 f5 (findings_on count image) pairs le02 le35
    (subst (λ (d : Option Dimensions). AreFoundAs f2 f3 (map (finding_in (store_version d) image) (pairs_where d)) pairs) is
    (subst (λ (i : Image). AreFoundAs f2 f3 (map (finding_in (store_version store) i) (pairs_where store)) pairs) same are))))
    (λ (rise : Rises f1 f2). inl (rises_within f0 f1 f2 f5 le01 le25 rise))
    found

-- what is told of frames with two counts is so with counts before and after them
frames_around : (sought : Sought) (image : Image) (x y z u : ℕ) (frames : Frames) → x ≤ y → z ≤ u → AreFramesOf sought image y z frames → AreFramesOf sought image x u frames
frames_around sought image x y z u frames le le' are = record {
  parts = are.parts;
  failed = omega (arith, le, le', are.failed);
  whole = are.whole;
  newest = are.newest;
  shards = are.shards;
  gaps = are.gaps;
  missing_puts = are.missing_puts;
  missing = are.missing;
}

deep_around : (dimensions : Option Dimensions) (image : Image) (x y z u : ℕ) (found : Deep) → x ≤ y → z ≤ u → IsDeep dimensions image y z found → IsDeep dimensions image x u found
deep_around dimensions image x y z u deep.NotAsked le le' is = tt
deep_around dimensions image x y z u deep.NoStore le le' is = is
deep_around dimensions image x y z u (deep.Found frames) le le' is = (is.0, is.1, frames_around (of_store is.0) image x y z u frames le le' is.2)

-- and of its frames
pub look_deep : (count : ℕ) (image there : Image) (f0 f1 f2 f4 f5 : ℕ) (store : Option Dimensions) (found : Deep) → f0 ≤ f1 → f0 ≤ f4 → f2 ≤ f5 → there ≡ image
    → (store ≡ dimensions_on count image) ⊎ Rises f1 f2 → IsDeep store there f4 f5 found → IsDeepOn count image f0 f5 found
look_deep count image there f0 f1 f2 f4 f5 store found le01 le04 le25 same known is = ⊎_elim
    (λ (at : store ≡ dimensions_on count image).
    inr (subst (λ (d : Option Dimensions). IsDeep d image f0 f5 found) at (subst (λ (i : Image). IsDeep store i f0 f5 found) same (deep_around store there f0 f4 f5 f5 found le04 (omega arith) is))))
    (λ (rise : Rises f1 f2). inl (rises_within f0 f1 f2 f5 le01 le25 rise))
    known

-- ---- frames

-- an image from page 0 on is that image
all_pages : (image : Image) → from_on 0 image ≡ image
all_pages image = refl

pub frames_found : (d : Dimensions) (image : Image) (x y : ℕ) (finds : Finds) (frames : Frames) → AreParts (of_store d) (without finds.unreadable.items (from_on 0 image)) finds.parts.items
    → RisesBy (length finds.unreadable.items) x y → frames.unreadable ≡ finds.unreadable → frames.parts ≡ finds.parts
    → ((whole : List WholeShard) × AreNewest finds.parts.items whole × (frames.shards ≡ length whole)) → ((gaps : List Missing) × AreMissing finds.parts.items gaps × (frames.missing ≡ length gaps))
    → AreFramesOf (of_store d) image x y frames
frames_found d image x y finds frames are failed unreadable parts whole gaps =
    let numbers : finds.unreadable.items ≡ frames.unreadable.items = sym (ap (λ v. v.items) unreadable) in
    let those : finds.parts.items ≡ frames.parts.items = sym (ap (λ v. v.items) parts) in
    record {
      parts = subst (λ (l : List Part). AreParts (of_store d) (without frames.unreadable.items image) l) those
          (subst (λ (l : List ℕ). AreParts (of_store d) (without l image) finds.parts.items) numbers (subst (λ (i : Image). AreParts (of_store d) (without finds.unreadable.items i) finds.parts.items) (all_pages image) are));
      failed = subst (λ (l : List ℕ). RisesBy (length l) x y) numbers failed;
      whole = whole.0;
      newest = subst (λ (l : List Part). AreNewest l whole.0) those whole.1;
      shards = whole.2;
      gaps = gaps.0;
      missing_puts = subst (λ (l : List Part). AreMissing l gaps.0) those gaps.1;
      missing = gaps.2;
    }

-- ---- extents

-- Those of the first k numbers that have P are in the list, and no others.
abbrev pub AreThoseBelow : (P : ℕ → Type 0) → (k : ℕ) → List ℕ → Type 0
AreThoseBelow P k xs = (e : ℕ) → Contains xs e ↔ ((e < k) × P e)

none_at_all : (P : ℕ → Type 0) → AreThoseBelow P 0 []
none_at_all P e = (λ h. absurd (omega (arith, h.1)), λ h. absurd (omega (arith, h.0)))

pub none_below : (P : ℕ → Type 0) (xs : List ℕ) → xs ≡ [] → AreThoseBelow P 0 xs
none_below P xs none = subst (AreThoseBelow P 0) (sym none) (none_at_all P)

-- below the next number, or that one
split : (k e : ℕ) → e < k + 1 → (e < k) ⊎ (k ≡ e)
split k e lt = ⊎_elim (λ (l : e < k). inl l) (λ (l : k ≤ e). inr (omega (arith, l, lt))) (cases_lt e k)

module _ (P : ℕ → Type 0) (k : ℕ) (xs ys : List ℕ) (was : AreThoseBelow P k xs) where
  -- one more that has it
  pub below_more : P k → ys ≡ xs ++ k ∷ [] → AreThoseBelow P (k + 1) ys
  below_more here new = subst (λ (l : List ℕ). AreThoseBelow P (k + 1) l) (sym new) (λ e. (
    λ h. ⊎_elim (λ (c : Contains xs e). let it = (was e).0 c in (omega (arith, it.0), it.1)) (λ (same : k ≡ e). (omega (arith, same), subst P same here)) (Contains-push_cases xs k e h),
    λ h. ⊎_elim (λ (lt : e < k). Contains-append_left xs (k ∷ []) e ((was e).1 (lt, h.1))) (λ (same : k ≡ e). subst (λ (n : ℕ). Contains (xs ++ k ∷ []) n) same (Contains-push xs k)) (split k e h.0),
  ))

  -- one that hasn't
  pub below_still : (P k → ⊥) → ys ≡ xs → AreThoseBelow P (k + 1) ys
  below_still not_here new = subst (λ (l : List ℕ). AreThoseBelow P (k + 1) l) (sym new) (λ e. (
    λ h. let it = (was e).0 h in (omega (arith, it.0), it.1),
    λ h. ⊎_elim (λ (lt : e < k). (was e).1 (lt, h.1)) (λ (same : k ≡ e). absurd (not_here (subst P (sym same) h.1))) (split k e h.0),
  ))
