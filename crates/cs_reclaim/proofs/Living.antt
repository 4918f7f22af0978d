-- What is live on an extent, and the places of a shard.
use Rattle.std.proofs.Common.{◌≡◌, ◌∙◌, ⊎_elim, ℕ, zero, suc, ◌<◌, ◌≤◌, List, [], ◌∷◌, Option, Some, None, map, refl, sym, ap, subst, arith}
use Rattle.std.proofs.lemmas.Option.{same_Some}
use Rattle.cs_frame.specs.declared.locators.Locator.{Locator}
use Rattle.std.specs.Prelude.{MatchOption, false, is_some, slice_set, true}
use Rattle.std.specs.List.{AllByRecursion}
use Rattle.cs_frame.specs.Formats.{place_of}
use Rattle.cs_frame.specs.Locators.{KeepFormat}
use Rattle.cs_index.proofs.Living.{nth_in}
use Rattle.cs_index.specs.State.{IsSet, State}
use Rattle.law_machine.specs.Format.{Format}
use Rattle.law_machine.specs.Element.{Entry, Locator as Place}
use Rattle.law_machine.specs.Index.{FirstLive, NothingLive, live, live_at}
use Rattle.law_machine.specs.Lists.{nth, replaced}

-- something is live where the first of it is
pub live_there : (index : List Entry) (e id k : ℕ) (l : Place) → FirstLive index e id k l → NothingLive index e → ⊥
live_there index e id k l first none = none id l (nth_in (live_at index id) k l first.there) first.on_it

-- ---- the places of a shard

-- a shard with a chunk has an entry
pub has_entry : (o : Option (List Place)) (k : ℕ) (l : Place) → nth (live o) k ≡ Some l → o ≡ Some (live o)
has_entry None k l at = absurd (cc at)
has_entry (Some ls) k l at = refl

pub replaced_map : (ps : List Locator) (k : ℕ) (p : Locator) → map place_of (slice_set ps k p) ≡ replaced (map place_of ps) k (place_of p)
replaced_map [] k p = refl
replaced_map (q ∷ ps) zero p = refl
replaced_map (q ∷ ps) (suc k) p = ap (λ ls. place_of q ∷ ls) (replaced_map ps k p)

-- with another place that keeps to the format the places of a shard keep to it
pub replaced_keeps : (format : Format) (ps : List Locator) (k : ℕ) (p : Locator) → KeepFormat format ps → KeepFormat format (p ∷ []) → KeepFormat format (slice_set ps k p)
replaced_keeps format ps k p keep here = λ off. go ps k (keep off) (here off).0
  where
    go : (qs : List Locator) (j : ℕ) → AllByRecursion (λ q. q.mark ≡ 0) qs → p.mark ≡ 0 → AllByRecursion (λ q. q.mark ≡ 0) (slice_set qs j p)
    go [] j all is = tt
    go (q ∷ qs) zero all is = (is, all.1)
    go (q ∷ qs) (suc j) all is = (all.0, go qs j all.1 is)

-- what is set after room was made is set
pub set_from : (s u t : State) (id : ℕ) (ls ms : List Place) → u ≡ record s { room = u.room } → ls ≡ ms → IsSet u id ls t → IsSet s id ms t
set_from s u t id ls ms is same set =
    roomy u.room (subst (λ (v : State). IsSet v id ms t) is (subst (λ (ps : List Place). IsSet u id ps t) same set))
  where
    roomy : (room : ℕ) → IsSet (record s { room = room }) id ms t → IsSet s id ms t
    roomy room h = record { table = h.table; index = h.index; runs = h.runs; format = h.format; limit = h.limit }

-- ---- the first live chunk is one

module _ (index : List Entry) (e id k : ℕ) (l : Place) (a : FirstLive index e id k l) (jd j : ℕ) (m : Place) (b : FirstLive index e jd j m) where
  one_id : id ≡ jd
  one_id = ⊎_elim
      (λ (lt : id < jd). ⊎_elim
      (λ (gt : jd < id). absurd (omega (arith, lt, gt)))
      (λ (same : (jd ≡ id) × (j ≤ k)). sym same.0)
      (b.first id k l a.there a.on_it))
      (λ (same : (id ≡ jd) × (k ≤ j)). same.0)
      (a.first jd j m b.there b.on_it)

  one_chunk : k ≡ j
  one_chunk = ⊎_elim
      (λ (lt : id < jd). absurd (omega (arith, lt, one_id)))
      (λ (same : (id ≡ jd) × (k ≤ j)). ⊎_elim
      (λ (gt : jd < id). absurd (omega (arith, gt, one_id)))
      (λ (back : (jd ≡ id) × (j ≤ k)). omega (arith, same.1, back.1))
      (b.first id k l a.there a.on_it))
      (a.first jd j m b.there b.on_it)

  pub one_place : l ≡ m
  one_place = same_Some l m (sym a.there ∙ ap (λ n. nth (live_at index n) k) one_id ∙ ap (nth (live_at index jd)) one_chunk ∙ b.there)

-- where no live chunk was found nothing is live
pub dead : {F : Type 0} (o : Option F) (none : Type 0) (some : F → Type 0) → MatchOption o none some → is_some o ≡ false → none
dead None none some found is = found
dead (Some f) none some found is = absurd (cc is)

-- what was found is live
pub alive : {X : Type 0} (o : Option X) (index : List Entry) (e : ℕ) (id k : X → ℕ) (l : X → Place)
    → MatchOption o (NothingLive index e) (λ found. FirstLive index e (id found) (k found) (l found)) → is_some o ≡ true → NothingLive index e → ⊥
alive None index e id k l found some none = absurd (let wrong : false ≡ true = some in cc)
alive (Some x) index e id k l found some none = live_there index e (id x) (k x) (l x) found none
