-- How far a reclaim goes, for one aim or another.
use Rattle.std.proofs.Common.{◌≡◌, ◌∙◌, ◌⊎◌, ◌+◌, ◌-◌, ◌*◌, ◌^◌, ◌≤◌, ℕ, List, Bool, true, false, ap, arith, inl, inr, length, min, replicate, subst, sym, ⊎_elim}
use Rattle.std.proofs.Math.ListN.{length-replicate}
use Rattle.std.specs.Prelude.{Err, IfErr, IfOk, IsErrAnd, MatchBool, Ok, Option, Result}
use Rattle.cs_chunk.specs.Cuts.{IsCut, IsOversized}
use Rattle.cs_chunk.specs.Puts.{IsPutFull, PutFits}
use Rattle.cs_chunk.specs.declared.cuts.Cut.{Cut}
use Rattle.cs_core.specs.Stored.{Stored}
use Rattle.cs_core.specs.Views.{View}
use Rattle.cs_disk.proofs.OnlyRead.{reads_on}
use Rattle.cs_disk.specs.declared.disk.PageDisk.{Ghosts as PageDisk}
use Rattle.cs_extent.specs.State.{State as Extents, IsWhole, shape}
use Rattle.cs_frame.specs.Geometries.{greatest_extents}
use Rattle.cs_inspect.specs.Choices.{ReadsOn}
use Rattle.cs_refusal.specs.declared.refusals.Refusal.{Refusal as Why}
use Rattle.cs_refusal.specs.declared.refusals.Refusal.TheVariants.{TooLarge}
use Rattle.law_machine.specs.Device.{Shape}
use Rattle.law_machine.specs.Format.{Format, Four, Two}
use Rattle.cs_tools.specs.Aims.{HasNoRoomFor, HasRoomFor, IfPut, IsFullFor, IsNextFor, IsPutAnd, IsSettled, most_emptied}
use Rattle.cs_tools.specs.Headers.{IsLeft}
use Rattle.cs_tools.specs.Reclaims.{EmptiesAll, EmptiesInVain, MayRefuseReclaim, MayStop, Step}
use Rattle.cs_tools.specs.declared.aims.Aim.{Aim}
use Rattle.cs_tools.specs.declared.aims.Aim.TheVariants.{Brim, Pairs, Room}
use Rattle.cs_advice.specs.declared.outputs.Style.{Style}
use Rattle.cs_tools.specs.declared.reclaim_command.Stop.{Stop}
use Rattle.cs_tools.specs.declared.reclaim_command.Stop.TheVariants.{Refused}
use Rattle.cs_tools.specs.declared.seeks.Next.{Next}
use Rattle.cs_tools.specs.declared.seeks.Next.TheVariants.{Extent, Nothing}
use Rattle.cs_tools.proofs.Resting.{store_read}
use Rattle.cs_tools.proofs.Still.{same_on}

-- what is told by a test
pub told_true : (P Q : Type 0) (b : Bool) → MatchBool b P Q → b ≡ true → P
told_true P Q b told is = subst (λ (x : Bool). MatchBool x P Q) is told

pub told_false : (P Q : Type 0) (b : Bool) → MatchBool b P Q → b ≡ false → Q
told_false P Q b told is = subst (λ (x : Bool). MatchBool x P Q) is told

-- ---- whether a put has room

module _ (x : Extents) (count : ℕ) (cut : Cut) (is : IsCut (shape x) count cut) where
  cut_so : (bytes : List ℕ) → length bytes ≡ count → IsCut (shape x) (length bytes) cut
  cut_so bytes long = subst (λ (n : ℕ). IsCut (shape x) n cut) (sym long) is

  pub room_by_cut : (b : Bool) → ¬ IsOversized (shape x) count
      → ((bytes : List ℕ) (id command : ℕ) → IsCut (shape x) (length bytes) cut → MatchBool b (PutFits x id command bytes) (IsPutFull x id command bytes))
      → MatchBool b (HasRoomFor x count) (HasNoRoomFor x count)
  room_by_cut true small says = (small, λ bytes id command long. says bytes id command (cut_so bytes long))
  room_by_cut false small says = inr (λ bytes id command long. says bytes id command (cut_so bytes long))

-- where no put is aimed at, none has room, and none is too large
pub no_put_has : (b : Bool) (P Q : ℕ → Type 0) (aim : Aim) → b ≡ false → (aim ≡ Pairs) ⊎ (aim ≡ Brim) → MatchBool b (IsPutAnd aim P) (IfPut aim Q)
no_put_has b P Q aim is (inl pairs) = subst (λ (x : Bool). MatchBool x (IsPutAnd aim P) (IfPut aim Q)) (sym is) (subst (λ (a : Aim). IfPut a Q) (sym pairs) tt)
no_put_has b P Q aim is (inr brim) = subst (λ (x : Bool). MatchBool x (IsPutAnd aim P) (IfPut aim Q)) (sym is) (subst (λ (a : Aim). IfPut a Q) (sym brim) tt)

pub no_put_is : (P : ℕ → Type 0) (aim : Aim) → (aim ≡ Pairs) ⊎ (aim ≡ Brim) → ¬ IsPutAnd aim P
no_put_is P aim (inl pairs) = subst (λ (a : Aim). ¬ IsPutAnd a P) (sym pairs) (λ h. h)
no_put_is P aim (inr brim) = subst (λ (a : Aim). ¬ IsPutAnd a P) (sym brim) (λ h. h)

-- what is full has no room
never_both : (aim : Aim) (x : Extents) → IsPutAnd aim (HasRoomFor x) → IsPutAnd aim (IsFullFor x) → ⊥
never_both Pairs x room full = room
never_both (Room count) x room full =
    let bytes : List ℕ = replicate count 0 in
    let long : length (replicate count 0) ≡ count = length-replicate count 0 in
    let fits = room.1 (replicate count 0) 0 0 long in
    full (replicate count 0) 0 0 long fits.0 fits.1 fits.2
never_both Brim x room full = room

-- what isn't too large, and has no room, is full
pub full_for : (aim : Aim) (x y : Extents) → shape y ≡ shape x → ¬ IsPutAnd aim (IsOversized (shape x)) → IsPutAnd aim (HasNoRoomFor y) → IsPutAnd aim (IsFullFor y)
full_for Pairs x y same small none = none
full_for (Room count) x y same small none = ⊎_elim
    (λ (over : IsOversized (shape y) count). absurd (small (subst (λ (S : Shape). IsOversized S count) same over)))
    (λ (full : IsFullFor y count). full)
    none
full_for Brim x y same small none = none

-- ---- how many extents are emptied

pub from_zero : (n : ℕ) → 0 ≤ n
from_zero n = omega arith

few : (format : Format) → greatest_extents format ≤ 7680
few Two = omega arith
few (Four store device) = omega arith

pub few_extents : (x : Extents) (count : ℕ) → IsWhole x → count ≡ (shape x).extents → count ≤ 7680
few_extents x count whole is =
    let bound : greatest_extents x.format ≤ 7680 = few x.format in
    let le : (shape x).extents ≤ greatest_extents x.format = whole.geometry.most_extents in
    omega (arith, bound, le, is)

pub most_pairs : (aim : Aim) (x : Extents) (count most : ℕ) → aim ≡ Pairs → IsWhole x → count ≡ (shape x).extents → most ≡ min (count * 2) (2 ^ 64 - 1) → most ≡ most_emptied aim (shape x).extents
most_pairs aim x count most pairs whole is twice =
    let small : count ≤ 7680 = few_extents x count whole is in
    subst (λ (a : Aim). most ≡ most_emptied a (shape x).extents) (sym pairs) (omega (arith, small, is, twice))

pub most_brim : (aim : Aim) (x : Extents) (count most : ℕ) → ((bytes : ℕ) × (aim ≡ Room bytes)) ⊎ (aim ≡ Brim) → count ≡ (shape x).extents → most ≡ 3 * count + 1 → most ≡ most_emptied aim (shape x).extents
most_brim aim x count most (inl put) is most_is = subst (λ (a : Aim). most ≡ most_emptied a (shape x).extents) (sym put.1) (most_is ∙ ap (λ (n : ℕ). 3 * n + 1) is)
most_brim aim x count most (inr brim) is most_is = subst (λ (a : Aim). most ≡ most_emptied a (shape x).extents) (sym brim) (most_is ∙ ap (λ (n : ℕ). 3 * n + 1) is)

pub most_held : (aim : Aim) (x held : Extents) (most : ℕ) → x ≡ held → most ≡ most_emptied aim (shape x).extents → most ≡ most_emptied aim (shape held).extents
most_held aim x held most same is = subst (λ (y : Extents). most ≡ most_emptied aim (shape y).extents) same is

-- ---- what is next

-- of those who say that nothing more is emptied the counts are the same
pub same_left : {E : Type 0} (n m : ℕ) → ◌≡◌ {A = Result Next E} (Ok (Nothing n)) (Ok (Nothing m)) → n ≡ m
same_left n m is = cc is

module _ {D : Type 0} (disks : PageDisk D) where
  -- and they are those that are left
  pub left_of : {E : Type 0} (new : View D) (r : Result Next E) → IfOk r (λ next. (n : ℕ) × (next ≡ Nothing n) × IsLeft disks n new) → (unreadable : ℕ) → r ≡ Ok (Nothing unreadable) → IsLeft disks unreadable new
  left_of {E} new r nothing unreadable is =
      let it = subst (λ (x : Result Next E). IfOk x (λ next. (n : ℕ) × (next ≡ Nothing n) × IsLeft disks n new)) is nothing in
      let same : unreadable ≡ it.0 = cc it.1 in
      subst (λ (n : ℕ). IsLeft disks n new) (sym same) it.2

  -- if nothing more is emptied, that is what is next
  pub next_settled : (aim : Aim) (passed : List ℕ) (old new : View D) (next : Next) → IsSettled disks aim passed old → (n : ℕ) × (next ≡ Nothing n) × IsLeft disks n new → IsNextFor disks aim passed old new next
  next_settled aim passed old new next settled it = subst (λ (x : Next). IsNextFor disks aim passed old new x) (sym it.1) settled

  pub reads_then : (a b c : View D) → ReadsOn disks a b → ReadsOn disks b c → ReadsOn disks a c
  reads_then a b c p q = (same_on a b c p.0 q.0, reads_on disks a.disk b.disk c.disk p.1 q.1)

  -- what is next up to the brim is next for a put, too
  pub brim_for_put : (bytes : ℕ) (passed : List ℕ) (old new : View D) (next : Next) → IsNextFor disks Brim passed old new next → IsNextFor disks (Room bytes) passed old new next
  brim_for_put bytes passed old new (Extent choice) is = is
  brim_for_put bytes passed old new (Nothing unreadable) (inl none) = inl none
  brim_for_put bytes passed old new (Nothing unreadable) (inr room) = absurd room

  -- if the put is full at the end, none is chosen any more, or as many steps were done as may be
  pub in_vain : (aim : Aim) (style : Style) (steps : List Step) (old new : View D) (a b : Option (List ℕ)) → EmptiesAll disks aim style steps old new a b → IsPutAnd aim (IsFullFor new.store.extents)
      → EmptiesInVain disks aim style steps old new a b
  in_vain aim style steps old new a b (le, last, does, reads, inl (inl none)) full = (le, last, does, reads, inl none, full)
  in_vain aim style steps old new a b (le, last, does, reads, inl (inr room)) full =
      absurd (never_both aim new.store.extents (subst (λ (s : Stored). IsPutAnd aim (HasRoomFor s.extents)) (sym (store_read last new reads.0)) room) full)
  in_vain aim style steps old new a b (le, last, does, reads, inr many) full = (le, last, does, reads, inr many, full)

-- ---- what ended it

-- what holds of an error that is passed on
pub err_passed : {T : Type 0} (P : Stop → Type 0) (r : Result T Stop) (stop : Stop) → IsErrAnd r (λ s. s ≡ stop) → P stop → IfErr r P
err_passed P (Ok x) stop same p = tt
err_passed P (Err s) stop same p = subst P (sym same) p

-- what a refusal may be
pub refused_as : {T : Type 0} (r : Result T Stop) (why : Why) → r ≡ Err (Refused why) → IfErr r (λ stop. MayStop stop ⊎ (stop ≡ Refused TooLarge)) → MayRefuseReclaim why ⊎ (why ≡ TooLarge)
refused_as {T = T} r why is may = ⊎_elim
    (λ (m : MayRefuseReclaim why). inl m)
    (λ (same : Refused why ≡ Refused TooLarge). inr (cc same))
    (subst (λ (x : Result T Stop). IfErr x (λ stop. MayStop stop ⊎ (stop ≡ Refused TooLarge))) is may)

-- what ends it later is never that a put is too large
pub never_too_large : {T : Type 0} (r : Result T Stop) → IfErr r MayStop → r ≡ Err (Refused TooLarge) → ⊥
never_too_large {T = T} r may is = ⊎_elim (λ (sweep : ⊥). sweep) (λ (sync : ⊥). sync) (subst (λ (x : Result T Stop). IfErr x MayStop) is may)
