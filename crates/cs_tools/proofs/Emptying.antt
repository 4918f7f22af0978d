-- Chosen extents that are emptied one after another.
use Rattle.std.proofs.Common.{◌≡◌, ◌∙◌, ◌⊎◌, ⊎_elim, false, true, ap, arith, inl, inr, ◌+◌, ◌≤◌, ◌∷◌, [], ℕ, suc, add-one, length, refl, subst, sym}
use Rattle.cs_core.specs.Views.{View}
use Rattle.cs_disk.specs.declared.disk.PageDisk.{Ghosts as PageDisk}
use Rattle.cs_extent.specs.State.{State as Extents, shape}
use Rattle.law_machine.specs.Device.{Shape}
use Rattle.law_machine.specs.Extents.{empties}
use Rattle.std.specs.Prelude.{Err, IfErr, IfOk, IsErrAnd, List, OnOk, Option, Result, Ok}
use Rattle.cs_extent.specs.State.{extents_of}
use Rattle.cs_refusal.specs.declared.refusals.Refusal.{Refusal as Why}
use Rattle.cs_refusal.specs.declared.refusals.Refusal.TheVariants.{OutOfMemory}
use Rattle.cs_tools.specs.declared.aims.Aim.{Aim}
use Rattle.cs_advice.specs.declared.outputs.Style.{Style}
use Rattle.cs_tools.specs.declared.reclaim_command.Stop.{Stop}
use Rattle.cs_tools.specs.declared.reclaim_command.Stop.TheVariants.{Failed, Refused}
use Rattle.cs_tools.specs.declared.reclaim_command.Left.{Left}
use Rattle.cs_tools.specs.declared.emptyings.Sought.{Sought}
use Rattle.cs_tools.specs.declared.emptyings.Sought.TheVariants.{Found, Nothing}
use Rattle.cs_advice.specs.declared.outcomes.Outcome.{Outcome}
use Rattle.cs_advice.specs.declared.outcomes.Outcome.TheVariants.{Damaged, Done}
use Rattle.cs_inspect.specs.Choices.{ReadsOn}
use Rattle.cs_inspect.specs.Past.{is_of_chunk}
use Rattle.cs_writeback.specs.Histories.{MakesRoom}
use Rattle.cs_writeback.specs.Sweeps.{IsSweepRefused}
use Rattle.cs_writeback.specs.Syncs.{StopsSync, Syncs}
use Rattle.cs_tools.specs.declared.emptyings.Tried.{Tried}
use Rattle.cs_tools.specs.declared.emptyings.Tried.TheVariants.{GivenUp}
use Rattle.cs_tools.specs.Aims.{IsSettled, Picks, most_emptied}
use Rattle.cs_tools.specs.Headers.{AreReadable, IsLeft, WasCounted, WasUnreadable}
use Rattle.cs_tools.specs.Reclaims.{DoesOne, DoesStep, DoesSteps, EmptiesPast, HandlesExtent, IfRefused, IsClean, IsDamagedFor, IsDoneIfWhole, IsMarred, LieApart, Reclaims, ReclaimsPast, Step, StopsEmptying, StopsLater, StopsNext, Tries, WhetherFound, empty_extents, passed_after, passed_in}
use Rattle.cs_tools.proofs.Readable.{none_left, some_left, was_some}

module _ {D : Type 0} (disks : PageDisk D) (aim : Aim) (style : Style) where
  -- steps, as many as this, in which these extents were passed over
  abbrev pub AreSteps : (count : ℕ) → (passed : List ℕ) → (old new : View D) → (before after : Option (List ℕ)) → Type 0
  AreSteps count passed old new before after = (steps : List Step) × (length steps ≡ count) × (passed ≡ passed_in steps) × DoesSteps disks aim style steps old new before after

  pub no_step : (old : View D) (a : Option (List ℕ)) (passed : List ℕ) → passed ≡ [] → AreSteps 0 passed old old a a
  no_step old a passed none = ([], refl, none, (refl, refl))

  module _ (n : ℕ) (passed : List ℕ) (old mid : View D) (a b : Option (List ℕ)) (so_far : AreSteps n passed old mid a b) where
    pub one_more : (next : List ℕ) (new : View D) (c : Option (List ℕ)) → DoesOne disks aim style passed next mid new b c → AreSteps (n + 1) next old new a c
    one_more next new c (step, does, after) = (
      step ∷ so_far.0,
      ap (λ (k : ℕ). suc k) so_far.1 ∙ sym (add-one n),
      after ∙ ap (passed_after step) so_far.2,
      (mid, b, so_far.3, subst (λ (es : List ℕ). DoesStep disks aim style es step mid new b c) so_far.2 does),
    )

    pub stopped_later : (new : View D) (c : Option (List ℕ)) (r : Why) → StopsNext disks aim passed mid new r × (c ≡ b) → StopsLater disks aim style old new a c r
    stopped_later new c r (stops, same) = (
      so_far.0,
      mid,
      subst (λ (end : Option (List ℕ)). DoesSteps disks aim style so_far.0 old mid a end) (sym same) so_far.3,
      subst (λ (es : List ℕ). StopsNext disks aim es mid new r) so_far.2 stops,
    )

    -- nothing more is to be emptied, or as many steps were done as may be
    pub emptied_past : (told : ℕ) (new : View D) (c : Option (List ℕ)) → n ≤ most_emptied aim (shape old.store.extents).extents → told ≡ length passed → ReadsOn disks mid new
        → IsSettled disks aim passed mid ⊎ (n ≡ most_emptied aim (shape old.store.extents).extents) → c ≡ b → EmptiesPast disks aim style told old new a c
    emptied_past told new c few told_is reads ends same = (
      so_far.0,
      told_is ∙ ap (λ (es : List ℕ). length es) so_far.2,
      (
        subst (λ (k : ℕ). k ≤ most_emptied aim (shape old.store.extents).extents) (sym so_far.1) few,
        mid,
        subst (λ (end : Option (List ℕ)). DoesSteps disks aim style so_far.0 old mid a end) (sym same) so_far.3,
        reads,
        ⊎_elim
            (λ (settled : IsSettled disks aim passed mid). inl (subst (λ (es : List ℕ). IsSettled disks aim es mid) so_far.2 settled))
            (λ (many : n ≡ most_emptied aim (shape old.store.extents).extents). inr (so_far.1 ∙ many))
            ends,
      ),
    )

  -- the step of an extent that was chosen
  pub step_done : (passed given next : List ℕ) (old read new : View D) (a b : Option (List ℕ)) (extent dead : ℕ) → given ≡ passed → ReadsOn disks old read → Picks disks aim given old read extent dead
      → HandlesExtent disks style extent dead passed next read new a b
      → DoesOne disks aim style passed next old new a b
  step_done passed given next old read new a b extent dead same reads picks (step, of, handles, after) = (
    step,
    (read, dead, reads, subst (λ (e : ℕ). Picks disks aim passed old read e dead) (sym of) (subst (λ (es : List ℕ). Picks disks aim es old read extent dead) same picks), handles),
    after,
  )

-- a step was done
pub found_so : (P Q : Type 0) (sought : Sought) → sought ≡ Found → P → WhetherFound sought P Q
found_so P Q sought is p = subst (λ (s : Sought). WhetherFound s P Q) (sym is) p

pub found_never : {E : Type 0} (Q : Sought → Type 0) (r : Result Sought E) (n : ℕ) → IfOk r (λ sought. (sought ≡ Found) × Q sought) → r ≡ Ok (Nothing n) → ⊥
found_never {E} Q r n found is = let it = subst (λ (x : Result Sought E). IfOk x (λ sought. (sought ≡ Found) × Q sought)) is found in let clash : Nothing n ≡ Found = it.0 in absurd (cc clash)

pub ok_both : {T E : Type 0} (P : Type 0) (Q : T → Type 0) (r : Result T E) → OnOk r P → IfOk r Q → IfOk r (λ x. P × Q x)
ok_both P Q (Ok x) p q = (p, q)
ok_both P Q (Err e) p q = tt

-- of those who say that nothing is chosen the counts are the same
pub same_count : {E : Type 0} (n m : ℕ) → ◌≡◌ {A = Result Sought E} (Ok (Nothing n)) (Ok (Nothing m)) → n ≡ m
same_count n m is = cc is

-- a sweep that was given up, where all was synced then
pub given_up : {D : Type 0} (disks : PageDisk D) (extent : ℕ) (old room swept new : View D) (why : Why) (tried : Tried) → MakesRoom old room → IsSweepRefused disks extent room swept why
    → (tried ≡ GivenUp why) × (is_of_chunk why ≡ true) × Syncs disks swept new → Tries disks extent tried old new
given_up disks extent old room swept new why tried made refused (is, of, syncs) =
    subst (λ (t : Tried). Tries disks extent t old new) (sym is) (record { room = room; made = made; given_up = swept; refused = refused; of_chunk = of; syncs = syncs })

pub stops_given_up : {D : Type 0} (disks : PageDisk D) (extent : ℕ) (old room swept new : View D) (why r : Why) → MakesRoom old room → IsSweepRefused disks extent room swept why
    → ((r ≡ why) × (is_of_chunk why ≡ false) × (new ≡ swept)) ⊎ ((is_of_chunk why ≡ true) × StopsSync disks swept r new) → StopsEmptying disks extent old new r
stops_given_up {D} disks extent old room swept new why r made refused (inl (same, none, stays)) =
    (room, made, inl (subst (λ (v : View D). IsSweepRefused disks extent room v r) (sym stays) (subst (λ (y : Why). IsSweepRefused disks extent room swept y) (sym same) refused), subst (λ (y : Why). is_of_chunk y ≡ false) (sym same) none))
stops_given_up {D} disks extent old room swept new why r made refused (inr (of, stops)) = (room, made, inr (swept, inr (why, refused, of), stops))

-- what a result is known to be holds of it
pub known_ok : {T E : Type 0} (P : T → Type 0) (r : Result T E) (x : T) → r ≡ Ok x → IfOk r P → P x
known_ok {T} {E} P r x is p = subst (λ (y : Result T E). IfOk y P) is p

pub known_on : {T E : Type 0} (P : Type 0) (r : Result T E) (x : T) → r ≡ Ok x → OnOk r P → P
known_on {T} {E} P r x is p = subst (λ (y : Result T E). OnOk y P) is p

no_length : (xs : List ℕ) (n : ℕ) → n ≡ length xs → n ≡ 0 → xs ≡ []
no_length [] n is none = refl
no_length (x ∷ xs) n is none = let clash : suc (length xs) ≡ 0 = sym is ∙ none in absurd (omega (arith, clash))

-- how a reclaim ended that is done, or ends as damaged
module _ {E : Type 0} (o : Outcome) (r : Result Left E) (done : o ≡ Done → (left : Left) × (r ≡ Ok left) × IsClean left) (damaged : o ≡ Damaged → (left : Left) × (r ≡ Ok left) × IsMarred left) where
  -- it wasn't ended early
  pub ended_well : (P : Type 0) → OnOk r P → (o ≡ Done) ⊎ (o ≡ Damaged) → P
  ended_well P p (inl is) = let told = done is in known_on P r told.0 told.1 p
  ended_well P p (inr is) = let told = damaged is in known_on P r told.0 told.1 p

  module _ {D : Type 0} (disks : PageDisk D) (aim : Aim) (style : Style) (old new : View D) (a b : Option (List ℕ)) (left : IfOk r (λ left. IsLeft disks left.unreadable new))
      (past : IfOk r (λ left. ReclaimsPast disks aim style left old new a b)) where
    -- what it did
    pub ended_so : (o ≡ Done) ⊎ (o ≡ Damaged) → (steps : List Step) × (unreadable : ℕ) × IsLeft disks unreadable new × Reclaims disks aim style steps unreadable old new a b × IsDoneIfWhole o steps unreadable
    ended_so (inl is) =
        let told = done is in
        let was = known_ok (λ (l : Left). ReclaimsPast disks aim style l old new a b) r told.0 told.1 past in
        let whole : (passed_in was.0 ≡ []) × (told.0.unreadable ≡ 0) = (no_length (passed_in was.0) told.0.passed_over was.1 told.2.1, told.2.0) in
        (was.0, told.0.unreadable, known_ok (λ (l : Left). IsLeft disks l.unreadable new) r told.0 told.1 left, was.2, (λ so. whole, λ so. is))
    ended_so (inr is) =
        let told = damaged is in
        let was = known_ok (λ (l : Left). ReclaimsPast disks aim style l old new a b) r told.0 told.1 past in (
          was.0,
          told.0.unreadable,
          known_ok (λ (l : Left). IsLeft disks l.unreadable new) r told.0 told.1 left,
          was.2,
          (λ well. let clash : Done ≡ Damaged = sym well ∙ is in absurd (cc clash), λ whole. absurd (marred told.0 was.0 told.2 was.1 whole)),
        )
      where
        marred : (l : Left) (steps : List Step) → IsMarred l → l.passed_over ≡ length (passed_in steps) → (passed_in steps ≡ []) × (l.unreadable ≡ 0) → ⊥
        marred l steps (inl some) are whole = some whole.1
        marred l steps (inr some) are whole = some (are ∙ ap (λ (es : List ℕ). length es) whole.0)

    -- why it ends as damaged
    pub ended_damaged : o ≡ Damaged → IsDamagedFor disks aim style old new a b
    ended_damaged is =
        let told = damaged is in
        go told.0 told.2 (known_ok (λ (l : Left). IsLeft disks l.unreadable new) r told.0 told.1 left) (known_ok (λ (l : Left). ReclaimsPast disks aim style l old new a b) r told.0 told.1 past)
      where
        go : (l : Left) → IsMarred l → IsLeft disks l.unreadable new → ReclaimsPast disks aim style l old new a b → IsDamagedFor disks aim style old new a b
        go l (inl some) is_left was = inl (some_left disks l.unreadable new some is_left)
        go l (inr some) is_left was = inr (was.0, l.unreadable, was.2, λ none. some (was.1 ∙ ap (λ (es : List ℕ). length es) none))

    -- it is done only if all headers can be read
    pub ended_readable : o ≡ Done → AreReadable disks new
    ended_readable is = let told = done is in none_left disks told.0.unreadable new told.2.0 (known_ok (λ (l : Left). IsLeft disks l.unreadable new) r told.0 told.1 left)

  -- in format 2 none is passed over
  module _ {D : Type 0} (disks : PageDisk D) (old : View D) (counted : IfOk r (λ left. (left.passed_over ≡ 0) × WasCounted disks left.unreadable old)) where
    pub done_v2 : o ≡ Done → AreReadable disks old
    done_v2 is =
        let told = done is in
        let was = known_ok (λ (l : Left). (l.passed_over ≡ 0) × WasCounted disks l.unreadable old) r told.0 told.1 counted in
        subst (λ (n : ℕ). WasCounted disks n old) told.2.0 was.1

    pub damaged_v2 : o ≡ Damaged → WasUnreadable disks old
    damaged_v2 is =
        let told = damaged is in
        go told.0 told.2 (known_ok (λ (l : Left). (l.passed_over ≡ 0) × WasCounted disks l.unreadable old) r told.0 told.1 counted)
      where
        go : (l : Left) → IsMarred l → (l.passed_over ≡ 0) × WasCounted disks l.unreadable old → WasUnreadable disks old
        go l (inl some) was = was_some disks l.unreadable old some was.1
        go l (inr some) was = absurd (some was.0)

-- a store whose shape is the same holds its chunks and runs apart still
pub apart_still : {D : Type 0} (old new : View D) → shape new.store.extents ≡ shape old.store.extents → LieApart old → LieApart new
apart_still old new same apart = ap (λ (S : Shape). S.apart) same ∙ apart

-- how many extents are empty
pub counted_empty : {D : Type 0} (v : View D) (x : Extents) (n : ℕ) → x ≡ v.store.extents → n ≡ empties (extents_of x).pointer (shape x).extents → n ≡ empty_extents v
counted_empty v x n same is = subst (λ (y : Extents). n ≡ empties (extents_of y).pointer (shape y).extents) same is

-- ---- what ended it early

-- what holds of a refusal, in other words
pub refused_so : (P Q : Why → Type 0) → ((r : Why) → P r → Q r) → (stop : Stop) → IfRefused stop P → IfRefused stop Q
refused_so P Q weaker (Refused r) p = weaker r p
refused_so P Q weaker Failed p = tt

-- a writer that failed is no refusal
pub none_refused : (P : Why → Type 0) (stop : Stop) → stop ≡ Failed → IfRefused stop P
none_refused P stop is = subst (λ (s : Stop). IfRefused s P) (sym is) tt

pub none_printed : {T : Type 0} (P : Why → Type 0) (r : Result T Stop) → IfErr r (λ stop. stop ≡ Failed) → IfErr r (λ stop. IfRefused stop P)
none_printed P (Ok x) h = tt
none_printed P (Err stop) h = none_refused P stop h

-- memory ran out
pub no_memory : {T : Type 0} (P : Why → Type 0) (r : Result T Stop) → P OutOfMemory → IfErr r (λ stop. stop ≡ Refused OutOfMemory) → IfErr r (λ stop. IfRefused stop P)
no_memory P (Ok x) p h = tt
no_memory P (Err stop) p h = subst (λ (s : Stop). IfRefused s P) (sym h) p

-- a refusal that is known
pub was_refused : {T : Type 0} (P : Why → Type 0) (r : Result T Stop) (why : Why) → r ≡ Err (Refused why) → IfErr r (λ stop. IfRefused stop P) → P why
was_refused {T = T} P r why is h = subst (λ (x : Result T Stop). IfErr x (λ stop. IfRefused stop P)) is h

-- a refusal that is passed on
pub passed_on : {T : Type 0} (P : Why → Type 0) (r : Result T Stop) (stop : Stop) → IsErrAnd r (λ s. s ≡ stop) → IfRefused stop P → IfErr r (λ s. IfRefused s P)
passed_on P (Ok x) stop same p = tt
passed_on P (Err s) stop same p = subst (λ (s' : Stop). IfRefused s' P) (sym same) p
