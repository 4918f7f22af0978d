-- Retire and MoveOne have an answer: a refusal, or what they do.
use Rattle.std.proofs.Common.{◌≡◌, ◌⊎◌, inl, inr, ⊎_elim, ℕ, ◌≤◌, suc, true, false, List, ◌∷◌, Option, Some, None, refl, sym, ap, ap₂, ◌∙◌, subst, le_of_eq, le_trans, arith, ◌<◌}
use Rattle.std.proofs.lemmas.Bool.{cases_lt, cases_Bool}
use Rattle.law_machine.specs.Apart.{DamagedLeft, FirstLeft, NoRoomToCopy, NothingLeft, by_rule, settled}
use Rattle.law_machine.proofs.AnsweredStages.{stages_one}
use Rattle.law_machine.proofs.Quiet.{none_moved}
use Rattle.law_machine.proofs.Rules.{apart_rule, before_rule, rule_before}
use Rattle.law_machine.proofs.Parts.{with_same, with_below}
use Rattle.law_machine.proofs.Limits.{past_decided, worn_or_not, not_past}
use Rattle.law_machine.proofs.Outcomes.{Answers, not_true, frame_one, frame_generations, frame_or_full, merged_one, merged_or_full, merged_generations, of_nth, live_found, first_one, not_nothing, clears, ends}
use Rattle.law_machine.specs.Append.{AppendsFrame, AppendsFrameBy, ResetWorn}
use Rattle.law_machine.specs.Device.{IsShape, Shape}
use Rattle.law_machine.specs.Element.{Locator, Run}
use Rattle.law_machine.specs.Events.{Does, Merged, ReadsNow, newest_page, retired, mark}
use Rattle.law_machine.specs.Extents.{ForMove}
use Rattle.law_machine.specs.Formats.{ChunkFrame, Formats}
use Rattle.law_machine.specs.Frames.{IsFormat}
use Rattle.law_machine.specs.Grounds.{DamagedFirst, FoundDamaged, NoRoomForRun, NoRoomToMove, PastLimit, WouldPass, NoRoomApart}
use Rattle.law_machine.specs.Index.{FirstLive, NothingLive, live_at}
use Rattle.law_machine.specs.Lists.{replaced, nth}
use Rattle.law_machine.specs.Refusal.{Full, Halted, NotSweepable, Refusal, StillLive, WornOut}
use Rattle.law_machine.specs.Sound.{Bounded, Sound}
use Rattle.law_machine.specs.State.{MoveOne, Moved, NoneLive, Refused, Reply, Retire, Retired, State, index_now}

module _ (S : Shape) (F : Formats) (shape : IsShape S) (format : IsFormat S F) where
  -- retire
  pub retire_one : (s : State) (e : ℕ) (r q : Reply) (t u : State) → Does S F s (Retire e) r t
      → Does S F s (Retire e) q u → u ≡ t
  retire_one s e (Retired v) (Retired w) t u a b = elim (cases_Bool S.apart) [
    | inl on ↦ stages_one S F shape format (settled (mark s e false)) t u (apart_rule _ _ S.apart on a).3
        (apart_rule _ _ S.apart on b).3
    | inr before ↦ (let x = before_rule _ _ S.apart before a in let y = before_rule _ _ S.apart before b in
        let one = merged_one S F shape format s x.3 y.3 ForMove x.4 y.4 x.5 y.5 in
        y.6 ∙ sym (ap₂ (λ (m : State) (rs : List Run). retired S F m rs e) one.0 one.1) ∙ sym x.6)
  ]
  retire_one s e (Retired v) q t u a b = absurd b
  retire_one s e r q t u a b = absurd a

  retire_past : (s mid : State) (runs : List Run) (e : ℕ) → Sound S F s → Merged S F s ForMove mid runs
      → PastLimit S F (retired S F mid runs e) ⊎ (PastLimit S F (retired S F mid runs e) → ⊥)
  retire_past s mid runs e sound m =
      let same : mid.world.extents.generation
      ≡ s.world.extents.generation = merged_generations S F shape format s mid ForMove runs m in
      elim (cases_lt S.greatest_generation (suc (mid.world.extents.generation e))) [
        | inl past ↦ inl (inl
            (inr (inr (inr (
              e,
              le_trans past
                  (le_of_eq (sym (with_same mid.world.extents.generation e
                  (suc (mid.world.extents.generation e)) e refl))),
            )))))
        | inr fits ↦ past_decided S F (retired S F mid runs e) (λ d. with_below mid.world.extents.generation e
            (suc (mid.world.extents.generation e)) d S.greatest_generation fits
            (subst (λ (f : ℕ → ℕ). f d ≤ S.greatest_generation) (sym same) (sound.safe.extents_fit d).1))
      ]

  pub answers_retire : S.apart ≡ false → (s : State) (e : ℕ) → Sound S F s → Bounded S F s
      → Answers S F shape format s (Retire e)
  answers_retire before s e sound b = elim (cases_Bool s.halted) [
    | inl halted ↦ (Refused Halted, s, (inl (inl (halted, refl)), refl))
    | inr runs ↦ (let on : s.halted ≡ true → ⊥ = not_true s.halted runs in elim (cases_Bool (s.world.extents.swept e)) [
      | inr not ↦ (Refused NotSweepable, s, (inl (inr (on, inl (not, refl))), refl))
      | inl swept ↦ (let sweeps : s.world.extents.swept e ≡ false
          → ⊥ = (λ not. not_true (s.world.extents.swept e) not swept) in ⊎_elim
          (λ live. (
            Refused StillLive,
            s,
            (
              inl (inr (
                on,
                inr (
                  sweeps,
                  inl
                      (rule_before _ _ S.apart before (not_nothing S F shape format s e live.0 live.1 live.2 live.3), refl),
                ),
              )),
              refl,
            ),
          ))
          (λ (none : NothingLive (index_now s) e). ⊎_elim
          (λ one.
          let t : State = retired S F one.0 one.1 e in
          let d : Does S F s (Retire e) (Retired (suc s.world.root)) t =
          rule_before _ _ S.apart before (swept, none, refl, one.0, one.1, one.2, refl) in
          let room : by_rule S.apart (NoRoomForRun S F s ForMove) (NoRoomApart S F (settled (mark s e false)))
          → ⊥ = (λ full. before_rule _ _ S.apart before full one.0 one.1 one.2) in
          ⊎_elim
          (λ worn. (
            Refused WornOut,
            s,
            (
              inl (inr (
                on,
                inr (
                  sweeps,
                  inr (
                    (λ some. before_rule _ _ S.apart before some none),
                    inr (room, inl (rule_before _ _ S.apart before worn, refl)),
                  ),
                ),
              )),
              refl,
            ),
          ))
          (λ (not_worn : WouldPass S F s (Retire e) → ⊥). (
            Retired (suc s.world.root),
            t,
            (
              clears Halted on (clears NotSweepable sweeps
                  (clears StillLive (λ (some : by_rule S.apart (NothingLive (index_now s) e → ⊥) (NothingLeft s e → ⊥)).
                  before_rule _ _ S.apart before some none)
                  (clears Full room (clears WornOut (λ (worn : by_rule S.apart (WouldPass S F s (Retire e))
                  (WouldPass S F s (Retire e) ⊎ ResetWorn S s.world.extents e)). not_worn (before_rule _ _ S.apart before worn)) ends)))),
              d,
            ),
          ))
          (worn_or_not S F s t (Retire e) (Retired (suc s.world.root)) d
          (λ r u x. retire_one s e (Retired (suc s.world.root)) r t u d x)
          (retire_past s one.0 one.1 e sound one.2)))
          (λ (full : NoRoomForRun S F s ForMove). (
            Refused Full,
            s,
            (
              inl (inr (
                on,
                inr (
                  sweeps,
                  inr (
                    (λ some. before_rule _ _ S.apart before some none),
                    inl (rule_before _ _ S.apart before full, refl),
                  ),
                ),
              )),
              refl,
            ),
          ))
          (merged_or_full S F shape format s ForMove))
          (live_found S F shape format s e))
    ])
  ]

  -- move
  abbrev moved_to : State → (id chunk : ℕ) → Locator → State → State
  moved_to s id chunk new
      mid = record mid {
        table = record {
          id = id;
          locators = replaced (live_at (index_now s) id) chunk new;
        } ∷ mid.table;
      }

  -- of the chunks that are left there is one first, and none where nothing is left
  pub left_one : (s : State) (e id d k j : ℕ) (l m : Locator) → FirstLeft s e id k l → FirstLeft s e d j m
      → (id ≡ d) × (k ≡ j) × (l ≡ m)
  left_one s e id d k j l m a b =
      let x : (id < d) ⊎ ((id ≡ d) × (k ≤ j)) = ⊎_elim (λ copied. absurd (b.left copied)) (λ order. order)
      (a.first d j m b.there b.on_it) in
      let y : (d < id) ⊎ ((d ≡ id) × (j ≤ k)) = ⊎_elim (λ copied. absurd (a.left copied)) (λ order. order)
      (b.first id k l a.there a.on_it) in
      let both = together x y in (
        both.0,
        both.1,
        (let same : Some l ≡ Some m = sym a.there
            ∙ ap₂ (λ (z n : ℕ). nth (live_at (index_now s) z) n) both.0 both.1 ∙ b.there in cc),
      )
    where
      together : ((id < d) ⊎ ((id ≡ d) × (k ≤ j))) → ((d < id) ⊎ ((d ≡ id) × (j ≤ k))) → (id ≡ d) × (k ≡ j)
      together (inl x) (inl y) = absurd (omega arith)
      together (inl x) (inr y) = absurd (let same : d ≡ id = y.0 in omega arith)
      together (inr x) (inl y) = absurd (let same : id ≡ d = x.0 in omega arith)
      together (inr x) (inr y) = (x.0, (let a_le : k ≤ j = x.1 in let b_le : j ≤ k = y.1 in omega arith))

  pub some_left : (s : State) (e id k : ℕ) (l : Locator) → FirstLeft s e id k l → NothingLeft s e → ⊥
  some_left s e id k l first none = first.left (none id k l first.there first.on_it)

  -- what is read there is one payload
  pub same_read : (s : State) (l m : Locator) (payload other : List ℕ) → l ≡ m → ReadsNow S F s l ChunkFrame payload
      → ReadsNow S F s m ChunkFrame other → payload ≡ other
  same_read s l m payload other same a b =
      let read = subst (λ (x : Locator). ReadsNow S F s x ChunkFrame payload) same a in
      format.one_payload (newest_page s) m.extent m.page ChunkFrame payload other
      (let i = read.inside in omega arith) (let i = b.inside in omega arith) read.stand b.stand

  none_or_one : (s t u : State) (e d j : ℕ) → Does S F s (MoveOne e) NoneLive t → Does S F s (MoveOne e) (Moved d j) u → ⊥
  none_or_one s t u e d j a b = elim (cases_Bool S.apart) [
    | inl on ↦ (let y = apart_rule _ _ S.apart on b in some_left s e d j y.0 y.5 (apart_rule _ _ S.apart on a).1)
    | inr before ↦ (let y = before_rule _ _ S.apart before b in
        not_nothing S F shape format s e d j y.0 y.5 (before_rule _ _ S.apart before a).1)
  ]

  abbrev pub copied_to : State → (id chunk : ℕ) → (from to : Locator) → State → State
  copied_to s id chunk from to mid =
      record mid { copies = record { id = id; chunk = chunk; from = from; to = to } ∷ mid.copies }

  moved_alike : (s t u : State) (e id k d j : ℕ) → Does S F s (MoveOne e) (Moved id k) t
      → Does S F s (MoveOne e) (Moved d j) u → u ≡ t
  moved_alike s t u e id k d j a b = elim (cases_Bool S.apart) [
    | inl on ↦ (let x = apart_rule _ _ S.apart on a in let y = apart_rule _ _ S.apart on b in
        let first = left_one s e id d k j x.0 y.0 x.5 y.5 in
        let payload : x.2 ≡ y.2 = same_read s x.0 y.0 x.2 y.2 first.2 x.7 y.7 in
        let one = frame_one S F shape format true s x.3 y.3 ForMove ChunkFrame y.2 x.1 y.1
        (subst (λ (c : List ℕ). AppendsFrameBy S F true s ForMove ChunkFrame c x.1 x.3) payload x.8) y.8 in
        y.9 ∙ sym (λ i. copied_to s (first.0 i) (first.1 i) (first.2 i) (one.0 i) (one.1 i)) ∙ sym x.9)
    | inr before ↦ (let x = before_rule _ _ S.apart before a in let y = before_rule _ _ S.apart before b in
        let first = first_one S F shape format s e id d k j x.0 y.0 x.5 y.5 in
        let payload : x.2 ≡ y.2 = same_read s x.0 y.0 x.2 y.2 first.2 x.7 y.7 in
        let one = frame_one S F shape format false s x.3 y.3 ForMove ChunkFrame y.2 x.1 y.1
        (subst (λ (c : List ℕ). AppendsFrame S F s ForMove ChunkFrame c x.1 x.3) payload x.8) y.8 in
        y.9 ∙ sym (λ i. moved_to s (first.0 i) (first.1 i) (one.0 i) (one.1 i)) ∙ sym x.9)
  ]

  pub move_one : (s : State) (e : ℕ) (r q : Reply) (t u : State) → Does S F s (MoveOne e) r t
      → Does S F s (MoveOne e) q u → u ≡ t
  move_one s e NoneLive NoneLive t u a b = none_moved S F s u e b ∙ sym (none_moved S F s t e a)
  move_one s e NoneLive (Moved d j) t u a b = absurd (none_or_one s t u e d j a b)
  move_one s e NoneLive q t u a b = absurd b
  move_one s e (Moved id k) NoneLive t u a b = absurd (none_or_one s u t e id k b a)
  move_one s e (Moved id k) (Moved d j) t u a b = moved_alike s t u e id k d j a b
  move_one s e (Moved id k) q t u a b = absurd b
  move_one s e r q t u a b = absurd a

  pub undamaged : {Damage Others : Refusal → Type 0} → ((g : Refusal) → Damage g → ⊥)
      → ((f : Refusal) → Others f → ⊥) → (f : Refusal) → FoundDamaged Damage Others f → ⊥
  undamaged whole others f (inl x) = whole f x
  undamaged whole others f (inr x) = others f x.1

  pub answers_move : S.apart ≡ false → (s : State) (e : ℕ) → Sound S F s → Bounded S F s → Answers S F shape format s (MoveOne e)
  answers_move before s e sound b = elim (cases_Bool s.halted) [
    | inl halted ↦ (Refused Halted, s, (inl (inl (halted, refl)), refl))
    | inr runs ↦ (let on : s.halted ≡ true → ⊥ = not_true s.halted runs in elim (cases_Bool (s.world.extents.swept e)) [
      | inr not ↦ (Refused NotSweepable, s, (inl (inr (on, inl (not, refl))), refl))
      | inl swept ↦ (let sweeps : s.world.extents.swept e ≡ false
          → ⊥ = (λ not. not_true (s.world.extents.swept e) not swept) in ⊎_elim
          (λ live. with_live on swept sweeps live.0 live.1 live.2 live.3 (s.opening.damage live.2) refl)
          (λ (none : NothingLive (index_now s) e).
          let whole : (g : Refusal) → by_rule S.apart (DamagedFirst S F s e g) (DamagedLeft S F s e g)
          → ⊥ = (λ g y. let x = before_rule _ _ S.apart before y in not_nothing S F shape format s e x.0 x.1 x.2 x.3 none) in
          let room : by_rule S.apart ((NothingLive (index_now s) e → ⊥) × NoRoomToMove S F s e)
          ((NothingLeft s e → ⊥) × NoRoomToCopy S F s e) → ⊥ = (λ full. (before_rule _ _ S.apart before full).0 none) in
          let d : Does S F s (MoveOne e) NoneLive s = rule_before _ _ S.apart before (swept, none, refl) in
          ⊎_elim
          (λ worn. (
            Refused WornOut,
            s,
            (inl (inr (on, inr (sweeps, inr (whole, inr (room, inl (worn, refl)))))), refl),
          ))
          (λ (not_worn : WouldPass S F s (MoveOne e) → ⊥). (
            NoneLive,
            s,
            (
              clears Halted on (clears NotSweepable sweeps
                  (undamaged whole (clears Full room (clears WornOut not_worn ends)))),
              d,
            ),
          ))
          (worn_or_not S F s s (MoveOne e) NoneLive d
          (λ r u x. move_one s e NoneLive r s u d x) (inr (not_past S F s sound b))))
          (live_found S F shape format s e))
    ])
  ]
    where
      with_live : (s.halted ≡ true → ⊥) → s.world.extents.swept e ≡ true → (s.world.extents.swept e ≡ false → ⊥)
          → (id k : ℕ) (l : Locator) → FirstLive (index_now s) e id k l → (o : Option Refusal) → s.opening.damage l ≡ o
          → Answers S F shape format s (MoveOne e)
      with_live on swept sweeps id k l first (Some f) is =
          (Refused f, s, (inl (inr (on, inr (sweeps, inl (rule_before _ _ S.apart before (id, k, l, first, is))))), refl))
      with_live on swept sweeps id k l first None is = ⊎_elim
          (λ bad. absurd (let e : None ≡ Some bad.0 = sym is ∙ bad.1 in cc))
          (λ has. ⊎_elim
          (λ one.
          let t : State = moved_to s id k one.0 one.1 in
          let d : Does S F s (MoveOne e) (Moved id k) t = rule_before _ _ S.apart before
          (l, one.0, has.0, one.1, swept, first, is, has.1, one.2, refl) in
          let room : by_rule S.apart ((NothingLive (index_now s) e → ⊥) × NoRoomToMove S F s e)
          ((NothingLeft s e → ⊥) × NoRoomToCopy S F s e)
          → ⊥ = (λ full. (before_rule _ _ S.apart before full).1 id k l one.0 has.0 one.1 first has.1 one.2) in
          ⊎_elim
          (λ worn. (
            Refused WornOut,
            s,
            (inl (inr (on, inr (sweeps, inr (whole, inr (room, inl (worn, refl)))))), refl),
          ))
          (λ (not_worn : WouldPass S F s (MoveOne e) → ⊥). (
            Moved id k,
            t,
            (
              clears Halted on
                  (clears NotSweepable sweeps
                  (undamaged whole (clears Full room (clears WornOut not_worn ends)))),
              d,
            ),
          ))
          (worn_or_not S F s t (MoveOne e) (Moved id k) d (λ r u x. move_one s e (Moved id k) r t u d x)
          (past_decided S F t
          (λ x. le_trans (le_of_eq
          (ap (λ (f : ℕ → ℕ). f x)
          (frame_generations S F shape format s one.1 ForMove ChunkFrame has.0 one.0 one.2)))
          (sound.safe.extents_fit x).1))))
          (λ (full : (n : Locator) (t : State) → AppendsFrame S F s ForMove ChunkFrame has.0 n t → ⊥). (
            Refused Full,
            s,
            (
              inl
                  (inr (
                    on,
                    inr (
                      sweeps,
                      inr (
                        whole,
                        inl (
                          rule_before _ _ S.apart before (
                            not_nothing S F shape format s e id k l first,
                            (λ d j m new payload mid other reads appends.
                                full new mid (subst (λ (c : List ℕ). AppendsFrame S F s ForMove ChunkFrame c new mid)
                                (same_payload d j m payload other reads has.0 has.1) appends)),
                          ),
                          refl,
                        ),
                      ),
                    ),
                  )),
              refl,
            ),
          ))
          (frame_or_full S F shape format false s ForMove ChunkFrame has.0))
          (sound.gives.holds id l (of_nth S F shape format (live_at (index_now s) id) k l first.there))
        where
          whole : (g : Refusal) → by_rule S.apart (DamagedFirst S F s e g) (DamagedLeft S F s e g) → ⊥
          whole g y = (let x = before_rule _ _ S.apart before y in
              let same : x.2 ≡ l = (first_one S F shape format s e x.0 id x.1 k x.2 l x.3 first).2 in
              let e : None ≡ Some g = sym is ∙ ap s.opening.damage (sym same) ∙ x.4 in cc)

          same_payload : (d j : ℕ) (m : Locator) (payload : List ℕ) → FirstLive (index_now s) e d j m
              → ReadsNow S F s m ChunkFrame payload → (c : List ℕ) → ReadsNow S F s l ChunkFrame c → payload ≡ c
          same_payload d j m payload other reads c here =
              same_read s m l payload c (first_one S F shape format s e d id j k m l other first).2 reads here
