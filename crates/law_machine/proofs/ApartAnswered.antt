-- Where chunks and runs lie apart BeginSweep, MoveOne and Retire have an answer: a refusal, or what they do.
use Rattle.std.proofs.Common.{◌≡◌, ◌≢◌, ◌⊎◌, inl, inr, ⊎_elim, ℕ, suc, ◌<◌, ◌≤◌, true, false, List, [], ◌∷◌, Option, Some, None, refl, sym, ap, ◌∙◌, subst, le_of_eq, le_trans, arith}
use Rattle.std.proofs.lemmas.Bool.{cases_Bool, cases_eq, cases_lt}
use Rattle.law_machine.proofs.AnsweredStages.{stages_or_full, stages_young}
use Rattle.law_machine.proofs.AnsweredSweeps.{copied_to, left_one, move_one, retire_one, same_read, some_left, undamaged}
use Rattle.law_machine.proofs.Limits.{past_decided, worn_or_not, not_past}
use Rattle.law_machine.proofs.Outcomes.{Answers, chosen_found, clears, ends, frame_generations_by, frame_or_full, not_true, of_nth}
use Rattle.law_machine.proofs.Rules.{apart_rule, rule_apart}
use Rattle.law_machine.proofs.Settling.{settled_alike}
use Rattle.law_machine.specs.Append.{AppendsFrameBy, ResetWorn}
use Rattle.law_machine.specs.Apart.{BeginsApart, DamagedLeft, FirstLeft, IsCopied, NoRoomToCopy, NotSweepableApart, NothingLeft, StagesApart, any_swept, by_rule, settled, sweeping}
use Rattle.law_machine.specs.Device.{IsShape, Shape}
use Rattle.law_machine.specs.Element.{Copy, Locator}
use Rattle.law_machine.specs.Events.{Does, mark}
use Rattle.law_machine.specs.Extents.{ForMove}
use Rattle.law_machine.specs.Formats.{ChunkFrame, Formats}
use Rattle.law_machine.specs.Frames.{IsFormat}
use Rattle.law_machine.specs.Grounds.{DamagedFirst, NoRoomApart, NoRoomForRun, NoRoomToMove, WouldPass}
use Rattle.law_machine.specs.Index.{NothingLive, live_at}
use Rattle.law_machine.specs.Lists.{nth, ◌∈◌}
use Rattle.law_machine.specs.Refusal.{Full, Halted, NotSweepable, Refusal, StillLive, WornOut}
use Rattle.law_machine.specs.Sound.{Bounded, Sound}
use Rattle.law_machine.specs.State.{BeginSweep, MoveOne, Moved, NoneLive, Refused, Retire, Retired, State, Sweeping, index_now}

same_locator : (l m : Locator) → (l ≡ m) ⊎ (l ≢ m)
same_locator l m = elim (cases_eq l.extent m.extent) [
  | inr other ↦ inr (λ is. other (ap (λ (x : Locator). x.extent) is))
  | inl e ↦ elim (cases_eq l.page m.page) [
    | inr other ↦ inr (λ is. other (ap (λ (x : Locator). x.page) is))
    | inl p ↦ elim (cases_eq l.generation m.generation) [
      | inr other ↦ inr (λ is. other (ap (λ (x : Locator). x.generation) is))
      | inl g ↦ elim (cases_eq l.mark m.mark) [
        | inr other ↦ inr (λ is. other (ap (λ (x : Locator). x.mark) is))
        | inl k ↦ inl (λ i. record { extent = e i; page = p i; generation = g i; mark = k i })
      ]
    ]
  ]
]

-- a chunk was copied, or not
abbrev CopiedIn : List Copy → (id chunk : ℕ) → Locator → Type 0
CopiedIn cs id chunk l = (c : Copy) × (c ∈ cs) × (c.id ≡ id) × (c.chunk ≡ chunk) × (c.from ≡ l)

is_copy : (c : Copy) (id k : ℕ) (l : Locator) → ((c.id ≡ id) × (c.chunk ≡ k) × (c.from ≡ l))
    ⊎ ((c.id ≡ id) × (c.chunk ≡ k) × (c.from ≡ l) → ⊥)
is_copy c id k l = elim (cases_eq c.id id) [
  | inr other ↦ inr (λ is. other is.0)
  | inl i ↦ elim (cases_eq c.chunk k) [
    | inr other ↦ inr (λ is. other is.1)
    | inl j ↦ ⊎_elim (λ (same : c.from ≡ l). inl (i, j, same)) (λ (other : c.from ≢ l). inr (λ is. other is.2))
        (same_locator c.from l)
  ]
]

copied_in : (cs : List Copy) (id k : ℕ) (l : Locator) → CopiedIn cs id k l ⊎ (CopiedIn cs id k l → ⊥)
copied_in [] id k l = inr (λ c. c.1)
copied_in (c ∷ cs) id k l = ⊎_elim
    (λ is. inl (c, inl refl, is.0, is.1, is.2))
    (λ (not : (c.id ≡ id) × (c.chunk ≡ k) × (c.from ≡ l) → ⊥). ⊎_elim
    (λ more. inl (more.0, inr more.1, more.2, more.3, more.4))
    (λ (none : CopiedIn cs id k l → ⊥). inr (λ d. ⊎_elim
    (λ (same : d.0 ≡ c). not (subst (λ (x : Copy). (x.id ≡ id) × (x.chunk ≡ k) × (x.from ≡ l)) same (d.2, d.3, d.4)))
    (λ (later : d.0 ∈ cs). none (d.0, later, d.2, d.3, d.4)) d.1))
    (copied_in cs id k l))
    (is_copy c id k l)

module _ (S : Shape) (F : Formats) (shape : IsShape S) (format : IsFormat S F) where
  copied_decided : (s : State) (id k : ℕ) (l : Locator) → IsCopied s id k l ⊎ (IsCopied s id k l → ⊥)
  copied_decided s id k l = copied_in s.copies id k l

  -- the first chunk that is left, or nothing is
  pub left_found : (s : State) (e : ℕ) → ((id : ℕ) × (k : ℕ) × (l : Locator) × FirstLeft s e id k l) ⊎ NothingLeft s e
  left_found s e = ⊎_elim
      (λ found. inl (
        found.0,
        found.1,
        found.2,
        record {
          there = found.3.there;
          on_it = found.3.chosen.0;
          left = found.3.chosen.1;
          first = λ d j x at on. ⊎_elim (λ (copied : IsCopied s d j x). inl copied)
              (λ (not : IsCopied s d j x → ⊥). inr (found.3.first d j x at (on, not))) (copied_decided s d j x);
        },
      ))
      (λ (none : (d j : ℕ) (x : Locator) → nth (live_at (index_now s) d) j ≡ Some x
      → (x.extent ≡ e) × (IsCopied s d j x → ⊥) → ⊥). inr
      (λ id k l at on. ⊎_elim (λ (copied : IsCopied s id k l). copied)
      (λ (not : IsCopied s id k l → ⊥). absurd (none id k l at (on, not))) (copied_decided s id k l)))
      (chosen_found S F shape format s (λ d j x. (x.extent ≡ e) × (IsCopied s d j x → ⊥)) decided)
    where
      decided : (d j : ℕ) (x : Locator) → ((x.extent ≡ e) × (IsCopied s d j x → ⊥))
          ⊎ ((x.extent ≡ e) × (IsCopied s d j x → ⊥) → ⊥)
      decided d j x = elim (cases_eq x.extent e) [
        | inr other ↦ inr (λ p. other p.0)
        | inl on ↦ ⊎_elim (λ (copied : IsCopied s d j x). inr (λ p. p.1 copied))
            (λ (not : IsCopied s d j x → ⊥). inl (on, not)) (copied_decided s d j x)
      ]

  module _ (apart : S.apart ≡ true) where
    -- retire
    retire_done : (s : State) (e : ℕ) → Sound S F s → Bounded S F s → (s.halted ≡ true → ⊥)
        → (s.world.extents.swept e ≡ false → ⊥) → s.world.extents.swept e ≡ true → NothingLeft s e → (t : State)
        → StagesApart S F (settled (mark s e false)) t → Answers S F shape format s (Retire e)
    retire_done s e sound b on sweeps swept none t stages =
        let d : Does S F s (Retire e) (Retired (suc s.world.root)) t =
        rule_apart _ _ S.apart apart (swept, none, refl, stages) in
        let live : by_rule S.apart (NothingLive (index_now s) e → ⊥) (NothingLeft s e → ⊥) → ⊥ =
        (λ some. apart_rule _ _ S.apart apart some none) in
        let room : by_rule S.apart (NoRoomForRun S F s ForMove) (NoRoomApart S F (settled (mark s e false))) → ⊥ =
        (λ full. apart_rule _ _ S.apart apart full t stages) in
        let young : (d : ℕ) → (settled (mark s e false)).world.extents.generation d ≤ S.greatest_generation =
        settled_alike (λ (x : State). (d : ℕ) → x.world.extents.generation d ≤ S.greatest_generation) (mark s e false)
        (λ d. (sound.safe.extents_fit d).1) in
        elim (cases_lt (s.world.extents.generation e) S.greatest_generation) [
          | inr worn ↦ (
            Refused WornOut,
            s,
            (inl (inr (on, inr (sweeps, inr (live, inr (room, inl (rule_apart _ _ S.apart apart (inr worn), refl)))))), refl),
          )
          | inl fits ↦ ⊎_elim
              (λ worn. (
                Refused WornOut,
                s,
                (inl (inr (on, inr (sweeps, inr (live, inr (room, inl (rule_apart _ _ S.apart apart (inl worn), refl)))))), refl),
              ))
              (λ (not_worn : WouldPass S F s (Retire e) → ⊥). (
                Retired (suc s.world.root),
                t,
                (
                  clears Halted on (clears NotSweepable sweeps (clears StillLive live (clears Full room
                      (clears WornOut (neither not_worn fits) ends)))),
                  d,
                ),
              ))
              (worn_or_not S F s t (Retire e) (Retired (suc s.world.root)) d
              (λ r u x. retire_one S F shape format s e (Retired (suc s.world.root)) r t u d x)
              (past_decided S F t (stages_young S F shape format (settled (mark s e false)) t young stages)))
        ]
      where
        neither : (WouldPass S F s (Retire e) → ⊥) → s.world.extents.generation e < S.greatest_generation
            → by_rule S.apart (WouldPass S F s (Retire e)) (WouldPass S F s (Retire e) ⊎ ResetWorn S s.world.extents e) → ⊥
        neither not_worn fits worn = ⊎_elim (λ (pass : WouldPass S F s (Retire e)). not_worn pass)
            (λ (late : S.greatest_generation ≤ s.world.extents.generation e). absurd (omega arith))
            (apart_rule _ _ S.apart apart worn)

    pub answers_retire_apart : (s : State) (e : ℕ) → Sound S F s → Bounded S F s → Answers S F shape format s (Retire e)
    answers_retire_apart s e sound b = elim (cases_Bool s.halted) [
      | inl halted ↦ (Refused Halted, s, (inl (inl (halted, refl)), refl))
      | inr runs ↦ (let on : s.halted ≡ true → ⊥ = not_true s.halted runs in elim (cases_Bool (s.world.extents.swept e)) [
        | inr not ↦ (Refused NotSweepable, s, (inl (inr (on, inl (not, refl))), refl))
        | inl swept ↦ (let sweeps : s.world.extents.swept e ≡ false
            → ⊥ = (λ not. not_true (s.world.extents.swept e) not swept) in ⊎_elim
            (λ live. (
              Refused StillLive,
              s,
              (
                inl (inr (
                  on,
                  inr (
                    sweeps,
                    inl (
                      rule_apart _ _ S.apart apart
                          (some_left S F shape format s e live.0 live.1 live.2 live.3),
                      refl,
                    ),
                  ),
                )),
                refl,
              ),
            ))
            (λ (none : NothingLeft s e). ⊎_elim
            (λ one. retire_done s e sound b on sweeps swept none one.0 one.1)
            (λ (full : NoRoomApart S F (settled (mark s e false))). (
              Refused Full,
              s,
              (
                inl (inr (on, inr (sweeps, inr (live_not none, inl (rule_apart _ _ S.apart apart full, refl))))),
                refl,
              ),
            ))
            (stages_or_full S F shape format (settled (mark s e false))))
            (left_found s e))
      ])
    ]
      where
        live_not : NothingLeft s e → by_rule S.apart (NothingLive (index_now s) e → ⊥) (NothingLeft s e → ⊥) → ⊥
        live_not none some = apart_rule _ _ S.apart apart some none

    -- move
    pub answers_move_apart : (s : State) (e : ℕ) → Sound S F s → Bounded S F s → Answers S F shape format s (MoveOne e)
    answers_move_apart s e sound b = elim (cases_Bool s.halted) [
      | inl halted ↦ (Refused Halted, s, (inl (inl (halted, refl)), refl))
      | inr runs ↦ (let on : s.halted ≡ true → ⊥ = not_true s.halted runs in elim (cases_Bool (s.world.extents.swept e)) [
        | inr not ↦ (Refused NotSweepable, s, (inl (inr (on, inl (not, refl))), refl))
        | inl swept ↦ (let sweeps : s.world.extents.swept e ≡ false
            → ⊥ = (λ not. not_true (s.world.extents.swept e) not swept) in ⊎_elim
            (λ live. with_left on swept sweeps live.0 live.1 live.2 live.3 (s.opening.damage live.2) refl)
            (λ (none : NothingLeft s e).
            let whole : (g : Refusal) → by_rule S.apart (DamagedFirst S F s e g) (DamagedLeft S F s e g)
            → ⊥ = (λ g y. let x = apart_rule _ _ S.apart apart y in some_left S F shape format s e x.0 x.1 x.2 x.3 none) in
            let room : by_rule S.apart ((NothingLive (index_now s) e → ⊥) × NoRoomToMove S F s e)
            ((NothingLeft s e → ⊥) × NoRoomToCopy S F s e) → ⊥ = (λ full. (apart_rule _ _ S.apart apart full).0 none) in
            let d : Does S F s (MoveOne e) NoneLive s = rule_apart _ _ S.apart apart (swept, none, refl) in
            ⊎_elim
            (λ worn. (
              Refused WornOut,
              s,
              (inl (inr (on, inr (sweeps, inr (whole, inr (room, inl (worn, refl)))))), refl),
            ))
            (λ (not_worn : WouldPass S F s (MoveOne e) → ⊥). (
              NoneLive,
              s,
              (
                clears Halted on (clears NotSweepable sweeps
                    (undamaged S F shape format whole (clears Full room (clears WornOut not_worn ends)))),
                d,
              ),
            ))
            (worn_or_not S F s s (MoveOne e) NoneLive d
            (λ r u x. move_one S F shape format s e NoneLive r s u d x) (inr (not_past S F s sound b))))
            (left_found s e))
      ])
    ]
      where
        with_left : (s.halted ≡ true → ⊥) → s.world.extents.swept e ≡ true → (s.world.extents.swept e ≡ false → ⊥)
            → (id k : ℕ) (l : Locator) → FirstLeft s e id k l → (o : Option Refusal) → s.opening.damage l ≡ o
            → Answers S F shape format s (MoveOne e)
        with_left on swept sweeps id k l first (Some f) is =
            (Refused f, s, (inl (inr (on, inr (sweeps, inl (rule_apart _ _ S.apart apart (id, k, l, first, is))))), refl))
        with_left on swept sweeps id k l first None is = ⊎_elim
            (λ bad. absurd (let e : None ≡ Some bad.0 = sym is ∙ bad.1 in cc))
            (λ has. ⊎_elim
            (λ one.
            let t : State = copied_to S F shape format s id k l one.0 one.1 in
            let d : Does S F s (MoveOne e) (Moved id k) t = rule_apart _ _ S.apart apart
            (l, one.0, has.0, one.1, swept, first, is, has.1, one.2, refl) in
            let room : by_rule S.apart ((NothingLive (index_now s) e → ⊥) × NoRoomToMove S F s e)
            ((NothingLeft s e → ⊥) × NoRoomToCopy S F s e)
            → ⊥ = (λ full. (apart_rule _ _ S.apart apart full).1 id k l one.0 has.0 one.1 first has.1 one.2) in
            ⊎_elim
            (λ worn. (
              Refused WornOut,
              s,
              (inl (inr (on, inr (sweeps, inr (whole, inr (room, inl (worn, refl)))))), refl),
            ))
            (λ (not_worn : WouldPass S F s (MoveOne e) → ⊥). (
              Moved id k,
              t,
              (
                clears Halted on (clears NotSweepable sweeps
                    (undamaged S F shape format whole (clears Full room (clears WornOut not_worn ends)))),
                d,
              ),
            ))
            (worn_or_not S F s t (MoveOne e) (Moved id k) d
            (λ r u x. move_one S F shape format s e (Moved id k) r t u d x)
            (past_decided S F t
            (λ x. le_trans (le_of_eq
            (ap (λ (f : ℕ → ℕ). f x)
            (frame_generations_by S F shape format true s one.1 ForMove ChunkFrame has.0 one.0 one.2)))
            (sound.safe.extents_fit x).1))))
            (λ (full : (n : Locator) (t : State) → AppendsFrameBy S F true s ForMove ChunkFrame has.0 n t → ⊥). (
              Refused Full,
              s,
              (
                inl (inr (
                  on,
                  inr (
                    sweeps,
                    inr (
                      whole,
                      inl (
                        rule_apart _ _ S.apart apart (
                          some_left S F shape format s e id k l first,
                          (λ d j m new payload mid other reads appends.
                              full new mid (subst (λ (c : List ℕ). AppendsFrameBy S F true s ForMove ChunkFrame c new mid)
                              (same_read S F shape format s m l payload has.0
                              (left_one S F shape format s e d id j k m l other first).2 reads has.1) appends)),
                        ),
                        refl,
                      ),
                    ),
                  ),
                )),
                refl,
              ),
            ))
            (frame_or_full S F shape format true s ForMove ChunkFrame has.0))
            (sound.gives.holds id l (of_nth S F shape format (live_at (index_now s) id) k l first.there))
          where
            whole : (g : Refusal) → by_rule S.apart (DamagedFirst S F s e g) (DamagedLeft S F s e g) → ⊥
            whole g y = (let x = apart_rule _ _ S.apart apart y in
                let same : x.2 ≡ l = (left_one S F shape format s e x.0 id x.1 k x.2 l x.3 first).2 in
                let e : None ≡ Some g = sym is ∙ ap s.opening.damage (sym same) ∙ x.4 in cc)

    -- begin
    some_copies : (cs : List Copy) → (cs ≡ []) ⊎ (cs ≢ [])
    some_copies [] = inl refl
    some_copies (c ∷ cs) = inr (λ none. let e : c ∷ cs ≡ [] = none in cc)

    begins_or_not : (s : State) (e : ℕ) → BeginsApart S s e (sweeping S s e) ⊎ NotSweepableApart S s e
    begins_or_not s e = elim (cases_Bool (any_swept S s)) [
      | inl some ↦ inr (inl some)
      | inr none ↦ ⊎_elim
          (λ (no_copies : s.copies ≡ []). elim (cases_lt e S.extents) [
            | inr out ↦ inr (inr (inr (inl out)))
            | inl there ↦ elim (cases_eq (s.world.extents.pointer e) 0) [
              | inl empty ↦ inr (inr (inr (inr (inl empty))))
              | inr some ↦ elim (cases_Bool (s.world.extents.of_runs e)) [
                | inl of_runs ↦ inr (inr (inr (inr (inr of_runs))))
                | inr of_chunks ↦ inl (none, no_copies, there, omega arith, of_chunks, refl)
              ]
            ]
          ])
          (λ (copies : s.copies ≢ []). inr (inr (inl copies))) (some_copies s.copies)
    ]

    -- what can be swept isn't refused
    pub sweepable : (s : State) (e : ℕ) (t : State) → BeginsApart S s e t → NotSweepableApart S s e → ⊥
    sweepable s e t d (inl some) = not_true (any_swept S s) d.0 some
    sweepable s e t d (inr (inl copies)) = copies d.1
    sweepable s e t d (inr (inr (inl out))) = (let lt : e < S.extents = d.2 in omega arith)
    sweepable s e t d (inr (inr (inr (inl empty)))) = (let lt : 0 < s.world.extents.pointer e = d.3 in omega arith)
    sweepable s e t d (inr (inr (inr (inr of_runs)))) = not_true (s.world.extents.of_runs e) d.4 of_runs

    pub answers_begin_apart : (s : State) (e : ℕ) → (s.halted ≡ true → ⊥) → Answers S F shape format s (BeginSweep e)
    answers_begin_apart s e on = ⊎_elim
        (λ (d : BeginsApart S s e (sweeping S s e)). (
          Sweeping,
          sweeping S s e,
          (
            clears Halted on (clears NotSweepable (λ bad. sweepable s e (sweeping S s e) d (apart_rule _ _ S.apart apart bad)) ends),
            rule_apart _ _ S.apart apart d,
          ),
        ))
        (λ (bad : NotSweepableApart S s e).
        (Refused NotSweepable, s, (inl (inr (on, inl (rule_apart _ _ S.apart apart bad, refl))), refl)))
        (begins_or_not s e)
