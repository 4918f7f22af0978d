-- Put and Delete have an answer: a refusal, or what they do.
use Rattle.std.proofs.Common.{◌≡◌, inl, inr, ⊎_elim, ℕ, suc, ◌*◌, ◌<◌, ◌≤◌, true, List, [], ◌∷◌, length, Option, Some, None, refl, sym, ap, ap₂, ◌∙◌, subst, le_of_eq, le_trans, arith}
use Rattle.std.proofs.lemmas.Bool.{cases_lt, cases_Bool}
use Rattle.law_machine.proofs.Places.{fits_or_full}
use Rattle.law_machine.proofs.Needs.{all_one, fits_appends_by, appends_fit_by}
use Rattle.law_machine.proofs.Payloads.{payloads_one, payloads_there}
use Rattle.law_machine.proofs.Limits.{past_decided, worn_or_not, not_past}
use Rattle.law_machine.proofs.Heavy.{heavy_or_not}
use Rattle.law_machine.proofs.Outcomes.{Answers, not_true, clears, ends, all_generations_by}
use Rattle.law_machine.specs.Append.{chunk_frames, page_counts, AppendAllBy}
use Rattle.law_machine.specs.Device.{IsShape, Shape}
use Rattle.law_machine.specs.Element.{Content, Locator}
use Rattle.law_machine.specs.Events.{Does}
use Rattle.law_machine.specs.Extents.{ForPut, FitsBy}
use Rattle.law_machine.specs.Formats.{Formats}
use Rattle.law_machine.specs.Frames.{IsFormat}
use Rattle.law_machine.specs.Grounds.{NoRoomToPut, TooHeavy, WouldPass}
use Rattle.law_machine.specs.Machine.{World}
use Rattle.law_machine.specs.Refusal.{Full, Halted, IndexFull, TooLarge, WornOut}
use Rattle.law_machine.specs.Sound.{Bounded, Sound}
use Rattle.law_machine.specs.State.{Absent, Accepted, Delete, Put, Refused, Reply, State, map_now, next_command}

module _ (S : Shape) (F : Formats) (shape : IsShape S) (format : IsFormat S F) where
  -- put
  pub put_one : (s : State) (id : ℕ) (bytes : List ℕ) (r q : Reply) (t u : State) → Does S F s (Put id bytes) r t
      → Does S F s (Put id bytes) q u → u ≡ t
  put_one s id bytes (Accepted n) (Accepted m) t u a b =
      let chunks : a.0 ≡ b.0 = payloads_one S F id (next_command s) bytes a.0 b.0 a.3 b.3 in
      let one = all_one S S.apart s.world a.4.0 b.4.0 ForPut (chunk_frames S F b.0) a.1 b.1
      (subst (λ (cs : List (List ℕ)). AppendAllBy S S.apart s.world ForPut (chunk_frames S F cs) a.1 a.4.0) chunks a.4.1)
      b.4.1 in
      let mid : a.2 ≡ b.2 = a.4.2 ∙ ap (λ (v : World). record s { world = v }) one.1 ∙ sym b.4.2 in
      b.6 ∙ ap₂ (λ (x : State) (ls : List Locator). record x {
        table = record { id = id; locators = ls } ∷ x.table;
        commands = (id, Some bytes) ∷ x.commands;
      }) (sym mid) (sym one.0) ∙ sym a.6
  put_one s id bytes (Accepted n) q t u a b = absurd b
  put_one s id bytes r q t u a b = absurd a

  pub answers_put : (s : State) (id : ℕ) (bytes : List ℕ) → Sound S F s → Bounded S F s
      → Answers S F shape format s (Put id bytes)
  answers_put s id bytes sound b = elim (cases_Bool s.halted) [
    | inl halted ↦ (Refused Halted, s, (inl (inl (halted, refl)), refl))
    | inr runs ↦ (let go : s.halted ≡ true → ⊥ = not_true s.halted runs in
        elim (cases_lt (S.most_chunks * S.chunk_bytes) (length bytes)) [
          | inl large ↦ (Refused TooLarge, s, (inl (inr (go, inl (large, refl))), refl))
          | inr small ↦ (let fits : S.most_chunks * S.chunk_bytes < length bytes → ⊥ = (λ lt. omega arith) in
              let chunks = payloads_there S F id (next_command s) bytes (shape.some_piece (length bytes)) in ⊎_elim
              (λ heavy. (Refused IndexFull, s, (inl (inr (go, inr (fits, inl (heavy, refl)))), refl)))
              (λ (light : TooHeavy S F s id bytes → ⊥). ⊎_elim
              (λ (place : FitsBy S S.apart s.world.extents ForPut (page_counts (chunk_frames S F chunks.0))).
              let all = fits_appends_by S shape S.apart s.world ForPut (chunk_frames S F chunks.0) place in
              let mid : State = record s { world = all.1 } in
              let t : State = record mid {
                table = record { id = id; locators = all.0 } ∷ mid.table;
                commands = (id, Some bytes) ∷ mid.commands;
              } in
              let d : Does S F s (Put id bytes) (Accepted (suc (length s.commands))) t =
              (chunks.0, all.0, mid, chunks.1, (all.1, all.2, refl), refl, refl) in
              let room : NoRoomToPut S F s id bytes
              → ⊥ = (λ none. none chunks.0 all.0 mid chunks.1 (all.1, all.2, refl)) in
              let young : (e : ℕ)
              → t.world.extents.generation e ≤ S.greatest_generation =
              (λ e. le_trans (le_of_eq
              (ap (λ (f : ℕ → ℕ). f e)
              (all_generations_by S F shape format S.apart s.world all.1 ForPut (chunk_frames S F chunks.0) all.0 all.2)))
              (sound.safe.extents_fit e).1) in
              ⊎_elim
              (λ worn. (
                Refused WornOut,
                s,
                (inl (inr (go, inr (fits, inr (light, inr (room, inl (worn, refl)))))), refl),
              ))
              (λ (not_worn : WouldPass S F s (Put id bytes) → ⊥). (
                Accepted (suc (length s.commands)),
                t,
                (
                  clears Halted go (clears TooLarge fits
                      (clears IndexFull light (clears Full room (clears WornOut not_worn ends)))),
                  d,
                ),
              ))
              (worn_or_not S F s t (Put id bytes) (Accepted (suc (length s.commands))) d
              (λ r u x. put_one s id bytes (Accepted (suc (length s.commands))) r t u d x)
              (past_decided S F t young)))
              (λ (no_place : FitsBy S S.apart s.world.extents ForPut (page_counts (chunk_frames S F chunks.0)) → ⊥). (
                Refused Full,
                s,
                (
                  inl (inr (
                    go,
                    inr (
                      fits,
                      inr (
                        light,
                        inl (
                          (λ cs ls mid chunked appends.
                              no_place (appends_fit_by S shape S.apart s.world appends.0 ForPut (chunk_frames S F chunks.0) ls
                              (subst (λ (x : List (List ℕ)). AppendAllBy S S.apart s.world ForPut
                              (chunk_frames S F x) ls appends.0)
                              (payloads_one S F id (next_command s) bytes cs chunks.0 chunked chunks.1) appends.1))),
                          refl,
                        ),
                      ),
                    ),
                  )),
                  refl,
                ),
              ))
              (fits_or_full S S.apart s.world.extents ForPut (page_counts (chunk_frames S F chunks.0))))
              (heavy_or_not S F shape s id bytes))
        ])
  ]

  -- delete
  pub delete_one : (s : State) (id : ℕ) (r q : Reply) (t u : State) → Does S F s (Delete id) r t
      → Does S F s (Delete id) q u → u ≡ t
  delete_one s id (Accepted n) (Accepted m) t u a b = b.2 ∙ sym a.2
  delete_one s id (Accepted n) Absent t u a b = absurd (a.0 b.0)
  delete_one s id (Accepted n) q t u a b = absurd b
  delete_one s id Absent (Accepted m) t u a b = absurd (b.0 a.0)
  delete_one s id Absent Absent t u a b = b.1 ∙ sym a.1
  delete_one s id Absent q t u a b = absurd b
  delete_one s id r q t u a b = absurd a

  pub answers_delete : (s : State) (id : ℕ) → Sound S F s → Bounded S F s → Answers S F shape format s (Delete id)
  answers_delete s id sound b = elim (cases_Bool s.halted) [
    | inl halted ↦ (Refused Halted, s, (inl (inl (halted, refl)), refl))
    | inr runs ↦ go (not_true s.halted runs) (map_now s id) refl
  ]
    where
      go : (s.halted ≡ true → ⊥) → (o : Option Content) → map_now s id ≡ o → Answers S F shape format s (Delete id)
      go on None is = ⊎_elim
          (λ worn. (Refused WornOut, s, (inl (inr (on, inl (worn, refl))), refl)))
          (λ (not_worn : WouldPass S F s (Delete id) → ⊥).
          (Absent, s, (clears Halted on (clears WornOut not_worn ends), (is, refl))))
          (worn_or_not S F s s (Delete id) Absent (is, refl) (λ r u x. delete_one s id Absent r s u (is, refl) x)
          (inr (not_past S F s sound b)))
      go on (Some c) is =
          let t : State = record s {
            table = record { id = id; locators = [] } ∷ s.table;
            commands = (id, None) ∷ s.commands;
          } in
          let d : Does S F s (Delete id) (Accepted (suc (length s.commands))) t =
          ((λ none. let e : Some c ≡ None = sym is ∙ none in cc), refl, refl) in
          ⊎_elim
          (λ worn. (Refused WornOut, s, (inl (inr (on, inl (worn, refl))), refl)))
          (λ (not_worn : WouldPass S F s (Delete id) → ⊥).
          (Accepted (suc (length s.commands)), t, (clears Halted on (clears WornOut not_worn ends), d)))
          (worn_or_not S F s t (Delete id) (Accepted (suc (length s.commands))) d
          (λ r u x. delete_one s id (Accepted (suc (length s.commands))) r t u d x)
          (past_decided S F t (λ e. (sound.safe.extents_fit e).1)))
