-- Put and Delete keep a state sound.
use Rattle.std.proofs.Common.{◌+◌, ◌≡◌, ◌≢◌, inl, inr, ⊎_elim, ℕ, suc, ◌<◌, ◌≤◌, true, List, [], ◌∷◌, ◌++◌, length, Option, Some, None, le_of_eq, le_trans, refl, sym, ap, ap₂, ◌∙◌, subst, arith}
use Rattle.std.proofs.lemmas.Bool.{cases_lt}
use Rattle.law_machine.specs.Device.{IsShape, Page, Shape}
use Rattle.law_machine.specs.Element.{Bytes, Content, Entry, Locator, Opening, Run}
use Rattle.law_machine.specs.Events.{Does}
use Rattle.law_machine.specs.Formats.{Formats}
use Rattle.law_machine.specs.Frames.{IsFormat}
use Rattle.law_machine.specs.Grounds.{Refuses, WouldPass}
use Rattle.law_machine.specs.Index.{Chunks, ReadsAs, Value, entries_of, joined_bodies, lookup, named_weight, weight_with}
use Rattle.law_machine.specs.Machine.{World}
use Rattle.law_machine.specs.Refusal.{Full, Halted, IndexFull, Refusal, TooLarge, WornOut}
use Rattle.law_machine.specs.Sound.{Bounded, Sound}
use Rattle.law_machine.specs.State.{Accepted, Delete, Event, Put, Reply, State, index_now, map_now, next_command}
use Rattle.std.specs.Prelude.{is_some}
use Rattle.law_machine.proofs.Payloads.{payloads_bytes, payloads_few, payloads_length, payloads_long, payloads_some}
use Rattle.law_machine.proofs.Bounds.{not_first, bounded_same, bounded_entry}
use Rattle.law_machine.proofs.Gives.{chunks_pass, chunks_hold}
use Rattle.law_machine.proofs.Frames.{put_in}
use Rattle.law_machine.proofs.Roots.{with_entry}
use Rattle.law_machine.proofs.Weights.{weight_deletion}

module _ (S : Shape) (F : Formats) (shape : IsShape S) (format : IsFormat S F) where
  put_reading : (opening : Opening) → (img : ℕ → Page) (p g : ℕ → ℕ) (ls : List Locator) (cs : List (List ℕ))
      → Chunks S F opening img p g ls cs → ReadsAs S F opening img p g ls (Bytes (joined_bodies F cs))
  put_reading opening img p g [] [] all = refl
  put_reading opening img p g [] (c ∷ cs) all = absurd all
  put_reading opening img p g (l ∷ ls) [] all = absurd all
  put_reading opening img p g (l ∷ ls) (c ∷ cs) all = inl
      (c, Bytes (joined_bodies F cs), all.0, put_reading opening img p g ls cs all.1, refl)

  put_value : (opening : Opening)
      → (img : ℕ → Page) (p g : ℕ → ℕ) (ls : List Locator) (cs : List (List ℕ)) (bytes : List ℕ)
      → Chunks S F opening img p g ls cs → joined_bodies F cs ≡ bytes → 0 < length cs
      → Value S F opening img p g (Some ls) (Some (Bytes bytes))
  put_value opening img p g [] [] bytes all is some = absurd (omega arith)
  put_value opening img p g [] (c ∷ cs) bytes all is some = absurd all
  put_value opening img p g (l ∷ ls) cs bytes all is some =
      (Bytes (joined_bodies F cs), put_reading opening img p g (l ∷ ls) cs all, ap (λ (b : List ℕ). Some (Bytes b)) (sym is))

  pub same_index : (s t : State) → t.table ≡ s.table → t.runs ≡ s.runs → index_now t ≡ index_now s
  same_index s t a b = ap₂ (λ (x : List Entry) (y : List Run). x ++ entries_of y) a b

  pub both : (s t : State) → t ≡ s → Sound S F s → Bounded S F s → Sound S F t × Bounded S F t
  both s t is sound b = (
    subst (λ (x : State). Sound S F x) (sym is) sound,
    subst (λ (x : State). Bounded S F x) (sym is) b,
  )

  pub not_below : (a b : ℕ) → (a < b → ⊥) → b ≤ a
  not_below a b not = ⊎_elim (λ (lt : a < b). absurd (not lt)) (λ (le : b ≤ a). le) (cases_lt a b)

  chunk_count : (opening : Opening) (img : ℕ → Page) (p g : ℕ → ℕ) (ls : List Locator) (cs : List (List ℕ))
      → Chunks S F opening img p g ls cs → length ls ≡ length cs
  chunk_count opening img p g [] [] all = refl
  chunk_count opening img p g [] (c ∷ cs) all = absurd all
  chunk_count opening img p g (l ∷ ls) [] all = absurd all
  chunk_count opening img p g (l ∷ ls) (c ∷ cs) all = ap suc (chunk_count opening img p g ls cs all.1)

  -- where no number would pass its greatest, no section's version does
  pub in_room : (s t : State) (v : World) (event : Event) (reply : Reply) → (WouldPass S F s event → ⊥)
      → Does S F s event reply t → v.superblocks ≡ t.world.superblocks
      → (j : ℕ) → j < S.sections → v.superblocks j ≤ S.greatest_number
  in_room s t v event reply worn d same j lt = not_below _ _
      (λ past. worn (reply, t, d, inl (inr (inl (j, lt, subst (λ (f : ℕ → ℕ). S.greatest_number < f j) same past)))))

  pub in_number : (s t : State) (v : World) (event : Event) (reply : Reply) → (WouldPass S F s event → ⊥)
      → Does S F s event reply t → v.written ≡ t.world.written → v.written ≤ S.greatest_number
  in_number s t v event reply worn d same = not_below _ _
      (λ past. worn (reply, t, d, inl (inl (subst (λ (n : ℕ). S.greatest_number < n) same past))))

  pub keeps_put : (s t : State) (id n : ℕ) (bytes : List ℕ) → Sound S F s → Bounded S F s
      → ((f : Refusal) → Refuses S F s (Put id bytes) f → ⊥) → Does S F s (Put id bytes) (Accepted n) t
      → Sound S F t × Bounded S F t
  keeps_put s t id n bytes sound b none d =
      let a = not_first Halted none in
      let large = not_first TooLarge a.1 in
      let full = not_first IndexFull large.1 in
      let worn = not_first WornOut (not_first Full full.1).1 in
      let p = put_in S F shape format S.apart (λ on. on) s d.2 d.0 d.1 sound d.4
      (in_room s t d.2.world (Put id bytes) (Accepted n) worn.0 d
      (ap (λ (x : State). x.world.superblocks) (sym d.6))) in
      let chunks = p.chunks (payloads_long S F format id (next_command s) bytes d.0 d.3) in
      let mid : Bounded S F d.2 = bounded_same S F shape format s d.2
      (in_number s t d.2.world (Put id bytes) (Accepted n) worn.0 d
      (ap (λ (x : State). x.world.written) (sym d.6))) p.root p.count p.commands p.runs p.table b in
      let index = same_index s d.2 p.table p.runs in
      let small : length d.1 ≤ S.most_chunks = le_trans (le_of_eq (chunk_count _ _ _ _ d.1 d.0 chunks))
      (payloads_few S F shape id (next_command s) bytes d.0 d.3 (not_below _ _ large.0)) in
      let total : t.count + length t.commands ≡ d.2.count + length ((id, Some bytes) ∷ d.2.commands) = ap
      (λ (x : State). x.count + length x.commands) d.6 in
      let fit_mid : d.2.count + length ((id, Some bytes) ∷ d.2.commands) ≤ S.greatest_number = le_trans
      (le_of_eq (sym total)) (not_below _ _ (λ lt. worn.0 (Accepted n, t, d, inr lt))) in
      let room : named_weight S.weigh (record { id = id; locators = d.1 } ∷ index_now d.2) ≤ S.most_weight =
      le_trans (le_of_eq (ap₂ (λ (es : List Entry) (c : ℕ). weight_with S.weigh es id c) index
      (chunk_count _ _ _ _ d.1 d.0 chunks ∙ payloads_length S F id (next_command s) bytes d.0 d.3)))
      (not_below _ _ (λ lt. full.0 (d.3.0, d.3.1, lt))) in
      both _ t d.6
      (with_entry S F shape format d.2 id d.1 p.sound
      (chunks_pass S F shape format _ _ _ _ d.1 d.0 chunks)
      (chunks_hold S F shape format d.2.opening _ _ _ d.1 d.0 chunks) (id, Some bytes)
      (put_value d.2.opening _ _ _ d.1 d.0 bytes chunks (payloads_bytes S F format id (next_command s) bytes d.0 d.3)
      (payloads_some S F id (next_command s) bytes d.0 d.3)) refl)
      (bounded_entry S F shape format d.2 id d.1 ((id, Some bytes) ∷ d.2.commands) mid room small fit_mid)

  named_there : (opening : Opening) (img : ℕ → Page) (p g : ℕ → ℕ) (o : Option (List Locator)) (v : Option Content)
      → v ≢ None → Value S F opening img p g o v → is_some o ≡ true
  named_there opening img p g None v not value = absurd (not value)
  named_there opening img p g (Some ls) v not value = refl

  pub keeps_delete : (s t : State) (id n : ℕ) → Sound S F s → Bounded S F s
      → ((f : Refusal) → Refuses S F s (Delete id) f → ⊥) → Does S F s (Delete id) (Accepted n) t → Sound S F t
      × Bounded S F t
  keeps_delete s t id n sound b none d =
      let worn = not_first WornOut (not_first Halted none).1 in
      let total : t.count + length t.commands ≡ s.count + suc (length s.commands) = ap
      (λ (x : State). x.count + length x.commands) d.2 in
      let fit : s.count + suc (length s.commands) ≤ S.greatest_number = le_trans (le_of_eq (sym total))
      (not_below _ _ (λ lt. worn.0 (Accepted n, t, d, inr lt))) in
      both _ t d.2 (with_entry S F shape format s id [] sound (λ l has. absurd has)
      (λ l has. absurd has) (id, None) refl refl)
      (bounded_entry S F shape format s id [] ((id, None) ∷ s.commands) b
      (le_trans (weight_deletion S.weigh shape.weighs id (index_now s)
      (named_there s.opening _ _ _ (lookup id (index_now s)) (map_now s id) d.0 (sound.gives.values id))) b.bounds.weight_fits)
      (omega arith) fit)
