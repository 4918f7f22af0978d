-- Every event leaves what the newest root names, and resets nothing else that it names.
use Rattle.std.proofs.Common.{◌≡◌, ◌≢◌, ◌⊎◌, inl, inr, ⊎_elim, ℕ, suc, ◌≤◌, ◌==◌, Bool, true, false, not, ◌||◌, List, [], ◌∷◌, map, take, Option, Some, None, le_refl, refl, sym, ap, ap₂, ◌∙◌, subst}
use Rattle.std.specs.Prelude.{is_some}
use Rattle.std.proofs.lemmas.Bool.{and_parts, cases_Bool, eq-eqb, not-true, or_parts, true≢false}
use Rattle.law_machine.specs.Device.{Shape}
use Rattle.law_room.specs.Events.{Abandon, BeginSweep, Delete, Does, End, Event, GoesForCopy, MoveOne, Open, Put, Retire, Stage, abandoned, any_copied, dropped, forget, opened, place_of, settle, settled, with_copy}
use Rattle.law_room.specs.Example.{new_room}
use Rattle.law_room.specs.Invariant.{Grows, IsReset, Keeps, KeepsNewest}
use Rattle.law_room.specs.Rooms.{Chunk, Empty, OfChunks, Room, Root, Sweep, any_on, fresh_of, has, is_at, is_named}
use Rattle.law_room.proofs.Chunks.{forget_on}
use Rattle.law_room.proofs.Gaining.{begun}
use Rattle.law_room.proofs.Moving.{IsCopied, any_before, fresh_fits, fresh_from}
use Rattle.law_room.proofs.Opening.{found_empty}
use Rattle.law_room.proofs.Resets.{at_some, kept_holds, kept_pointer, reset_holds}
use Rattle.law_room.proofs.Retiring.{retire_keeps, stage_keeps}
use Rattle.law_room.proofs.Standing.{IsWriting, given_grows, newest_grows, not_empty, stage_newest, stage_resets, writing}

uncopied : (o : Option ℕ) → is_some o ≡ false → o ≡ None
uncopied None off = refl
uncopied (Some e) off = absurd (true≢false off)

settle_same : (cs : List Chunk) (e : ℕ) → any_copied cs ≡ false → any_on (map settle cs) e ≡ any_on cs e
settle_same [] e off = refl
settle_same (c ∷ cs) e off =
    let parts = or_parts (is_some c.copy) (any_copied cs) off in
    let place : place_of c.copy c.extent ≡ c.extent = ap (λ (o : Option ℕ). place_of o c.extent)
    (uncopied c.copy parts.0) in
    ap₂ (λ (x : ℕ) (b : Bool). (x == e) || b) place (settle_same cs e parts.1)

one_root : (r x : Root) (rs older : List Root) → r ∷ rs ≡ x ∷ older → r ≡ x
one_root r x rs older is = cc

module _ (S : Shape) (J : ℕ) where
  pub new_newest : KeepsNewest S J new_room
  new_newest = record {
    newest = record { chunks = []; runs = []; pointers = λ e. 0 };
    older = [];
    first = refl;
    stands = λ e on. absurd (true≢false (sym on));
    lives = λ rooted e on. on;
  }

  settled_newest : (s : Room) → KeepsNewest S J s → KeepsNewest S J (settled s)
  settled_newest s keeps = record {
    newest = keeps.newest;
    older = keeps.older;
    first = keeps.first;
    stands = λ e on. ((keeps.stands e on).0, refl);
    lives = λ rooted e on. let parts = and_parts s.rooted (not (any_copied s.chunks)) rooted in
        ap (λ (b : Bool). b || has s.runs e) (settle_same s.chunks e (not-true (any_copied s.chunks) parts.1))
        ∙ keeps.lives parts.0 e on;
  }

  begin_newest : (s : Room) (e : ℕ) → KeepsNewest S J s → KeepsNewest S J (begun s e)
  begin_newest s e keeps = record {
    newest = keeps.newest;
    older = keeps.older;
    first = keeps.first;
    stands = λ d on. ((keeps.stands d on).0, refl);
    lives = keeps.lives;
  }

  end_newest : (s : Room) (waiting : ℕ) → KeepsNewest S J s
      → KeepsNewest S J (record s { roots = take (suc waiting) s.roots })
  end_newest s waiting keeps = record {
    newest = keeps.newest;
    older = take waiting keeps.older;
    first = ap (take (suc waiting)) keeps.first;
    stands = keeps.stands;
    lives = keeps.lives;
  }

  open_newest : (r : Root) (found : ℕ → ℕ) → KeepsNewest S J (opened r found)
  open_newest r found = record {
    newest = r;
    older = [];
    first = refl;
    stands = λ e on. ((λ empty. true≢false (sym on ∙ found_empty S J (any_on r.chunks e) (has r.runs e) empty)), refl);
    lives = λ rooted e on. ap (λ (b : Bool). b || has r.runs e) (forget_on r.chunks e) ∙ on;
  }

  copy_was : (s : Room) (w : Sweep) (k e : ℕ) (fresh : Option ℕ) → GoesForCopy S s w k e fresh
      → (s.holds e ≡ OfChunks) ⊎ (s.holds e ≡ Empty)
  copy_was s w k e fresh (inl last) = inl last.1.0.1
  copy_was s w k e fresh (inr (inl other)) = inl other.1.0.1
  copy_was s w k e fresh (inr (inr empty)) = inr empty.1.1

  move_newest : (s : Room) (w : Sweep) (before : List Chunk) (c : Chunk) (behind : List Chunk) (e : ℕ)
      (fresh : Option ℕ) → Keeps S J s → s.sweep ≡ Some w → IsCopied S s w before c behind e fresh → KeepsNewest S J s
      → KeepsNewest S J (with_copy S s w before c behind e fresh)
  move_newest s w before c behind e fresh keeps is copied old = record {
    newest = old.newest;
    older = old.older;
    first = old.first;
    stands = λ d on. (
      not_empty s (with_copy S s w before c behind e fresh) d
          (given_grows s e c.pages OfChunks (copy_was s w c.pages e fresh copied.goes) d) (old.stands d on).0,
      (elim (cases_Bool (is_at fresh d)) [
        | inr off ↦ off
        | inl there ↦ absurd (opened_there d on (at_some fresh d there))
      ]),
    );
    lives = λ rooted d on. ap (λ (b : Bool). b || has s.runs d)
        (any_before S J s w before c behind e fresh keeps is copied d) ∙ old.lives rooted d on;
  }
    where
      opened_there : (d : ℕ) → is_named old.newest d ≡ true → fresh ≡ Some d → ⊥
      opened_there d on at = ⊎_elim
          (λ before_too. true≢false (sym (ap (λ (o : Option Sweep). is_at (fresh_of o) d) is
          ∙ ap (λ (o : Option ℕ). is_at o d) before_too ∙ eq-eqb d d refl) ∙ (old.stands d on).1))
          (λ empty. (old.stands d on).0
          (ap s.holds (fresh_fits S J s w before c behind e fresh keeps is copied d at).0 ∙ empty))
          (fresh_from S J s w before c behind e fresh keeps is copied d at)

  -- the state in which copies are forgotten
  abbrev forgotten : Room → Room
  forgotten s = record s { chunks = map forget s.chunks; sweep = None }

  -- what is named isn't the extent that the sweep opened
  not_fresh : (s : Room) (w : Sweep) → s.sweep ≡ Some w → (old : KeepsNewest S J s) → (e : ℕ)
      → is_named old.newest e ≡ true → is_at w.fresh e ≡ false
  not_fresh s w is old e on = sym (ap (λ (o : Option Sweep). is_at (fresh_of o) e) is) ∙ (old.stands e on).1

  abandon_newest : (s : Room) (w : Sweep) → s.sweep ≡ Some w → KeepsNewest S J s → KeepsNewest S J (abandoned s w.fresh)
  abandon_newest s w is old = record {
    newest = old.newest;
    older = old.older;
    first = old.first;
    stands = λ e on. (
      (λ empty. (old.stands e on).0 (sym (kept_holds (forgotten s) (is_at w.fresh) e (not_fresh s w is old e on))
          ∙ empty)),
      refl,
    );
    lives = λ rooted e on. ap (λ (b : Bool). b || has s.runs e) (forget_on s.chunks e) ∙ old.lives rooted e on;
  }

  abandon_resets : (s : Room) (w : Sweep) → s.sweep ≡ Some w → KeepsNewest S J s → (e : ℕ)
      → Grows s (abandoned s w.fresh) e ⊎ IsReset (abandoned s w.fresh) e
  abandon_resets s w is old e = elim (cases_Bool (is_at w.fresh e)) [
    | inl on ↦ inr (
      reset_holds (forgotten s) (is_at w.fresh) e on,
      (λ r older first.
          elim (cases_Bool (is_named r e)) [
            | inr off ↦ off
            | inl named ↦ absurd (true≢false (sym on ∙ not_fresh s w is old e
                (subst (λ (x : Root). is_named x e ≡ true) (one_root r old.newest older old.older
                (sym first ∙ old.first)) named)))
          ]),
    )
    | inr off ↦ inl (
      rw (kept_pointer (forgotten s) (is_at w.fresh) e off) (le_refl _),
      inr (kept_holds (forgotten s) (is_at w.fresh) e off),
    )
  ]

  pub event_newest : (s t : Room) (event : Event) → 1 ≤ J → Keeps S J s → KeepsNewest S J s → Does S J s event t
      → KeepsNewest S J t
  event_newest s t (Put id sizes) some keeps old does =
      let writes : IsWriting S J (dropped s id) t = writing S J sizes (dropped s id) id t does.0 in
      newest_grows S J s t old writes.roots writes.sweep writes.rooted writes.grows
  event_newest s t (Delete id) some keeps old is = rw is (newest_grows S J s (dropped s id) old refl refl refl
      (λ e. (le_refl _, inr refl)))
  event_newest s t (Stage newest pages all) some keeps old does = stage_newest S J s t newest pages all
      (stage_keeps S J s t newest pages all some keeps does) old does
  event_newest s t (Retire newest pages all) some keeps old does = stage_newest S J (settled s) t newest pages all
      (retire_keeps S J s t does.0 newest pages all some keeps does.1 does.2 does.3) (settled_newest s old) does.3
  event_newest s t (BeginSweep e) some keeps old does = rw does.3 (begin_newest s e old)
  event_newest s t MoveOne some keeps old does = rw does.10 (move_newest s does.0 does.1 does.2 does.3 does.4 does.5
      keeps does.6 (record { chunks = does.7; left = does.8; goes = does.9 }) old)
  event_newest s t Abandon some keeps old does = rw does.2 (abandon_newest s does.0 does.1 old)
  event_newest s t (End waiting) some keeps old is = rw is (end_newest s waiting old)
  event_newest s t (Open r found) some keeps old does = rw does.3 (open_newest r found)

  pub event_resets : (s t : Room) (event : Event) → 1 ≤ J → Keeps S J s → KeepsNewest S J s → Does S J s event t
      → ((r : Root) (found : ℕ → ℕ) → event ≢ Open r found) → (e : ℕ) → Grows s t e ⊎ IsReset t e
  event_resets s t (Put id sizes) some keeps old does other e =
      let writes : IsWriting S J (dropped s id) t = writing S J sizes (dropped s id) id t does.0 in inl (writes.grows e)
  event_resets s t (Delete id) some keeps old is other e = rw is (inl (le_refl _, inr refl))
  event_resets s t (Stage newest pages all) some keeps old does other e = stage_resets S J s t newest pages all old does e
  event_resets s t (Retire newest pages all) some keeps old does other e = stage_resets S J (settled s) t newest pages all
      (settled_newest s old) does.3 e
  event_resets s t (BeginSweep d) some keeps old does other e = rw does.3 (inl (le_refl _, inr refl))
  event_resets s t MoveOne some keeps old does other e = rw does.10 (inl (given_grows s does.4 does.2.pages OfChunks
      (copy_was s does.0 does.2.pages does.4 does.5 does.9) e))
  event_resets s t Abandon some keeps old does other e = rw does.2 (abandon_resets s does.0 does.1 old e)
  event_resets s t (End waiting) some keeps old is other e = rw is (inl (le_refl _, inr refl))
  event_resets s t (Open r found) some keeps old does other e = absurd (other r found refl)
