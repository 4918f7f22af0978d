-- Records under keys: what a list of slots has, and what it means of a graph.
use Rattle.std.proofs.Common.{◌≡◌, ◌∙◌, ◌≢◌, ℕ, zero, suc, ◌+◌, ◌<◌, ◌≤◌, ◌⊎◌, Bool, true, false, List, [], ◌∷◌, get_or, Option, Some, None, refl, sym, ap, subst, inl, inr, ⊎_elim, arith}
use Rattle.std.specs.Prelude.{◌-◌, if◌then◌else◌, Contains}
use Rattle.cs_deps.specs.Named.{StandsFor}
use Rattle.std.proofs.lemmas.Bool.{cases_lt}
use Rattle.std.proofs.lemmas.Option.{same_Some}
use Rattle.slab.specs.Slab.{Slab, get}
use Rattle.cs_deps.specs.declared.elements.Element.{Element}
use Rattle.cs_deps.specs.declared.elements.Element.TheVariants.{Plain, Version}
use Rattle.cs_deps.specs.declared.levels.Kept.{Kept}
use Rattle.cs_deps.specs.declared.levels.Levels.{Levels}
use Rattle.cs_deps.specs.declared.records.Record.{Record}
use Rattle.cs_deps.specs.Pending.{Waits}
use Rattle.cs_deps.specs.Levels.{kept_by, level_by, IsInRow, IsQueued, IsIndexed}
use Rattle.cs_deps.specs.Records.{writes_of, AreFiled}
use Rattle.cs_deps.specs.Staging.{is_left_waiting}
use Rattle.cs_deps.specs.State.{State, Write, IsOut, IsInQueue, KeepsBytes, IsWhole, after, after_round, same_element, last_write, write_of}
use Rattle.cs_deps.specs.Entries.{IsSound}
use Rattle.cs_deps.proofs.AllHeights.{all_have_heights}
use Rattle.cs_deps.proofs.Filtered.{filter_keeps}
use Rattle.cs_deps.proofs.HeightSteps.{height_positive}
use Rattle.cs_deps.proofs.InRow.{level_in_row, row_level}
use Rattle.cs_deps.proofs.KeptIn.{kept_from}
use Rattle.cs_deps.proofs.Settled.{one_stands}
use Rattle.cs_deps.proofs.StateSteps.{same_itself, same_is, after_waits}
use Rattle.cs_deps.proofs.Tops.{kept_after}

-- SLOTS
-- a write that is kept stands in a slot
listed_or : (x : Element) (w : Write) (found : Option Write) (slots : List (Option Record)) → last_write x found (writes_of slots) ≡ Some w → (found ≡ Some w) ⊎ ((key : ℕ) × (r : Record) × (get_or slots key None ≡ Some r) × (r.element ≡ x) × (w ≡ (r.page, r.bytes)))
listed_or x w found [] h = inl h
listed_or x w found (None ∷ slots) h = ⊎_elim
    (λ (was : found ≡ Some w). inl was)
    (λ (t : (key : ℕ) × (r : Record) × (get_or slots key None ≡ Some r) × (r.element ≡ x) × (w ≡ (r.page, r.bytes))). inr (suc t.0, t.1, t.2, t.3, t.4))
    (listed_or x w found slots h)
listed_or x w found (Some r ∷ slots) h = ⊎_elim
    (λ (was : (if same_element x r.element then Some (r.page, r.bytes) else found) ≡ Some w). first (same_element x r.element) refl was)
    (λ (t : (key : ℕ) × (u : Record) × (get_or slots key None ≡ Some u) × (u.element ≡ x) × (w ≡ (u.page, u.bytes))). inr (suc t.0, t.1, t.2, t.3, t.4))
    (listed_or x w (if same_element x r.element then Some (r.page, r.bytes) else found) slots h)
  where
    first : (b : Bool) → same_element x r.element ≡ b → (if b then Some (r.page, r.bytes) else found) ≡ Some w → (found ≡ Some w) ⊎ ((key : ℕ) × (u : Record) × (get_or (Some r ∷ slots) key None ≡ Some u) × (u.element ≡ x) × (w ≡ (u.page, u.bytes)))
    first true is was = inr (0, r, refl, sym (same_is x r.element is), sym (same_Some (r.page, r.bytes) w was))
    first false is was = inl was

pub listed : (x : Element) (w : Write) (slots : List (Option Record)) → last_write x None (writes_of slots) ≡ Some w → (key : ℕ) × (r : Record) × (get_or slots key None ≡ Some r) × (r.element ≡ x) × (w ≡ (r.page, r.bytes))
listed x w slots h = ⊎_elim
    (λ (none : None ≡ Some w). absurd (cc none))
    (λ (t : (key : ℕ) × (r : Record) × (get_or slots key None ≡ Some r) × (r.element ≡ x) × (w ≡ (r.page, r.bytes))). t)
    (listed_or x w None slots h)

-- no slot is this element's
unlisted : (x : Element) (found : Option Write) (slots : List (Option Record)) → ((key : ℕ) (r : Record) → get_or slots key None ≡ Some r → r.element ≢ x) → last_write x found (writes_of slots) ≡ found
unlisted x found [] none = refl
unlisted x found (None ∷ slots) none = unlisted x found slots (λ key r at. none (suc key) r at)
unlisted x found (Some r ∷ slots) none = other (same_element x r.element) refl (unlisted x found slots (λ key u at. none (suc key) u at))
  where
    other : (b : Bool) → same_element x r.element ≡ b → last_write x found (writes_of slots) ≡ found → last_write x (if b then Some (r.page, r.bytes) else found) (writes_of slots) ≡ found
    other true is rest = absurd (none 0 r refl (sym (same_is x r.element is)))
    other false is rest = rest

-- a slot's write is that of its element, which has no other
pub slot_write : (found : Option Write) (slots : List (Option Record)) (key : ℕ) (r : Record) → get_or slots key None ≡ Some r → ((other : ℕ) (u : Record) → get_or slots other None ≡ Some u → u.element ≡ r.element → other ≡ key) → last_write r.element found (writes_of slots) ≡ Some (r.page, r.bytes)
slot_write found [] key r at once = absurd (cc at)
slot_write found (None ∷ slots) zero r at once = absurd (cc at)
slot_write found (None ∷ slots) (suc key) r at once = slot_write found slots key r at (λ other u there same. let e : suc other ≡ suc key = once (suc other) u there same in omega (arith, e))
slot_write found (Some t ∷ slots) zero r at once =
    let e : t ≡ r = same_Some t r at in
    let b : same_element r.element t.element ≡ true = ap (λ (u : Record). same_element r.element u.element) e ∙ same_itself r.element in
    ap (λ c. last_write r.element (if c then Some (t.page, t.bytes) else found) (writes_of slots)) b
    ∙ unlisted r.element (Some (t.page, t.bytes)) slots (λ key u there same. absurd (omega (arith, once (suc key) u there same)))
    ∙ ap (λ (u : Record). Some (u.page, u.bytes)) e
slot_write found (Some t ∷ slots) (suc key) r at once = slot_write (if same_element r.element t.element then Some (t.page, t.bytes) else found) slots key r at (λ other u there same. let e : suc other ≡ suc key = once (suc other) u there same in omega (arith, e))

-- RECORDS OF A GRAPH
module _ (l : Levels) (records : Slab Record) (filed : AreFiled l records) where
  -- one element has one record
  pub one_key : (key other : ℕ) (r u : Record) → get records key ≡ Some r → get records other ≡ Some u → u.element ≡ r.element → other ≡ key
  one_key key other r u at there same =
      let a = filed.there key r at in
      let b = filed.there other u there in
      let e : b.0 ≡ a.0 = same_Some b.0 a.0 (sym b.1 ∙ ap (kept_by l) same ∙ a.1) in
      sym b.2 ∙ ap (λ (k : Kept). k.key) e ∙ a.2

  pub record_write : (key : ℕ) (r : Record) → get records key ≡ Some r → last_write r.element None (writes_of records.slots) ≡ Some (r.page, r.bytes)
  record_write key r at = slot_write None records.slots key r at (λ other u there same. one_key key other r u at there same)

  -- a write that is kept is that of a record under the element's key
  pub write_record : (x : Element) (w : Write) → last_write x None (writes_of records.slots) ≡ Some w → (k : Kept) × (r : Record) × (kept_by l x ≡ Some k) × (get records k.key ≡ Some r) × (r.element ≡ x) × (w ≡ (r.page, r.bytes)) × IsQueued l x
  write_record x w h =
      let t = listed x w records.slots h in
      let a = filed.there t.0 t.1 t.2 in
      (a.0, t.1, ap (kept_by l) (sym t.3) ∙ a.1, ap (get records) a.2 ∙ t.2, t.3, t.4, subst (IsQueued l) t.3 a.3)

-- No write is kept anew but that of x, where no record is new but that of x.
pub others_kept : (l m : Levels) (old now : Slab Record) → AreFiled l old → AreFiled m now → (x : Element) → ((key : ℕ) (r : Record) → get now key ≡ Some r → (get old key ≡ Some r) ⊎ (r.element ≡ x)) → (y : Element) (w : Write) → last_write y None (writes_of now.slots) ≡ Some w → (last_write y None (writes_of old.slots) ≡ Some w) ⊎ (y ≡ x)
others_kept l m old now was filed x from y w h =
    let t = write_record m now filed y w h in
    ⊎_elim
    (λ (o : get old t.0.key ≡ Some t.1). inl (ap (λ u. last_write u None (writes_of old.slots)) (sym t.4) ∙ record_write l old was t.0.key t.1 o ∙ ap (λ (v : Write). Some v) (sym t.5)))
    (λ (e : t.1.element ≡ x). inr (sym t.4 ∙ e))
    (from t.0.key t.1 t.3)

pub less_kept : (l m : Levels) (old now : Slab Record) → AreFiled l old → AreFiled m now → ((key : ℕ) (r : Record) → get now key ≡ Some r → get old key ≡ Some r) → (y : Element) (w : Write) → last_write y None (writes_of now.slots) ≡ Some w → last_write y None (writes_of old.slots) ≡ Some w
less_kept l m old now was filed less y w h =
    let t = write_record m now filed y w h in
    ap (λ u. last_write u None (writes_of old.slots)) (sym t.4) ∙ record_write l old was t.0.key t.1 (less t.0.key t.1 t.3) ∙ ap (λ (v : Write). Some v) (sym t.5)

-- WHAT STANDS IN A QUEUE
module _ (s : State) (whole : IsSound s) (l : Levels) (ix : IsIndexed s l) where
  -- what stands in a queue has its level kept
  pub queued_kept : (x : Element) → IsQueued l x → (k : Kept) × (kept_by l x ≡ Some k)
  queued_kept x q = kept_from (kept_by l x) (omega (arith, row_level l l.ended l.rows.items ix.rows q.0 x q.1))

  -- what stands in a queue waits
  pub queued_waits : (x : Element) → IsQueued l x → Waits s.staging.pending x
  queued_waits x q =
      let lv = row_level l l.ended l.rows.items ix.rows q.0 x q.1 in
      ⊎_elim
      (λ (hi : l.base < level_by l x). after_waits s.staging.pending whole.kept.staged s.round x (ix.levels.gone x hi))
      (λ (lo : level_by l x ≤ l.base).
      let first : q.0 ≡ 0 = omega (arith, lv, lo, ix.near) in
      whole.out x (ix.first (omega (arith, lv, lo)) x (subst (λ i. IsInRow (kept_by l) l.ended l.rows.items i x) first q.1)))
      (cases_lt l.base (level_by l x))

  -- what waits once the round has joined, of a height and of its family the greatest
  level_queued : (n : ℕ) (x : Element) → 1 ≤ n → IsInQueue (after s) n x → IsQueued l x
  level_queued n x one h =
      let place : l.ended + (l.base + n - l.ended - 1) + 1 ≡ l.base + n = omega (arith, ix.low, one) in
      (l.base + n - l.ended - 1, level_in_row (after s) (kept_after s whole).staged l l.base ix.levels l.ended l.rows.items ix.rows n (l.base + n - l.ended - 1) place one x h)

  out_queued : (x : Element) → IsOut s x → IsQueued l x
  out_queued x o = (0, (ix.out x o).1)

  pub plain_queued : (n : ℕ) → Waits s.staging.pending (Plain n) → IsQueued l (Plain n)
  plain_queued n w = from s.round refl
    where
      left : Waits (after s) (Plain n) → IsQueued l (Plain n)
      left v = let h = all_have_heights (after s) (kept_after s whole).staged (Plain n) v in level_queued h.0 (Plain n) (height_positive (after s) (Plain n) h.0 h.1) h.1

      from : (o : Option (List Element)) → s.round ≡ o → IsQueued l (Plain n)
      from None is = left (subst (λ o. Waits (after_round s.staging.pending o) (Plain n)) (sym is) w)
      from (Some round) is = choose (is_left_waiting round (Plain n, w.1)) refl
        where
          choose : (b : Bool) → is_left_waiting round (Plain n, w.1) ≡ b → IsQueued l (Plain n)
          choose true q = let r = filter_keeps (is_left_waiting round) s.staging.pending.waiting w.0 (Plain n, w.1) w.2 q in left (subst (λ o. Waits (after_round s.staging.pending o) (Plain n)) (sym is) (r.0, w.1, r.1))
          choose false q = let t = one_stands round (Plain n, w.1) q in member t.0 t.1 t.2
            where
              member : (y : Element) → Contains round y → StandsFor y (Plain n) → IsQueued l (Plain n)
              member (Plain m) c same = out_queued (Plain n) (round, is, subst (λ k. Contains round (Plain k)) same c)
              member (Version f v) c same = absurd same

  pub keeps_queued : (x : Element) → KeepsBytes s x → IsQueued l x
  keeps_queued (Plain n) w = plain_queued n w
  keeps_queued (Version f v) h = ⊎_elim
      (λ (o : IsOut s (Version f v)). out_queued (Version f v) o)
      (λ (t : (n : ℕ) × IsInQueue (after s) n (Version f v)). level_queued t.0 (Version f v) (height_positive (after s) (Version f v) t.0 t.1.0) t.1)
      h

  -- what stands in a queue has its write
  module _ (records : Slab Record) (filed : AreFiled l records) where
    pub queued_write : (x : Element) → IsQueued l x → (w : Write) × (last_write x None (writes_of records.slots) ≡ Some w)
    queued_write x q =
        let k = queued_kept x q in
        let r = filed.here x k.0 q k.1 in
        ((r.0.page, r.0.bytes), ap (λ y. last_write y None (writes_of records.slots)) (sym r.2) ∙ record_write l records filed k.0.key r.0 r.1)

-- every graph is whole
pub is_whole : (s : State) → IsSound s → (l : Levels) → IsIndexed s l → (records : Slab Record) → AreFiled l records → s.pages ≡ writes_of records.slots → IsWhole s
is_whole s whole l ix records filed same = record {
  kept = whole.kept;
  out = whole.out;
  writes = λ x h. (let w = queued_write s whole l ix records filed x (keeps_queued s whole l ix x h) in (w.0, ap (λ ws. last_write x None ws) same ∙ w.1));
}

-- the record that was found for an element has its write, and where none was found there is none
-- what has no write keeps no bytes
pub not_kept : (s : State) → IsSound s → (l : Levels) → IsIndexed s l → (records : Slab Record) → AreFiled l records → s.pages ≡ writes_of records.slots → (x : Element) → write_of s x ≡ None → KeepsBytes s x → ⊥
not_kept s whole l ix records filed same x none h = let w = (is_whole s whole l ix records filed same).writes x h in absurd (cc (w.1, none))

pub found_write : (l : Levels) (records : Slab Record) → AreFiled l records → (x : Element) (k : Kept) (r : Record) → get records k.key ≡ Some r → r.element ≡ x → last_write x None (writes_of records.slots) ≡ Some (r.page, r.bytes)
found_write l records filed x k r at is = ap (λ y. last_write y None (writes_of records.slots)) (sym is) ∙ record_write l records filed k.key r at

pub no_write : (l : Levels) (records : Slab Record) → AreFiled l records → (x : Element) → ((k : Kept) (r : Record) → kept_by l x ≡ Some k → get records k.key ≡ Some r → r.element ≢ x) → last_write x None (writes_of records.slots) ≡ None
no_write l records filed x none = from (last_write x None (writes_of records.slots)) refl
  where
    from : (o : Option Write) → last_write x None (writes_of records.slots) ≡ o → o ≡ None
    from None is = refl
    from (Some w) is = let t = write_record l records filed x w is in absurd (none t.0 t.1 t.2 t.3 t.4)
