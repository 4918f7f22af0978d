-- Histories of a core, put together and taken apart.
use Rattle.std.proofs.Common.{◌≡◌, ◌∙◌, ◌+◌, ◌-◌, ◌≤◌, List, [], ◌∷◌, ◌++◌, length, le_refl, le_trans, sym, ap, subst, refl, inl, inr, arith, length-append, length-drop}
use Rattle.std.specs.Prelude.{◌↔◌}
use Rattle.cs_refusal.specs.declared.refusals.Refusal.{Refusal}
use Rattle.cs_refusal.specs.declared.refusals.Refusal.TheVariants.{HistoryFull}
use Rattle.cs_disk.specs.declared.disk.PageDisk.{Ghosts as PageDisk}
use Rattle.cs_core.specs.declared.events.Event.{Event}
use Rattle.cs_core.specs.declared.events.Reply.{Reply}
use Rattle.cs_core.specs.declared.events.Reply.TheVariants.{Refused}
use Rattle.cs_core.specs.Replies.{MayAnswer}
use Rattle.cs_core.specs.Views.{Applies, View, kept}
use Rattle.cs_core.specs.Writebacks.{WritesBack}
use Rattle.cs_writeback.specs.Histories.{Goes, IsNoRefusal, IsStopped, IsUnrecorded, Stays, Went}

same_refusal : (r s : Refusal) → Refused r ≡ Refused s → r ≡ s
same_refusal r s e = cc

module _ {D : Type 0} (disks : PageDisk D) where
  pub stays_same : (v : View D) → Stays disks v v
  stays_same v = (
    record { opened = refl; found = refl; store = refl; history = refl; base = refl; limit = refl; disk = λ h. refl; later = le_refl (disks.failure_count v.disk) },
    (λ h. h, λ h. h),
  )

  pub stays_then : (a b c : View D) → Stays disks a b → Stays disks b c → Stays disks a c
  stays_then a b c p q = (
    record {
      opened = q.0.opened ∙ p.0.opened;
      found = q.0.found ∙ p.0.found;
      store = q.0.store ∙ p.0.store;
      history = q.0.history ∙ p.0.history;
      base = q.0.base ∙ p.0.base;
      limit = q.0.limit ∙ p.0.limit;
      disk = λ h. q.0.disk (p.1.0 h) ∙ p.0.disk h;
      later = le_trans p.0.later q.0.later;
    },
    (λ h. q.1.0 (p.1.0 h), λ h. p.1.1 (q.1.1 h)),
  )

  pub went_later : (xs : List (Event × Reply)) (a b c : View D) → Stays disks a b → Went disks b xs c → Went disks a xs c
  went_later [] a b c p q = stays_then a b c p q
  went_later (x ∷ xs) a b c p (before, after, s, g, w) = (before, after, stays_then a b before p s, g, w)

  pub went_then : (xs ys : List (Event × Reply)) (a b c : View D) → Went disks a xs b → Went disks b ys c → Went disks a (xs ++ ys) c
  went_then [] ys a b c p q = went_later ys a b c p q
  went_then (x ∷ xs) ys a b c (before, after, s, g, w) q = (before, after, s, g, went_then xs ys after b c w q)

  pub went_one : (a b : View D) (event : Event) (reply : Reply) → Goes disks a event reply b → Went disks a ((event, reply) ∷ []) b
  went_one a b event reply g = (a, b, stays_same a, g, stays_same b)

  -- what was there between the first events and the others
  pub went_parts : (xs ys : List (Event × Reply)) (a c : View D) → Went disks a (xs ++ ys) c → (b : View D) × Went disks a xs b × Went disks b ys c
  went_parts [] ys a c w = (a, stays_same a, w)
  went_parts (x ∷ xs) ys a c (before, after, s, g, w) = let r = went_parts xs ys after c w in (r.0, (before, after, s, g, r.1), r.2)

  -- each event has its place in the history
  pub went_count : (xs : List (Event × Reply)) (a b : View D) → Went disks a xs b → length b.history ≡ length a.history + length xs
  went_count [] a b s = let e : length b.history ≡ length a.history = ap length s.0.history in omega (arith, e)
  went_count (x ∷ xs) a b (before, after, s, g, w) =
      let rest : length b.history ≡ length after.history + length xs = went_count xs after b w in
      let same : length before.history ≡ length a.history = ap length s.0.history in
      let more : length after.history ≡ length (before.history ++ x ∷ []) = ap length g.step.history in
      let one : length (before.history ++ x ∷ []) ≡ length before.history + length (x ∷ []) = length-append before.history (x ∷ []) in
      omega (arith, rest, same, more, one)

  pub went_limit : (xs : List (Event × Reply)) (a b : View D) → Went disks a xs b → b.limit ≡ a.limit
  went_limit [] a b s = s.0.limit
  went_limit (x ∷ xs) a b (before, after, s, g, w) = went_limit xs after b w ∙ g.step.limit ∙ s.0.limit

  pub went_base : (xs : List (Event × Reply)) (a b : View D) → Went disks a xs b → b.base ≡ a.base
  went_base [] a b s = s.0.base
  went_base (x ∷ xs) a b (before, after, s, g, w) = went_base xs after b w ∙ g.step.base ∙ s.0.base

  -- after so many events no further put or the like is recorded
  pub went_full : (xs : List (Event × Reply)) (a b : View D) → Went disks a xs b → a.base ≤ length a.history → a.limit ≤ length xs → b.limit ≤ length (kept b)
  went_full xs a b w replaced few =
      let are : length (kept b) ≡ length b.history - b.base = length-drop b.base b.history in
      omega (arith, are, went_count xs a b w, went_limit xs a b w, went_base xs a b w, replaced, few)

  -- the event was refused right after these
  pub stopped_next : (done : List (Event × Reply)) (a b c : View D) (event : Event) (r : Refusal)
      → Went disks a done b → IsStopped disks b [] event r c → IsStopped disks a done event r c
  stopped_next done a b c event r w s = record {
    added = s.added;
    went = went_then done s.added a b c w s.went;
    refused = s.refused;
  }

  -- it would be refused after these, for a reason that stands
  pub stopped_unrecorded : (done : List (Event × Reply)) (a b : View D) (event : Event) (r : Refusal)
      → Went disks a done b → IsUnrecorded b event r → IsStopped disks a done event r b
  stopped_unrecorded done a b event r w why = record {
    added = [];
    went = went_then done [] a b b w (stays_same b);
    refused = inr (refl, why);
  }

  -- an event that isn't refused
  pub goes_on : (old : View D) (event : Event) (reply : Reply) (new : View D) → IsNoRefusal reply → Applies disks old event reply new
      → MayAnswer event reply → WritesBack old.store event reply new.store → disks.honest old.disk ↔ disks.honest new.disk → Goes disks old event reply new
  goes_on old event reply new none (inl full) may writeback same = absurd (subst IsNoRefusal full.reply_is none)
  goes_on old event reply new none (inr step) may writeback same = record { step = step; answers = may; writeback = writeback; stays_honest = same }

  -- an event that is refused
  refusal : (old : View D) (event : Event) (r : Refusal) (new : View D) → Applies disks old event (Refused r) new
      → MayAnswer event (Refused r) → WritesBack old.store event (Refused r) new.store → disks.honest old.disk ↔ disks.honest new.disk → IsStopped disks old [] event r new
  refusal old event r new (inl full) may writeback same = record {
    added = [];
    went = subst (Stays disks old) (sym full.same) (stays_same old);
    refused = inr (refl, inr (same_refusal r HistoryFull full.reply_is, full.limited, subst (λ (v : View D). v.limit ≤ length (kept v)) (sym full.same) full.full));
  }
  refusal old event r new (inr step) may writeback same = record {
    added = (event, Refused r) ∷ [];
    went = went_one old new event (Refused r) (record { step = step; answers = may; writeback = writeback; stays_honest = same });
    refused = inl refl;
  }

  pub declined : (old : View D) (event : Event) (reply : Reply) (r : Refusal) (new : View D) → reply ≡ Refused r → Applies disks old event reply new
      → MayAnswer event reply → WritesBack old.store event reply new.store → disks.honest old.disk ↔ disks.honest new.disk → IsStopped disks old [] event r new
  declined old event reply r new is applies may writeback same =
      refusal old event r new (subst (λ (x : Reply). Applies disks old event x new) is applies) (subst (λ (x : Reply). MayAnswer event x) is may) (subst (λ (x : Reply). WritesBack old.store event x new.store) is writeback) same

  -- one event, with its reply, in other words
  pub went_as : (old new : View D) (event event' : Event) (reply reply' : Reply) → event ≡ event' → reply ≡ reply' → Goes disks old event reply new → Went disks old ((event', reply') ∷ []) new
  went_as old new event event' reply reply' e r g =
      subst (λ (x : Event). Went disks old ((x, reply') ∷ []) new) e (subst (λ (x : Reply). Went disks old ((event, x) ∷ []) new) r (went_one old new event reply g))

  pub stopped_as : (old new : View D) (event event' : Event) (r : Refusal) → event ≡ event' → IsStopped disks old [] event r new → IsStopped disks old [] event' r new
  stopped_as old new event event' r e s = subst (λ (x : Event). IsStopped disks old [] x r new) e s
