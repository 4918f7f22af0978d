-- What a change of the map and a commit behind it do.
use Rattle.std.proofs.Common.{◌≡◌, ◌∙◌, ◌⊎◌, ℕ, suc, ◌≤◌, List, [], ◌∷◌, Some, None, refl, sym, subst, inl, inr, ⊎_elim, arith}
use Rattle.std.specs.Prelude.{◌↔◌, IfSome, MatchOption, Option}
use Rattle.cs_core.specs.declared.events.Event.TheVariants.{Delete}
use Rattle.cs_core.specs.declared.events.Reply.TheVariants as reply
use Rattle.cs_core.specs.Meanings.{commands_said}
use Rattle.cs_core.specs.Views.{View}
use Rattle.cs_refusal.specs.declared.refusals.Refusal.{Refusal}
use Rattle.cs_disk.specs.declared.disk.PageDisk.{Ghosts as PageDisk}
use Rattle.cs_disk.specs.Disk.{Image, LeavesOnly, page}
use Rattle.cs_writeback.specs.Syncs.{StopsSync}
use Rattle.cs_extent.specs.State.{shape}
use Rattle.cs_frame.specs.declared.identifiers.ShardId.{ShardId}
use Rattle.cs_index.specs.State.{id_number}
use Rattle.law_machine.specs.Device.{Shape}
use Rattle.law_machine.specs.Element.{Map}
use Rattle.law_machine.specs.State.{Command, changed}
use Rattle.cs_core.proofs.law_refinement.CrashesLeft.{prefix_wider}
use Rattle.cs_core.specs.law_refinement.Crashes.{IsPrefix}
use Rattle.cs_store.specs.Events.{Declines, Does, IsHalted}
use Rattle.cs_store.specs.Maps.{Accepts, HasMap}
use Rattle.cs_store.specs.Reserves.{PutsAfterReads}
use Rattle.cs_store.proofs.Accepting.{accepts_none, does_accepts, sync_quiet, sync_stopped_quiet}
use Rattle.cs_store.proofs.Running.{Left}
use Rattle.cs_tools.specs.Changes.{Commits, DeclinesDelete, Deletes, DeletesFrom, Puts, PutsInto}
use Rattle.cs_advice.specs.declared.outcomes.Outcome.{Outcome}
use Rattle.cs_advice.specs.declared.outcomes.Outcome.TheVariants.{Absent, Damaged, Done, Failed, MayBeLost, NoStore, Refused, Unopened, Unread}

module _ {D : Type 0} (disks : PageDisk D) where
  -- ---- the events

  -- a commit accepts no command
  commits_quiet : (old new : View D) (o : Outcome) → Commits disks old new o → Accepts disks [] old new
  commits_quiet old new Done syncs = sync_quiet disks old new syncs
  commits_quiet old new (Refused r) (inl (is, told, same)) = subst (Accepts disks [] old) (sym same) (accepts_none disks old)
  commits_quiet old new (Refused r) (inr stops) = sync_stopped_quiet disks old r new stops
  commits_quiet old new Absent h = absurd h
  commits_quiet old new Failed h = absurd h
  commits_quiet old new Damaged h = absurd h
  commits_quiet old new (NoStore r) h = absurd h
  commits_quiet old new (Unread r) h = absurd h
  commits_quiet old new (Unopened f) h = absurd h
  commits_quiet old new MayBeLost h = absurd h

  pub refused_commit : (old new : View D) (r told : Refusal) → told ≡ r → IsHalted old r new ⊎ StopsSync disks old r new → IsHalted old told new ⊎ StopsSync disks old told new
  refused_commit old new r told is stops = subst (λ (x : Refusal). IsHalted old x new ⊎ StopsSync disks old x new) (sym is) stops

  pub refused_delete : (id : ShardId) (old new : View D) (r told : Refusal) → told ≡ r → IsHalted old r new ⊎ Declines disks old (Delete id) r new → DeclinesDelete disks id old told new
  refused_delete id old new r told is declines = subst (λ (x : Refusal). IsHalted old x new ⊎ Declines disks old (Delete id) x new) (sym is) declines

  -- what a delete that found something, or nothing, did
  abbrev pub DidDelete : ShardId → (old : View D) → Option ℕ → (new : View D) → Type 0
  DidDelete id old found new = MatchOption found (Does disks old (Delete id) reply.Absent new) (λ n. Does disks old (Delete id) (reply.Accepted n) new)

  pub did_some : (id : ShardId) (found : Option ℕ) (n : ℕ) (old new : View D) → found ≡ Some n → DidDelete id old found new → Does disks old (Delete id) (reply.Accepted n) new
  did_some id found n old new is did = subst (λ (f : Option ℕ). DidDelete id old f new) is did

  pub did_none : (id : ShardId) (found : Option ℕ) (old new : View D) → found ≡ None → DidDelete id old found new → Does disks old (Delete id) reply.Absent new
  did_none id found old new is did = subst (λ (f : Option ℕ). DidDelete id old f new) is did

  pub deletes : (id : ShardId) (n : ℕ) (old mid new : View D) (o : Outcome) → Does disks old (Delete id) (reply.Accepted n) mid → Commits disks mid new o → Deletes disks id old new o
  deletes id n old mid new Done does commits = (mid, n, does, commits)
  deletes id n old mid new (Refused r) does commits = inr (mid, n, does, commits)
  deletes id n old mid new Absent does commits = absurd commits
  deletes id n old mid new Failed does commits = absurd commits
  deletes id n old mid new Damaged does commits = absurd commits
  deletes id n old mid new (NoStore r) does commits = absurd commits
  deletes id n old mid new (Unread r) does commits = absurd commits
  deletes id n old mid new (Unopened f) does commits = absurd commits
  deletes id n old mid new MayBeLost does commits = absurd commits

  pub puts : (id : ShardId) (text : List ℕ) (n : ℕ) (old mid new : View D) (o : Outcome) → PutsAfterReads disks old id text n mid → Commits disks mid new o → Puts disks id text old new o
  puts id text n old mid new Done does commits = (mid, n, does, commits)
  puts id text n old mid new (Refused r) does commits = inr (mid, n, does, commits)
  puts id text n old mid new Absent does commits = absurd commits
  puts id text n old mid new Failed does commits = absurd commits
  puts id text n old mid new Damaged does commits = absurd commits
  puts id text n old mid new (NoStore r) does commits = absurd commits
  puts id text n old mid new (Unread r) does commits = absurd commits
  puts id text n old mid new (Unopened f) does commits = absurd commits
  puts id text n old mid new MayBeLost does commits = absurd commits

  -- ---- the map

  module _ (m : Map) (id : ShardId) (n : ℕ) (old mid new : View D) (o : Outcome) (number : n ≡ suc old.store.accepted) (last : mid.store.accepted ≡ n)
      (kept : (p : Map) → HasMap mid p → HasMap new p) (same : new.store.accepted ≡ mid.store.accepted) (all : o ≡ Done → new.store.frontier ≡ new.store.accepted) where
    pub deletes_from : (m (id_number id) ≡ None → ⊥) → HasMap mid (changed m (id_number id, None)) → Does disks old (Delete id) (reply.Accepted n) mid → Commits disks mid new o
        → DeletesFrom disks m id old new o
    deletes_from some map does commits = go o refl commits
      where
        go : (p : Outcome) → o ≡ p → Commits disks mid new p → DeletesFrom disks m id old new p
        go Done is c = (some, kept (changed m (id_number id, None)) map, (same ∙ last ∙ number, all is))
        go (Refused r) is c = inr (kept (changed m (id_number id, None)) map, (mid, n, does, c))
        go Absent is c = absurd c
        go Failed is c = absurd c
        go Damaged is c = absurd c
        go (NoStore r) is c = absurd c
        go (Unread r) is c = absurd c
        go (Unopened f) is c = absurd c
        go MayBeLost is c = absurd c

    pub puts_into : (text : List ℕ) → HasMap mid (changed m (id_number id, Some text)) → PutsAfterReads disks old id text n mid → Commits disks mid new o → PutsInto disks m id text old new o
    puts_into text map does commits = go o refl commits
      where
        go : (p : Outcome) → o ≡ p → Commits disks mid new p → PutsInto disks m id text old new p
        go Done is c = (kept (changed m (id_number id, Some text)) map, (same ∙ last ∙ number, all is))
        go (Refused r) is c = inr (kept (changed m (id_number id, Some text)) map, (mid, n, does, c))
        go Absent is c = absurd c
        go Failed is c = absurd c
        go Damaged is c = absurd c
        go (NoStore r) is c = absurd c
        go (Unread r) is c = absurd c
        go (Unopened f) is c = absurd c
        go MayBeLost is c = absurd c

  -- with the number that a delete gave, if any
  pub deletes_found : (m : Map) (id : ShardId) (found : Option ℕ) (n : ℕ) (old mid new : View D) (o : Outcome) → found ≡ Some n → (found ≡ None) ↔ (m (id_number id) ≡ None)
      → MatchOption found (mid.store.accepted ≡ old.store.accepted) (λ k. k ≡ suc old.store.accepted) → IfSome found (λ k. mid.store.accepted ≡ k)
      → MatchOption found (HasMap mid m) (λ k. HasMap mid (changed m (id_number id, None))) → DidDelete id old found mid → Commits disks mid new o
      → ((p : Map) → HasMap mid p → HasMap new p) → new.store.accepted ≡ mid.store.accepted → (o ≡ Done → new.store.frontier ≡ new.store.accepted) → DeletesFrom disks m id old new o
  deletes_found m id None n old mid new o is absent number last map did commits kept same all = let clash : None ≡ Some n = is in absurd (cc clash)
  deletes_found m id (Some k) n old mid new o is absent number last map did commits kept same all =
      deletes_from m id k old mid new o number last kept same all (λ none. let clash : Some k ≡ None = absent.1 none in absurd (cc clash)) map did commits

  -- ---- crashes

  -- one run after another
  leaves_then : (a b c : D) (P Q R : Image → Type 0) → LeavesOnly disks.moment disks.left_since a b P → LeavesOnly disks.moment disks.left_since b c Q → ((i : Image) → P i → R i) → ((i : Image) → Q i → R i)
      → LeavesOnly disks.moment disks.left_since a c R
  leaves_then a b c P Q R first rest p q = record {
    later = omega (arith, first.later, rest.later);
    each = λ i left. ⊎_elim (λ was. p i (first.each i was)) (λ has. q i has) (rest.before (disks.moment a) i first.later left);
    before = λ t i le left. ⊎_elim
        (λ was. ⊎_elim (λ older. inl older) (λ has. inr (p i has)) (first.before t i le was))
        (λ has. inr (q i has))
        (rest.before t i (omega (arith, le, first.later)) left);
  }

  module _ (old mid new : View D) (cs : List Command) (adds : Accepts disks cs old mid) (quiet : Accepts disks [] mid new) (rises : old.store.frontier ≤ mid.store.frontier) (same : new.store.accepted ≡ mid.store.accepted) where
    left_first : (image : Image) → Left old mid image → Left old new image
    left_first image left =
        subst (λ (ds : List Command). IsPrefix (shape old.store.extents) (page old.opened) ds old.store.frontier new.store.accepted image) (sym quiet.commands_now)
        (subst (λ (n : ℕ). IsPrefix (shape old.store.extents) (page old.opened) (commands_said mid.history) old.store.frontier n image) (sym same) left)

    left_then : (image : Image) → Left mid new image → Left old new image
    left_then image left =
        prefix_wider (shape old.store.extents) (page old.opened) (commands_said new.history) mid.store.frontier new.store.accepted old.store.frontier new.store.accepted image rises (omega arith)
        (subst (λ (i : Image). IsPrefix (shape old.store.extents) (page i) (commands_said new.history) mid.store.frontier new.store.accepted image) adds.opened
        (subst (λ (S : Shape). IsPrefix S (page mid.opened) (commands_said new.history) mid.store.frontier new.store.accepted image) adds.same_shape left))

    leaves_both : LeavesOnly disks.moment disks.left_since old.disk mid.disk (Left old mid) → LeavesOnly disks.moment disks.left_since mid.disk new.disk (Left mid new) → LeavesOnly disks.moment disks.left_since old.disk new.disk (Left old new)
    leaves_both first rest = leaves_then old.disk mid.disk new.disk (Left old mid) (Left mid new) (Left old new) first rest left_first left_then

  -- a crash at any moment of a delete and of the commit behind it
  pub crash_of_delete : (id : ShardId) (n : ℕ) (old mid new : View D) (o : Outcome) → Does disks old (Delete id) (reply.Accepted n) mid → Commits disks mid new o → old.store.frontier ≤ mid.store.frontier
      → new.store.accepted ≡ mid.store.accepted → LeavesOnly disks.moment disks.left_since old.disk mid.disk (Left old mid) → LeavesOnly disks.moment disks.left_since mid.disk new.disk (Left mid new)
      → LeavesOnly disks.moment disks.left_since old.disk new.disk (Left old new)
  crash_of_delete id n old mid new o does commits rises same =
      leaves_both old mid new ((id_number id, None) ∷ []) (does_accepts disks old (Delete id) (reply.Accepted n) mid does) (commits_quiet mid new o commits) rises same

  -- of a put
  pub crash_of_put : (id : ShardId) (text : List ℕ) (old mid new : View D) (o : Outcome) → Accepts disks ((id_number id, Some text) ∷ []) old mid → Commits disks mid new o
      → old.store.frontier ≤ mid.store.frontier → new.store.accepted ≡ mid.store.accepted → LeavesOnly disks.moment disks.left_since old.disk mid.disk (Left old mid)
      → LeavesOnly disks.moment disks.left_since mid.disk new.disk (Left mid new) → LeavesOnly disks.moment disks.left_since old.disk new.disk (Left old new)
  crash_of_put id text old mid new o adds commits rises same =
      leaves_both old mid new ((id_number id, Some text) ∷ []) adds (commits_quiet mid new o commits) rises same
