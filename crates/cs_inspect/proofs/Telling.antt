-- What is told of a frame, and what is told of it after others were read.
use Rattle.std.proofs.Common.{◌≡◌, ◌≢◌, ◌∙◌, ◌⊎◌, inl, inr, ℕ, List, Some, None, Ok, Err, Result, sym, ap, subst}
use Rattle.std.specs.Prelude.{IsOk, MatchOption, Option}
use Rattle.cs_chunk.specs.Newest.{AreNewest}
use Rattle.cs_chunk.specs.Reads.{AnswersFault, IsNoAnswer, IsOfFault, fault_in}
use Rattle.cs_core.specs.Stored.{Stored}
use Rattle.cs_core.specs.Views.{View}
use Rattle.cs_refusal.specs.declared.refusals.Refusal.{Refusal}
use Rattle.cs_refusal.specs.declared.refusals.Refusal.TheVariants.{OutOfMemory}
use Rattle.cs_disk.specs.Reads.{OnlyReads}
use Rattle.cs_disk.specs.declared.disk.PageDisk.{Ghosts as PageDisk}
use Rattle.cs_disk.specs.Disk.{State as DiskState, seen}
use Rattle.cs_extent.specs.State.{State as ExtentsState, shape}
use Rattle.cs_frame.specs.declared.frames.FrameKind.{FrameKind}
use Rattle.cs_frame.specs.declared.locators.Locator.{Locator}
use Rattle.cs_inspect.specs.Scrubs.{IsInside, TellsFrame}

-- ---- one frame

module _ (x : ExtentsState) (view : ℕ → List ℕ) (kind : FrameKind) (l : Locator) (inside : IsInside (shape x) l) where
  pub told_read : {V T : Type 0} (t : T) (read : Result V Refusal) (v : V) → AnswersFault (fault_in x view kind l) read → read ≡ Ok v → TellsFrame x view kind l (Ok t)
  told_read t (Ok w) v answers is = (inside, answers)
  told_read t (Err r) v answers is = absurd (cc is)

  pub told_unread : {V : Type 0} (T : Type 0) (read : Result V Refusal) (r : Refusal) → AnswersFault (fault_in x view kind l) read → read ≡ Err r → TellsFrame {T = T} x view kind l (Err r)
  told_unread T (Ok w) r answers is = absurd (cc is)
  told_unread {V} T (Err q) r answers is = subst (λ (p : Refusal). TellsFrame {T = T} x view kind l (Err p)) (let same : q ≡ r = cc is in same) (go answers)
    where
      go : IsNoAnswer q ⊎ IsOfFault (fault_in x view kind l) q → TellsFrame {T = T} x view kind l (Err q)
      go (inl (inl device)) = inr (inl device)
      go (inl (inr memory)) = inl memory
      go (inr fault) = inr (inr (inl (inside, fault)))

-- ---- after others

-- what differs in the disk alone from what differs in the disk alone
pub same_on : {D : Type 0} (a b c : View D) → b ≡ record a { disk = b.disk } → c ≡ record b { disk = c.disk } → c ≡ record a { disk = c.disk }
same_on {D} a b c first more = more ∙ ap (λ (v : View D). record v { disk = c.disk }) first

-- a core that differs in its disk alone, which only reads changed
module _ {D : Type 0} (disks : PageDisk D) (a b : View D) (same : b ≡ record a { disk = b.disk }) (reads : OnlyReads disks a.disk b.disk) where
  pub same_store : b.store ≡ a.store
  same_store = ap (λ (v : View D). v.store) same

  pub newest_here : disks.honest a.disk → (view : ℕ → List ℕ) → AreNewest a.store.graph (seen (disks.state a.disk)) view → AreNewest b.store.graph (seen (disks.state b.disk)) view
  newest_here there view are =
      subst (λ (s : Stored). AreNewest s.graph (seen (disks.state b.disk)) view) (sym same_store)
      (subst (λ (d : DiskState). AreNewest a.store.graph (seen d) view) (sym (reads.same there)) are)

  pub told_here : {T : Type 0} (kind : FrameKind) (l : Locator) (read : Result T Refusal)
      → (disks.honest b.disk → (view : ℕ → List ℕ) → AreNewest b.store.graph (seen (disks.state b.disk)) view → TellsFrame b.store.extents view kind l read)
      → disks.honest a.disk → (view : ℕ → List ℕ) → AreNewest a.store.graph (seen (disks.state a.disk)) view → TellsFrame a.store.extents view kind l read
  told_here kind l read told there view are =
      subst (λ (s : Stored). TellsFrame s.extents view kind l read) same_store (told (reads.honesty.0 there) view (newest_here there view are))

-- ---- why a frame wasn't read

module _ {T : Type 0} (read : Result T Refusal) where
  abbrev Is : Option Refusal → Type 0
  Is o = MatchOption o (IsOk read) (λ r. (read ≡ Err r) × (r ≢ OutOfMemory))

  pub why_none : (o : Option Refusal) → o ≡ None → Is o → IsOk read
  why_none o none is = subst Is none is

  pub why_some : (o : Option Refusal) (r : Refusal) → o ≡ Some r → Is o → (read ≡ Err r) × (r ≢ OutOfMemory)
  why_some o r some is = subst Is some is
