-- What an append does, whatever room the graph has, and that the next may be made.
use Rattle.std.proofs.Common.{◌≡◌, ◌∙◌, ◌+◌, ℕ, Bool, List, ap, subst, sym}
use Rattle.cs_deps.specs.Staging.{Staging}
use Rattle.cs_deps.specs.State.{State as GraphState}
use Rattle.cs_frame.specs.declared.locators.Locator.{Locator}
use Rattle.law_machine.specs.Device.{Shape}
use Rattle.law_machine.specs.Extents.{Purpose as Reason}
use Rattle.cs_extent.specs.Appended.{IsAppendedBy, IsReady}
use Rattle.cs_extent.specs.Frames.{IsFrameStaged}
use Rattle.cs_extent.specs.State.{State, extents_of, shape}
use Rattle.cs_extent.proofs.Staged.{frame_families, frame_root, resets_still}

-- an append to the graph with other room is one to the graph
abbrev pub with_room : {apart : Bool} (x : State) (g : GraphState) (room : ℕ) (r : Reason) (f : List (List ℕ)) (l : Locator) (y : State) (h : GraphState)
    → IsAppendedBy apart x (record g { room = room }) r f l y h → IsAppendedBy apart x g r f l y h
with_room x g room r f l y h p = record {
  placed = p.placed;
  place = p.place;
  extents = p.extents;
  same_shape = p.same_shape;
  staged = p.staged;
  writes = p.writes;
  section = p.section;
  others = p.others;
  round = p.round;
}

-- the same, where the graph is known to differ in room alone
pub whatever_room : {apart : Bool} (x : State) (g k : GraphState) (r : Reason) (f : List (List ℕ)) (l : Locator) (y : State) (h : GraphState)
    → k ≡ record g { room = k.room } → IsAppendedBy apart x k r f l y h → IsAppendedBy apart x g r f l y h
whatever_room {apart = apart} x g k r f l y h same p = with_room x g k.room r f l y h (subst (λ (s : GraphState). IsAppendedBy apart x s r f l y h) same p)

-- once a frame was staged the next may be appended
pub still_ready : (x y : State) (old new : Staging) (first : Bool) (sections j count root need : ℕ) → shape y ≡ shape x → ((e : ℕ) → (extents_of y).reset e ≡ (extents_of x).reset e)
    → IsFrameStaged old new first sections j count root need → IsReady x old → IsReady y new
still_ready x y old new first sections j count root need same resets staged was = record {
  families = frame_families old new first sections j count root need staged ∙ was.families ∙ ap (λ (S : Shape). 1 + S.sections) (sym same);
  resets = resets_still (extents_of x) (extents_of y) old new resets (frame_root old new first sections j count root need staged) was.resets;
}

-- so it may where the graph differs in room alone
pub ready_still : (x y : State) (g h : GraphState) → y ≡ x → h ≡ record g { room = h.room } → IsReady x g.staging → IsReady y h.staging
ready_still x y g h same rest was = subst (λ (s : GraphState). IsReady y s.staging) (sym rest) (subst (λ (z : State). IsReady z g.staging) (sym same) was)
