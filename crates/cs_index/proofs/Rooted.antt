-- The next version of the root.
use Rattle.std.proofs.Common.{◌≡◌, ℕ, ◌+◌, ◌<◌, ◌≤◌, List, [], ◌∷◌, ◌++◌, length, map, get_or, set, get_or-set_same, le_trans, inl, inr, refl, sym, ap, subst, ◌∙◌, arith, ◌^◌}
use Rattle.std.specs.Prelude.{◌↔◌, Bool, true, false, reverse}
use Rattle.std.proofs.lemmas.Bool.{cases_lt}
use Rattle.std.proofs.lemmas.List.{length-set, map-append, reverse-append}
use Rattle.cs_deps.specs.declared.elements.Element.{Element}
use Rattle.cs_deps.specs.declared.elements.Element.TheVariants.{Plain, Version}
use Rattle.cs_deps.specs.Named.{IsWithin, Named, Names, NamesFamily}
use Rattle.cs_deps.specs.Staging.{IsVersionStaged, Staging}
use Rattle.cs_deps.specs.State.{State as GraphState}
use Rattle.cs_extent.proofs.Appending.{whatever_room}
use Rattle.cs_extent.proofs.Staged.{frame_root}
use Rattle.cs_extent.specs.Appended.{IsAppendedBy}
use Rattle.cs_extent.specs.Frames.{IsFrameStaged, IsRootNeed, root_family, root_pages}
use Rattle.cs_extent.specs.State.{State as ExtentsState}
use Rattle.cs_frame.specs.Formats.{as_locator, place_of}
use Rattle.cs_frame.specs.declared.locators.Locator.{Locator}
use Rattle.cs_index.specs.declared.stored_runs.StoredRun.{StoredRun}
use Rattle.law_machine.specs.Format.{Format}
use Rattle.law_machine.specs.Element.{Entry, Locator as Place, Run}
use Rattle.law_machine.specs.Extents.{Purpose as Reason}
use Rattle.law_machine.specs.Formats.{places}
use Rattle.law_machine.specs.Geometry.{pages_first_in}
use Rattle.cs_index.specs.Staged.{IsRootOver, IsRootWorn, IsRunStagedBy, run_frame}
use Rattle.cs_index.specs.State.{newest_first, run_of}

within_pages : (pages_first : Bool) (staged : ℕ) → root_pages pages_first staged ≤ staged
within_pages true staged = omega arith
within_pages false staged = omega arith

pub within_needs : (d : Named) (pages_first : Bool) (staged : ℕ) (latest : List ℕ) → ((x : Element) → Names d x ↔ IsRootNeed (root_pages pages_first staged) latest x) → IsWithin d staged latest
within_needs d pages_first staged latest names (Plain n) h = let r = (names (Plain n)).0 h in (r.0, le_trans r.1 (within_pages pages_first staged))
within_needs d pages_first staged latest names (Version f v) h = let r = (names (Version f v)).0 h in r.2

pub not_own_family : (d : Named) (pages : ℕ) (latest : List ℕ) → ((x : Element) → Names d x ↔ IsRootNeed pages latest x) → NamesFamily d root_family → ⊥
not_own_family d pages latest names h = let r = (names (Version root_family h.0)).0 h.1 in r.0 refl

module _ (old new : Staging) (v : ℕ) (d : Named) (staged : IsVersionStaged old root_family v d new) where
  pub root_number : get_or old.latest root_family 0 + 1 ≡ v
  root_number = omega (arith, staged.2, staged.3)

  root_latest : new.latest ≡ set old.latest root_family v
  root_latest = ap (λ (s : Staging). s.latest) staged.5

  pub root_families : length new.latest ≡ length old.latest
  root_families = ap length root_latest ∙ length-set old.latest root_family v

  pub root_rises : root_family < length old.latest → get_or old.latest root_family 0 ≤ get_or new.latest root_family 0
  root_rises lt =
      let e : get_or new.latest root_family 0 ≡ v = ap (λ l. get_or l root_family 0) root_latest ∙ get_or-set_same old.latest root_family v 0 lt in
      omega (arith, root_number, e)

-- the next version of the root is below its greatest
pub below_worn : (s : Staging) (v : ℕ) → v ≡ get_or s.latest root_family 0 → (IsRootWorn s → ⊥) → v + 1 < 2 ^ 63
below_worn s v is below = elim (cases_lt (v + 1) (2 ^ 63)) [
  | inl lt ↦ lt
  | inr le ↦ absurd (below (omega (arith, is, le)))
]

-- a frame that is staged leaves the root's number as it is
pub frame_below : (old new : Staging) (first : Bool) (sections j count root need : ℕ) → IsFrameStaged old new first sections j count root need → (IsRootWorn old → ⊥) → IsRootWorn new → ⊥
frame_below old new first sections j count root need staged below worn =
    let same : get_or new.latest root_family 0 ≡ get_or old.latest root_family 0 = frame_root old new first sections j count root need staged in
    below (omega (arith, same, worn))

-- ---- the places of runs

places_append : (xs ys : List Run) → places (xs ++ ys) ≡ places xs ++ places ys
places_append [] ys = refl
places_append (x ∷ xs) ys = ap (λ ls. x.place ∷ ls) (places_append xs ys)

oldest_places : (older : List StoredRun) → map as_locator (reverse (places (newest_first older))) ≡ map (λ run. run.place) older
oldest_places [] = refl
oldest_places (run ∷ older) =
    ap (λ ls. map as_locator (reverse ls)) (places_append (newest_first older) (run_of run ∷ []))
    ∙ ap (map as_locator) (reverse-append (places (newest_first older)) (place_of run.place ∷ []))
    ∙ ap (λ ls. run.place ∷ ls) (oldest_places older)

newer_place : (older : List StoredRun) (place : Place) → map as_locator (reverse (place ∷ places (newest_first older))) ≡ map (λ run. run.place) older ++ as_locator place ∷ []
newer_place older place =
    ap (map as_locator) (reverse-append (place ∷ []) (places (newest_first older)))
    ∙ map-append as_locator (reverse (places (newest_first older))) (place ∷ [])
    ∙ ap (λ ls. ls ++ as_locator place ∷ []) (oldest_places older)

-- a frame was appended and a root staged over the places of runs: a run was staged over them
pub run_staged_by : (apart : Bool) (x : ExtentsState) (g k : GraphState) (reason : Reason) (entries : List Entry) (older : List StoredRun) (place : Locator) (v commands : ℕ) (y : ExtentsState) (h : GraphState)
    (frame : List (List ℕ)) (oldest : List Locator) → k ≡ record g { room = k.room } → frame ≡ run_frame x entries → oldest ≡ map (λ run. run.place) older
    → (between : GraphState) × IsAppendedBy apart x k reason frame place y between × IsRootOver x.format (pages_first_in x.format) between h v commands (oldest ++ place ∷ [])
    → IsRunStagedBy apart x g reason entries (newest_first older) (place_of place) v commands y h
run_staged_by apart x g k reason entries older place v commands y h frame oldest same is are done = (
  done.0,
  subst (λ (f : List (List ℕ)). IsAppendedBy apart x g reason f place y done.0) is (whatever_room x g k reason frame place y done.0 same done.1),
  subst (λ (ls : List Locator). IsRootOver x.format (pages_first_in x.format) done.0 h v commands ls) (ap (λ (ls : List Locator). ls ++ place ∷ []) are ∙ sym (newer_place older (place_of place))) done.2,
)

-- a root over a graph that differs in room alone
root_room : (format : Format) (first : Bool) (g h : GraphState) (room v commands : ℕ) (ls : List Locator) → IsRootOver format first (record g { room = room }) h v commands ls → IsRootOver format first g h v commands ls
root_room format first g h room v commands ls root = record {
  needs = root.needs;
  names = root.names;
  version = root.version;
  page = root.page;
  others = root.others;
  round = root.round;
}

pub root_over : (format : Format) (first : Bool) (g k h : GraphState) (v commands : ℕ) (ls : List Locator) → k ≡ record g { room = k.room } → IsRootOver format first k h v commands ls → IsRootOver format first g h v commands ls
root_over format first g k h v commands ls same root = root_room format first g h k.room v commands ls (subst (λ (s : GraphState). IsRootOver format first s h v commands ls) same root)

-- the root over the runs as they are
pub root_same : (format : Format) (first : Bool) (g k h : GraphState) (v commands : ℕ) (runs : List StoredRun) (rs : List Run) (ls : List Locator) → k ≡ record g { room = k.room } → ls ≡ map (λ run. run.place) runs → newest_first runs ≡ rs
    → IsRootOver format first k h v commands ls → IsRootOver format first g h v commands (map as_locator (reverse (places rs)))
root_same format first g k h v commands runs rs ls same are is root =
    subst (λ (ms : List Locator). IsRootOver format first g h v commands ms) (are ∙ sym (oldest_places runs) ∙ ap (λ (ms : List Run). map as_locator (reverse (places ms))) is)
    (root_over format first g k h v commands ls same root)
