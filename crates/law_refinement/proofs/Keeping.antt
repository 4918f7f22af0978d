-- A store keeps its world as rounds come and go, extents are marked, and frames are appended one after another.
use Rattle.std.proofs.Common.{◌≡◌, inl, inr, ⊎_elim, ◌⊎◌, ℕ, ◌≤◌, Bool, true, false, List, [], ◌∷◌, ◌++◌, Some, map, le_trans, true≢false, refl, sym, ap, ◌∙◌, subst}
use Rattle.std.proofs.lemmas.Bool.{cases_Bool}
use Rattle.cs_deps.specs.declared.elements.Element.{Element as Name}
use Rattle.cs_deps.specs.Pending.{Waits}
use Rattle.cs_deps.specs.Staging.{Staging, settled}
use Rattle.cs_deps.specs.State.{AddsNone, KeepsBytes, State as GraphState, Write as PageWrite, IsWhole as IsWholeGraph, write_of}
use Rattle.law_machine.specs.Append.{AppendAll, AppendAllBy}
use Rattle.law_machine.specs.Cut.{Closed, Cut, Within, satisfied}
use Rattle.law_machine.specs.Device.{Shape}
use Rattle.law_machine.specs.Disk.{page_write}
use Rattle.law_machine.specs.Element.{Element, Write, log_of, writes_of}
use Rattle.law_machine.specs.Extents.{Extents, Purpose as Reason, marked}
use Rattle.law_machine.specs.Formats.{Formats}
use Rattle.law_machine.specs.Lists.{◌∈◌}
use Rattle.law_machine.specs.Machine.{BeginRound, EndRound, World, happens}
use Rattle.law_machine.specs.Safe.{Ready}
use Rattle.law_machine.specs.Sound.{Sound}
use Rattle.law_machine.specs.State.{State}
use Rattle.cs_frame.specs.Formats.{formats_of, place_of}
use Rattle.cs_frame.specs.Geometries.{IsGeometry}
use Rattle.cs_frame.specs.declared.locators.Locator.{Locator}
use Rattle.cs_extent.specs.Appended.{AreAppendedBy}
use Rattle.cs_extent.specs.State.{State as ExtentsState, extents_of, need_of, shape}
use Rattle.law_refinement.specs.Bridge.{AreNames, IsWaiting, name, waiting_in}
use Rattle.law_refinement.specs.Stores.{AreMemberNames, AreWritesOf, IsRecorded, IsStagingOf, IsWorldOf}
use Rattle.law_refinement.proofs.Appending.{after_append_by}
use Rattle.law_refinement.proofs.Places.{match_in, to_waiting}
use Rattle.law_refinement.proofs.Settling.{round_settled, some_section, still}
use Rattle.law_refinement.proofs.Shapes.{need_same}
use Rattle.law_refinement.proofs.Worlds.{moved}

pub begun : (x : ExtentsState) (g h : GraphState) (w : World) (R : Cut) → IsWorldOf x g w → h.staging ≡ g.staging → AddsNone g h → IsWorldOf x h (happens (shape x) w (BeginRound R))
begun x g h w R is same none = record {
  extents = is.extents;
  staging = subst (λ (t : Staging). IsStagingOf (shape x) (need_of x) (happens (shape x) w (BeginRound R)) t) (sym same) (moved (shape x) (need_of x) w g.staging w.extents R is.staging);
  recorded = λ a has. is.recorded a has;
  resets = is.resets;
  writes = λ m p waits kept. is.writes m p waits (none (name m) p kept);
}

-- what waits after a round waited before
waited : (P R : Cut) → Within P R → (m : Element) → satisfied R m ≡ false → satisfied P m ≡ false
waited P R low m waits = ⊎_elim
    (λ (met : satisfied P m ≡ true). absurd (true≢false (sym (still P R low m met) ∙ waits)))
    (λ (not : satisfied P m ≡ false). not)
    (cases_Bool (satisfied P m))

-- a round whose members are ready is closed with them
round_closed : (S : Shape) (els : List Element) (P R : Cut) → Closed S (log_of els) P → Within P R → Ready S (log_of els) P R → Closed S (log_of els) R
round_closed S els P R closed low ready = record {
  write_root = λ x has met. ⊎_elim
      (λ (old : P.writes x.number ≡ true). le_trans (closed.write_root x has old) low.root)
      (λ (here : x.root ≤ P.root). le_trans here low.root)
      (ready.writes x has met);
  superblock_root = λ u has met. ⊎_elim
      (λ (old : u.version ≤ P.superblocks u.section). le_trans (closed.superblock_root u has old) low.root)
      (λ (here : u.root ≤ P.root). le_trans here low.root)
      (ready.superblock_root u has met);
  superblock_writes = λ u x has has_x met sec bound. ⊎_elim
      (λ (old : u.version ≤ P.superblocks u.section). low.writes x.number (closed.superblock_writes u x has has_x old sec bound))
      (λ (here : P.writes x.number ≡ true). low.writes x.number here)
      (ready.superblock_writes u x has has_x met sec bound);
  root_superblocks = λ r has met j. ⊎_elim
      (λ (old : r.version ≤ P.root). le_trans (closed.root_superblocks r has old j) (low.superblocks j))
      (λ (here : (i : ℕ) → r.superblocks i ≤ P.superblocks i). le_trans (here j) (low.superblocks j))
      (ready.roots r has met);
  root_writes = λ r x has has_x met bound. ⊎_elim
      (λ (old : r.version ≤ P.root). low.writes x.number (closed.root_writes r x has has_x old bound))
      (λ (here : P.writes x.number ≡ true). low.writes x.number here)
      (ready.root_writes r x has has_x met bound);
}

module _ (F : Formats) (s : State) (x : ExtentsState) (g h : GraphState) (round : List Name) (sound : Sound (shape x) F s)
    (is : IsWorldOf x g s.world) (names : AreMemberNames (shape x) s.world round) where
  abbrev next : World
  next = happens (shape x) s.world EndRound

  staging : IsStagingOf (shape x) (need_of x) next (record { pending = settled g.staging.pending round; staged = g.staging.staged; latest = g.staging.latest })
  staging = record {
    pending = round_settled (shape x) F s.opened s.world g.staging.pending sound.safe (some_section (shape x) F s sound) is.staging.pending round names;
    written = is.staging.written;
    families = is.staging.families;
    sections = is.staging.sections;
    root = is.staging.root;
    persistent = sound.safe.round_staged;
    closed = round_closed (shape x) s.world.elements s.world.persistent s.world.round is.staging.closed sound.safe.within sound.safe.ready;
    numbers = is.staging.numbers;
    superblocks = is.staging.superblocks;
    roots = is.staging.roots;
  }

  pub ended : h.staging ≡ record { pending = settled g.staging.pending round; staged = g.staging.staged; latest = g.staging.latest } → AddsNone g h → IsWorldOf x h next
  ended same none = record {
    extents = is.extents;
    staging = subst (λ (t : Staging). IsStagingOf (shape x) (need_of x) next t) (sym same) staging;
    recorded = λ a has. is.recorded a has;
    resets = is.resets;
    writes = λ m p waits kept. is.writes m p (waits.0, waited s.world.persistent s.world.round sound.safe.within m waits.1) (none (name m) p kept);
  }

in_either : (xs ys : List Element) (m : Element) → m ∈ (xs ++ ys) → (m ∈ xs) ⊎ (m ∈ ys)
in_either [] ys m has = inr has
in_either (x ∷ xs) ys m (inl is) = inl (inl is)
in_either (x ∷ xs) ys m (inr has) = ⊎_elim (λ (l : m ∈ xs). inl (inr l)) (λ (r : m ∈ ys). inr r) (in_either xs ys m has)

in_front : (xs ys : List Element) (m : Element) → m ∈ xs → m ∈ (xs ++ ys)
in_front [] ys m none = absurd none
in_front (x ∷ xs) ys m (inl is) = inl is
in_front (x ∷ xs) ys m (inr has) = inr (in_front xs ys m has)

in_back : (xs ys : List Element) (m : Element) → m ∈ ys → m ∈ (xs ++ ys)
in_back [] ys m has = has
in_back (x ∷ xs) ys m has = inr (in_back xs ys m has)

pub members_named : (S : Shape) (F : Formats) (s : State) (xs : List Name) → Sound S F s → s.round_out ≡ true → AreNames (s.left ++ s.issued) xs → AreMemberNames S s.world xs
members_named S F s xs sound out names z = (
  (λ has. (let from = (names z).0 has in (
    from.0,
    ⊎_elim (λ (l : from.0 ∈ s.left). sound.left from.0 l) (λ (i : from.0 ∈ s.issued). sound.issued from.0 i) (in_either s.left s.issued from.0 from.1),
    from.2,
  ))),
  (λ from. (names z).1 (
    from.0,
    ⊎_elim (λ (l : from.0 ∈ s.left). in_front s.left s.issued from.0 l) (λ (i : from.0 ∈ s.issued). in_back s.left s.issued from.0 i) (sound.complete out from.0 from.1),
    from.2,
  )),
)

pub after_mark : (x y : ExtentsState) (g : GraphState) (w : World) (e : ℕ) (b : Bool) → IsWorldOf x g w → shape y ≡ shape x → extents_of y ≡ marked (extents_of x) e b
    → IsWorldOf y g (record w { extents = marked w.extents e b })
after_mark x y g w e b is same extents =
    let next : World = record w { extents = marked w.extents e b } in
    record {
      extents = ap (λ (z : Extents). marked z e b) is.extents ∙ sym extents;
      staging = subst (λ (S : Shape). IsStagingOf S (need_of y) next g.staging) (sym same)
          (subst (λ (f : ℕ → ℕ). IsStagingOf (shape x) f next g.staging) (sym (need_same x y same (λ d. ap (λ (z : Extents). z.reset d) extents)))
          (moved (shape x) (need_of x) w g.staging (marked w.extents e b) w.round is.staging));
      recorded = subst (λ (S : Shape). (a : Write) → a ∈ writes_of w.elements → IsRecorded S next a) (sym same) (λ a has. is.recorded a has);
      resets = is.resets;
      writes = subst (λ (S : Shape). AreWritesOf S next g) (sym same) (λ m p waits kept. is.writes m p waits kept);
    }

pub after_appends_by : (apart : Bool) (x y : ExtentsState) (g h : GraphState) (w : World) (reason : Reason) (frames : List (List (List ℕ))) (ls : List Locator)
    → IsGeometry (shape x).format (shape x).extents (shape x).pages (shape x).sections → IsWorldOf x g w → AreAppendedBy apart x g reason frames ls y h
    → (v : World) × AppendAllBy (shape x) apart w reason frames (map place_of ls) v × IsWorldOf y h v
after_appends_by apart x y g h w reason [] [] geometry is all = (
  w,
  refl,
  subst (λ (z : ExtentsState). IsWorldOf z h w) (sym all.0)
      (subst (λ (k : GraphState). IsWorldOf x k w) (sym all.1) (record { extents = is.extents; staging = is.staging; recorded = is.recorded; resets = is.resets; writes = is.writes })),
)
after_appends_by apart x y g h w reason [] (l ∷ ls) geometry is all = absurd all
after_appends_by apart x y g h w reason (frame ∷ frames) [] geometry is all = absurd all
after_appends_by apart x y g h w reason (frame ∷ frames) (l ∷ ls) geometry is all =
    let one = after_append_by x g w geometry is apart reason frame l all.0 all.1 all.2 in
    let same : shape all.0 ≡ shape x = all.2.same_shape in
    let rest = after_appends_by apart all.0 y all.1 h one.0 reason frames ls (subst (λ (S : Shape). IsGeometry S.format S.extents S.pages S.sections) (sym same) geometry) one.2 all.3 in
    (rest.0, (one.0, one.1, subst (λ (S : Shape). AppendAllBy S apart one.0 reason frames (map place_of ls) rest.0) same rest.1), rest.2)

pub after_appends : (x y : ExtentsState) (g h : GraphState) (w : World) (reason : Reason) (frames : List (List (List ℕ))) (ls : List Locator)
    → IsGeometry (shape x).format (shape x).extents (shape x).pages (shape x).sections → IsWorldOf x g w → AreAppendedBy false x g reason frames ls y h
    → (v : World) × AppendAll (shape x) w reason frames (map place_of ls) v × IsWorldOf y h v
after_appends x y g h w reason frames ls geometry is all = after_appends_by false x y g h w reason frames ls geometry is all

-- what waits in the world waits in its graph
pub waits_in : (x : ExtentsState) (g : GraphState) (w : World) (m : Element) → IsWorldOf x g w → IsWaiting w m → Waits g.staging.pending (name m)
waits_in x g w m is waits =
    let at = match_in (shape x) w.persistent w.elements (waiting_in w.persistent w.elements) g.staging.pending.waiting m is.staging.pending.waiting (to_waiting w.persistent w.elements m waits.0 waits.1) in
    (at.0, at.1, at.2)

-- what waits and keeps its bytes is kept as it is written
pub kept_writes : (x : ExtentsState) (g : GraphState) (w : World) (m : Element) → IsWorldOf x g w → IsWholeGraph g → IsWaiting w m → KeepsBytes g (name m)
    → write_of g (name m) ≡ Some (page_write (shape x) (formats_of (shape x)) m)
kept_writes x g w m is whole waits keeps =
    let kept = whole.writes (name m) keeps in
    kept.1 ∙ ap (λ (p : PageWrite). Some p) (is.writes m kept.0 waits kept.1)
