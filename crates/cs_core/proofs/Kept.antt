-- What each step of a store keeps.
use Rattle.std.proofs.Common.{◌≡◌, ◌∙◌, ℕ, zero, suc, ◌+◌, ◌^◌, ◌<◌, ◌≤◌, Bool, true, false, List, [], ◌∷◌, ◌++◌, Some, length, sym, ap, subst, inl, inr, ⊎_elim, arith, refl}
use Rattle.std.specs.Prelude.{OnErr, OnOk, Option, Result, Ok, Err, map, slice_index, slice_index_or, if◌then◌else◌, ◌==◌}
use Rattle.cs_refusal.specs.declared.refusals.Refusal.{Refusal as Code}
use Rattle.cs_deps.specs.declared.elements.Element.{Element}
use Rattle.cs_deps.specs.State.{State as GraphState, AddsNone}
use Rattle.cs_extent.specs.Appended.{AreAppendedBy, IsAppendedBy, IsReady}
use Rattle.cs_extent.specs.Frames.{AreResetsStaged, root_family}
use Rattle.cs_extent.specs.State.{IsWhole, State as ExtentsState, extents_of, shape}
use Rattle.cs_chunk.proofs.Chunkings.{length-spelled}
use Rattle.cs_frame.specs.FormatNumbers.{number_in}
use Rattle.cs_frame.specs.declared.locators.Locator.{Locator}
use Rattle.cs_frame.specs.Formats.{formats_of, place_of}
use Rattle.cs_frame.specs.Frames.{spelled_frame}
use Rattle.cs_index.specs.Merges.{deletions_go, stage_takes}
use Rattle.cs_index.specs.Staged.{IsMergeStaged, IsNewestStaged, IsPartAppendedBy, IsRunAppendedBy, run_frame}
use Rattle.law_machine.specs.Index.{IsMergedRun}
use Rattle.law_machine.specs.Element.{Entry, Run}
use Rattle.cs_frame.specs.Formats.{as_locator}
use Rattle.cs_index.specs.State.{IsSet, State as IndexState, index_of}
use Rattle.law_machine.specs.Append.{chunk_frames}
use Rattle.law_machine.specs.Device.{Inside, Shape}
use Rattle.law_machine.specs.Element.{Locator as Place}
use Rattle.law_machine.specs.Extents.{Extents, ForRun, Purpose as Reason, marked}
use Rattle.std.proofs.lemmas.Bool.{cases_eq, cond-false, cond-true, eq-eqb, ne_eqb}
use Rattle.cs_deps.specs.Staging.{IsKept as AreKept, Staging}
use Rattle.law_machine.specs.Index.{live, live_at, lookup}
use Rattle.law_machine.specs.Lists.{◌∈◌}
use Rattle.law_refinement.specs.cs_reclaim.Retired.{IsRetired}
use Rattle.law_machine.specs.Extents.{ForMove}
use Rattle.law_refinement.specs.cs_reclaim.Sweeps.{IsSwept, IsSweptApart}
use Rattle.law_refinement.proofs.cs_reclaim.Sweeping.{append_swept}
use Rattle.law_refinement.proofs.cs_reclaim.SweptStays.{append_stays_apart}
use Rattle.cs_core.specs.Stored.{AreInside, AreSwept, AreWithin, IsKept, IsKeptApart, KeepsDevice, Stored, members_of}
use Rattle.cs_core.proofs.KeptApart.{kept_apart_marked}
use Rattle.cs_core.specs.declared.histories.Root.{Root}
use Rattle.cs_core.specs.Frontiers.{AreNoted}
use Rattle.cs_core.proofs.Moves.{AddsRoot, extent_there, frame_fits, last_root, moves_extents, moves_merged, moves_then}
use Rattle.cs_core.proofs.Noted.{noted_accepted, noted_pushed}
use Rattle.cs_reader.specs.ImageReads.{page_total}

-- PLACES
-- the places of some chunks are there
pub places_there : (b : Bool) (x : ExtentsState) (g : GraphState) (r : Reason) (S : Shape) (chunks : List (List ℕ)) (ls : List Locator) (y : ExtentsState) (h : GraphState) → S ≡ shape x → AreAppendedBy b x g r (chunk_frames S (formats_of S) chunks) ls y h
    → (p : Place) → p ∈ map place_of ls → Inside S p.extent p.page
places_there b x g r S [] [] y h same a p among = absurd among
places_there b x g r S (c ∷ cs) (l ∷ ls) y h same a p among = ⊎_elim
    (λ (here : p ≡ place_of l).
    let some : 1 ≤ length (spelled_frame (number_in S.format) 0 c) = omega (arith, length-spelled (number_in S.format) 0 c) in
    let there : l.extent < S.extents = subst (λ (T : Shape). l.extent < T.extents) (sym same) (extent_there b x g r (spelled_frame (number_in S.format) 0 c) l a.0 a.1 a.2) in
    let fits : l.page + length (spelled_frame (number_in S.format) 0 c) ≤ S.pages = subst (λ (T : Shape). l.page + length (spelled_frame (number_in S.format) 0 c) ≤ T.pages) (sym same) (frame_fits b x g r (spelled_frame (number_in S.format) 0 c) l a.0 a.1 a.2) in
    let below : l.page < S.pages = omega (arith, some, fits) in
    subst (λ (q : Place). Inside S q.extent q.page) (sym here) (there, below))
    (λ (behind : p ∈ map place_of ls). places_there b a.0 a.1 r S cs ls y h (same ∙ sym a.2.same_shape) a.3 p behind)
    among
places_there b x g r S [] (l ∷ ls) y h same a p among = absurd a
places_there b x g r S (c ∷ cs) [] y h same a p among = absurd a

-- locator k of a list is there
in_places : (ls : List Locator) (k : ℕ) (d : Locator) → k < length ls → place_of (slice_index_or ls k d) ∈ map place_of ls
in_places [] k d lt = absurd (omega (arith, lt))
in_places (l ∷ ls) zero d lt = inl refl
in_places (l ∷ ls) (suc k) d lt = inr (in_places ls k d (omega (arith, lt)))

-- the locators of an identifier are there
pub found_there : (S : Shape) (i : IndexState) (id : ℕ) (ls : List Locator) → AreInside S i → Some (map place_of ls) ≡ lookup id (index_of i) → (k : ℕ) (d : Locator) → k < length ls → ((slice_index_or ls k d).extent < S.extents) × ((slice_index_or ls k d).page < S.pages)
found_there S i id ls inside is k d lt = inside id (place_of (slice_index_or ls k d)) (subst (λ (o : Option (List Place)). place_of (slice_index_or ls k d) ∈ live o) is (in_places ls k d lt))

-- other room in the table changes nothing else
pub same_format : (i j : IndexState) → j ≡ record i { room = j.room } → j.format ≡ i.format
same_format i j e = ap (λ (u : IndexState). u.format) e

pub same_limit : (i j : IndexState) → j ≡ record i { room = j.room } → j.limit ≡ i.limit
same_limit i j e = ap (λ (u : IndexState). u.limit) e

pub same_live : (i j : IndexState) → j ≡ record i { room = j.room } → (id : ℕ) → live_at (index_of j) id ≡ live_at (index_of i) id
same_live i j e id = ap (λ (u : IndexState). live_at (index_of u) id) e

-- an identifier has other locators
pub inside_set : (S : Shape) (i : IndexState) (id : ℕ) (ls : List Place) (j : IndexState) → AreInside S i → IsSet i id ls j → ((l : Place) → l ∈ ls → Inside S l.extent l.page) → AreInside S j
inside_set S i id ls j old set new d l among = split (id == d) (set.index d)
  where
    split : (b : Bool) → lookup d (index_of j) ≡ (if b then Some ls else lookup d (index_of i)) → Inside S l.extent l.page
    split true e = new l (subst (λ (o : Option (List Place)). l ∈ live o) e among)
    split false e = old d l (subst (λ (o : Option (List Place)). l ∈ live o) e among)

-- what is live stays
pub inside_live : (S : Shape) (i j : IndexState) → AreInside S i → ((id : ℕ) → live_at (index_of j) id ≡ live_at (index_of i) id) → AreInside S j
inside_live S i j old same d l among = old d l (subst (λ (ls : List Place). l ∈ ls) (same d) among)

-- EXTENTS THAT ARE BEING SWEPT
-- a shape is by one rule
pub not_both : (b : Bool) → b ≡ false → b ≡ true → ⊥
not_both b before apart = let clash : false ≡ true = sym before ∙ apart in cc clash

-- by the rule by which chunks and runs may lie on one extent
pub only_before : (x : ExtentsState) → (shape x).apart ≡ false → ((e : ℕ) → (extents_of x).swept e ≡ true → IsSwept (shape x) (extents_of x) e) → AreSwept x
only_before x rule all e is = ((λ before. all e is), (λ apart. absurd (not_both (shape x).apart rule apart)))

-- and by the other
pub only_apart : (x : ExtentsState) → (shape x).apart ≡ true → ((e : ℕ) → (extents_of x).swept e ≡ true → IsSweptApart (shape x) (extents_of x) e) → AreSwept x
only_apart x rule all e is = ((λ before. absurd (not_both (shape x).apart before rule)), (λ apart. all e is))

pub swept_appended : (b : Bool) (x y : ExtentsState) (g h : GraphState) (r : Reason) (frame : List (List ℕ)) (l : Locator) → (shape x).apart ≡ b → IsAppendedBy b x g r frame l y h → AreSwept x → AreSwept y
swept_appended false x y g h r frame l rule a swept e is = (
  (λ before. append_swept x y g h r frame l e a ((swept e (sym (ap (λ (u : Extents). u.swept e) a.extents) ∙ is)).0 rule)),
  (λ apart. absurd (not_both (shape x).apart rule (sym (ap (λ (S : Shape). S.apart) a.same_shape) ∙ apart))),
)
swept_appended true x y g h r frame l rule a swept e is = (
  (λ before. absurd (not_both (shape x).apart (sym (ap (λ (S : Shape). S.apart) a.same_shape) ∙ before) rule)),
  (λ apart. append_stays_apart x y g h r frame l e a ((swept e (sym (ap (λ (u : Extents). u.swept e) a.extents) ∙ is)).1 rule)),
)

pub swept_all : (b : Bool) (x y : ExtentsState) (g h : GraphState) (r : Reason) (frames : List (List (List ℕ))) (ls : List Locator) → (shape x).apart ≡ b → AreAppendedBy b x g r frames ls y h → AreSwept x → AreSwept y
swept_all b x y g h r [] [] rule a swept = subst AreSwept (sym a.0) swept
swept_all b x y g h r (f ∷ fs) (l ∷ ls) rule a swept = swept_all b a.0 y a.1 h r fs ls (ap (λ (S : Shape). S.apart) a.2.same_shape ∙ rule) a.3 (swept_appended b x a.0 g a.1 r f l rule a.2 swept)
swept_all b x y g h r [] (l ∷ ls) rule a swept = absurd a
swept_all b x y g h r (f ∷ fs) [] rule a swept = absurd a

swept_part : (b go : Bool) (k : ℕ) (i : IndexState) (x : ExtentsState) (g : GraphState) (r : Reason) (runs : List Run) (y : ExtentsState) (h : GraphState) → (shape x).apart ≡ b → IsPartAppendedBy b go i k x g r runs y h → AreSwept x → AreSwept y
swept_part b go k i x g r runs y h rule (inl m) swept = swept_appended b x y g h r (run_frame x m.0) (as_locator m.1) rule m.4 swept
swept_part b go k i x g r runs y h rule (inr m) swept = subst AreSwept (sym m.1) swept

pub swept_merged : (i : IndexState) (x : ExtentsState) (g : GraphState) (r : Reason) (v commands : ℕ) (j : IndexState) (y : ExtentsState) (h : GraphState) → (shape x).apart ≡ false → IsMergeStaged i x g r v commands j y h → AreSwept x → AreSwept y
swept_merged i x g r v commands j y h rule staged swept = ⊎_elim
    (λ (m : (entries : List Entry) × (place : Place) × (entries ≡ [] → ⊥) × IsMergedRun (index_of i) entries × IsRunAppendedBy false x g r entries place y staged.between × (j.runs ≡ record { place = place; entries = entries } ∷ [])).
    swept_appended false x y g staged.between r (run_frame x m.0) (as_locator m.1) rule m.4 swept)
    (λ (m : ((id : ℕ) → live_at (index_of i) id ≡ []) × (y ≡ x) × (staged.between ≡ g) × (j.runs ≡ [])). subst AreSwept (sym m.1) swept)
    staged.appended

-- a Stage merged the newest runs
pub swept_newest : (i : IndexState) (x : ExtentsState) (g : GraphState) (v commands : ℕ) (j : IndexState) (y : ExtentsState) (h : GraphState)
    → (shape x).apart ≡ false → IsNewestStaged (stage_takes (shape x) i) i x g v commands j y h → AreSwept x → AreSwept y
swept_newest i x g v commands j y h rule staged swept =
    swept_part false (deletions_go (shape x) i (stage_takes (shape x) i)) (stage_takes (shape x) i) i x g ForRun j.runs y staged.between rule staged.appended swept

pub moves_retired : (i : IndexState) (x : ExtentsState) (g : GraphState) (e v commands : ℕ) (j : IndexState) (y : ExtentsState) (h : GraphState) → 1 < page_total (shape x) → IsRetired i x g e v commands j y h → shape y ≡ shape x → KeepsDevice x g y h
moves_retired i x g e v commands j y h some r same =
    let merged : KeepsDevice x g r.0 h = moves_merged i x g ForMove v commands j r.0 h some r.1 in
    moves_then x g r.0 h y h merged (moves_extents r.0 h y (same ∙ sym merged.same_shape))

-- an extent is retired
pub swept_retired : (i : IndexState) (x : ExtentsState) (g : GraphState) (e v commands : ℕ) (j : IndexState) (y : ExtentsState) (h : GraphState) → (shape x).apart ≡ false → 1 < page_total (shape x) → IsRetired i x g e v commands j y h → shape y ≡ shape x → AreSwept x → AreSwept y
swept_retired i x g e v commands j y h rule some r same swept = only_before y (ap (λ (S : Shape). S.apart) same ∙ rule) (λ d is.
    let mid : AreSwept r.0 = swept_merged i x g ForMove v commands j r.0 h rule r.1 swept in
    let shapes : shape r.0 ≡ shape x = (moves_merged i x g ForMove v commands j r.0 h some r.1).same_shape in
    ⊎_elim
    (λ (at : d ≡ e). let e1 : (extents_of y).swept e ≡ false = ap (λ (u : Extents). u.swept e) r.2 ∙ cond-true (e == e) false ((extents_of r.0).swept e) (eq-eqb e e refl) in
    let e2 : (extents_of y).swept e ≡ true = ap (extents_of y).swept (sym at) ∙ is in
    let e3 : false ≡ true = sym e1 ∙ e2 in absurd (cc e3))
    (λ (other : d ≡ e → ⊥).
    let here : (extents_of r.0).swept d ≡ true = sym (ap (λ (u : Extents). u.swept d) r.2 ∙ cond-false (d == e) false ((extents_of r.0).swept d) (ne_eqb d e other)) ∙ is in
    let before = (mid d here).0 (ap (λ (S : Shape). S.apart) shapes ∙ rule) in record {
      inside = subst (λ (S : Shape). d < S.extents) (shapes ∙ sym same) before.inside;
      marked = is;
      closed = λ open_there. before.closed (sym (ap (λ (u : Extents). u.open_extent) r.2) ∙ open_there);
      written = subst (λ (f : ℕ → ℕ). 0 < f d) (sym (ap (λ (u : Extents). u.pointer) r.2)) (subst (λ (k : ℕ). 0 < k) (sym (cond-false (d == e) 0 ((extents_of r.0).pointer d) (ne_eqb d e other))) before.written);
    })
    (cases_eq d e))

-- ROOTS THAT ARE NOTED
-- no root was staged, and no fewer commands were accepted
pub noted_on : (s : Stored) → IsKept s → (h : GraphState) → last_root h ≡ last_root s.graph → (roots : List Root) → roots ≡ s.roots → (accepted : ℕ) → s.accepted ≤ accepted
    → AreNoted (slice_index s.graph.staging.pending.persistent root_family) (last_root h) roots s.frontier accepted
noted_on s kept h latest roots same accepted more =
    subst (λ (l : ℕ). AreNoted (slice_index s.graph.staging.pending.persistent root_family) l roots s.frontier accepted) (sym latest)
    (subst (λ (rs : List Root). AreNoted (slice_index s.graph.staging.pending.persistent root_family) (last_root s.graph) rs s.frontier accepted) (sym same)
    (noted_accepted (slice_index s.graph.staging.pending.persistent root_family) (last_root s.graph) s.roots s.frontier s.accepted kept.noted accepted more))

-- a root was staged
pub noted_staged : (s : Stored) → IsKept s → AreKept s.graph.staging → (h : GraphState) (v : ℕ) → AddsRoot s.graph h v → (roots : List Root) → roots ≡ s.roots ++ record { version = v; commands = s.accepted } ∷ []
    → AreNoted (slice_index s.graph.staging.pending.persistent root_family) (last_root h) roots s.frontier s.accepted
noted_staged s kept graph h v adds roots same =
    subst (λ (l : ℕ). AreNoted (slice_index s.graph.staging.pending.persistent root_family) l roots s.frontier s.accepted) (sym adds.latest)
    (subst (λ (rs : List Root). AreNoted (slice_index s.graph.staging.pending.persistent root_family) v rs s.frontier s.accepted) (sym same)
    (noted_pushed (slice_index s.graph.staging.pending.persistent root_family) (last_root s.graph) s.roots s.frontier s.accepted kept.noted v (graph.persistent_staged root_family) (omega (arith, adds.next))))

-- extents of the same shape whose resets go with staged roots are as ready
pub ready_after : (x y : ExtentsState) (s : Staging) → shape y ≡ shape x → AreResetsStaged (extents_of y) s → IsReady x s → IsReady y s
ready_after x y s same resets ready = record { families = ready.families ∙ ap (λ (S : Shape). 1 + S.sections) (sym same); resets = resets }

-- then the root has a family
pub root_there : (x y : ExtentsState) (s : Staging) → IsWhole x → shape y ≡ shape x → IsReady y s → root_family < length s.latest
root_there x y s whole same ready =
    let sections : (shape y).sections ≡ (shape x).sections = ap (λ (S : Shape). S.sections) same in
    omega (arith, ready.families, sections, whole.geometry.fewest_sections)

-- a store keeps what every store keeps where these parts do
pub kept_on : (s w : Stored) → IsKept s → KeepsDevice s.extents s.graph w.extents w.graph → IsReady w.extents w.graph.staging
    → w.index.format ≡ s.index.format → w.index.limit ≡ s.index.limit → AreInside (shape s.extents) w.index
    → w.out ≡ s.out → w.issued ≡ s.issued → w.base + w.accepted < 2 ^ 63 → AreSwept w.extents → ((shape w.extents).apart ≡ true → IsKeptApart w.extents w.index w.copies)
    → AreNoted (slice_index s.graph.staging.pending.persistent root_family) (last_root w.graph) w.roots w.frontier w.accepted → IsKept w
kept_on s w kept moves ready format limit inside out issued numbers swept apart noted = record {
  ready = ready;
  writes = subst (λ (S : Shape). AreWithin (page_total S) w.graph) (sym moves.same_shape) (moves.within kept.writes);
  format = format ∙ kept.format ∙ ap (λ (S : Shape). S.format) (sym moves.same_shape);
  limit = limit ∙ kept.limit ∙ ap (λ (S : Shape). S.most_weight) (sym moves.same_shape);
  places = subst (λ (S : Shape). AreInside S w.index) (sym moves.same_shape) inside;
  round = out ∙ kept.round ∙ sym moves.round;
  some = subst (λ (o : Option (List Element)). w.issued ≤ length (members_of o)) (sym out) (let le = kept.some in omega (arith, issued));
  numbers = numbers;
  swept = swept;
  apart = apart;
  noted = subst (λ (vs : List ℕ). AreNoted (slice_index vs root_family) (last_root w.graph) w.roots w.frontier w.accepted) (sym moves.behind.persistent) noted;
}

-- an extent is marked, or no longer
pub swept_marked : (x y : ExtentsState) (e : ℕ) (b : Bool) → shape y ≡ shape x → extents_of y ≡ marked (extents_of x) e b → AreSwept x
    → (b ≡ true → ((shape y).apart ≡ false → IsSwept (shape y) (extents_of y) e) × ((shape y).apart ≡ true → IsSweptApart (shape y) (extents_of y) e)) → AreSwept y
swept_marked x y e b same extents swept here d is = ⊎_elim
    (λ (at : d ≡ e). subst (λ (k : ℕ). ((shape y).apart ≡ false → IsSwept (shape y) (extents_of y) k) × ((shape y).apart ≡ true → IsSweptApart (shape y) (extents_of y) k)) (sym at)
    (here (sym (cond-true (d == e) b ((extents_of x).swept d) (eq-eqb d e at)) ∙ sym (ap (λ (u : Extents). u.swept d) extents) ∙ is)))
    (λ (other : d ≡ e → ⊥).
    let was = swept d (sym (cond-false (d == e) b ((extents_of x).swept d) (ne_eqb d e other)) ∙ sym (ap (λ (u : Extents). u.swept d) extents) ∙ is) in (
      (λ rule. let before = was.0 (ap (λ (S : Shape). S.apart) (sym same) ∙ rule) in record {
        inside = subst (λ (S : Shape). d < S.extents) (sym same) before.inside;
        marked = is;
        closed = λ open_there. before.closed (sym (ap (λ (u : Extents). u.open_extent) extents) ∙ open_there);
        written = subst (λ (f : ℕ → ℕ). 0 < f d) (sym (ap (λ (u : Extents). u.pointer) extents)) before.written;
      }),
      (λ rule. let before = was.1 (ap (λ (S : Shape). S.apart) (sym same) ∙ rule) in record {
        inside = subst (λ (S : Shape). d < S.extents) (sym same) before.inside;
        marked = is;
        written = subst (λ (f : ℕ → ℕ). 0 < f d) (sym (ap (λ (u : Extents). u.pointer) extents)) before.written;
        of_chunks = ap (λ (u : Extents). u.of_runs d) extents ∙ before.of_chunks;
      }),
    ))
    (cases_eq d e)

-- a mark changes no reset
marked_resets : (x y : ExtentsState) (g : Staging) (e : ℕ) (b : Bool) → AreResetsStaged (extents_of x) g → extents_of y ≡ marked (extents_of x) e b → AreResetsStaged (extents_of y) g
marked_resets x y g e b old is = subst (λ (u : Extents). AreResetsStaged u g) (sym is) old

pub kept_marked : (s : Stored) → IsKept s → (y : ExtentsState) (e : ℕ) (b : Bool) → shape y ≡ shape s.extents → extents_of y ≡ marked (extents_of s.extents) e b
    → (b ≡ true → ((shape y).apart ≡ false) × IsSwept (shape y) (extents_of y) e) → IsKept (record s { extents = y })
kept_marked s kept y e b same extents here = kept_on s (record s { extents = y }) kept (moves_extents s.extents s.graph y same) (ready_after s.extents y s.graph.staging same (marked_resets s.extents y s.graph.staging e b kept.ready.resets extents) kept.ready)
    refl refl kept.places refl refl kept.numbers
    (swept_marked s.extents y e b same extents kept.swept (λ t. let swept = here t in ((λ before. swept.1), (λ apart. absurd (not_both (shape y).apart swept.0 apart)))))
    (kept_apart_marked s.extents y s.index s.copies e b same extents (λ t. (here t).0) kept.apart) kept.noted

-- a sweep was given up, or that was refused
pub kept_abandoned : {T : Type 0} (s : Stored) → IsKept s → (y : ExtentsState) (e : ℕ) → shape y ≡ shape s.extents → (result : Result T Code)
    → OnOk result (extents_of y ≡ marked (extents_of s.extents) e false) → OnErr result (y ≡ s.extents) → IsKept (record s { extents = y })
kept_abandoned s kept y e same (Ok t) ended unwritten = kept_marked s kept y e false same ended (λ on. absurd (cc on))
kept_abandoned s kept y e same (Err r) ended unwritten = subst (λ (x : ExtentsState). IsKept (record s { extents = x })) (sym unwritten) kept

-- a round began or ended
pub kept_round : (s : Stored) → IsKept s → (g : GraphState) → g.staging.latest ≡ s.graph.staging.latest → AddsNone s.graph g → (out : Option (List Element)) → out ≡ g.round → (issued : ℕ) → issued ≤ length (members_of out)
    → (roots : List Root) (frontier : ℕ) → AreNoted (slice_index g.staging.pending.persistent root_family) (last_root s.graph) roots frontier s.accepted
    → IsKept (record s { graph = g; roots = roots; out = out; issued = issued; frontier = frontier })
kept_round s kept g latest none out is issued few roots frontier noted = record {
  ready = record {
    families = ap length latest ∙ kept.ready.families;
    resets = subst (λ (vs : List ℕ). (e : ℕ) → (extents_of s.extents).reset e ≤ slice_index vs 1) (sym latest) kept.ready.resets;
  };
  writes = λ x w there. kept.writes x w (none x w there);
  format = kept.format;
  limit = kept.limit;
  places = kept.places;
  round = is;
  some = few;
  numbers = kept.numbers;
  swept = kept.swept;
  apart = kept.apart;
  noted = subst (λ (vs : List ℕ). AreNoted (slice_index g.staging.pending.persistent root_family) (slice_index vs root_family) roots frontier s.accepted) (sym latest) noted;
}
