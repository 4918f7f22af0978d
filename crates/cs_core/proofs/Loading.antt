-- The store that is made of what was read.
use Rattle.std.proofs.Common.{◌≡◌, ◌≢◌, ◌∙◌, ℕ, ◌<◌, ◌≤◌, ◌^◌, true, false, List, [], ◌∷◌, Some, None, length, replicate, true≢false, refl, sym, ap, subst, arith}
use Rattle.std.specs.Prelude.{slice_index}
use Rattle.cs_deps.specs.State.{State as GraphState}
use Rattle.cs_extent.specs.Frames.{root_family}
use Rattle.cs_extent.specs.State.{IsWhole, State as ExtentsState, extents_at, extents_of, shape}
use Rattle.cs_frame.specs.Formats.{as_locator}
use Rattle.cs_reader.proofs.ByFamily.{length-by_family, root_in}
use Rattle.cs_reader.proofs.Listed.{all_default}
use Rattle.cs_reader.proofs.OneByOne.{place_inside}
use Rattle.cs_reader.specs.Counts.{HasCount}
use Rattle.cs_reader.specs.Loads.{by_family, graph_at, index_at}
use Rattle.cs_index.proofs.Whole.{length-newest}
use Rattle.cs_index.specs.declared.stored_runs.StoredRun.{StoredRun}
use Rattle.cs_index.specs.State.{State as IndexState, index_of, newest_first}
use Rattle.law_machine.specs.Device.{Inside, Shape}
use Rattle.law_machine.specs.Element.{Copy}
use Rattle.law_machine.specs.Format.{Format, Four, Two}
use Rattle.law_machine.specs.Geometry.{apart_in, most_runs_in, most_weight_in}
use Rattle.law_machine.specs.Index.{entries_of, live_at}
use Rattle.cs_core.specs.declared.histories.Root.{Root as Noted}
use Rattle.cs_core.specs.Openings.{AreExtentsOpened}
use Rattle.cs_reader.specs.Openings.{AreLocatedBy}
use Rattle.cs_core.specs.Openings.{IsLoaded, opened_stored}
use Rattle.cs_core.specs.Stored.{AreInside, IsKept, Stored}
use Rattle.cs_core.proofs.Noted.{noted_alone}
use Rattle.cs_reader.proofs.Located.{visible_by}
use Rattle.cs_core.proofs.Readying.{none_swept, resets_opened}

-- a store that is made of its parts
pub opened_is : (versions : List ℕ) (root commands : ℕ) (format : Format) (limit : ℕ) (runs : List StoredRun) (g : GraphState) (x : ExtentsState) (i : IndexState) (copies : List Copy) (roots : List Noted)
    → g ≡ graph_at versions root → format ≡ x.format → limit ≡ most_weight_in x.format x.pages → i ≡ index_at (newest_first runs) format limit → copies ≡ [] → roots ≡ record { version = root; commands = 0 } ∷ []
    → record { graph = g; extents = x; index = i; copies = copies; roots = roots; out = g.round; issued = 0; base = commands; accepted = 0; frontier = 0; halted = false } ≡ opened_stored x versions root commands runs
opened_is versions root commands format limit runs g x i copies roots graph of_format most index none noted =
    let made : Stored = opened_stored x versions root commands runs in
    ap (λ (k : GraphState). record { graph = k; extents = x; index = i; copies = copies; roots = roots; out = k.round; issued = 0; base = commands; accepted = 0; frontier = 0; halted = false }) graph
    ∙ ap (λ (k : IndexState). record made { index = k; copies = copies; roots = roots }) (index ∙ ap (λ (n : ℕ). index_at (newest_first runs) format n) most ∙ ap (λ (f : Format). index_at (newest_first runs) f (most_weight_in x.format x.pages)) of_format)
    ∙ ap (λ (cs : List Copy). record made { copies = cs; roots = roots }) none
    ∙ ap (λ (rs : List Noted). record made { roots = rs }) noted

-- of extents that are opened
module _ (root commands : ℕ) (format : Format) (limit : ℕ) (runs : List StoredRun) (g : GraphState) (x y : ExtentsState) (i : IndexState) (copies : List Copy) (roots : List Noted)
    (of_format : format ≡ x.format) (most : limit ≡ most_weight_in x.format x.pages) (index : i ≡ index_at (newest_first runs) format limit) (none : copies ≡ []) (noted : roots ≡ record { version = root; commands = 0 } ∷ []) (opened : AreExtentsOpened x i root y) where
  pub are_opened : AreExtentsOpened x (index_at (newest_first runs) x.format (most_weight_in x.format x.pages)) root y
  are_opened = subst (λ (j : IndexState). AreExtentsOpened x j root y)
      (index ∙ ap (λ (n : ℕ). index_at (newest_first runs) format n) most ∙ ap (λ (f : Format). index_at (newest_first runs) f (most_weight_in x.format x.pages)) of_format) opened

  pub loaded_as : (versions : List ℕ) → g ≡ graph_at versions root
      → record { graph = g; extents = y; index = i; copies = copies; roots = roots; out = g.round; issued = 0; base = commands; accepted = 0; frontier = 0; halted = false } ≡ opened_stored y versions root commands runs
  loaded_as versions graph = opened_is versions root commands format limit runs g y i copies roots graph (of_format ∙ ap (λ (S : Shape). S.format) (sym opened.same_shape))
      (most ∙ ap (λ (S : Shape). S.most_weight) (sym opened.same_shape)) index none noted

  pub is_loaded : IsLoaded x g root commands runs (record { graph = g; extents = y; index = i; copies = copies; roots = roots; out = g.round; issued = 0; base = commands; accepted = 0; frontier = 0; halted = false })
  is_loaded = record { extents = y; opened = are_opened; made = λ versions many graph. loaded_as versions graph }

-- how many are live in its index
pub live_in : (i : IndexState) (runs : List StoredRun) (format : Format) (limit count : ℕ) → i ≡ index_at (newest_first runs) format limit → HasCount (λ id. live_at (index_of i) id ≢ []) count → HasCount (λ id. live_at (entries_of (newest_first runs)) id ≢ []) count
live_in i runs format limit count is has = subst (λ (k : IndexState). HasCount (λ id. live_at (index_of k) id ≢ []) count) is has

-- how many runs a root may have where chunks and runs lie apart
runs_apart : (format : Format) → apart_in format ≡ true → most_runs_in format ≡ 24
runs_apart Two rule = absurd (true≢false (sym rule))
runs_apart (Four store device) rule = refl

-- a store that was opened keeps what every store keeps
module _ (format : Format) (versions : List ℕ) (pages : ℕ) (written : List (ℕ × ℕ)) (root commands : ℕ) (runs : List StoredRun) (y : ExtentsState) (whole : IsWhole (extents_at format pages (length versions) written))
    (opened : AreExtentsOpened (extents_at format pages (length versions) written) (index_at (newest_first runs) format (most_weight_in format pages)) root y) where
  abbrev x : ExtentsState
  x = extents_at format pages (length versions) written

  unmarked : (e : ℕ) → (extents_of y).swept e ≡ false
  unmarked = none_swept x y (index_at (newest_first runs) format (most_weight_in format pages)) root opened (λ e. all_default (length written) e false)

  inside : AreLocatedBy x runs → AreInside (shape y) (index_at (newest_first runs) y.format (most_weight_in y.format y.pages))
  inside located id l among = subst (λ (S : Shape). Inside S l.extent l.page) (sym opened.same_shape) (place_inside x (as_locator l) whole (visible_by x runs located id l among))

  few_runs : length runs ≤ 24 → (shape y).apart ≡ true → length (newest_first runs) ≤ (shape y).most_runs
  few_runs few rule = let most : (shape y).most_runs ≡ 24 = runs_apart y.format rule in omega (arith, few, most, length-newest runs)

  pub kept_opened : commands < 2 ^ 63 → length runs ≤ 24 → AreLocatedBy x runs → IsKept (opened_stored y versions root commands runs)
  kept_opened low few located = record {
    ready = record {
      families = (let sections : y.sections ≡ length versions = ap (λ (S : Shape). S.sections) opened.same_shape in omega (arith, length-by_family versions root, sections));
      resets = λ e. subst (λ (v : ℕ). (extents_of y).reset e ≤ v) (sym (root_in versions root whole.geometry.fewest_sections))
          (resets_opened x y (index_at (newest_first runs) format (most_weight_in format pages)) root opened (λ d. let none : slice_index (replicate (length written) 0) d ≡ 0 = all_default (length written) d 0 in omega (arith, none)) e);
    };
    writes = λ z w kept. let clash : None ≡ Some w = kept in absurd (cc clash);
    format = refl;
    limit = refl;
    places = inside located;
    round = refl;
    some = omega arith;
    numbers = omega (arith, low);
    swept = λ e is. absurd (true≢false (sym is ∙ unmarked e));
    apart = λ rule. record {
      runs = few_runs few rule;
      one = λ d e is at. absurd (true≢false (sym is ∙ unmarked d));
      order = tt;
      up_to = λ e is. absurd (true≢false (sym is ∙ unmarked e));
      placed = λ c among. absurd among;
      marks = λ c among. absurd among;
    };
    noted = noted_alone root (slice_index (by_family versions root) root_family) (root_in versions root whole.geometry.fewest_sections);
  }
