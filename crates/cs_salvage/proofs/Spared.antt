-- A device of which damage spared what the runs that were read name.
use Rattle.std.proofs.Common.{◌≡◌, ◌≢◌, ◌∙◌, ℕ, ◌-◌, ◌<◌, ◌≤◌, List, Option, Some, None, drop, length, map, take, refl, sym, ap, subst, arith}
use Rattle.std.specs.Prelude.{reverse, slice_index}
use Rattle.std.specs.List.{AllByRecursion}
use Rattle.std.proofs.lemmas.List.{length-map, length-reverse}
use Rattle.cs_extent.specs.State.{State as ExtentsState, extents_at, section_rows, shape}
use Rattle.cs_frame.specs.declared.locators.Locator.{Locator}
use Rattle.cs_frame.specs.Formats.{as_locator, formats_of, place_of}
use Rattle.cs_frame.specs.Geometries.{device_pages}
use Rattle.cs_frame.specs.Roots.{SpellsRoot, identity_in}
use Rattle.cs_reader.proofs.Listed.{to_all}
use Rattle.cs_reader.proofs.Readable.{all_readable, same_places}
use Rattle.cs_reader.proofs.Runs.{StandsAt, all_stand, same_listed, same_runs}
use Rattle.cs_reader.proofs.Superblocks.{read_format, read_whole}
use Rattle.cs_reader.specs.ImageReads.{ArePages, AreSectionsRead, IsReadable, IsRunRead, SpellsAt}
use Rattle.cs_index.specs.declared.stored_runs.StoredRun.{StoredRun}
use Rattle.cs_index.specs.State.{State as IndexState, index_of, newest_first}
use Rattle.law_machine.specs.Element.{Locator as Place, Map, Run}
use Rattle.law_machine.specs.Format.{Format}
use Rattle.law_machine.specs.Formats.{ChunkFrame, RunFrame, places}
use Rattle.law_machine.specs.Index.{entries_of, live, lookup}
use Rattle.law_machine.specs.Lists.{◌∈◌}
use Rattle.law_machine.specs.Recovery.{Recovers}
use Rattle.cs_salvage.specs.Answers.{HasContent}
use Rattle.cs_salvage.specs.Founds.{Found}
use Rattle.cs_salvage.specs.Rescued.{IsRescued}
use Rattle.cs_salvage.specs.Runs.{IsRunRescued}
use Rattle.cs_salvage.specs.Spared.{IsSpared, LiesStill}
use Rattle.cs_salvage.proofs.Fronts.{front_listed, has_place, in_front, length-places, named_in_front}
use Rattle.cs_salvage.proofs.Mapped.{named}
use Rattle.cs_salvage.proofs.Newest.{of_all}
use Rattle.cs_salvage.proofs.Noise.{all_read_still, has_stored}

-- sections whose pages are as they were read so before
sections_before : (view whole : ℕ → List ℕ) (format : Format) (versions records : List ℕ) (pages : ℕ) (written : List (ℕ × ℕ)) → AreSectionsRead view format versions records pages written
    → ((j : ℕ) → j < length versions → view ((shape (extents_at format pages (length versions) written)).section_page j) ≡ whole ((shape (extents_at format pages (length versions) written)).section_page j))
    → AreSectionsRead whole format versions records pages written
sections_before view whole format versions records pages written read same = record {
  geometry = read.geometry;
  each = λ j lt. subst (λ (b : List ℕ). SpellsAt j b format (slice_index versions j) (slice_index records j) (length written) pages (length versions) (section_rows (extents_at format pages (length versions) written) j)) (same j lt) (read.each j lt);
}

module _ (whole view : ℕ → List ℕ) (format : Format) (versions records : List ℕ) (pages : ℕ) (written : List (ℕ × ℕ)) (superblock : AreSectionsRead whole format versions records pages written)
    (are : ArePages (device_pages format (length written) pages (length versions)) whole) (n : ℕ) (m : Map)
    (r : Recovers (shape (extents_at format pages (length versions) written)) (formats_of (shape (extents_at format pages (length versions) written))) whole n m)
    (version commands left : ℕ) (listed : List Locator) (root_page : SpellsRoot (whole 1) (identity_in format) version commands listed) (some : left ≤ length listed)
    (runs : List StoredRun) (newest : map (λ run. run.place) runs ≡ drop left listed) (read : AllByRecursion (IsRunRead (extents_at format pages (length versions) written) view) runs)
    (still : (l : Place) → l ∈ places (newest_first runs) → LiesStill (extents_at format pages (length versions) written) whole view RunFrame l) where
  abbrev x : ExtentsState
  x = extents_at format pages (length versions) written

  all_places : map as_locator (reverse (places r.runs)) ≡ listed
  all_places = same_places whole format versions records pages written superblock are n m r version commands listed root_page

  as_many : length listed ≡ length r.runs
  as_many = ap length (sym all_places) ∙ length-map (reverse (places r.runs)) as_locator ∙ length-reverse (places r.runs) ∙ length-places r.runs

  -- the newest of the runs that were there
  abbrev front : List Run
  front = take (length r.runs - left) r.runs

  front_places : places (newest_first runs) ≡ places front
  front_places = same_listed front runs (front_listed r.runs left (omega (arith, some, as_many)) ∙ ap (drop left) all_places ∙ sym newest)

  front_stands : (run : Run) → run ∈ front → StandsAt (shape x) view run
  front_stands run has =
      let there : run ∈ r.runs = in_front (length r.runs - left) r.runs run has in
      record {
        fits = r.runs_fit run there;
        inside = (r.gives.runs_read run there).inside;
        stand = still run.place (subst (λ (ls : List Place). run.place ∈ ls) (sym front_places) (has_place front run has)) ((formats_of (shape x)).run run.entries) (r.gives.runs_read run there).stand;
      }

  -- are those that were read
  runs_are : newest_first runs ≡ front
  runs_are = same_runs (shape x) view (read_format whole format versions records pages written superblock) (newest_first runs) front front_places
      (all_stand x superblock.geometry.fits_format (read_whole whole format versions records pages written superblock).found_pages view runs read)
      (to_all (StandsAt (shape x) view) front front_stands)

  -- so what they name is right
  pub named_all : (id : ℕ) (ls : List Place) → lookup id (entries_of (newest_first runs)) ≡ Some ls → lookup id (entries_of r.runs) ≡ Some ls
  named_all id ls has = named_in_front (length r.runs - left) r.runs id ls (ap (λ (rs : List Run). lookup id (entries_of rs)) (sym runs_are) ∙ has)

pub spared_found : (honest : Type 0) (count : ℕ) (view whole : ℕ → List ℕ) (f : Found) (n : ℕ) (m : Map) (id : ℕ) → honest → ArePages count whole → IsRescued honest count view f
    → Recovers (shape f.extents) (formats_of (shape f.extents)) whole n m → IsSpared f whole view id → lookup id (index_of f.index) ≢ None → HasContent f view id (m id)
spared_found honest count view whole f n m id h are (format, versions, records, pages, written, is) r spared some =
    go (lookup id (index_of f.index)) refl
  where
    there : AreSectionsRead whole format versions records pages written
    there = sections_before view whole format versions records pages written (is.sections h)
        (subst (λ (y : ExtentsState). (j : ℕ) → j < (shape y).sections → view ((shape y).section_page j) ≡ whole ((shape y).section_page j)) is.extents spared.superblock)

    here : ArePages (device_pages format (length written) pages (length versions)) whole
    here = subst (λ (k : ℕ). ArePages k whole) is.sized are

    recovered : Recovers (shape (extents_at format pages (length versions) written)) (formats_of (shape (extents_at format pages (length versions) written))) whole n m
    recovered = subst (λ (y : ExtentsState). Recovers (shape y) (formats_of (shape y)) whole n m) is.extents r

    index_is : index_of f.index ≡ entries_of (newest_first is.runs.runs)
    index_is = ap (λ (i : IndexState). index_of i) is.runs.index

    root_there : SpellsRoot (whole 1) (identity_in format) f.root f.commands f.places
    root_there = subst (λ (b : List ℕ). SpellsRoot b (identity_in format) f.root f.commands f.places) spared.root (is.root h)

    lies : (l : Place) → l ∈ places (newest_first is.runs.runs) → LiesStill (extents_at format pages (length versions) written) whole view RunFrame l
    lies l has = subst (λ (y : ExtentsState). LiesStill y whole view RunFrame l) is.extents
        (spared.runs l (subst (λ (rs : List Run). l ∈ places rs) (sym (ap (λ (i : IndexState). i.runs) is.runs.index)) has))

    read : AllByRecursion (IsRunRead (extents_at format pages (length versions) written) view) is.runs.runs
    read = all_read_still (extents_at format pages (length versions) written) (read_whole whole format versions records pages written there) whole view is.runs.runs (drop is.runs.newest.left f.places) is.runs.newest.listed
        (of_all (λ (place : Locator). IsReadable (extents_at format pages (length versions) written) whole place) is.runs.newest.left f.places
        (all_readable whole format versions records pages written there here n m recovered f.root f.commands f.places root_there))
        (λ run has. lies (place_of run.place) (has_stored is.runs.runs run has))
        (subst (λ (y : ExtentsState). AllByRecursion (IsRunRescued y view) is.runs.runs) is.extents (is.runs.newest.each h))

    all_named : (ls : List Place) → lookup id (index_of f.index) ≡ Some ls → lookup id (entries_of recovered.runs) ≡ Some ls
    all_named ls has = named_all whole view format versions records pages written there here n m recovered f.root f.commands is.runs.newest.left f.places
        root_there is.runs.newest.no_more is.runs.runs is.runs.newest.listed
        read
        lies
        id ls (ap (lookup id) (sym index_is) ∙ has)

    go : (o : Option (List Place)) → lookup id (index_of f.index) ≡ o → HasContent f view id (m id)
    go None none = absurd (some none)
    go (Some ls) has = named whole format versions records pages written there here n m recovered view f is.extents id ls has (all_named ls has)
        (λ l one. subst (λ (y : ExtentsState). LiesStill y whole view ChunkFrame l) is.extents (spared.chunks l (subst (λ (o : Option (List Place)). l ∈ live o) (sym has) one)))
