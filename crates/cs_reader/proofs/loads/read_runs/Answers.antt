use Rattle.std.proofs.Common.{◌≡◌, ◌∙◌, ◌⊎◌, ◌+◌, ◌++◌, ◌∷◌, ℕ, List, [], Some, arith, get_or, map, subst, sym, take}
use Rattle.std.specs.Prelude.{slice_get}
use Rattle.std.specs.List.{AllByRecursion}
use Rattle.std.proofs.lemmas.List.{take_all}
use Rattle.std.proofs.lemmas.Option.{slice_get-get_or}
use Rattle.cs_chunk.specs.Reads.{IsNoAnswer}
use Rattle.cs_disk.proofs.OnlyRead.{reads_on}
use Rattle.cs_disk.specs.Disk.{State, page, seen}
use Rattle.cs_extent.specs.State.{shape}
use Rattle.cs_frame.specs.declared.locators.Locator.{Locator}
use Rattle.cs_frame.specs.Runs.{IsRun}
use Rattle.cs_reader.proofs.OneByOne.{next_read}
use Rattle.cs_reader.specs.ImageReads.{AreRunsRead, IsLocated, IsRunRead}
use Rattle.cs_index.proofs.Sorted.{all_append}
use Rattle.cs_index.specs.declared.stored_runs.StoredRun.{StoredRun}
use Rattle.cs_reader.proofs.Loading.{listed_more, no_runs}
use Rattle.cs_reader.specs.Openings.{IsWhyNotRead}
use Rattle.cs_reader.proofs.loads.read_runs.Goals as goal

-- the place with this number
abbrev at_place : List Locator → ℕ → Locator
at_place ls k = get_or ls k (record { extent = 0; page = 0; generation = 0; mark = 0 })

pub loop-k-preserved : goal.loop-k-preserved
loop-k-preserved g c =
    let items : c.push_reserved.new.self.items ≡ c.loop-k.runs.items ++ c.in-Ok.run' ∷ [] = c.push_reserved.ensures.items in
    let at : slice_get c.args.places.now c.loop-k.k ≡ Some (at_place c.args.places.now c.loop-k.k) = slice_get-get_or c.args.places.now c.loop-k.k (record { extent = 0; page = 0; generation = 0; mark = 0 }) c.loop-k-test.true in
    record {
      disk = reads_on g.D.PageDisk c.args.disk.now c.loop-k.disk c.read_run.new.disk c.loop-k.invariant.disk c.read_run.ensures.disk;
      size = omega (arith, c.push_reserved.ensures.len, c.loop-k.invariant.size, c.push_reserved.new.self.ok.0, c.loop-k.runs.ok.0);
      listed = subst (λ (rs : List StoredRun). map (λ run. run.place) rs ≡ take (c.loop-k.k + 1) c.args.places.now) (sym items)
          (listed_more c.args.places.now c.loop-k.runs.items c.in-Ok.run' c.loop-k.k c.loop-k.invariant.listed
          (subst (λ (l : Locator). slice_get c.args.places.now c.loop-k.k ≡ Some l) (sym c.in-Ok.ensures.place) at));
      room = omega (arith, c.loop-k.invariant.room, c.push_reserved.ensures.capacity);
      places = subst (λ (rs : List StoredRun). AllByRecursion (λ run. IsLocated c.args.extents.now run.place) rs) (sym items)
          (all_append (λ run. IsLocated c.args.extents.now run.place) c.loop-k.runs.items (c.in-Ok.run' ∷ []) c.loop-k.invariant.places (c.in-Ok.ensures.located, tt));
      runs = subst (λ (rs : List StoredRun). AllByRecursion (λ run. IsRun (shape c.args.extents.now).format (record { entries = run.entries })) rs) (sym items)
          (all_append (λ run. IsRun (shape c.args.extents.now).format (record { entries = run.entries })) c.loop-k.runs.items (c.in-Ok.run' ∷ []) c.loop-k.invariant.runs (c.in-Ok.ensures.run, tt));
      read = λ h.
          let view = page (seen (g.D.PageDisk.state c.args.disk.now)) in
          let here = subst (λ (s : State). IsRunRead c.args.extents.now (page (seen s)) c.in-Ok.run') (c.loop-k.invariant.disk.same h) (c.in-Ok.ensures.read (c.loop-k.invariant.disk.honesty.0 h)) in
          subst (AreRunsRead c.args.extents.now view c.args.places.now) (sym items)
          (next_read c.args.extents.now view c.args.places.now c.loop-k.runs.items c.in-Ok.run' (c.loop-k.invariant.read h)
          (subst (λ (n : ℕ). slice_get c.args.places.now n ≡ Some c.in-Ok.run'.place) (sym c.loop-k.invariant.size)
          (subst (λ (l : Locator). slice_get c.args.places.now c.loop-k.k ≡ Some l) (sym c.in-Ok.ensures.place) at)) here);
    }

pub returns-in-Err-clause-disk : goal.returns-in-Err-clause-disk
returns-in-Err-clause-disk g c = reads_on g.D.PageDisk c.args.disk.now c.loop-k.disk c.read_run.new.disk c.loop-k.invariant.disk c.read_run.ensures.disk

pub returns-in-Err-clause-why : goal.returns-in-Err-clause-why
returns-in-Err-clause-why g c = λ h.
    let view = page (seen (g.D.PageDisk.state c.args.disk.now)) in
    let place = at_place c.args.places.now c.loop-k.k in
    no_runs c.args.extents.now view c.args.places.now c.loop-k.runs.items c.loop-k.k place c.in-Err.refusal (c.loop-k.invariant.read h) c.loop-k.invariant.size
    (slice_get-get_or c.args.places.now c.loop-k.k (record { extent = 0; page = 0; generation = 0; mark = 0 }) c.loop-k-test.true)
    (subst (λ (s : State). IsNoAnswer c.in-Err.refusal ⊎ IsWhyNotRead c.args.extents.now (page (seen s)) place c.in-Err.refusal) (c.loop-k.invariant.disk.same h) (c.in-Err.ensures.why (c.loop-k.invariant.disk.honesty.0 h)))

pub returns-in-Err-clause-number : goal.returns-in-Err-clause-number
returns-in-Err-clause-number g c = c.in-Err.ensures.number

pub returns-clause-listed : goal.returns-clause-listed
returns-clause-listed g c = c.loop-k.invariant.listed ∙ take_all c.loop-k.k c.args.places.now c.loop-k-test.false
