use Rattle.std.proofs.Common.{◌<◌, List, arith, length, map, refl, slice_index_or, subst, sym}
use Rattle.cs_frame.specs.Formats.{place_of}
use Rattle.law_machine.specs.Element.{Entry}
use Rattle.law_machine.specs.Index.{FirstLive, NothingLive}
use Rattle.cs_index.specs.State.{id_number}
use Rattle.cs_index.proofs.Merged.{IsSmall}
use Rattle.cs_index.proofs.Numbers.{small_number}
use Rattle.cs_index.proofs.Living.{first_inside, first_there, is_id, none_up, nothing_more, small_passed}
use Rattle.cs_index.proofs.live.search.Goals as goal

pub loop-id-init : goal.loop-id-init
loop-id-init c = record {
  index = refl;
  after = c.requires.passed;
  none = c.requires.none;
  small = subst IsSmall (sym c.requires.passed) (small_passed c.args.passed c.is_id.ensures);
}

pub bounds-places-chunk : goal.bounds-places-chunk
bounds-places-chunk c = first_inside c.in-Some.places.now c.args.extent c.in-Some-first_on.chunk c.in-Some-first_on.ensures

pub offset_bounds-places-chunk : goal.offset_bounds-places-chunk
offset_bounds-places-chunk c =
    let lt : c.in-Some-first_on.chunk < length c.in-Some.places.now = first_inside c.in-Some.places.now c.args.extent c.in-Some-first_on.chunk c.in-Some-first_on.ensures in
    omega (arith, lt, c.in-Some.ensures.short)

pub returns-in-Some-first_on-clause-found : goal.returns-in-Some-first_on-clause-found
returns-in-Some-first_on-clause-found c =
    subst (λ (es : List Entry). FirstLive es c.args.extent (id_number c.in-Some.id) c.in-Some-first_on.chunk (place_of (slice_index_or c.in-Some.places.now c.in-Some-first_on.chunk (record { extent = 0; page = 0; generation = 0; mark = 0 })))) c.loop-id.invariant.index
    (first_there c.loop-id.read.index c.loop-id.read.after c.args.extent c.loop-id.invariant.none (id_number c.in-Some.id) c.in-Some.places.now c.in-Some.ensures.next c.in-Some-first_on.chunk (record { extent = 0; page = 0; generation = 0; mark = 0 }) c.in-Some-first_on.ensures)

pub loop-id-preserved : goal.loop-id-preserved
loop-id-preserved c = rw (c.in-Some.ensures.read) (record {
  index = c.loop-id.invariant.index;
  after = refl;
  none = none_up c.loop-id.read.index c.loop-id.read.after c.args.extent c.loop-id.invariant.none (id_number c.in-Some.id) (map place_of c.in-Some.places.now)
      c.in-Some.ensures.next c.in_default-first_on.ensures;
  small = small_number c.in-Some.id (is_id c.in-Some.id c.bytes-bytes.result c.bytes-bytes.ensures.value c.bytes-bytes.ensures.size c.bytes-bytes.ensures.bytes);
})

pub returns-clause-found : goal.returns-clause-found
returns-clause-found c =
    subst (λ (es : List Entry). NothingLive es c.args.extent) c.loop-id.invariant.index
    (nothing_more c.loop-id.read.index c.loop-id.read.after c.args.extent c.loop-id.invariant.none c.in_default.ensures.next)
