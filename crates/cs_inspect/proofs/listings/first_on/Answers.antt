use Rattle.std.proofs.Common.{◌<◌, List, arith, length, map, refl, slice_index_or, subst}
use Rattle.cs_frame.specs.Formats.{place_of}
use Rattle.cs_index.specs.State.{id_number, index_of}
use Rattle.cs_index.proofs.Numbers.{small_number}
use Rattle.cs_index.proofs.Living.{first_inside, first_there, is_id, none_at_first, none_up, nothing_more}
use Rattle.law_machine.specs.Element.{Entry}
use Rattle.law_machine.specs.Index.{FirstLive, NothingLive}
use Rattle.cs_inspect.proofs.listings.first_on.Goals as goal

pub loop-id-init : goal.loop-id-init
loop-id-init c = rw (c.entries-read.ensures) (record { index = refl; none = none_at_first (index_of c.args.index.now) c.args.extent; small = tt })

pub bounds-places-chunk : goal.bounds-places-chunk
bounds-places-chunk c = first_inside c.in-Some.places.now c.args.extent c.in-Some-place_on.chunk c.in-Some-place_on.ensures

pub offset_bounds-places-chunk : goal.offset_bounds-places-chunk
offset_bounds-places-chunk c =
    let lt : c.in-Some-place_on.chunk < length c.in-Some.places.now = first_inside c.in-Some.places.now c.args.extent c.in-Some-place_on.chunk c.in-Some-place_on.ensures in
    omega (arith, lt, c.in-Some.ensures.short)

pub returns-in-Some-place_on : goal.returns-in-Some-place_on
returns-in-Some-place_on c =
    subst (λ (es : List Entry). FirstLive es c.args.extent (id_number c.in-Some.id) c.in-Some-place_on.chunk (place_of (slice_index_or c.in-Some.places.now c.in-Some-place_on.chunk (record { extent = 0; page = 0; generation = 0; mark = 0 })))) c.loop-id.invariant.index
    (first_there c.loop-id.read.index c.loop-id.read.after c.args.extent c.loop-id.invariant.none (id_number c.in-Some.id) c.in-Some.places.now c.in-Some.ensures.next c.in-Some-place_on.chunk (record { extent = 0; page = 0; generation = 0; mark = 0 }) c.in-Some-place_on.ensures)

pub loop-id-preserved : goal.loop-id-preserved
loop-id-preserved c = rw (c.in-Some.ensures.read) (record {
  index = c.loop-id.invariant.index;
  none = none_up c.loop-id.read.index c.loop-id.read.after c.args.extent c.loop-id.invariant.none (id_number c.in-Some.id) (map place_of c.in-Some.places.now)
      c.in-Some.ensures.next c.in_default-place_on.ensures;
  small = small_number c.in-Some.id (is_id c.in-Some.id c.bytes-bytes.result c.bytes-bytes.ensures.value c.bytes-bytes.ensures.size c.bytes-bytes.ensures.bytes);
})

pub returns : goal.returns
returns c =
    subst (λ (es : List Entry). NothingLive es c.args.extent) c.loop-id.invariant.index
    (nothing_more c.loop-id.read.index c.loop-id.read.after c.args.extent c.loop-id.invariant.none c.in_default.ensures.next)
