use Rattle.std.proofs.Common.{◌<◌, List, None, Some, Option, ℕ, arith, length, map, refl, subst, sym}
use Rattle.std.specs.Prelude.{option_map}
use Rattle.cs_frame.specs.Formats.{place_of}
use Rattle.law_machine.specs.Element.{Entry}
use Rattle.cs_index.specs.State.{IsAfter, IsNext, id_number}
use Rattle.cs_index.proofs.Merged.{IsSmall}
use Rattle.cs_index.proofs.Numbers.{small_number}
use Rattle.cs_index.proofs.Living.{first_inside, is_id, small_passed}
use Rattle.cs_index.proofs.Next.{NoneWithin, after_still, first_after_there, none_within_first, none_within_up, nothing_after}
use Rattle.cs_index.proofs.live.search_behind.Goals as goal

pub loop-id-init : goal.loop-id-init
loop-id-init c = record {
  index = refl;
  none = subst (λ (a : Option ℕ). NoneWithin c.args.entries.index (option_map id_number c.args.after) a c.args.extent) (sym c.requires) (none_within_first c.args.entries.index (option_map id_number c.args.after) c.args.extent);
  later = subst (λ (a : Option ℕ). (d : ℕ) → IsAfter a d → IsAfter (option_map id_number c.args.after) d) (sym c.requires) (λ d after. after);
  small = subst IsSmall (sym c.requires) (small_passed c.args.after c.is_id.ensures);
}

pub bounds-places-chunk : goal.bounds-places-chunk
bounds-places-chunk c = first_inside c.in-Some.places.now c.args.extent c.in-Some-first_on.chunk c.in-Some-first_on.ensures

pub offset_bounds-places-chunk : goal.offset_bounds-places-chunk
offset_bounds-places-chunk c =
    let lt : c.in-Some-first_on.chunk < length c.in-Some.places.now = first_inside c.in-Some.places.now c.args.extent c.in-Some-first_on.chunk c.in-Some-first_on.ensures in
    omega (arith, lt, c.in-Some.ensures.short)

pub returns-in-Some-first_on : goal.returns-in-Some-first_on
returns-in-Some-first_on c =
    first_after_there c.args.entries.index (option_map id_number c.args.after) c.loop-id.read.after c.args.extent c.loop-id.invariant.none c.loop-id.invariant.later (id_number c.in-Some.id) c.in-Some.places.now
    (subst (λ (es : List Entry). IsNext es c.loop-id.read.after (Some (record { id = id_number c.in-Some.id; locators = map place_of c.in-Some.places.now }))) c.loop-id.invariant.index c.in-Some.ensures.next)
    c.in-Some-first_on.chunk (record { extent = 0; page = 0; generation = 0; mark = 0 }) (first_inside c.in-Some.places.now c.args.extent c.in-Some-first_on.chunk c.in-Some-first_on.ensures) c.in-Some-first_on.ensures

pub loop-id-preserved : goal.loop-id-preserved
loop-id-preserved c =
    let next = subst (λ (es : List Entry). IsNext es c.loop-id.read.after (Some (record { id = id_number c.in-Some.id; locators = map place_of c.in-Some.places.now }))) c.loop-id.invariant.index c.in-Some.ensures.next in
    rw (c.in-Some.ensures.read) (record {
      index = c.loop-id.invariant.index;
      none = none_within_up c.args.entries.index (option_map id_number c.args.after) c.loop-id.read.after c.args.extent c.loop-id.invariant.none (id_number c.in-Some.id) (map place_of c.in-Some.places.now) next c.in_default-first_on.ensures;
      later = after_still c.args.entries.index (option_map id_number c.args.after) c.loop-id.read.after c.args.extent c.loop-id.invariant.none (id_number c.in-Some.id) (map place_of c.in-Some.places.now) next c.loop-id.invariant.later;
      small = small_number c.in-Some.id (is_id c.in-Some.id c.bytes-bytes.result c.bytes-bytes.ensures.value c.bytes-bytes.ensures.size c.bytes-bytes.ensures.bytes);
    })

pub returns : goal.returns
returns c =
    nothing_after c.args.entries.index (option_map id_number c.args.after) c.loop-id.read.after c.args.extent c.loop-id.invariant.none
    (subst (λ (es : List Entry). IsNext es c.loop-id.read.after None) c.loop-id.invariant.index c.in_default.ensures.next)
