use Rattle.std.proofs.Common.{◌≡◌, ◌∙◌, ap, arith, inl, inr, ⊎_elim, length}
use Rattle.std.specs.Prelude.{map}
use Rattle.cs_refusal.specs.declared.refusals.Refusal.TheVariants.{Full, WornOut}
use Rattle.cs_chunk.proofs.Planned.{full_iff, pages_fit, passed_on, worn_iff}
use Rattle.cs_chunk.proofs.Prepared.{frames_made, may_put, put_chunked, put_few, put_room}
use Rattle.cs_extent.specs.State.{shape}
use Rattle.cs_frame.specs.FormatNumbers.{number_in}
use Rattle.cs_frame.specs.Formats.{formats_of}
use Rattle.cs_frame.specs.Frames.{spelled_frame}
use Rattle.cs_frame.specs.Identifiers.{id_number}
use Rattle.cs_chunk.proofs.cuts.Cut.put.Goals as goal

pub may_put-requires-clause-pages : goal.may_put-requires-clause-pages
may_put-requires-clause-pages c =
    pages_fit c.args.extents.now (id_number c.args.origin.id) c.args.origin.command c.args.bytes.now c.extent_count.ensures.whole c.args.self c.requires.cut

pub returns-in-Err-clause-refusals : goal.returns-in-Err-clause-refusals
returns-in-Err-clause-refusals c = ⊎_elim (λ (full : c.in-Err.refusal ≡ Full). inl full) (λ (worn : c.in-Err.refusal ≡ WornOut). inr (inl worn)) c.in-Err.ensures.refusals

pub returns-in-Err-clause-full : goal.returns-in-Err-clause-full
returns-in-Err-clause-full c =
    full_iff c.args.extents.now (id_number c.args.origin.id) c.args.origin.command c.args.bytes.now c.extent_count.ensures.whole c.args.self c.requires.cut (passed_on c.may_put.result c.in-Err.refusal Full c.in-Err.is c.may_put.ensures.full)

pub returns-in-Err-clause-worn : goal.returns-in-Err-clause-worn
returns-in-Err-clause-worn c =
    worn_iff c.args.extents.now (id_number c.args.origin.id) c.args.origin.command c.args.bytes.now c.extent_count.ensures.whole c.args.self c.requires.cut c.args.graph.now.staging
    (passed_on c.may_put.result c.in-Err.refusal WornOut c.in-Err.is c.may_put.ensures.worn)

pub append_all-requires-clause-may : goal.append_all-requires-clause-may
append_all-requires-clause-may c =
    may_put c.args.extents.now c.args.graph.now c.prepare.new.graph (id_number c.args.origin.id) c.args.origin.command c.args.bytes.now c.extent_count.ensures.whole c.args.self c.requires.cut c.in-Ok-prepare.ensures.rest _
    (ap (map (λ f. f.items)) c.deref.ensures.value ∙ c.in-Ok-prepare.ensures.frames) c.requires.ready c.in-Ok.ensures.fits (λ worn. absurd (cc (c.in-Ok.is, c.may_put.ensures.worn.1 (c.in-Ok.ensures.fits, worn)))) c.in-Ok-prepare.ensures.room

pub append_all-requires-clause-room : goal.append_all-requires-clause-room
append_all-requires-clause-room c =
    let made = frames_made (λ f. f.items) (spelled_frame (number_in c.args.extents.now.format) 0) c.in-Ok-prepare.frames.items (formats_of (shape c.args.extents.now)) (id_number c.args.origin.id) c.args.self.count c.args.origin.command c.args.self.size c.args.self.count c.args.bytes.now c.in-Ok-prepare.ensures.frames in
    let same = ap length c.deref.ensures.value in
    omega (arith, made, same, c.in-Ok-prepare.ensures.capacity)

pub returns-in-Ok-prepare-clause-chunks : goal.returns-in-Ok-prepare-clause-chunks
returns-in-Ok-prepare-clause-chunks c =
    put_chunked c.args.extents.now c.args.graph.now c.prepare.new.graph (id_number c.args.origin.id) c.args.origin.command c.args.bytes.now c.extent_count.ensures.whole c.args.self c.requires.cut c.in-Ok-prepare.ensures.rest _
    (ap (map (λ f. f.items)) c.deref.ensures.value ∙ c.in-Ok-prepare.ensures.frames) c.append_all.new.places.items c.append_all.new.extents c.append_all.new.graph c.append_all.ensures

pub returns-in-Ok-prepare-clause-few : goal.returns-in-Ok-prepare-clause-few
returns-in-Ok-prepare-clause-few c =
    put_few c.args.extents.now c.args.graph.now c.prepare.new.graph (id_number c.args.origin.id) c.args.origin.command c.args.bytes.now c.extent_count.ensures.whole c.args.self c.requires.cut c.in-Ok-prepare.ensures.rest _
    (ap (map (λ f. f.items)) c.deref.ensures.value ∙ c.in-Ok-prepare.ensures.frames) c.append_all.new.places.items c.append_all.new.extents c.append_all.new.graph c.append_all.ensures

pub returns-in-Ok-prepare-clause-room : goal.returns-in-Ok-prepare-clause-room
returns-in-Ok-prepare-clause-room c =
    put_room c.args.extents.now c.args.graph.now c.prepare.new.graph (id_number c.args.origin.id) c.args.origin.command c.args.bytes.now c.extent_count.ensures.whole c.args.self c.requires.cut c.in-Ok-prepare.ensures.rest _
    (ap (map (λ f. f.items)) c.deref.ensures.value ∙ c.in-Ok-prepare.ensures.frames) c.append_all.new.places.items c.append_all.new.extents c.append_all.new.graph c.append_all.ensures c.in-Ok-prepare.ensures.kept

pub returns-in-Ok-prepare-clause-full : goal.returns-in-Ok-prepare-clause-full
returns-in-Ok-prepare-clause-full c =
    full_iff c.args.extents.now (id_number c.args.origin.id) c.args.origin.command c.args.bytes.now c.extent_count.ensures.whole c.args.self c.requires.cut ((λ e. absurd (cc e)), (λ none. absurd (none c.in-Ok.ensures.fits)))

pub returns-in-Ok-prepare-clause-worn : goal.returns-in-Ok-prepare-clause-worn
returns-in-Ok-prepare-clause-worn c =
    worn_iff c.args.extents.now (id_number c.args.origin.id) c.args.origin.command c.args.bytes.now c.extent_count.ensures.whole c.args.self c.requires.cut c.args.graph.now.staging
    ((λ e. absurd (cc e)), (λ worn. absurd (cc (c.in-Ok.is, c.may_put.ensures.worn.1 worn))))

pub returns-in-Err-prepare-clause-full : goal.returns-in-Err-prepare-clause-full
returns-in-Err-prepare-clause-full c =
    full_iff c.args.extents.now (id_number c.args.origin.id) c.args.origin.command c.args.bytes.now c.extent_count.ensures.whole c.args.self c.requires.cut ((λ e. absurd (cc e)), (λ none. absurd (none c.in-Ok.ensures.fits)))

pub returns-in-Err-prepare-clause-worn : goal.returns-in-Err-prepare-clause-worn
returns-in-Err-prepare-clause-worn c =
    worn_iff c.args.extents.now (id_number c.args.origin.id) c.args.origin.command c.args.bytes.now c.extent_count.ensures.whole c.args.self c.requires.cut c.args.graph.now.staging
    ((λ e. absurd (cc e)), (λ worn. absurd (cc (c.in-Ok.is, c.may_put.ensures.worn.1 worn))))
