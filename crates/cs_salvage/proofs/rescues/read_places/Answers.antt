use Rattle.std.proofs.Common.{inl, refl}
use Rattle.cs_disk.specs.Disk.{page, seen}
use Rattle.cs_reader.proofs.Loading.{fresh_view}
use Rattle.cs_salvage.proofs.Getting.{all_inside, why_located}
use Rattle.cs_salvage.proofs.rescues.read_places.Goals as goal

pub read_chunks-requires-clause-places : goal.read_chunks-requires-clause-places
read_chunks-requires-clause-places g c = all_inside c.args.extents.now c.extent_count.ensures.whole c.args.places.now c.if-not-are_places_located.ensures

pub returns-clause-bytes : goal.returns-clause-bytes
returns-clause-bytes g c = λ h.
    let image = seen (g.D.PageDisk.state c.args.disk.now) in
    c.read_chunks.ensures.bytes h (page image) (fresh_view c.args.graph.now image c.requires.none)

pub returns-clause-read : goal.returns-clause-read
returns-clause-read g c = λ h cs located there.
    let image = seen (g.D.PageDisk.state c.args.disk.now) in
    c.read_chunks.ensures.read h (page image) cs (fresh_view c.args.graph.now image c.requires.none) there

pub returns-clause-why : goal.returns-clause-why
returns-clause-why g c = λ h.
    let image = seen (g.D.PageDisk.state c.args.disk.now) in
    why_located c.args.extents.now (page image) c.args.places.now c.if-not-are_places_located.ensures c.read_chunks.result
    (c.read_chunks.ensures.fault h (page image) (fresh_view c.args.graph.now image c.requires.none))

pub returns-then-not-are_places_located-clause-read : goal.returns-then-not-are_places_located-clause-read
returns-then-not-are_places_located-clause-read g c = λ h cs located there. absurd (c.if-not-are_places_located.ensures located)

pub returns-then-not-are_places_located-clause-why : goal.returns-then-not-are_places_located-clause-why
returns-then-not-are_places_located-clause-why g c = λ h. inl (c.if-not-are_places_located.ensures, refl)
