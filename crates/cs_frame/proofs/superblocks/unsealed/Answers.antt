use Rattle.std.proofs.Common.{◌≡◌, ◌∷◌, ◌++◌, ◌∙◌, [], List, ap, arith, codes, length, length-append, refl, ℕ}
use Rattle.byteorder.specs.Endian.{big_bytes}
use Rattle.cs_frame.specs.Buffers.{text_of}
use Rattle.cs_frame.specs.FormatNumbers.{number_in, section_digit}
use Rattle.cs_frame.specs.Superblocks.{spelled_store}
use Rattle.cs_frame.proofs.Fields.{wrote}
use Rattle.cs_frame.proofs.SuperblockLaws.{length-spelled_store, low_start}
use Rattle.cs_frame.proofs.superblocks.unsealed.Goals as goal

pub append_extents-requires : goal.append_extents-requires
append_extents-requires c =
    let format = c.args.head.format in
    let head : List ℕ = codes "CSS" ++ section_digit (number_in format) ∷ [] ++ big_bytes 8 c.args.head.version ++ big_bytes 2 c.args.head.extent_count
    ++ big_bytes 2 c.args.head.pages ++ c.args.head.sections ∷ [] ++ c.args.head.section ∷ [] in
    let size : length head ≡ 18 = refl in
    let magic : text_of c.append.new.self ≡ codes "CSS" = wrote c.new-page.ensures c.append.ensures refl in
    let digit : text_of c.append-2.new.self ≡ codes "CSS" ++ section_digit (number_in format) ∷ [] =
    wrote magic c.append-2.ensures (ap (λ (n : ℕ). n ∷ []) (c.section_digit.ensures ∙ ap section_digit c.number.ensures.number)) in
    let version = wrote digit c.append-3.ensures c.to_be_bytes.ensures in
    let count = wrote version c.append-4.ensures c.to_be_bytes-2.ensures in
    let pages = wrote count c.append-5.ensures c.to_be_bytes-3.ensures in
    let sections = wrote pages c.append-6.ensures refl in
    let section : text_of c.append-7.new.self ≡ head = wrote sections c.append-7.ensures refl in
    let stored : text_of c.append_store.new.page ≡ head ++ spelled_store format c.args.head.recorded = wrote section c.append_store.ensures refl in
    omega (
      arith,
      size,
      ap length stored,
      length-append head (spelled_store format c.args.head.recorded),
      length-spelled_store format c.args.head.recorded c.number.ensures.fits,
      low_start (number_in format),
      c.requires,
    )

pub returns-clause-text : goal.returns-clause-text
returns-clause-text c =
    let magic : text_of c.append.new.self ≡ codes "CSS" = wrote c.new-page.ensures c.append.ensures refl in
    let digit : text_of c.append-2.new.self ≡ codes "CSS" ++ section_digit (number_in c.args.head.format) ∷ [] =
    wrote magic c.append-2.ensures (ap (λ (n : ℕ). n ∷ []) (c.section_digit.ensures ∙ ap section_digit c.number.ensures.number)) in
    let version = wrote digit c.append-3.ensures c.to_be_bytes.ensures in
    let count = wrote version c.append-4.ensures c.to_be_bytes-2.ensures in
    let pages = wrote count c.append-5.ensures c.to_be_bytes-3.ensures in
    let sections = wrote pages c.append-6.ensures refl in
    let section = wrote sections c.append-7.ensures refl in
    let stored = wrote section c.append_store.ensures refl in
    wrote stored c.append_extents.ensures.text refl
