use Rattle.std.proofs.Common.{◌≡◌, ◌∙◌, [], ◌∷◌, ◌++◌, List, ap, arith, codes, length, refl, subst, ℕ}
use Rattle.std.specs.List.{AllByRecursion}
use Rattle.cs_frame.specs.declared.formats.FormatNumber.{FormatNumber}
use Rattle.cs_frame.specs.declared.locators.Locator.{Locator}
use Rattle.cs_frame.specs.Buffers.{text_of}
use Rattle.cs_frame.specs.FormatNumbers.{is_marked, page_digit}
use Rattle.cs_frame.specs.Locators.{FitsLocator, spelled_locators}
use Rattle.cs_frame.specs.Pages.{padded, sealed}
use Rattle.cs_frame.specs.Roots.{identity_of, root_fields, root_number}
use Rattle.cs_frame.proofs.Fields.{wrote}
use Rattle.cs_frame.proofs.RootLaws.{fits_page, length-root_fields}
use Rattle.cs_frame.proofs.roots.encode_root.Goals as goal

pub seal-requires : goal.seal-requires
seal-requires c =
    let root = c.args.root.now in
    let store = identity_of c.args.root.now in
    let n : FormatNumber = root_number store in
    let magic : text_of c.append.new.self ≡ codes "CSR" = wrote c.new-page.ensures c.append.ensures refl in
    let digit : text_of c.append-2.new.self ≡ codes "CSR" ++ page_digit n ∷ [] = wrote magic c.append-2.ensures (ap (λ (k : ℕ). k ∷ []) (c.page_digit.ensures ∙ ap page_digit c.number-number.ensures)) in
    let version = wrote digit c.append-3.ensures c.to_be_bytes.ensures in
    let commands = wrote version c.append-4.ensures c.to_be_bytes-2.ensures in
    let identity = wrote commands c.append_identity.ensures.text refl in
    let count = wrote identity c.append-5.ensures (ap (λ (k : ℕ). k ∷ []) (c.len.ensures ∙ root.runs.ok.0)) in
    let text : text_of c.append_locators.new.page ≡ root_fields store root.version root.commands root.runs.items =
    wrote count c.append_locators.ensures.text (ap (λ (m : FormatNumber). spelled_locators (is_marked m) c.deref.result.now) c.number-number.ensures ∙ ap (spelled_locators (is_marked n)) c.deref.ensures.value) in
    omega (arith, ap length text, length-root_fields store root.version root.commands root.runs.items c.append_identity.ensures.fits, fits_page n (length root.runs.items) c.requires.count)

pub returns : goal.returns
returns c =
    let root = c.args.root.now in
    let store = identity_of c.args.root.now in
    let n : FormatNumber = root_number store in
    let magic : text_of c.append.new.self ≡ codes "CSR" = wrote c.new-page.ensures c.append.ensures refl in
    let digit : text_of c.append-2.new.self ≡ codes "CSR" ++ page_digit n ∷ [] = wrote magic c.append-2.ensures (ap (λ (k : ℕ). k ∷ []) (c.page_digit.ensures ∙ ap page_digit c.number-number.ensures)) in
    let version = wrote digit c.append-3.ensures c.to_be_bytes.ensures in
    let commands = wrote version c.append-4.ensures c.to_be_bytes-2.ensures in
    let identity = wrote commands c.append_identity.ensures.text refl in
    let count = wrote identity c.append-5.ensures (ap (λ (k : ℕ). k ∷ []) (c.len.ensures ∙ root.runs.ok.0)) in
    let text : text_of c.append_locators.new.page ≡ root_fields store root.version root.commands root.runs.items =
    wrote count c.append_locators.ensures.text (ap (λ (m : FormatNumber). spelled_locators (is_marked m) c.deref.result.now) c.number-number.ensures ∙ ap (spelled_locators (is_marked n)) c.deref.ensures.value) in
    record {
      fits = record {
        identity = c.append_identity.ensures.fits;
        first_version = c.requires.first_version;
        last_version = c.requires.last_version;
        last_command = c.requires.last_command;
        count = c.requires.count;
        each = subst (λ (ls : List Locator). AllByRecursion (FitsLocator (is_marked n)) ls) c.deref.ensures.value
            (subst (λ (m : FormatNumber). AllByRecursion (FitsLocator (is_marked m)) c.deref.result.now) c.number-number.ensures c.append_locators.ensures.fit);
      };
      spelled = c.finish.ensures ∙ ap padded (c.seal.ensures ∙ ap sealed text);
    }
