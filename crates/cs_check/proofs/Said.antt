-- A document says one thing.
use Rattle.std.proofs.Common.{◌≡◌, ◌∙◌, ℕ, ◌<◌, ◌≤◌, List, length, take, take_all, Some, slice_get, sym, ap, subst, arith}
use Rattle.std.specs.Prelude.{Contains, All, codes}
use Rattle.std.proofs.lemmas.Option.{slice_get_within, same_Some}
use Rattle.std.proofs.lemmas.List.{length-map}
use Rattle.serde_json.specs.Data.{Data, array}
use Rattle.serde_json.specs.View.{items_of}
use Rattle.cs_deps.specs.declared.elements.Element.{Element}
use Rattle.cs_deps.specs.Named.{Named}
use Rattle.cs_deps.specs.Pending.{Pending}
use Rattle.cs_check.specs.Listing.{IsWellFormed}
use Rattle.cs_check.specs.Names.{AreLetters, IsName}
use Rattle.serde_json.specs.Data.{number, unsigned}
use Rattle.cs_check.specs.Documents.{HasMember, AreEntries, IsDocumentOf, IsDocument, NamesThese, NamesToo, elements_in, names_data, numbers_data, letters_data, rounds_data}
use Rattle.cs_check.specs.Parts.{HasFamilies, HasPersistent, HasElements, HasTarget, HasRounds, HasChain}
use Rattle.cs_check.proofs.ValueSteps.{arrays_same, same_letters, same_numbers, same_names, same_rounds}
use Rattle.cs_check.proofs.Entries.{same_elements, same_name_of, entry_at, data_at}
use Rattle.cs_check.proofs.Alike.{AreAlike, NamesWithin, well_formed_alike}

-- a document with these letters
abbrev pub Said : Data → List ℕ → Type 0
Said d letters = (g : Pending) × (target : Named) × (rounds : List (List Element)) × (chain : List Element) × IsDocumentOf d letters g target rounds chain

pub said : (d : Data) (letters : List ℕ) → HasMember d (codes "families") (letters_data letters) → IsDocument d → Said d letters
said d letters families p =
    let same : p.0 ≡ letters = same_letters p.0 letters (same_Some _ _ (sym p.5.families ∙ families)) in
    (p.1, p.2, p.3, p.4, subst (λ ls. IsDocumentOf d ls p.1 p.2 p.3 p.4) same p.5)

pub said_persistent : (d : Data) (letters vs : List ℕ) → HasMember d (codes "persistent") (numbers_data vs) → (s : Said d letters) → s.0.persistent ≡ vs
said_persistent d letters vs persistent s = same_numbers s.0.persistent vs (same_Some _ _ (sym s.4.persistent ∙ persistent))

pub said_count : (d : Data) (letters vs : List ℕ) → HasMember d (codes "persistent") (numbers_data vs) → Said d letters → length vs ≡ length letters
said_count d letters vs persistent s = ap length (sym (said_persistent d letters vs persistent s)) ∙ s.4.count

pub said_entries : (d : Data) (letters : List ℕ) (e : Data) → HasMember d (codes "elements") e → Said d letters → (entries : List Data) × (waiting : List (Element × Named)) × (e ≡ array (items_of entries)) × AreEntries letters entries waiting
said_entries d letters e elements s = (s.4.elements.0, s.0.waiting, same_Some _ _ (sym elements ∙ s.4.elements.1), s.4.elements.2)

same_entries : (d : Data) (letters : List ℕ) (es : List Data) → HasMember d (codes "elements") (array (items_of es)) → (s : Said d letters) → es ≡ s.4.elements.0
same_entries d letters es elements s = arrays_same es s.4.elements.0 (same_Some _ _ (sym elements ∙ s.4.elements.1))

pub said_elements : (d : Data) (letters : List ℕ) (es : List Data) (ws : List (Element × Named)) → HasMember d (codes "elements") (array (items_of es)) → AreEntries letters es ws → (s : Said d letters) → elements_in s.0.waiting ≡ elements_in ws
said_elements d letters es ws elements are s =
    let es' : List Data = s.4.elements.0 in
    let same : es ≡ es' = same_entries d letters es elements s in
    let le : length es' ≤ length es' = omega arith in
    let front : es ≡ take (length es') es' = same ∙ sym (take_all (length es') es' le) in
    let first = same_elements letters s.4.distinct es es' ws s.0.waiting (length es') le front are s.4.elements.2 in
    sym (take_all (length es') (elements_in s.0.waiting) (omega (arith, s.4.elements.2.count, length-map s.0.waiting (λ (w : Element × Named). w.0)))) ∙ first

pub said_target : (d : Data) (letters : List ℕ) (es : List Data) (ws : List (Element × Named)) → HasMember d (codes "elements") (array (items_of es)) → AreEntries letters es ws → (t : Data) → HasMember d (codes "target") t → Said d letters → (xs : List Element) × All (IsName letters) xs × All (Contains (elements_in ws)) xs × (t ≡ names_data letters xs)
said_target d letters es ws elements are t target s =
    let named = s.4.named in
    (named.0, named.1, subst (λ all. All (Contains all) named.0) (said_elements d letters es ws elements are s) named.2, same_Some _ _ (sym target ∙ named.3))

pub said_rounds : (d : Data) (letters : List ℕ) (r : Data) → HasMember d (codes "rounds") r → Said d letters → (rounds : List (List Element)) × All (All (IsName letters)) rounds × (r ≡ rounds_data letters rounds)
said_rounds d letters r rounds s = (s.2, s.4.taken.0, same_Some _ _ (sym rounds ∙ s.4.taken.1))

pub said_chain : (d : Data) (letters : List ℕ) (c : Data) → HasMember d (codes "chain") c → Said d letters → (chain : List Element) × All (IsName letters) chain × (c ≡ names_data letters chain)
said_chain d letters c chain s = (s.3, s.4.links.0, same_Some _ _ (sym chain ∙ s.4.links.1))

-- ---- the same view, but for how needs are written

entries_within : (letters : List ℕ) → AreLetters letters → (es : List Data) (p q : List ℕ) (ws vs : List (Element × Named)) → elements_in ws ≡ elements_in vs → AreEntries letters es ws → AreEntries letters es vs → NamesWithin (record { persistent = p; waiting = ws }) (record { persistent = q; waiting = vs })
entries_within letters are es p q ws vs same first second k x n at =
    let within : k < length vs = omega (arith, slice_get_within ws k (x, n) at, first.count, second.count) in
    let other = entry_at vs k within in
    let d = data_at es k (omega (arith, within, second.count)) in
    let one = first.each k d.0 x n d.1 at in
    let two = second.each k d.0 other.0 other.1 d.1 other.2 in
    let element : x ≡ other.0 = same_name_of letters are d.0 x other.0 one.name two.name one.element two.element in
    let needs = same_names letters are one.needs.0 two.needs.0 one.needs.1 two.needs.1 (same_Some (names_data letters one.needs.0) (names_data letters two.needs.0) (sym one.needs.3 ∙ two.needs.3)) in (
      other.1,
      subst (λ z. slice_get vs k ≡ Some (z, other.1)) (sym element) other.2,
      (λ y named. (two.needs.4 y).1 (subst (λ (zs : List Element). (z : Element) × Contains zs z × NamesToo z y) needs ((one.needs.4 y).0 named))),
    )

pub said_well_formed : (d : Data) (letters vs : List ℕ) (es : List Data) (ws : List (Element × Named)) (target : Named) (xs : List Element) (rounds : List (List Element)) (chain : List Element)
    → HasMember d (codes "persistent") (numbers_data vs) → HasMember d (codes "elements") (array (items_of es)) → AreEntries letters es ws
    → All (IsName letters) xs → HasMember d (codes "target") (names_data letters xs) → NamesThese target xs
    → All (All (IsName letters)) rounds → HasMember d (codes "rounds") (rounds_data letters rounds)
    → All (IsName letters) chain → HasMember d (codes "chain") (names_data letters chain)
    → Said d letters → IsWellFormed (record { persistent = vs; waiting = ws }) target rounds chain
said_well_formed d letters vs es ws target xs rounds chain persistent elements are names named these taken took linked links s =
    let g : Pending = s.0 in
    let h : Pending = record { persistent = vs; waiting = ws } in
    let distinct = s.4.distinct in
    let theirs = subst (λ zs. AreEntries letters zs g.waiting) (sym (same_entries d letters es elements s)) s.4.elements.2 in
    let same = said_elements d letters es ws elements are s in
    let alike : AreAlike g h = record {
      persistent = said_persistent d letters vs persistent s;
      elements = same;
      there = entries_within letters distinct es vs g.persistent ws g.waiting (sym same) are theirs;
      back = λ k x n at. let r = entries_within letters distinct es g.persistent vs g.waiting ws same theirs are k x n at in (r.0, r.1);
    } in
    let one_target : xs ≡ s.4.named.0 = same_names letters distinct xs s.4.named.0 names s.4.named.1 (same_Some (names_data letters xs) (names_data letters s.4.named.0) (sym named ∙ s.4.named.3)) in
    let one_rounds : s.2 ≡ rounds = same_rounds letters distinct s.2 rounds s.4.taken.0 taken (same_Some (rounds_data letters s.2) (rounds_data letters rounds) (sym s.4.taken.1 ∙ took)) in
    let one_chain : s.3 ≡ chain = same_names letters distinct s.3 chain s.4.links.0 linked (same_Some (names_data letters s.3) (names_data letters chain) (sym s.4.links.1 ∙ links)) in
    let old : IsWellFormed g s.1 rounds chain = subst (λ zs. IsWellFormed g s.1 rounds zs) one_chain (subst (λ rs. IsWellFormed g s.1 rs s.3) one_rounds s.4.well_formed) in
    well_formed_alike g h alike s.1 target (λ y n. (s.4.named.4 y).1 (subst (λ (zs : List Element). (z : Element) × Contains zs z × NamesToo z y) one_target ((these y).0 n))) rounds chain old

-- ---- what was read of all its members

pub said_by_parts : (d : Data) (letters vs : List ℕ) (ws : List (Element × Named)) (target : Named) (rounds : List (List Element)) (chain : List Element)
    → HasFamilies d letters → HasPersistent d letters vs → HasElements d letters ws → HasTarget d letters ws target → HasRounds d letters rounds → HasChain d letters chain
    → IsDocument d → IsWellFormed (record { persistent = vs; waiting = ws }) target rounds chain
said_by_parts d letters vs ws target rounds chain families persistent elements aim taken links p =
    said_well_formed d letters vs elements.entries ws target aim.names rounds chain persistent.member elements.member elements.are aim.named aim.member aim.these taken.named taken.member links.named links.member
    (said d letters families.member p)

pub document_of : (d : Data) (letters vs : List ℕ) (ws : List (Element × Named)) (target : Named) (rounds : List (List Element)) (chain : List Element) → HasMember d (codes "format") (number (unsigned 1))
    → HasFamilies d letters → HasPersistent d letters vs → HasElements d letters ws → HasTarget d letters ws target → HasRounds d letters rounds → HasChain d letters chain
    → IsWellFormed (record { persistent = vs; waiting = ws }) target rounds chain → IsDocumentOf d letters (record { persistent = vs; waiting = ws }) target rounds chain
document_of d letters vs ws target rounds chain format families persistent elements aim taken links well = record {
  format = format;
  families = families.member;
  distinct = families.distinct;
  persistent = persistent.member;
  count = persistent.count;
  elements = (elements.entries, elements.member, elements.are);
  named = (aim.names, aim.named, aim.listed, aim.member, aim.these);
  taken = (taken.named, taken.member);
  links = (links.named, links.member);
  well_formed = well;
}
