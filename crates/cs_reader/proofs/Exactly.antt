-- What an image recovers is opened: none of the tests fails there.
use Rattle.std.proofs.Common.{◌≡◌, inl, inr, ⊎_elim, ◌∙◌, ℕ, zero, suc, ◌+◌, ◌*◌, ◌<◌, ◌≤◌, List, Some, None, length, sym, ap, subst, arith}
use Rattle.std.proofs.Math.Nat.{mul-le-mul_left}
use Rattle.std.specs.Prelude.{Option, slice_index}
use Rattle.cs_chunk.proofs.Framed.{no_fault_there, one_frame}
use Rattle.cs_chunk.specs.Reads.{IsOfFault, fault_in}
use Rattle.cs_refusal.specs.declared.refusals.Refusal.{Refusal}
use Rattle.cs_extent.specs.State.{IsWhole, State as ExtentsState, extents_at, section_rows, shape}
use Rattle.cs_frame.proofs.FirstFormatLaws.{spelled_has_none as first_has_none, zero_of_first, zero_of_section}
use Rattle.cs_frame.proofs.GeometryLaws.{bounds, pages_on_device}
use Rattle.cs_frame.proofs.RootLaws as roots
use Rattle.cs_frame.proofs.FormatRunLaws.{fault-spelled}
use Rattle.cs_frame.proofs.SuperblockLaws as superblocks
use Rattle.cs_frame.specs.declared.faults.FormatFault.{FormatFault}
use Rattle.cs_frame.specs.declared.frames.FrameKind.TheVariants.{Run}
use Rattle.cs_frame.specs.declared.locators.Locator.{Locator}
use Rattle.cs_frame.specs.FirstFormat.{SpellsPageZero, page_zero_fault}
use Rattle.cs_frame.specs.Formats.{formats_of}
use Rattle.cs_frame.specs.Geometries.{IsGeometry, device_pages, section_size}
use Rattle.cs_frame.specs.FormatNumbers.{number_in}
use Rattle.cs_frame.specs.declared.formats.FormatNumber.{FormatNumber}
use Rattle.cs_frame.specs.Roots.{SpellsRoot, identity_in, root_fault, root_identity}
use Rattle.cs_frame.specs.FormatRuns.{run_fault}
use Rattle.cs_frame.specs.Superblocks.{SpellsSuperblock, record_in, superblock_fault}
use Rattle.cs_reader.proofs.OneByOne.{place_inside}
use Rattle.cs_reader.proofs.Readable.{all_readable, part, records_low, root_spelled, section_spelled, store_read, visible_store_read, zero_same}
use Rattle.cs_reader.proofs.Superblocks.{read_whole, section_one}
use Rattle.cs_reader.specs.ImageReads.{ArePages, AreSectionsRead, IsReadable, IsVisibleStoreRead, SpellsAt}
use Rattle.cs_index.proofs.Sorted.{all_at}
use Rattle.cs_index.specs.State.{newest_first}
use Rattle.law_machine.specs.Device.{Shape}
use Rattle.law_machine.specs.Element.{Map}
use Rattle.law_machine.specs.Format.{Format}
use Rattle.law_machine.specs.Geometry.{most_weight_in, shape_of, weigh_in}
use Rattle.law_machine.specs.Index.{entries_of, named_weight}
use Rattle.law_machine.specs.Recovery.{Recovers}
use Rattle.cs_reader.specs.Openings.{IsIndexDamaged, IsOtherDevice, IsOtherRoot, IsOtherSection, IsOtherSpelled, IsRootDamaged, IsRootLost, IsRunDamaged, IsSectionDamaged, IsSuperblockDamaged, IsTooSmall, IsWhyNotOpened, IsWhyNotRead}
use Rattle.cs_reader.proofs.SectionReads.{further_page}

no_fault : (found : Option FormatFault) (x : Refusal) → found ≡ None → IsOfFault found x → ⊥
no_fault found x none f = let clash : None ≡ Some f.0 = sym none ∙ f.1 in cc clash

-- one page is the root of one store
one_identity : (page : List ℕ) (store s : Option (List ℕ)) (version w commands k : ℕ) (runs ls : List Locator)
    → SpellsRoot page store version commands runs → SpellsRoot page s w k ls → store ≡ s
one_identity page store s version w commands k runs ls a b =
    sym (roots.one_root page store version commands runs a).of_store
    ∙ ap (λ (n : FormatNumber). root_identity n page) (roots.one_format page store s version w commands k runs ls a b)
    ∙ (roots.one_root page s w k ls b).of_store

-- a run that can be read is read
read_there : (x : ExtentsState) (whole : IsWhole x) (view : ℕ → List ℕ) (place : Locator) (r : Refusal) → IsReadable x view place → IsWhyNotRead x view place r → ⊥
read_there x whole view place r has (inl away) = away.0 has.1.located
read_there x whole view place r has (inr (inl broken)) =
    no_fault (fault_in x view Run place) r (no_fault_there x whole view Run place (place_inside x place whole has.1.located).1 has.1.payload has.1.frame) broken.1
read_there x whole view place r has (inr (inr spoiled)) =
    let same : has.1.payload ≡ spoiled.1.0 = one_frame x whole view Run place (place_inside x place whole has.1.located).1 has.1.payload spoiled.1.0 has.1.frame spoiled.1.1 in
    no_fault (run_fault x.format spoiled.1.0) r (ap (run_fault x.format) (sym same) ∙ fault-spelled x.format has.1.payload has.0 whole.geometry.fits_format has.1.spelled) spoiled.1.2

-- a section that page 0 spells has no fault there
no_zero_fault : (page : List ℕ) (format : Format) (version recorded extents pages sections section : ℕ) (rows : List (ℕ × ℕ)) → SpellsPageZero page format version recorded extents pages sections section rows → page_zero_fault page ≡ None
no_zero_fault page format version recorded extents pages sections section rows (inl is) = zero_of_section (number_in format) page (superblocks.spelled_has_none page format version recorded extents pages sections section rows is)
no_zero_fault page format version recorded extents pages sections section rows (inr is) = zero_of_first page (first_has_none page version pages rows is.spells)

module _ (count : ℕ) (view : ℕ → List ℕ) (format : Format) (extents pages sections : ℕ) (is : IsGeometry format extents pages sections) (sized : count ≡ device_pages format extents pages sections) (are : ArePages count view) (n : ℕ) (m : Map)
    (r : Recovers (shape_of extents pages sections (section_size extents sections) format) (formats_of (shape_of extents pages sections (section_size extents sections) format)) view n m) where
  abbrev S : Shape
  S = shape_of extents pages sections (section_size extents sections) format

  -- in the words of sections that were read
  pub recovers_here : (f : Format) (k p : ℕ) (written : List (ℕ × ℕ)) → f ≡ format → length written ≡ extents → p ≡ pages → k ≡ sections → Recovers (shape (extents_at f p k written)) (formats_of (shape (extents_at f p k written))) view n m
  recovers_here f k p written c l e d = subst (λ (i : Format). Recovers (shape_of (length written) p k (section_size (length written) k) i) (formats_of (shape_of (length written) p k (section_size (length written) k) i)) view n m) (sym c)
      (subst (λ (i : ℕ). Recovers (shape_of i p k (section_size i k) format) (formats_of (shape_of i p k (section_size i k) format)) view n m) (sym l)
      (subst (λ (q : ℕ). Recovers (shape_of extents q k (section_size extents k) format) (formats_of (shape_of extents q k (section_size extents k) format)) view n m) (sym e)
      (subst (λ (j : ℕ). Recovers (shape_of extents pages j (section_size extents j) format) (formats_of (shape_of extents pages j (section_size extents j) format)) view n m) (sym d) r)))

  -- whatever sections are read have these numbers
  pub same_numbers : (f : Format) (versions records : List ℕ) (p : ℕ) (written : List (ℕ × ℕ)) → AreSectionsRead view f versions records p written → (f ≡ format) × (length written ≡ extents) × (p ≡ pages) × (length versions ≡ sections)
  same_numbers f versions records p written read =
      let same = zero_same format extents pages sections is view n m r f (slice_index versions 0) (slice_index records 0) (length written) p (length versions) 0 (section_rows (extents_at f p (length versions) written) 0)
      (read.each 0 read.geometry.fewest_sections) in
      (same.0, same.1, same.2, same.3)

  not_small : (x : Refusal) → IsTooSmall count x → ⊥
  not_small x w = let many : extents * 2 ≤ extents * pages = mul-le-mul_left extents is.fewest_pages in let few : count < 10 = w.small in let four : 4 ≤ extents = (bounds format extents pages sections is).fewest_extents in let some : 1 ≤ sections = is.fewest_sections in
      let on = pages_on_device format extents pages sections is in
      omega (arith, many, few, four, some, on, sized)

  zero_there : SpellsAt 0 (view (S.section_page 0)) format (r.versions 0) (record_in format (r.recorded 0)) extents pages sections (part format extents pages sections is view n m r 0)
  zero_there = section_spelled format extents pages sections is view n m r 0 is.fewest_sections

  superblock_there : (x : Refusal) → IsSuperblockDamaged count view x → ⊥
  superblock_there x w = no_fault (page_zero_fault (view 0)) x
      (no_zero_fault (view 0) format (r.versions 0) (record_in format (r.recorded 0)) extents pages sections 0 (part format extents pages sections is view n m r 0) zero_there) w.fault

  first_there : (x : Refusal) → IsOtherSection count view x → ⊥
  first_there x w = let o = w.spelled in o.other (zero_same format extents pages sections is view n m r o.format o.version o.recorded o.extents o.pages o.sections o.section o.rows o.superblock).4

  this_device : (x : Refusal) → IsOtherDevice count view x → ⊥
  this_device x w =
      let same = zero_same format extents pages sections is view n m r w.format w.version w.recorded w.extents w.pages w.sections 0 w.rows w.superblock in
      w.other (sized ∙ ap (λ (k : Format). device_pages k extents pages sections) (sym same.0) ∙ ap (λ (k : ℕ). device_pages w.format k pages sections) (sym same.1)
      ∙ ap (λ (k : ℕ). device_pages w.format w.extents k sections) (sym same.2) ∙ ap (λ (k : ℕ). device_pages w.format w.extents w.pages k) (sym same.3))

  -- the page of a further section spells it
  further_there : (k : ℕ) → 0 < k → k < sections → (version : ℕ) × (recorded : ℕ) × (rows : List (ℕ × ℕ)) × SpellsSuperblock (view (1 + extents * pages + k)) format version recorded extents pages sections k rows
  further_there zero some lt = absurd (omega (arith, some))
  further_there (suc k) some lt = (
    r.versions (suc k),
    record_in format (r.recorded (suc k)),
    part format extents pages sections is view n m r (suc k),
    subst (λ (p : ℕ). SpellsSuperblock (view p) format (r.versions (suc k)) (record_in format (r.recorded (suc k))) extents pages sections (suc k) (part format extents pages sections is view n m r (suc k))) (sym (further_page extents pages sections (suc k) some))
        (section_spelled format extents pages sections is view n m r (suc k) lt),
  )

  sections_there : (x : Refusal) → IsSectionDamaged count view x → ⊥
  sections_there x w =
      let f = w.first in
      let same = zero_same format extents pages sections is view n m r w.format f.version f.recorded w.extents w.pages w.sections 0 f.rows f.superblock in
      let y = w.why in
      let lt : y.section < sections = subst (λ (k : ℕ). y.section < k) same.3 y.one_of_them in
      let there = further_there y.section y.further lt in
      let number : 1 + w.extents * w.pages + y.section ≡ 1 + extents * pages + y.section = ap (λ (k : ℕ). 1 + k * w.pages + y.section) same.1 ∙ ap (λ (k : ℕ). 1 + extents * k + y.section) same.2 in
      let spelled : SpellsSuperblock (view (1 + w.extents * w.pages + y.section)) format there.0 there.1 extents pages sections y.section there.2 =
      subst (λ (p : ℕ). SpellsSuperblock (view p) format there.0 there.1 extents pages sections y.section there.2) (sym number) there.3 in
      ⊎_elim
      (λ (f : IsOfFault (superblock_fault (number_in w.format) (view (1 + w.extents * w.pages + y.section))) x).
      no_fault (superblock_fault (number_in w.format) (view (1 + w.extents * w.pages + y.section))) x (subst (λ (i : Format). superblock_fault (number_in i) (view (1 + w.extents * w.pages + y.section)) ≡ None) (sym same.0) (superblocks.spelled_has_none (view (1 + w.extents * w.pages + y.section)) format there.0 there.1 extents pages sections y.section there.2 spelled)) f)
      (λ (o : IsOtherSpelled w.format w.extents w.pages w.sections y.section (view (1 + w.extents * w.pages + y.section)) x).
      let one = section_one (view (1 + w.extents * w.pages + y.section)) o.their_format o.version o.recorded o.their_extents o.their_pages o.their_sections o.their_section o.rows format there.0 there.1 extents pages sections y.section there.2 o.spelled spelled in
      o.other (one.0 ∙ sym same.0, one.1 ∙ sym same.1, one.2 ∙ sym same.2, one.3 ∙ sym same.3, one.4))
      y.why

  root_there : (x : Refusal) → IsRootDamaged count view x → ⊥
  root_there x w =
      let spelled = root_spelled format extents pages sections is view n m r in
      let same = same_numbers w.format w.versions w.records w.pages w.written w.extents.sections in
      no_fault (root_fault (number_in w.format) (view 1)) x (subst (λ (i : FormatNumber). root_fault i (view 1) ≡ None) (roots.number_of_identity format ∙ ap number_in (sym same.0)) (roots.spelled_has_none (view 1) _ _ _ _ spelled)) w.fault

  -- and the root that page 1 spells is the store's
  own_root : (x : Refusal) → IsOtherRoot count view x → ⊥
  own_root x w =
      let spelled = root_spelled format extents pages sections is view n m r in
      let same = same_numbers w.format w.versions w.records w.pages w.written w.extents.sections in
      let o = w.spelled in
      o.other (one_identity (view 1) o.store (identity_in format) o.version r.version o.commands n o.places _ o.root spelled ∙ ap identity_in (sym same.0))

  -- no section records a later root
  root_kept : (x : Refusal) → IsRootLost count view x → ⊥
  root_kept x w =
      let read = w.root.extents.sections in
      let same = same_numbers w.format w.versions w.records w.pages w.written read in
      let low : slice_index w.records w.section ≤ w.root.version =
      records_low view w.format w.versions w.records w.pages w.written read n m (recovers_here w.format (length w.versions) w.pages w.written same.0 same.1 same.2 same.3)
      w.root.version w.root.commands w.places w.root.root w.section w.one_of_them in
      let later : w.root.version < slice_index w.records w.section = w.later in
      omega (arith, low, later)

  pages_there : (f : Format) (k p : ℕ) (written : List (ℕ × ℕ)) → count ≡ device_pages f (length written) p k → ArePages (device_pages f (length written) p k) view
  pages_there f k p written size = subst (λ (i : ℕ). ArePages i view) size are

  runs_there : (x : Refusal) → IsRunDamaged count view x → ⊥
  runs_there x w =
      let read = w.root.extents.sections in
      let same = same_numbers w.format w.versions w.records w.pages w.written read in
      let all = all_readable view w.format w.versions w.records w.pages w.written read (pages_there w.format (length w.versions) w.pages w.written w.root.extents.sized) n m
      (recovers_here w.format (length w.versions) w.pages w.written same.0 same.1 same.2 same.3) w.root.version w.root.commands w.places w.root.root in
      read_there (extents_at w.format w.pages (length w.versions) w.written) (read_whole view w.format w.versions w.records w.pages w.written read) view w.place x
      (all_at (λ place. IsReadable (extents_at w.format w.pages (length w.versions) w.written) view place) w.places (length w.runs) w.place all w.next) w.why

  index_there : (x : Refusal) → IsIndexDamaged count view x → ⊥
  index_there x w =
      let sections_read = w.root.extents.sections in
      let same = same_numbers w.format w.versions w.records w.pages w.written sections_read in
      let there = pages_there w.format (length w.versions) w.pages w.written w.root.extents.sized in
      let recovered = recovers_here w.format (length w.versions) w.pages w.written same.0 same.1 same.2 same.3 in
      let read : IsVisibleStoreRead view w.format w.versions w.records w.pages w.written w.root.version w.root.commands w.runs =
      visible_store_read view w.format w.versions w.records w.pages w.written sections_read there n m recovered w.root.version w.root.commands w.runs w.root.root w.runs_read in
      ⊎_elim
      (λ away. away (record {
        whole = λ stand. (store_read view w.format w.versions w.records w.pages w.written sections_read there n m recovered w.root.version w.root.commands w.runs w.root.root w.runs_read stand).located;
        visible = λ gone. read.located;
      }))
      (λ (many : most_weight_in w.format w.pages < named_weight (weigh_in w.format) (entries_of (newest_first w.runs))).
      let few : named_weight (weigh_in w.format) (entries_of (newest_first w.runs)) ≤ most_weight_in w.format w.pages = read.weight_fits in omega (arith, few, many))
      w.why

  pub none_fails : (x : Refusal) → IsWhyNotOpened count view x → ⊥
  none_fails x (inl w) = not_small x w
  none_fails x (inr (inl w)) = superblock_there x w
  none_fails x (inr (inr (inl w))) = first_there x w
  none_fails x (inr (inr (inr (inl w)))) = this_device x w
  none_fails x (inr (inr (inr (inr (inl w))))) = sections_there x w
  none_fails x (inr (inr (inr (inr (inr (inl w)))))) = root_there x w
  none_fails x (inr (inr (inr (inr (inr (inr (inl w))))))) = own_root x w
  none_fails x (inr (inr (inr (inr (inr (inr (inr (inl w)))))))) = root_kept x w
  none_fails x (inr (inr (inr (inr (inr (inr (inr (inr (inl w))))))))) = runs_there x w
  none_fails x (inr (inr (inr (inr (inr (inr (inr (inr (inr w))))))))) = index_there x w
