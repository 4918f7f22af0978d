-- What was found of a store of which sections are lost.
use Rattle.std.proofs.Common.{◌≡◌, ◌≢◌, ◌∙◌, ◌⊎◌, ◌==◌, ◌<◌, ℕ, true, false, true≢false, List, [], ◌∷◌, None, length, map, inl, inr, refl, sym, ap, subst}
use Rattle.cs_disk.specs.Disk.{Image, State, Write, seen}
use Rattle.cs_mount.specs.MadeSections.{AreMadeOn}
use Rattle.cs_mount.specs.Remaking.{remade}
use Rattle.cs_refusal.specs.declared.refusals.Refusal.TheVariants.{DeviceFault, NotAStore}
use Rattle.cs_doctor.specs.DoctorStores.{IsOpenedRemade, IsOpeningFound, IsOpeningShown, IsStateKept, LacksSections, may_lack, opens}
use Rattle.cs_doctor.specs.declared.diagnoses.Opening.{Opening}
use Rattle.cs_doctor.specs.declared.diagnoses.Opening.TheVariants.{Refused}
use Rattle.cs_doctor.specs.declared.diagnoses.StoreFound.{StoreFound}
use Rattle.cs_doctor.specs.declared.doctor_sections.SectionsFound.{SectionsFound}
use Rattle.cs_doctor.proofs.DoctorOpening.{device_shown, shown_moved, small_shown}

-- a disk that was kept reads as before
pub seen_kept : (old new : State) → IsStateKept old new → seen new ≡ seen old
seen_kept old new (inl same) = ap seen same
seen_kept old new (inr same) = ap seen same

-- ---- as it lies

pub none_made : (count : ℕ) (image : Image) (made : List ℕ) (o : Opening) → made ≡ [] → IsOpeningShown count image o → IsOpeningFound count image made o
none_made count image made o none is = subst (λ (ps : List ℕ). IsOpeningFound count image ps o) (sym none) is

-- a device of fewer pages than any store
pub small_found : (count : ℕ) (image : Image) (made : List ℕ) (o : Opening) → made ≡ [] → count < 10 → o ≡ Refused NotAStore None → IsOpeningFound count image made o
small_found count image made o none lt is = none_made count image made o none (small_shown count image o lt is)

-- one that refuses the reads that an opening needs
pub device_found : (count : ℕ) (image : Image) (made : List ℕ) (o : Opening) → made ≡ [] → o ≡ Refused DeviceFault None → IsOpeningFound count image made o
device_found count image made o none is = none_made count image made o none (device_shown count image o is)

-- ---- with sections that are made

no_writes : (writes : List Write) → [] ≡ map (λ w. w.0) writes → writes ≡ []
no_writes [] is = refl
no_writes (w ∷ writes) is = absurd (let clash : [] ≡ w.0 ∷ map (λ v. v.0) writes = is in cc clash)

remade_found : (count : ℕ) (image : Image) (made : List ℕ) (o : Opening) → IsOpenedRemade count image made o → IsOpeningFound count image made o
remade_found count image [] o it = absurd (it.lacks.some (no_writes it.writes it.on_pages))
remade_found count image (p ∷ made) o it = it

pub some_items : (writes : List Write) (n : ℕ) → length writes ≡ n → false ≡ (n == 0) → writes ≢ []
some_items [] n size test none = true≢false (ap (λ (k : ℕ). k == 0) size ∙ sym test)
some_items (w ∷ writes) n size test none = let clash : w ∷ writes ≡ [] = none in cc clash

-- sections can be made for a disk that was read
pub lacks_now : (n m : ℕ) (i j : Image) (o : Opening) (writes : List Write) → m ≡ n → j ≡ i → may_lack o ≡ true → IsOpeningShown n i o → writes ≢ [] → AreMadeOn n i writes → LacksSections m j o writes
lacks_now n m i j o writes size same refused is some made =
    subst (λ (k : ℕ). LacksSections k j o writes) (sym size)
    (subst (λ (it : Image). LacksSections n it o writes) (sym same) (record { refused = refused; as_it_lies = is; some = some; are_made = made }))

-- A disk of so many pages shows sections that are made. So it was found to open, or not.
pub found_by : (count shown_count : ℕ) (image shown : Image) (before opened : StoreFound) (writes : List Write) (pages : List ℕ) (result : SectionsFound)
    → LacksSections count image before.opening writes → pages ≡ map (λ w. w.0) writes → shown_count ≡ count → shown ≡ remade writes image → IsOpeningShown shown_count shown opened.opening
    → ((opens opened.opening ≡ true) × (result.made.items ≡ pages) × (result.store ≡ opened)) ⊎ ((result.made.items ≡ []) × (result.store ≡ before))
    → IsOpeningFound count image result.made.items result.store.opening
found_by count shown_count image shown before opened writes pages result lacks told sized same is (inl it) =
    subst (λ (store : StoreFound). IsOpeningFound count image result.made.items store.opening) (sym it.2) (remade_found count image result.made.items opened.opening (record {
      before = before.opening;
      writes = writes;
      lacks = lacks;
      on_pages = it.1 ∙ told;
      does_open = it.0;
      shown = shown_moved count shown_count (remade writes image) shown opened.opening sized same is;
    }))
found_by count shown_count image shown before opened writes pages result lacks told sized same is (inr it) =
    subst (λ (store : StoreFound). IsOpeningFound count image result.made.items store.opening) (sym it.1) (none_made count image result.made.items before.opening it.0 lacks.as_it_lies)

-- what was found of a disk that was read is so of the disk before
pub found_moved : (n m : ℕ) (i j : Image) (made : List ℕ) (o : Opening) → m ≡ n → j ≡ i → IsOpeningFound m j made o → IsOpeningFound n i made o
found_moved n m i j made o size same is = subst (λ (k : ℕ). IsOpeningFound k i made o) size (subst (λ (it : Image). IsOpeningFound m it made o) same is)
