-- What a making that was done opens.
use Rattle.std.proofs.Common.{◌≡◌, ◌-◌, inr, ℕ, Bool, true, false, [], Option, None, Some, length, map, slice_get, refl, sym, ◌∙◌, ap, subst, arith}
use Rattle.std.proofs.lemmas.List.{length-replicate}
use Rattle.cs_disk.specs.Disk.{Image, State, flushed, page, seen}
use Rattle.cs_frame.specs.Formats.{formats_of}
use Rattle.cs_frame.specs.Geometries.{Dimensions, IsGeometry, section_size}
use Rattle.law_machine.specs.Device.{Shape}
use Rattle.law_machine.specs.Geometry.{shape_of, twins_in}
use Rattle.law_machine.specs.Recovery.{Recovers}
use Rattle.cs_core.specs.Openings.{IsOpened, IsOpenedAs}
use Rattle.cs_core.specs.Started.{IsNewOn, new_stored}
use Rattle.cs_core.specs.Stored.{Stored}
use Rattle.cs_core.specs.cs_extent.State.{IsWhole, shape}
use Rattle.cs_twin.specs.declared.findings.Half.{Half}
use Rattle.cs_twin.specs.declared.findings.Half.TheVariants.{Whole}
use Rattle.cs_twin.specs.declared.pairs.Pair.{Pair}
use Rattle.cs_twin.specs.Findings.{finding_in, half_in, half_with}
use Rattle.cs_twin.specs.Pairs.{Shows, Versions, half, shown, shown_state}
use Rattle.cs_twin.proofs.Right.{same_map}
use Rattle.cs_mount.specs.Identities.{IsOfOne}
use Rattle.cs_mount.specs.Makings.{HoldsBoth, laid}
use Rattle.cs_mount.specs.Showing.{ShowsOn, shown_on}
use Rattle.cs_mount.specs.StorePairs.{dimensions_on, pages_of, pairs_where, section_version, store_pairs, store_shape, store_version}
use Rattle.cs_mount.proofs.Laid.{there_laid}
use Rattle.cs_mount.proofs.NewOn.{holds_first, shows_first}
use Rattle.cs_mount.proofs.NewPages.{first_section}
use Rattle.cs_mount.proofs.NewShown.{ShowsFirst}
use Rattle.cs_mount.proofs.NewStore.{new_is_opened, new_on, none_counted, recovers_first}
use Rattle.cs_mount.proofs.Ones.{found_one}
use Rattle.cs_mount.proofs.Telling.{found_by_zero, its_one, version_its}

module _ (d : Dimensions) (g : IsGeometry d.format d.extents d.pages d.sections) (twins : twins_in d.format ≡ true) (s : State) (sized : length s.durable ≡ pages_of d) where
  abbrev V : Versions
  V = store_version (Some d)

  -- its dimensions are found
  pub dims_laid : dimensions_on (pages_of d) (laid d s).durable ≡ Some d
  dims_laid =
      let first = ap (section_version d 0) (there_laid d g twins s sized 0 false (omega arith)) ∙ first_section d g in
      let last = ap (section_version d 0) (there_laid d g twins s sized 0 true (omega arith)) ∙ first_section d g in
      let one = its_one (pages_of d) (laid d s).durable d (inr (version_its d (page (laid d s).durable 0) twins (omega (arith, first))))
      (inr (version_its d (page (laid d s).durable (pages_of d - 1)) twins (omega (arith, last)))) in
      found_by_zero d (laid d s).durable twins (omega (arith, first)) one

  module _ (n : ℕ) (m : State) (count : n ≡ pages_of d) (done : m ≡ laid d s) where
    -- what an opening shows
    pub shown_laid : shown_on n (seen m) ≡ shown V (store_pairs d) (laid d s).durable
    shown_laid =
        ap (λ k. shown_on k (seen m)) count ∙ ap (λ (z : State). shown_on (pages_of d) (seen z)) done
        ∙ ap (λ (o : Option Dimensions). shown (store_version o) (pairs_where o) (laid d s).durable) dims_laid

    shows : ShowsFirst d (shown_on n (seen m))
    shows = subst (ShowsFirst d) (sym shown_laid) (shows_first d g twins s sized)

    pub made_recovers : Recovers (store_shape d) (formats_of (store_shape d)) (page (shown_on n (seen m))) 0 (λ id. None)
    made_recovers = recovers_first d g twins (shown_on n (seen m)) shows

    pub made_store : (honest : Type 0) (opened : Image) (found : ℕ × ℕ) (store : Stored) → honest → opened ≡ shown_on n (seen m) → IsWhole store.extents → IsOpened honest opened found store
        → store ≡ new_stored d.format d.extents d.pages d.sections
    made_store honest opened found store h is whole it = new_is_opened d honest opened found store g twins h (subst (ShowsFirst d) (sym is) shows) whole it

    pub made_written : (now : State) → now ≡ record { durable = shown_on n (seen m); volatile = [] } → IsNewOn d.format d.extents d.pages d.sections (shown_state V (store_pairs d) (flushed s)) now
    made_written now is =
        subst (IsNewOn d.format d.extents d.pages d.sections (shown_state V (store_pairs d) (flushed s))) (sym (is ∙ ap (λ (i : Image). record { durable = i; volatile = [] }) shown_laid)) (new_on d g twins s sized)

    pub made_start : (opened : Image) (store : Stored) → store ≡ new_stored d.format d.extents d.pages d.sections → opened ≡ shown_on n (seen m) → Recovers (shape store.extents) (formats_of (shape store.extents)) (page opened) 0 (λ id. None)
    made_start opened store made is =
        subst (λ (u : Stored). Recovers (shape u.extents) (formats_of (shape u.extents)) (page opened) 0 (λ id. None)) (sym made)
        (subst (λ (k : ℕ). let S = shape_of k d.pages d.sections (section_size k d.sections) d.format in Recovers S (formats_of S) (page opened) 0 (λ id. None)) (sym (length-replicate {A = ℕ × ℕ} d.extents (0, 0)))
        (subst (λ (i : Image). Recovers (store_shape d) (formats_of (store_shape d)) (page i) 0 (λ id. None)) (sym is) made_recovers))

    found_laid : dimensions_on n (seen m) ≡ Some d
    found_laid = ap (λ k. dimensions_on k (seen m)) count ∙ ap (λ (z : State). dimensions_on (pages_of d) (seen z)) done ∙ dims_laid

    -- both ends are of the new store
    pub made_one : IsOfOne n (seen m)
    made_one = (found_one n (seen m) d found_laid).0

    -- what shows of what a crash left, by the pairs of the new store
    pub made_shows : (P Q : Image → Type 0) (left : Image) → ((image : Image) → P image → Q image) → ShowsOn n (seen m) P left → Shows V (store_pairs d) Q left
    made_shows P Q left more is =
        (is.0, more is.0 is.1, is.2 ∙ ap (λ (o : Option Dimensions). shown (store_version o) (pairs_where o) is.0) found_laid)

  -- both halves of each pair were written
  whole_half : (k : ℕ) (x : Pair) (twin : Bool) → slice_get (store_pairs d) k ≡ Some x → half_in V (laid d s).durable x twin ≡ Whole 1
  whole_half k x twin at = ap (λ v. half_with v (page (laid d s).durable (half x twin))) (holds_first d g twins s sized k x twin at)

  both_whole : (k : ℕ) (x : Pair) → slice_get (store_pairs d) k ≡ Some x → finding_in V (laid d s).durable x ≡ record { pair = x; own = Whole 1; twin = Whole 1 }
  both_whole k x at =
      ap (λ (h : Half). record { pair = x; own = h; twin = half_in V (laid d s).durable x true }) (whole_half k x false at)
      ∙ ap (λ (h : Half). record { pair = x; own = Whole 1; twin = h }) (whole_half k x true at)

  holds_both : HoldsBoth d (laid d s)
  holds_both = record {
    durable = refl;
    halves = holds_first d g twins s sized;
    findings = ap (λ (o : Option Dimensions). map (finding_in (store_version o) (laid d s).durable) (pairs_where o)) dims_laid
        ∙ same_map (finding_in V (laid d s).durable) (λ (x : Pair). record { pair = x; own = Whole 1; twin = Whole 1 }) (store_pairs d) both_whole;
    fenced = λ k x twin at none. absurd (let one = holds_first d g twins s sized k x twin at in omega (arith, one, none));
  }

  pub made_both : (m now : State) → m ≡ laid d s → now ≡ flushed m → HoldsBoth d now
  made_both m now done is = subst (HoldsBoth d) (sym (is ∙ ap flushed done)) holds_both

-- no command and no shard
pub made_found : (S : Shape) (store : Stored) (found : ℕ × ℕ) → IsOpenedAs S 0 (λ id. None) store found → found ≡ (0, 0)
made_found S store found is = ap (λ (k : ℕ). (k, found.1)) is.1 ∙ ap (λ (k : ℕ). (0, k)) (none_counted found.1 is.2)
