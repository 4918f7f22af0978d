-- What is listed in place of the sections of a store.
use Rattle.std.proofs.Common.{◌≡◌, ◌⊎◌, inl, inr, ⊎_elim, ◌∙◌, ◌<◌, ◌≤◌, ◌+◌, ◌-◌, ◌*◌, ◌^◌, ◌==◌, if◌then◌else◌, ℕ, suc, Bool, true, false, List, [], ◌∷◌, ◌++◌, Option, Some, None, Result, Ok, Err, IfErr, IfOk, OnOk, map, max, min, nat_le, ne_eqb, refl, sym, ap, subst, arith}
use Rattle.std.proofs.lemmas.Bool.{cases_eq}
use Rattle.std.proofs.lemmas.Bool.Decides.{nat_tests}
use Rattle.std.proofs.lemmas.List.{append-nil}
use Rattle.cs_core.specs.cs_chunk.Reads.{IsCaused, IsNoAnswer}
use Rattle.cs_disk.specs.Disk.{Image, Rises, Write, page}
use Rattle.cs_frame.specs.declared.faults.FormatFault.{FormatFault}
use Rattle.cs_frame.specs.declared.formats.FormatNumber.{FormatNumber}
use Rattle.cs_frame.specs.declared.formats.FormatNumber.TheVariants as of_number
use Rattle.cs_frame.specs.declared.locators.Locator.{Locator}
use Rattle.cs_frame.specs.Bytes.{number}
use Rattle.cs_frame.specs.FormatNumbers.{number_in}
use Rattle.cs_frame.specs.Formats.{place_of}
use Rattle.cs_frame.specs.Geometries.{Dimensions, IsGeometry}
use Rattle.cs_frame.specs.Roots.{SpellsRoot, identity_in}
use Rattle.cs_frame.specs.Superblocks.{superblock_fault}
use Rattle.cs_index.specs.declared.stored_runs.StoredRun.{StoredRun}
use Rattle.cs_index.specs.State.{newest_first}
use Rattle.cs_refusal.specs.declared.refusals.Refusal.{Refusal}
use Rattle.cs_refusal.specs.declared.refusals.Refusal.TheVariants.{DeviceFault, OutOfMemory, WornOut}
use Rattle.cs_twin.specs.declared.pairs.Pair.{Pair}
use Rattle.cs_twin.specs.Pairs.{half, version_at}
use Rattle.law_machine.specs.Element.{Entry}
use Rattle.law_machine.specs.Geometry.{twins_in}
use Rattle.law_machine.specs.Index.{entries_of, live_at}
use Rattle.law_machine.specs.Lists.{◌∈◌}
use Rattle.cs_mount.specs.MadeSections.{AddsLive, AreMade, AreNamed, IsNamedBy, IsInside, all_made, halves_lost, made_section, made_writes, newest_version, section_pair, section_serves, serves, shown_half, writes_by}
use Rattle.cs_mount.specs.Makings.{pair_of_section}
use Rattle.cs_mount.specs.StorePairs.{is_section, pages_of, root_version, section_at, section_version, store_pair, store_version, without_fault}
use Rattle.cs_mount.proofs.MadeShown.{page_not_root, section_there}
use Rattle.cs_mount.proofs.MadeWrites.{place_below}
use Rattle.cs_mount.proofs.Telling.{number_four}
use Rattle.cs_mount.proofs.Twins.{frames}
use Rattle.cs_mount.proofs.Unpaired.{are_pairs, pair_there}

-- ---- what is named

pub adds_named : (runs : List StoredRun) (places named : List Locator) (index : List Entry) → index ≡ entries_of (newest_first runs) → map (λ run. run.place) runs ≡ places → AddsLive index places named → AreNamed runs named
adds_named runs places named index is listed adds = record {
  all = λ l has. ⊎_elim
      (λ (of_run : l ∈ map (λ run. run.place) runs). adds.before l (subst (λ (ls : List Locator). l ∈ ls) listed of_run))
      (λ (of_shard : (id : ℕ) × (place_of l ∈ live_at (entries_of (newest_first runs)) id)). adds.live of_shard.0 (place_of l) (subst (λ (es : List Entry). place_of l ∈ live_at es of_shard.0) (sym is) of_shard.1))
      has;
  only = λ l has. ⊎_elim
      (λ (before : l ∈ places). inl (subst (λ (ls : List Locator). l ∈ ls) (sym listed) before))
      (λ (live : (id : ℕ) × (place_of l ∈ live_at index id)). inr (live.0, subst (λ (es : List Entry). place_of l ∈ live_at es live.0) is live.1))
      (adds.only l has);
}

-- what holds of all that was read
pub if_read : {T E : Type 0} (r : Result T E) (P Q : T → Type 0) → ((x : T) → P x → Q x) → IfOk r P → IfOk r Q
if_read (Ok x) P Q then_so is = then_so x is
if_read (Err e) P Q then_so is = tt

-- ---- one section

pub nothing_listed : (d : Dimensions) (root : ℕ) (named : List Locator) (j own twin version : ℕ) (bytes : List ℕ) (xs : List Write) (served : Bool) → version ≡ max own twin
    → served ≡ serves d root named j version bytes → served ≡ true → xs ≡ xs ++ writes_by d root named j own twin bytes
nothing_listed d root named j own twin version bytes xs served newest is on =
    let test : serves d root named j (max own twin) bytes ≡ true = ap (λ (v : ℕ). serves d root named j v bytes) (sym newest) ∙ sym is ∙ on in
    sym (ap (λ (b : Bool). xs ++ (if b then [] else map (λ p. (p, made_section d named (1 + max own twin) j)) (halves_lost (section_pair d j) own twin))) test ∙ append-nil xs)

pub made_listed : (d : Dimensions) (root : ℕ) (named : List Locator) (j own twin version : ℕ) (bytes made : List ℕ) (pair : Pair) (xs ys : List Write) (served : Bool) → version ≡ max own twin
    → served ≡ serves d root named j version bytes → served ≡ false → pair ≡ section_pair d j → made ≡ made_section d named (version + 1) j
    → ys ≡ xs ++ map (λ p. (p, made)) (halves_lost pair own twin) → ys ≡ xs ++ writes_by d root named j own twin bytes
made_listed d root named j own twin version bytes made pair xs ys served newest is off its page listed =
    let test : serves d root named j (max own twin) bytes ≡ false = ap (λ (v : ℕ). serves d root named j v bytes) (sym newest) ∙ sym is ∙ off in
    let next : version + 1 ≡ 1 + max own twin = omega (arith, newest) in
    listed
    ∙ ap (λ (x : Pair). xs ++ map (λ p. (p, made)) (halves_lost x own twin)) its
    ∙ ap (λ (z : List ℕ). xs ++ map (λ p. (p, z)) (halves_lost (section_pair d j) own twin)) (page ∙ ap (λ (v : ℕ). made_section d named v j) next)
    ∙ sym (ap (λ (b : Bool). xs ++ (if b then [] else map (λ p. (p, made_section d named (1 + max own twin) j)) (halves_lost (section_pair d j) own twin))) test)

module _ (d : Dimensions) (g : IsGeometry d.format d.extents d.pages d.sections) (twins : twins_in d.format ≡ true) (j : ℕ) (lt : j < d.sections) where
  -- its halves are there
  pub half_there : (pair : Pair) (count : ℕ) → pair ≡ section_pair d j → pages_of d ≡ count → (b : Bool) → half pair b < count
  half_there pair count is sized b = subst (λ (n : ℕ). half pair b < n) sized (subst (λ (x : Pair). half x b < pages_of d) (sym is)
      ((are_pairs d g twins).inside (pair_of_section j) (section_pair d j) b (pair_there d g twins (pair_of_section j) (place_below j d.sections lt))))

  pub lost_inside : (pair : Pair) (own twin : ℕ) (bytes : List ℕ) → pair ≡ section_pair d j → IsInside d (map (λ p. (p, bytes)) (halves_lost pair own twin))
  lost_inside pair own twin bytes is = by (own == 0) (twin == 0)
    where
      first : pair.page < pages_of d
      first = half_there pair (pages_of d) is refl false

      last : pair.twin < pages_of d
      last = half_there pair (pages_of d) is refl true

      by : (a b : Bool) → IsInside d (map (λ p. (p, bytes)) ((if a then pair.page ∷ [] else []) ++ (if b then pair.twin ∷ [] else [])))
      by true true = (first, (last, tt))
      by true false = (first, tt)
      by false true = (last, tt)
      by false false = tt

  -- by the store's rules
  version_there : (bytes : List ℕ) → store_version (Some d) (section_pair d j).page bytes ≡ section_version d j bytes
  version_there bytes =
      ap (λ (b : Bool). if b then root_version d.format bytes else section_version d (section_at d (section_pair d j).page) bytes) (ne_eqb (section_pair d j).page 1 (page_not_root (d.extents * d.pages) j (frames d g twins)))
      ∙ ap (λ n. section_version d n bytes) (section_there (d.extents * d.pages) j)

  version_whole : (bytes : List ℕ) → 0 < section_version d j bytes → superblock_fault of_number.Four bytes ≡ None
  version_whole bytes some = ap (λ (n : FormatNumber). superblock_fault n bytes) (sym (number_four d.format twins)) ∙ by (is_section d j bytes) (superblock_fault (number_in d.format) bytes) refl some
    where
      by : (t : Bool) (fault : Option FormatFault) → superblock_fault (number_in d.format) bytes ≡ fault → 0 < (if t then without_fault fault (number 4 12 bytes) else 0) → superblock_fault (number_in d.format) bytes ≡ None
      by true None is some = is
      by true (Some f) is some = absurd (omega (arith, some))
      by false fault is some = absurd (omega (arith, some))

  module _ (image : Image) (v w : ℕ) (bytes : List ℕ) (own : v ≡ version_at (store_version (Some d)) image (section_pair d j) false) (twin : w ≡ version_at (store_version (Some d)) image (section_pair d j) true)
      (shown : bytes ≡ shown_half d image (section_pair d j)) where
    -- the half that shows is whole, where one is
    pub shown_whole : (most : ℕ) → most ≡ max v w → 0 < most → superblock_fault of_number.Four bytes ≡ None
    shown_whole most is some = subst (λ (z : List ℕ). superblock_fault of_number.Four z ≡ None) (sym shown)
        (version_whole (shown_half d image (section_pair d j)) (subst (λ (n : ℕ). 0 < n) (version_there (shown_half d image (section_pair d j)))
        (newest (version_at (store_version (Some d)) image (section_pair d j) false) (version_at (store_version (Some d)) image (section_pair d j) true) (λ b. version_at (store_version (Some d)) image (section_pair d j) b) refl refl
        (omega (arith, is, some, own, twin)))))
      where
        newest : (a b : ℕ) (at : Bool → ℕ) → at false ≡ a → at true ≡ b → 0 < max a b → 0 < at (nat_le a b)
        newest a b at first last some = by (nat_le a b) refl
          where
            by : (t : Bool) → nat_le a b ≡ t → 0 < at t
            by true test = grind (arith, nat_tests)
            by false test = grind (arith, nat_tests)

    pub listed_is : (root : ℕ) (named : List Locator) → writes_by d root named j v w bytes ≡ made_writes d image root named j
    listed_is root named =
        ap (λ (n : ℕ). writes_by d root named j n w bytes) own
        ∙ ap (λ (n : ℕ). writes_by d root named j (version_at (store_version (Some d)) image (section_pair d j) false) n bytes) twin
        ∙ ap (writes_by d root named j (version_at (store_version (Some d)) image (section_pair d j) false) (version_at (store_version (Some d)) image (section_pair d j) true)) shown

    pub fit_is : {T E : Type 0} (r : Result T E) (root : ℕ) (named : List Locator) → OnOk r (serves d root named j (max v w) bytes ≡ false → 1 + max v w < 2 ^ 63)
        → OnOk r (section_serves d image root named j ≡ false → 1 + newest_version d image j < 2 ^ 63)
    fit_is (Err e) root named fit = tt
    fit_is (Ok t) root named fit =
        subst (λ (n : ℕ). serves d root named j n (shown_half d image (section_pair d j)) ≡ false → 1 + n < 2 ^ 63)
        (ap (λ (n : ℕ). max n w) own ∙ ap (λ (n : ℕ). max (version_at (store_version (Some d)) image (section_pair d j) false) n) twin)
        (subst (λ (z : List ℕ). serves d root named j (max v w) z ≡ false → 1 + max v w < 2 ^ 63) shown fit)

    pub worn_is : 2 ^ 63 ≤ 1 + max v w → 2 ^ 63 ≤ 1 + newest_version d image j
    worn_is last = omega (arith, last, own, twin)

-- ---- refusals

-- what asks nothing of the device
pub caused_unasked : {T : Type 0} (a b : ℕ) (r : Result T Refusal) (P : Type 0) → a ≤ b → IfErr r (λ f. (f ≡ OutOfMemory) ⊎ ((f ≡ WornOut) × P)) → IsCaused a b r
caused_unasked a b (Ok t) P later why = record { later = later; failed = λ is. absurd (cc is) }
caused_unasked a b (Err f) P later why = record {
  later = later;
  failed = λ is. ⊎_elim (λ (memory : f ≡ OutOfMemory). absurd (cc (is, memory))) (λ (worn : (f ≡ WornOut) × P). absurd (let no : f ≡ WornOut = worn.0 in cc (is, no))) why;
}

-- why nothing is listed of a section
pub worn_or_none : {T : Type 0} (r : Result T Refusal) (P Q : Type 0) → (P → Q) → IfErr r (λ f. (f ≡ OutOfMemory) ⊎ ((f ≡ WornOut) × P)) → IfErr r (λ f. IsNoAnswer f ⊎ ((f ≡ WornOut) × Q))
worn_or_none (Ok t) P Q then_so why = tt
worn_or_none (Err f) P Q then_so why = ⊎_elim (λ memory. inl (inr memory)) (λ worn. inr (worn.0, then_so worn.1)) why

pub no_more_than_worn : {T : Type 0} (r : Result T Refusal) (P : Type 0) → IfErr r (λ f. (f ≡ OutOfMemory) ⊎ ((f ≡ WornOut) × P)) → IfErr r (λ f. IsNoAnswer f ⊎ (f ≡ WornOut))
no_more_than_worn (Ok t) P why = tt
no_more_than_worn (Err f) P why = ⊎_elim (λ memory. inl (inr memory)) (λ worn. inr worn.0) why

-- what came later, for the same cause
pub caused_later : {T U : Type 0} (a b c : ℕ) (read : Result U Refusal) (r : Refusal) → a ≤ b → read ≡ Err r → IsCaused b c read → IsCaused {T = T} a c (Err r)
caused_later a b c read r before is caused = record {
  later = let later = caused.later in omega (arith, before, later);
  failed = λ e. let device : r ≡ DeviceFault = cc in let rises : Rises b c = caused.failed (is ∙ ap Err device) in let risen : min (b + 1) (2 ^ 64 - 1) ≤ c = rises in omega (arith, before, risen);
}

-- ---- all sections

pub next_section : (d : Dimensions) (image : Image) (root : ℕ) (named : List Locator) (k : ℕ) → all_made d image root named (k + 1) ≡ all_made d image root named k ++ made_writes d image root named k
next_section d image root named k = ap (all_made d image root named) (let same : k + 1 ≡ suc k = omega arith in same)

pub fit_more : (d : Dimensions) (image : Image) (root : ℕ) (named : List Locator) (k : ℕ) → ((j : ℕ) → j < k → section_serves d image root named j ≡ false → 1 + newest_version d image j < 2 ^ 63)
    → (section_serves d image root named k ≡ false → 1 + newest_version d image k < 2 ^ 63) → (j : ℕ) → j < k + 1 → section_serves d image root named j ≡ false → 1 + newest_version d image j < 2 ^ 63
fit_more d image root named k before here j lt = elim (cases_eq j k) [
  | inl last ↦ subst (λ (n : ℕ). section_serves d image root named n ≡ false → 1 + newest_version d image n < 2 ^ 63) (sym last) here
  | inr earlier ↦ before j (omega (arith, lt, earlier))
]

-- what was listed of all, of the image that was read before
pub all_done : {T E : Type 0} (r : Result T E) (items : T → List Write) (d : Dimensions) (image after : Image) → after ≡ image → (version commands : ℕ) (places named : List Locator)
    → SpellsRoot (shown_half d image (store_pair d 1)) (identity_in d.format) version commands places → IsNamedBy d (page image) places named
    → IfOk r (λ x. items x ≡ all_made d after version named d.sections)
    → OnOk r ((j : ℕ) → j < d.sections → section_serves d after version named j ≡ false → 1 + newest_version d after j < 2 ^ 63) → IfOk r (λ x. AreMade d image (items x))
all_done (Err e) items d image after same version commands places named root by_runs made fit = tt
all_done (Ok x) items d image after same version commands places named root by_runs made fit = record {
  version = version;
  commands = commands;
  places = places;
  root = root;
  named = named;
  by_runs = by_runs;
  made = subst (λ (i : Image). items x ≡ all_made d i version named d.sections) same made;
  fit = subst (λ (i : Image). (j : ℕ) → j < d.sections → section_serves d i version named j ≡ false → 1 + newest_version d i j < 2 ^ 63) same fit;
}
