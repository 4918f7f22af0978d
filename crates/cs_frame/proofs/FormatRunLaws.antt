-- Runs as a format has them.
use Rattle.std.proofs.Common.{◌≡◌, ◌≢◌, ℕ, ◌≤◌, Bool, true, false, List, [], ◌∷◌, ◌++◌, length, length-append, take, drop, bytes_eq, nat_le, None, Some, Option, refl, sym, ap, ◌∙◌, arith}
use Rattle.std.proofs.lemmas.Bool.{le-leb, leb-true}
use Rattle.std.proofs.lemmas.List.{drop_at, length-take-le, take_at, take-append-drop}
use Rattle.cs_frame.specs.declared.faults.FormatFault.{FormatFault}
use Rattle.cs_frame.specs.declared.faults.FormatFault.TheVariants.{BadLength, Misplaced}
use Rattle.cs_frame.specs.Bytes.{IsBytes, field}
use Rattle.cs_frame.specs.Faults.{first_fault}
use Rattle.cs_frame.specs.FormatRuns.{SpellsRun, SpellsStored, front_length_test, front_test, run_fault, stored_fault}
use Rattle.cs_frame.specs.Geometries.{FitsFormat}
use Rattle.cs_frame.specs.PackedRuns.{SpellsPacked, packed_entries_in, packed_fault, packed_run}
use Rattle.cs_frame.specs.Runs.{Entry, SpellsPlain, entries_in}
use Rattle.cs_frame.proofs.Fields.{IsBytes-drop}
use Rattle.cs_frame.proofs.PackedLaws.{fault-spelled as packed_has_none, run_is_read as packed_is_read, spells as packed_spells}
use Rattle.cs_frame.proofs.RunLaws.{run_fault-spelled, run_is_read, spells}
use Rattle.cs_frame.proofs.TestLaws.{Passes, and_passes, equal_bytes, fails_second, none_rest, passed, same_bytes}
use Rattle.law_machine.specs.Format.{Format, Four, Two}

-- the front of an identity has eight bytes
pub length-front : (store : List ℕ) (device : ℕ) → FitsFormat (Four store device) → length (take 8 store) ≡ 8
length-front store device fits = length-take-le 8 store (omega (arith, fits.0.size))

-- ---- the run of a store

-- what the tests of the front say, and that of the rest
record IsFronted (front payload : List ℕ) : Type 0 where
  long : 8 ≤ length payload
  same : take 8 payload ≡ front
  rest : packed_fault (drop 8 payload) ≡ None

fronted : (front payload : List ℕ) → stored_fault front payload ≡ None → IsFronted front payload
fronted front payload h =
    let p = passed (nat_le 8 (length payload)) BadLength (front_test front payload ∷ packed_fault (drop 8 payload) ∷ []) h in
    let q = passed (bytes_eq (field 0 8 payload) front) Misplaced (packed_fault (drop 8 payload) ∷ []) p.1 in
    record { long = leb-true _ _ p.0; same = same_bytes _ _ q.0; rest = (none_rest (packed_fault (drop 8 payload)) [] q.1).0 }

-- a payload without a fault spells what is read from it
pub stored_spells : (front payload : List ℕ) (entries : List Entry) → IsBytes payload → stored_fault front payload ≡ None
    → entries ≡ packed_entries_in (drop 8 payload) → SpellsStored front payload entries
stored_spells front payload entries are h read =
    let it = fronted front payload h in
    let s = packed_spells (drop 8 payload) entries (IsBytes-drop 8 payload are) it.rest read in
    record {
      fits = s.fits;
      spelled = sym (take-append-drop 8 payload) ∙ ap (λ (xs : List ℕ). xs ++ drop 8 payload) it.same ∙ ap (λ (xs : List ℕ). front ++ xs) s.spelled;
    }

-- the tests of the front alone
abbrev pub front_fault : (front payload : List ℕ) → Option FormatFault
front_fault front payload = first_fault (front_length_test payload ∷ front_test front payload ∷ [])

-- they find nothing where all tests do
pub fronts_pass : (front payload : List ℕ) → stored_fault front payload ≡ None → front_fault front payload ≡ None
fronts_pass front payload h = go (front_length_test payload) (front_test front payload) (packed_fault (drop 8 payload)) h
  where
    go : (a b c : Option FormatFault) → first_fault (a ∷ b ∷ c ∷ []) ≡ None → first_fault (a ∷ b ∷ []) ≡ None
    go None None c h = refl
    go None (Some f) c h = h
    go (Some f) b c h = h

-- what they find all tests do, and where they find nothing the rest is tested
pub front_refused : (front payload : List ℕ) (f : FormatFault) → front_fault front payload ≡ Some f → stored_fault front payload ≡ Some f
front_refused front payload f h = go (front_length_test payload) (front_test front payload) (packed_fault (drop 8 payload)) h
  where
    go : (a b c : Option FormatFault) → first_fault (a ∷ b ∷ []) ≡ Some f → first_fault (a ∷ b ∷ c ∷ []) ≡ Some f
    go None None c h = absurd (cc h)
    go None (Some g) c h = h
    go (Some g) b c h = h

pub front_passed : (front payload : List ℕ) → front_fault front payload ≡ None → packed_fault (drop 8 payload) ≡ stored_fault front payload
front_passed front payload h = go (front_length_test payload) (front_test front payload) (packed_fault (drop 8 payload)) h
  where
    go : (a b c : Option FormatFault) → first_fault (a ∷ b ∷ []) ≡ None → c ≡ first_fault (a ∷ b ∷ c ∷ [])
    go None None None h = refl
    go None None (Some f) h = refl
    go None (Some g) c h = absurd (cc h)
    go (Some g) b c h = absurd (cc h)

module _ (front payload : List ℕ) (entries : List Entry) (eight : length front ≡ 8) (s : SpellsStored front payload entries) where
  pub front_is_read : take 8 payload ≡ front
  front_is_read = ap (take 8) s.spelled ∙ take_at front (packed_run entries) 8 eight

  pub rest_is_packed : SpellsPacked (drop 8 payload) entries
  rest_is_packed = record { fits = s.fits; spelled = ap (drop 8) s.spelled ∙ drop_at front (packed_run entries) 8 eight }

  -- what is spelled is read again
  pub stored_is_read : packed_entries_in (drop 8 payload) ≡ entries
  stored_is_read = packed_is_read (drop 8 payload) entries rest_is_packed

  pub long_enough : nat_le 8 (length payload) ≡ true
  long_enough = le-leb 8 (length payload) (omega (arith, eight, ap length s.spelled, length-append front (packed_run entries)))

  -- and has no fault
  pub stored_has_none : stored_fault front payload ≡ None
  stored_has_none =
      let all : Passes _ = and_passes _ BadLength _ long_enough (and_passes _ Misplaced _ (equal_bytes _ _ front_is_read) (alone (packed_fault (drop 8 payload)) (packed_has_none (drop 8 payload) entries rest_is_packed))) in
      all.none
    where
      alone : (found : Option FormatFault) → found ≡ None → Passes (found ∷ [])
      alone None is = record { none = refl }
      alone (Some f) is = cc

  -- but as a run of another store it has
  pub of_other_store : (other : List ℕ) → other ≢ front → stored_fault other payload ≡ Some Misplaced
  of_other_store other differ = fails_second (nat_le 8 (length payload)) (bytes_eq (field 0 8 payload) other) BadLength Misplaced (packed_fault (drop 8 payload) ∷ []) long_enough
      (go (bytes_eq (field 0 8 payload) other) refl)
    where
      go : (b : Bool) → bytes_eq (field 0 8 payload) other ≡ b → b ≡ false
      go true is = absurd (differ (sym (same_bytes (field 0 8 payload) other is) ∙ front_is_read))
      go false is = refl

-- ---- runs of a format

pub spells_some : (format : Format) (payload : List ℕ) → IsBytes payload → run_fault format payload ≡ None → (entries : List Entry) × SpellsRun payload format entries
spells_some Two payload are h = let s = spells payload (entries_in payload) are h refl in (entries_in payload, record { fits = s.fits; spelled = s.spelled })
spells_some (Four store device) payload are h =
    let s = stored_spells (take 8 store) payload (packed_entries_in (drop 8 payload)) are h refl in
    (packed_entries_in (drop 8 payload), record { fits = s.fits; spelled = s.spelled })

pub fault-spelled : (format : Format) (payload : List ℕ) (entries : List Entry) → FitsFormat format → SpellsRun payload format entries → run_fault format payload ≡ None
fault-spelled Two payload entries fits s = run_fault-spelled payload entries (record { fits = s.fits; spelled = s.spelled })
fault-spelled (Four store device) payload entries fits s =
    stored_has_none (take 8 store) payload entries (length-front store device fits) (record { fits = s.fits; spelled = s.spelled })

pub one_run : (format : Format) (payload : List ℕ) (entries es : List Entry) → SpellsRun payload format entries → SpellsRun payload format es → entries ≡ es
one_run Two payload entries es a b =
    sym (run_is_read payload entries (record { fits = a.fits; spelled = a.spelled })) ∙ run_is_read payload es (record { fits = b.fits; spelled = b.spelled })
one_run (Four store device) payload entries es a b =
    let front : List ℕ = take 8 store in
    let same : packed_run entries ≡ packed_run es =
    sym (drop_at front (packed_run entries) (length front) refl) ∙ ap (drop (length front)) (sym a.spelled ∙ b.spelled) ∙ drop_at front (packed_run es) (length front) refl in
    sym (packed_is_read (packed_run entries) entries (record { fits = a.fits; spelled = refl }))
    ∙ packed_is_read (packed_run entries) es (record { fits = b.fits; spelled = same })

pub one_store : (store other : List ℕ) (device other_device : ℕ) (payload : List ℕ) (entries : List Entry) → FitsFormat (Four store device)
    → SpellsRun payload (Four store device) entries → take 8 other ≢ take 8 store → run_fault (Four other other_device) payload ≡ Some Misplaced
one_store store other device other_device payload entries fits s differ =
    of_other_store (take 8 store) payload entries (length-front store device fits) (record { fits = s.fits; spelled = s.spelled }) (take 8 other) differ

-- a run of a format is one of the kinds
pub of_plain : (bytes : List ℕ) (entries : List Entry) → SpellsPlain bytes entries → SpellsRun bytes Two entries
of_plain bytes entries s = record { fits = s.fits; spelled = s.spelled }

pub as_plain : (bytes : List ℕ) (entries : List Entry) → SpellsRun bytes Two entries → SpellsPlain bytes entries
as_plain bytes entries s = record { fits = s.fits; spelled = s.spelled }

pub of_stored : (store bytes : List ℕ) (device : ℕ) (entries : List Entry) → SpellsStored (take 8 store) bytes entries → SpellsRun bytes (Four store device) entries
of_stored store bytes device entries s = record { fits = s.fits; spelled = s.spelled }

pub as_stored : (store bytes : List ℕ) (device : ℕ) (entries : List Entry) → SpellsRun bytes (Four store device) entries → SpellsStored (take 8 store) bytes entries
as_stored store bytes device entries s = record { fits = s.fits; spelled = s.spelled }
