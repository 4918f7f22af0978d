-- A state that a history leads to from a store that was opened on an image with room.
use Rattle.std.proofs.Common.{◌≡◌, inl, inr, ⊎_elim, ℕ, ◌-◌, ◌==◌, ◌&&◌, Bool, true, false, nat_lt, List, [], ◌∷◌, Option, Some, None, if◌then◌else◌, refl, sym, ap, ◌∙◌, subst}
use Rattle.std.specs.Prelude.{option_map}
use Rattle.cs_disk.specs.Disk.{Image, page}
use Rattle.cs_frame.specs.declared.faults.FormatFault.{FormatFault}
use Rattle.cs_frame.specs.declared.faults.FormatFault.TheVariants as fault
use Rattle.cs_frame.specs.Formats.{formats_of, kind_number, refusal_of}
use Rattle.cs_frame.specs.FormatNumbers.{number_in}
use Rattle.cs_frame.specs.Frames.{frame_fault}
use Rattle.law_machine.proofs.Kept.{history_on}
use Rattle.law_machine.specs.Device.{IsShape, Page, Shape, is_meant}
use Rattle.law_machine.specs.Element.{Map, Opening, Run}
use Rattle.law_machine.specs.Formats.{ChunkFrame, Formats, is_long_frame, limit_in, opening_in, pages_from, places, refused_or}
use Rattle.law_machine.specs.Frames.{IsFormat}
use Rattle.law_machine.specs.Grounds.{Refuses}
use Rattle.law_machine.specs.Open.{opened_state}
use Rattle.law_machine.specs.Recovery.{Recovers}
use Rattle.law_machine.specs.Refusal.{BadDigest, BadLength, BadMagic, BadPadding, BadVersion, DeviceFault, Full, Misplaced, Refusal}
use Rattle.law_machine.specs.State.{End, Event, Issue, Refused, Reply, State}
use Rattle.law_machine.specs.Step.{History, Step}
use Rattle.law_room.proofs.MachineFull.{only_puts}
use Rattle.law_room.proofs.MachineNames.{step_roomy}
use Rattle.law_room.proofs.MachineSteps.{young_history}
use Rattle.law_room.proofs.OpenedRoots.{new_roomy}
use Rattle.law_room.specs.Example.{new_room}
use Rattle.law_room.specs.Lives.{IsFormatWithRoom}
use Rattle.law_room.specs.OfMachine.{IsPut, NoneToldFull, NoneWorn}
use Rattle.law_room.specs.Rooms.{Room}
use Rattle.law_room.specs.RootsOfMachine.{IsRoomy}
use Rattle.law_room_in_store.specs.Images.{HasRoomOn}

-- no fault of a frame is told as want of a place
never_full : (f : FormatFault) → refusal_of f ≡ Full → ⊥
never_full fault.BadMagic is = let no : BadMagic ≡ Full = is in cc
never_full fault.BadDigest is = let no : BadDigest ≡ Full = is in cc
never_full fault.BadLength is = let no : BadLength ≡ Full = is in cc
never_full fault.BadPadding is = let no : BadPadding ≡ Full = is in cc
never_full fault.BadVersion is = let no : BadVersion ≡ Full = is in cc
never_full fault.BadGeometry is = let no : BadLength ≡ Full = is in cc
never_full fault.OutOfMemory is = let no : BadLength ≡ Full = is in cc
never_full fault.OutOfOrder is = let no : BadLength ≡ Full = is in cc
never_full fault.Misplaced is = let no : Misplaced ≡ Full = is in cc

no_fault_full : (o : Option FormatFault) → option_map refusal_of o ≡ Some Full → ⊥
no_fault_full None is = let no : None ≡ Some Full = is in cc
no_fault_full (Some f) is = never_full f (let same : Some (refusal_of f) ≡ Some Full = is in cc)

-- nor is it that another frame lies there, or one that is too short
no_other_full : (o : Option Refusal) (other : Refusal) → (Some other ≡ Some Full → ⊥) → (o ≡ Some Full → ⊥) → Some (refused_or o other) ≡ Some Full → ⊥
no_other_full None other apart none is = apart is
no_other_full (Some f) other apart none is = none is

-- the fault of a frame that is meant or not
abbrev meant_fault : Bool → Option FormatFault → Option Refusal
meant_fault meant o = if meant then option_map refusal_of o else Some (refused_or (option_map refusal_of o) Misplaced)

no_meant_full : (meant : Bool) (o : Option FormatFault) → meant_fault meant o ≡ Some Full → ⊥
no_meant_full true o is = no_fault_full o is
no_meant_full false o is = no_other_full (option_map refusal_of o) Misplaced (λ same. let no : Some Misplaced ≡ Some Full = same in cc) (no_fault_full o) is

no_long_full : (long meant : Bool) (o : Option FormatFault) → (if long then meant_fault meant o else Some (refused_or (meant_fault meant o) BadLength)) ≡ Some Full → ⊥
no_long_full true meant o is = no_meant_full meant o is
no_long_full false meant o is = no_other_full (meant_fault meant o) BadLength (λ same. let no : Some BadLength ≡ Some Full = same in cc) (no_meant_full meant o) is

no_damage_full : (there long meant : Bool) (o : Option FormatFault) → (if there then if long then meant_fault meant o else Some (refused_or (meant_fault meant o) BadLength) else None) ≡ Some Full → ⊥
no_damage_full true long meant o is = no_long_full long meant o is
no_damage_full false long meant o is = let no : None ≡ Some Full = is in cc

-- an event that is refused for want of a place is refused by the machine's grounds
pub refused_full : (S : Shape) (F : Formats) (s t : State) (event : Event) → Step S F s event (Refused Full) t
    → Refuses S F s event Full
refused_full S F s t Issue (inl refused) = refused.0
refused_full S F s t Issue (inr failed) = absurd (let no : Full ≡ DeviceFault = failed.1 in cc)
refused_full S F s t End (inl refused) = refused.0
refused_full S F s t End (inr failed) = absurd (let no : Full ≡ DeviceFault = failed.1 in cc)
refused_full S F s t event refused = ⊎_elim (λ grounds. grounds)
    (λ failed. absurd (let no : Full ≡ DeviceFault = failed.1 in cc)) refused.0

module _ (S : Shape) (shape : IsShape S) (format : IsFormat S (formats_of S)) (fit : IsFormatWithRoom S (formats_of S))
    (apart : S.apart ≡ true) where
  abbrev F : Formats
  F = formats_of S

  no_runs : (runs : List Run) → places runs ≡ [] → runs ≡ []
  no_runs [] is = refl
  no_runs (run ∷ runs) wrong = absurd cc

  -- where one opening finds no run none does, and a store in which nothing lies has room
  pub nothing_has_room : (image : Image) (k : ℕ) (o : Map) (found : Recovers S F (page image) k o) → found.runs ≡ []
      → HasRoomOn S image
  nothing_has_room image k o found none n m gives worn =
      let same : places gives.runs ≡ places found.runs = (format.one_root gives.version found.version n k (places gives.runs)
      (places found.runs) gives.root_fits found.root_fits (sym gives.root ∙ found.root)).1 in (
        new_room,
        new_roomy S F apart (page image) n m gives shape (no_runs gives.runs (same ∙ ap places none)) worn,
      )

  roomy_history : (history : List (Event × Reply)) (s t : State) (r : Room) → IsRoomy S F s r → History S F s history t
      → NoneWorn S t → (q : Room) × IsRoomy S F t q
  roomy_history [] s t r roomy is young = (r, subst (λ (u : State). IsRoomy S F u r) (sym is) roomy)
  roomy_history (x ∷ xs) s t r roomy (mid, step, rest) young =
      let next = step_roomy S F apart shape format s mid r roomy
      (young_history S F shape format apart mid t xs rest young) x.0 x.1 step in
      roomy_history xs mid t next.0 next.2 rest young

  module _ (image : Image) (n : ℕ) (m : Map) (gives : Recovers S F (page image) n m) (history : List (Event × Reply))
      (s : State) (run : History S F (opened_state S F (page image) n m gives) history s) (has : HasRoomOn S image)
      (young : NoneWorn S s) where
    -- it has room
    pub reached_roomy : (r : Room) × IsRoomy S F s r
    reached_roomy =
        let first = has n m gives
        (young_history S F shape format apart (opened_state S F (page image) n m gives) s history run young) in
        roomy_history history (opened_state S F (page image) n m gives) s first.0 first.1 run young

    none_told : NoneToldFull s
    none_told id l there bad =
        let same : s.opening ≡ opening_in S F (page image) gives.pointers gives.generations =
        (history_on S F (opened_state S F (page image) n m gives) s history run).opening in
        let pages : List Page = pages_from S F (page image) l.extent l.page (limit_in S F gives.pointers gives.generations l - l.page) in
        no_damage_full ((gives.generations l.extent == l.generation) && nat_lt l.page (gives.pointers l.extent))
        (is_long_frame F pages) (is_meant S l.mark pages) (frame_fault (number_in S.format) (kind_number ChunkFrame) pages)
        (sym (ap (λ (o : Opening). o.damage l) same) ∙ bad)

    -- and refuses nothing but puts for want of a place
    pub reached_full : (event : Event) → Refuses S F s event Full → IsPut event
    reached_full event full =
        only_puts S F shape format apart s reached_roomy.0 event reached_roomy.1.room fit.fits none_told full
