-- What one opening of an image finds there any opening finds: so room is told by the image alone.
use Rattle.std.proofs.Common.{◌≡◌, inl, inr, ℕ, ◌-◌, ◌<◌, List, [], ◌++◌, map, le_trans, le_of_eq, refl, sym, ap, ◌∙◌, subst}
use Rattle.law_machine.proofs.Filled.{damage_here, limit_here, limits_agree, reads_own}
use Rattle.law_machine.proofs.LocalRecovery.{live_passes}
use Rattle.law_machine.proofs.Unique.{same_entries}
use Rattle.law_machine.specs.Device.{IsShape, Page, Shape}
use Rattle.law_machine.specs.Element.{Entry, Locator, Map, Opening}
use Rattle.law_machine.specs.Formats.{ChunkFrame, Formats, limit_in, opening_in, pages_from, places, fault_for}
use Rattle.law_machine.specs.Frames.{IsFormat}
use Rattle.law_machine.specs.Index.{Passes, entries_of, live_at}
use Rattle.law_machine.specs.Lists.{◌∈◌}
use Rattle.law_machine.specs.Recovery.{Recovers}
use Rattle.law_room.proofs.MachineChunks.{chunks_move}
use Rattle.law_room.proofs.MachineCrash.{root_inside, run_extents_are}
use Rattle.law_room.specs.Events.{forget}
use Rattle.law_room.specs.OfMachine.{AreChunksOf, HasPages, IsRootIn, of_id}
use Rattle.law_room.specs.RootsOfMachine.{TellsPointers}
use Rattle.law_room.specs.Rooms.{Root}

module _ (S : Shape) (F : Formats) (shape : IsShape S) (format : IsFormat S F) (tells : TellsPointers S F)
    (img : ℕ → Page) (n k : ℕ) (m o : Map) (gives : Recovers S F img n m) (other : Recovers S F img k o) where
  abbrev opening : Opening
  opening = opening_in S F img gives.pointers gives.generations

  abbrev again : Opening
  again = opening_in S F img other.pointers other.generations

  places_agree : places gives.runs ≡ places other.runs
  places_agree = (format.one_root gives.version other.version n k (places gives.runs) (places other.runs) gives.root_fits
      other.root_fits (sym gives.root ∙ other.root)).1

  entries_agree : entries_of gives.runs ≡ entries_of other.runs
  entries_agree = same_entries S F format img gives.pointers gives.generations other.pointers other.generations gives.runs
      other.runs places_agree gives.runs_fit other.runs_fit gives.gives.runs_read other.gives.runs_read

  pointers_agree : (e : ℕ) → e < S.extents → gives.pointers e ≡ other.pointers e
  pointers_agree e lt = let j = shape.section e in
      tells (gives.formats (S.section e)) (other.formats (S.section e)) (S.section e) (gives.versions (S.section e))
      (other.versions (S.section e)) (gives.recorded (S.section e)) (other.recorded (S.section e)) gives.pointers gives.generations other.pointers other.generations j
      (gives.versions_fit (S.section e) j) (other.versions_fit (S.section e) j) gives.extents_fit other.extents_fit
      (sym (gives.superblock (S.section e) j) ∙ other.superblock (S.section e) j) e lt refl

  has_pages : (id : ℕ) (l : Locator) (c : ℕ) → l ∈ live_at (entries_of gives.runs) id
      → HasPages S F opening img gives.pointers gives.generations l c
      → HasPages S F again img other.pointers other.generations l c
  has_pages id l c there has = go has
    where
      here : Passes S F img gives.pointers gives.generations l
      here = live_passes S F opening img gives.pointers gives.generations [] gives.runs m gives.gives id l there

      pass : Passes S F img other.pointers other.generations l
      pass = live_passes S F again img other.pointers other.generations [] other.runs o other.gives id l
          (subst (λ (es : List Entry). l ∈ live_at es id) entries_agree there)

      limits : limit_in S F gives.pointers gives.generations l ≡ limit_in S F other.pointers other.generations l
      limits = limits_agree S F img gives.pointers gives.generations other.pointers other.generations l here pass
          (λ on. pointers_agree l.extent here.inside.0)

      pages : opening.pages l ≡ again.pages l
      pages = ap (λ (n : ℕ). pages_from S F img l.extent l.page (n - l.page)) limits

      go : HasPages S F opening img gives.pointers gives.generations l c
          → HasPages S F again img other.pointers other.generations l c
      go (inl (payload, reads, size)) = inl (
        payload,
        reads_own S F img other.pointers other.generations l (F.frame ChunkFrame payload) pass
            (λ on. le_trans reads.within (le_of_eq (limit_here S F img gives.pointers gives.generations l here on
            ∙ pointers_agree l.extent here.inside.0))) reads.inside reads.stand reads.marked reads.long,
        size,
      )
      go (inr (f, bad, lasts, none)) = inr (
        f,
        damage_here S F img other.pointers other.generations l pass ∙ ap (fault_for S F ChunkFrame l.mark) (sym pages)
            ∙ sym (damage_here S F img gives.pointers gives.generations l here) ∙ bad,
        (λ on more. ap (λ (bs : List Page). fault_for S F ChunkFrame l.mark (bs ++ more)) (sym pages) ∙ lasts on more),
        none,
      )

  pub root_again : (p : Root) → IsRootIn S F img n m gives p → IsRootIn S F img k o other p
  root_again p is = record {
    names = record {
      chunks = λ id. subst (λ (es : List Entry). AreChunksOf S F again img other.pointers other.generations [] id 0
          (live_at es id) (of_id id (map forget p.chunks))) entries_agree
          (chunks_move S F opening again img img gives.pointers gives.generations other.pointers other.generations
          [] [] id 0 (live_at (entries_of gives.runs) id) (of_id id (map forget p.chunks))
          (λ l c there. has_pages id l c there) (λ j l there. refl) (is.names.chunks id));
      runs = is.names.runs ∙ run_extents_are gives.runs ∙ ap (map (λ (l : Locator). l.extent)) places_agree
          ∙ sym (run_extents_are other.runs);
      given = λ e on. le_trans (is.names.given e on) (le_of_eq (pointers_agree e (root_inside S p is.root e on)));
    };
    root = is.root;
  }
