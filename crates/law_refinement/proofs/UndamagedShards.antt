-- What an image gives of shards that aren't damaged, where others are.
use Rattle.std.proofs.Common.{◌≡◌, ◌⊎◌, inl, inr, ⊎_elim, ℕ, ◌+◌, ◌-◌, ◌<◌, ◌≤◌, ◌==◌, Bool, true, false, if◌then◌else◌, List, [], ◌∷◌, ◌++◌, length, Option, Some, None, le_of_eq, le_trans, refl, sym, ap, ◌∙◌, subst}
use Rattle.cs_extent.specs.State.{IsWhole, State as ExtentsState, shape}
use Rattle.cs_frame.specs.Formats.{formats_of}
use Rattle.cs_reader.specs.ImageReads.{ArePages, page_total}
use Rattle.law_machine.proofs.Filled.{damage_here, limit_here, limit_low, own_reads, reach_off, reads_own}
use Rattle.law_machine.proofs.LocalRecovery.{live_passes}
use Rattle.law_machine.specs.Device.{Page, is_meant}
use Rattle.law_machine.specs.Element.{Bytes, Content, Damaged, Locator, Map, Opening, Run}
use Rattle.law_machine.specs.Formats.{ChunkFrame, RunFrame, Stand, fault_for, is_long_frame, limit_in, opening_in, pages_from}
use Rattle.law_machine.specs.Index.{Gives, Holds, Passes, Reads, ReadsAs, Value, after, entries_of, live, lookup}
use Rattle.law_machine.specs.Lists.{◌∈◌}
use Rattle.law_machine.specs.Local.{LiesBelow}
use Rattle.law_machine.specs.Recovery.{Recovers, RecoversBut}
use Rattle.law_machine.specs.Refusal.{Refusal}
use Rattle.law_machine.specs.Safe.{FitsExtent}
use Rattle.law_refinement.proofs.Chunks.{chunk_or_fault}
use Rattle.law_refinement.specs.Crashes.{AgreeOnUndamaged, IsUndamaged}

module _ (x : ExtentsState) (img : ℕ → Page) (below : LiesBelow (shape x) (page_total (shape x))) (are : ArePages (page_total (shape x)) img) where
  module _ (p g : ℕ → ℕ) (fit : (e : ℕ) → FitsExtent (shape x) (p e) (g e)) where
    abbrev own : Opening
    own = opening_in (shape x) (formats_of (shape x)) img p g

    abbrev There : Locator → Type 0
    There = Passes (shape x) (formats_of (shape x)) img p g

    reads_so : (l : Locator) (bs : List Page) → There l → l.page + length bs ≤ limit_in (shape x) (formats_of (shape x)) p g l
        → Stand (shape x) (formats_of (shape x)) img l.extent l.page bs → is_meant (shape x) l.mark bs ≡ true
        → is_long_frame (formats_of (shape x)) bs ≡ true → Reads (shape x) (formats_of (shape x)) own img p g l bs
    reads_so l bs is end stand meant long = reads_own (shape x) (formats_of (shape x)) img p g l bs is
        (λ on. le_trans end (le_of_eq (limit_here (shape x) (formats_of (shape x)) img p g l is on)))
        (le_trans end (limit_low (shape x) (formats_of (shape x)) p g (λ e. (fit e).0) l)) stand meant long

    end_above : (l : Locator) → There l → (b : Bool) → (shape x).fills ≡ b → l.page < limit_in (shape x) (formats_of (shape x)) p g l
    end_above l is true on = subst (λ (n : ℕ). l.page < n) (sym (limit_here (shape x) (formats_of (shape x)) img p g l is on)) is.below
    end_above l is false off = subst (λ (n : ℕ). l.page < n)
        (sym (reach_off (shape x) (if g l.extent == l.generation then p l.extent else 0) l.page off)) is.inside.1

    -- at a place that passes the image has a chunk, or says why none
    chunk : (l : Locator) → There l
        → ((payload : List ℕ) × Reads (shape x) (formats_of (shape x)) own img p g l ((formats_of (shape x)).frame ChunkFrame payload))
        ⊎ ((f : Refusal) × (own.damage l ≡ Some f))
    chunk l is = ⊎_elim
        (λ (c : (payload : List ℕ) × (l.page + length ((formats_of (shape x)).frame ChunkFrame payload) ≤ limit_in (shape x) (formats_of (shape x)) p g l)
        × Stand (shape x) (formats_of (shape x)) img l.extent l.page ((formats_of (shape x)).frame ChunkFrame payload)
        × (is_meant (shape x) l.mark ((formats_of (shape x)).frame ChunkFrame payload) ≡ true)
        × (is_long_frame (formats_of (shape x)) ((formats_of (shape x)).frame ChunkFrame payload) ≡ true)).
        inl (c.0, reads_so l ((formats_of (shape x)).frame ChunkFrame c.0) is c.1 c.2 c.3 c.4))
        (λ (b : (f : Refusal) × (fault_for (shape x) (formats_of (shape x)) ChunkFrame l.mark (pages_from (shape x) (formats_of (shape x)) img l.extent l.page (limit_in (shape x) (formats_of (shape x)) p g l - l.page)) ≡ Some f)).
        inr (b.0, damage_here (shape x) (formats_of (shape x)) img p g l is ∙ b.1))
        (chunk_or_fault (shape x) img (page_total (shape x)) below are l.extent l.page (limit_in (shape x) (formats_of (shape x)) p g l) l.mark
        is.inside.0 (end_above l is (shape x).fills refl) (limit_low (shape x) (formats_of (shape x)) p g (λ e. (fit e).0) l))

    content : (ls : List Locator) → ((l : Locator) → l ∈ ls → There l)
        → (c : Content) × ReadsAs (shape x) (formats_of (shape x)) own img p g ls c
    content [] pass = (Bytes [], refl)
    content (l ∷ ls) pass = ⊎_elim
        (λ (c : (payload : List ℕ) × Reads (shape x) (formats_of (shape x)) own img p g l ((formats_of (shape x)).frame ChunkFrame payload)).
        let rest = content ls (λ k has. pass k (inr has)) in (after ((formats_of (shape x)).body c.0) rest.0, inl (c.0, rest.0, c.1, rest.1, refl)))
        (λ (b : (f : Refusal) × (own.damage l ≡ Some f)). (Damaged b.0, inr (b.0, b.1, refl)))
        (chunk l (pass l (inl refl)))

    module _ (d : Opening) (thawed : (shape x).fills ≡ true → (e n : ℕ) → d.frozen e (shape x).pages n ≡ false) where
      as_read : (l : Locator) (bs : List Page) → Reads (shape x) (formats_of (shape x)) d img p g l bs
          → Reads (shape x) (formats_of (shape x)) own img p g l bs
      as_read = own_reads (shape x) (formats_of (shape x)) img p g d thawed

      read_on : (l : Locator) (ls : List Locator) (bytes chunk : List ℕ) (rest : Content)
          → ((bs : List ℕ) → ReadsAs (shape x) (formats_of (shape x)) d img p g ls (Bytes bs) → ReadsAs (shape x) (formats_of (shape x)) own img p g ls (Bytes bs))
          → Reads (shape x) (formats_of (shape x)) d img p g l ((formats_of (shape x)).frame ChunkFrame chunk) → ReadsAs (shape x) (formats_of (shape x)) d img p g ls rest
          → Bytes bytes ≡ after ((formats_of (shape x)).body chunk) rest → ReadsAs (shape x) (formats_of (shape x)) own img p g (l ∷ ls) (Bytes bytes)
      read_on l ls bytes chunk (Bytes rest) on reads more is = inl (chunk, Bytes rest, as_read l ((formats_of (shape x)).frame ChunkFrame chunk) reads, on rest more, is)
      read_on l ls bytes chunk (Damaged f) on reads more is = absurd (let e : Bytes bytes ≡ Damaged f = is in cc)

      -- what is read whole is so by the image itself
      reading : (ls : List Locator) (bytes : List ℕ) → ReadsAs (shape x) (formats_of (shape x)) d img p g ls (Bytes bytes)
          → ReadsAs (shape x) (formats_of (shape x)) own img p g ls (Bytes bytes)
      reading [] bytes is = is
      reading (l ∷ ls) bytes (inl r) = read_on l ls bytes r.0 r.1 (λ bs more. reading ls bs more) r.2 r.3 r.4
      reading (l ∷ ls) bytes (inr bad) = absurd (let e : Bytes bytes ≡ Damaged bad.0 = bad.2 in cc)

      -- what an entry gives by the image itself, which is the same where that isn't damaged
      kept_or_own : (l : Locator) (ls : List Locator) (v : Option Content) (c : Content) → ((k : Locator) → k ∈ l ∷ ls → There k)
          → ReadsAs (shape x) (formats_of (shape x)) d img p g (l ∷ ls) c → v ≡ Some c
          → (w : Option Content) × Value (shape x) (formats_of (shape x)) own img p g (Some (l ∷ ls)) w × (IsUndamaged v → w ≡ v)
      kept_or_own l ls v (Bytes bytes) pass reads is = (
        v,
        (Bytes bytes, reading (l ∷ ls) bytes reads, is),
        λ same. refl,
      )
      kept_or_own l ls v (Damaged f) pass reads is = let c = content (l ∷ ls) pass in (Some c.0, (c.0, c.1, refl), λ undamaged. absurd (undamaged f is))

      value : (o : Option (List Locator)) (v : Option Content) → ((l : Locator) → l ∈ live o → There l)
          → Value (shape x) (formats_of (shape x)) d img p g o v
          → (w : Option Content) × Value (shape x) (formats_of (shape x)) own img p g o w × (IsUndamaged v → w ≡ v)
      value None v pass is = (v, is, λ same. refl)
      value (Some []) v pass is = (v, is, λ same. refl)
      value (Some (l ∷ ls)) v pass is = kept_or_own l ls v is.0 pass is.1 is.2

      own_holds : (l : Locator) → There l → Holds (shape x) (formats_of (shape x)) own img p g l
      own_holds l is = ⊎_elim (λ c. inr c) (λ b. inl b) (chunk l is)

      module _ (runs : List Run) (m : Map) (gives : Gives (shape x) (formats_of (shape x)) d img p g [] runs m) where
        passes : (id : ℕ) (l : Locator) → l ∈ live (lookup id (entries_of runs)) → There l
        passes = live_passes (shape x) (formats_of (shape x)) d img p g [] runs m gives

        abbrev own_map : Map
        own_map = λ id. (value (lookup id (entries_of runs)) (m id) (passes id) (gives.values id)).0

        own_gives : Gives (shape x) (formats_of (shape x)) own img p g [] runs own_map
        own_gives = record {
          runs_read = λ run has. as_read run.place ((formats_of (shape x)).frame RunFrame ((formats_of (shape x)).run run.entries)) (gives.runs_read run has);
          table_passes = gives.table_passes;
          visible_pass = gives.visible_pass;
          runs_pass = gives.runs_pass;
          holds = λ id l has. own_holds l (passes id l has);
          values = λ id. (value (lookup id (entries_of runs)) (m id) (passes id) (gives.values id)).1;
        }

        own_agrees : AgreeOnUndamaged m own_map
        own_agrees id = (value (lookup id (entries_of runs)) (m id) (passes id) (gives.values id)).2

  pub own_recovers : (d : Opening) (n : ℕ) (m : Map) → ((shape x).fills ≡ true → (e k : ℕ) → d.frozen e (shape x).pages k ≡ false)
      → RecoversBut (shape x) (formats_of (shape x)) (λ p g. d) img n m
      → (now : Map) × Recovers (shape x) (formats_of (shape x)) img n now × AgreeOnUndamaged m now
  own_recovers d n m thawed r = (
    own_map r.pointers r.generations r.extents_fit d thawed r.runs m r.gives,
    record {
      formats = r.formats;
      versions = r.versions;
      recorded = r.recorded;
      pointers = r.pointers;
      generations = r.generations;
      superblock = r.superblock;
      version = r.version;
      recorded_fit = r.recorded_fit;
      runs = r.runs;
      root = r.root;
      root_fits = r.root_fits;
      runs_fit = r.runs_fit;
      bounds = r.bounds;
      versions_fit = r.versions_fit;
      extents_fit = r.extents_fit;
      gives = own_gives r.pointers r.generations r.extents_fit d thawed r.runs m r.gives;
    },
    own_agrees r.pointers r.generations r.extents_fit d thawed r.runs m r.gives,
  )
