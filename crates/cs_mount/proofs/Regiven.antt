-- What an image recovers is recovered of another one that has the same frames, and of whose extents no fewer pages are
-- given where something lives.
use Rattle.std.proofs.Common.{◌≡◌, ◌≢◌, ◌⊎◌, inl, inr, ⊎_elim, ℕ, suc, ◌+◌, ◌<◌, ◌≤◌, false, List, [], ◌∷◌, length, Option, Some, None, le_trans, le_of_eq, true≢false, refl, sym, ap, ◌∙◌, arith}
use Rattle.law_machine.proofs.Filled.{limit_here, reads_own}
use Rattle.law_machine.specs.Device.{Inside, Page, Shape}
use Rattle.law_machine.specs.Element.{Bytes, Content, Damaged, Locator, Map, Opening, Run}
use Rattle.law_machine.specs.Formats.{ChunkFrame, Formats, RunFrame, Stand, damage_in, opening_in}
use Rattle.law_machine.specs.Index.{AllPass, Gives, Holds, Passes, Reads, ReadsAs, Value, after, entries_of, live, live_at, lookup}
use Rattle.law_machine.specs.Lists.{◌∈◌}
use Rattle.law_machine.specs.Refusal.{Refusal}
use Rattle.cs_mount.specs.MadeSections.{IsUnhurt}

module _ (S : Shape) (F : Formats) (img other : ℕ → Page) (p g q h : ℕ → ℕ)
    (frames : (e i : ℕ) → Inside S e i → other (S.address e i) ≡ img (S.address e i)) (low : (e : ℕ) → q e ≤ S.pages) where
  -- The extent has its generation, and no fewer pages of it are given.
  abbrev pub Keeps : ℕ → Type 0
  Keeps e = (h e ≡ g e) × (p e ≤ q e)

  abbrev pub old : Opening
  old = opening_in S F img p g

  abbrev pub next : Opening
  next = opening_in S F other q h

  stands : (e i : ℕ) (bs : List Page) → e < S.extents → i + length bs ≤ S.pages → Stand S F img e i bs → Stand S F other e i bs
  stands e i [] there fits stand = tt
  stands e i (b ∷ bs) there fits stand = (frames e i (there, omega (arith, fits)) ∙ stand.0, stands e (suc i) bs there (omega (arith, fits)) stand.1)

  pub passes : (l : Locator) → Keeps l.extent → Passes S F img p g l → Passes S F other q h l
  passes l keeps is = record {
    generation = keeps.0 ∙ is.generation;
    below = le_trans is.below keeps.1;
    inside = is.inside;
    mark = is.mark;
  }

  reads : (l : Locator) (bs : List Page) → Keeps l.extent → Reads S F old img p g l bs → Reads S F next other q h l bs
  reads l bs keeps is = reads_own S F other q h l bs (passes l keeps is.passes)
      (λ on. le_trans is.within (le_trans (le_of_eq (limit_here S F img p g l is.passes on)) keeps.1))
      is.inside (stands l.extent l.page bs is.passes.inside.0 is.inside is.stand) is.marked is.long

  all_pass : (o : Option (List Locator)) → ((l : Locator) → l ∈ live o → Keeps l.extent) → AllPass S F img p g o → AllPass S F other q h o
  all_pass None keeps is = tt
  all_pass (Some ls) keeps is = λ l has. passes l (keeps l has) (is l has)

  rest_unhurt : (piece : List ℕ) (rest c : Content) → c ≡ after piece rest → ((f : Refusal) → c ≢ Damaged f) → (f : Refusal) → rest ≢ Damaged f
  rest_unhurt piece rest c is unhurt f hurt = unhurt f (is ∙ ap (after piece) hurt)

  reads_as : (ls : List Locator) (c : Content) → ((l : Locator) → l ∈ ls → Keeps l.extent) → ((f : Refusal) → c ≢ Damaged f)
      → ReadsAs S F old img p g ls c → ReadsAs S F next other q h ls c
  reads_as [] c keeps unhurt is = is
  reads_as (l ∷ ls) c keeps unhurt (inl is) = inl (
    is.0,
    is.1,
    reads l (F.frame ChunkFrame is.0) (keeps l (inl refl)) is.2,
    reads_as ls is.1 (λ k has. keeps k (inr has)) (rest_unhurt (F.body is.0) is.1 c is.4 unhurt) is.3,
    is.4,
  )
  reads_as (l ∷ ls) c keeps unhurt (inr is) = absurd (unhurt is.0 is.2)

  -- each place has a chunk, or a damaged one
  module _ (chunk : (l : Locator) → Passes S F other q h l
      → ((payload : List ℕ) × Reads S F next other q h l (F.frame ChunkFrame payload)) ⊎ ((f : Refusal) × (damage_in S F other q h l ≡ Some f))) where
    content : (ls : List Locator) → ((l : Locator) → l ∈ ls → Passes S F other q h l) → (c : Content) × ReadsAs S F next other q h ls c
    content [] pass = (Bytes [], refl)
    content (l ∷ ls) pass = ⊎_elim
        (λ (is : (payload : List ℕ) × Reads S F next other q h l (F.frame ChunkFrame payload)).
        let rest = content ls (λ k has. pass k (inr has)) in (after (F.body is.0) rest.0, inl (is.0, rest.0, is.1, rest.1, refl)))
        (λ (is : (f : Refusal) × (damage_in S F other q h l ≡ Some f)). (Damaged is.0, inr (is.0, is.1, refl)))
        (chunk l (pass l (inl refl)))

    -- what an entry gives: the same, if it isn't damaged
    abbrev pub GivesAs : Option (List Locator) → Option Content → Type 0
    GivesAs o v = (w : Option Content) × Value S F next other q h o w × (IsUnhurt v → w ≡ v)

    values : (o : Option (List Locator)) (v : Option Content) → ((l : Locator) → l ∈ live o → Keeps l.extent) → ((l : Locator) → l ∈ live o → Passes S F other q h l)
        → Value S F old img p g o v → GivesAs o v
    values None v keeps pass is = (None, refl, (λ unhurt. sym is))
    values (Some []) v keeps pass is = (None, refl, (λ unhurt. sym is))
    values (Some (l ∷ ls)) v keeps pass is = by is.0 is.1 is.2
      where
        by : (c : Content) → ReadsAs S F old img p g (l ∷ ls) c → v ≡ Some c → GivesAs (Some (l ∷ ls)) v
        by (Bytes bytes) reading same = (
          Some (Bytes bytes),
          (Bytes bytes, reads_as (l ∷ ls) (Bytes bytes) keeps (λ f hurt. let e : Bytes bytes ≡ Damaged f = hurt in cc e) reading, refl),
          (λ unhurt. sym same),
        )
        by (Damaged f) reading same = let read = content (l ∷ ls) pass in (Some read.0, (read.0, read.1, refl), (λ unhurt. absurd (unhurt f same)))

    holds : (l : Locator) → Passes S F other q h l → Holds S F next other q h l
    holds l pass = ⊎_elim (λ is. inr is) (λ is. inl is) (chunk l pass)

    module _ (apart : S.hidden_stand ≡ false) (runs : List Run) (m : Map) (gives : Gives S F old img p g [] runs m)
        (keeps_runs : (run : Run) → run ∈ runs → Keeps run.place.extent) (keeps_live : (id : ℕ) (l : Locator) → l ∈ live_at (entries_of runs) id → Keeps l.extent) where
      pub visible : (id : ℕ) → AllPass S F other q h (lookup id (entries_of runs))
      visible id = all_pass (lookup id (entries_of runs)) (keeps_live id) (gives.visible_pass id)

      live_pass : (o : Option (List Locator)) → AllPass S F other q h o → (l : Locator) → l ∈ live o → Passes S F other q h l
      live_pass None pass l has = absurd has
      live_pass (Some ls) pass l has = pass l has

      pub value : (id : ℕ) → GivesAs (lookup id (entries_of runs)) (m id)
      value id = values (lookup id (entries_of runs)) (m id) (keeps_live id) (live_pass (lookup id (entries_of runs)) (visible id)) (gives.values id)

      abbrev pub map_given : Map
      map_given = λ id. (value id).0

      pub regives : Gives S F next other q h [] runs map_given
      regives = record {
        runs_read = λ run has. reads run.place (F.frame RunFrame (F.run run.entries)) (keeps_runs run has) (gives.runs_read run has);
        table_passes = λ id. tt;
        visible_pass = visible;
        runs_pass = λ stand. absurd (true≢false (sym stand ∙ apart));
        holds = λ id l has. holds l (live_pass (lookup id (entries_of runs)) (visible id) l has);
        values = λ id. (value id).1;
      }

      pub same_unhurt : (id : ℕ) → IsUnhurt (m id) → map_given id ≡ m id
      same_unhurt id unhurt = (value id).2 unhurt
