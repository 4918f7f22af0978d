-- What lies on the extents is read alike under sections that were written anew.
use Rattle.std.proofs.Common.{◌≡◌, inl, inr, ℕ, zero, suc, ◌+◌, ◌-◌, ◌<◌, ◌≤◌, ◌==◌, ◌&&◌, false, nat_lt, List, [], ◌∷◌, length, Option, Some, None, if◌then◌else◌, le_of_eq, le_trans, true≢false, refl, sym, ap, ap₂, ◌∙◌, arith}
use Rattle.cs_mount.specs.Resectioned.{AgreeBesideSections, HasSections, KeepDamage, KeepLiving, Lives}
use Rattle.law_machine.proofs.Filled.{limit_here, limit_low, reads_own}
use Rattle.law_machine.proofs.LocalRecovery.{live_passes}
use Rattle.law_machine.specs.Device.{Inside, Page, Shape}
use Rattle.law_machine.specs.Element.{Content, Locator, Map, Run}
use Rattle.law_machine.specs.Formats.{ChunkFrame, Formats, RunFrame, Stand, damage_in, fault_for, limit_in, opening_in, pages_from}
use Rattle.law_machine.specs.Index.{AllPass, Gives, Holds, Passes, Reads, ReadsAs, Value, entries_of, live, live_at, lookup}
use Rattle.law_machine.specs.Lists.{◌∈◌}
use Rattle.law_machine.specs.Recovery.{Recovers}
use Rattle.law_machine.specs.Refusal.{Refusal}
use Rattle.law_machine.specs.Safe.{FitsExtent}

module _ (S : Shape) (F : Formats) (img other : ℕ → Page) (p g q h : ℕ → ℕ)
    (same : (e i : ℕ) → Inside S e i → other (S.address e i) ≡ img (S.address e i))
    (fits : (e : ℕ) → FitsExtent S (q e) (h e)) where
  -- the extent of a locator has the same generation, and no fewer of its pages are given
  abbrev Keeps : Locator → Type 0
  Keeps l = (h l.extent ≡ g l.extent) × (p l.extent ≤ q l.extent)

  stands : (e i : ℕ) (bs : List Page) → e < S.extents → i + length bs ≤ S.pages → Stand S F img e i bs → Stand S F other e i bs
  stands e i [] there inside stand = tt
  stands e i (b ∷ bs) there inside stand =
      (same e i (there, omega arith) ∙ stand.0, stands e (suc i) bs there (omega arith) stand.1)

  same_pages : (e i n : ℕ) → e < S.extents → i + n ≤ S.pages → pages_from S F other e i n ≡ pages_from S F img e i n
  same_pages e i zero there inside = refl
  same_pages e i (suc n) there inside = ap₂ (λ (x : Page) (xs : List Page). x ∷ xs)
      (same e i (there, omega arith)) (same_pages e (suc i) n there (omega arith))

  passes : (l : Locator) → Keeps l → Passes S F img p g l → Passes S F other q h l
  passes l keeps pass = record {
    generation = keeps.0 ∙ pass.generation;
    below = let lt : l.page < p l.extent = pass.below in let le : p l.extent ≤ q l.extent = keeps.1 in omega arith;
    inside = pass.inside;
    mark = pass.mark;
  }

  reads : (l : Locator) (bs : List Page) → Keeps l → Reads S F (opening_in S F img p g) img p g l bs
      → Reads S F (opening_in S F other q h) other q h l bs
  reads l bs keeps r = reads_own S F other q h l bs (passes l keeps r.passes)
      (λ on. le_trans r.within (le_trans (le_of_eq (limit_here S F img p g l r.passes on)) keeps.1)) r.inside
      (stands l.extent l.page bs r.passes.inside.0 r.inside r.stand) r.marked r.long

  damaged : (l : Locator) (f : Refusal) → Inside S l.extent l.page → damage_in S F img q h l ≡ Some f
      → damage_in S F other q h l ≡ Some f
  damaged l f inside is = ap
      (λ (bs : List Page). if (h l.extent == l.generation) && nat_lt l.page (q l.extent) then fault_for S F ChunkFrame l.mark bs else None)
      (same_pages l.extent l.page (limit_in S F q h l - l.page) inside.0
      (let lt : l.page < S.pages = inside.1 in
      let end : limit_in S F q h l ≤ S.pages = limit_low S F q h (λ e. (fits e).0) l in omega arith)) ∙ is

  -- the extent of a locator keeps it, and what is damaged there is refused as before
  abbrev Stays : Locator → Type 0
  Stays l = Keeps l × Passes S F img p g l × ((f : Refusal) → damage_in S F img p g l ≡ Some f → damage_in S F img q h l ≡ Some f)

  still_damaged : (l : Locator) (f : Refusal) → Stays l → damage_in S F img p g l ≡ Some f → damage_in S F other q h l ≡ Some f
  still_damaged l f stays is = damaged l f stays.1.inside (stays.2 f is)

  reading : (ls : List Locator) (content : Content) → ((l : Locator) → l ∈ ls → Stays l)
      → ReadsAs S F (opening_in S F img p g) img p g ls content → ReadsAs S F (opening_in S F other q h) other q h ls content
  reading [] content stay is = is
  reading (l ∷ ls) content stay (inl r) = inl (
    r.0,
    r.1,
    reads l (F.frame ChunkFrame r.0) (stay l (inl refl)).0 r.2,
    reading ls r.1 (λ k has. stay k (inr has)) r.3,
    r.4,
  )
  reading (l ∷ ls) content stay (inr bad) = inr (bad.0, still_damaged l bad.0 (stay l (inl refl)) bad.1, bad.2)

  holds : (l : Locator) → Stays l → Holds S F (opening_in S F img p g) img p g l → Holds S F (opening_in S F other q h) other q h l
  holds l stays (inl bad) = inl (bad.0, still_damaged l bad.0 stays bad.1)
  holds l stays (inr has) = inr (has.0, reads l (F.frame ChunkFrame has.0) stays.0 has.1)

  value : (o : Option (List Locator)) (v : Option Content) → ((l : Locator) → l ∈ live o → Stays l)
      → Value S F (opening_in S F img p g) img p g o v → Value S F (opening_in S F other q h) other q h o v
  value None v stay is = is
  value (Some []) v stay is = is
  value (Some (l ∷ ls)) v stay is = (is.0, reading (l ∷ ls) is.0 stay is.1, is.2)

  all_pass : (o : Option (List Locator)) → ((l : Locator) → l ∈ live o → Stays l) → AllPass S F other q h o
  all_pass None stay = tt
  all_pass (Some ls) stay = λ l has. passes l (stay l has).0 (stay l has).1

  module _ (hidden : S.hidden_stand ≡ false) (runs : List Run) (m : Map) (gives : Gives S F (opening_in S F img p g) img p g [] runs m)
      (living : KeepLiving runs p g q h) (damage : KeepDamage S F img runs p g q h) where
    stay : (id : ℕ) (l : Locator) → l ∈ live_at (entries_of runs) id → Stays l
    stay id l has = (
      living l (inr (id, has)),
      live_passes S F (opening_in S F img p g) img p g [] runs m gives id l has,
      λ f is. damage id l f has is,
    )

    gives_on : Gives S F (opening_in S F other q h) other q h [] runs m
    gives_on = record {
      runs_read = λ run has. reads run.place (F.frame RunFrame (F.run run.entries)) (living run.place (inl (run, has, refl))) (gives.runs_read run has);
      table_passes = λ id. tt;
      visible_pass = λ id. all_pass (lookup id (entries_of runs)) (stay id);
      runs_pass = λ stand. absurd (true≢false (sym stand ∙ hidden));
      holds = λ id l has. holds l (stay id l has) (gives.holds id l has);
      values = λ id. value (lookup id (entries_of runs)) (m id) (stay id) (gives.values id);
    }

pub resectioned : (S : Shape) (F : Formats) (img other : ℕ → Page) (n : ℕ) (m : Map) (found : Recovers S F img n m) (p g : ℕ → ℕ)
    → S.hidden_stand ≡ false → AgreeBesideSections S img other → HasSections S F other found.version p g
    → KeepLiving found.runs found.pointers found.generations p g → KeepDamage S F img found.runs found.pointers found.generations p g
    → Recovers S F other n m
resectioned S F img other n m found p g hidden agree sections living damage = record {
  formats = sections.formats;
  versions = sections.versions;
  recorded = sections.recorded;
  pointers = p;
  generations = g;
  superblock = sections.superblock;
  versions_fit = sections.versions_fit;
  extents_fit = sections.extents_fit;
  version = found.version;
  recorded_fit = sections.recorded_fit;
  runs = found.runs;
  root = agree.root ∙ found.root;
  root_fits = found.root_fits;
  runs_fit = found.runs_fit;
  bounds = found.bounds;
  gives = gives_on S F img other found.pointers found.generations p g agree.frames sections.extents_fit hidden found.runs m found.gives living damage;
}

-- a place whose extent has its pointer and its generation is damaged as before
pub same_damage : (S : Shape) (F : Formats) (img : ℕ → Page) (p g q h : ℕ → ℕ) (l : Locator) → q l.extent ≡ p l.extent → h l.extent ≡ g l.extent
    → damage_in S F img q h l ≡ damage_in S F img p g l
same_damage S F img p g q h l pointer generation = ap₂ (λ (a b : ℕ). damage_in S F img (λ e. a) (λ e. b) l) pointer generation

pub damage_kept : (S : Shape) (F : Formats) (img : ℕ → Page) (runs : List Run) (p g q h : ℕ → ℕ)
    → ((l : Locator) → Lives runs l → (q l.extent ≡ p l.extent) × (h l.extent ≡ g l.extent)) → KeepDamage S F img runs p g q h
damage_kept S F img runs p g q h same id l refusal has is =
    let both = same l (inr (id, has)) in same_damage S F img p g q h l both.0 both.1 ∙ is
