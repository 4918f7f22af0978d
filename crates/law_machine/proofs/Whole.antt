-- Where no shard is damaged, nothing is said of opening.
use Rattle.std.proofs.Common.{◌≡◌, ◌≢◌, inl, inr, ℕ, Bool, true, false, nat_le, List, [], ◌∷◌, ◌++◌, length, Option, Some, None, if◌then◌else◌, ◌==◌, refl, sym, ap, ◌∙◌, subst}
use Rattle.law_machine.proofs.Filled.{own_reads}
use Rattle.law_machine.specs.Device.{Page, Shape}
use Rattle.law_machine.specs.Element.{Bytes, Content, Damaged, Entry, Locator, Map, Opening, Run}
use Rattle.law_machine.specs.Formats.{ChunkFrame, Formats, RunFrame, opening_in}
use Rattle.law_machine.specs.Index.{Gives, Holds, NoneDamaged, Reads, ReadsAs, Value, after, entries_of, live, lookup}
use Rattle.law_machine.specs.Lists.{◌∈◌}
use Rattle.law_machine.specs.Recovery.{Recovers, RecoversBut}
use Rattle.law_machine.specs.Refusal.{Refusal}
use Rattle.law_machine.specs.State.{Command, after_all, content_of, map_after}

module _ (S : Shape) (F : Formats) (d h : Opening) (img : ℕ → Page) (p g : ℕ → ℕ)
    (more_reads : (l : Locator) (bs : List Page) → Reads S F d img p g l bs → Reads S F h img p g l bs) where
  whole_step : (l : Locator) (ls : List Locator) (bytes chunk : List ℕ) (rest : Content)
      → ((bs : List ℕ) → ReadsAs S F d img p g ls (Bytes bs) → ReadsAs S F h img p g ls (Bytes bs))
      → Reads S F d img p g l (F.frame ChunkFrame chunk) → ReadsAs S F d img p g ls rest
      → Bytes bytes ≡ after (F.body chunk) rest → ReadsAs S F h img p g (l ∷ ls) (Bytes bytes)
  whole_step l ls bytes chunk (Bytes rest) on reads more is = inl
      (chunk, Bytes rest, more_reads l (F.frame ChunkFrame chunk) reads, on rest more, is)
  whole_step l ls bytes chunk (Damaged f) on reads more is = absurd (let e : Bytes bytes ≡ Damaged f = is in cc)

  whole_reading : (ls : List Locator) (bytes : List ℕ) → ReadsAs S F d img p g ls (Bytes bytes)
      → ReadsAs S F h img p g ls (Bytes bytes)
  whole_reading [] bytes is = is
  whole_reading (l ∷ ls) bytes (inl r) = whole_step l ls bytes r.0 r.1 (λ bs more. whole_reading ls bs more) r.2 r.3 r.4
  whole_reading (l ∷ ls) bytes (inr bad) = absurd (let e : Bytes bytes ≡ Damaged bad.0 = bad.2 in cc)

  whole_content : (l : Locator) (ls : List Locator) (c : Content) → ((f : Refusal) → c ≢ Damaged f)
      → ReadsAs S F d img p g (l ∷ ls) c → ReadsAs S F h img p g (l ∷ ls) c
  whole_content l ls (Bytes bytes) not reads = whole_reading (l ∷ ls) bytes reads
  whole_content l ls (Damaged f) not reads = absurd (not f refl)

  whole_value : (o : Option (List Locator)) (v : Option Content) → ((f : Refusal) → v ≢ Some (Damaged f))
      → Value S F d img p g o v → Value S F h img p g o v
  whole_value None v not value = value
  whole_value (Some []) v not value = value
  whole_value (Some (l ∷ ls)) v not value =
      (value.0, whole_content l ls value.0 (λ f is. not f (value.2 ∙ ap (λ (c : Content). Some c) is)) value.1, value.2)

  rest_holds : (ls : List Locator) (bytes piece : List ℕ) (rest : Content) → ReadsAs S F d img p g ls rest
      → Bytes bytes ≡ after piece rest → (l : Locator) → l ∈ ls
      → ((more : List ℕ) → ReadsAs S F d img p g ls (Bytes more) → Holds S F h img p g l) → Holds S F h img p g l
  rest_holds ls bytes piece (Bytes more) reads is l has on = on more reads
  rest_holds ls bytes piece (Damaged f) reads is l has on = absurd (let e : Bytes bytes ≡ Damaged f = is in cc)

  -- where none of the chunks is damaged each locator has one
  reading_holds : (ls : List Locator) (bytes : List ℕ) → ReadsAs S F d img p g ls (Bytes bytes) → (l : Locator)
      → l ∈ ls → Holds S F h img p g l
  reading_holds [] bytes reads l none = absurd none
  reading_holds (k ∷ ls) bytes (inr bad) l has = absurd (let e : Bytes bytes ≡ Damaged bad.0 = bad.2 in cc)
  reading_holds (k ∷ ls) bytes (inl r) l (inl is) = subst (λ (x : Locator). Holds S F h img p g x) (sym is)
      (inr (r.0, more_reads k (F.frame ChunkFrame r.0) r.2))
  reading_holds (k ∷ ls) bytes (inl r) l (inr has) = rest_holds ls bytes (F.body r.0) r.1 r.3 r.4 l has
      (λ more reads. reading_holds ls more reads l has)

  content_holds : (ls : List Locator) (c : Content) → ((f : Refusal) → c ≢ Damaged f) → ReadsAs S F d img p g ls c
      → (l : Locator) → l ∈ ls → Holds S F h img p g l
  content_holds ls (Bytes bytes) not reads l has = reading_holds ls bytes reads l has
  content_holds ls (Damaged f) not reads l has = absurd (not f refl)

  whole_holds : (o : Option (List Locator)) (v : Option Content) → ((f : Refusal) → v ≢ Some (Damaged f))
      → Value S F d img p g o v → (l : Locator) → l ∈ live o → Holds S F h img p g l
  whole_holds None v not value l none = absurd none
  whole_holds (Some []) v not value l none = absurd none
  whole_holds (Some (k ∷ ls)) v not value l has = content_holds (k ∷ ls) value.0
      (λ f is. not f (value.2 ∙ ap (λ (c : Content). Some c) is)) value.1 l has

  pub whole_gives : (table : List Entry) (runs : List Run) (m : Map) → NoneDamaged m → Gives S F d img p g table runs m
      → Gives S F h img p g table runs m
  whole_gives table runs m whole gives = record {
    runs_read = λ run has. more_reads run.place
        (F.frame RunFrame (F.run run.entries)) (gives.runs_read run has);
    table_passes = gives.table_passes;
    visible_pass = gives.visible_pass;
    runs_pass = gives.runs_pass;
    holds = λ id l has. whole_holds (lookup id (table ++ entries_of runs)) (m id) (whole id) (gives.values id) l has;
    values = λ id. whole_value (lookup id (table ++ entries_of runs)) (m id) (whole id) (gives.values id);
  }

not_damaged : (c : Option (List ℕ)) (f : Refusal) → content_of c ≢ Some (Damaged f)
not_damaged None f is = let e : None ≡ Some (Damaged f) = is in cc
not_damaged (Some bytes) f is = let e : Some (Bytes bytes) ≡ Some (Damaged f) = is in cc

one_or_other : (b : Bool) (x y : Option Content) (f : Refusal) → x ≢ Some (Damaged f) → y ≢ Some (Damaged f)
    → (if b then x else y) ≢ Some (Damaged f)
one_or_other true x y f a b is = a is
one_or_other false x y f a b is = b is

pub whole_after : (start : Map) (cs : List Command) → NoneDamaged start → NoneDamaged (after_all start cs)
whole_after start [] whole = whole
whole_after start (c ∷ cs) whole = λ id f. one_or_other (id == c.0) (content_of c.1) (after_all start cs id) f
    (not_damaged c.1 f) (whole_after start cs whole id f)

pub whole_map : (start : Map) (cs : List Command) (n : ℕ) → NoneDamaged start → NoneDamaged (map_after start cs n)
whole_map start [] n whole = whole
whole_map start (c ∷ cs) n whole = either (nat_le n (length cs)) (map_after start cs n) (after_all start (c ∷ cs))
    (whole_map start cs n whole) (whole_after start (c ∷ cs) whole)
  where
    either : (b : Bool) (x y : Map) → NoneDamaged x → NoneDamaged y → NoneDamaged (if b then x else y)
    either true x y a b = a
    either false x y a b = b

pub whole_recovers : (S : Shape) (F : Formats) (opening : Opening) (img : ℕ → Page) (n : ℕ) (m : Map) → NoneDamaged m
    → (S.fills ≡ true → (e k : ℕ) → opening.frozen e S.pages k ≡ false)
    → RecoversBut S F (λ p g. opening) img n m → Recovers S F img n m
whole_recovers S F opening img n m whole thawed r = record {
  formats = r.formats;
  versions = r.versions;
  recorded = r.recorded;
  pointers = r.pointers;
  generations = r.generations;
  superblock = r.superblock;
  version = r.version;
  recorded_fit = r.recorded_fit;
  runs = r.runs;
  root = r.root;
  root_fits = r.root_fits;
  runs_fit = r.runs_fit;
  bounds = r.bounds;
  versions_fit = r.versions_fit;
  extents_fit = r.extents_fit;
  gives = whole_gives S F opening
      (opening_in S F img r.pointers r.generations) img r.pointers r.generations
      (own_reads S F img r.pointers r.generations opening thawed) [] r.runs m whole r.gives;
}
