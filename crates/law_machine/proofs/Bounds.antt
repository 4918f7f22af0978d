-- All numbers keep to their bounds, so that what is staged can be spelled.
use Rattle.std.proofs.Common.{◌≡◌, ◌≢◌, ◌⊎◌, inl, inr, ℕ, suc, ◌+◌, ◌≤◌, Bool, true, false, List, [], ◌∷◌, ◌++◌, length, drop, if◌then◌else◌, Option, Some, None, ◌==◌, eq-eqb, ne_eqb, le_trans, le_of_eq, refl, sym, ap, ap₂, ◌∙◌, subst, arith}
use Rattle.std.proofs.lemmas.Bool.{cases_eq}
use Rattle.law_machine.proofs.Parts.{each}
use Rattle.law_machine.proofs.Counting.{ascending_lookup, lookup_here, lookup_there}
use Rattle.law_machine.proofs.Roots.{RootFits}
use Rattle.law_machine.proofs.Gives.{front_passes}
use Rattle.law_machine.proofs.Merging.{in_drop, index_cut, most_fits}
use Rattle.law_machine.proofs.Weights.{ascending_weight, weight_some}
use Rattle.law_machine.specs.Device.{IsShape, Page, Shape}
use Rattle.law_machine.specs.Disk.{written}
use Rattle.law_machine.specs.Element.{Entry, Locator, Map, Run}
use Rattle.law_machine.specs.Events.{newest_page}
use Rattle.law_machine.specs.Formats.{Formats, places}
use Rattle.law_machine.specs.Frames.{IsFormat, most_staged}
use Rattle.law_machine.specs.Index.{AllPass, Ascending, Gives, InBounds, InRange, IsRunList, Passes, entries_of, if_live, live, lookup, named_weight}
use Rattle.law_machine.specs.Lists.{◌∈◌}
use Rattle.law_machine.specs.Merges.{IsRunOf, part}
use Rattle.law_machine.specs.Refusal.{Refusal}
use Rattle.law_machine.specs.Sound.{Bounded, Sound}
use Rattle.law_machine.specs.State.{Command, State, index_now, map_now}

-- where the first ground doesn't stand, the others decide
pub not_first : {Ground : Type 0} {Others : Refusal → Type 0} (n : Refusal)
    → ((f : Refusal) → ((Ground × (f ≡ n)) ⊎ ((Ground → ⊥) × Others f)) → ⊥) → (Ground → ⊥)
    × ((f : Refusal) → Others f → ⊥)
not_first n none = ((λ g. none n (inl (g, refl))), (λ f o. none f (inr ((λ g. none n (inl (g, refl))), o))))

pub not_found : {Damage Others : Refusal → Type 0}
    → ((f : Refusal) → (Damage f ⊎ (((g : Refusal) → Damage g → ⊥) × Others f)) → ⊥) → (f : Refusal) → Others f → ⊥
not_found none f o = none f (inr ((λ g d. none g (inl d)), o))

pub lookup_front : (id : ℕ) (xs ys : List Entry) (ls : List Locator) → lookup id xs ≡ Some ls
    → lookup id (xs ++ ys) ≡ Some ls
lookup_front id [] ys ls at = absurd (let e : None ≡ Some ls = at in cc)
lookup_front id (x ∷ xs) ys ls at = elim (cases_eq x.id id) [
  | inl is ↦ lookup_here x (xs ++ ys) id is ∙ sym (lookup_here x xs id is) ∙ at
  | inr not ↦ lookup_there x (xs ++ ys) id not ∙ lookup_front id xs ys ls (sym (lookup_there x xs id not) ∙ at)
]

pub if_live_some : (o : Option (List Locator)) (ls : List Locator) → if_live o ≡ Some ls → o ≡ Some ls
if_live_some None ls is = is
if_live_some (Some []) ls is = absurd (let e : None ≡ Some ls = is in cc)
if_live_some (Some (l ∷ ks)) ls is = is

pub not_empty : (table entries : List Entry) → table ≢ [] → ((id : ℕ) → lookup id entries ≡ lookup id table)
    → entries ≢ []
not_empty [] entries some same = λ none. some refl
not_empty (x ∷ xs) entries some same = λ none. (let e : None ≡ Some x.locators = ap (lookup x.id) (sym none)
    ∙ same x.id ∙ lookup_here x xs x.id refl in cc)

places_length : (runs : List Run) → length (places runs) ≡ length runs
places_length [] = refl
places_length (run ∷ runs) = ap suc (places_length runs)

module _ (S : Shape) (F : Formats) (shape : IsShape S) (format : IsFormat S F) where
  in_range : (s : State) (img : ℕ → Page) (p : ℕ → ℕ) (l : Locator) → Sound S F s
      → Passes S F img p s.world.extents.generation l → InRange S l
  in_range s img p l sound pass =
      (pass.inside, le_trans (le_of_eq (sym pass.generation)) (sound.safe.extents_fit l.extent).1, pass.mark)

  places_in : (runs : List Run) → ((run : Run) → run ∈ runs → InRange S run.place) → (l : Locator) → l ∈ places runs
      → InRange S l
  places_in [] all l none = absurd none
  places_in (run ∷ runs) all l (inl is) = subst (λ (k : Locator). InRange S k) (sym is) (all run (inl refl))
  places_in (run ∷ runs) all l (inr has) = places_in runs (λ r h. all r (inr h)) l has

  pub run_list : (s : State) (v n k : ℕ) (index entries : List Entry) (img : ℕ → Page) (p : ℕ → ℕ) → Sound S F s
      → InBounds S v n k index → entries ≢ [] → Ascending entries
      → ((id : ℕ) (ls : List Locator) → lookup id entries ≡ Some ls → lookup id index ≡ Some ls)
      → ((id : ℕ) → AllPass S F img p s.world.extents.generation (lookup id entries)) → IsRunList S entries
  run_list s v n k index entries img p sound bounds some order in_index pass = record {
    some = some;
    ascending = order;
    weight_fits = le_trans (le_of_eq (sym (ascending_weight S.weigh entries order)))
        (le_trans (weight_some S.weigh entries index in_index) bounds.weight_fits);
    locators = λ x has. (let at = ascending_lookup entries x order has in (
      subst (λ (o : Option (List Locator)). length (live o) ≤ S.most_chunks) (in_index x.id x.locators at)
          (bounds.chunks_fit x.id),
      λ l there. in_range s img p l sound
          (subst (λ (o : Option (List Locator)). AllPass S F img p s.world.extents.generation o) at
          (pass x.id) l there),
    ));
  }

  -- the next root of these runs
  fits : (s : State) (runs : List Run) (img : ℕ → Page) (p : ℕ → ℕ) (m : Map) → Sound S F s
      → Gives S F s.opening img p s.world.extents.generation [] runs m → length runs ≤ most_staged S
      → InBounds S (suc s.world.root) (s.count + length s.commands) (length runs) (entries_of runs)
      → ((run : Run) → run ∈ runs → F.fits_run run.entries ≡ true) → RootFits S F s runs
  fits s runs img p m sound gives few bounds all = (
    format.root_fits (suc s.world.root) (s.count + length s.commands)
        (places runs) bounds.some_version bounds.version_fits bounds.commands_fit
        (le_trans (le_of_eq (places_length runs)) few)
        (places_in runs (λ run has. in_range s img p run.place sound (gives.runs_read run has).passes)),
    all,
    bounds,
  )

  if_kept : (go : Bool) (o : Option (List Locator)) (ls : List Locator)
      → (if go then if_live o else o) ≡ Some ls → o ≡ Some ls
  if_kept true o ls is = if_live_some o ls is
  if_kept false o ls is = is

  -- the next root of runs in which each identifier has what it had, or where deletions go all that lives
  kept_fits : (s : State) (runs : List Run) (q : ℕ → ℕ) (go : Bool) → Sound S F s → Bounded S F s
      → suc s.world.root ≤ S.greatest_number → length runs ≤ most_staged S
      → ((id : ℕ) → lookup id (entries_of runs) ≡ (if go then if_live (lookup id (index_now s)) else lookup id (index_now s)))
      → Gives S F s.opening (newest_page s) q s.world.extents.generation [] runs (map_now s)
      → ((run : Run) → run ∈ runs → F.fits_run run.entries ≡ true)
      → RootFits S F s runs
  kept_fits s runs q go sound b root few same gives all = fits s runs (newest_page s) q (map_now s) sound gives few
      (record {
        some_version = omega arith;
        version_fits = root;
        commands_fit = b.bounds.commands_fit;
        few_runs = le_trans few (most_fits S shape);
        weight_fits = le_trans (weight_some S.weigh (entries_of runs) (index_now s) in_index) b.bounds.weight_fits;
        chunks_fit = λ id. small id (lookup id (entries_of runs)) refl;
      }) all
    where
      in_index : (id : ℕ) (ls : List Locator) → lookup id (entries_of runs) ≡ Some ls → lookup id (index_now s) ≡ Some ls
      in_index id ls at = if_kept go (lookup id (index_now s)) ls (sym (same id) ∙ at)

      small : (id : ℕ) (o : Option (List Locator)) → lookup id (entries_of runs) ≡ o → length (live o) ≤ S.most_chunks
      small id None at = omega arith
      small id (Some ls) at = subst (λ (o : Option (List Locator)). length (live o) ≤ S.most_chunks)
          (in_index id ls at) (b.bounds.chunks_fit id)

  -- the next root of the runs that are left and one in front of them of the part that is merged
  pub part_fits : (s : State) (k : ℕ) (go : Bool) (l : Locator) (entries : List Entry) (q : ℕ → ℕ) → Sound S F s
      → Bounded S F s → suc s.world.root ≤ S.greatest_number → suc (length (drop k s.runs)) ≤ most_staged S
      → entries ≢ [] → IsRunOf go (part s k) entries
      → ((id : ℕ) → lookup id (entries ++ entries_of (drop k s.runs)) ≡ (if go then if_live (lookup id (index_now s))
      else lookup id (index_now s)))
      → Gives S F s.opening (newest_page s) q s.world.extents.generation []
      (record { place = l; entries = entries } ∷ drop k s.runs) (map_now s)
      → RootFits S F s (record { place = l; entries = entries } ∷ drop k s.runs)
  part_fits s k go l entries q sound b root few some run same gives =
      kept_fits s (record { place = l; entries = entries } ∷ drop k s.runs) q go sound b root few same gives
      (each (λ (r : Run). F.fits_run r.entries ≡ true) _ _
      (format.run_fits entries
      (run_list s _ _ _ (index_now s) entries (newest_page s) q sound b.bounds some run.0
      (λ id ls at. ap (lookup id) (index_cut s k)
      ∙ lookup_front id (part s k) (entries_of (drop k s.runs)) ls
      (if_kept go (lookup id (part s k)) ls (sym (run.1 id) ∙ at)))
      (λ id. front_passes S F _ _ _ id entries (entries_of (drop k s.runs)) (gives.visible_pass id))))
      (λ r has. b.runs_fit r (in_drop k s.runs r has)))

  -- the next root of the runs that are left alone
  pub rest_fits : (s : State) (k : ℕ) (go : Bool) (q : ℕ → ℕ) → Sound S F s → Bounded S F s
      → suc s.world.root ≤ S.greatest_number → length (drop k s.runs) ≤ most_staged S
      → ((id : ℕ) → lookup id (entries_of (drop k s.runs)) ≡ (if go then if_live (lookup id (index_now s))
      else lookup id (index_now s)))
      → Gives S F s.opening (newest_page s) q s.world.extents.generation [] (drop k s.runs) (map_now s)
      → RootFits S F s (drop k s.runs)
  rest_fits s k go q sound b root few same gives = kept_fits s (drop k s.runs) q go sound b root few same gives (λ r has. b.runs_fit r (in_drop k s.runs r has))

  pub bounded_same : (s t : State) → t.world.written ≤ S.greatest_number → t.world.root ≡ s.world.root
      → t.count ≡ s.count → t.commands ≡ s.commands → t.runs ≡ s.runs → t.table ≡ s.table → Bounded S F s
      → Bounded S F t
  bounded_same s t written root count commands runs table b = record {
    bounds = record {
      some_version = le_trans b.bounds.some_version (le_of_eq (sym root));
      version_fits = le_trans (le_of_eq root) b.bounds.version_fits;
      commands_fit = le_trans
          (le_of_eq (ap₂ (λ (c : ℕ) (cs : List Command). c + length cs) count commands)) b.bounds.commands_fit;
      few_runs = le_trans (le_of_eq (ap length runs)) b.bounds.few_runs;
      weight_fits = le_trans (le_of_eq (ap (named_weight S.weigh) index)) b.bounds.weight_fits;
      chunks_fit = λ id. subst (λ (es : List Entry). length (live (lookup id es)) ≤ S.most_chunks) (sym index)
          (b.bounds.chunks_fit id);
    };
    runs_fit = λ run has. b.runs_fit run (subst (λ (rs : List Run). run ∈ rs) runs has);
    written_fits = written;
  }
    where
      index : index_now t ≡ index_now s
      index = ap₂ (λ (x : List Entry) (y : List Run). x ++ entries_of y) table runs

  -- an entry more
  pub bounded_entry : (s : State) (id : ℕ) (ls : List Locator) (cs : List Command) → Bounded S F s
      → named_weight S.weigh (record { id = id; locators = ls } ∷ index_now s) ≤ S.most_weight → length ls ≤ S.most_chunks
      → s.count + length cs ≤ S.greatest_number
      → Bounded S F (record s { table = record { id = id; locators = ls } ∷ s.table; commands = cs })
  bounded_entry s id ls cs b room few fit = record {
    bounds = record {
      some_version = b.bounds.some_version;
      version_fits = b.bounds.version_fits;
      commands_fit = fit;
      few_runs = b.bounds.few_runs;
      weight_fits = room;
      chunks_fit = λ k. elim (cases_eq id k) [
        | inl is ↦ (let test : (id == k) ≡ true = eq-eqb id k is in rw test few)
        | inr not ↦ (let test : (id == k) ≡ false = ne_eqb id k not in rw test (b.bounds.chunks_fit k))
      ];
    };
    runs_fit = b.runs_fit;
    written_fits = b.written_fits;
  }
