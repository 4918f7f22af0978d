-- What is staged changes nothing of the image of what is persistent.
use Rattle.std.proofs.Common.{◌≡◌, inl, inr, ℕ, suc, ◌+◌, ◌<◌, ◌≤◌, le_refl, Bool, true, false, ◌&&◌, ◌==◌, nat_le, List, [], ◌∷◌, length, refl, sym, ap, ◌∙◌, subst, arith}
use Rattle.std.proofs.lemmas.Bool.{cases_eq, false_from_ne_true}
use Rattle.std.proofs.lemmas.Bool.Decides.{nat_tests}
use Rattle.law_machine.proofs.ClosedSets.{gt-leb}
use Rattle.law_machine.proofs.Parts.{grows, still_staged}
use Rattle.law_machine.proofs.Settling.{settled_alike}
use Rattle.law_machine.specs.Apart.{StagesApart, named, rooted_apart, settled, takes}
use Rattle.law_machine.specs.Append.{AppendAllBy, AppendBy, MergesTo, stage_pages}
use Rattle.law_machine.specs.Cut.{Cut}
use Rattle.law_machine.specs.Device.{FramePage, Page, PageKind, RootPage, SectionPage, Shape}
use Rattle.law_machine.specs.Element.{A_root, A_superblock, A_write, Element, Entry, Locator, Map, Root, Run, Superblock, Write, log_of}
use Rattle.law_machine.specs.Events.{mark, rooted}
use Rattle.law_machine.specs.Extents.{Extents, ForMerge, ForRun, Purpose}
use Rattle.law_machine.specs.Formats.{Formats, image, image_at}
use Rattle.law_machine.specs.Merges.{MergesPart, deletions_go}
use Rattle.law_machine.specs.Machine.{StagePage, StageRoot, StageSuperblock, World, happens, root_now, superblock_now, write_now}
use Rattle.law_machine.specs.Safe.{IsStaged}
use Rattle.law_machine.specs.State.{State, map_now}

-- a test fails where its second part does
and_false : (a b : Bool) → b ≡ false → (a && b) ≡ false
and_false true b is = is
and_false false b is = refl

module _ (S : Shape) (F : Formats) (P : Cut) (opened : ℕ → Page) where
  abbrev pub image_now : List Element → ℕ → Page
  image_now elements = image S F P opened (log_of elements)

  write_outside : (x : Write) (older : List Element) (p : ℕ) → P.writes x.number ≡ false → image_now (A_write x ∷ older) p ≡ image_now older p
  write_outside x older p not = go (S.kind p)
    where
      go : (k : PageKind) → image_at S F k P opened (log_of (A_write x ∷ older)) p ≡ image_at S F k P opened (log_of older) p
      go RootPage = refl
      go (SectionPage j) = refl
      go FramePage = let test : ((x.page == p) && P.writes x.number) ≡ false = and_false (x.page == p) (P.writes x.number) not in rw test refl

  superblock_outside : (u : Superblock) (older : List Element) (p : ℕ) → P.superblocks u.section < u.version → image_now (A_superblock u ∷ older) p ≡ image_now older p
  superblock_outside u older p above = go (S.kind p)
    where
      go : (k : PageKind) → image_at S F k P opened (log_of (A_superblock u ∷ older)) p ≡ image_at S F k P opened (log_of older) p
      go RootPage = refl
      go FramePage = refl
      go (SectionPage j) = elim (cases_eq u.section j) [
        | inl is ↦ (let test : ((u.section == j) && nat_le u.version (P.superblocks j)) ≡ false =
            and_false (u.section == j) (nat_le u.version (P.superblocks j)) (gt-leb u.version (P.superblocks j) (subst (λ (i : ℕ). P.superblocks i < u.version) is above)) in rw test refl)
        | inr not ↦ (let first : (u.section == j) ≡ false = grind (arith, nat_tests) in rw first refl)
      ]

  root_outside : (r : Root) (older : List Element) (p : ℕ) → P.root < r.version → image_now (A_root r ∷ older) p ≡ image_now older p
  root_outside r older p above = go (S.kind p)
    where
      go : (k : PageKind) → image_at S F k P opened (log_of (A_root r ∷ older)) p ≡ image_at S F k P opened (log_of older) p
      go FramePage = refl
      go (SectionPage j) = refl
      go RootPage = let test : nat_le r.version P.root ≡ false = gt-leb r.version P.root above in rw test refl

  -- the world of what was staged since: the image stays, and the set is still of what was staged
  pub record Stays (w v : World) : Type 0 where
    pub same : (p : ℕ) → image_now v.elements p ≡ image_now w.elements p
    pub staged : IsStaged S v P
    pub persistent : v.persistent ≡ w.persistent

  pub stays_still : (w : World) → IsStaged S w P → Stays w w
  stays_still w staged = record { same = λ p. refl; staged = staged; persistent = refl }

  pub stays_more : (w mid v : World) → Stays w mid → Stays mid v → Stays w v
  stays_more w mid v a b = record { same = λ p. b.same p ∙ a.same p; staged = b.staged; persistent = b.persistent ∙ a.persistent }

  page_stays : (w : World) (p : ℕ) (b : Page) → IsStaged S w P → Stays w (happens S w (StagePage p b))
  page_stays w p b staged = record {
    same = λ q. write_outside (write_now S w p b) w.elements q
        (false_from_ne_true (P.writes (suc w.written)) (λ is. let le : suc w.written ≤ w.written = staged.writes (suc w.written) is in omega arith));
    staged = still_staged staged (omega arith) (λ j. le_refl _) (le_refl _);
    persistent = refl;
  }

  superblock_stays : (w : World) (j need : ℕ) → IsStaged S w P → Stays w (happens S w (StageSuperblock j need))
  superblock_stays w j need staged = record {
    same = λ q. superblock_outside (superblock_now S w j need) w.elements q (let le : P.superblocks j ≤ w.superblocks j = staged.superblocks j in omega arith);
    staged = still_staged staged (le_refl _) (λ i. grows w.superblocks j (suc (w.superblocks j)) i (omega arith)) (le_refl _);
    persistent = refl;
  }

  pub root_stays : (w : World) (n : ℕ) (runs : List Run) (m : Map) (pointers : ℕ → ℕ) → IsStaged S w P → Stays w (happens S w (StageRoot n runs m pointers))
  root_stays w n runs m pointers staged = record {
    same = λ q. root_outside (root_now S w n runs m pointers) w.elements q (let le : P.root ≤ w.root = staged.root in omega arith);
    staged = still_staged staged (le_refl _) (λ j. le_refl _) (omega arith);
    persistent = refl;
  }

  pages_stay : (bs : List Page) (w : World) (e i : ℕ) → IsStaged S w P → Stays w (stage_pages S w e i bs)
  pages_stay [] w e i staged = stays_still w staged
  pages_stay (b ∷ bs) w e i staged =
      let one = page_stays w (S.address e i) b staged in
      stays_more w (happens S w (StagePage (S.address e i) b)) (stage_pages S (happens S w (StagePage (S.address e i) b)) e (suc i) bs) one
      (pages_stay bs (happens S w (StagePage (S.address e i) b)) e (suc i) one.staged)

  -- so it is by either rule, that of chunks and runs on one extent and that of chunks and runs apart
  pub append_stays : (apart : Bool) (w v : World) (purpose : Purpose) (bs : List Page) (l : Locator) → IsStaged S w P → AppendBy S apart w purpose bs l v → Stays w v
  append_stays apart w v purpose bs l staged a = subst (λ (u : World). Stays w u) (sym a.after)
      (let mid : World = stage_pages S w a.extent (w.extents.pointer a.extent) bs in
      let pages = pages_stay bs w a.extent (w.extents.pointer a.extent) staged in
      let last = superblock_stays mid (S.section a.extent) a.need pages.staged in
      let all = stays_more w mid (happens S mid (StageSuperblock (S.section a.extent) a.need)) pages last in
      record { same = all.same; staged = all.staged; persistent = all.persistent })

  pub appends_stay : (apart : Bool) (w v : World) (purpose : Purpose) (frames : List (List Page)) (ls : List Locator) → IsStaged S w P → AppendAllBy S apart w purpose frames ls v → Stays w v
  appends_stay apart w v purpose [] [] staged is = subst (λ (u : World). Stays w u) (sym is) (stays_still w staged)
  appends_stay apart w v purpose [] (l ∷ ls) staged is = absurd is
  appends_stay apart w v purpose (bs ∷ frames) [] staged is = absurd is
  appends_stay apart w v purpose (bs ∷ frames) (l ∷ ls) staged (mid, a, rest) =
      let one = append_stays apart w mid purpose bs l staged a in
      stays_more w mid v one (appends_stay apart mid v purpose frames ls one.staged rest)

  pub merge_stays : (w v : World) (index : List Entry) (purpose : Purpose) (runs : List Run) → IsStaged S w P → MergesTo S F w index purpose v runs → Stays w v
  merge_stays w v index purpose runs staged (inl (entries, l, some, run, a, one)) = append_stays false w v purpose (F.frame _ (F.run entries)) l staged a
  merge_stays w v index purpose runs staged (inr (nothing, same, none)) = subst (λ (u : World). Stays w u) (sym same) (stays_still w staged)

  -- the newest runs become one
  pub part_stays : (apart go : Bool) (s t : State) (purpose : Purpose) (k : ℕ) (runs : List Run) → IsStaged S s.world P → MergesPart S F apart go s purpose k t runs
      → (v : World) × (t ≡ record s { world = v }) × Stays s.world v
  part_stays apart go s t purpose k runs staged (inl (entries, l, some, run, (v, a, same), one)) = (v, same, append_stays apart s.world v purpose (F.frame _ (F.run entries)) l staged a)
  part_stays apart go s t purpose k runs staged (inr (run, same, one)) = (s.world, same, stays_still s.world staged)

  -- ---- from one state to another

  -- the image stays from one state to another, and so does what was issued
  pub record Keeps (s t : State) : Type 0 where
    pub world : Stays s.world t.world
    pub same_opened : t.opened ≡ s.opened
    pub same_issued : t.issued ≡ s.issued

  pub other_extents : (w v : World) (extents : Extents) → Stays w v → Stays w (record v { extents = extents })
  other_extents w v extents stays = record { same = stays.same; staged = stays.staged; persistent = stays.persistent }

  -- a root over what was staged
  pub rooted_stays : (s : State) (v : World) (runs : List Run) (pointers : ℕ → ℕ) → Stays s.world v → Stays s.world (rooted S F (record s { world = v }) runs pointers).world
  rooted_stays s v runs pointers stays = stays_more s.world v (rooted S F (record s { world = v }) runs pointers).world stays
      (root_stays v (s.count + length s.commands) runs (map_now s) pointers stays.staged)

  -- the newest runs become one, with a root over it
  pub part_keeps : (s mid t : State) (go : Bool) (k : ℕ) (purpose : Purpose) (runs : List Run) → IsStaged S s.world P → MergesPart S F false go s purpose k mid runs
      → t ≡ rooted S F mid runs mid.world.extents.pointer → Keeps s t
  part_keeps s mid t go k purpose runs staged merges done =
      let m = part_stays false go s mid purpose k runs staged merges in
      subst (λ (u : State). Keeps s u) (sym (done ∙ ap (λ (u : State). rooted S F u runs u.world.extents.pointer) m.1))
      (record { world = rooted_stays s m.0 runs m.0.extents.pointer m.2; same_opened = refl; same_issued = refl })

  -- so where chunks and runs lie apart
  part_keeps_apart : (s mid t : State) (go : Bool) (k : ℕ) (purpose : Purpose) (runs : List Run) → IsStaged S s.world P → MergesPart S F true go s purpose k mid runs
      → t ≡ rooted_apart S F mid runs → Keeps s t
  part_keeps_apart s mid t go k purpose runs staged merges done =
      let m = part_stays true go s mid purpose k runs staged merges in
      let pointers : ℕ → ℕ = named m.0.extents.pointer runs in
      let root : World = (rooted S F (record s { world = m.0 }) runs pointers).world in
      let next : State = rooted_apart S F (record s { world = m.0 }) runs in
      subst (λ (u : State). Keeps s u) (sym (done ∙ ap (λ (u : State). rooted_apart S F u runs) m.1))
      (record { world = other_extents s.world root next.world.extents (rooted_stays s m.0 runs pointers m.2); same_opened = refl; same_issued = refl })

  pub stages_keep : (s t : State) → IsStaged S s.world P → StagesApart S F s t → Keeps s t
  stages_keep s t staged (mid, runs, inl m, done) = part_keeps_apart s mid t (deletions_go S s (takes S s)) (takes S s) ForRun runs staged m done
  stages_keep s t staged (mid, runs, inr m, done) = part_keeps_apart s mid t (deletions_go S s (length s.runs)) (length s.runs) ForMerge runs staged m.1 done

  -- the copies of a sweep that ended count, which changes the table alone
  pub retires_keep : (s t : State) (e : ℕ) → IsStaged S s.world P → StagesApart S F (settled (mark s e false)) t → Keeps s t
  retires_keep s t e staged stages = settled_alike (λ (x : State). Keeps x t → Keeps s t) (mark s e false)
      (λ k. record {
        world = record { same = k.world.same; staged = k.world.staged; persistent = k.world.persistent };
        same_opened = k.same_opened;
        same_issued = k.same_issued;
      })
      (stages_keep (settled (mark s e false)) t
      (settled_alike (λ (x : State). IsStaged S x.world P) (mark s e false) (record { writes = staged.writes; superblocks = staged.superblocks; root = staged.root })) stages)
