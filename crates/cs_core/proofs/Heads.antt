-- Disks on which the sections of a superblock and a root are written.
use Rattle.std.proofs.Common.{◌≡◌, ◌≢◌, ◌∙◌, ◌⊎◌, inl, inr, ⊎_elim, ℕ, suc, ◌+◌, ◌*◌, ◌<◌, ◌==◌, Bool, true, false, List, [], ◌∷◌, ◌++◌, append_assoc, arith, eq-eqb, ne_eqb, if◌then◌else◌, length, refl, sym, ap, subst, Result, Ok, Err, OnErr, OnOk}
use Rattle.std.specs.Prelude.{All}
use Rattle.std.proofs.lemmas.Bool.{cases_eq}
use Rattle.std.proofs.lemmas.List.{append-nil}
use Rattle.cs_disk.proofs.Images.{All_cons, applied_push, length-applied, page_other, page_same}
use Rattle.cs_disk.specs.Disk.{Image, State as DiskState, Write, flushed, page, seen, written}
use Rattle.cs_frame.proofs.GeometryLaws.{pages_on_device}
use Rattle.cs_frame.specs.Geometries.{IsGeometry, device_pages}
use Rattle.cs_frame.specs.Roots.{SpellsRoot, identity_in}
use Rattle.cs_core.specs.Started.{AreNewWritten, IsHead, IsHeadWritten, IsNewOn, head_page, SpellsNew}
use Rattle.law_machine.specs.Format.{Format}

-- whatever the refusal
pub on_err : {T E : Type 0} (r : Result T E) (A : Type 0) → A → OnErr r A
on_err (Ok t) A a = tt
on_err (Err e) A a = a

-- ---- where sections lie

first_page : (extents pages j : ℕ) → j ≡ 0 → head_page extents pages j ≡ 0
first_page extents pages j is = let test : (j == 0) ≡ true = eq-eqb j 0 is in ap (λ (b : Bool). if b then 0 else 1 + extents * pages + j) test

later_page : (extents pages j : ℕ) → (j ≡ 0 → ⊥) → head_page extents pages j ≡ 1 + extents * pages + j
later_page extents pages j some = let test : (j == 0) ≡ false = ne_eqb j 0 some in ap (λ (b : Bool). if b then 0 else 1 + extents * pages + j) test

pub head_below : (format : Format) (extents pages sections j : ℕ) → IsGeometry format extents pages sections → j < sections → head_page extents pages j < device_pages format extents pages sections
head_below format extents pages sections j is_one lt =
    let on = pages_on_device format extents pages sections is_one in
    ⊎_elim
    (λ (is : j ≡ 0). let at = first_page extents pages j is in omega (arith, at, lt, on))
    (λ (some : j ≡ 0 → ⊥). let at = later_page extents pages j some in omega (arith, at, lt, on))
    (cases_eq j 0)

pub head_is : (extents pages j : ℕ) → IsHead extents pages (head_page extents pages j)
head_is extents pages j = ⊎_elim
    (λ (is : j ≡ 0). inl (let at = first_page extents pages j is in omega (arith, at)))
    (λ (some : j ≡ 0 → ⊥). inr (let at = later_page extents pages j some in omega (arith, at, some)))
    (cases_eq j 0)

-- no two have one, and none has the root's
pub head_apart : (extents pages j k : ℕ) → j ≢ k → head_page extents pages j ≢ head_page extents pages k
head_apart extents pages j k apart same = ⊎_elim
    (λ (a : j ≡ 0). ⊎_elim
    (λ (b : k ≡ 0). apart (a ∙ sym b))
    (λ (b : k ≡ 0 → ⊥). let at = first_page extents pages j a in let to = later_page extents pages k b in omega (arith, at, to, same))
    (cases_eq k 0))
    (λ (a : j ≡ 0 → ⊥). ⊎_elim
    (λ (b : k ≡ 0). let at = later_page extents pages j a in let to = first_page extents pages k b in omega (arith, at, to, same))
    (λ (b : k ≡ 0 → ⊥). let at = later_page extents pages j a in let to = later_page extents pages k b in apart (omega (arith, at, to, same)))
    (cases_eq k 0))
    (cases_eq j 0)

pub head_not_root : (extents pages j : ℕ) → head_page extents pages j ≢ 1
head_not_root extents pages j same = ⊎_elim
    (λ (is : j ≡ 0). let at = first_page extents pages j is in omega (arith, at, same))
    (λ (some : j ≡ 0 → ⊥). let at = later_page extents pages j some in omega (arith, at, same, some))
    (cases_eq j 0)

-- ---- what is written

module _ (extents pages : ℕ) where
  none_head : All (λ (w : Write). IsHead extents pages w.0) []
  none_head = λ i w lt. absurd (omega (arith, lt))

  all_head : (ws : List Write) (w : Write) → All (λ (w : Write). IsHead extents pages w.0) ws → IsHead extents pages w.0 → All (λ (w : Write). IsHead extents pages w.0) (ws ++ w ∷ [])
  all_head [] w all here = All_cons (λ (w : Write). IsHead extents pages w.0) w [] here none_head
  all_head (x ∷ xs) w all here = All_cons (λ (w : Write). IsHead extents pages w.0) x (xs ++ w ∷ []) (all 0 x (omega arith)) (all_head xs w (λ i y lt. all (suc i) y (omega (arith, lt))) here)

  -- nothing was written yet
  pub head_none : (d : DiskState) → IsHeadWritten extents pages d d
  head_none d = record { writes = []; head = none_head; volatile = sym (append-nil d.volatile); durable = refl }

  -- one of these pages more
  pub head_more : (d e : DiskState) (p : ℕ) (bytes : List ℕ) → IsHead extents pages p → IsHeadWritten extents pages d e → IsHeadWritten extents pages d (written e p bytes)
  head_more d e p bytes is so_far = record {
    writes = so_far.writes ++ (p, bytes) ∷ [];
    head = all_head so_far.writes (p, bytes) so_far.head is;
    volatile = ap (λ (ws : List Write). ws ++ (p, bytes) ∷ []) so_far.volatile ∙ append_assoc d.volatile so_far.writes ((p, bytes) ∷ []);
    durable = so_far.durable;
  }

  -- or not
  pub head_failed : (d e f : DiskState) (p : ℕ) → IsHead extents pages p → IsHeadWritten extents pages d e → (f ≡ e) ⊎ ((bytes : List ℕ) × (f ≡ written e p bytes)) → IsHeadWritten extents pages d f
  head_failed d e f p is so_far why = ⊎_elim
      (λ (same : f ≡ e). subst (λ (k : DiskState). IsHeadWritten extents pages d k) (sym same) so_far)
      (λ (more : (bytes : List ℕ) × (f ≡ written e p bytes)). subst (λ (k : DiskState). IsHeadWritten extents pages d k) (sym more.1) (head_more d e p more.0 is so_far))
      why

-- a page that was written reads so, and the others as before
wrote_here : (d : DiskState) (p : ℕ) (bytes : List ℕ) → p < length d.durable → page (seen (written d p bytes)) p ≡ bytes
wrote_here d p bytes inside = ap (λ (i : Image). page i p) (applied_push d.durable d.volatile (p, bytes))
    ∙ page_same (seen d) p bytes (let long = length-applied d.durable d.volatile in omega (arith, long, inside))

wrote_there : (d : DiskState) (p q : ℕ) (bytes : List ℕ) → q ≢ p → page (seen (written d p bytes)) q ≡ page (seen d) q
wrote_there d p q bytes other = ap (λ (i : Image). page i q) (applied_push d.durable d.volatile (p, bytes)) ∙ page_other (seen d) p q bytes other

module _ (format : Format) (extents pages sections : ℕ) (is_one : IsGeometry format extents pages sections) (old : DiskState) (sized : length old.durable ≡ device_pages format extents pages sections) where
  pub none_written : AreNewWritten format extents pages sections 0 old old
  none_written = record { head = head_none extents pages old; each = λ j lt. absurd (omega (arith, lt)) }

  -- one section more
  pub more_written : (count : ℕ) (mid new : DiskState) (bytes : List ℕ) → AreNewWritten format extents pages sections count old mid → count < sections
      → SpellsNew format extents pages sections count bytes → new ≡ written mid (head_page extents pages count) bytes
      → AreNewWritten format extents pages sections (count + 1) old new
  more_written count mid new bytes so_far lt spelled is =
      let long : length mid.durable ≡ device_pages format extents pages sections = ap length so_far.head.durable ∙ sized in
      let below : head_page extents pages count < device_pages format extents pages sections = head_below format extents pages sections count is_one lt in
      let inside : head_page extents pages count < length mid.durable = omega (arith, below, long) in
      subst (λ (d : DiskState). AreNewWritten format extents pages sections (count + 1) old d) (sym is) (record {
        head = head_more extents pages old mid (head_page extents pages count) bytes (head_is extents pages count) so_far.head;
        each = λ j few. ⊎_elim
            (λ (here : j ≡ count). subst
            (λ (k : ℕ). SpellsNew format extents pages sections k (page (seen (written mid (head_page extents pages count) bytes)) (head_page extents pages k))) (sym here)
            (subst (λ (b : List ℕ). SpellsNew format extents pages sections count b) (sym (wrote_here mid (head_page extents pages count) bytes inside)) spelled))
            (λ (other : j ≡ count → ⊥).
            subst (λ (b : List ℕ). SpellsNew format extents pages sections j b)
            (sym (wrote_there mid (head_page extents pages count) (head_page extents pages j) bytes (head_apart extents pages j count other)))
            (so_far.each j (omega (arith, few, other))))
            (cases_eq j count);
      })

  -- and then the root, and all is durable
  pub new_on : (mid new : DiskState) (bytes : List ℕ) → AreNewWritten format extents pages sections sections old mid → SpellsRoot bytes (identity_in format) 1 0 [] → new ≡ flushed (written mid 1 bytes)
      → IsNewOn format extents pages sections old new
  new_on mid new bytes so_far spelled is =
      let long : length mid.durable ≡ device_pages format extents pages sections = ap length so_far.head.durable ∙ sized in
      let on = pages_on_device format extents pages sections is_one in
      subst (λ (d : DiskState). IsNewOn format extents pages sections old d) (sym is) (record {
        formatted = (written mid 1 bytes, head_more extents pages old mid 1 bytes (inl (omega arith)) so_far.head, refl);
        superblock = λ j lt. subst (λ (b : List ℕ). SpellsNew format extents pages sections j b)
            (sym (wrote_there mid 1 (head_page extents pages j) bytes (head_not_root extents pages j))) (so_far.each j lt);
        root = subst (λ (b : List ℕ). SpellsRoot b (identity_in format) 1 0 []) (sym (wrote_here mid 1 bytes (omega (arith, long, on, is_one.fewest_sections)))) spelled;
      })

-- whatever the last writes answered
pub heads_written : {T E : Type 0} (format : Format) (extents pages sections : ℕ) → IsGeometry format extents pages sections → (old : DiskState) → length old.durable ≡ device_pages format extents pages sections → (r : Result T E) (mid new : DiskState) (bytes : List ℕ)
    → AreNewWritten format extents pages sections sections old mid → SpellsRoot bytes (identity_in format) 1 0 [] → OnOk r (new ≡ flushed (written mid 1 bytes)) → OnOk r (IsNewOn format extents pages sections old new)
heads_written format extents pages sections is_one old sized (Ok t) mid new bytes so_far spelled is = new_on format extents pages sections is_one old sized mid new bytes so_far spelled is
heads_written format extents pages sections is_one old sized (Err e) mid new bytes so_far spelled is = tt

pub heads_failed : {T E : Type 0} (extents pages : ℕ) (old : DiskState) (r : Result T E) (mid new : DiskState) (bytes : List ℕ) → IsHeadWritten extents pages old mid
    → OnErr r ((new ≡ mid) ⊎ (new ≡ written mid 1 bytes)) → OnErr r (IsHeadWritten extents pages old new)
heads_failed extents pages old (Ok t) mid new bytes so_far why = tt
heads_failed extents pages old (Err e) mid new bytes so_far why = head_failed extents pages old mid new 1 (inl (omega arith)) so_far
    (⊎_elim (λ (same : new ≡ mid). inl same) (λ (more : new ≡ written mid 1 bytes). inr (bytes, more)) why)
