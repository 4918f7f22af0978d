-- An extent that is being swept where chunks and runs lie apart: how that begins, and what leaves it so.
use Rattle.std.proofs.Common.{◌≡◌, ◌≢◌, ◌∙◌, ◌⊎◌, ◌==◌, inl, inr, ⊎_elim, ℕ, ◌+◌, ◌≤◌, Bool, List, Some, false, true, if◌then◌else◌, true≢false, refl, sym, ap, subst, arith, eq-eqb, ne_eqb}
use Rattle.std.proofs.lemmas.Bool.{cases_lt}
use Rattle.law_machine.proofs.ApartResets.{each_extent, swept_stay}
use Rattle.law_machine.proofs.Parts.{with_other}
use Rattle.law_machine.specs.Apart.{MayNotBegin, is_blank_by, reset_all, swept_aside}
use Rattle.law_machine.specs.Device.{Shape}
use Rattle.law_machine.specs.Element.{Copy, Entry, Run}
use Rattle.law_machine.specs.Extents.{Extents, ForMerge, ForMove, ForPut, ForRun, GoesApart, IsFirst, IsFirstEmpty, MayOpen, Purpose, Takes, marked, noted, of_runs_by, taken_by}
use Rattle.cs_reclaim.specs.Rooted.{extents_at_rest, lying_apart}
use Rattle.cs_reclaim.specs.Sweeps.{IsSweptApart}
use Rattle.cs_reclaim.proofs.Freeing.{chunks_stay, swept_not_blank}

-- a sweep begins where it may
pub begun_apart : (S : Shape) (x : Extents) (copies : List Copy) (e : ℕ) → (MayNotBegin S x copies e → ⊥) → IsSweptApart S (swept_aside S x e) e
begun_apart S x copies e may = record {
  inside = elim (cases_lt e S.extents) [ inl lt ↦ lt | inr ge ↦ absurd (may (inr (inr (inl ge)))) ];
  marked = (let here : (e == e) ≡ true = eq-eqb e e refl in rw here refl);
  written = elim (cases_lt 0 (x.pointer e)) [ inl lt ↦ lt | inr none ↦ absurd (may (inr (inr (inr (inl (omega (arith, none))))))) ];
  of_chunks = chunks (x.of_runs e) refl;
}
  where
    chunks : (b : Bool) → x.of_runs e ≡ b → x.of_runs e ≡ false
    chunks true is = absurd (may (inr (inr (inr (inr is)))))
    chunks false is = is

module _ (S : Shape) (x : Extents) (e : ℕ) (swept : IsSweptApart S x e) where
  -- no frame is put behind what lies there
  not_behind : (purpose : Purpose) (k : ℕ) → Takes S x purpose k e → ⊥
  not_behind ForPut k takes = true≢false (sym swept.marked ∙ takes.1)
  not_behind ForRun k takes = true≢false (sym takes.2 ∙ swept.of_chunks)
  not_behind ForMove k takes = true≢false (sym swept.marked ∙ takes.1)
  not_behind ForMerge k takes = takes

  pub elsewhere_apart : (purpose : Purpose) (k d : ℕ) → GoesApart S x purpose k d → d ≢ e
  elsewhere_apart purpose k d goes is = ⊎_elim
      (λ (last : (noted S x purpose ≡ Some d) × Takes S x purpose k d). not_there last.1)
      (λ (rest : (((o : ℕ) → noted S x purpose ≡ Some o → Takes S x purpose k o → ⊥) × IsFirst (Takes S x purpose k) d)
      ⊎ (((o : ℕ) → Takes S x purpose k o → ⊥) × IsFirstEmpty S x d × (k ≤ S.pages) × MayOpen S x purpose)). ⊎_elim
      (λ (first : ((o : ℕ) → noted S x purpose ≡ Some o → Takes S x purpose k o → ⊥) × IsFirst (Takes S x purpose k) d). not_there first.1.0)
      (λ (empty : ((o : ℕ) → Takes S x purpose k o → ⊥) × IsFirstEmpty S x d × (k ≤ S.pages) × MayOpen S x purpose).
      let none : x.pointer e ≡ 0 = ap x.pointer (sym is) ∙ empty.1.1 in omega (arith, none, swept.written))
      rest)
      goes
    where
      not_there : Takes S x purpose k d → ⊥
      not_there takes = not_behind purpose k (subst (λ (n : ℕ). Takes S x purpose k n) is takes)

  -- it is being swept still whatever goes elsewhere
  pub taken_apart : (purpose : Purpose) (k d : ℕ) → GoesApart S x purpose k d → IsSweptApart S (taken_by S true purpose x d k) e
  taken_apart purpose k d goes =
      let other : d ≢ e = elsewhere_apart purpose k d goes in
      record {
        inside = swept.inside;
        marked = swept.marked;
        written = omega (arith, swept.written, with_other x.pointer d (x.pointer d + k) e (λ is. other (sym is)));
        of_chunks = kind purpose (ne_eqb e d (λ is. other (sym is)));
      }
    where
      apart : (b : Bool) → b ≡ false → (if b then true else x.of_runs e) ≡ false
      apart true is = absurd (cc is)
      apart false is = swept.of_chunks

      kind : (purpose : Purpose) → (e == d) ≡ false → of_runs_by S true purpose d x.of_runs e ≡ false
      kind ForPut other = swept.of_chunks
      kind ForRun other = apart (e == d) other
      kind ForMove other = swept.of_chunks
      kind ForMerge other = apart (e == d) other

  -- whatever other extent is marked
  pub marked_apart : (d : ℕ) (b : Bool) → d ≢ e → IsSweptApart S (marked x d b) e
  marked_apart d b other = record {
    inside = swept.inside;
    marked = still (e == d) (ne_eqb e d (λ is. other (sym is)));
    written = swept.written;
    of_chunks = swept.of_chunks;
  }
    where
      still : (here : Bool) → here ≡ false → (if here then b else x.swept e) ≡ true
      still true is = absurd (cc is)
      still false is = swept.marked

  -- whatever is at rest
  pub rest_apart : IsSweptApart S (extents_at_rest S x) e
  rest_apart = record { inside = swept.inside; marked = swept.marked; written = swept.written; of_chunks = swept.of_chunks }

  -- and whatever blank extents are emptied
  pub freed_apart : (index : List Entry) (runs : List Run) (copies : List Copy) (root : ℕ)
      → IsSweptApart S (reset_all (lying_apart S) x root (is_blank_by S x index runs copies) S.extents) e
  freed_apart index runs copies root = record {
    inside = swept.inside;
    marked = ap (λ (f : ℕ → Bool). f e) (swept_stay (lying_apart S) x root (is_blank_by S x index runs copies) S.extents) ∙ swept.marked;
    written = ⊎_elim
        (λ reset. absurd (swept_not_blank S index runs copies x e swept.inside swept.marked reset.1))
        (λ kept. omega (arith, kept.1, swept.written))
        (each_extent (lying_apart S) x root (is_blank_by S x index runs copies) S.extents e);
    of_chunks = chunks_stay (lying_apart S) x root (is_blank_by S x index runs copies) S.extents e swept.of_chunks;
  }
