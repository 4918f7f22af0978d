-- The chunks of room stay those of the machine where what is read stays.
use Rattle.std.proofs.Common.{◌≡◌, inl, inr, ⊎_elim, ℕ, suc, ◌<◌, ◌≤◌, ◌+◌, List, [], ◌∷◌, ◌++◌, length, refl, sym, ap, ◌∙◌, subst, arith}
use Rattle.law_machine.specs.Device.{Page, Shape}
use Rattle.law_machine.specs.Element.{Copy, Locator, Opening}
use Rattle.law_machine.specs.Formats.{ChunkFrame, Formats, fault_for}
use Rattle.law_machine.specs.Index.{Reads}
use Rattle.law_machine.specs.Lists.{◌∈◌}
use Rattle.law_room.specs.OfMachine.{AreChunksOf, HasPages, copied_to}
use Rattle.law_room.specs.Rooms.{Chunk}

module _ (S : Shape) (F : Formats) where
  -- an extent whose pointer and generation stay is read as before
  pub reads_there : (opening : Opening) (img : ℕ → Page) (p g q h : ℕ → ℕ) (l : Locator) (bs : List Page)
      → q l.extent ≡ p l.extent → h l.extent ≡ g l.extent → Reads S F opening img p g l bs
      → Reads S F opening img q h l bs
  reads_there opening img p g q h l bs pointer generation r = record {
    passes = record {
      generation = generation ∙ r.passes.generation;
      below = (let lt : l.page < p l.extent = r.passes.below in omega arith);
      inside = r.passes.inside;
      mark = r.passes.mark;
    };
    below = ⊎_elim (λ le. inl (subst (λ (n : ℕ). l.page + length bs ≤ n) (sym pointer) le)) (λ is. inr is) r.below;
    inside = r.inside;
    within = r.within;
    stand = r.stand;
    marked = r.marked;
    long = r.long;
  }

  module _ (one two : Opening) (img other : ℕ → Page) (p g q h : ℕ → ℕ) where
    pub pages_move : (l : Locator) (n : ℕ) → (one.damage l ≡ two.damage l) → (one.pages l ≡ two.pages l)
        → ((payload : List ℕ) → Reads S F one img p g l (F.frame ChunkFrame payload)
        → Reads S F two other q h l (F.frame ChunkFrame payload))
        → HasPages S F one img p g l n → HasPages S F two other q h l n
    pages_move l n damage pages reads (inl has) = inl (has.0, reads has.0 has.1, has.2)
    pages_move l n damage pages reads (inr bad) = inr (
      bad.0,
      sym damage ∙ bad.1,
      (λ on more. ap (λ (bs : List Page). fault_for S F ChunkFrame l.mark (bs ++ more)) (sym pages) ∙ bad.2 on more),
      bad.3,
    )

    pub chunks_move : (copies more : List Copy) (id k : ℕ) (ls : List Locator) (cs : List Chunk)
        → ((l : Locator) (n : ℕ) → l ∈ ls → HasPages S F one img p g l n → HasPages S F two other q h l n)
        → ((j : ℕ) (l : Locator) → l ∈ ls → copied_to copies id j l ≡ copied_to more id j l)
        → AreChunksOf S F one img p g copies id k ls cs → AreChunksOf S F two other q h more id k ls cs
    chunks_move copies more id k [] cs pages copied none = none
    chunks_move copies more id k (l ∷ ls) cs pages copied (c, rest, parts, is, others) = (
      c,
      rest,
      parts,
      record {
        id = is.id;
        extent = is.extent;
        pages = pages l c.pages (inl refl) is.pages;
        copy = is.copy ∙ copied k l (inl refl);
      },
      chunks_move copies more id (suc k) ls rest (λ x n there. pages x n (inr there))
          (λ j x there. copied j x (inr there)) others,
    )
