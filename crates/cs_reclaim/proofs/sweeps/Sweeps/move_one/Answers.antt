use Rattle.std.proofs.Common.{◌≡◌, ◌∙◌, ◌↔◌, Bool, List, None, Ok, ap, refl, subst, sym, ℕ}
use Rattle.std.specs.Prelude.{OnErr}
use Rattle.cs_chunk.specs.Chunks.{IsFrameIn}
use Rattle.cs_chunk.specs.Newest.{AreNewest}
use Rattle.cs_chunk.specs.Reads.{fault_in}
use Rattle.cs_disk.specs.Disk.{seen}
use Rattle.cs_extent.specs.State.{extents_of, shape}
use Rattle.cs_frame.specs.declared.frames.FrameKind.TheVariants.{Chunk}
use Rattle.cs_frame.specs.Formats.{as_locator}
use Rattle.cs_index.specs.State.{id_number, index_of}
use Rattle.law_machine.specs.Device.{Shape}
use Rattle.law_machine.specs.Element.{Locator as Place}
use Rattle.law_machine.specs.Formats.{ChunkFrame}
use Rattle.cs_reclaim.specs.ByRule.{IsNextBy, IsSweptBy, NothingToMoveBy, StaysBy}
use Rattle.cs_reclaim.specs.Moves.{AnswersMove, AnswersPlace}
use Rattle.cs_reclaim.proofs.ByRule.{copied, moved_before, on_err, one_rule, stays}
use Rattle.cs_reclaim.proofs.sweeps.Sweeps.move_one.Goals as goal

-- ---- where chunks and runs lie apart

pub copy_one-requires-clause-swept : goal.copy_one-requires-clause-swept
copy_one-requires-clause-swept g c =
    subst (λ (b : Bool). IsSweptBy b (shape c.args.extents.now) (extents_of c.args.extents.now) c.args.extent) (sym c.is_apart.ensures ∙ c.if-not-is_apart.false) c.requires.swept

pub returns-clause-none : goal.returns-clause-none
returns-clause-none g c =
    subst (λ (b : Bool). (c.copy_one.result ≡ Ok None) ↔ NothingToMoveBy b (index_of c.args.index.now) c.args.self.now c.args.extent) (sym c.if-not-is_apart.false ∙ c.is_apart.ensures) c.copy_one.ensures.none

pub returns-clause-moved : goal.returns-clause-moved
returns-clause-moved g c = λ id chunk is.
    copied c.args.index.now c.args.index.now c.args.extents.now c.copy_one.new.extents c.args.graph.now c.copy_one.new.graph c.args.self.now c.copy_one.new.self c.args.extent (id_number id) chunk
    (λ (p : Place) (payload : List ℕ). g.D.PageDisk.honest c.args.disk.now → (view : ℕ → List ℕ) → AreNewest c.args.graph.now (seen (g.D.PageDisk.state c.args.disk.now)) view → IsFrameIn c.args.extents.now view ChunkFrame (as_locator p) payload)
    (shape c.args.extents.now).apart (sym c.is_apart.ensures ∙ c.if-not-is_apart.false) (c.copy_one.ensures.copied id chunk is) refl

pub returns-clause-damaged : goal.returns-clause-damaged
returns-clause-damaged g c = λ honest view are.
    subst (λ (b : Bool). (id chunk : ℕ) (from : Place) → IsNextBy b (index_of c.args.index.now) c.args.self.now c.args.extent id chunk from → AnswersMove (fault_in c.args.extents.now view Chunk (as_locator from)) c.copy_one.result)
    (sym c.if-not-is_apart.false ∙ c.is_apart.ensures) (c.copy_one.ensures.damaged honest view are)

pub returns-clause-why : goal.returns-clause-why
returns-clause-why g c = λ honest view are.
    subst (λ (b : Bool). (id chunk : ℕ) (from : Place) (payload : List ℕ) → IsNextBy b (index_of c.args.index.now) c.args.self.now c.args.extent id chunk from
    → IsFrameIn c.args.extents.now view ChunkFrame (as_locator from) payload → AnswersPlace c.args.extents.now c.args.graph.now.staging payload c.copy_one.result)
    (sym c.if-not-is_apart.false ∙ c.is_apart.ensures) (c.copy_one.ensures.why honest view are)

pub returns-clause-refused : goal.returns-clause-refused
returns-clause-refused g c =
    on_err c.copy_one.result (stays (shape c.args.extents.now).apart c.args.index.now)

pub returns-clause-still : goal.returns-clause-still
returns-clause-still g c =
    subst (λ (b : Bool). IsSweptBy b (shape c.copy_one.new.extents) (extents_of c.copy_one.new.extents) c.args.extent) (sym c.if-not-is_apart.false ∙ c.is_apart.ensures ∙ sym (ap (λ (T : Shape). T.apart) c.copy_one.ensures.shape)) c.copy_one.ensures.still

-- ---- where they may lie on one extent

pub move_one-requires-clause-swept : goal.move_one-requires-clause-swept
move_one-requires-clause-swept g c =
    subst (λ (b : Bool). IsSweptBy b (shape c.args.extents.now) (extents_of c.args.extents.now) c.args.extent) (sym c.is_apart.ensures ∙ c.if-not-is_apart.true) c.requires.swept

pub returns-then-not-is_apart-clause-none : goal.returns-then-not-is_apart-clause-none
returns-then-not-is_apart-clause-none g c =
    subst (λ (b : Bool). (c.move_one.result ≡ Ok None) ↔ NothingToMoveBy b (index_of c.args.index.now) c.args.self.now c.args.extent) (sym c.if-not-is_apart.true ∙ c.is_apart.ensures) c.move_one.ensures.none

pub returns-then-not-is_apart-clause-moved : goal.returns-then-not-is_apart-clause-moved
returns-then-not-is_apart-clause-moved g c = λ id chunk is.
    moved_before c.args.index.now c.move_one.new.index c.args.extents.now c.move_one.new.extents c.args.graph.now c.move_one.new.graph c.args.self.now c.args.self.now c.args.extent (id_number id) chunk
    (λ (p : Place) (payload : List ℕ). g.D.PageDisk.honest c.args.disk.now → (view : ℕ → List ℕ) → AreNewest c.args.graph.now (seen (g.D.PageDisk.state c.args.disk.now)) view → IsFrameIn c.args.extents.now view ChunkFrame (as_locator p) payload)
    (shape c.args.extents.now).apart (sym c.is_apart.ensures ∙ c.if-not-is_apart.true) (c.move_one.ensures.moved id chunk is) refl

pub returns-then-not-is_apart-clause-damaged : goal.returns-then-not-is_apart-clause-damaged
returns-then-not-is_apart-clause-damaged g c = λ honest view are.
    subst (λ (b : Bool). (id chunk : ℕ) (from : Place) → IsNextBy b (index_of c.args.index.now) c.args.self.now c.args.extent id chunk from → AnswersMove (fault_in c.args.extents.now view Chunk (as_locator from)) c.move_one.result)
    (sym c.if-not-is_apart.true ∙ c.is_apart.ensures) (c.move_one.ensures.damaged honest view are)

pub returns-then-not-is_apart-clause-why : goal.returns-then-not-is_apart-clause-why
returns-then-not-is_apart-clause-why g c = λ honest view are.
    subst (λ (b : Bool). (id chunk : ℕ) (from : Place) (payload : List ℕ) → IsNextBy b (index_of c.args.index.now) c.args.self.now c.args.extent id chunk from
    → IsFrameIn c.args.extents.now view ChunkFrame (as_locator from) payload → AnswersPlace c.args.extents.now c.args.graph.now.staging payload c.move_one.result)
    (sym c.if-not-is_apart.true ∙ c.is_apart.ensures) (c.move_one.ensures.why honest view are)

pub returns-then-not-is_apart-clause-refused : goal.returns-then-not-is_apart-clause-refused
returns-then-not-is_apart-clause-refused g c =
    subst (λ (b : Bool). OnErr c.move_one.result (StaysBy b c.args.index.now c.move_one.new.index)) (sym c.if-not-is_apart.true ∙ c.is_apart.ensures) c.move_one.ensures.refused

pub returns-then-not-is_apart-clause-still : goal.returns-then-not-is_apart-clause-still
returns-then-not-is_apart-clause-still g c =
    subst (λ (b : Bool). IsSweptBy b (shape c.move_one.new.extents) (extents_of c.move_one.new.extents) c.args.extent) (sym c.if-not-is_apart.true ∙ c.is_apart.ensures ∙ sym (ap (λ (T : Shape). T.apart) c.move_one.ensures.shape)) c.move_one.ensures.still

pub returns-then-not-is_apart-clause-order : goal.returns-then-not-is_apart-clause-order
returns-then-not-is_apart-clause-order g c = λ apart. one_rule (shape c.args.extents.now).apart apart (sym c.is_apart.ensures ∙ c.if-not-is_apart.true)

pub returns-then-not-is_apart-clause-up_to : goal.returns-then-not-is_apart-clause-up_to
returns-then-not-is_apart-clause-up_to g c = λ apart. one_rule (shape c.args.extents.now).apart apart (sym c.is_apart.ensures ∙ c.if-not-is_apart.true)
