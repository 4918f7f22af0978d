-- A frame that was put stands as it stood.
use Rattle.std.proofs.Common.{◌≡◌, ◌≢◌, ◌∙◌, ℕ, ◌+◌, ◌<◌, Bool, List, length, sym, ap, ⊎_elim, arith}
use Rattle.cs_chunk.specs.Newest.{AreNewest}
use Rattle.cs_chunk.specs.Stays.{IsBelow}
use Rattle.cs_chunk.proofs.Appends.{HasWrites, apart_below, has_writes, newest_stays, none_stays, pointer_of}
use Rattle.cs_chunk.proofs.Newest.{of_stand, reads_image, reads_newest, stand_of}
use Rattle.cs_deps.specs.State.{IsNewestOn, IsWhole, NoneOn, State as Graph}
use Rattle.cs_disk.specs.Disk.{Image, page}
use Rattle.cs_extent.specs.Appended.{IsAppendedBy}
use Rattle.cs_extent.specs.State.{IsWhole as IsWholeExtents, State, extents_of, shape}
use Rattle.cs_extent.proofs.Fitting.{pointer_grows, with_other}
use Rattle.cs_frame.specs.declared.locators.Locator.{Locator}
use Rattle.cs_frame.specs.Formats.{formats_of}
use Rattle.law_machine.specs.Extents.{Extents, Purpose as Reason, emptied}
use Rattle.law_machine.specs.Formats.{Stand}

pub below_reset : (x : Extents) (e root : ℕ) (k : Locator) (old : List (List ℕ)) → k.extent ≢ e → IsBelow x k old → IsBelow (emptied x e root) k old
below_reset x e root k old other below = (
  below.0 ∙ sym (with_other x.generation e _ k.extent other),
  omega (arith, below.1, with_other x.pointer e 0 k.extent other),
)

pub stays_behind : {apart_by : Bool} (x y : State) (g h : Graph) (r : Reason) (frame old : List (List ℕ)) (l k : Locator) (image : Image) (view now : ℕ → List ℕ)
    → IsWholeExtents x → IsAppendedBy apart_by x g r frame l y h → HasWrites h → AreNewest g image view → AreNewest h image now
    → IsBelow (extents_of x) k old → Stand (shape x) (formats_of (shape x)) view k.extent k.page old
    → Stand (shape x) (formats_of (shape x)) now k.extent k.page old × IsBelow (extents_of y) k old
stays_behind x y g h r frame old l k image view now extents a has before after below stand = (
  stand_of (shape x) (formats_of (shape x)) now k.extent k.page old (λ i lt. same i lt ∙ of_stand (shape x) (formats_of (shape x)) view k.extent k.page old stand i lt),
  (below.0 ∙ ap (λ (z : Extents). z.generation k.extent) (sym a.extents), omega (arith, below.1, pointer_of x g r frame l y h a has k.extent, pointer_grows (extents_of x).pointer l.extent (length frame) k.extent)),
)
  where
    same : (i : ℕ) → i < length old → now ((shape x).address k.extent (k.page + i)) ≡ view ((shape x).address k.extent (k.page + i))
    same i lt =
        let p : ℕ = (shape x).address k.extent (k.page + i) in
        let apart = apart_below x g r frame l y h a has extents.pointers k.extent (k.page + i) (omega (arith, below.1, lt)) in
        ⊎_elim
        (λ (n : IsNewestOn g ((shape x).address k.extent (k.page + i)) (view ((shape x).address k.extent (k.page + i)))). reads_newest h image now ((shape x).address k.extent (k.page + i)) (view ((shape x).address k.extent (k.page + i))) after (newest_stays x g r frame l y h a has ((shape x).address k.extent (k.page + i)) (view ((shape x).address k.extent (k.page + i))) apart n))
        (λ (n : NoneOn g ((shape x).address k.extent (k.page + i)) × (view ((shape x).address k.extent (k.page + i)) ≡ page image ((shape x).address k.extent (k.page + i)))). reads_image h image now ((shape x).address k.extent (k.page + i)) after (none_stays x g r frame l y h a has ((shape x).address k.extent (k.page + i)) apart n.0) ∙ sym n.1)
        (before ((shape x).address k.extent (k.page + i)))

pub stays_appended : {apart_by : Bool} (x y : State) (g h : Graph) (r : Reason) (frame old : List (List ℕ)) (l k : Locator) (image : Image) (view now : ℕ → List ℕ)
    → IsWholeExtents x → IsAppendedBy apart_by x g r frame l y h → IsWhole h → AreNewest g image view → AreNewest h image now
    → IsBelow (extents_of x) k old → Stand (shape x) (formats_of (shape x)) view k.extent k.page old
    → Stand (shape x) (formats_of (shape x)) now k.extent k.page old × IsBelow (extents_of y) k old
stays_appended x y g h r frame old l k image view now extents a whole = stays_behind x y g h r frame old l k image view now extents a (has_writes h whole)
