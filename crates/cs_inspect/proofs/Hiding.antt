-- Shards that are named, and shards with faults.
use Rattle.std.proofs.Common.{◌≡◌, ◌∙◌, ⊎_elim, inl, inr, ℕ, suc, List, [], ◌∷◌, ◌++◌, Option, Some, None, map, refl, sym, ap, subst}
use Rattle.std.specs.Prelude.{reverse}
use Rattle.cs_chunk.specs.Reads.{fault_in}
use Rattle.cs_refusal.specs.declared.refusals.Refusal.{Refusal}
use Rattle.cs_refusal.specs.declared.refusals.Refusal.TheVariants.{DeviceFault}
use Rattle.cs_disk.specs.Disk.{Rises}
use Rattle.cs_extent.specs.State.{State as ExtentsState, shape}
use Rattle.cs_frame.specs.declared.faults.FormatFault.{FormatFault}
use Rattle.cs_frame.specs.declared.frames.FrameKind.TheVariants as kind
use Rattle.cs_frame.specs.Formats.{as_locator, place_of}
use Rattle.cs_index.proofs.Merged.{merged_live}
use Rattle.cs_index.specs.State.{State as Index, id_number, index_of}
use Rattle.law_machine.proofs.Distinct.{in_either, in_first, in_second}
use Rattle.law_machine.proofs.FirstChunks.{lookup_member}
use Rattle.law_machine.specs.Element.{Entry, Locator as Place}
use Rattle.law_machine.specs.Formats.{places}
use Rattle.law_machine.specs.Index.{live, live_at, lookup}
use Rattle.law_machine.specs.Lists.{◌∈◌}
use Rattle.cs_inspect.specs.Chunks.{AreLiveChunks, Chunk, chunks_from, chunks_of}
use Rattle.cs_inspect.specs.declared.scrubs.Damage.{Damage}
use Rattle.cs_inspect.specs.declared.scrubs.Damage.TheVariants as damage
use Rattle.cs_inspect.specs.declared.scrubs.Scrubbed.{Scrubbed}
use Rattle.cs_inspect.specs.Scrubs.{AreCaused, AreNamed, Frame, HasFault, IsInside, IsNamed, IsOfShard, IsPassed, IsScrubbed, IsWhyUnread, NamesShard, OfChunk, OfRun, frame_of, frames_of, kind_in, place_in, refusal_in}
use Rattle.cs_inspect.proofs.InsideScrubs.{in_live}

-- ---- chunks of a shard

-- a chunk of this shard, at this place
abbrev IsAt : ℕ → Place → Chunk → Type 0
IsAt id l c = (c.id ≡ id) × (c.place ≡ l)

chunk_from : (id k : ℕ) (ls : List Place) (l : Place) → l ∈ ls → (c : Chunk) × (c ∈ chunks_from id k ls) × IsAt id l c
chunk_from id k [] l has = absurd has
chunk_from id k (m ∷ ls) l (inl same) = (record { id = id; number = k; place = m }, inl refl, (refl, sym same))
chunk_from id k (m ∷ ls) l (inr more) = let rest = chunk_from id (suc k) ls l more in (rest.0, inr rest.1, rest.2)

chunk_of_entry : (xs : List Entry) (x : Entry) (c : Chunk) → x ∈ xs → c ∈ chunks_from x.id 0 x.locators → c ∈ chunks_of xs
chunk_of_entry [] x c none has = absurd none
chunk_of_entry (y ∷ xs) x c (inl same) has = in_first (chunks_from y.id 0 y.locators) (chunks_of xs) c (subst (λ (z : Entry). c ∈ chunks_from z.id 0 z.locators) same has)
chunk_of_entry (y ∷ xs) x c (inr more) has = in_second (chunks_from y.id 0 y.locators) (chunks_of xs) c (chunk_of_entry xs x c more has)

-- what is live of a shard was looked up
looked_up : (o : Option (List Place)) (l : Place) → l ∈ live o → (ls : List Place) × (o ≡ Some ls) × (l ∈ ls)
looked_up None l none = absurd none
looked_up (Some ls) l has = (ls, refl, has)

-- each place of a shard is that of one of its chunks
chunk_live : (index : List Entry) (chunks : List Chunk) → AreLiveChunks index chunks → (id : ℕ) (l : Place) → l ∈ live_at index id → (c : Chunk) × (c ∈ chunks) × IsAt id l c
chunk_live index chunks are id l has =
    let found = looked_up (lookup id are.0) l (subst (λ (ls : List Place). l ∈ ls) (sym (merged_live index are.0 are.1 id)) has) in
    let entry = lookup_member are.0 id found.0 found.1 in
    let at = chunk_from entry.0.id 0 entry.0.locators l (subst (λ (ls : List Place). l ∈ ls) (sym entry.3) found.2) in
    (at.0, subst (λ (cs : List Chunk). at.0 ∈ cs) (sym are.2) (chunk_of_entry are.0 entry.0 at.0 entry.1 at.1), (at.2.0 ∙ entry.2, at.2.1))

-- ---- frames of chunks

in_map : {A B : Type 0} (f : A → B) (xs : List A) (x : A) → x ∈ xs → f x ∈ map f xs
in_map f [] x none = absurd none
in_map f (y ∷ xs) x (inl same) = inl (ap f same)
in_map f (y ∷ xs) x (inr more) = inr (in_map f xs x more)

from_map : {A B : Type 0} (f : A → B) (xs : List A) (y : B) → y ∈ map f xs → (x : A) × (x ∈ xs) × (y ≡ f x)
from_map f [] y none = absurd none
from_map f (x ∷ xs) y (inl same) = (x, inl refl, same)
from_map f (x ∷ xs) y (inr more) = let rest = from_map f xs y more in (rest.0, inr rest.1, rest.2)

same_chunk : (c d : Chunk) → OfChunk c ≡ OfChunk d → c ≡ d
same_chunk c d same = cc same

-- the frame of a chunk is among those of these chunks
framed : (chunks : List Chunk) (places : List Place) (c : Chunk) → OfChunk c ∈ map OfChunk chunks ++ map OfRun places → c ∈ chunks
framed chunks places c has = ⊎_elim
    (λ (here : OfChunk c ∈ map OfChunk chunks). let at = from_map OfChunk chunks (OfChunk c) here in subst (λ (d : Chunk). d ∈ chunks) (sym (same_chunk c at.0 at.2)) at.1)
    (λ (there : OfChunk c ∈ map OfRun places). let at = from_map OfRun places (OfChunk c) there in absurd (let wrong : OfChunk c ≡ OfRun at.0 = at.2 in cc))
    (in_either (map OfChunk chunks) (map OfRun places) (OfChunk c) has)

-- the damage of a chunk's frame is of its shard
of_its_shard : (id : ℕ) (c : Chunk) (d : Damage) → c.id ≡ id → frame_of d ≡ OfChunk c → IsOfShard id d
of_its_shard id c (damage.Chunk i k p r) is of = ap (λ (x : Chunk). x.id) (same_chunk (record { id = id_number i; number = k; place = place_of p }) c of) ∙ is
of_its_shard id c (damage.Run p r) is of = absurd (let wrong : OfRun (place_of p) ≡ OfChunk c = of in cc)

-- ---- what is named

caused_in : (before after : ℕ) (ds : List Damage) (d : Damage) → AreCaused before after ds → d ∈ ds → refusal_in d ≡ DeviceFault → Rises before after
caused_in before after [] d caused none is = absurd none
caused_in before after (e ∷ ds) d caused (inl same) is = caused.0 (ap refusal_in (sym same) ∙ is)
caused_in before after (e ∷ ds) d caused (inr more) is = caused_in before after ds d caused.1 more is

module _ (x : ExtentsState) (view : ℕ → List ℕ) where
  -- a frame that isn't passed over has a damage
  frame_named : (fs : List Frame) (ds : List Damage) (f : Frame) → AreNamed x view fs ds → f ∈ fs → ¬ IsPassed x view f → (d : Damage) × (d ∈ ds) × (frame_of d ≡ f)
  frame_named [] ds f named none not = absurd none
  frame_named (g ∷ fs) ds f (inl (passed, rest)) (inl same) not = absurd (not (subst (λ (h : Frame). IsPassed x view h) (sym same) passed))
  frame_named (g ∷ fs) ds f (inl (passed, rest)) (inr more) not = frame_named fs ds f rest more not
  frame_named (g ∷ fs) ds f (inr (d, xs, e, is, rest)) (inl same) not = (d, subst (λ (ys : List Damage). d ∈ ys) (sym e) (inl refl), is.0 ∙ sym same)
  frame_named (g ∷ fs) ds f (inr (d, xs, e, is, rest)) (inr more) not =
      let found = frame_named fs xs f rest more not in
      (found.0, subst (λ (ys : List Damage). found.0 ∈ ys) (sym e) (inr found.1), found.2)

  -- a damage is of one of the frames
  named_frame : (fs : List Frame) (ds : List Damage) (d : Damage) → AreNamed x view fs ds → d ∈ ds → (f : Frame) × (f ∈ fs) × IsNamed x view f d
  named_frame [] ds d none has = absurd (subst (λ (ys : List Damage). d ∈ ys) none has)
  named_frame (g ∷ fs) ds d (inl (passed, rest)) has = let found = named_frame fs ds d rest has in (found.0, inr found.1, found.2)
  named_frame (g ∷ fs) ds d (inr (e, xs, is, named, rest)) has = ⊎_elim
      (λ (here : d ≡ e). (g, inl refl, subst (λ (c : Damage). IsNamed x view g c) (sym here) named))
      (λ (there : d ∈ xs). let found = named_frame fs xs d rest there in (found.0, inr found.1, found.2))
      (subst (λ (ys : List Damage). d ∈ ys) is has)

  module _ (index : Index) (found : Scrubbed) (scrubbed : IsScrubbed x view index found) (id : ℕ) where
    -- a chunk that has a fault is named
    pub faults_named : HasFault x view index id → NamesShard found.damages.items id
    faults_named (l, f, has, fault) =
        let at = chunk_live (index_of index) scrubbed.chunks scrubbed.live id l has in
        let named = frame_named (frames_of scrubbed.chunks index.runs) found.damages.items (OfChunk at.0) scrubbed.named
        (in_first (map OfChunk scrubbed.chunks) (map OfRun (reverse (places index.runs))) (OfChunk at.0) (in_map OfChunk scrubbed.chunks at.0 at.1))
        (λ passed. let wrong : None ≡ Some f = sym passed.1 ∙ ap (λ (m : Place). fault_in x view kind.Chunk (as_locator m)) at.2.1 ∙ fault in cc) in
        (named.0, named.1, of_its_shard id at.0 named.0 at.2.0 named.2)

    -- a chunk that is named has a fault, where the device refused no read
    module _ (before after : ℕ) (caused : AreCaused before after found.damages.items) (not : ¬ Rises before after) where
      why_fault : (c : Chunk) (r : Refusal) → IsInside (shape x) (as_locator c.place) → (r ≡ DeviceFault → ⊥) → IsWhyUnread x view kind.Chunk (as_locator c.place) r
          → (f : FormatFault) × (fault_in x view kind.Chunk (as_locator c.place) ≡ Some f)
      why_fault c r inside other (inl device) = absurd (other device)
      why_fault c r inside other (inr (inl (there, (f, fault, same)))) = (f, fault)
      why_fault c r inside other (inr (inr (outside, same))) = absurd (outside inside)

      pub named_faults : NamesShard found.damages.items id → HasFault x view index id
      named_faults (damage.Run p r, has, none) = absurd none
      named_faults (damage.Chunk i k p r, has, of) =
          let c : Chunk = record { id = id_number i; number = k; place = place_of p } in
          let at = named_frame (frames_of scrubbed.chunks index.runs) found.damages.items (damage.Chunk i k p r) scrubbed.named has in
          let there : c ∈ scrubbed.chunks = framed scrubbed.chunks (reverse (places index.runs)) c (subst (λ (f : Frame). f ∈ frames_of scrubbed.chunks index.runs) (sym at.2.0) at.1) in
          let fault = why_fault c r (scrubbed.inside c there) (λ device. not (caused_in before after found.damages.items (damage.Chunk i k p r) caused has device))
          (subst (λ (f : Frame). IsWhyUnread x view (kind_in f) (place_in f) r) (sym at.2.0) at.2.1) in
          (c.place, fault.0, subst (λ (n : ℕ). c.place ∈ live_at (index_of index) n) of (in_live (index_of index) scrubbed.chunks scrubbed.live c there), fault.1)
