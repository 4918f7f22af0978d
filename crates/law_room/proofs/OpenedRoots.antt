-- A store that is opened has the root that was read, and room has it.
use Rattle.std.proofs.Common.{◌≡◌, inl, ⊎_elim, ℕ, zero, suc, ◌<◌, ◌≤◌, true, List, [], map, None, le_refl, le_trans, le_of_eq, refl, sym, ap, ◌∙◌, subst, arith}
use Rattle.std.proofs.lemmas.Bool.{or_cases}
use Rattle.law_machine.proofs.Named.{named_live, named_run}
use Rattle.law_machine.specs.Apart.{named}
use Rattle.law_machine.specs.Cut.{held_by, page_in, section_of}
use Rattle.law_machine.specs.Device.{IsShape, Page, Shape}
use Rattle.law_machine.specs.Element.{Map, Opening, Root as StagedRoot, Run, Write, roots_of, writes_of}
use Rattle.law_machine.specs.Formats.{ChunkFrame, Formats, opening_in}
use Rattle.law_machine.specs.Frames.{IsFormat}
use Rattle.law_machine.specs.Guard.{page_as_staged}
use Rattle.law_machine.specs.Index.{entries_of, live_at}
use Rattle.law_machine.specs.Lists.{◌∈◌}
use Rattle.law_machine.specs.Open.{opened_state, root_read, superblocks_read}
use Rattle.law_machine.specs.Recovery.{IsNew, Recovers}
use Rattle.law_room.proofs.Chunks.{any_of}
use Rattle.law_room.proofs.MachineBlank.{has_place, in_id, runs_alike}
use Rattle.law_room.proofs.MachineChunks.{chunks_move, pages_move, reads_there}
use Rattle.law_room.proofs.MachineFreed.{if_apart, made_runs, new_has_room}
use Rattle.law_room.proofs.MachineNew.{room_there}
use Rattle.law_room.proofs.MachineOpening.{forgotten_in, no_writes, opened_has_room, run_on}
use Rattle.law_room.proofs.NamedNow.{opened_named}
use Rattle.law_room.specs.Events.{forget, opened}
use Rattle.law_room.specs.Example.{new_room}
use Rattle.law_room.specs.OfMachine.{AreChunksOf, IsRootIn, Names, NoneWorn, of_id, run_places}
use Rattle.law_room.specs.RootsOfMachine.{HasRootsOf, IsNamedNow, IsRoomy, IsRootOf}
use Rattle.law_room.specs.Rooms.{Room, Root, any_on, has, is_named}

-- where p names something the root of the machine has its pointer
pub names_live : (S : Shape) (F : Formats) (opening : Opening) (img : ℕ → Page) (pointers generations : ℕ → ℕ) (runs : List Run)
    (p : Root) → Names S F opening img pointers generations runs p → (e : ℕ) → is_named p e ≡ true
    → named pointers runs e ≡ pointers e
names_live S F opening img pointers generations runs p names e on = ⊎_elim
    (λ chunk. (let c = any_of p.chunks e chunk in
    let l = has_place S F opening img pointers generations [] c.0.id 0 (live_at (entries_of runs) c.0.id)
    (of_id c.0.id (map forget p.chunks)) (forget c.0) (names.chunks c.0.id)
    (in_id (map forget p.chunks) (forget c.0) (forgotten_in p.chunks c.0 c.1)) in
    subst (λ (d : ℕ). named pointers runs d ≡ pointers d) (sym l.3.extent ∙ c.2) (named_live pointers runs c.0.id l.0 l.1)))
    (λ run. (let at = run_on runs e (runs_alike runs e ∙ ap (λ (ds : List ℕ). has ds e) (sym names.runs) ∙ run) in
    subst (λ (d : ℕ). named pointers runs d ≡ pointers d) at.2 (named_run pointers runs at.0 at.1)))
    (or_cases (any_on p.chunks e) (has p.runs e) on)

no_roots : (S : Shape) (F : Formats) (img : ℕ → Page) (n : ℕ) (m : Map) (gives : Recovers S F img n m) (k : ℕ)
    → roots_of (superblocks_read S F img n m gives k) ≡ []
no_roots S F img n m gives zero = refl
no_roots S F img n m gives (suc k) = no_roots S F img n m gives k

module _ (S : Shape) (F : Formats) (apart : S.apart ≡ true) (img : ℕ → Page) (n : ℕ) (m : Map)
    (gives : Recovers S F img n m) where
  module _ (p : Root) (names : Names S F (opening_in S F img gives.pointers gives.generations) img gives.pointers
      gives.generations gives.runs p) where
    abbrev q : StagedRoot
    q = root_read S F img n m gives

    abbrev pointers : ℕ → ℕ
    pointers = named gives.pointers gives.runs

    abbrev opening : Opening
    opening = opening_in S F img gives.pointers gives.generations

    pointers_are : pointers ≡ q.pointers
    pointers_are = sym (if_apart S F apart img n m gives S.apart pointers gives.pointers apart)

    page_is : (x : ℕ) → img x ≡ page_as_staged S q img (writes_of (superblocks_read S F img n m gives S.sections)) x
    page_is x = ap (λ (ws : List Write). page_in (held_by q (section_of S x)) img ws x)
        (sym (no_writes S F apart img n m gives S.sections))

    chunks_are : (id : ℕ) → AreChunksOf S F opening img pointers gives.generations [] id 0
        (live_at (entries_of gives.runs) id) (of_id id (map forget p.chunks))
    chunks_are id = chunks_move S F opening opening img img gives.pointers gives.generations pointers gives.generations
        [] [] id 0 (live_at (entries_of gives.runs) id) (of_id id (map forget p.chunks))
        (λ l k there. pages_move S F opening opening img img gives.pointers gives.generations pointers gives.generations
        l k refl refl
        (λ payload. reads_there S F opening img gives.pointers gives.generations pointers gives.generations l
        (F.frame ChunkFrame payload) (named_live gives.pointers gives.runs id l there) refl))
        (λ j l there. refl) (names.chunks id)

    read_names : Names S F opening img pointers gives.generations gives.runs p
    read_names = record {
      chunks = chunks_are;
      runs = names.runs;
      given = λ e on. le_trans (names.given e on)
          (le_of_eq (sym (names_live S F opening img gives.pointers gives.generations gives.runs p names e on)));
    }

    root_of : IsRootOf S F (opened_state S F img n m gives) q p
    root_of = record {
      names = subst (λ (f : ℕ → Page). Names S F opening f q.pointers gives.generations gives.runs p)
          (λ i x. page_is x i) (subst (λ (f : ℕ → ℕ). Names S F opening img f gives.generations gives.runs p)
          pointers_are read_names);
      fits = λ e on. le_trans (names.given e on) (gives.extents_fit e).0;
    }

    pub opened_roots : (r : Room) → p ∈ r.roots → IsNamedNow r → HasRootsOf S F (opened_state S F img n m gives) r
    opened_roots r there present = record {
      staged = λ x has_it late. ⊎_elim
          (λ (same : x ≡ q). (
            p,
            there,
            subst (λ (y : StagedRoot). IsRootOf S F (opened_state S F img n m gives) y p)
                (sym same) root_of,
          ))
          (λ more. absurd (subst (λ (rs : List StagedRoot). x ∈ rs) (no_roots S F img n m gives S.sections) more))
          has_it;
      present = present;
    }

  pub opened_roomy : (p : Root) → IsRootIn S F img n m gives p → IsShape S → NoneWorn S (opened_state S F img n m gives)
      → IsRoomy S F (opened_state S F img n m gives) (opened p gives.pointers)
  opened_roomy p is shape young = record {
    room = opened_has_room S F apart img n m gives p is shape young;
    roots = opened_roots p is.names (opened p gives.pointers) (inl refl)
        (opened_named p gives.pointers is.names.given);
  }

  -- the root of a new store
  abbrev nothing : Root
  nothing = record { chunks = []; runs = []; pointers = λ e. 0 }

  new_names : gives.runs ≡ [] → Names S F (opening_in S F img gives.pointers gives.generations) img gives.pointers
      gives.generations gives.runs nothing
  new_names none = record {
    chunks = λ id. subst (λ (rs : List Run). AreChunksOf S F (opening_in S F img gives.pointers gives.generations) img
        gives.pointers gives.generations [] id 0 (live_at (entries_of rs) id) []) (sym none) refl;
    runs = ap run_places (sym none);
    given = λ e on. zero_le;
  }
    where
      zero_le : {k : ℕ} → 0 ≤ k
      zero_le = omega arith

  new_named : IsNamedNow new_room
  new_named on = (nothing, inl refl, record { chunks = refl; runs = refl; given = λ e named. le_refl _ })

  pub new_roots : gives.runs ≡ [] → HasRootsOf S F (opened_state S F img n m gives) new_room
  new_roots none = opened_roots nothing (new_names none) new_room (inl refl) new_named

  pub new_roomy : IsShape S → gives.runs ≡ [] → NoneWorn S (opened_state S F img n m gives)
      → IsRoomy S F (opened_state S F img n m gives) new_room
  new_roomy shape none young = record {
    room = new_has_room S F apart img n m gives shape none young;
    roots = new_roots none;
  }

  pub made_roomy : IsShape S → IsFormat S F → IsNew S F img → NoneWorn S (opened_state S F img n m gives)
      → IsRoomy S F (opened_state S F img n m gives) new_room
  made_roomy shape format made young = new_roomy shape (made_runs S F apart img n m gives format made) young

pub roomy_there : (S : Shape) (F : Formats) (apart : S.apart ≡ true) (img : ℕ → Page) → IsNew S F img → IsShape S
    → 0 < S.greatest_generation → (gives : Recovers S F img 0 (λ id. None))
    × IsRoomy S F (opened_state S F img 0 (λ id. None) gives) new_room
roomy_there S F apart img made shape some = let there = room_there S F apart img made shape some in (
  there.0,
  record { room = there.2; roots = new_roots S F apart img 0 (λ id. None) there.0 there.1 },
)
