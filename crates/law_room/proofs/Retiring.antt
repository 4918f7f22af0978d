-- Stage and Retire keep the invariant.
use Rattle.std.proofs.Common.{◌≡◌, ◌≢◌, ℕ, ◌+◌, ◌<◌, ◌≤◌, true, false, map, Option, Some, None, refl, sym, ap, subst, arith}
use Rattle.law_machine.specs.Device.{Shape}
use Rattle.law_machine.specs.Lists.{◌∈◌}
use Rattle.law_room.specs.Events.{AllCopied, Stages, place_of, settle, settled}
use Rattle.law_room.specs.Invariant.{IsSweep, Keeps, LiesRight}
use Rattle.law_room.specs.Rooms.{Chunk, Holding, OfChunks, Room, Sweep, any_on, chunk_extents, copied_pages, how_many, is_of_chunks, live_pages, one_if, opened_by}
use Rattle.law_room.proofs.Chunks.{any_of, in_settled, none_on, settle_copied, settle_live}
use Rattle.law_room.proofs.Counts.{chunks_is, count_le, count_less}
use Rattle.law_room.proofs.Given.{Orderly, orderly}
use Rattle.law_room.proofs.Places.{opened_at_most, sweep_of}
use Rattle.law_room.proofs.Staging.{IsStaged, stage_is}

module _ (S : Shape) (J : ℕ) where
  pub any_holds : (s : Room) → LiesRight S J s → (e : ℕ) → any_on s.chunks e ≡ true → is_of_chunks (s.holds e) ≡ true
  any_holds s lies e on = let found = any_of s.chunks e on in
      subst (λ (x : ℕ). is_of_chunks (s.holds x) ≡ true) found.2
      (ap (λ (h : Holding). is_of_chunks h) (lies.chunks found.0 found.1).1)

  -- chunks lie on at most the extents of chunks but for the one that the sweep opened
  pub named_few : (s : Room) → Keeps S J s → how_many (any_on s.chunks) S.extents + J + 2 ≤ S.extents
  named_few s keeps = go s.sweep refl
    where
      quota : chunk_extents s S.extents + J + 2 ≤ S.extents + opened_by s.sweep
      quota = keeps.quotas.chunks

      all : how_many (any_on s.chunks) S.extents ≤ chunk_extents s S.extents
      all = count_le (any_on s.chunks) (λ e. is_of_chunks (s.holds e)) S.extents
          (λ e lt on. any_holds s keeps.lies e on)

      fresh_too : (w : Sweep) (o : Option ℕ) → s.sweep ≡ Some w → w.fresh ≡ o
          → how_many (any_on s.chunks) S.extents + one_if o ≤ chunk_extents s S.extents
      fresh_too w None is at = omega (arith, all)
      fresh_too w (Some f) is at =
          let sweep : IsSweep S J s w = sweep_of S J s w keeps is in
          let fresh = sweep.fresh f at in
          let target = sweep.targets f fresh.0 in
          let less : how_many (any_on s.chunks) S.extents < chunk_extents s S.extents =
          count_less (any_on s.chunks) (λ e. is_of_chunks (s.holds e)) f S.extents target.0 fresh.2
          (ap (λ (h : Holding). is_of_chunks h) target.1) (λ e lt on. any_holds s keeps.lies e on) in omega arith

      go : (o : Option Sweep) → s.sweep ≡ o → how_many (any_on s.chunks) S.extents + J + 2 ≤ S.extents
      go None is = let none : opened_by s.sweep ≡ 0 = ap opened_by is in omega (arith, quota, all)
      go (Some w) is =
          let same : opened_by s.sweep ≡ one_if w.fresh = ap opened_by is in
          let less : how_many (any_on s.chunks) S.extents + one_if w.fresh ≤ chunk_extents s S.extents =
          fresh_too w w.fresh is refl in omega (arith, quota)

  pub no_more_chunks : (s t : Room) → ((e : ℕ) → t.holds e ≡ OfChunks → s.holds e ≡ OfChunks)
      → chunk_extents t S.extents ≤ chunk_extents s S.extents
  no_more_chunks s t only = count_le (λ e. is_of_chunks (t.holds e)) (λ e. is_of_chunks (s.holds e)) S.extents
      (λ e lt on. ap (λ (h : Holding). is_of_chunks h) (only e (chunks_is (t.holds e) on)))

  pub stage_keeps : (s t : Room) (newest pages all : ℕ) → 1 ≤ J → Keeps S J s → Stages S J s newest pages all t
      → Keeps S J t
  stage_keeps s t newest pages all some keeps does =
      let after : IsStaged S J s t = stage_is S J s t newest pages all some (orderly S J s keeps) (named_few s keeps)
      does in
      let less : chunk_extents t S.extents ≤ chunk_extents s S.extents = no_more_chunks s t after.only in
      let same : opened_by t.sweep ≡ opened_by s.sweep = ap opened_by after.sweep in
      let quota : chunk_extents s S.extents + J + 2 ≤ S.extents + opened_by s.sweep = keeps.quotas.chunks in record {
        quotas = record { chunks = omega arith; runs = after.orderly.runs };
        lies = after.orderly.lies;
        sweeps = after.orderly.sweeps;
        roots = after.orderly.roots;
      }

  -- what is settled lies on targets, or where it lay
  settled_place : (s : Room) (w : Sweep) (c : Chunk) → LiesRight S J s → IsSweep S J s w → AllCopied S s w → c ∈ s.chunks
      → (o : Option ℕ) → c.copy ≡ o
      → (place_of o c.extent < S.extents) × (s.holds (place_of o c.extent) ≡ OfChunks)
      × (place_of o c.extent ≢ w.extent)
  settled_place s w c lies sweep copied has_it None is = let old = lies.chunks c has_it in
      (old.0, old.1, (λ same. copied c has_it (same, is)))
  settled_place s w c lies sweep copied has_it (Some d) is = sweep.targets d (sweep.copies c d has_it is)

  settled_chunk : (s : Room) (w : Sweep) → LiesRight S J s → IsSweep S J s w → AllCopied S s w → (x : Chunk)
      → x ∈ map settle s.chunks
      → (x.extent < S.extents) × (s.holds x.extent ≡ OfChunks) × (x.extent ≢ w.extent)
  settled_chunk s w lies sweep copied x has_it = let found = in_settled s.chunks x has_it in
      subst (λ (y : Chunk). (y.extent < S.extents) × (s.holds y.extent ≡ OfChunks) × (y.extent ≢ w.extent))
      (sym found.2) (settled_place s w found.0 lies sweep copied found.1 found.0.copy refl)

  pub settled_orderly : (s : Room) (w : Sweep) → Keeps S J s → s.sweep ≡ Some w → AllCopied S s w
      → Orderly S J (settled s)
  settled_orderly s w keeps is copied = let sweep : IsSweep S J s w = sweep_of S J s w keeps is in record {
    lies = record {
      given = λ e lt.
          let a : live_pages s.chunks e + copied_pages s.chunks e ≤ s.pointer e = keeps.lies.given e lt in
          let b : live_pages (map settle s.chunks) e ≤ live_pages s.chunks e + copied_pages s.chunks e = settle_live
          s.chunks e in
          let c : copied_pages (map settle s.chunks) e ≡ 0 = settle_copied s.chunks e in omega arith;
      fits = keeps.lies.fits;
      empty = keeps.lies.empty;
      chunks = λ x has_it. let all = settled_chunk s w keeps.lies sweep copied x has_it in (all.0, all.1);
      runs = keeps.lies.runs;
    };
    sweeps = λ x has_it. let found = in_settled s.chunks x has_it in ap (λ (y : Chunk). y.copy) found.2;
    roots = keeps.roots;
    runs = keeps.quotas.runs;
  }

  -- nothing lies on the extent that was swept
  pub settled_none : (s : Room) (w : Sweep) → Keeps S J s → s.sweep ≡ Some w → AllCopied S s w
      → any_on (map settle s.chunks) w.extent ≡ false
  settled_none s w keeps is copied = none_on (map settle s.chunks) w.extent
      (λ x has_it. (settled_chunk s w keeps.lies (sweep_of S J s w keeps is) copied x has_it).2)

  pub settled_fewer : (s : Room) (w : Sweep) → Keeps S J s → s.sweep ≡ Some w → AllCopied S s w
      → how_many (any_on (map settle s.chunks)) S.extents < chunk_extents s S.extents
  settled_fewer s w keeps is copied =
      let swept = (sweep_of S J s w keeps is).swept in
      count_less (any_on (map settle s.chunks)) (λ e. is_of_chunks (s.holds e)) w.extent S.extents swept.0
      (settled_none s w keeps is copied) (ap (λ (h : Holding). is_of_chunks h) swept.1)
      (λ e lt on. any_holds (settled s) (settled_orderly s w keeps is copied).lies e on)

  pub retire_is : (s t : Room) (w : Sweep) (newest pages all : ℕ) → 1 ≤ J → Keeps S J s → s.sweep ≡ Some w
      → AllCopied S s w → Stages S J (settled s) newest pages all t → IsStaged S J (settled s) t
  retire_is s t w newest pages all some keeps is copied does =
      let fewer : how_many (any_on (map settle s.chunks)) S.extents < chunk_extents s S.extents = settled_fewer s w keeps
      is copied in
      let quota : chunk_extents s S.extents + J + 2 ≤ S.extents + opened_by s.sweep = keeps.quotas.chunks in
      let one : opened_by s.sweep ≤ 1 = opened_at_most S J s.sweep in
      stage_is S J (settled s) t newest pages all some (settled_orderly s w keeps is copied) (omega arith) does

  -- after a Retire only what chunks lie on holds chunks
  pub retired_few : (s t : Room) → IsStaged S J (settled s) t
      → chunk_extents t S.extents ≤ how_many (any_on (map settle s.chunks)) S.extents
  retired_few s t after = count_le (λ e. is_of_chunks (t.holds e)) (any_on (map settle s.chunks)) S.extents
      (λ e lt on. after.named refl e (chunks_is (t.holds e) on))

  pub retire_keeps : (s t : Room) (w : Sweep) (newest pages all : ℕ) → 1 ≤ J → Keeps S J s → s.sweep ≡ Some w
      → AllCopied S s w → Stages S J (settled s) newest pages all t → Keeps S J t
  retire_keeps s t w newest pages all some keeps is copied does =
      let after : IsStaged S J (settled s) t = retire_is s t w newest pages all some keeps is copied does in
      let fewer : how_many (any_on (map settle s.chunks)) S.extents < chunk_extents s S.extents = settled_fewer s w keeps
      is copied in
      let few : chunk_extents t S.extents ≤ how_many (any_on (map settle s.chunks)) S.extents = retired_few s t after in
      let quota : chunk_extents s S.extents + J + 2 ≤ S.extents + opened_by s.sweep = keeps.quotas.chunks in
      let one : opened_by s.sweep ≤ 1 = opened_at_most S J s.sweep in record {
        quotas = record { chunks = omega arith; runs = after.orderly.runs };
        lies = after.orderly.lies;
        sweeps = after.orderly.sweeps;
        roots = after.orderly.roots;
      }
