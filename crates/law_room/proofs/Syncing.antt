-- What syncs leave as it was.
use Rattle.std.proofs.Common.{◌≡◌, ◌⊎◌, inl, inr, ⊎_elim, ℕ, zero, suc, ◌≤◌, Some, refl, take, ◌∙◌}
use Rattle.law_machine.specs.Device.{Shape}
use Rattle.law_room.specs.Events.{Does, End, Event, Stage}
use Rattle.law_room.specs.Invariant.{Keeps}
use Rattle.law_room.specs.Rooms.{OfChunks, Room}
use Rattle.law_room.specs.Sweeps.{IsOfSync, Syncs}
use Rattle.law_room.proofs.Given.{orderly}
use Rattle.law_room.proofs.Opening.{end_keeps}
use Rattle.law_room.proofs.Retiring.{named_few, stage_keeps}
use Rattle.law_room.proofs.Staging.{IsStaged, stage_is}

module _ (S : Shape) (J : ℕ) where
  -- what lives and the sweep are as before, and each extent of chunks too, where it still is one
  pub record IsRested (s t : Room) : Type 0 where
    pub keeps : Keeps S J t
    pub only : (e : ℕ) → t.holds e ≡ OfChunks → s.holds e ≡ OfChunks
    pub sweep : t.sweep ≡ s.sweep
    pub chunks : t.chunks ≡ s.chunks
    pub kept : (e : ℕ) → s.holds e ≡ OfChunks
        → ((t.holds e ≡ OfChunks) × (t.pointer e ≡ s.pointer e) × (s.last ≡ Some e → t.last ≡ Some e))
        ⊎ (t.holds e ≡ OfChunks → ⊥)

  rested_twice : (s m t : Room) → IsRested s m → IsRested m t → IsRested s t
  rested_twice s m t a b = record {
    keeps = b.keeps;
    only = λ e is. a.only e (b.only e is);
    sweep = b.sweep ∙ a.sweep;
    chunks = b.chunks ∙ a.chunks;
    kept = λ e is. ⊎_elim
        (λ first. ⊎_elim
        (λ second. inl (second.0, second.1 ∙ first.1, (λ last. second.2 (first.2 last))))
        (λ gone. inr gone) (b.kept e first.0))
        (λ gone. inr (λ there. gone (b.only e there)))
        (a.kept e is);
  }

  rested_still : (s : Room) → Keeps S J s → IsRested s s
  rested_still s keeps = record {
    keeps = keeps;
    only = λ e is. is;
    sweep = refl;
    chunks = refl;
    kept = λ e is. inl (is, refl, (λ last. last));
  }

  rested_end : (s : Room) (waiting : ℕ) → Keeps S J s → IsRested s (record s { roots = take (suc waiting) s.roots })
  rested_end s waiting keeps = record {
    keeps = end_keeps S J s waiting keeps;
    only = λ e is. is;
    sweep = refl;
    chunks = refl;
    kept = λ e is. inl (is, refl, (λ last. last));
  }

  rested_one : (s t : Room) (event : Event) → 1 ≤ J → Keeps S J s → IsOfSync S J event → Does S J s event t → IsRested s t
  rested_one s t (Stage newest pages all) some keeps of does =
      let after : IsStaged S J s t = stage_is S J s t newest pages all some (orderly S J s keeps) (named_few S J s keeps)
      does in record {
        keeps = stage_keeps S J s t newest pages all some keeps does;
        only = after.only;
        sweep = after.sweep;
        chunks = after.chunks;
        kept = after.kept;
      }
  rested_one s t (End waiting) some keeps of is = rw is (rested_end s waiting keeps)
  rested_one s t event some keeps of does = absurd of

  pub synced : (n : ℕ) (s t : Room) → 1 ≤ J → Keeps S J s → Syncs S J n s t → IsRested s t
  synced zero s t some keeps is = rw is (rested_still s keeps)
  synced (suc n) s t some keeps all =
      let first : IsRested s all.1 = rested_one s all.1 all.0 some keeps all.2 all.3 in
      rested_twice s all.1 t first (synced n all.1 t some first.keeps all.4)

  pub staged_rested : (s m t : Room) → IsStaged S J s m → IsRested m t → IsStaged S J s t
  staged_rested s m t a b = record {
    orderly = orderly S J t b.keeps;
    only = λ e is. a.only e (b.only e is);
    named = λ none e is. a.named none e (b.only e is);
    sweep = b.sweep ∙ a.sweep;
    chunks = b.chunks ∙ a.chunks;
    kept = λ e is. ⊎_elim
        (λ first. ⊎_elim
        (λ second. inl (second.0, second.1 ∙ first.1, (λ last. second.2 (first.2 last))))
        (λ gone. inr gone) (b.kept e first.0))
        (λ gone. inr (λ there. gone (b.only e there)))
        (a.kept e is);
  }
