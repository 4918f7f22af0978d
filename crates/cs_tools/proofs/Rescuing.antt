-- What was read of a store that is read for what can be got of it, by another fact that says that the disk is honest.
use Rattle.std.proofs.Common.{◌≡◌, ◌⊎◌, ◌≤◌, ◌+◌, ◌-◌, ◌^◌, ℕ, List, Some, None, arith, inl, inr, subst, sym}
use Rattle.std.specs.Prelude.{Option, min}
use Rattle.std.specs.Io.KnownBytes.{Appends}
use Rattle.cs_disk.specs.Disk.{Rises}
use Rattle.cs_extent.specs.State.{State as ExtentsState}
use Rattle.cs_frame.specs.declared.locators.Locator.{Locator}
use Rattle.cs_salvage.specs.Answers.{AreMeantBytes}
use Rattle.cs_salvage.specs.Founds.{Found}
use Rattle.cs_salvage.specs.Rescued.{IsOfNewest, IsRescued}
use Rattle.cs_salvage.specs.Runs.{IsEndOf}
use Rattle.cs_salvage.specs.declared.rescued_runs.DamagedRun.{DamagedRun}
use Rattle.cs_tools.specs.Rescues.{MeansGot}
use Rattle.cs_advice.specs.declared.outcomes.Outcome.{Outcome}
use Rattle.cs_advice.specs.declared.outcomes.Outcome.TheVariants.{Done, Failed}
use Rattle.cs_tools.specs.declared.rescues.Got.TheVariants.{Ended}

-- ---- why it is refused: by the rescue, or before that by the disk in pairs, as no answer or as of two stores

pub of_rescue : {NoAnswer Two Why : Type 0} → NoAnswer ⊎ Why → NoAnswer ⊎ Two ⊎ Why
of_rescue (inl none) = inl none
of_rescue (inr why) = inr (inr why)

pub of_pairs : {NoAnswer Two Why : Type 0} → NoAnswer ⊎ Two → NoAnswer ⊎ Two ⊎ Why
of_pairs (inl none) = inl none
of_pairs (inr two) = inr (inl two)

pub no_store : {NoAnswer NotAStore Two : Type 0} → NoAnswer ⊎ (NotAStore × Two) → NoAnswer ⊎ NotAStore
no_store (inl none) = inl none
no_store (inr (not, two)) = inr not

-- ---- its cause

-- Where a disk refused nothing itself, a failure that it counted is one of the disk below: of a count that is at its end, too.
pub rises_below : (before start now refused later : ℕ) → before ≤ start → refused ≡ 0 → later ≡ refused → Rises (min (start + refused) (2 ^ 64 - 1)) (min (now + later) (2 ^ 64 - 1)) → Rises before now
rises_below before start now refused later le none same rises = omega (arith, le, none, same, rises)

-- ---- what is written out

pub got_meant : (f : Found) (id : ℕ) (bytes : List ℕ) (before after : Option (List ℕ)) (o : Outcome) → AreMeantBytes f id bytes → ((o ≡ Done) × Appends before after bytes) ⊎ (o ≡ Failed) → MeansGot f id before after (Ended o)
got_meant f id bytes before after o meant (inl h) = subst (λ (x : Outcome). MeansGot f id before after (Ended x)) (sym h.0) (bytes, meant, h.1)
got_meant f id bytes before after o meant (inr h) = subst (λ (x : Outcome). MeansGot f id before after (Ended x)) (sym h) tt

-- ---- what was read

module _ (honest other : Type 0) (says : other → honest) where
  end_by : (x : ExtentsState) (view : ℕ → List ℕ) (places : List Locator) (left : ℕ) (damaged : Option DamagedRun) → IsEndOf honest x view places left damaged → IsEndOf other x view places left damaged
  end_by x view places left None is = is
  end_by x view places left (Some damaged) is = record { some = is.some; last = is.last; answered = is.answered; why = λ h. is.why (says h) }

  newest_by : (view : ℕ → List ℕ) (f : Found) → IsOfNewest honest view f → IsOfNewest other view f
  newest_by view f is = record {
    runs = is.runs;
    newest = record {
      left = is.newest.left;
      no_more = is.newest.no_more;
      listed = is.newest.listed;
      each = λ h. is.newest.each (says h);
      end = end_by f.extents view f.places is.newest.left f.damaged is.newest.end;
    };
    index = is.index;
  }

  pub rescued_by : (count : ℕ) (view : ℕ → List ℕ) (f : Found) → IsRescued honest count view f → IsRescued other count view f
  rescued_by count view f (format, versions, records, pages, written, is) = (
    format,
    versions,
    records,
    pages,
    written,
    record {
      sized = is.sized;
      geometry = is.geometry;
      extents = is.extents;
      sections = λ h. is.sections (says h);
      root = λ h. is.root (says h);
      lost = is.lost;
      runs = newest_by view f is.runs;
    },
  )
