-- What a crash leaves, and what is printed of it.
use Rattle.std.proofs.Common.{◌≡◌, ℕ, Bool, List, ◌++◌, length, sym, subst, refl}
use Rattle.std.specs.Prelude.{Option, ◌↔◌}
use Rattle.std.specs.Io.KnownBytes.{Appends}
use Rattle.cs_refusal.specs.declared.refusals.Refusal.{Refusal}
use Rattle.cs_disk.specs.declared.disk.PageDisk.{Ghosts as PageDisk}
use Rattle.cs_disk.specs.Disk.{crashed}
use Rattle.cs_writeback.specs.cs_core.Views.{View}
use Rattle.cs_script.specs.Crashes.{Crashes, CrashesUnder, IsCrash, IsCrashed, IsNotReopened, Reopens, kept_count}
use Rattle.cs_script.specs.Lines.{says_crash}
use Rattle.cs_script.specs.Outputs.{crash_line, open_line, refusal_line}
use Rattle.cs_script.proofs.Appended.{appends_then}

module _ {D : Type 0} (disks : PageDisk D) (can_crash : D → Type 0) (volatile_count : D → ℕ) where
  pub crashed_of : (mask : List Bool) (before d after : D) → d ≡ before → can_crash before → (disks.honest d → can_crash d → disks.state after ≡ crashed (disks.state d) mask) → disks.honest d ↔ disks.honest after
      → disks.page_count after ≡ disks.page_count d → disks.failure_count after ≡ disks.failure_count d → IsCrashed disks can_crash volatile_count mask before after
  crashed_of mask before d after e can image same pages failures =
      subst (λ x. IsCrashed disks can_crash volatile_count mask x after) e (record { image = λ h. image h (subst can_crash (sym e) can); stays_honest = same; pages = pages; failures = failures })

  -- the core that goes on, and the two lines that are printed
  pub goes_on : (mask : List Bool) (old new : View D) (count : ℕ) (a b c : Option (List ℕ)) → count ≡ kept_count mask → Appends a b (crash_line count (length mask))
      → Appends b c (open_line new.found.0 new.found.1) → Reopens disks can_crash volatile_count mask old new
      → (out : List ℕ) × Crashes disks can_crash volatile_count mask old new out × Appends a c out
  goes_on mask old new count a b c e first second reopens = (
    crash_line (kept_count mask) (length mask) ++ open_line new.found.0 new.found.1,
    (reopens, refl),
    appends_then a b c (crash_line (kept_count mask) (length mask)) (open_line new.found.0 new.found.1) (subst (λ n. Appends a b (crash_line n (length mask))) e first) second,
  )

  -- no core goes on
  pub ends : (mask : List Bool) (old : View D) (r : Refusal) (count : ℕ) (a b c : Option (List ℕ)) → count ≡ kept_count mask → Appends a b (crash_line count (length mask))
      → IsCrash can_crash volatile_count (says_crash mask) old mask → IsNotReopened disks can_crash volatile_count mask old r → Appends b c (refusal_line r)
      → (out : List ℕ) × CrashesUnder disks can_crash volatile_count (says_crash mask) old r out × Appends a c out
  ends mask old r count a b c e first is_crash why second = (
    crash_line (kept_count mask) (length mask) ++ refusal_line r,
    (mask, is_crash, why, refl),
    appends_then a b c (crash_line (kept_count mask) (length mask)) (refusal_line r) (subst (λ n. Appends a b (crash_line n (length mask))) e first) second,
  )
