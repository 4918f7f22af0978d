-- The record of the persistent root: no version of a section records a later one, so it can be spelled, and what a crash leaves has none.
use Rattle.std.proofs.Common.{ℕ, ◌<◌, ◌≤◌, le_of_eq, le_trans, sym}
use Rattle.law_machine.specs.Device.{Page, Shape}
use Rattle.law_machine.specs.Element.{Map, Opening, Superblock, superblocks_of}
use Rattle.law_machine.specs.Formats.{Formats}
use Rattle.law_machine.specs.Lists.{◌∈◌}
use Rattle.law_machine.specs.Machine.{World}
use Rattle.law_machine.specs.Recovery.{RecoversBut, RootGives}
use Rattle.law_machine.specs.Safe.{Safe}
use Rattle.law_machine.specs.Sound.{Sound}
use Rattle.law_machine.specs.State.{State}

module _ (S : Shape) (F : Formats) where
  -- what is persistent has a root that was staged, whose version keeps to its bound
  pub persistent_fits : {opening : Opening} {opened : ℕ → Page} (w : World) → Safe S (RootGives S F opening) opening.frozen opened w
      → w.persistent.root ≤ S.greatest_number
  persistent_fits w safe = let root = safe.exact.root in
      le_trans (le_of_eq (sym root.2)) (safe.good root.0 root.1).3.version_fits

  -- so does what is recorded
  pub recorded_fits : {opening : Opening} {opened : ℕ → Page} (w : World) → Safe S (RootGives S F opening) opening.frozen opened w
      → (u : Superblock) → u ∈ superblocks_of w.elements → u.recorded ≤ S.greatest_number
  recorded_fits w safe u has = le_trans (safe.recorded_below u has) (persistent_fits w safe)

  pub sound_fits : (s : State) → Sound S F s → s.world.persistent.root ≤ S.greatest_number
  sound_fits s sound = persistent_fits s.world sound.safe

  pub sound_records : (s : State) → Sound S F s → (u : Superblock) → u ∈ superblocks_of s.world.elements
      → (u.recorded ≤ s.world.persistent.root) × (u.recorded ≤ S.greatest_number)
  sound_records s sound u has = (sound.safe.recorded_below u has, recorded_fits s.world sound.safe u has)

  -- what an image records that gives a map can be spelled too
  pub read_fits : (opening : (pointers generations : ℕ → ℕ) → Opening) (img : ℕ → Page) (n : ℕ) (m : Map)
      (gives : RecoversBut S F opening img n m) (j : ℕ) → j < S.sections → gives.recorded j ≤ S.greatest_number
  read_fits opening img n m gives j lt = le_trans (gives.recorded_fit j lt) gives.bounds.version_fits
