use Rattle.std.specs.Prelude.{◌≡◌, ◌≤◌, ◌-◌, ◌^◌}
use Rattle.cs_extent.specs.State.{extents_of, shape}
use Rattle.cs_doctor.proofs.Doctoring.{AreThoseBelow}
use Rattle.cs_doctor.proofs.doctor_stores.worn_extents.Given as goal

abbrev pub invariant-loop-extent : goal.invariant-loop-extent
invariant-loop-extent l = record {
  most : l.extent ≤ (shape l.extents).extents;
  those : AreThoseBelow (λ e. (extents_of l.extents).generation e ≡ 2 ^ 32 - 1) l.extent l.worn.items;
}
