-- The numbers under which refusals are printed.
use Rattle.std.specs.Prelude.{ℕ}
use Rattle.cs_disk.specs.declared.fault.DiskFault.{DiskFault}
use Rattle.cs_disk.specs.declared.fault.DiskFault.TheVariants.{DeviceFault, OutOfMemory}
use Rattle.cs_disk.specs.declared.fault.ImageFault.{ImageFault}
use Rattle.cs_disk.specs.declared.fault.ImageFault.TheVariants.{OddLength, OutOfMemory as ImageOutOfMemory}
use Rattle.cs_disk.specs.declared.fault.OpenFault.{OpenFault}
use Rattle.cs_disk.specs.declared.fault.OpenFault.TheVariants.{DeviceFault as OpenDeviceFault, OddLength as OpenOddLength}
use Rattle.cs_disk.specs.declared.fault.FileFault.{FileFault}
use Rattle.cs_disk.specs.declared.fault.FileFault.TheVariants.{System, OddLength as FileOddLength, NotEmpty}

-- the number of a refusal by a disk
abbrev pub disk_fault_number : DiskFault → ℕ
disk_fault_number DeviceFault = 1
disk_fault_number OutOfMemory = 9

-- the number of a refusal of an image
abbrev pub image_fault_number : ImageFault → ℕ
image_fault_number OddLength = 6
image_fault_number ImageOutOfMemory = 9

-- the number of a refusal of a file
abbrev pub open_fault_number : OpenFault → ℕ
open_fault_number OpenDeviceFault = 1
open_fault_number OpenOddLength = 6

-- the number of a refusal of a file, of which it is told what the operating system said
abbrev pub file_fault_number : FileFault → ℕ
file_fault_number (System fault) = 1
file_fault_number FileOddLength = 6
file_fault_number NotEmpty = 46
