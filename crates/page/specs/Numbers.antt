-- The numbers of faults.
use Rattle.std.specs.Prelude.{ℕ}
use Rattle.page.specs.declared.file.FileFault.{FileFault}
use Rattle.page.specs.declared.file.FileFault.TheVariants as files
use Rattle.page.specs.declared.page_fault.PageFault.{PageFault}
use Rattle.page.specs.declared.page_fault.PageFault.TheVariants as pages

abbrev pub page_fault_number : PageFault → ℕ
page_fault_number pages.Kind = 1
page_fault_number pages.Number = 2
page_fault_number pages.Order = 3
page_fault_number pages.Length = 4
page_fault_number pages.Device = 5
page_fault_number pages.Memory = 6

abbrev pub file_fault_number : FileFault → ℕ
file_fault_number files.Device = 1
file_fault_number files.Locked = 2
