-- The word of each fault.
use Rattle.std.specs.Prelude.{ℕ, List, codes}
use Rattle.page.specs.declared.disk.DeviceFault.{DeviceFault}
use Rattle.page.specs.declared.file.FileFault.{FileFault}
use Rattle.page.specs.declared.file.FileFault.TheVariants as files
use Rattle.page.specs.declared.page_fault.PageFault.{PageFault}
use Rattle.page.specs.declared.page_fault.PageFault.TheVariants as pages

abbrev pub device_fault_name : DeviceFault → List ℕ
device_fault_name fault = codes "Device"

abbrev pub file_fault_name : FileFault → List ℕ
file_fault_name files.Device = codes "Device"
file_fault_name files.Locked = codes "Locked"

abbrev pub page_fault_name : PageFault → List ℕ
page_fault_name pages.Kind = codes "Kind"
page_fault_name pages.Number = codes "Number"
page_fault_name pages.Order = codes "Order"
page_fault_name pages.Length = codes "Length"
page_fault_name pages.Device = codes "Device"
page_fault_name pages.Memory = codes "Memory"
