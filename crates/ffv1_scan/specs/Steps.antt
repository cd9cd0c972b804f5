-- Why a scan stops at a range.
use Rattle.ffv1_devices.specs.declared.exact.NextFault.{NextFault}
use Rattle.ffv1_devices.specs.declared.exact.NextFault.TheVariants as nexts
use Rattle.ffv1_scan.specs.declared.scanning.ScanFault.{ScanFault}
use Rattle.ffv1_scan.specs.declared.scanning.ScanFault.TheVariants as faults

-- why a range was not read, as a scan reports it
abbrev pub scan_fault : NextFault → ScanFault
scan_fault nexts.Read = faults.Read
scan_fault nexts.Memory = faults.Memory
