-- The fault of planes that can't be read, as that of their slice.
use Rattle.ffv1_samples.specs.declared.faults.SliceFault.{SliceFault}
use Rattle.ffv1_samples.specs.declared.faults.SliceFault.TheVariants as slice_faults
use Rattle.ffv1_samples.specs.declared.reading.CodedFault.{CodedFault}
use Rattle.ffv1_samples.specs.declared.reading.CodedFault.TheVariants.{Sample, Memory}

abbrev pub slice_fault_of : CodedFault → SliceFault
slice_fault_of (Sample fault plane y x) = slice_faults.Code fault plane y x
slice_fault_of Memory = slice_faults.Memory
