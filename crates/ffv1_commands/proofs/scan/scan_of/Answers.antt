use Rattle.std.proofs.Common.{rules, Err, refl, inr}
use Rattle.ffv1_scan.specs.declared.scanning.ScanFault.TheVariants as scans
use Rattle.ffv1_commands.proofs.ScanCommandSteps.{scanned_list}
use Rattle.ffv1_commands.proofs.scan.scan_of.Goals as goal

pub returns-in-Ok-clause-scans : goal.returns-in-Ok-clause-scans
returns-in-Ok-clause-scans g c = search rules

pub returns-in-Err-Read-clause-scans : goal.returns-in-Err-Read-clause-scans
returns-in-Err-Read-clause-scans g c =
    let stops = rw c.in-Err-Read.field-0-is at c.in-Err-Read.ensures in
    inr (refl, scanned_list _ _ _ _ _ _ (Err scans.Read) _ c.in_ok-list.list.items c.as_slice.ensures.value c.in_ok-list.ensures.ok stops)

pub returns-in-Err-Write-clause-scans : goal.returns-in-Err-Write-clause-scans
returns-in-Err-Write-clause-scans g c =
    let stops = rw c.in-Err-Write.field-0-is at c.in-Err-Write.ensures in
    inr (refl, scanned_list _ _ _ _ _ _ (Err scans.Write) _ c.in_ok-list.list.items c.as_slice.ensures.value c.in_ok-list.ensures.ok stops)
