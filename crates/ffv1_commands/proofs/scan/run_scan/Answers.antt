use Rattle.std.proofs.Common.{rules}
use Rattle.ffv1_commands.proofs.ScanCommandSteps.{scan_of_bytes}
use Rattle.ffv1_commands.proofs.scan.run_scan.Goals as goal

pub returns-clause-ok : goal.returns-clause-ok
returns-clause-ok g c =
    let bytes = scan_of_bytes _ _ _ _ _ _ c.scan_of.result c.scan_of.ensures.scans in
    search (rules, bytes.ok)

pub returns-clause-err : goal.returns-clause-err
returns-clause-err g c =
    let bytes = scan_of_bytes _ _ _ _ _ _ c.scan_of.result c.scan_of.ensures.scans in
    search (rules, bytes.err)
