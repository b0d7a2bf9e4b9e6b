use Rattle.laws_scan.proofs.FilteredScans.{scan_is_filtered}
use Rattle.laws_scan.proofs.scan_is_filtered.Goals as goal

pub returns : goal.returns
returns c = scan_is_filtered
