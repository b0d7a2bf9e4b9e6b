-- What crates below say, handed on to those above.
pub use Rattle.laws_scan.specs.Scan.{scan_may}
pub use Rattle.laws_scan.specs.Scans.{AddsFrontOrNone, AddsPart, AddsPiece, AddsStream, IsSmallRefusal, ScanCause, Scanned, Scans, scanned}
unfoldable pub use Rattle.laws_scan.specs.Scan.{scan_table}
