-- A block that is refused where it is read for the rows that meet a filter is refused so where these are sent.
use Rattle.std.proofs.Common.{◌≡◌, ◌∙◌, refl, sym, ap, ℕ, List, Bool, true, false, Some, None, Ok, Err}
use Rattle.arrow_spec.specs.declared.error.IpcError.{IpcError}
use Rattle.arrow_spec.specs.Files.{Asked, FileBlock, Purpose, TableBatch, batch_of, to_read, to_send}
use Rattle.arrow_spec.specs.Readings.{◌>>=◌, Reading, Refuses, refusals}
use Rattle.arrow_spec.proofs.Projection.{on}
use Rattle.ipc_files.proofs.ReadBlocks.{follows}
use Rattle.laws_transcode.proofs.Readings.{on_err}
use Rattle.filter_types.specs.declared.filter.Filter.{Filter}
use Rattle.laws_scan.specs.Filtered.{any_marked, marked_batch}
use Rattle.laws_scan.specs.Scan.{block_marks, marked_fits, marked_rows, only_where, scan_block}

module _ (b : List ℕ) (a : Asked) (block : FileBlock) (es : List IpcError) where
  abbrev rows_of : Purpose → List Bool → Reading TableBatch
  rows_of purpose marks = batch_of to_read b a block None >>= λ whole. marked_fits purpose b a block marks whole >>= λ size. Ok (marked_batch marks whole)

  rows_refused : (marks : List Bool) → marked_rows to_read b a block marks ≡ Err es → marked_rows to_send b a block marks ≡ Err es
  unfolding marked_rows
  rows_refused marks h = by (any_marked marks) refl
    where
      read : (r : Reading TableBatch) → batch_of to_read b a block None ≡ r → any_marked marks ≡ true → only_where (any_marked marks) (rows_of to_read marks) ≡ Err es → only_where (any_marked marks) (rows_of to_send marks) ≡ Err es
      read (Err fs) is some h =
          let refused : (purpose : Purpose) → only_where (any_marked marks) (rows_of purpose marks) ≡ Err fs = λ purpose. ap (λ any. only_where any (rows_of purpose marks)) some ∙ on_err _ _ fs (on_err _ _ fs is) in
          refused to_send ∙ sym (refused to_read) ∙ h
      read (Ok x) is some h =
          let given : only_where (any_marked marks) (rows_of to_read marks) ≡ Ok (Some (marked_batch marks x)) = ap (λ any. only_where any (rows_of to_read marks)) some ∙ on _ _ (marked_batch marks x) (on _ _ x is ∙ on _ _ tt refl) in
          let clash = sym given ∙ h in cc

      by : (any : Bool) → any_marked marks ≡ any → only_where (any_marked marks) (rows_of to_send marks) ≡ Err es
      by true is = read (batch_of to_read b a block None) refl is h
      by false is = let clash = sym (ap (λ any. only_where any (rows_of to_read marks)) is) ∙ h in cc

  scan_refused : (f : Filter) → scan_block f to_read b a block ≡ Err es → scan_block f to_send b a block ≡ Err es
  unfolding scan_block rows_refused
  scan_refused f h = by (block_marks f b a block) refl
    where
      by : (r : Reading (List Bool)) → block_marks f b a block ≡ r → scan_block f to_send b a block ≡ Err es
      by (Err fs) is = on_err _ _ fs is ∙ sym (on_err _ _ fs is) ∙ h
      by (Ok marks) is = on _ _ marks is ∙ rows_refused marks (sym (on _ _ marks is) ∙ h)

pub sent_refused : (f : Filter) (e : IpcError) (b : List ℕ) (a : Asked) (block : FileBlock) → Refuses e (refusals (scan_block f to_read b a block)) → Refuses e (refusals (scan_block f to_send b a block))
sent_refused f e b a block h = follows e (scan_block f to_read b a block) (scan_block f to_send b a block) (λ es is. scan_refused b a block es f is) h
