-- What was read of a file so far, and what that means.
use Rattle.std.proofs.Common.{◌≡◌, ◌∙◌, sym, refl, ap, subst, ℕ, suc, ◌≤◌, List, length, Option, Some, None, Ok}
use Rattle.arrow_spec.specs.declared.error.IpcError.{IpcError}
use Rattle.arrow_spec.specs.Files.{TableBatch, file_reading, to_read}
use Rattle.arrow_spec.specs.Readings.{Refuses, refusals}
use Rattle.arrow_spec.proofs.Projection.{ok-place, on}
use Rattle.csv_texts.specs.Texts.{printable, printed}
use Rattle.laws_walk.specs.Below.{file_custom, FileCursor}
use Rattle.laws_walk.specs.Places.{Sending, Walked, meta_in, place_of, table_sent, walking}
use Rattle.laws_walk.specs.Walks.{IsOpenFor, within}
use Rattle.laws_walk.proofs.Places.{AreRefused, first_mean, open_within, whole_mean}
use Rattle.laws_walk.proofs.Requests.{file_refused}
use Rattle.laws_walk.proofs.Walks.{walk_is_file}
use Rattle.ipc_csv.specs.Printing.{IsPrintedBy}
use Rattle.ipc_csv.specs.Prints.{StopsBehind}

-- ── a file of which nothing is nested ──

pub flat_is : (c : FileCursor) (x : Sending) → IsPrintedBy c x → printable x.bytes x.request ≡ Ok tt
unfolding printable
flat_is c x is =
    on _ _ (meta_in x) is.by.file.read ∙ on _ _ (file_custom x.file) is.by.file.pairs ∙ on _ _ tt is.by.file.columns ∙ on _ _ tt (ok-place _ is.by.file.readable) ∙ rw is.flat refl

-- it is printed as it is read
pub printed_is : (c : FileCursor) (x : Sending) (j : Option ℕ) → IsPrintedBy c x → printed x.bytes x.request j ≡ file_reading to_read x.bytes x.request j
unfolding printed
printed_is c x j is = on _ _ tt (flat_is c x is)

pub open_of : (c : FileCursor) (x : Sending) → IsPrintedBy c x → IsOpenFor to_read x.bytes (within x.request) (meta_in x) (file_custom x.file)
open_of c x is = open_within x.bytes x.request (meta_in x) (file_custom x.file) is.by.file

module _ (x : Sending) (c : FileCursor) (bs : List TableBatch) (is : IsPrintedBy c x) (s : Walked to_read (walking x) (place_of c) bs) where
  -- the blocks so far mean their batches
  pub part_printed : length bs ≡ c.block → printed x.bytes x.request (Some (length bs)) ≡ Ok (table_sent (walking x) bs)
  part_printed count =
      printed_is c x (Some (length bs)) is ∙ ap (λ n. file_reading to_read x.bytes x.request (Some n)) count
      ∙ sym (walk_is_file to_read x.bytes x.request (Some c.block)) ∙ first_mean to_read (walking x) (open_of c x is) (place_of c) bs s.read s.none s.kept s.within

  -- where they are all, the file does
  pub whole_printed : length (meta_in x).blocks ≤ c.block → printed x.bytes x.request None ≡ Ok (table_sent (walking x) bs)
  whole_printed done = printed_is c x None is ∙ sym (walk_is_file to_read x.bytes x.request None) ∙ whole_mean to_read (walking x) (open_of c x is) (place_of c) bs s.read s.none s.kept done

-- what refuses the walk refuses the printing
pub printing_refused : (e : IpcError) (x : Sending) (c : FileCursor) (is : IsPrintedBy c x) (n : ℕ) → AreRefused to_read (walking x) (open_of c x is) e n → Refuses e (refusals (printed x.bytes x.request None)) × StopsBehind x.bytes x.request n e
printing_refused e x c is n h = (
  subst (λ r. Refuses e (refusals r)) (sym (printed_is c x None is)) (file_refused to_read e x.bytes x.request None h.0),
  subst (λ r. Refuses e (refusals r)) (sym (printed_is c x (Some (suc n)) is)) (file_refused to_read e x.bytes x.request (Some (suc n)) h.1),
)
