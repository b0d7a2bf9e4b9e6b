-- A file of a stream's schema and record batches that is written from its front to its end.
use Rattle.std.proofs.Common.{◌≡◌, ℕ, ◌≤◌, List, [], map, length, All, inl, Option, Ok, Err, sym, ap, subst, ◌∙◌}
use Rattle.std.specs.Prelude.{sum_by}
use Rattle.std.proofs.lemmas.List.{length-map}
use Rattle.arrow_spec.specs.declared.error.IpcError.{IpcError}
use Rattle.arrow_spec.specs.Files.{TableBatch}
use Rattle.arrow_arrays.specs.Batches.{Batch}
use Rattle.arrow_arrays.specs.Parts.{forest}
use Rattle.ipc_append.specs.Below.{FileCore, MayBeWritten}
use Rattle.laws_walk.specs.Below.{table_of}
use Rattle.ipc_append.specs.declared.stream.WholeStream.{WholeStream}
use Rattle.ipc_unify.specs.Below.{AreOver, Lists}
use Rattle.ipc_to_file.specs.Writing.{HasBegun, IsEnded, IsGoing, IsNext, StopsFile, WritesAll, WritesFile}
use Rattle.ipc_to_file.proofs.Batches.{are_next}
use Rattle.ipc_to_file.proofs.Puts.{stops_since}

module _ (s : WholeStream) (may : MayBeWritten s.metadata) (over : (us : Lists) × All (λ (b : Batch). AreOver us (forest b.arrays) 0) s.batches.items) (c : FileCore) (start now : Option (List ℕ)) (begun : HasBegun s.metadata c start now) (bs : List Batch) (is : bs ≡ s.batches.items) where
  first_going : IsGoing s.metadata over.0 c start now []
  first_going = record { may = may; put = begun.put; holds = λ q. inl (begun.none q) }

  each_next : All (IsNext s.metadata over.0) bs
  each_next = subst (All (IsNext s.metadata over.0)) (sym is) (are_next s.metadata over.0 s.batches.items s.kinds over.1)

  pub all_stopped : (e : IpcError) (c' : FileCore) (now' : Option (List ℕ)) (k f g : ℕ) → k ≤ f
      → (IsGoing s.metadata over.0 c start now [] → All (IsNext s.metadata over.0) bs → WritesAll (Err e) s.metadata over.0 c' start now' bs f g) → StopsFile e s.metadata s.batches.items start now' k g
  all_stopped e c' now' k f g less h = subst (λ ys. StopsFile e s.metadata ys start now' k g) is (stops_since e s.metadata bs start now' k f g less (h first_going each_next))

  pub all_going : (n : ℕ) (c' : FileCore) (now' : Option (List ℕ)) (f g : ℕ) → (IsGoing s.metadata over.0 c start now [] → All (IsNext s.metadata over.0) bs → WritesAll (Ok n) s.metadata over.0 c' start now' bs f g) → IsGoing s.metadata over.0 c' start now' s.batches.items
  all_going n c' now' f g h = subst (IsGoing s.metadata over.0 c' start now') is (h first_going each_next)

pub rows_all : (xs ys : List Batch) (n : ℕ) → xs ≡ ys → n ≡ sum_by (λ (t : TableBatch). t.rows) (map table_of xs) → n ≡ sum_by (λ (t : TableBatch). t.rows) (map table_of ys)
rows_all xs ys n is rows = rows ∙ ap (λ bs. sum_by (λ (t : TableBatch). t.rows) (map table_of bs)) is

pub writes_file : (u : WholeStream) (count rows bytes : ℕ) (start now : Option (List ℕ)) → count ≡ length u.batches.items → rows ≡ sum_by (λ (t : TableBatch). t.rows) (map table_of u.batches.items) → IsEnded bytes u.metadata start now u.batches.items
    → WritesFile (record { batches = count; rows = rows; bytes = bytes }) u start now
writes_file u count rows bytes start now count_is rows_are e =
    record { bytes = e.bytes; file = e.file; added = e.added; summary = record { batches = count_is ∙ sym (length-map u.batches.items table_of); rows = rows_are; bytes = e.count } }
