-- The columns of a stream's batches have no fault under the ids of a file that takes the stream.
use Rattle.std.proofs.Common.{◌≡◌, ◌∙◌, ℕ, List, [], ◌∷◌, ◌++◌, true, Option, None, sym, subst}
use Rattle.std.specs.Rc.{rc_value}
use Rattle.std.proofs.lemmas.Bool.{and_parts}
use Rattle.arrow_spec.specs.Kinds.{Fields}
use Rattle.arrow_types.specs.Schemas.{fields_in}
use Rattle.arrow_arrays.specs.Batches.{Batch}
use Rattle.arrow_arrays.specs.Parts.{forest}
use Rattle.ipc_file_writer.specs.Below.{columns_fault, columns_of}
use Rattle.ipc_fields.specs.IpcFields.{ids_of}
use Rattle.ipc_streams.specs.Below.{WasRead, meta_view, FileMetadata}
use Rattle.ipc_streams.proofs.Below.{plain_fields_with}
use Rattle.laws_sent.proofs.Right.{columns_right}
use Rattle.laws_sent.proofs.PlainFields.{same_representable}
use Rattle.laws_sent.proofs.SayableFields.{fields_representable}
use Rattle.ipc_append.specs.Columns.{are_of, is_of}
use Rattle.ipc_append.specs.Targets.{Takes}
use Rattle.ipc_append.specs.declared.stream.WholeStream.{WholeStream}
use Rattle.same_fields.proofs.OneKind.{kinds_through}

one_of : (fs : Fields) (before : List Batch) (b : Batch) (behind : List Batch) → are_of fs (before ++ b ∷ behind) ≡ true → is_of fs b ≡ true
one_of fs [] b behind h = (and_parts (is_of fs b) (are_of fs behind) h).0
one_of fs (x ∷ xs) b behind h = one_of fs xs b behind (and_parts (is_of fs x) (are_of fs (xs ++ b ∷ behind)) h).1

pub has_no_fault : (content : Option (List ℕ)) (m : FileMetadata) (s : WholeStream) (before : List Batch) (b : Batch) (behind : List Batch) → Takes content s.metadata m → s.batches.items ≡ before ++ b ∷ behind
    → columns_fault (columns_of (forest b.arrays)) (ids_of m.ipc_schema.fields.items) ≡ None
has_no_fault content m s before b behind takes are =
    let fs = fields_in (rc_value m.schema) in
    let below = ids_of m.ipc_schema.fields.items in
    let read : WasRead m = takes.metadata.read in
    let of : is_of (fields_in (rc_value s.metadata.schema)) b ≡ true = one_of (fields_in (rc_value s.metadata.schema)) before b behind (subst (λ bs. are_of (fields_in (rc_value s.metadata.schema)) bs ≡ true) are s.kinds) in
    let representable = same_representable fs (meta_view m).schema.fields (sym (plain_fields_with fs below)) ∙ fields_representable 64 (meta_view m).schema.fields read.may.fit in
    columns_right fs below (forest b.arrays) (kinds_through fs (fields_in (rc_value s.metadata.schema)) (columns_of (forest b.arrays)) takes.kinds of) read.readable.shapes read.readable.agree representable
