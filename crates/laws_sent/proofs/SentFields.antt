-- What is sent of the columns that are asked for of a file.
use Rattle.std.proofs.Common.{◌≡◌, ℕ, List, [], Option, Ok, sym, ap, subst, ◌∙◌, true}
use Rattle.std.specs.Rc.{rc_value}
use Rattle.arrow_spec.specs.Files.{columns_right}
use Rattle.arrow_spec.specs.Kinds.{Fields, Metadata, bare, numbered, uses_in, width}
use Rattle.arrow_spec.specs.Schema.{uses_agree}
use Rattle.arrow_spec.specs.WrittenSchemas.{SchemaMayBeWritten, own_fields}
use Rattle.arrow_spec.proofs.NumberedFields.{bare_numbered, numbered_may, uses_numbered}
use Rattle.ipc_files.specs.Below.{are_carried}
use Rattle.arrow_types.specs.Schemas.{Keyed, fields_in}
use Rattle.laws_writers.specs.Below.{all_representable, SchemaIsSaid, plain_fields}
use Rattle.ipc_fields.specs.IpcFields.{fields_with, ids_of}
use Rattle.laws_transcode.specs.Files.{AreAsked, IsSendable, asked_schema}
use Rattle.laws_transcode.proofs.AskedFloats.{floats_asked}
use Rattle.laws_transcode.proofs.AskedSchemas.{asked_sendable}
use Rattle.ipc_files.proofs.Below.{fields_carried}
use Rattle.ipc_files.specs.FileViews.{WasRead, meta_view}
use Rattle.ipc_files.specs.declared.metadata.FileMetadata.{FileMetadata}
use Rattle.laws_sent.specs.SchemaLaws.{FieldsAreSent}
use Rattle.laws_sent.specs.SentFields.{AreReadable, fields_of}
use Rattle.laws_sent.proofs.PlainFields.{asked_without_ids, same_representable, same_numbers, same_with}
use Rattle.laws_sent.proofs.SayableFields.{fields_representable, fields_own, numberable}

-- a stream takes the schema of the columns that are asked for as it is
pub sendable : (file : FileMetadata) (columns : Option (List ℕ)) → columns_right columns (width (meta_view file).schema.fields) ≡ Ok tt → AreReadable (meta_view file) columns → WasRead file → IsSendable (asked_schema (meta_view file).schema columns)
sendable file columns right h w = asked_sendable (meta_view file).schema columns w.may right h

-- and arrays are read of them
pub fields_read : (file : FileMetadata) (columns : Option (List ℕ)) → columns_right columns (width (meta_view file).schema.fields) ≡ Ok tt → AreReadable (meta_view file) columns → WasRead file → are_carried (fields_of file columns) ≡ true
fields_read file columns right h w = fields_carried 64 (fields_of file columns) (floats_asked (meta_view file).schema.fields columns h) (sendable file columns right h w).may.fit

-- a schema of the columns has their fields, ids aside
pub sent_plain : (file : FileMetadata) (columns : Option (List ℕ)) (s : List Keyed) → AreAsked (rc_value file.schema) columns s → plain_fields (fields_in s) ≡ plain_fields (fields_of file columns)
sent_plain file columns s h = asked_without_ids (rc_value file.schema) (ids_of file.ipc_schema.fields.items) columns s h

-- fields that were read have their own pairs alone, and ids that count from 0 may be written
sent_said : (gs : Fields) (pairs : Metadata) → SchemaMayBeWritten gs pairs → SchemaIsSaid (numbered gs 0) pairs × (own_fields (numbered gs 0) ≡ numbered gs 0)
sent_said gs pairs may =
    let both = numbered_may gs pairs may in
    let own : own_fields (numbered gs 0) ≡ numbered gs 0 = fields_own 64 (numbered gs 0) both.0.fit in
    (record { schema = subst (λ hs. SchemaMayBeWritten hs pairs) (sym own) both.0; ids = rw own both.1 }, own)

pub are_sent_fields : FieldsAreSent
are_sent_fields file columns s own w right readable asked ids =
    let gs = fields_of file columns in
    let fs = fields_in s in
    let pairs = (meta_view file).schema.metadata in
    let may = (sendable file columns right readable w).may in
    let plain = sent_plain file columns s asked in
    let representable : all_representable fs ≡ true = same_representable fs gs plain ∙ fields_representable 64 gs may.fit in
    let numbers : fields_with fs own ≡ numbered gs 0 = ids.ids (numberable fs representable) ∙ same_numbers fs gs plain 0 in
    let said = sent_said gs pairs may in
    record {
      plain = plain;
      numbers = numbers;
      again = same_with gs fs (sym plain) own ∙ numbers;
      shapes = ids.shaped;
      agree = ap (λ hs. uses_agree [] (uses_in hs)) numbers ∙ uses_numbered gs;
      representable = representable;
      said = subst (λ hs. SchemaIsSaid hs pairs) (sym numbers) said.0;
      fields = ap (λ hs. bare (own_fields hs)) numbers ∙ ap bare said.1 ∙ bare_numbered gs 0;
    }
