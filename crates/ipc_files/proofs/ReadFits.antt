-- What was read of a file's bytes fits: its schema may be written, and the numbers of a block's message have 64 bits.
use Rattle.std.proofs.Common.{◌≡◌, ℕ, ◌^◌, ◌<◌, List, [], None, Result, Ok, Err, IfOk, true, ap, sym, ◌∙◌, subst, arith}
use Rattle.std.specs.Prelude.{All}
use Rattle.std.specs.Rc.{rc_value}
use Rattle.std.specs.declared.alloc.Global.{Global}
use Rattle.std.specs.declared.vec.Vec.{Vec}
use Rattle.arrow_spec.specs.declared.error.IpcError.{IpcError}
use Rattle.arrow_spec.specs.declared.message.Block.{Block}
use Rattle.arrow_spec.specs.Files.{Meta, meta_in}
use Rattle.arrow_spec.specs.Laws.{AreBytes}
use Rattle.arrow_spec.specs.Messages.{DictionaryBatch, dictionary_at, record_message}
use Rattle.arrow_spec.proofs.ReadPairs.{same_read, through}
use Rattle.ipc_fields.specs.Causes.{Decodes}
use Rattle.arrow_spec.specs.Kinds.{uses_in}
use Rattle.arrow_spec.specs.Schema.{uses_agree}
use Rattle.arrow_spec.specs.WrittenSchemas.{CustomMayBeWritten, IdsMayBeWritten, SchemaMayBeWritten}
use Rattle.arrow_spec.proofs.ReadFiles.{footer_schema_may}
use Rattle.arrow_types.specs.Schemas.{Keyed, fields_in}
use Rattle.ipc_fields.specs.IpcFields.{have_shapes, ids_of, metadata_of, schema_view}
use Rattle.ipc_schema.specs.Footers.{HasNaturalBlocks, IsNatural, footer_view}
use Rattle.ipc_schema.specs.Headers.{DictionaryTables, dictionary_message, dictionary_message_of}
use Rattle.ipc_schema.specs.Views.{header_of, message_of}
use Rattle.ipc_schema.specs.declared.footer.Footer.{Footer}
use Rattle.ipc_schema.specs.declared.message.DictionaryMessage.{DictionaryMessage}
use Rattle.ipc_schema.specs.declared.message.RecordMessage.{RecordMessage}
use Rattle.laws_columns.specs.Below.{HeaderFits}
use Rattle.laws_columns.proofs.Below.Headers as headers
use Rattle.ipc_files.specs.FileViews.{meta_view, WasRead}
use Rattle.ipc_files.specs.declared.metadata.FileMetadata.{FileMetadata}
use Rattle.ipc_files.proofs.ReadColumns.{fields_column}

-- a block's message
pub header_fits : (bytes : List ℕ) (r : Result RecordMessage IpcError) → AreBytes bytes → Decodes message_of r (record_message bytes) → IfOk r (λ m. HeaderFits (message_of m).tables)
header_fits bytes (Ok m) b h = headers.message_read bytes (message_of m) b h
header_fits bytes (Err e) b h = tt

-- the message of a dictionary
values_fits : (bytes : List ℕ) (x : DictionaryTables) → AreBytes bytes → dictionary_message bytes ≡ Ok x → HeaderFits x.dictionary.values
unfolding dictionary_message dictionary_at
values_fits bytes x b h =
    through _ _ x h λ found found_is h1. through _ _ x h1 λ y y_is h2. through _ _ x h2 λ version version_is h3.
    let values : HeaderFits y.values =
    through _ _ y y_is λ id id_is k1. through _ _ y k1 λ delta delta_is k2. through _ _ y k2 λ t t_is k3. through _ _ y k3 λ tables tables_are k4.
    subst (λ (z : DictionaryBatch). HeaderFits z.values) (same_read _ y k4) (headers.header_read bytes t tables b tables_are) in
    subst (λ (z : DictionaryTables). HeaderFits z.dictionary.values) (same_read _ x h3) values

pub dictionary_fits : (bytes : List ℕ) (r : Result DictionaryMessage IpcError) → AreBytes bytes → Decodes dictionary_message_of r (dictionary_message bytes) → IfOk r (λ m. HeaderFits (header_of m.header))
dictionary_fits bytes (Ok m) b h = values_fits bytes (dictionary_message_of m) b h
dictionary_fits bytes (Err e) b h = tt

-- metadata means what its footer does, whose schema it shares
pub same_meta : (m : FileMetadata) (footer : Footer) → rc_value m.schema ≡ footer.schema → m.ipc_schema ≡ footer.ipc_schema → m.custom_schema_metadata ≡ footer.custom_schema_metadata → m.blocks ≡ footer.blocks → m.dictionaries ≡ footer.dictionaries → meta_view m ≡ footer_view footer
same_meta m footer s i p b d =
    let by : List Keyed → Meta = λ k. record { schema = schema_view (k, footer.ipc_schema, footer.custom_schema_metadata); blocks = (footer_view footer).blocks; dictionaries = (footer_view footer).dictionaries } in
    rw (i, p, b, d) (ap by s)

-- and says what its footer does
pub said_same : (m : FileMetadata) (footer : Footer) (text bytes : List ℕ) → meta_view m ≡ footer_view footer → text ≡ bytes → meta_in text ≡ Ok (footer_view footer) → meta_in bytes ≡ Ok (meta_view m)
said_same m footer text bytes same t h = ap meta_in (sym t) ∙ h ∙ ap Ok (sym same)

-- a footer's schema
pub footer_may : (bytes : List ℕ) (r : Result Footer IpcError) → AreBytes bytes → Decodes footer_view r (meta_in bytes) → IfOk r (λ f. SchemaMayBeWritten (footer_view f).schema.fields (footer_view f).schema.metadata)
footer_may bytes (Ok f) b h = (footer_schema_may bytes (footer_view f) b h).0
footer_may bytes (Err e) b h = tt

pub footer_ids : (bytes : List ℕ) (r : Result Footer IpcError) → AreBytes bytes → Decodes footer_view r (meta_in bytes) → IfOk r (λ f. IdsMayBeWritten (footer_view f).schema.fields)
footer_ids bytes (Ok f) b h = (footer_schema_may bytes (footer_view f) b h).1
footer_ids bytes (Err e) b h = tt

-- metadata
pub was_read : (m : FileMetadata) (footer : Footer) → SchemaMayBeWritten (footer_view footer).schema.fields (footer_view footer).schema.metadata → IdsMayBeWritten (footer_view footer).schema.fields → meta_view m ≡ footer_view footer → rc_value m.schema ≡ footer.schema → m.ipc_schema ≡ footer.ipc_schema
    → have_shapes (fields_in footer.schema) (ids_of footer.ipc_schema.fields.items) ≡ true → m.size < 2 ^ 63 → m.custom_metadata ≡ None → m.blocks ≡ footer.blocks → m.dictionaries ≡ footer.dictionaries → HasNaturalBlocks footer → WasRead m
was_read m footer may ids same schema ipc shapes most none blocks dictionaries natural =
    let is : SchemaMayBeWritten (meta_view m).schema.fields (meta_view m).schema.metadata = subst (λ (x : Meta). SchemaMayBeWritten x.schema.fields x.schema.metadata) (sym same) may in
    record {
      may = is;
      ids = subst (λ (x : Meta). IdsMayBeWritten x.schema.fields) (sym same) ids;
      custom = subst CustomMayBeWritten (sym (ap metadata_of none)) (record { ascend = tt; few = omega arith });
      natural = record {
        blocks = subst (λ (v : Vec Block Global). All IsNatural v.items) (sym blocks) natural.blocks;
        dictionaries = subst (λ (v : Vec Block Global). All IsNatural v.items) (sym dictionaries) natural.dictionaries;
      };
      readable = record {
        shapes = rw (schema, ipc) shapes;
        columns = fields_column 64 (meta_view m).schema.fields is.fit;
        agree = subst (λ (x : Meta). uses_agree [] (uses_in x.schema.fields) ≡ Ok tt) (sym same) ids.agree;
        most = most;
      };
    }
