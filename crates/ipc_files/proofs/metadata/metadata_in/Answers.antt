use Rattle.std.proofs.Common.{None, refl}
use Rattle.ipc_files.specs.declared.metadata.FileMetadata.{FileMetadata}
use Rattle.ipc_files.proofs.ReadFits.{same_meta, said_same, was_read}
use Rattle.ipc_files.proofs.metadata.metadata_in.Goals as goal

pub returns-clause-gives : goal.returns-clause-gives
returns-clause-gives c =
    let footer = c.in_ok-footer_read.footer_read in
    let read : FileMetadata = record { schema = c.in_ok-schema.schema; ipc_schema = footer.ipc_schema; custom_schema_metadata = footer.custom_schema_metadata; custom_metadata = None; blocks = footer.blocks; dictionaries = footer.dictionaries; size = c.args.footer.now.size } in
    said_same read footer c.deref.result.now _ (same_meta read footer c.in_ok-schema.ensures.ok refl refl refl refl) c.deref.ensures.value c.in_ok-footer_read.ensures.gives

pub returns-clause-read : goal.returns-clause-read
returns-clause-read c =
    let footer = c.in_ok-footer_read.footer_read in
    let read : FileMetadata = record { schema = c.in_ok-schema.schema; ipc_schema = footer.ipc_schema; custom_schema_metadata = footer.custom_schema_metadata; custom_metadata = None; blocks = footer.blocks; dictionaries = footer.dictionaries; size = c.args.footer.now.size } in
    was_read read footer c.in_ok-footer_read.ensures.may c.in_ok-footer_read.ensures.ids (same_meta read footer c.in_ok-schema.ensures.ok refl refl refl refl) c.in_ok-schema.ensures.ok refl c.in_ok-footer_read.ensures.shapes c.requires refl refl refl c.in_ok-footer_read.ensures.natural
