use Rattle.std.proofs.Common.{◌≡◌, ◌∙◌, ap, length, subst, sym, true}
use Rattle.std.specs.Rc.{rc_value}
use Rattle.arrow_spec.specs.Schema.{Schema}
use Rattle.ipc_files.specs.Below.{held_in, Body, header_of, are_columns, are_rising, columns_of}
use Rattle.ipc_files.proofs.InOrder.{made_range, made_rising}
use Rattle.ipc_streams.specs.Starts.{stream_schema}
use Rattle.ipc_streams.proofs.ReadBatches.{rising_read, under_held}
use Rattle.ipc_streams.proofs.StreamSchemas.{column_count, field_count, held_columns, may_read, same_order}
use Rattle.ipc_streams.proofs.columns.StreamColumns.read_rising.Goals as goal

pub read_record_batch-requires-clause-rising : goal.read_record_batch-requires-clause-rising
read_record_batch-requires-clause-rising c = subst (λ ns. are_rising ns ≡ true) (sym c.numbers.ensures) (made_rising (rc_value c.args.self.now.metadata.schema) c.args.self.now.projection c.args.self.now.made)

pub read_record_batch-requires-clause-range : goal.read_record_batch-requires-clause-range
read_record_batch-requires-clause-range c =
    subst (λ ns. are_columns ns (length (rc_value c.args.self.now.metadata.schema)) ≡ true) (sym c.numbers.ensures) (made_range (rc_value c.args.self.now.metadata.schema) c.args.self.now.projection c.args.self.now.made)

pub read_record_batch-requires-clause-columns : goal.read_record_batch-requires-clause-columns
read_record_batch-requires-clause-columns c = may_read c.args.self.now.metadata (columns_of c.numbers.result) c.args.self.now.readable

pub read_record_batch-requires-clause-fields : goal.read_record_batch-requires-clause-fields
read_record_batch-requires-clause-fields c = field_count c.args.self.now.metadata c.args.self.now.readable

pub read_record_batch-requires-clause-kinds : goal.read_record_batch-requires-clause-kinds
read_record_batch-requires-clause-kinds c = held_columns c.args.self.now.metadata (held_in c.args.dictionaries.now) c.args.self.now.readable c.requires.values

pub returns-clause-gives : goal.returns-clause-gives
returns-clause-gives c = λ s d is holds floats.
    let m = c.args.self.now.metadata in
    let k = rc_value m.schema in
    let p = c.args.self.now.projection in
    let columns = columns_of c.numbers.result in
    let rising : are_rising columns ≡ true = subst (λ ns. are_rising ns ≡ true) (sym c.numbers.ensures) (made_rising k p c.args.self.now.made) in
    let range : are_columns columns (length k) ≡ true = subst (λ ns. are_columns ns (length k) ≡ true) (sym c.numbers.ensures) (made_range k p c.args.self.now.made) in
    rising_read s d (held_in c.args.dictionaries.now) m.ipc_schema.is_little_endian c.args.message.now.version (header_of c.args.message.now.header) columns (stream_schema m).fields c.place-place.result c.place-place.result.length c.args.body.bytes.items c.read_record_batch.result
    (c.numbers.ensures ∙ sym is.columns) (ap (λ (x : Schema). x.fields) (sym is.schema)) (same_order m ∙ ap (λ (x : Schema). x.order) (sym is.schema)) floats rising (subst (λ n. are_columns columns n ≡ true) (sym (column_count m)) range)
    (record { whole = c.place-place.ensures.place; most = ap (λ (b : Body). b.length) c.place-place.ensures.place }) (c.read_record_batch.ensures.gives d holds) (under_held (held_in c.args.dictionaries.now) d _ c.read_record_batch.result c.read_record_batch.ensures.parts holds)
