use Rattle.std.proofs.Common.{ℕ}
use Rattle.arrow_spec.specs.Readings.{bind}
use Rattle.arrow_spec.specs.Sent.{schema_message, written, batch_message, dictionary_messages, may_be_sent}
use Rattle.arrow_spec.specs.Flat.{root, table_at, slot, items, text}
use Rattle.arrow_spec.specs.Schema.{pairs_from, pairs_of, choice, integer_at, decimal_at, time_at, timestamp_at, ids_at, union_at, type_at, encoding_at, head_at, fields_by, field_at, schema_of}
use Rattle.arrow_spec.specs.Messages.{batch_at, prefix_of, message_of, version_of, custom_pairs, dictionary_at}
use Rattle.arrow_spec.specs.Layout.{size}
use Rattle.arrow_spec.specs.Arrays.{buf, valid, unsigned_in}
use Rattle.arrow_spec.specs.Faults.{count_faults, node_faults, range_faults, bitmap_faults, validity_faults, numbers_faults, offsets_faults, bytes_faults, utf8_faults, is_good_view, view_parts_faults, views_faults, view_text_faults, key_faults, union_faults, column_faults}
use Rattle.arrow_spec.specs.Columns.{columns_at}
use Rattle.arrow_spec.specs.Meaning.{file_table}
use Rattle.arrow_spec.specs.Files.{footer_of, meta_in, meta_of, custom_of, batch_of_tables, block_message, batch_of, batches_of, dictionary_of, dictionaries_of, file_reading}
use Rattle.arrow_spec.specs.Streams.{stream_prefix, framed, next_message, body_in, stream_batch, stream_dictionary, stream_step, stream_batches, first_message, schema_message_of, stream_head, stream_reading, stream_table, body_length, behind_messages}
use Rattle.std.specs.Str.{is_utf8, chars}
use lib.Utf8.{encode}

unfoldable pub computed : ℕ
unfolding custom_pairs custom_of stream_head bind schema_message written batch_message dictionary_messages may_be_sent root table_at slot items text pairs_from pairs_of choice integer_at decimal_at time_at timestamp_at ids_at union_at type_at encoding_at head_at fields_by field_at schema_of batch_at prefix_of message_of version_of buf valid unsigned_in count_faults node_faults range_faults bitmap_faults validity_faults numbers_faults offsets_faults bytes_faults utf8_faults is_good_view view_parts_faults views_faults view_text_faults key_faults union_faults column_faults columns_at footer_of meta_in meta_of batch_of_tables block_message batch_of batches_of dictionary_of dictionaries_of dictionary_at size file_reading file_table is_utf8 chars encode stream_prefix framed next_message body_in stream_batch stream_dictionary stream_step stream_batches first_message schema_message_of stream_reading stream_table body_length behind_messages
computed = 0
