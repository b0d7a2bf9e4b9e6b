-- Schemas that may be written, among them that of the worked stream of one Int32 column, and the bytes of that stream.
use Rattle.std.proofs.Common.{◌≡◌, [], ◌∷◌, ◌++◌, length, Some, refl, true, false, arith, pos, ℕ, List}
use Rattle.std.specs.Str.{is_utf8, chars}
use lib.Utf8.{encode}
use Rattle.arrow_spec.specs.Readings.{bind}
use Rattle.arrow_spec.specs.Layout.{layout, size, table_head}
use Rattle.arrow_spec.specs.Sent.{batch_node, message, schema_message, may_be_sent, stream_schema}
use Rattle.arrow_spec.specs.Framing.{body_bytes, message_bytes}
use Rattle.arrow_spec.specs.Streams.{end_mark}
use Rattle.arrow_spec.specs.declared.types.IntegerType.TheVariants.{Int8, Int32}
use Rattle.arrow_spec.specs.declared.types.TimeUnit.TheVariants.{Second}
use Rattle.arrow_spec.specs.declared.types.UnionMode.TheVariants.{Dense}
use Rattle.arrow_spec.specs.Kinds.{Fields, Metadata, none, field, binary, dictionary, extension, integer, map, struct, time32, union, utf8, small, large}
use Rattle.arrow_spec.specs.WrittenSchemas.{AreFieldPairs, IdsMayBeWritten, SchemaMayBeWritten}
use Rattle.laws_worked.proofs.Vectors.{int32_stream}

abbrev own_pairs : AreFieldPairs []
own_pairs = record { ascend = tt; no_name = refl; no_metadata = refl }

abbrev column : Metadata → Fields
column metadata = field (97 ∷ []) true metadata (integer Int32) none

-- 1, null and 3
abbrev body : List ℕ
body = body_bytes 0 ((5 ∷ []) ∷ (1 ∷ 0 ∷ 0 ∷ 0 ∷ 0 ∷ 0 ∷ 0 ∷ 0 ∷ 3 ∷ 0 ∷ 0 ∷ 0 ∷ []) ∷ [])

pub int32_stream-written : message_bytes (stream_schema (column []) [] []).node [] ++ message_bytes (message 3 (batch_node 3 (record { nodes = record { length = pos 3; null_count = pos 1 } ∷ []; lengths = 1 ∷ 12 ∷ []; views = [] })) (length body) []).node body ++ end_mark ≡ int32_stream
unfolding schema_message message_bytes layout table_head size
int32_stream-written = refl

pub int32-may : SchemaMayBeWritten (column []) []
unfolding is_utf8 chars encode
int32-may = record { fit = (refl, own_pairs, tt, tt); ascend = tt; few_fields = omega arith; few_pairs = omega arith; distinct = refl }

pub int32-may-be-sent : may_be_sent (stream_schema (column []) [] []) ≡ true
unfolding schema_message may_be_sent layout table_head size
int32-may-be-sent = refl

-- the same column and schema with pairs
abbrev pairs : Metadata
pairs = (65 ∷ [], []) ∷ (66 ∷ [], 49 ∷ []) ∷ []

pub pairs-may : SchemaMayBeWritten (column ((107 ∷ [], 118 ∷ []) ∷ [])) pairs
unfolding is_utf8 chars encode
pairs-may = record { fit = (refl, record { ascend = (refl, refl, tt, tt); no_name = refl; no_metadata = refl }, tt, tt); ascend = (refl, refl, tt, (refl, refl, (refl, refl, tt), tt)); few_fields = omega arith; few_pairs = omega arith; distinct = refl }

pub pairs-may-be-sent : may_be_sent (stream_schema (column ((107 ∷ [], 118 ∷ []) ∷ [])) pairs []) ≡ true
unfolding schema_message may_be_sent layout table_head size
pairs-may-be-sent = refl

-- a dictionary of an extension, and a map of a union, with metadata
abbrev nested : Fields
nested =
    field (97 ∷ []) true [] (dictionary Int8 true (pos 7) (extension (120 ∷ []) (Some (121 ∷ [])) (utf8 small)))
    (field (98 ∷ []) false ((107 ∷ [], 118 ∷ []) ∷ []) (map false (field (101 ∷ []) false [] (struct (field (107 ∷ []) false [] (binary large) (field (118 ∷ []) true [] (union Dense false (pos 0 ∷ []) (field (117 ∷ []) true [] (time32 Second) none)) none))) none)) none)

pub nested-may : SchemaMayBeWritten nested ((107 ∷ [], 118 ∷ []) ∷ [])
unfolding is_utf8 chars encode
nested-may = record {
  fit = (refl, own_pairs, (refl, refl, tt), (refl, record { ascend = (refl, refl, tt, tt); no_name = refl; no_metadata = refl }, (refl, refl, (refl, own_pairs, (refl, own_pairs, tt, (refl, own_pairs, (refl, refl, (refl, own_pairs, refl, tt)), tt)), tt)), tt));
  ascend = (refl, refl, tt, tt);
  few_fields = omega arith;
  few_pairs = omega arith;
  distinct = refl;
}

pub nested-ids : IdsMayBeWritten nested
unfolding bind
nested-ids = record { within = (record { sfits = omega arith }, tt); agree = refl }
