use Rattle.std.proofs.Common.{◌≡◌, ℕ, zero, suc, List, [], ◌∷◌, ◌++◌, Some, refl, true, false}
use Rattle.std.specs.Prelude.{pos, negsuc, codes, take, ℤ}
use Rattle.laws_worked.proofs.WorkedStreams.{dictionaries_stream}
use Rattle.arrow_spec.specs.Framing.{message_bytes}
use Rattle.laws_worked.proofs.Int32Table.{computed}
use Rattle.arrow_spec.specs.declared.types.IntegerType.TheVariants.{Int8, Int16, Int32, Int64}
use Rattle.arrow_spec.specs.Kinds as kind
use Rattle.arrow_spec.specs.Kinds.{Fields, none, field, small}
use Rattle.arrow_spec.specs.Flat.{little}
use Rattle.arrow_spec.specs.declared.message.FieldNode.{FieldNode}
use Rattle.arrow_spec.specs.declared.message.IpcBuffer.{IpcBuffer}
use Rattle.arrow_spec.specs.declared.message.MetadataVersion.TheVariants.{V5}
use Rattle.arrow_spec.specs.Counts.{RecordBatch, first_place}
use Rattle.arrow_spec.specs.Layout as layout
use Rattle.arrow_spec.specs.Layout.{layout, size, table_head}
use Rattle.arrow_spec.specs.Schema.{extension_name, extension_metadata}
use Rattle.arrow_spec.specs.Sent.{field_pairs, pair_node, schema_message, stream_schema, top_written, written, body_of, dictionary_message}

abbrev pub node : ℕ → ℕ → FieldNode
node a b = record { length = pos a; null_count = pos b }

abbrev pub buffer : ℕ → ℕ → IpcBuffer
buffer a b = record { offset = pos a; length = pos b }

-- n Int64 nullable, t Utf8, d Dictionary(Int16, Utf8), p List of item Int32
abbrev pub gen : Fields
gen = field (codes "n") true [] (kind.integer Int64) (field (codes "t") false [] (kind.utf8 small) (field (codes "d") false [] (kind.dictionary Int16 false (pos 0) (kind.utf8 small)) (field (codes "p") false [] (kind.«list» small (field (codes "item") false [] (kind.integer Int32) none)) none)))

-- 448 bytes with the prefix
pub gen_schema : size (stream_schema gen [] []).node ≡ 440
unfolding computed
gen_schema = refl

-- a dictionary of eight texts of node letters: 184 bytes with the prefix, and a body of 128
pub gen_dictionary : size (dictionary_message 0 false (record { nodes = node 8 0 ∷ []; lengths = 0 ∷ 36 ∷ 16 ∷ []; views = [] })).node ≡ 176
unfolding computed
gen_dictionary = refl

-- List<Int8> of [1, 2], [], null, [3]
abbrev pub lists : RecordBatch
lists = record { order = little; version = V5; nodes = node 4 1 ∷ node 3 0 ∷ []; buffers = buffer 0 1 ∷ buffer 64 20 ∷ buffer 128 0 ∷ buffer 128 3 ∷ []; variadic = []; body = (11 ∷ []) ++ zeros 63 ++ (0 ∷ 0 ∷ 0 ∷ 0 ∷ 2 ∷ 0 ∷ 0 ∷ 0 ∷ 2 ∷ 0 ∷ 0 ∷ 0 ∷ 2 ∷ 0 ∷ 0 ∷ 0 ∷ 3 ∷ 0 ∷ 0 ∷ 0 ∷ []) ++ zeros 44 ++ (1 ∷ 2 ∷ 3 ∷ []) }
  where
    zeros : ℕ → List ℕ
    zeros zero = []
    zeros (suc n) = 0 ∷ zeros n

abbrev pub list_kind : kind.Kind
list_kind = kind.«list» small (field (codes "item") true [] (kind.integer Int8) none)

pub whole : written lists list_kind first_place 4 0 4 ≡ record { nodes = node 4 1 ∷ node 3 0 ∷ []; lengths = 1 ∷ 20 ∷ 0 ∷ 3 ∷ []; views = [] }
unfolding computed
whole = refl

pub whole_body : body_of 0 (1 ∷ 20 ∷ 0 ∷ 3 ∷ []) ≡ 192
whole_body = refl

pub sliced : written lists list_kind first_place 4 1 3 ≡ record { nodes = node 3 1 ∷ node 1 0 ∷ []; lengths = 1 ∷ 16 ∷ 0 ∷ 1 ∷ []; views = [] }
unfolding computed
sliced = refl

-- a view column of one 13-byte row over a buffer of so many bytes
abbrev pub viewed : ℕ → RecordBatch
viewed n = record { order = little; version = V5; nodes = node 1 0 ∷ []; buffers = buffer 0 0 ∷ buffer 0 16 ∷ buffer 64 n ∷ []; variadic = pos 1 ∷ []; body = 13 ∷ 0 ∷ 0 ∷ 0 ∷ 97 ∷ 97 ∷ 97 ∷ 97 ∷ 0 ∷ 0 ∷ 0 ∷ 0 ∷ 0 ∷ 0 ∷ 0 ∷ 0 ∷ [] }

pub views_kept : top_written (viewed 25) kind.utf8_view first_place 1 ≡ record { nodes = node 1 0 ∷ []; lengths = 0 ∷ 16 ∷ 25 ∷ []; views = 1 ∷ [] }
unfolding computed
views_kept = refl

pub views_laid_anew : top_written (viewed 26) kind.utf8_view first_place 1 ≡ record { nodes = node 1 0 ∷ []; lengths = 0 ∷ 16 ∷ 13 ∷ []; views = 1 ∷ [] }
unfolding computed
views_laid_anew = refl

-- a value of 2^31 bytes stands in a buffer of its own, and no empty one stands before it
abbrev pub long_viewed : RecordBatch
long_viewed = record { order = little; version = V5; nodes = node 1 0 ∷ []; buffers = buffer 0 0 ∷ buffer 0 16 ∷ buffer 64 2147484672 ∷ []; variadic = pos 1 ∷ []; body = 0 ∷ 0 ∷ 0 ∷ 128 ∷ 97 ∷ 97 ∷ 97 ∷ 97 ∷ 0 ∷ 0 ∷ 0 ∷ 0 ∷ 0 ∷ 0 ∷ 0 ∷ 0 ∷ [] }

pub long_view_laid_anew : top_written long_viewed kind.utf8_view first_place 1 ≡ record { nodes = node 1 0 ∷ []; lengths = 0 ∷ 16 ∷ 2147483648 ∷ []; views = 1 ∷ [] }
unfolding computed
long_view_laid_anew = refl

-- a dictionary of structs that hold a dictionary of texts, under any ids
abbrev pub nested_dictionaries : ℤ → ℤ → Fields
nested_dictionaries outer inner = field (codes "s") true [] (kind.dictionary Int32 false outer (kind.struct (field (codes "d") true [] (kind.dictionary Int8 false inner (kind.utf8 small)) none))) none

-- in a stream the ids count from 0, whatever the file has
pub numbered_schema : message_bytes (stream_schema (nested_dictionaries (pos 7) (negsuc 2)) [] []).node [] ≡ take 296 dictionaries_stream
unfolding computed message_bytes layout table_head
numbered_schema = refl

pub held_schema : message_bytes (schema_message little (nested_dictionaries (pos 0) (pos 1)) [] []).node [] ≡ take 296 dictionaries_stream
unfolding computed message_bytes layout table_head
held_schema = refl

-- an extension's metadata, its name, then the field's own pairs without reserved keys
pub extension_first : field_pairs (kind.extension (codes "e") (Some (codes "m")) (kind.integer Int16)) ((extension_name, codes "x") ∷ (codes "k", codes "v") ∷ []) ≡ layout.also (pair_node extension_metadata (codes "m")) (layout.also (pair_node extension_name (codes "e")) (layout.also (pair_node (codes "k") (codes "v")) layout.none))
extension_first = refl

pub reserved_left_out : field_pairs (kind.integer Int16) ((extension_metadata, []) ∷ (extension_name, codes "x") ∷ []) ≡ layout.none
reserved_left_out = refl
