-- Files and streams with dictionaries in parts: what they mean, and how they are sent.
use Rattle.std.proofs.Common.{◌≡◌, ℕ, ◌+◌, List, [], ◌∷◌, ◌++◌, length, None, Ok, refl, Bool, true, false, pos}
use Rattle.std.specs.Prelude.{codes, map}
use Rattle.std.specs.List.{flat_map}
use Rattle.laws_worked.proofs.Int32Table.{computed}
use Rattle.arrow_spec.specs.Meaning.{file_table}
use Rattle.laws_worked.proofs.Rows.{batches, why}
use Rattle.arrow_spec.specs.declared.error.IpcError.TheVariants.{OutOfSpec}
use Rattle.arrow_spec.specs.declared.error.OutOfSpecKind.TheVariants as kinds
use Rattle.arrow_spec.specs.declared.types.IntegerType.TheVariants.{Int8}
use Rattle.arrow_spec.specs.Kinds as kind
use Rattle.arrow_spec.specs.Kinds.{Fields, none, field, small, Metadata}
use Rattle.arrow_spec.specs.declared.message.FieldNode.{FieldNode}
use Rattle.arrow_spec.specs.Cells as cells
use Rattle.arrow_spec.specs.Cells.{Cell}
use Rattle.arrow_spec.specs.Counts.{Written}
use Rattle.arrow_spec.specs.Layout.{layout, table_head, u32, zeros}
use Rattle.arrow_spec.specs.Sent.{SentMessage, batch_node, dictionary_message, message, stream_schema}
use Rattle.arrow_spec.specs.Framing.{body_bytes, message_bytes, padded_size}
use Rattle.arrow_spec.specs.Footers.{footer_node}
use Rattle.arrow_spec.specs.Files.{FileBlock, «all», batch_sent, batches_sent, sent}
use Rattle.arrow_spec.specs.Streams.{end_mark, stream_table}

-- ── messages with their bodies ──

pub record Whole : Type 0 where
  pub message : SentMessage
  pub body : List ℕ

-- columns or values of so many nodes and such buffers
abbrev written_with : List FieldNode → List (List ℕ) → Written
written_with nodes pieces = record { nodes = nodes; lengths = map length pieces; views = [] }

abbrev pub node : ℕ → FieldNode
node n = record { length = pos n; null_count = pos 0 }

abbrev dictionary : ℕ → Bool → List FieldNode → List (List ℕ) → Whole
dictionary id is_delta nodes pieces = record { message = dictionary_message id is_delta (written_with nodes pieces); body = body_bytes 0 pieces }

abbrev pub batch : ℕ → List FieldNode → List (List ℕ) → Whole
batch rows nodes pieces = record { message = message 3 (batch_node rows (written_with nodes pieces)) (length (body_bytes 0 pieces)) []; body = body_bytes 0 pieces }

abbrev bytes_of : Whole → List ℕ
bytes_of x = message_bytes x.message.node x.body

abbrev framed : Fields → List Whole → List ℕ
framed fs xs = message_bytes (stream_schema fs [] []).node [] ++ flat_map bytes_of xs

-- where messages stand from a place on
abbrev blocks_from : ℕ → List Whole → List FileBlock
blocks_from at [] = []
blocks_from at (x ∷ xs) = record { offset = at; metadata = 8 + padded_size x.message.node; body = x.message.body } ∷ blocks_from (at + (8 + padded_size x.message.node) + x.message.body) xs

abbrev schema_end : Fields → ℕ
schema_end fs = 16 + padded_size (stream_schema fs [] []).node

abbrev after_all : ℕ → List Whole → ℕ
after_all at [] = at
after_all at (x ∷ xs) = after_all (at + (8 + padded_size x.message.node) + x.message.body) xs

abbrev footer : Fields → Fields → List Whole → List Whole → List ℕ
footer fs written ds bs = layout (footer_node fs [] [] (blocks_from (schema_end written) ds) (blocks_from (after_all (schema_end written) ds) bs))

-- a file of a schema's dictionaries and batches
abbrev pub file_of : Fields → List Whole → List Whole → List ℕ
file_of fs ds bs = codes "ARROW1" ++ zeros 2 ++ framed fs (ds ++ bs) ++ end_mark ++ footer fs fs ds bs ++ u32 (length (footer fs fs ds bs)) ++ codes "ARROW1"

abbrev stream_of : Fields → List Whole → List ℕ
stream_of fs xs = framed fs xs ++ end_mark

-- ── one dictionary of texts ──

abbrev texts : Fields
texts = field (codes "d") true [] (kind.dictionary Int8 false (pos 0) (kind.utf8 small)) none

-- texts of one letter each
abbrev offsets : ℕ → List ℕ → List ℕ
offsets at [] = u32 at
offsets at (x ∷ xs) = u32 at ++ offsets (at + 1) xs

abbrev letters : ℕ → Bool → List ℕ → Whole
letters id is_delta xs = dictionary id is_delta (node (length xs) ∷ []) ([] ∷ offsets 0 xs ∷ xs ∷ [])

abbrev keys : List ℕ → Whole
keys xs = batch (length xs) (node (length xs) ∷ []) ([] ∷ xs ∷ [])

-- x and y, then z
abbrev base_and_delta : List Whole
base_and_delta = letters 0 false (codes "xy") ∷ letters 0 true (codes "z") ∷ []

abbrev parts_file : List ℕ
parts_file = file_of texts base_and_delta (keys (2 ∷ 0 ∷ []) ∷ [])

abbrev letter : List ℕ → Cell
letter x = cells.text x

pub parts_read : batches (file_table parts_file «all») ≡ ((letter (codes "z") ∷ letter (codes "x") ∷ []) ∷ []) ∷ []
unfolding computed message_bytes layout table_head
parts_read = refl

abbrev messages : List Whole → List SentMessage
messages xs = map (λ x. x.message) xs

-- the stream has the whole dictionary, then the delta
pub parts_sent : sent parts_file «all» None ≡ Ok (stream_schema texts [] [] ∷ messages (base_and_delta ++ keys (2 ∷ 0 ∷ []) ∷ []))
unfolding computed sent batch_sent batches_sent message_bytes layout table_head
parts_sent = refl

pub parts_streamed : stream_table (stream_of texts (base_and_delta ++ keys (2 ∷ 0 ∷ []) ∷ [])) None ≡ file_table parts_file «all»
unfolding computed message_bytes layout table_head
parts_streamed = refl

-- a delta before its dictionary
pub delta_first : why (file_of texts (letters 0 true (codes "z") ∷ letters 0 false (codes "xy") ∷ []) (keys (0 ∷ []) ∷ [])) «all» ≡ OutOfSpec kinds.DuplicateDictionary ∷ []
unfolding computed message_bytes layout table_head
delta_first = refl

-- deltas alone: the first begins the dictionary, and one without cells is not sent
abbrev deltas_alone : List ℕ
deltas_alone = file_of texts (letters 0 true (codes "x") ∷ letters 0 true [] ∷ letters 0 true (codes "yz") ∷ []) (keys (2 ∷ 0 ∷ []) ∷ [])

pub alone_read : batches (file_table deltas_alone «all») ≡ ((letter (codes "z") ∷ letter (codes "x") ∷ []) ∷ []) ∷ []
unfolding computed message_bytes layout table_head
alone_read = refl

pub alone_sent : sent deltas_alone «all» None ≡ Ok (stream_schema texts [] [] ∷ messages (letters 0 false (codes "x") ∷ letters 0 true (codes "yz") ∷ keys (2 ∷ 0 ∷ []) ∷ []))
unfolding computed sent batch_sent batches_sent message_bytes layout table_head
alone_sent = refl

-- in a stream a dictionary replaces the parts before it, and cells that were read stay
pub replaced : batches (stream_table (stream_of texts (letters 0 false (codes "xy") ∷ keys (1 ∷ []) ∷ letters 0 true (codes "z") ∷ keys (2 ∷ []) ∷ letters 0 false (codes "a") ∷ letters 0 true (codes "b") ∷ keys (1 ∷ 0 ∷ []) ∷ [])) None)
    ≡ ((letter (codes "y") ∷ []) ∷ []) ∷ ((letter (codes "z") ∷ []) ∷ []) ∷ ((letter (codes "b") ∷ letter (codes "a") ∷ []) ∷ []) ∷ []
unfolding computed message_bytes layout table_head
replaced = refl

-- ── a dictionary in a dictionary ──

-- structs of a dictionary of texts, as in the file: the outer one has id 0, the inner one 1
abbrev nested : Fields
nested = field (codes "s") true [] (kind.dictionary Int8 false (pos 0) (kind.struct (field (codes "d") true [] (kind.dictionary Int8 false (pos 1) (kind.utf8 small)) none))) none

-- values that are structs of keys
abbrev structs : ℕ → Bool → List ℕ → Whole
structs id is_delta xs = dictionary id is_delta (node (length xs) ∷ node (length xs) ∷ []) ([] ∷ [] ∷ xs ∷ [])

-- an inner part, an outer one, then a delta of each
abbrev inner_and_outer : List Whole
inner_and_outer = letters 1 false (codes "x") ∷ structs 0 false (0 ∷ []) ∷ letters 1 true (codes "y") ∷ structs 0 true (1 ∷ 0 ∷ []) ∷ []

abbrev nested_file : List ℕ
nested_file = file_of nested inner_and_outer (keys (1 ∷ 2 ∷ []) ∷ [])

abbrev of_letter : List ℕ → Cell
of_letter x = cells.struct (cells.also (letter x) cells.none)

pub nested_read : batches (file_table nested_file «all») ≡ ((of_letter (codes "y") ∷ of_letter (codes "x") ∷ []) ∷ []) ∷ []
unfolding computed message_bytes layout table_head
nested_read = refl

-- each part of the outer one is sent behind those parts of the inner one that it was read under
pub nested_sent : sent nested_file «all» None ≡ Ok (stream_schema nested [] [] ∷ messages (inner_and_outer ++ keys (1 ∷ 2 ∷ []) ∷ []))
unfolding computed sent batch_sent batches_sent message_bytes layout table_head
nested_sent = refl

pub nested_streamed : stream_table (stream_of nested (inner_and_outer ++ keys (1 ∷ 2 ∷ []) ∷ [])) None ≡ file_table nested_file «all»
unfolding computed message_bytes layout table_head
nested_streamed = refl

-- both inner parts stand before the outer ones: they are sent before the first
abbrev inner_first : List Whole
inner_first = letters 1 false (codes "x") ∷ letters 1 true (codes "y") ∷ structs 0 false (0 ∷ []) ∷ structs 0 true (1 ∷ 0 ∷ []) ∷ []

pub inner_first_sent : sent (file_of nested inner_first (keys (1 ∷ 2 ∷ []) ∷ [])) «all» None ≡ Ok (stream_schema nested [] [] ∷ messages (inner_first ++ keys (1 ∷ 2 ∷ []) ∷ []))
unfolding computed sent batch_sent batches_sent message_bytes layout table_head
inner_first_sent = refl
