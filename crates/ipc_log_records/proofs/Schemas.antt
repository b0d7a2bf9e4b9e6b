-- The fields of a log's schema are written and read back as they are.
use Rattle.std.proofs.Common.{◌≡◌, ℕ, zero, suc, List, [], ◌∷◌, take, drop, true, Option, None, Some, Ok, sym, ◌∙◌, ap, subst, arith}
use Rattle.arrow_spec.specs.Kinds.{Fields, Metadata, bare}
use Rattle.arrow_spec.specs.Laws.{AreBytes}
use Rattle.arrow_spec.specs.Messages.{Message}
use Rattle.arrow_spec.specs.Readings.{◌>>=◌}
use Rattle.arrow_spec.specs.Regular.{regular}
use Rattle.arrow_spec.specs.Schema.{Schema}
use Rattle.arrow_spec.specs.Streams.{Framed, first_message, framed, next_message, stream_head}
use Rattle.arrow_spec.specs.WrittenSchemas.{SchemaMayBeWritten, own_fields}
use Rattle.arrow_spec.proofs.ReadPairs.{same_read, through}
use Rattle.arrow_spec.proofs.ReadSchemas.{read_may}
use Rattle.arrow_spec.proofs.RegularIds.{regular_numbered}
use Rattle.ipc_log_records.proofs.ReadSchemas.{may_without, said_same}
use Rattle.ipc_log_records.proofs.RegularSchemas.{may_regular}
use Rattle.ipc_fields.specs.IpcFields.{Ids, fields_with}
use Rattle.ipc_append.specs.Below.{Start, start_in}
use Rattle.ipc_read_laws.proofs.PlainTypes.{plain_fields_with}
use Rattle.ipc_append.proofs.Below.{same_numbers}
use Rattle.ipc_stream_writer.proofs.Below.{with_own}
use Rattle.same_fields.proofs.BareKinds.{fields_with_bare}
use Rattle.ipc_log_records.proofs.Stepped.{is_framed}

-- whether fields are regular does not depend on their ids
pub regular_with : (fs : Fields) (own : Ids) (pairs : Metadata) → regular (fields_with fs own) pairs ≡ regular fs pairs
regular_with fs own pairs =
    sym (regular_numbered (fields_with fs own) pairs 0) ∙ ap (λ (hs : Fields). regular hs pairs) (same_numbers (fields_with fs own) fs (plain_fields_with fs own) 0) ∙ regular_numbered fs pairs 0

-- nor do the fields of a log
pub said_are : (fs : Fields) (own : Ids) → bare (own_fields (fields_with fs own)) ≡ bare (own_fields fs)
said_are fs own = ap bare (sym (with_own fs own)) ∙ fields_with_bare (own_fields fs) own

-- ── a schema that was read ──

module _ (fs : Fields) (own : Ids) (pairs : Metadata) (may : SchemaMayBeWritten (fields_with fs own) pairs) where
  pub read_regular : regular fs [] ≡ true
  read_regular = sym (regular_with fs own []) ∙ may_regular (fields_with fs own) [] (may_without (fields_with fs own) pairs may)

  pub read_own : bare (fields_with fs own) ≡ bare (own_fields fs)
  read_own = ap bare (sym (said_same (fields_with fs own) 64 may.fit)) ∙ said_are fs own

bytes_take : (n : ℕ) (b : List ℕ) → AreBytes b → AreBytes (take n b)
bytes_take zero b h i = omega arith
bytes_take (suc n) [] h i = omega arith
bytes_take (suc n) (x ∷ b) h zero = h 0
bytes_take (suc n) (x ∷ b) h (suc i) = bytes_take n b (λ k. h (suc k)) i

bytes_drop : (n : ℕ) (b : List ℕ) → AreBytes b → AreBytes (drop n b)
bytes_drop zero b h i = h i
bytes_drop (suc n) [] h i = omega arith
bytes_drop (suc n) (x ∷ b) h i = bytes_drop n b (λ k. h (suc k)) i

framed_bytes : (b : List ℕ) (prefix : ℕ × ℕ) (f : Framed) → AreBytes b → framed b prefix ≡ Ok f → AreBytes f.metadata
unfolding framed
framed_bytes b prefix f bytes h = through _ _ f h λ whole _ rest.
    subst AreBytes (ap (λ (x : Framed). x.metadata) (same_read _ f rest)) (bytes_take prefix.1 (drop prefix.0 b) (bytes_drop prefix.0 b bytes))

pub first_is : (b : List ℕ) (f : Framed) → (next_message b >>= first_message) ≡ Ok f → next_message b ≡ Ok (Some f)
unfolding first_message
first_is b f h = through (next_message b) first_message f h λ next next_is rest. by next next_is rest
  where
    by : (next : Option Framed) → next_message b ≡ Ok next → first_message next ≡ Ok f → next_message b ≡ Ok (Some f)
    by None is k = cc
    by (Some g) is k = is ∙ ap (λ (x : Framed). Ok (Some x)) (same_read g f k)

-- the metadata of the first message is of the stream's bytes
first_bytes : (b : List ℕ) (f : Framed) → AreBytes b → (next_message b >>= first_message) ≡ Ok f → AreBytes f.metadata
first_bytes b f bytes h = let g = is_framed b f (first_is b f h) in framed_bytes b g.prefix f bytes g.is

pub start_may : (b : List ℕ) (start : Start) (rest : List ℕ) → AreBytes b → start_in b ≡ Ok (start, rest) → SchemaMayBeWritten start.schema.fields start.schema.metadata
unfolding start_in stream_head
start_may b start rest bytes h =
    through _ _ (start, rest) h λ f f_is h1. through _ _ (start, rest) h1 λ first first_is h2. through _ _ (start, rest) h2 λ version _ h3. through _ _ (start, rest) h3 λ body _ h4.
    through _ _ first first_is λ m _ k1. through _ _ first k1 λ v _ k2. through _ _ first k2 λ custom _ k3. through _ _ first k3 λ schema schema_is k4.
    let may = read_may f.metadata m.header schema (first_bytes b f bytes f_is) schema_is in
    let read : schema ≡ first.2 = ap (λ (x : Message × Metadata × Schema). x.2) (same_read _ first k4) in
    let started : first.2 ≡ start.schema = ap (λ (x : Start × List ℕ). x.0.schema) (same_read _ (start, rest) h4) in
    subst (λ (x : Schema). SchemaMayBeWritten x.fields x.metadata) (read ∙ started) may.0
