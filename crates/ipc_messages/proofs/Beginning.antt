-- The message of a schema with which a stream is begun.
use Rattle.std.proofs.Common.{◌≡◌, ◌⊎◌, inl, inr, ℕ, ◌%◌, ◌<◌, ◌≤◌, ◌^◌, List, [], ◌∷◌, Bool, true, false, length, min, Option, None, Some, Result, Ok, Err, refl, sym, ap, ◌∙◌, subst, append-nil, arith}
use Rattle.std.specs.Prelude.{IfErr, IfOk, is_some, nat_le}
use Rattle.std.specs.declared.alloc.Global.{Global}
use Rattle.std.specs.declared.vec.Vec.{Vec}
use Rattle.std.proofs.lemmas.Bool.{le-leb, leb-true, lt-leb}
use Rattle.arrow_spec.specs.declared.error.IpcError.{IpcError}
use Rattle.arrow_spec.specs.declared.error.IpcError.TheVariants as errors
use Rattle.arrow_spec.specs.declared.error.Feature.TheVariants.{Compression}
use Rattle.arrow_spec.specs.Features.{floats_in}
use Rattle.arrow_spec.specs.Flat.{Order, little, order_by}
use Rattle.arrow_spec.specs.Framing.{message_bytes}
use Rattle.arrow_spec.specs.Kinds.{Fields, Metadata}
use Rattle.arrow_spec.specs.Layout.{Node, layout, size, up_to}
use Rattle.arrow_spec.specs.Readings.{IsAmong, Reading, Refuses, bind, free_of, is_absent, refusals, unless}
use Rattle.arrow_spec.specs.Laws.{AreBytes}
use Rattle.arrow_spec.specs.Messages.{Message}
use Rattle.arrow_spec.specs.Regular.{regular, representable}
use Rattle.arrow_spec.specs.Schema.{Schema}
use Rattle.arrow_spec.specs.Sent.{schema_node}
use Rattle.arrow_spec.specs.Streams.{schema_message_of}
use Rattle.arrow_spec.specs.WrittenSchemas.{Ascend, IdsMayBeWritten, SchemaMayBeWritten, own_fields}
use Rattle.arrow_spec.proofs.NextMessages.{length-layout}
use Rattle.arrow_spec.proofs.ReadPairs.{is_true, same_read, through}
use Rattle.arrow_spec.proofs.ReadSchemas.{read_may}
use Rattle.arrow_types.specs.Schemas.{Keyed, fields_in}
use Rattle.ipc_fields.specs.IpcFields.{Ids, fields_with, ids_of, metadata_of}
use Rattle.ipc_fields.specs.declared.ipc_field.IpcField.{IpcField}
use Rattle.ipc_write.specs.Below.{IsOfMessage, belong_to, serialized, written, PairsAscend, ReadsBackAs}
use Rattle.ipc_write.specs.declared.options.WriteOptions.{WriteOptions}
use Rattle.ipc_messages.specs.Fields.{AreIdsFor}
use Rattle.ipc_messages.specs.declared.pairs.StreamPairs.{StreamPairs}
use Rattle.ipc_messages.specs.Schemas.{GivesText, IsNoStart, IsRefusedAs, SchemaIsSaid, StartMayBeWritten, begun_message, begun_metadata, features_checked, stream_text}
use Rattle.ipc_messages.proofs.Lengths.{length-message}
use Rattle.ipc_messages.proofs.Planning.{only_memory}

-- ── readings ──

pub refused_first : {A B : Type 0} (r : Reading A) (f : A → Reading B) (e : IpcError) → IsAmong (refusals r) e → IsAmong (refusals (bind r f)) e
unfolding bind
refused_first (Ok x) f e h = absurd h
refused_first (Err es) f e h = h

pub then_by : {A B : Type 0} (r : Reading A) (f : A → Reading B) (x : A) → r ≡ Ok x → bind r f ≡ f x
unfolding bind
then_by r f x h = rw h refl

-- ── features ──

pub compressed : (options : WriteOptions) (floats : List IpcError) → true ≡ is_some options.compression → IsAmong (refusals (features_checked options floats)) (errors.Unsupported Compression)
compressed options floats h = refused_first (unless (is_absent options.compression) (errors.Unsupported Compression)) (λ plain. free_of floats) (errors.Unsupported Compression) (by options.compression h)
  where
    by : {A : Type 0} (o : Option A) → true ≡ is_some o → IsAmong (refusals (unless (is_absent o) (errors.Unsupported Compression))) (errors.Unsupported Compression)
    by None h = cc
    by (Some x) h = inl refl

pub absent_is : {A : Type 0} (o : Option A) → false ≡ is_some o → is_absent o ≡ true
absent_is None h = refl
absent_is (Some x) h = cc

plain_first : (options : WriteOptions) (floats : List IpcError) → is_absent options.compression ≡ true → features_checked options floats ≡ free_of floats
plain_first options floats h = then_by (unless (is_absent options.compression) (errors.Unsupported Compression)) (λ plain. free_of floats) tt (ap (λ b. unless b (errors.Unsupported Compression)) h)

free_refused : (floats : List IpcError) (e : IpcError) → IsAmong floats e → IsAmong (refusals (free_of floats)) e
free_refused [] e h = absurd h
free_refused (x ∷ xs) e h = h

pub floats_refused : (options : WriteOptions) (floats : List IpcError) (e : IpcError) → false ≡ is_some options.compression → IsAmong floats e → IsAmong (refusals (features_checked options floats)) e
floats_refused options floats e h k = subst (λ r. IsAmong (refusals r) e) (sym (plain_first options floats (absent_is options.compression h))) (free_refused floats e k)

pub features_free : (options : WriteOptions) (floats : List IpcError) → false ≡ is_some options.compression → floats ≡ [] → features_checked options floats ≡ Ok tt
features_free options floats h k = plain_first options floats (absent_is options.compression h) ∙ ap free_of k

unless_done : (b : Bool) (e : IpcError) (floats : List IpcError) → bind (unless b e) (λ plain. free_of floats) ≡ Ok tt → b ≡ true
unfolding bind
unless_done true e floats h = refl
unless_done false e floats h = cc

-- where nothing is refused, no compression is asked for
pub features_plain : (options : WriteOptions) (floats : List IpcError) → features_checked options floats ≡ Ok tt → is_absent options.compression ≡ true
features_plain options floats h = unless_done (is_absent options.compression) (errors.Unsupported Compression) floats h

-- ── the message ──

abbrev behind : WriteOptions → Fields → Ids → StreamPairs → List ℕ → Reading (List ℕ)
behind options fs below pairs metadata = bind (unless (nat_le (up_to 8 (length metadata)) (min options.metadata_limit 2147483647)) errors.TooLarge) (λ small. Ok (message_bytes (begun_message fs below pairs).node []))

-- a schema in little-endian order, with its pairs and those of its message, is the stream's
pub same_metadata : (is_little : Bool) (fs : Fields) (below : Ids) (own custom : Metadata) (pairs : StreamPairs) → is_little ≡ true → own ≡ metadata_of pairs.schema → custom ≡ metadata_of pairs.message
    → written (order_by is_little) fs below own custom ≡ begun_metadata fs below pairs
same_metadata is_little fs below own custom pairs h k l = rw (h, k, l) refl

as_steps : (options : WriteOptions) (fs : Fields) (below : Ids) (pairs : StreamPairs) → stream_text options fs below pairs ≡ bind (features_checked options (floats_in fs)) (λ plain. bind (begun_metadata fs below pairs) (behind options fs below pairs))
unfolding stream_text
as_steps options fs below pairs = refl

pub text_features : (options : WriteOptions) (fs : Fields) (below : Ids) (pairs : StreamPairs) (e : IpcError) → IsAmong (refusals (features_checked options (floats_in fs))) e → IsAmong (refusals (stream_text options fs below pairs)) e
text_features options fs below pairs e h =
    subst (λ r. IsAmong (refusals r) e) (sym (as_steps options fs below pairs)) (refused_first (features_checked options (floats_in fs)) (λ plain. bind (begun_metadata fs below pairs) (behind options fs below pairs)) e h)

checked : (options : WriteOptions) (fs : Fields) (below : Ids) (pairs : StreamPairs) → features_checked options (floats_in fs) ≡ Ok tt → stream_text options fs below pairs ≡ bind (begun_metadata fs below pairs) (behind options fs below pairs)
checked options fs below pairs h = as_steps options fs below pairs ∙ then_by (features_checked options (floats_in fs)) (λ plain. bind (begun_metadata fs below pairs) (behind options fs below pairs)) tt h

among : (e : IpcError) (es : List IpcError) → IsOfMessage e → Refuses e es → (e ≡ errors.Memory) ⊎ IsAmong es e
among errors.SchemaMismatch es h k = inr k
among errors.NotRepresentable es h k = inr k
among errors.TooLarge es h k = inr k
among errors.Memory es h k = inl refl
among e es h k = absurd h

pub text_refused : (options : WriteOptions) (fs : Fields) (below : Ids) (pairs : StreamPairs) (e : IpcError) → features_checked options (floats_in fs) ≡ Ok tt → IsOfMessage e → Refuses e (refusals (begun_metadata fs below pairs)) → IsRefusedAs e (stream_text options fs below pairs)
text_refused options fs below pairs e c h k = by (among e (refusals (begun_metadata fs below pairs)) h k)
  where
    by : (e ≡ errors.Memory) ⊎ IsAmong (refusals (begun_metadata fs below pairs)) e → IsRefusedAs e (stream_text options fs below pairs)
    by (inl m) = inl m
    by (inr i) = inr (subst (λ r. IsAmong (refusals r) e) (sym (checked options fs below pairs c)) (refused_first (begun_metadata fs below pairs) (behind options fs below pairs) e i))

there : (options : WriteOptions) (fs : Fields) (below : Ids) (pairs : StreamPairs) (metadata : List ℕ) → features_checked options (floats_in fs) ≡ Ok tt → begun_metadata fs below pairs ≡ Ok metadata → stream_text options fs below pairs ≡ behind options fs below pairs metadata
there options fs below pairs metadata c w = checked options fs below pairs c ∙ then_by (begun_metadata fs below pairs) (behind options fs below pairs) metadata w

pub text_large : (options : WriteOptions) (fs : Fields) (below : Ids) (pairs : StreamPairs) (metadata : List ℕ) → features_checked options (floats_in fs) ≡ Ok tt → begun_metadata fs below pairs ≡ Ok metadata → min options.metadata_limit 2147483647 < up_to 8 (length metadata)
    → IsAmong (refusals (stream_text options fs below pairs)) errors.TooLarge
text_large options fs below pairs metadata c w h =
    let test : nat_le (up_to 8 (length metadata)) (min options.metadata_limit 2147483647) ≡ false = lt-leb (up_to 8 (length metadata)) (min options.metadata_limit 2147483647) h in
    let large : IsAmong (refusals (unless (nat_le (up_to 8 (length metadata)) (min options.metadata_limit 2147483647)) errors.TooLarge)) errors.TooLarge = subst (λ b. IsAmong (refusals (unless b errors.TooLarge)) errors.TooLarge) (sym test) (inl refl) in
    subst (λ r. IsAmong (refusals r) errors.TooLarge) (sym (there options fs below pairs metadata c w))
    (refused_first (unless (nat_le (up_to 8 (length metadata)) (min options.metadata_limit 2147483647)) errors.TooLarge) (λ small. Ok (message_bytes (begun_message fs below pairs).node [])) errors.TooLarge large)

-- the bytes that are written are the layout
abbrev all_tests : Bool → Bool → Bool → Node → List ℕ → Reading (List ℕ)
all_tests b c d n l = bind (bind (unless b errors.SchemaMismatch) (λ own. bind (unless c errors.NotRepresentable) (λ sayable. Ok n))) (λ header. bind (unless d errors.TooLarge) (λ small. Ok l))

as_tests : (fs : Fields) (own : Ids) (pairs : StreamPairs) → begun_metadata fs own pairs
    ≡ all_tests (belong_to own fs) (representable (fields_with fs own)) (nat_le (size (begun_message fs own pairs).node) 2147483647) (schema_node little (fields_with fs own) (metadata_of pairs.schema)) (layout (begun_message fs own pairs).node)
unfolding written serialized
as_tests fs own pairs = refl

passed : (b c d : Bool) (n : Node) (l m : List ℕ) → all_tests b c d n l ≡ Ok m → m ≡ l
unfolding bind
passed false c d n l m h = cc
passed true false d n l m h = cc
passed true true false n l m h = cc
passed true true true n l m h = cc

pub written_layout : (fs : Fields) (own : Ids) (pairs : StreamPairs) (metadata : List ℕ) → begun_metadata fs own pairs ≡ Ok metadata → metadata ≡ layout (begun_message fs own pairs).node
written_layout fs own pairs metadata h =
    passed (belong_to own fs) (representable (fields_with fs own)) (nat_le (size (begun_message fs own pairs).node) 2147483647) (schema_node little (fields_with fs own) (metadata_of pairs.schema)) (layout (begun_message fs own pairs).node) metadata (sym (as_tests fs own pairs) ∙ h)

pub text_given : (options : WriteOptions) (fs : Fields) (below : Ids) (pairs : StreamPairs) (metadata bytes : List ℕ) → features_checked options (floats_in fs) ≡ Ok tt → begun_metadata fs below pairs ≡ Ok metadata → up_to 8 (length metadata) ≤ min options.metadata_limit 2147483647
    → bytes ≡ message_bytes (begun_message fs below pairs).node [] → stream_text options fs below pairs ≡ Ok bytes
text_given options fs below pairs metadata bytes c w h e =
    let test : nat_le (up_to 8 (length metadata)) (min options.metadata_limit 2147483647) ≡ true = le-leb (up_to 8 (length metadata)) (min options.metadata_limit 2147483647) h in
    there options fs below pairs metadata c w
    ∙ then_by (unless (nat_le (up_to 8 (length metadata)) (min options.metadata_limit 2147483647)) errors.TooLarge) (λ small. Ok (message_bytes (begun_message fs below pairs).node [])) tt (ap (λ b. unless b errors.TooLarge) test)
    ∙ ap Ok (sym e)

done_first : {A : Type 0} (r : Reading (Unit {0})) (f : Unit {0} → Reading A) (x : A) → bind r f ≡ Ok x → r ≡ Ok tt
unfolding bind
done_first (Ok u) f x h = refl
done_first (Err es) f x h = cc

-- a stream that is begun is not to be compressed
pub text_plain : (options : WriteOptions) (fs : Fields) (below : Ids) (pairs : StreamPairs) (bytes : List ℕ) → stream_text options fs below pairs ≡ Ok bytes → is_absent options.compression ≡ true
text_plain options fs below pairs bytes h =
    features_plain options (floats_in fs) (done_first (features_checked options (floats_in fs)) (λ plain. bind (begun_metadata fs below pairs) (behind options fs below pairs)) bytes (sym (as_steps options fs below pairs) ∙ h))

-- its message has bytes
behind_some : (options : WriteOptions) (fs : Fields) (below : Ids) (pairs : StreamPairs) (b : Bool) (bytes : List ℕ) → bind (unless b errors.TooLarge) (λ small. Ok (message_bytes (begun_message fs below pairs).node [])) ≡ Ok bytes → 0 < length bytes
unfolding bind
behind_some options fs below pairs true bytes h =
    let same : message_bytes (begun_message fs below pairs).node [] ≡ bytes = cc in
    omega (arith, ap length same, length-message (begun_message fs below pairs).node [])
behind_some options fs below pairs false bytes h = cc

metadata_some : (options : WriteOptions) (fs : Fields) (below : Ids) (pairs : StreamPairs) (r : Reading (List ℕ)) (bytes : List ℕ) → bind r (behind options fs below pairs) ≡ Ok bytes → 0 < length bytes
unfolding bind
metadata_some options fs below pairs (Err es) bytes h = cc
metadata_some options fs below pairs (Ok metadata) bytes h = behind_some options fs below pairs (nat_le (up_to 8 (length metadata)) (min options.metadata_limit 2147483647)) bytes h

second_done : {A : Type 0} (r : Reading (Unit {0})) (q : Reading A) (x : A) → bind r (λ plain. q) ≡ Ok x → q ≡ Ok x
unfolding bind
second_done (Ok u) q x h = h
second_done (Err es) q x h = cc

pub start_some : (options : WriteOptions) (fs : Fields) (below : Ids) (pairs : StreamPairs) (bytes : List ℕ) → stream_text options fs below pairs ≡ Ok bytes → 0 < length bytes
start_some options fs below pairs bytes h =
    metadata_some options fs below pairs (begun_metadata fs below pairs) bytes
    (second_done (features_checked options (floats_in fs)) (bind (begun_metadata fs below pairs) (behind options fs below pairs)) bytes (sym (as_steps options fs below pairs) ∙ h))

-- the framed message is given, or memory was wanted
pub text_answered : (r : Result (Vec ℕ Global) IpcError) (options : WriteOptions) (fs : Fields) (below : Ids) (pairs : StreamPairs) (metadata ms : List ℕ) → ms ≡ metadata → features_checked options (floats_in fs) ≡ Ok tt → begun_metadata fs below pairs ≡ Ok metadata
    → up_to 8 (length metadata) ≤ min options.metadata_limit 2147483647 → IfOk r (λ v. (n : Node) → ms ≡ layout n → length {A = ℕ} [] % 64 ≡ 0 → v.items ≡ message_bytes n []) → IfErr r (λ e. (e ≡ errors.Memory) ⊎ ((e ≡ errors.TooLarge) × (2 ^ 31 ≤ up_to 8 (length ms))))
    → GivesText r (stream_text options fs below pairs)
text_answered (Ok v) options fs below pairs metadata ms e c w h k f =
    text_given options fs below pairs metadata v.items c w h (k (begun_message fs below pairs).node (e ∙ written_layout fs below pairs metadata w) refl)
text_answered (Err x) options fs below pairs metadata ms e c w h k f =
    let small : up_to 8 (length ms) < 2 ^ 31 = subst (λ xs. up_to 8 (length xs) < 2 ^ 31) (sym e) (omega (arith, h)) in
    inl (only_memory x (up_to 8 (length ms)) small f)

-- ── a schema that is refused ──

pub no_start : (e : IpcError) (options : WriteOptions) (s : List Keyed) (given : Option Ids) (pairs : StreamPairs) (items : List IpcField) → AreIdsFor (fields_in s) given (ids_of items)
    → IsRefusedAs e (stream_text options (fields_in s) (ids_of items) pairs) → (e ≡ errors.Memory) ⊎ IsNoStart e options s given pairs
no_start e options s given pairs items i (inl m) = inl m
no_start e options s given pairs items i (inr h) = inr (record {
  below = ids_of items;
  ids = i;
  refused = h;
})

-- ── what may be written ──

-- the schema that is read of bytes
read_said : (b : List ℕ) (x : Message × Schema) → AreBytes b → schema_message_of b ≡ Ok x → SchemaMayBeWritten x.1.fields x.1.metadata × IdsMayBeWritten x.1.fields
unfolding schema_message_of
read_said b x bytes h =
    through _ _ x h λ m m_is h1. through _ _ x h1 λ v v_is h2. through _ _ x h2 λ s s_is h3.
    subst (λ (y : Message × Schema). SchemaMayBeWritten y.1.fields y.1.metadata × IdsMayBeWritten y.1.fields) (same_read _ x h3) (read_may b m.header s bytes s_is)

said : (order : Order) (fs : Fields) (pairs : Metadata) (b : List ℕ) → ReadsBackAs order fs pairs b → AreBytes b → regular fs pairs ≡ true → SchemaIsSaid fs pairs
said order fs pairs b back bytes reg =
    let read = back reg [] in
    let both = read_said b (read.0, record { order = order; fields = own_fields fs; metadata = pairs }) bytes (ap schema_message_of (sym (append-nil b)) ∙ read.1) in
    record { schema = both.0; ids = both.1 }

pub start_may : (order : Order) (fs : Fields) (own custom : Metadata) (pairs : StreamPairs) (b ms : List ℕ) → own ≡ metadata_of pairs.schema → custom ≡ metadata_of pairs.message → length (metadata_of pairs.message) ≤ 1048576 → ReadsBackAs order fs own b → ms ≡ b → AreBytes ms → PairsAscend custom
    → StartMayBeWritten fs pairs
start_may order fs own custom pairs b ms e f few back is bytes up = record {
  said = λ reg. subst (SchemaIsSaid fs) e (said order fs own b back (subst AreBytes is bytes) (ap (regular fs) e ∙ reg));
  message = record { ascend = subst (Ascend []) f up.ascend; few = few };
}

-- where a call answers
pub may_if_ok : (r : Result (Vec ℕ Global) IpcError) (fs : Fields) (pairs : StreamPairs) → StartMayBeWritten fs pairs → IfOk r (λ _. StartMayBeWritten fs pairs)
may_if_ok (Ok v) fs pairs h = h
may_if_ok (Err e) fs pairs h = tt

-- ── what was checked of a message ──

-- the message of a schema without floats, whose metadata is not too large
pub record TextIs (options : WriteOptions) (fs : Fields) (below : Ids) (pairs : StreamPairs) (bytes : List ℕ) : Type 0 where
  pub floats : floats_in fs ≡ []
  pub small : up_to 8 (size (begun_message fs below pairs).node) ≤ 2147483647
  pub bytes_are : bytes ≡ message_bytes (begun_message fs below pairs).node []

none_free : (es : List IpcError) (u : Unit {0}) → free_of es ≡ Ok u → es ≡ []
none_free [] u h = refl
none_free (e ∷ es) u h = cc

no_floats : (options : WriteOptions) (floats : List IpcError) → features_checked options floats ≡ Ok tt → floats ≡ []
no_floats options floats h = through (unless (is_absent options.compression) (errors.Unsupported Compression)) _ tt h λ u plain k. none_free floats tt k

-- no more than the limit
short : (limit : ℕ) (n : Node) (metadata : List ℕ) → metadata ≡ layout n → nat_le (up_to 8 (length metadata)) (min limit 2147483647) ≡ true → up_to 8 (size n) ≤ 2147483647
short limit n metadata e h =
    let most : up_to 8 (length metadata) ≤ min limit 2147483647 = leb-true (up_to 8 (length metadata)) (min limit 2147483647) h in
    subst (λ k. up_to 8 k ≤ 2147483647) (ap length e ∙ length-layout n) (omega (arith, most))

pub text_is : (options : WriteOptions) (fs : Fields) (below : Ids) (pairs : StreamPairs) (bytes : List ℕ) → stream_text options fs below pairs ≡ Ok bytes → TextIs options fs below pairs bytes
text_is options fs below pairs bytes h =
    through (features_checked options (floats_in fs)) _ bytes (sym (as_steps options fs below pairs) ∙ h) λ u plain h1.
    through (begun_metadata fs below pairs) (behind options fs below pairs) bytes h1 λ metadata metadata_is h2.
    through (unless (nat_le (up_to 8 (length metadata)) (min options.metadata_limit 2147483647)) errors.TooLarge) _ bytes h2 λ v small h3.
    record {
      floats = no_floats options (floats_in fs) plain;
      small = short options.metadata_limit (begun_message fs below pairs).node metadata (written_layout fs below pairs metadata metadata_is) (is_true _ _ v small);
      bytes_are = sym (same_read (message_bytes (begun_message fs below pairs).node []) bytes h3);
    }
