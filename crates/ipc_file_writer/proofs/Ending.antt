-- What stands before a file's first message and behind its last.
use Rattle.std.proofs.Common.{◌≡◌, ◌⊎◌, inl, inr, ℕ, ◌+◌, ◌<◌, ◌≤◌, List, [], ◌++◌, Bool, true, false, length, min, Ok, Err, refl, sym, ap, ◌∙◌, subst, arith, length-append}
use Rattle.std.specs.Prelude.{nat_le}
use Rattle.std.proofs.lemmas.Bool.{le-leb, leb-true, lt-leb}
use Rattle.arrow_spec.specs.declared.error.IpcError.{IpcError}
use Rattle.arrow_spec.specs.declared.error.IpcError.TheVariants as errors
use Rattle.arrow_spec.specs.Flat.{little}
use Rattle.arrow_spec.specs.Footers.{footer_node}
use Rattle.arrow_spec.specs.Kinds.{Fields, Metadata}
use Rattle.arrow_spec.specs.Files.{arrow_1}
use Rattle.arrow_spec.specs.Layout.{Node, layout, size, u32}
use Rattle.arrow_spec.specs.Readings.{IsAmong, Reading, Refuses, bind, refusals, unless}
use Rattle.arrow_spec.specs.Regular.{representable}
use Rattle.arrow_spec.specs.Sent.{schema_node}
use Rattle.arrow_spec.proofs.NextMessages.{length-layout}
use Rattle.arrow_spec.proofs.ReadPairs.{is_true, same_read, through}
use Rattle.arrow_types.specs.Schemas.{Keyed, fields_in}
use Rattle.ipc_fields.specs.IpcFields.{Ids, fields_with, ids_of, metadata_of}
use Rattle.ipc_fields.specs.declared.ipc_field.IpcField.{IpcField}
use Rattle.schema_writer.specs.Serialized.{IsOfTable, belong_to, serialized}
use Rattle.ipc_messages.specs.Below.{BuildsMetadata, WriteOptions}
use Rattle.ipc_messages.specs.Schemas.{IsRefusedAs, stream_text}
use Rattle.ipc_messages.proofs.Beginning.{refused_first, then_by}
use Rattle.ipc_file_writer.specs.Blocks.{file_blocks}
use Rattle.laws_files.specs.Files.{file_end, file_front}
use Rattle.ipc_file_writer.specs.Ends.{file_ending, file_footer, file_start, no_pairs}
use Rattle.ipc_file_writer.specs.Footers.{footer_table}
use Rattle.ipc_file_writer.specs.declared.blocks.FileBlocks.{FileBlocks}
use Rattle.ipc_file_writer.specs.declared.pairs.FilePairs.{FilePairs}

-- ── begin ──

start_steps : (options : WriteOptions) (fs : Fields) (below : Ids) → file_start options fs below ≡ bind (stream_text options fs below no_pairs) (λ message. Ok (file_front ++ message))
unfolding file_start
start_steps options fs below = refl

pub start_refused : (e : IpcError) (options : WriteOptions) (fs : Fields) (below : Ids) → IsRefusedAs e (stream_text options fs below no_pairs) → IsRefusedAs e (file_start options fs below)
start_refused e options fs below (inl m) = inl m
start_refused e options fs below (inr h) =
    inr (subst (λ r. IsAmong (refusals r) e) (sym (start_steps options fs below)) (refused_first (stream_text options fs below no_pairs) (λ message. Ok (file_front ++ message)) e h))

pub start_given : (options : WriteOptions) (fs : Fields) (below : Ids) (message bytes : List ℕ) → stream_text options fs below no_pairs ≡ Ok message → bytes ≡ file_front ++ message → file_start options fs below ≡ Ok bytes
start_given options fs below message bytes h e = start_steps options fs below ∙ then_by (stream_text options fs below no_pairs) (λ m. Ok (file_front ++ m)) message h ∙ ap Ok (sym e)

-- the front stands before the message
pub front_then : (start front all message text : List ℕ) → start ≡ [] → front ≡ start ++ file_front → all ≡ front ++ message → message ≡ text → all ≡ file_front ++ text
front_then start front all message text e f g h = g ∙ ap (λ x. x ++ message) (f ∙ ap (λ x. x ++ file_front) e) ∙ ap (λ x. file_front ++ x) h

-- ── end ──

abbrev tested : Reading Node → Bool → Bool → List ℕ → Reading (List ℕ)
tested r a b text = bind r (λ schema. bind (unless a errors.TooLarge) (λ small. bind (unless b errors.TooLarge) (λ placed. Ok text)))

too_large : (r : Reading Node) (a b : Bool) (text : List ℕ) (n : Node) → r ≡ Ok n → a ≡ false → IsAmong (refusals (tested r a b text)) errors.TooLarge
unfolding bind
too_large r a b text n h k = rw (h, k) (inl refl)

too_far : (r : Reading Node) (a b : Bool) (text : List ℕ) (n : Node) → r ≡ Ok n → a ≡ true → b ≡ false → IsAmong (refusals (tested r a b text)) errors.TooLarge
unfolding bind
too_far r a b text n h k l = rw (h, k, l) (inl refl)

passed : (r : Reading Node) (a b : Bool) (text : List ℕ) (n : Node) → r ≡ Ok n → a ≡ true → b ≡ true → tested r a b text ≡ Ok text
unfolding bind
passed r a b text n h k l = rw (h, k, l) refl

abbrev is_small : WriteOptions → Fields → Ids → FilePairs → FileBlocks → Bool
is_small options fs below pairs blocks = nat_le (size (file_footer fs below pairs blocks)) (min options.metadata_limit 2147483647)

abbrev is_near : Fields → Ids → FilePairs → FileBlocks → Bool
is_near fs below pairs blocks = nat_le (blocks.end + length (file_end (layout (file_footer fs below pairs blocks)))) 9223372036854775807

ending_steps : (options : WriteOptions) (fs : Fields) (below : Ids) (pairs : FilePairs) (blocks : FileBlocks) → file_ending options fs below pairs blocks
    ≡ tested (serialized little fs below (metadata_of pairs.schema)) (is_small options fs below pairs blocks) (is_near fs below pairs blocks) (file_end (layout (file_footer fs below pairs blocks)))
unfolding file_ending
ending_steps options fs below pairs blocks = refl

among : (e : IpcError) (es : List IpcError) → IsOfTable e → Refuses e es → (e ≡ errors.Memory) ⊎ IsAmong es e
among errors.SchemaMismatch es h k = inr k
among errors.NotRepresentable es h k = inr k
among errors.Memory es h k = inl refl
among e es h k = absurd h

-- the schema is refused
pub ending_refused : (e : IpcError) (options : WriteOptions) (fs : Fields) (below : Ids) (pairs : FilePairs) (blocks : FileBlocks) → IsOfTable e → Refuses e (refusals (serialized little fs below (metadata_of pairs.schema)))
    → IsRefusedAs e (file_ending options fs below pairs blocks)
ending_refused e options fs below pairs blocks t k = by (among e (refusals (serialized little fs below (metadata_of pairs.schema))) t k)
  where
    by : (e ≡ errors.Memory) ⊎ IsAmong (refusals (serialized little fs below (metadata_of pairs.schema))) e → IsRefusedAs e (file_ending options fs below pairs blocks)
    by (inl m) = inl m
    by (inr i) = inr (subst (λ r. IsAmong (refusals r) e) (sym (ending_steps options fs below pairs blocks)) (refused_first (serialized little fs below (metadata_of pairs.schema)) _ e i))

-- the table that is serialized is the schema's
abbrev two_tests : Bool → Bool → Node → Reading Node
two_tests b c n = bind (unless b errors.SchemaMismatch) (λ own. bind (unless c errors.NotRepresentable) (λ sayable. Ok n))

as_tests : (fs : Fields) (below : Ids) (own : Metadata) → serialized little fs below own ≡ two_tests (belong_to below fs) (representable (fields_with fs below)) (schema_node little (fields_with fs below) own)
unfolding serialized
as_tests fs below own = refl

only_node : (b c : Bool) (n m : Node) → two_tests b c n ≡ Ok m → m ≡ n
unfolding bind
only_node false c n m h = cc
only_node true false n m h = cc
only_node true true n m h = cc

pub footer_is : (fs : Fields) (below : Ids) (pairs : FilePairs) (blocks : FileBlocks) (custom : Metadata) (n : Node) → custom ≡ metadata_of pairs.footer → serialized little fs below (metadata_of pairs.schema) ≡ Ok n
    → footer_table n custom (file_blocks blocks.dictionaries) (file_blocks blocks.records) ≡ file_footer fs below pairs blocks
footer_is fs below pairs blocks custom n k s =
    let own = metadata_of pairs.schema in
    let same : n ≡ schema_node little (fields_with fs below) own = only_node (belong_to below fs) (representable (fields_with fs below)) (schema_node little (fields_with fs below) own) n (sym (as_tests fs below own) ∙ s) in
    ap (λ x. footer_table x custom (file_blocks blocks.dictionaries) (file_blocks blocks.records)) same
    ∙ ap (λ x. footer_node (fields_with fs below) own x (file_blocks blocks.dictionaries) (file_blocks blocks.records)) k

-- the schema and the IPC fields that are lent
pub lent_as : (P : Reading Node → Type 0) (s t : List Keyed) (xs ys : List IpcField) (own pairs : Metadata) → s ≡ t → xs ≡ ys → own ≡ pairs
    → P (serialized little (fields_in s) (ids_of xs) own) → P (serialized little (fields_in t) (ids_of ys) pairs)
lent_as P s t xs ys own pairs e f g h =
    subst (λ x. P (serialized little (fields_in t) (ids_of ys) x)) g (subst (λ x. P (serialized little (fields_in t) (ids_of x) own)) f (subst (λ x. P (serialized little (fields_in x) (ids_of xs) own)) e h))

-- the footer is too large
large : (e : IpcError) (options : WriteOptions) (fs : Fields) (below : Ids) (pairs : FilePairs) (blocks : FileBlocks) (n : Node) → e ≡ errors.TooLarge → serialized little fs below (metadata_of pairs.schema) ≡ Ok n
    → min options.metadata_limit 2147483647 < size (file_footer fs below pairs blocks) → IsRefusedAs e (file_ending options fs below pairs blocks)
large e options fs below pairs blocks n k s h =
    let test : is_small options fs below pairs blocks ≡ false = lt-leb (size (file_footer fs below pairs blocks)) (min options.metadata_limit 2147483647) h in
    let here = too_large (serialized little fs below (metadata_of pairs.schema)) (is_small options fs below pairs blocks) (is_near fs below pairs blocks) (file_end (layout (file_footer fs below pairs blocks))) n s test in
    inr (subst (λ f. IsAmong (refusals (file_ending options fs below pairs blocks)) f) (sym k) (subst (λ r. IsAmong (refusals r) errors.TooLarge) (sym (ending_steps options fs below pairs blocks)) here))

-- it is not built
pub footer_refused : (e : IpcError) (options : WriteOptions) (fs : Fields) (below : Ids) (pairs : FilePairs) (blocks : FileBlocks) (n : Node) → serialized little fs below (metadata_of pairs.schema) ≡ Ok n
    → BuildsMetadata (Err e) (file_footer fs below pairs blocks) → IsRefusedAs e (file_ending options fs below pairs blocks)
footer_refused errors.TooLarge options fs below pairs blocks n s h = large errors.TooLarge options fs below pairs blocks n refl s (omega (arith, h))
footer_refused errors.Memory options fs below pairs blocks n s h = inl refl
footer_refused e options fs below pairs blocks n s h = absurd h

-- it is built, and passes its limit
pub footer_large : (e : IpcError) (options : WriteOptions) (fs : Fields) (below : Ids) (pairs : FilePairs) (blocks : FileBlocks) (n : Node) (v : List ℕ) → e ≡ errors.TooLarge
    → serialized little fs below (metadata_of pairs.schema) ≡ Ok n → v ≡ layout (file_footer fs below pairs blocks) → min options.metadata_limit 2147483647 < length v → IsRefusedAs e (file_ending options fs below pairs blocks)
footer_large e options fs below pairs blocks n v k s b h =
    let long : length v ≡ size (file_footer fs below pairs blocks) = ap length b ∙ length-layout (file_footer fs below pairs blocks) in
    large e options fs below pairs blocks n k s (subst (λ m. min options.metadata_limit 2147483647 < m) long h)

-- how long the end is
length-end : (footer : List ℕ) → length (file_end footer) ≡ length footer + 18
length-end footer = omega (arith, length-append (footer ++ u32 (length footer)) arrow_1, length-append footer (u32 (length footer)))

small_test : (options : WriteOptions) (fs : Fields) (below : Ids) (pairs : FilePairs) (blocks : FileBlocks) (v : List ℕ) → v ≡ layout (file_footer fs below pairs blocks) → length v ≤ min options.metadata_limit 2147483647
    → is_small options fs below pairs blocks ≡ true
small_test options fs below pairs blocks v b h =
    let long : length v ≡ size (file_footer fs below pairs blocks) = ap length b ∙ length-layout (file_footer fs below pairs blocks) in
    le-leb (size (file_footer fs below pairs blocks)) (min options.metadata_limit 2147483647) (subst (λ m. m ≤ min options.metadata_limit 2147483647) long h)

-- it ends too far from the file's begin
pub footer_far : (e : IpcError) (options : WriteOptions) (fs : Fields) (below : Ids) (pairs : FilePairs) (blocks : FileBlocks) (n : Node) (v : List ℕ) → e ≡ errors.TooLarge
    → serialized little fs below (metadata_of pairs.schema) ≡ Ok n → v ≡ layout (file_footer fs below pairs blocks) → length v ≤ min options.metadata_limit 2147483647
    → 9223372036854775807 < blocks.end + length v + 18 → IsRefusedAs e (file_ending options fs below pairs blocks)
footer_far e options fs below pairs blocks n v k s b h f =
    let end = file_end (layout (file_footer fs below pairs blocks)) in
    let test : is_near fs below pairs blocks ≡ false = lt-leb (blocks.end + length end) 9223372036854775807 (omega (arith, length-end (layout (file_footer fs below pairs blocks)), ap length b, f)) in
    let here = too_far (serialized little fs below (metadata_of pairs.schema)) (is_small options fs below pairs blocks) (is_near fs below pairs blocks) end n s (small_test options fs below pairs blocks v b h) test in
    inr (subst (λ g. IsAmong (refusals (file_ending options fs below pairs blocks)) g) (sym k) (subst (λ r. IsAmong (refusals r) errors.TooLarge) (sym (ending_steps options fs below pairs blocks)) here))

-- it is the file's end
pub footer_given : (options : WriteOptions) (fs : Fields) (below : Ids) (pairs : FilePairs) (blocks : FileBlocks) (n : Node) (v text : List ℕ) → serialized little fs below (metadata_of pairs.schema) ≡ Ok n
    → v ≡ layout (file_footer fs below pairs blocks) → length v ≤ min options.metadata_limit 2147483647 → blocks.end + length v + 18 ≤ 9223372036854775807 → text ≡ file_end v → file_ending options fs below pairs blocks ≡ Ok text
footer_given options fs below pairs blocks n v text s b h f t =
    let end = file_end (layout (file_footer fs below pairs blocks)) in
    let test : is_near fs below pairs blocks ≡ true = le-leb (blocks.end + length end) 9223372036854775807 (omega (arith, length-end (layout (file_footer fs below pairs blocks)), ap length b, f)) in
    ending_steps options fs below pairs blocks
    ∙ passed (serialized little fs below (metadata_of pairs.schema)) (is_small options fs below pairs blocks) (is_near fs below pairs blocks) end n s (small_test options fs below pairs blocks v b h) test
    ∙ ap Ok (sym (t ∙ ap file_end b))

-- it ends below 2^63
pub end_near : (options : WriteOptions) (fs : Fields) (below : Ids) (pairs : FilePairs) (blocks : FileBlocks) (text : List ℕ) → file_ending options fs below pairs blocks ≡ Ok text → blocks.end + length text ≤ 9223372036854775807
unfolding file_ending
end_near options fs below pairs blocks text h =
    through _ _ text h λ schema schema_is h1. through _ _ text h1 λ small small_is h2. through _ _ text h2 λ placed placed_is h3.
    let end = file_end (layout (file_footer fs below pairs blocks)) in
    subst (λ x. blocks.end + length x ≤ 9223372036854775807) (same_read _ text h3) (leb-true (blocks.end + length end) 9223372036854775807 (is_true _ errors.TooLarge placed placed_is))
