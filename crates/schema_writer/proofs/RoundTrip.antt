-- What is written is read back.
use Rattle.std.proofs.Common.{◌≡◌, ℕ, ◌<◌, ◌^◌, List, [], ◌++◌, Bool, true, false, Ok, Err, refl, sym, ap, ◌∙◌, arith, leb-true}
use Rattle.std.specs.Prelude.{nat_le, IfOk, Result}
use Rattle.std.specs.declared.alloc.Global.{Global}
use Rattle.std.specs.declared.vec.Vec.{Vec}
use Rattle.std.proofs.lemmas.Bool.{and_parts}
use Rattle.arrow_spec.specs.declared.error.IpcError.{IpcError}
use Rattle.arrow_spec.specs.declared.error.IpcError.TheVariants.{SchemaMismatch, NotRepresentable, TooLarge}
use Rattle.arrow_spec.specs.Flat.{Order}
use Rattle.arrow_spec.specs.Kinds.{Fields, Metadata, uses_in}
use Rattle.arrow_spec.specs.Layout.{Node, layout, size}
use Rattle.arrow_spec.specs.Readings.{Reading, bind, unless, Gives}
use Rattle.arrow_spec.specs.Regular.{representable}
use Rattle.arrow_spec.specs.Schema.{uses_agree}
use Rattle.arrow_spec.specs.Sent.{schema_node, schema_message}
use Rattle.arrow_spec.specs.Streams.{schema_message_of}
use Rattle.arrow_spec.proofs.RegularSchemas.{regular_back}
use Rattle.ipc_fields.specs.IpcFields.{Ids, fields_with, have_shapes}
use Rattle.schema_writer.specs.Serialized.{serialized, written, belong_to, has_meaning}
use Rattle.schema_writer.specs.Laws.{WrittenSchemaReadsBack}
use Rattle.schema_writer.specs.Texts.{ReadsBackAs, SchemaSaysTexts}
use Rattle.schema_writer.proofs.Texts.{texts_with}

abbrev all_tests : Bool → Bool → Bool → Node → List ℕ → Reading (List ℕ)
all_tests b c d n l = bind (bind (unless b SchemaMismatch) (λ own. bind (unless c NotRepresentable) (λ sayable. Ok n))) (λ header. bind (unless d TooLarge) (λ small. Ok l))

as_tests : (order : Order) (fs : Fields) (own : Ids) (pairs custom : Metadata) → written order fs own pairs custom
    ≡ all_tests (belong_to own fs) (representable (fields_with fs own)) (nat_le (size (schema_message order (fields_with fs own) pairs custom).node) 2147483647) (schema_node order (fields_with fs own) pairs) (layout (schema_message order (fields_with fs own) pairs custom).node)
unfolding written serialized
as_tests order fs own pairs custom = refl

-- what was tested where bytes are given
record Passed (b c d : Bool) (l m : List ℕ) : Type 0 where
  own : b ≡ true
  sayable : c ≡ true
  small : d ≡ true
  bytes : l ≡ m

passed : (b c d : Bool) (n : Node) (l m : List ℕ) → all_tests b c d n l ≡ Ok m → Passed b c d l m
unfolding bind
passed false c d n l m h = cc
passed true false d n l m h = cc
passed true true false n l m h = cc
passed true true true n l m h = let e : l ≡ m = cc in record { own = refl; sayable = refl; small = refl; bytes = e }

agreed : (r : Reading (Unit {0})) → has_meaning r ≡ true → r ≡ Ok tt
agreed (Ok x) h = refl
agreed (Err es) h = cc

pub reads_back : WrittenSchemaReadsBack
reads_back order fs own pairs custom b rest h reg texts ascend =
    let all = fields_with fs own in
    let p = passed (belong_to own fs) (representable all) (nat_le (size (schema_message order all pairs custom).node) 2147483647) (schema_node order all pairs) (layout (schema_message order all pairs custom).node) b (sym (as_tests order fs own pairs custom) ∙ h) in
    let agree : uses_agree [] (uses_in all) ≡ Ok tt = agreed _ (and_parts (have_shapes fs own) (has_meaning (uses_agree [] (uses_in all))) p.own).1 in
    let short : size (schema_message order all pairs custom).node < 2 ^ 31 = omega (arith, leb-true (size (schema_message order all pairs custom).node) 2147483647 p.small) in
    let back = regular_back order all pairs custom rest reg p.sayable texts ascend agree short in
    (back.0, ap (λ x. schema_message_of (x ++ rest)) (sym p.bytes) ∙ back.1)

-- what a call wrote is read back
pub given_back : (order : Order) (fs : Fields) (own : Ids) (pairs custom : Metadata) (r : Result (Vec ℕ Global) IpcError) → Gives (λ v. v.items) r (written order fs own pairs custom) → IfOk r (λ _. SchemaSaysTexts fs pairs) → IfOk r (λ v. ReadsBackAs order (fields_with fs own) pairs v.items)
given_back order fs own pairs custom (Ok v) h texts = λ reg rest. reads_back order fs own pairs custom v.items rest h reg (texts_with fs own texts.texts) texts.ascend
given_back order fs own pairs custom (Err e) h texts = tt
