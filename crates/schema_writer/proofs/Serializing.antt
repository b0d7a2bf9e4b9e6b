-- What is answered for a schema.
use Rattle.std.proofs.Common.{◌≡◌, ℕ, ◌<◌, ◌≤◌, ◌^◌, List, [], ◌∷◌, Bool, true, false, ◌&&◌, Result, Ok, Err, refl, sym, ap, subst, ◌∙◌, arith, inl}
use Rattle.std.specs.Prelude.{nat_le, IfOk}
use Rattle.std.specs.declared.alloc.Global.{Global}
use Rattle.std.specs.declared.vec.Vec.{Vec}
use Rattle.arrow_spec.specs.declared.error.IpcError.{IpcError}
use Rattle.arrow_spec.specs.declared.error.IpcError.TheVariants as errors
use Rattle.arrow_spec.specs.declared.error.IpcError.TheVariants.{SchemaMismatch, NotRepresentable, TooLarge}
use Rattle.arrow_spec.specs.Flat.{Order}
use Rattle.arrow_spec.specs.Kinds.{Fields, Metadata, uses_in}
use Rattle.arrow_spec.specs.Layout.{Node, layout, size}
use Rattle.arrow_spec.specs.Readings.{Reading, bind, unless, Refuses, Gives, refusals}
use Rattle.arrow_spec.specs.Regular.{representable}
use Rattle.arrow_spec.specs.Schema.{uses_agree}
use Rattle.arrow_spec.specs.Sent.{schema_node, schema_message}
use Rattle.arrow_flat.specs.Nodes.{node_of, IsTable, KeepsSlotLimit}
use Rattle.arrow_flat.specs.declared.node.Node.{Node as Built}
use Rattle.ipc_fields.specs.IpcFields.{Ids, fields_with, have_shapes}
use Rattle.schema_writer.specs.Serialized.{serialized, written, belong_to, has_meaning, message_node}
use Rattle.schema_writer.proofs.Limits.{schema_keeps}

abbrev tested : Bool → Bool → Node → Reading Node
tested b c n = bind (unless b SchemaMismatch) (λ own. bind (unless c NotRepresentable) (λ sayable. Ok n))

is_tested : (order : Order) (fs : Fields) (own : Ids) (pairs : Metadata) → serialized order fs own pairs ≡ tested (belong_to own fs) (representable (fields_with fs own)) (schema_node order (fields_with fs own) pairs)
unfolding serialized
is_tested order fs own pairs = refl

wrong : (c : Bool) (n : Node) → tested false c n ≡ Err (SchemaMismatch ∷ [])
unfolding bind
wrong c n = refl

unsaid : (n : Node) → tested true false n ≡ Err (NotRepresentable ∷ [])
unfolding bind
unsaid n = refl

said : (n : Node) → tested true true n ≡ Ok n
unfolding bind
said n = refl

mismatch_given : (r : Reading Node) → r ≡ Err (SchemaMismatch ∷ []) → Gives node_of (Err SchemaMismatch) r
mismatch_given r h = subst (λ s. Gives node_of (Err SchemaMismatch) s) (sym h) (inl refl)

pub not_own : (order : Order) (fs : Fields) (own : Ids) (pairs : Metadata) → belong_to own fs ≡ false → Gives node_of (Err SchemaMismatch) (serialized order fs own pairs)
not_own order fs own pairs h =
    let n = schema_node order (fields_with fs own) pairs in
    mismatch_given _ (is_tested order fs own pairs ∙ ap (λ b. tested b (representable (fields_with fs own)) n) h ∙ wrong (representable (fields_with fs own)) n)

pub not_shaped : (fs : Fields) (own : Ids) → have_shapes fs own ≡ false → belong_to own fs ≡ false
not_shaped fs own h = ap (λ b. b && has_meaning (uses_agree [] (uses_in (fields_with fs own)))) h

pub shaped : (fs : Fields) (own : Ids) (b : Bool) → have_shapes fs own ≡ true → b ≡ has_meaning (uses_agree [] (uses_in (fields_with fs own))) → belong_to own fs ≡ b
shaped fs own b h g = ap (λ c. c && has_meaning (uses_agree [] (uses_in (fields_with fs own)))) h ∙ sym g

pub not_said : (order : Order) (fs : Fields) (own : Ids) (pairs : Metadata) → belong_to own fs ≡ true → representable (fields_with fs own) ≡ false → Gives node_of (Err NotRepresentable) (serialized order fs own pairs)
not_said order fs own pairs h g =
    let n = schema_node order (fields_with fs own) pairs in
    subst (λ s. Gives node_of (Err NotRepresentable) s) (sym (is_tested order fs own pairs ∙ ap (λ b. tested b (representable (fields_with fs own)) n) h ∙ ap (λ c. tested true c n) g ∙ unsaid n)) (inl refl)

pub made : (order : Order) (fs : Fields) (own : Ids) (pairs : Metadata) (n : Node) → belong_to own fs ≡ true → representable (fields_with fs own) ≡ true → n ≡ schema_node order (fields_with fs own) pairs → serialized order fs own pairs ≡ Ok n
made order fs own pairs n h g e =
    let m = schema_node order (fields_with fs own) pairs in
    is_tested order fs own pairs ∙ ap (λ b. tested b (representable (fields_with fs own)) m) h ∙ ap (λ c. tested true c m) g ∙ said m ∙ ap Ok (sym e)

-- ── what is made ──

only_node : (b c : Bool) (m n : Node) → tested b c m ≡ Ok n → n ≡ m
unfolding bind
only_node false c m n h = cc
only_node true false m n h = cc
only_node true true m n h = let e : m ≡ n = cc in sym e

pub made_is : (order : Order) (fs : Fields) (own : Ids) (pairs : Metadata) (n : Node) → serialized order fs own pairs ≡ Ok n → n ≡ schema_node order (fields_with fs own) pairs
made_is order fs own pairs n h = only_node (belong_to own fs) (representable (fields_with fs own)) (schema_node order (fields_with fs own) pairs) n (sym (is_tested order fs own pairs) ∙ h)

pub made_keeps : (order : Order) (fs : Fields) (own : Ids) (pairs : Metadata) (n : Node) → n ≡ schema_node order (fields_with fs own) pairs → KeepsSlotLimit n
made_keeps order fs own pairs n h = subst KeepsSlotLimit (sym h) (schema_keeps order (fields_with fs own) pairs)

pub given_table : (order : Order) (fs : Fields) (own : Ids) (pairs : Metadata) (r : Result Built IpcError) → Gives node_of r (serialized order fs own pairs) → IfOk r (λ n. IsTable (node_of n))
given_table order fs own pairs (Ok n) h = subst IsTable (sym (made_is order fs own pairs (node_of n) h)) tt
given_table order fs own pairs (Err e) h = tt

pub given_keeps : (order : Order) (fs : Fields) (own : Ids) (pairs : Metadata) (r : Result Built IpcError) → Gives node_of r (serialized order fs own pairs) → IfOk r (λ n. KeepsSlotLimit (node_of n))
given_keeps order fs own pairs (Ok n) h = made_keeps order fs own pairs (node_of n) (made_is order fs own pairs (node_of n) h)
given_keeps order fs own pairs (Err e) h = tt

-- ── bytes ──

abbrev sized : Node → Reading (List ℕ)
sized n = bind (unless (nat_le (size n) 2147483647) TooLarge) (λ small. Ok (layout n))

is_written : (order : Order) (fs : Fields) (own : Ids) (pairs custom : Metadata) → written order fs own pairs custom ≡ bind (serialized order fs own pairs) (λ header. sized (message_node (schema_node order (fields_with fs own) pairs) custom))
unfolding written schema_message
is_written order fs own pairs custom = refl

from_header : (order : Order) (fs : Fields) (own : Ids) (pairs custom : Metadata) (n : Node) → serialized order fs own pairs ≡ Ok n → written order fs own pairs custom ≡ sized (message_node n custom)
unfolding bind
from_header order fs own pairs custom n h = is_written order fs own pairs custom ∙ ap (λ r. bind r (λ header. sized (message_node (schema_node order (fields_with fs own) pairs) custom))) h ∙ ap (λ m. sized (message_node m custom)) (sym (made_is order fs own pairs n h))

le_true : (a b : ℕ) → a ≤ b → nat_le a b ≡ true
le_true a b h = grind arith

le_false : (a b : ℕ) → b < a → nat_le a b ≡ false
le_false a b h = grind arith

small_is : (n : Node) → size n < 2 ^ 31 → sized n ≡ Ok (layout n)
unfolding bind
small_is n h = let e : nat_le (size n) 2147483647 ≡ true = le_true _ _ (omega (arith, h)) in ap (λ b. bind (unless b TooLarge) (λ small. Ok (layout n))) e

large_is : (n : Node) → 2 ^ 31 ≤ size n → sized n ≡ Err (TooLarge ∷ [])
unfolding bind
large_is n h = let e : nat_le (size n) 2147483647 ≡ false = le_false _ _ (omega (arith, h)) in ap (λ b. bind (unless b TooLarge) (λ small. Ok (layout n))) e

pub bytes_made : (order : Order) (fs : Fields) (own : Ids) (pairs custom : Metadata) (n : Node) (b : List ℕ) → serialized order fs own pairs ≡ Ok n → size (message_node n custom) < 2 ^ 31 → b ≡ layout (message_node n custom) → written order fs own pairs custom ≡ Ok b
bytes_made order fs own pairs custom n b h s e = from_header order fs own pairs custom n h ∙ small_is (message_node n custom) s ∙ ap Ok (sym e)

pub bytes_large : (order : Order) (fs : Fields) (own : Ids) (pairs custom : Metadata) (n : Node) → serialized order fs own pairs ≡ Ok n → 2 ^ 31 ≤ size (message_node n custom) → Gives {X = Vec ℕ Global} (λ v. v.items) (Err TooLarge) (written order fs own pairs custom)
bytes_large order fs own pairs custom n h s = subst (λ r. Gives {X = Vec ℕ Global} (λ v. v.items) (Err TooLarge) r) (sym (from_header order fs own pairs custom n h ∙ large_is (message_node n custom) s)) (inl refl)

handed : {A B : Type 0} (e : IpcError) (r : Reading A) (f : A → Reading B) → Refuses e (refusals r) → Refuses e (refusals (bind r f))
unfolding bind
handed e (Err es) f h = h
handed errors.Memory (Ok x) f h = tt
handed errors.ReadFault (Ok x) f h = tt
handed errors.WriteFault (Ok x) f h = tt
handed e (Ok x) f h = absurd h

pub refused_first : (order : Order) (fs : Fields) (own : Ids) (pairs custom : Metadata) (e : IpcError) → Refuses e (refusals (serialized order fs own pairs)) → Refuses e (refusals (written order fs own pairs custom))
refused_first order fs own pairs custom e h = subst (λ r. Refuses e (refusals r)) (sym (is_written order fs own pairs custom)) (handed e (serialized order fs own pairs) _ h)

-- a refusal that is handed on
pub handed_on : {A B : Type 0} (view : A → B) (r : Result A IpcError) (R : Reading B) (e : IpcError) → r ≡ Err e → Refuses e (refusals R) → Gives view r R
handed_on view r R e h told = rw h told
