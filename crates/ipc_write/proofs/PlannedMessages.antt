-- The message of planned arrays is within its limits, or not.
use Rattle.std.proofs.Common.{◌≡◌, ℕ, ◌^◌, ◌<◌, ◌≤◌, List, Bool, true, false, refl, sym, ap, ◌∙◌, arith, subst, Result, Ok, Err, IfOk, IsErrAnd, min}
use Rattle.std.specs.Prelude.{nat_le, ◌&&◌}
use Rattle.std.proofs.lemmas.Bool.{le-leb, lt-leb}
use Rattle.arrow_spec.specs.declared.error.IpcError.{IpcError}
use Rattle.arrow_spec.specs.declared.error.IpcError.TheVariants as errors
use Rattle.arrow_spec.specs.declared.message.FieldNode.{FieldNode}
use Rattle.arrow_spec.specs.declared.message.IpcBuffer.{IpcBuffer}
use Rattle.arrow_spec.specs.Layout.{Node, up_to, size}
use Rattle.arrow_spec.specs.Sent.{SentMessage, may_be_sent}
use Rattle.ipc_write_arrays.specs.Outputs.{Outputs}
use Rattle.ipc_write.specs.Bodies.{IsPlanOf, Places}
use Rattle.ipc_write.specs.Metadata.{metadata_node, BuildsMetadata}
use Rattle.ipc_write.specs.Planned.{MakesMessage, is_short, planned_message}
use Rattle.ipc_write.specs.declared.body.PlannedBody.{PlannedBody}
use Rattle.ipc_write.specs.declared.encoded.BodyPlan.{BodyPlan}
use Rattle.ipc_write.specs.declared.metadata.Content.{Content}

-- the metadata that is built is the message's
pub node_same : (content : Content) (rows : ℕ) (o : Outputs) (p : PlannedBody) (nodes : List FieldNode) (places : List IpcBuffer) → IsPlanOf o p → nodes ≡ p.nodes.items → places ≡ p.places.items
    → metadata_node content rows nodes places p.views.items p.length ≡ (planned_message content rows o).node
node_same content rows o p nodes places q hn hp = rw (hn ∙ q.nodes, hp ∙ q.places, q.views, q.length) refl

-- ── the limits ──

not_second : (a c : Bool) → (a && false && c) ≡ false
not_second true c = refl
not_second false c = refl

not_third : (a b : Bool) → (a && b && false) ≡ false
not_third true true = refl
not_third true false = refl
not_third false b = refl

pub is_in : (limit rows size_of : ℕ) (m : SentMessage) → size_of ≡ size m.node → up_to 8 size_of ≤ min limit 2147483647 → m.body < 2 ^ 63 → rows < 2 ^ 63 → is_short limit rows m ≡ true
is_in limit rows size_of m e h k l =
    let x = up_to 8 (size m.node) in
    let first : nat_le x (min limit 2147483647) ≡ true = le-leb x (min limit 2147483647) (subst (λ n. up_to 8 n ≤ min limit 2147483647) e h) in
    let second : nat_le m.body 9223372036854775807 ≡ true = le-leb m.body 9223372036854775807 (omega (arith, k)) in
    let third : nat_le rows 9223372036854775807 ≡ true = le-leb rows 9223372036854775807 (omega (arith, l)) in
    rw (first, second, third) refl

pub long_rows : (limit rows : ℕ) (m : SentMessage) → 2 ^ 63 ≤ rows → is_short limit rows m ≡ false
long_rows limit rows m h =
    let third : nat_le rows 9223372036854775807 ≡ false = lt-leb rows 9223372036854775807 (omega (arith, h)) in
    rw third (not_third (nat_le (up_to 8 (size m.node)) (min limit 2147483647)) (nat_le m.body 9223372036854775807))

long_body : (limit rows : ℕ) (m : SentMessage) → 2 ^ 63 ≤ m.body → is_short limit rows m ≡ false
long_body limit rows m h =
    let second : nat_le m.body 9223372036854775807 ≡ false = lt-leb m.body 9223372036854775807 (omega (arith, h)) in
    rw second (not_second (nat_le (up_to 8 (size m.node)) (min limit 2147483647)) (nat_le rows 9223372036854775807))

pub long_metadata : (limit rows size_of : ℕ) (m : SentMessage) → size_of ≡ size m.node → min limit 2147483647 < up_to 8 size_of → is_short limit rows m ≡ false
long_metadata limit rows size_of m e h =
    let x = up_to 8 (size m.node) in
    let first : nat_le x (min limit 2147483647) ≡ false = lt-leb x (min limit 2147483647) (subst (λ n. min limit 2147483647 < up_to 8 n) e h) in
    rw first refl

large_node : (limit rows : ℕ) (m : SentMessage) (n : Node) → n ≡ m.node → 2 ^ 31 ≤ size n → is_short limit rows m ≡ false
large_node limit rows m n e h =
    let large : 2 ^ 31 ≤ size m.node = subst (λ x. 2 ^ 31 ≤ size x) e h in
    long_metadata limit rows (size m.node) m refl (omega (arith, large))

-- an error of the places
pub places_err : (r : Result BodyPlan IpcError) (e : IpcError) (limit rows : ℕ) (content : Content) (o : Outputs) → IsErrAnd r (λ f. f ≡ e) → Places (Err e) o → MakesMessage r limit rows (planned_message content rows o) o.pieces
places_err (Ok p) e limit rows content o h k = absurd h
places_err (Err errors.TooLarge) e limit rows content o h k = long_body limit rows (planned_message content rows o) (subst (λ f. Places (Err f) o) (sym h) k)
places_err (Err errors.Memory) e limit rows content o h k = tt
places_err (Err f) e limit rows content o h k = subst (λ g. Places (Err g) o) (sym h) k

-- an error of metadata
pub metadata_err : (r : Result BodyPlan IpcError) (e : IpcError) (limit rows : ℕ) (m : SentMessage) (pieces : List (List ℕ)) (n : Node) → IsErrAnd r (λ f. f ≡ e) → n ≡ m.node → BuildsMetadata (Err e) n → MakesMessage r limit rows m pieces
metadata_err (Ok p) e limit rows m pieces n h hn k = absurd h
metadata_err (Err errors.TooLarge) e limit rows m pieces n h hn k = large_node limit rows m n hn (subst (λ f. BuildsMetadata (Err f) n) (sym h) k)
metadata_err (Err errors.Memory) e limit rows m pieces n h hn k = tt
metadata_err (Err f) e limit rows m pieces n h hn k = subst (λ g. BuildsMetadata (Err g) n) (sym h) k

-- ── messages that may be sent ──

two_of : (a b c : Bool) → (a && b && c) ≡ true → (a && b) ≡ true
two_of true true true h = refl
two_of true true false h = refl
two_of true false c h = h
two_of false b c h = h

with_true : (a b : Bool) → (a && b && true) ≡ (a && b)
with_true true true = refl
with_true true false = refl
with_true false b = refl

once : (n : ℕ) → min n n ≡ n
once n = omega arith

same_tests : (n x y most rows : ℕ) → rows ≤ most → (nat_le x (min n n) && nat_le y most && nat_le rows most) ≡ (nat_le x n && nat_le y most)
same_tests n x y most rows h =
    let third : nat_le rows most ≡ true = le-leb rows most h in
    rw (once n, third) (with_true (nat_le x n) (nat_le y most))

-- a message of so few rows is within the limits exactly where it may be sent
pub short_is_sent : (rows : ℕ) (m : SentMessage) → rows < 2 ^ 63 → is_short 2147483647 rows m ≡ may_be_sent m
unfolding may_be_sent
short_is_sent rows m few = same_tests 2147483647 (up_to 8 (size m.node)) m.body 9223372036854775807 rows (omega arith)

pub short_then_sent : (rows : ℕ) (m : SentMessage) → is_short 2147483647 rows m ≡ true → may_be_sent m ≡ true
unfolding may_be_sent
short_then_sent rows m h =
    let x = up_to 8 (size m.node) in
    ap (λ n. nat_le x n && nat_le m.body 9223372036854775807) (sym (once 2147483647)) ∙ two_of (nat_le x (min 2147483647 2147483647)) (nat_le m.body 9223372036854775807) (nat_le rows 9223372036854775807) h
