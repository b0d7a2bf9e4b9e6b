-- Messages one behind another are read at their blocks' places.
use Rattle.std.proofs.Common.{◌≡◌, ℕ, ◌+◌, List, [], ◌∷◌, ◌++◌, length, None, Some, Ok, Bool, refl, sym, ap, subst, ◌∙◌, arith, true, false, length-append, append-nil, append_assoc, ℤ, pos, negsuc, Option, cond}
use Rattle.std.proofs.lemmas.Bool.{eqb-true}
use Rattle.std.specs.List.{flat_map}
use Rattle.std.proofs.lemmas.List.Concat.{flat_map-cons}
use Rattle.arrow_spec.specs.Held.{Stands}
use Rattle.arrow_spec.specs.Kinds.{Fields, Metadata, same}
use Rattle.arrow_spec.specs.Cells.{Cell}
use Rattle.arrow_spec.specs.Arrays.{Dictionaries, cells_before, found}
use Rattle.arrow_spec.specs.Layout.{u32}
use Rattle.arrow_spec.specs.Files.{Asked, FileBlock, Meta, TableBatch, batches_of, dictionaries_of, to_read}
use Rattle.arrow_spec.specs.Framing.{message_bytes, padded, padded_size, prefixed}
use Rattle.arrow_spec.specs.Sent.{SentMessage}
use Rattle.arrow_spec.proofs.Found.{right_at}
use Rattle.arrow_spec.proofs.NextMessages.{length-padded}
use Rattle.arrow_spec.proofs.Projection.{on, no_dictionaries_sent}
use Rattle.arrow_spec.proofs.ReadPairs.{same_read, through}
use Rattle.arrow_spec.proofs.Standing.{stands_left}
use Rattle.ipc_write_laws.specs.Streams.{batch_bytes, body_for, table_batch, written_batch}
use Rattle.ipc_write_laws.specs.Messages.{IsKnown, Known, WrittenMessage, WrittenValues, batch, batch_in, bytes_of, values, values_bytes, values_message, with_messages, with_values}
use Rattle.laws_files.specs.Files.{AllBatchesMayBeWritten, AllValuesMayBeWritten, GoesOn, IsDeltaOrFirst, all_of, batch_blocks, behind, front_size, read_meta, values_blocks}
use Rattle.ipc_write_laws.proofs.Messages.{held_values}
use Rattle.laws_files.proofs.Messages.{batch_there, values_known, values_long, values_there}

-- ── places ──

-- how long a message is
pub message_long : (m : SentMessage) (body : List ℕ) → length body ≡ m.body → length (message_bytes m.node body) ≡ front_size m + m.body
unfolding message_bytes
message_long m body e =
    let front = prefixed (padded_size m.node) (padded m.node) in
    omega (arith, e, length-append front body, length-append ((255 ∷ 255 ∷ 255 ∷ 255 ∷ []) ++ u32 (padded_size m.node)) (padded m.node), length-padded m.node)

-- the first of some messages, and the others behind it
first_there : (b : List ℕ) (at : ℕ) (x : WrittenMessage) (xs : List WrittenMessage) → Stands b at (flat_map bytes_of (x ∷ xs)) → Stands b at (bytes_of x)
first_there b at x xs h = stands_left b at (bytes_of x) (flat_map bytes_of xs) (subst (λ t. Stands b at t) (flat_map-cons bytes_of x xs) h)

others_there : (b : List ℕ) (at : ℕ) (x : WrittenMessage) (xs : List WrittenMessage) (m : SentMessage) → length (bytes_of x) ≡ front_size m + m.body → Stands b at (flat_map bytes_of (x ∷ xs)) → Stands b (behind at m) (flat_map bytes_of xs)
others_there b at x xs m long h = right_at b at (bytes_of x) (flat_map bytes_of xs) (behind at m) (ap (λ n. at + n) (sym long)) (subst (λ t. Stands b at t) (flat_map-cons bytes_of x xs) h)

-- ── values ──

-- the dictionaries of some messages as they are read, and what is known by them
pub record ValuesRead (b : List ℕ) (at : ℕ) (fs : Fields) (c : Known) (d : Dictionaries) (xs : List WrittenMessage) : Type 0 where
  pub held : Dictionaries
  pub read : (kv : Metadata) (records dictionaries : List FileBlock) → dictionaries_of b (read_meta fs kv records dictionaries) d (values_blocks at xs) ≡ Ok held
  pub known : IsKnown (with_messages xs c) held

pub all_values_read : (xs : List WrittenMessage) (b : List ℕ) (at : ℕ) (fs : Fields) (c : Known) (d : Dictionaries) → Stands b at (flat_map bytes_of xs) → IsKnown c d → AllValuesMayBeWritten fs c xs → ValuesRead b at fs c d xs
unfolding dictionaries_of
all_values_read [] b at fs c d h known w = record { held = d; read = λ kv records dictionaries. refl; known = known }
all_values_read (values x ∷ xs) b at fs c d h known w =
    let long : length (values_bytes x) ≡ front_size (values_message x) + (values_message x).body = message_long (values_message x) (body_for (x.column ∷ [])) (values_long x) in
    let here = first_there b at (values x) xs h in
    let others = all_values_read xs b (behind at (values_message x)) fs (with_values x c) (held_values x ∷ d) (others_there b at (values x) xs (values_message x) long h) (values_known c d x known) w.2 in
    record {
      held = others.held;
      read = λ kv records dictionaries. values_there b at fs kv c d x records dictionaries _ here known w.0 w.1 ∙ others.read kv records dictionaries;
      known = others.known;
    }
all_values_read (batch x ∷ xs) b at fs c d h known w =
    let long : length (batch_bytes x) ≡ front_size (written_batch x) + (written_batch x).body = message_long (written_batch x) (body_for x.columns) refl in
    let others = all_values_read xs b (behind at (written_batch x)) fs c d (others_there b at (batch x) xs (written_batch x) long h) known w in
    record { held = others.held; read = others.read; known = others.known }

-- ── batches ──

pub all_batches_read : (xs : List WrittenMessage) (b : List ℕ) (at : ℕ) (fs : Fields) (c : Known) (d : Dictionaries) (is_first : Bool) → Stands b at (flat_map bytes_of xs) → IsKnown c d → AllBatchesMayBeWritten fs c xs
    → batches_of to_read b (all_of fs d (length b)) is_first (batch_blocks at xs) None ≡ Ok (flat_map batch_in xs)
unfolding batches_of
all_batches_read [] b at fs c d is_first h known w = refl
all_batches_read (values x ∷ xs) b at fs c d is_first h known w =
    let long : length (values_bytes x) ≡ front_size (values_message x) + (values_message x).body = message_long (values_message x) (body_for (x.column ∷ [])) (values_long x) in
    all_batches_read xs b (behind at (values_message x)) fs c d is_first (others_there b at (values x) xs (values_message x) long h) known w ∙ ap Ok (sym (flat_map-cons batch_in (values x) xs))
all_batches_read (batch x ∷ xs) b at fs c d is_first h known w =
    let long : length (batch_bytes x) ≡ front_size (written_batch x) + (written_batch x).body = message_long (written_batch x) (body_for x.columns) refl in
    let here = batch_there b at fs c d x (first_there b at (batch x) xs h) known w.0 in
    let others = all_batches_read xs b (behind at (written_batch x)) fs c d false (others_there b at (batch x) xs (written_batch x) long h) known w.1 in
    on _ _ (table_batch x) here ∙ on _ _ tt (no_dictionaries_sent is_first (all_of fs d (length b))) ∙ on _ _ (flat_map batch_in xs) others ∙ ap Ok (sym (flat_map-cons batch_in (batch x) xs))

-- ── blocks behind others ──

pub dictionaries_behind : (xs ys : List FileBlock) (b : List ℕ) (meta : Meta) (d e : Dictionaries) → dictionaries_of b meta d xs ≡ Ok e → dictionaries_of b meta d (xs ++ ys) ≡ dictionaries_of b meta e ys
unfolding dictionaries_of
dictionaries_behind [] ys b meta d e h = ap (λ k. dictionaries_of b meta k ys) (same_read d e h)
dictionaries_behind (x ∷ xs) ys b meta d e h =
    through _ _ e h λ m m_is h1. through _ _ e h1 λ tables tables_are h2. through _ _ e h2 λ version version_is h3. through _ _ e h3 λ v v_is h4.
    on _ _ m m_is ∙ on _ _ tables tables_are ∙ on _ _ version version_is ∙ on _ _ v v_is ∙ dictionaries_behind xs ys b meta (v ∷ d) e h4

pub batches_behind : (xs ys : List FileBlock) (b : List ℕ) (a : Asked) (is_first : Bool) (us vs : List TableBatch) → batches_of to_read b a is_first xs None ≡ Ok us → ((f : Bool) → batches_of to_read b a f ys None ≡ Ok vs)
    → batches_of to_read b a is_first (xs ++ ys) None ≡ Ok (us ++ vs)
unfolding batches_of
batches_behind [] ys b a is_first us vs h k = k is_first ∙ ap (λ t. Ok (t ++ vs)) (same_read [] us h)
batches_behind (x ∷ xs) ys b a is_first us vs h k =
    through _ _ us h λ u u_is h1. through _ _ us h1 λ sent sent_is h2. through _ _ us h2 λ others others_are h3.
    on _ _ u u_is ∙ on _ _ sent sent_is ∙ on _ _ (others ++ vs) (batches_behind xs ys b a false others vs others_are k) ∙ ap (λ t. Ok (t ++ vs)) (same_read (u ∷ others) us h3)

-- ── what is known ──

pub same_is : (x y : ℤ) → same x y ≡ true → x ≡ y
same_is (pos a) (pos b) h = ap pos (eqb-true a b h)
same_is (negsuc a) (negsuc b) h = ap negsuc (eqb-true a b h)
same_is (pos a) (negsuc b) h = cc
same_is (negsuc a) (pos b) h = cc

-- a delta stands behind the cells that were known
behind_known : (is_delta : Bool) (cells : List Cell) (old : Option (List Cell)) → old ≡ Some cells → (is_delta ≡ false → old ≡ None) → cells_before is_delta old ≡ cells
behind_known true cells old e first = rw e refl
behind_known false cells old e first = let none : old ≡ None = first refl in absurd (cc)

one_goes_on : (c : Known) (x : WrittenValues) → IsDeltaOrFirst c x → GoesOn c (with_values x c)
one_goes_on c x first id cells e = by (same x.id id) refl
  where
    by : (t : Bool) → same x.id id ≡ t → (more : List Cell) × (cond t (Some (cells_before x.is_delta (c id) ++ x.column.cells)) (c id) ≡ Some (cells ++ more))
    by true s =
        let here : c id ≡ c x.id = ap c (sym (same_is x.id id s)) in
        (x.column.cells, ap (λ t. Some (t ++ x.column.cells)) (behind_known x.is_delta cells (c id) e (λ n. here ∙ first n)))
    by false s = ([], e ∙ ap Some (sym (append-nil cells)))

pub goes_on_then : (c c' c'' : Known) → GoesOn c c' → GoesOn c' c'' → GoesOn c c''
goes_on_then c c' c'' h k id cells e =
    let one = h id cells e in
    let two = k id (cells ++ one.0) one.1 in
    (one.0 ++ two.0, two.1 ∙ ap Some (append_assoc cells one.0 two.0))

pub all_go_on : (xs : List WrittenMessage) (fs : Fields) (c : Known) → AllValuesMayBeWritten fs c xs → GoesOn c (with_messages xs c)
all_go_on [] fs c w = λ id cells e. ([], e ∙ ap Some (sym (append-nil cells)))
all_go_on (values x ∷ xs) fs c w = goes_on_then c (with_values x c) (with_messages xs (with_values x c)) (one_goes_on c x w.1) (all_go_on xs fs (with_values x c) w.2)
all_go_on (batch x ∷ xs) fs c w = all_go_on xs fs c w

pub known_goes_on : (c : Known) (d : Dictionaries) → IsKnown c d → GoesOn c (λ id. found d id)
known_goes_on c d known id cells e = ([], known id ∙ e ∙ ap Some (sym (append-nil cells)))
