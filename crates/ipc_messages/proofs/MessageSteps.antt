-- Messages that are encoded one after another.
use Rattle.std.proofs.Common.{◌≡◌, inl, inr, ℕ, ◌+◌, ◌<◌, ◌≤◌, ◌++◌, ℤ, List, [], ◌∷◌, Bool, true, false, map, length, drop, get_or, refl, sym, ap, ◌∙◌, subst, Ok, append_assoc, append-nil}
use Rattle.std.specs.Prelude.{◌&&◌, if◌then◌else◌}
use Rattle.std.proofs.lemmas.List.{drop_all}
use Rattle.arrow_spec.specs.declared.error.IpcError.{IpcError}
use Rattle.arrow_arrays.specs.PartsOf.{parts_of, forest_of}
use Rattle.arrow_arrays.specs.declared.array.Array.{Array}
use Rattle.ipc_fields.proofs.Steps.{drop_item}
use Rattle.ipc_dictionaries.specs.NewDictionaries.{ToSend, message_of}
use Rattle.ipc_dictionaries.specs.Walks.{to_send}
use Rattle.ipc_dictionaries.specs.declared.walk.ToEncode.{ToEncode}
use Rattle.ipc_write.specs.declared.encoded.EncodedData.{EncodedData}
use Rattle.ipc_write.specs.declared.options.WriteOptions.{WriteOptions}
use Rattle.ipc_messages.specs.Encoded.{AddsOne, AllMayBeValues, AreMessagesOf, IsMessageOf, Refuses, RefusesOne, all_fit, fits, is_passed, messages_of}

-- ── lists of messages ──

one_more : (options : WriteOptions) (ss : List ToSend) (ms : List EncodedData) (s : ToSend) (m : EncodedData) → AreMessagesOf options ss ms → IsMessageOf options s m → AreMessagesOf options (ss ++ s ∷ []) (ms ++ m ∷ [])
one_more options [] [] s m h k = (k, tt)
one_more options [] (x ∷ ms) s m h k = absurd h
one_more options (t ∷ ss) [] s m h k = absurd h
one_more options (t ∷ ss) (x ∷ ms) s m h k = (h.0, one_more options ss ms s m h.1 k)

refused_behind : (options : WriteOptions) (ss : List ToSend) (ms : List EncodedData) (s : ToSend) (rest : List ToSend) (e : IpcError) → AreMessagesOf options ss ms → Refuses e options s → RefusesOne e options (ss ++ s ∷ rest)
refused_behind options [] [] s rest e h k = inl k
refused_behind options [] (x ∷ ms) s rest e h k = absurd h
refused_behind options (t ∷ ss) [] s rest e h k = absurd h
refused_behind options (t ∷ ss) (x ∷ ms) s rest e h k = inr (h.0.encoded.short, refused_behind options ss ms s rest e h.1 k)

both_true : (a b : Bool) → a ≡ true → b ≡ true → (a && b) ≡ true
both_true a b e f = rw (e, f) refl

-- messages that were encoded are within the limits
pub encoded_fit : (options : WriteOptions) (ss : List ToSend) (ms : List EncodedData) → AreMessagesOf options ss ms → all_fit options ss ≡ true
encoded_fit options [] ms h = refl
encoded_fit options (s ∷ ss) [] h = absurd h
encoded_fit options (s ∷ ss) (m ∷ ms) h = both_true (fits options s) (all_fit options ss) h.0.encoded.short (encoded_fit options ss ms h.1)

-- and may be sent
pub encoded_may : (options : WriteOptions) (ss : List ToSend) (ms : List EncodedData) → AreMessagesOf options ss ms → AllMayBeValues ss
encoded_may options [] ms h = tt
encoded_may options (s ∷ ss) [] h = absurd h
encoded_may options (s ∷ ss) (m ∷ ms) h = (h.0.may, encoded_may options ss ms h.1)

-- ── the loops ──

-- some of what is to be sent is encoded, and this is left
pub record IsLeft (options : WriteOptions) (ms : List EncodedData) (left all : List ToSend) : Type 0 where
  pub done : List ToSend
  pub messages : AreMessagesOf options done ms
  pub whole : done ++ left ≡ all

pub left_begun : (options : WriteOptions) (ms : List EncodedData) (all : List ToSend) → ms ≡ [] → IsLeft options ms all all
left_begun options ms all e = record { done = []; messages = subst (AreMessagesOf options []) (sym e) tt; whole = refl }

pub left_more : (options : WriteOptions) (ms is : List EncodedData) (left rest all : List ToSend) (s : ToSend) → left ≡ s ∷ rest → AddsOne (Ok tt) options s ms is → IsLeft options ms left all → IsLeft options is rest all
left_more options ms is left rest all s e a l = record {
  done = l.done ++ s ∷ [];
  messages = subst (AreMessagesOf options (l.done ++ s ∷ [])) (sym a.1) (one_more options l.done ms s a.0 l.messages a.2);
  whole = append_assoc l.done (s ∷ []) rest ∙ ap (λ x. l.done ++ x) (sym e) ∙ l.whole;
}

pub left_refused : (options : WriteOptions) (ms : List EncodedData) (left rest all : List ToSend) (s : ToSend) (e : IpcError) → left ≡ s ∷ rest → Refuses e options s → IsLeft options ms left all → RefusesOne e options all
left_refused options ms left rest all s e f k l =
    subst (RefusesOne e options) (ap (λ x. l.done ++ x) (sym f) ∙ l.whole) (refused_behind options l.done ms s rest e l.messages k)

left_none : (options : WriteOptions) (ms : List EncodedData) (left all : List ToSend) → left ≡ [] → IsLeft options ms left all → AreMessagesOf options all ms
left_none options ms left all e l = subst (λ ss. AreMessagesOf options ss ms) (sym (append-nil l.done) ∙ ap (λ x. l.done ++ x) (sym e) ∙ l.whole) l.messages

-- of the messages that are to be encoded
pub next_message : (xs : List ToEncode) (i : ℕ) (x : ToEncode) → i < length xs → x ≡ get_or xs i x → map to_send (drop i xs) ≡ to_send x ∷ map to_send (drop (i + 1) xs)
next_message xs i x h e = ap (map to_send) (drop_item xs i x x h e)

pub all_encoded : (options : WriteOptions) (ms : List EncodedData) (xs : List ToEncode) (i : ℕ) (all : List ToSend) → length xs ≤ i → IsLeft options ms (map to_send (drop i xs)) all → AreMessagesOf options all ms
all_encoded options ms xs i all h l = left_none options ms (map to_send (drop i xs)) all (ap (map to_send) (drop_all i xs h)) l

-- of a dictionary's parts
pub next_part : (id : ℤ) (is_delta : Bool) (xs : List Array) (i : ℕ) (x : Array) → i < length xs → x ≡ get_or xs i x → is_passed is_delta (parts_of x) ≡ false
    → messages_of id is_delta (forest_of (drop i xs)) ≡ message_of id is_delta (parts_of x) ∷ messages_of id true (forest_of (drop (i + 1) xs))
next_part id is_delta xs i x h e sent =
    let rest = messages_of id true (forest_of (drop (i + 1) xs)) in
    ap (λ ys. messages_of id is_delta (forest_of ys)) (drop_item xs i x x h e) ∙ ap (λ b. if b then rest else message_of id is_delta (parts_of x) ∷ rest) sent

-- one without rows is passed over
pub passed_part : (id : ℤ) (is_delta : Bool) (xs : List Array) (i : ℕ) (x : Array) → i < length xs → x ≡ get_or xs i x → is_passed is_delta (parts_of x) ≡ true
    → messages_of id is_delta (forest_of (drop i xs)) ≡ messages_of id is_delta (forest_of (drop (i + 1) xs))
passed_part id false xs i x h e passed = cc
passed_part id true xs i x h e passed =
    let rest = messages_of id true (forest_of (drop (i + 1) xs)) in
    ap (λ ys. messages_of id true (forest_of ys)) (drop_item xs i x x h e) ∙ ap (λ b. if b then rest else message_of id true (parts_of x) ∷ rest) passed

pub left_passed : (options : WriteOptions) (ms : List EncodedData) (left rest all : List ToSend) → left ≡ rest → IsLeft options ms left all → IsLeft options ms rest all
left_passed options ms left rest all e l = subst (λ ss. IsLeft options ms ss all) e l

pub parts_encoded : (options : WriteOptions) (ms : List EncodedData) (id : ℤ) (is_delta : Bool) (xs : List Array) (i : ℕ) (all : List ToSend) → length xs ≤ i
    → IsLeft options ms (messages_of id is_delta (forest_of (drop i xs))) all → AreMessagesOf options all ms
parts_encoded options ms id is_delta xs i all h l = left_none options ms (messages_of id is_delta (forest_of (drop i xs))) all (ap (λ ys. messages_of id is_delta (forest_of ys)) (drop_all i xs h)) l
