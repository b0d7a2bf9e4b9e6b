-- Messages that are framed one after another.
use Rattle.std.proofs.Common.{◌≡◌, ◌⊎◌, inl, inr, ℕ, ◌+◌, ◌-◌, ◌<◌, ◌≤◌, ◌^◌, List, [], ◌∷◌, ◌++◌, Bool, true, false, map, length, min, drop, get_or, refl, sym, ap, ◌∙◌, subst, append_assoc, append-nil, arith, Err}
use Rattle.std.specs.Prelude.{◌&&◌}
use Rattle.std.specs.List.{flat_map}
use Rattle.std.proofs.lemmas.Bool.{le-leb, lt-leb}
use Rattle.std.proofs.lemmas.Grind.{flat_map-append}
use Rattle.std.proofs.lemmas.List.{drop_all, map-append}
use Rattle.arrow_spec.specs.declared.error.IpcError.{IpcError}
use Rattle.arrow_spec.specs.declared.error.IpcError.TheVariants.{Memory, TooLarge}
use Rattle.arrow_spec.specs.Layout.{up_to}
use Rattle.ipc_fields.proofs.Steps.{drop_item}
use Rattle.ipc_write.specs.Outcomes.{message_frame, metadata_frame}
use Rattle.ipc_write.specs.declared.encoded.EncodedData.{EncodedData}
use Rattle.ipc_write.proofs.Putting.{frame_of, frame_whole}
use Rattle.ipc_write.proofs.Written.{length-frame}
use Rattle.ipc_messages.specs.Messages.{Sizes}
use Rattle.ipc_messages.specs.declared.framed_message.FramedMessage.{FramedMessage}
use Rattle.ipc_messages.specs.Framed.{AreFramed, FramesEach, FramesOne, IsFramed, are_short, framed_sizes, framed_text, given_sizes, given_text, is_short, padded_body}

-- ── one message ──

too_long : (limit : ℕ) (x : EncodedData) → min limit 2147483647 < up_to 8 (length x.ipc_message.items) → is_short limit x ≡ false
too_long limit x h = lt-leb (up_to 8 (length x.ipc_message.items)) (min limit 2147483647) h

-- a front that passes the limit
pub past_limit : (limit : ℕ) (x : EncodedData) (metadata : List ℕ) → metadata ≡ x.ipc_message.items → limit < up_to 8 (length metadata) → is_short limit x ≡ false
past_limit limit x metadata e h = too_long limit x (omega (arith, h, ap (λ xs. up_to 8 (length xs)) e))

-- or 2^31 - 1
pub past_all : (e : IpcError) (limit : ℕ) (x : EncodedData) (metadata : List ℕ) → metadata ≡ x.ipc_message.items → (e ≡ Memory) ⊎ ((e ≡ TooLarge) × (2 ^ 31 ≤ up_to 8 (length metadata))) → FramesOne (Err e) limit x
past_all e limit x metadata m (inl k) = inl k
past_all e limit x metadata m (inr k) = inr (k.0, too_long limit x (omega (arith, k.1, ap (λ xs. up_to 8 (length xs)) m)))

sized : ℕ → ℕ → Sizes
sized front body = record { front = front; body = body }

pub one_framed : (limit : ℕ) (x : EncodedData) (m : FramedMessage) (metadata : List ℕ) → metadata ≡ x.ipc_message.items → up_to 8 (length metadata) ≤ limit → up_to 8 (length metadata) < 2 ^ 31
    → m.front.items ≡ message_frame metadata [] → m.body.now ≡ x.arrow_data.items → IsFramed limit x m
unfolding sized
one_framed limit x m metadata e h k f b =
    let front : m.front.items ≡ metadata_frame metadata = f ∙ sym (frame_whole metadata [] refl) ∙ append-nil (metadata_frame metadata) in
    let long : length m.front.items ≡ 8 + up_to 8 (length metadata) = omega (arith, ap length f, length-frame metadata [] refl) in
    record {
      short = le-leb (up_to 8 (length x.ipc_message.items)) (min limit 2147483647) (omega (arith, h, k, ap (λ xs. up_to 8 (length xs)) e));
      text = ap (λ l. l ++ padded_body m.body.now) front ∙ frame_of (up_to 64 (length m.body.now) - length m.body.now) metadata m.body.now x.ipc_message.items x.arrow_data.items e b refl;
      sizes = ap (λ n. sized n (up_to 64 (length m.body.now))) (long ∙ ap (λ xs. 8 + up_to 8 (length xs)) e) ∙ ap (λ xs. sized (8 + up_to 8 (length x.ipc_message.items)) (up_to 64 (length xs))) b;
    }

-- ── several ──

short_more : (limit : ℕ) (xs : List EncodedData) (x : EncodedData) (b : Bool) → are_short limit xs ≡ true → is_short limit x ≡ b → are_short limit (xs ++ x ∷ []) ≡ b
short_more limit [] x true h k = ap (λ c. c && true) k
short_more limit [] x false h k = ap (λ c. c && true) k
short_more limit (y ∷ ys) x b h k = and_rest (is_short limit y) (are_short limit ys) (are_short limit (ys ++ x ∷ [])) b h (λ e. short_more limit ys x b e k)
  where
    and_rest : (p q r b : Bool) → (p && q) ≡ true → (q ≡ true → r ≡ b) → (p && r) ≡ b
    and_rest true q r b h f = f h
    and_rest false q r b h f = cc

short_behind : (limit : ℕ) (xs : List EncodedData) (x : EncodedData) (rest : List EncodedData) → are_short limit (xs ++ x ∷ []) ≡ false → are_short limit (xs ++ x ∷ rest) ≡ false
short_behind limit [] x rest h = first (is_short limit x) (are_short limit rest) h
  where
    first : (p q : Bool) → (p && true) ≡ false → (p && q) ≡ false
    first true q h = cc
    first false q h = refl
short_behind limit (y ∷ ys) x rest h = later (is_short limit y) (are_short limit (ys ++ x ∷ [])) (are_short limit (ys ++ x ∷ rest)) h (short_behind limit ys x rest)
  where
    later : (p q r : Bool) → (p && q) ≡ false → (q ≡ false → r ≡ false) → (p && r) ≡ false
    later true q r h f = f h
    later false q r h f = refl

pub framed_more : (limit : ℕ) (xs : List EncodedData) (ms is : List FramedMessage) (x : EncodedData) (m : FramedMessage) → AreFramed limit xs ms → IsFramed limit x m → is ≡ ms ++ m ∷ [] → AreFramed limit (xs ++ x ∷ []) is
framed_more limit xs ms is x m h k e = record {
  short = short_more limit xs x true h.short k.short;
  text = ap (flat_map framed_text) e ∙ flat_map-append framed_text ms (m ∷ []) ∙ ap (λ l. l ++ (framed_text m ++ [])) h.text ∙ ap (λ l. flat_map given_text xs ++ (l ++ [])) k.text ∙ sym (flat_map-append given_text xs (x ∷ []));
  sizes = ap (map framed_sizes) e ∙ map-append framed_sizes ms (m ∷ []) ∙ ap (λ l. l ++ framed_sizes m ∷ []) h.sizes ∙ ap (λ l. map given_sizes xs ++ l ∷ []) k.sizes ∙ sym (map-append given_sizes xs (x ∷ []));
}

-- one behind others that are framed is refused
pub refused_behind : (e : IpcError) (limit : ℕ) (xs : List EncodedData) (ms : List FramedMessage) (x : EncodedData) → AreFramed limit xs ms → FramesOne (Err e) limit x → FramesEach (Err e) limit (xs ++ x ∷ [])
refused_behind e limit xs ms x h (inl k) = inl k
refused_behind e limit xs ms x h (inr k) = inr (k.0, short_more limit xs x false h.short k.1)

-- one of those before it is
pub refused_before : (e : IpcError) (limit : ℕ) (xs : List EncodedData) (x : EncodedData) → FramesEach (Err e) limit xs → FramesEach (Err e) limit (xs ++ x ∷ [])
refused_before e limit xs x (inl k) = inl k
refused_before e limit xs x (inr k) = inr (k.0, one_of limit xs x k.1)
  where
    one_of : (limit : ℕ) (xs : List EncodedData) (x : EncodedData) → are_short limit xs ≡ false → are_short limit (xs ++ x ∷ []) ≡ false
    one_of limit [] x h = cc
    one_of limit (y ∷ ys) x h = later (is_short limit y) (are_short limit ys) (are_short limit (ys ++ x ∷ [])) h (one_of limit ys x)
      where
        later : (p q r : Bool) → (p && q) ≡ false → (q ≡ false → r ≡ false) → (p && r) ≡ false
        later true q r h f = f h
        later false q r h f = refl

-- ── in order ──

-- some of the messages are framed, and these are left
pub record IsLeft (limit : ℕ) (ms : List FramedMessage) (left all : List EncodedData) : Type 0 where
  pub done : List EncodedData
  pub framed : AreFramed limit done ms
  pub whole : done ++ left ≡ all

pub left_begun : (limit : ℕ) (ms : List FramedMessage) (all : List EncodedData) → ms ≡ [] → IsLeft limit ms all all
left_begun limit ms all e = record { done = []; framed = record { short = refl; text = ap (flat_map framed_text) e; sizes = ap (map framed_sizes) e }; whole = refl }

pub left_more : (limit : ℕ) (ms is : List FramedMessage) (all : List EncodedData) (i : ℕ) (x : EncodedData) (m : FramedMessage) → i < length all → x ≡ get_or all i x → IsFramed limit x m → is ≡ ms ++ m ∷ []
    → IsLeft limit ms (drop i all) all → IsLeft limit is (drop (i + 1) all) all
left_more limit ms is all i x m h g p a l = record {
  done = l.done ++ x ∷ [];
  framed = framed_more limit l.done ms is x m l.framed p a;
  whole = append_assoc l.done (x ∷ []) (drop (i + 1) all) ∙ ap (λ z. l.done ++ z) (sym (drop_item all i x x h g)) ∙ l.whole;
}

pub left_refused : (e : IpcError) (limit : ℕ) (ms : List FramedMessage) (all : List EncodedData) (i : ℕ) (x : EncodedData) → i < length all → x ≡ get_or all i x → FramesOne (Err e) limit x → IsLeft limit ms (drop i all) all
    → FramesEach (Err e) limit all
left_refused e limit ms all i x h g (inl k) l = inl k
left_refused e limit ms all i x h g (inr k) l =
    inr (
      k.0,
      subst (λ xs. are_short limit xs ≡ false) (ap (λ z. l.done ++ z) (sym (drop_item all i x x h g)) ∙ l.whole)
          (short_behind limit l.done x (drop (i + 1) all) (short_more limit l.done x false l.framed.short k.1)),
    )

pub all_framed : (limit : ℕ) (ms : List FramedMessage) (all : List EncodedData) (i : ℕ) → length all ≤ i → IsLeft limit ms (drop i all) all → AreFramed limit all ms
all_framed limit ms all i h l =
    subst (λ xs. AreFramed limit xs ms) (sym (append-nil l.done) ∙ ap (λ z. l.done ++ z) (sym (drop_all i all h)) ∙ l.whole) l.framed
