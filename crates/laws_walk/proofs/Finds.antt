-- What a writer finds to send of the dictionaries in columns that were read of a file.
use Rattle.std.proofs.Common.{◌≡◌, inl, inr, ◌^◌, ◌<◌, List, [], ◌∷◌, ◌⊎◌, ◌&&◌, map, Bool, true, false, None, Ok, ℤ, refl, sym, ap, ◌∙◌, subst}
use Rattle.std.specs.List.{AllByRecursion}
use Rattle.std.proofs.lemmas.Bool.{and_parts, and_from}
use Rattle.arrow_spec.specs.declared.error.IpcError.{IpcError}
use Rattle.arrow_spec.specs.declared.error.IpcError.TheVariants as errors
use Rattle.arrow_spec.specs.declared.error.Feature.TheVariants as features
use Rattle.arrow_spec.specs.Arrays.{Dictionaries}
use Rattle.arrow_spec.specs.Kinds.{Fields}
use Rattle.arrow_spec.specs.Sent.{all_may_be_sent, dictionary_messages, may_be_sent}
use Rattle.arrow_arrays.specs.Parts.{Forest, rows_in}
use Rattle.ipc_fields.specs.IpcFields.{Ids}
use Rattle.ipc_stream_writer.specs.Below.{begun, columns_fault, columns_of, unless_fault, Sending, ToSend, arrays_sent, held_by, options_of, DictionaryTracker, found, Refuses, RefusesOne, all_fit, fits}
use Rattle.laws_sent.specs.Below.{Held}
use Rattle.ipc_reader.proofs.Below.{short_is_sent, short_then_sent}
use Rattle.laws_sent.specs.Parts.{PartTree}
use Rattle.laws_sent.specs.DictionaryLaws.{AreFileColumns, FileDictionariesAreSent, SendsNoMore, SendsValues, sent_message}
use Rattle.laws_walk.specs.Sends.{send_options}

-- ── limits ──

and_false : (b : Bool) → (b && false) ≡ false
and_false true = refl
and_false false = refl

each_fits : (ss : List ToSend) → all_fit send_options ss ≡ true → all_may_be_sent (map sent_message ss) ≡ true
each_fits [] h = refl
each_fits (s ∷ ss) h =
    let both = and_parts (fits send_options s) (all_fit send_options ss) h in
    and_from (may_be_sent (sent_message s)) (all_may_be_sent (map sent_message ss)) (short_then_sent (rows_in s.part) (sent_message s) both.0) (each_fits ss both.1)

one_refused : (e : IpcError) (s : ToSend) → rows_in s.part < 2 ^ 63 → Refuses e send_options s → (e ≡ errors.Memory) ⊎ ((e ≡ errors.TooLarge) × (may_be_sent (sent_message s) ≡ false))
one_refused errors.Memory s few h = inl refl
one_refused errors.TooLarge s few h = inr (refl, sym (short_is_sent (rows_in s.part) (sent_message s) few) ∙ h.1)
one_refused (errors.Unsupported features.Compression) s few h = let never : false ≡ true = h in cc
one_refused e s few h = absurd h

-- why messages of values are refused: one is too large, or memory was wanted
each_refused : (e : IpcError) (ss : List ToSend) → AllByRecursion (λ m. rows_in m.part < 2 ^ 63) ss → RefusesOne e send_options ss → (e ≡ errors.Memory) ⊎ ((e ≡ errors.TooLarge) × (all_may_be_sent (map sent_message ss) ≡ false))
each_refused e [] few h = absurd h
each_refused e (s ∷ ss) few (inl h) = elim (one_refused e s few.0 h) [ inl memory ↦ inl memory | inr large ↦ inr (large.0, ap (λ b. b && all_may_be_sent (map sent_message ss)) large.1) ]
each_refused e (s ∷ ss) few (inr h) = elim (each_refused e ss few.1 h.1) [ inl memory ↦ inl memory | inr large ↦ inr (large.0, ap (λ b. may_be_sent (sent_message s) && b) large.1 ∙ and_false (may_be_sent (sent_message s))) ]

-- ── what is found ──

-- What is found of the first batch, and of those behind it: all that is to be sent of the dictionaries, and nothing.
pub record Finds (is_first : Bool) (fs : Fields) (d : Dictionaries) (ps : List PartTree) (t : DictionaryTracker) (columns : Forest) (own : Ids) : Type 0 where
  pub behind : Sending
  pub is : found t columns own ≡ Ok behind
  pub refuses : (e : IpcError) → RefusesOne e send_options behind.sent → (e ≡ errors.Memory) ⊎ ((e ≡ errors.TooLarge) × (is_first ≡ true) × (all_may_be_sent (dictionary_messages d fs) ≡ false))
  pub fits : all_fit send_options behind.sent ≡ true → is_first ≡ true → all_may_be_sent (dictionary_messages d fs) ≡ true
  pub none : is_first ≡ false → behind.sent ≡ []
  pub no_more : SendsNoMore fs d ps own behind.held

-- nothing is wrong with the columns
no_fault : (t : DictionaryTracker) (columns : Forest) (own : Ids) → columns_fault (columns_of columns) own ≡ None → found t columns own ≡ arrays_sent (options_of t) columns own (begun t)
no_fault t columns own none = ap (λ f. unless_fault f (arrays_sent (options_of t) columns own (begun t))) none

pub finds_first : FileDictionariesAreSent → (fs : Fields) (d : Dictionaries) (ps : List PartTree) (t : DictionaryTracker) (columns : Forest) (own : Ids) → options_of t ≡ record { cannot_replace = false; deltas = true } → columns_fault (columns_of columns) own ≡ None
    → AreFileColumns fs d ps own columns → ((id : ℤ) → held_by t id ≡ None) → Finds true fs d ps t columns own
finds_first law fs d ps t columns own options right are none =
    let sends : SendsValues (options_of t) fs d ps own columns (begun t) = law (options_of t) fs d ps own columns (begun t) (ap (λ o. o.deltas) options) are none refl in
    record {
      behind = sends.behind;
      is = no_fault t columns own right ∙ sends.is;
      refuses = λ e h. elim (each_refused e sends.behind.sent sends.few h) [ inl memory ↦ inl memory | inr large ↦ inr (large.0, refl, ap all_may_be_sent (sym sends.sent) ∙ large.1) ];
      fits = λ h first. ap all_may_be_sent (sym sends.sent) ∙ each_fits sends.behind.sent h;
      none = λ never. cc;
      no_more = sends.no_more;
    }

-- what is held may be seen otherwise
pub no_more_as : (fs : Fields) (d : Dictionaries) (ps : List PartTree) (own : Ids) (h g : Held) → ((q : ℤ) → g q ≡ h q) → SendsNoMore fs d ps own h → SendsNoMore fs d ps own g
no_more_as fs d ps own h g same sends = λ o columns now deltas are held. sends o columns now deltas are (λ q. held q ∙ same q)

pub finds_none : (fs : Fields) (d : Dictionaries) (ps : List PartTree) (t : DictionaryTracker) (columns : Forest) (own : Ids) → options_of t ≡ record { cannot_replace = false; deltas = true } → columns_fault (columns_of columns) own ≡ None
    → AreFileColumns fs d ps own columns → SendsNoMore fs d ps own (held_by t) → Finds false fs d ps t columns own
finds_none fs d ps t columns own options right are sends =
    let none = sends (options_of t) columns (begun t) (ap (λ o. o.deltas) options) are (λ q. refl) in
    let empty : none.0.sent ≡ [] = none.2 in
    record {
      behind = none.0;
      is = no_fault t columns own right ∙ none.1;
      refuses = λ e h. absurd (subst (RefusesOne e send_options) empty h);
      fits = λ h never. cc;
      none = λ later. empty;
      no_more = no_more_as fs d ps own (held_by t) none.0.held none.3 sends;
    }
