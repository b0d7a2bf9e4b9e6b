-- A schema that was read: the stream of it is begun, or refused for a kind that is never read, or for the length of its message.
use Rattle.std.proofs.Common.{◌≡◌, ◌∙◌, ◌⊎◌, inl, inr, ℕ, List, [], ◌∷◌, length, min, Bool, true, false, None, Ok, Err, refl, sym, subst}
use Rattle.std.specs.Prelude.{nat_le}
use Rattle.arrow_spec.specs.declared.error.IpcError.{IpcError}
use Rattle.arrow_spec.specs.declared.error.IpcError.TheVariants.{TooLarge}
use Rattle.arrow_spec.specs.Features.{chosen_floats, floats_in}
use Rattle.arrow_spec.specs.Flat.{little}
use Rattle.arrow_spec.specs.Kinds.{Fields, numbered, uses_in}
use Rattle.arrow_spec.specs.Layout.{Node, layout, size, up_to}
use Rattle.arrow_spec.specs.Readings.{IsAmong, Reading, bind, free_of, refusals, unless}
use Rattle.arrow_spec.specs.Regular.{representable}
use Rattle.arrow_spec.specs.Schema.{uses_agree}
use Rattle.arrow_spec.specs.Sent.{schema_message}
use Rattle.arrow_spec.specs.WrittenSchemas.{SchemaMayBeWritten, own_fields}
use Rattle.arrow_spec.proofs.NumberedFields.{numbered_may, uses_numbered}
use Rattle.arrow_types.specs.Schemas.{Keyed, fields_in}
use Rattle.ipc_fields.specs.IpcFields.{Ids, fields_with, have_shapes}
use Rattle.ipc_concat.proofs.Fields.{chosen_bare}
use Rattle.ipc_concat.specs.Below.{SchemaIsSaid, stream_text, plain_fields, send_options}
use Rattle.ipc_fields.specs.Representable.{all_representable}
use Rattle.ipc_concat.proofs.Below.{plain_fields_with, same_numbers, same_representable, can_be_said, fields_own, fields_representable, numberable, floats_own, all_floats}
use Rattle.schema_writer.specs.Defaults.{IsNumbered}
use Rattle.schema_writer.specs.Serialized.{serialized, written}
use Rattle.ipc_tablelog.specs.Below.{WasSaid, log_fields}
use Rattle.ipc_log_streams.specs.Streams.{no_pairs}

-- ── its message ──

-- the flatbuffer of a message, where it is not too long
abbrev if_small : Node → Reading (List ℕ)
if_small n = bind (unless (nat_le (size n) 2147483647) TooLarge) (λ small. Ok (layout n))

-- fields that can be said are written under their ids, where their message is small
written_is : (fs gs : Fields) (own : Ids) → fields_with fs own ≡ gs → have_shapes fs own ≡ true → uses_agree [] (uses_in gs) ≡ Ok tt → representable gs ≡ true → written little fs own [] [] ≡ if_small (schema_message little gs [] []).node
unfolding written serialized bind
written_is fs gs own same shape uses said = rw (same, shape, uses, said) refl

unless_small : (b : Bool) {A : Type 0} (x : A) (e : IpcError) → IsAmong (refusals (bind (unless b TooLarge) (λ small. Ok x))) e → TooLarge ≡ e
unfolding bind
unless_small true x e h = absurd h
unless_small false x e (inl h) = h
unless_small false x e (inr h) = absurd h

-- what a text of a schema is refused for, where its flatbuffer is for nothing but its length
steps : (es : List IpcError) (r : Reading (List ℕ)) (text : List ℕ) (e : IpcError) → ((x : IpcError) → IsAmong (refusals r) x → TooLarge ≡ x)
    → IsAmong (refusals (bind (free_of es) (λ free. bind r (λ metadata. bind (unless (nat_le (up_to 8 (length metadata)) (min 2147483647 2147483647)) TooLarge) (λ small. Ok text))))) e → IsAmong es e ⊎ ((es ≡ []) × (TooLarge ≡ e))
unfolding bind
steps [] (Ok metadata) text e of h = inr (refl, unless_small (nat_le (up_to 8 (length metadata)) (min 2147483647 2147483647)) text e h)
steps [] (Err xs) text e of h = inr (refl, of e h)
steps (x ∷ xs) r text e of h = inl h

text_refused : (fs : Fields) (own : Ids) (e : IpcError) → ((x : IpcError) → IsAmong (refusals (written little fs own [] [])) x → TooLarge ≡ x) → IsAmong (refusals (stream_text send_options fs own no_pairs)) e → IsAmong (floats_in fs) e ⊎ ((floats_in fs ≡ []) × (TooLarge ≡ e))
unfolding stream_text bind
text_refused fs own e of h = steps (floats_in fs) (written little fs own [] []) _ e of h

-- ── the schema ──

module _ (s : List Keyed) (said : WasSaid s) where
  abbrev gs : Fields
  gs = fields_with (fields_in s) said.own

  same : plain_fields (fields_in s) ≡ plain_fields gs
  same = sym (plain_fields_with (fields_in s) said.own)

  pub are_representable : all_representable (fields_in s) ≡ true
  are_representable = same_representable (fields_in s) gs same ∙ fields_representable 64 gs said.may.fit

  numbers : (own : Ids) → IsNumbered (fields_in s) own → fields_with (fields_in s) own ≡ numbered gs 0
  numbers own ids = ids.ids (numberable (fields_in s) are_representable) ∙ same_numbers (fields_in s) gs same 0

  said_numbered : SchemaIsSaid (numbered gs 0) []
  said_numbered =
      let both = numbered_may gs [] said.may in
      let own : own_fields (numbered gs 0) ≡ numbered gs 0 = fields_own 64 (numbered gs 0) both.0.fit in
      record { schema = subst (λ (hs : Fields). SchemaMayBeWritten hs []) (sym own) both.0; ids = rw own both.1 }

  -- it is said under ids that count from 0
  pub is_said : (own : Ids) → IsNumbered (fields_in s) own → SchemaIsSaid (fields_with (fields_in s) own) []
  is_said own ids = subst (λ (hs : Fields). SchemaIsSaid hs []) (sym (numbers own ids)) said_numbered

  -- and refused for nothing else
  pub refused : (own : Ids) → IsNumbered (fields_in s) own → (e : IpcError) → IsAmong (refusals (stream_text send_options (fields_in s) own no_pairs)) e → IsAmong (floats_in (fields_in s)) e ⊎ ((floats_in (fields_in s) ≡ []) × (TooLarge ≡ e))
  refused own ids e =
      let n = (schema_message little (numbered gs 0) [] []).node in
      let is = written_is (fields_in s) (numbered gs 0) own (numbers own ids) ids.shaped (uses_numbered gs) (can_be_said gs [] said.may) in
      text_refused (fields_in s) own e (λ x h. unless_small (nat_le (size n) 2147483647) (layout n) x (subst (λ (r : Reading (List ℕ)). IsAmong (refusals r) x) is h))

-- the kinds of a log's fields that are never read are those of its schema
pub log_floats : (s : List Keyed) → chosen_floats None (log_fields s) 0 ≡ floats_in (fields_in s)
log_floats s = chosen_bare (own_fields (fields_in s)) 0 ∙ all_floats (own_fields (fields_in s)) 0 ∙ floats_own (fields_in s)
