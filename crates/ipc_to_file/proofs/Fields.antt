-- The fields of a stream's schema under ids that count from 0, as a file says them.
use Rattle.std.proofs.Common.{◌≡◌, ◌⊎◌, inl, inr, ℕ, List, [], ◌∷◌, Bool, true, false, min, None, Ok, refl, sym, ap, subst, ◌∙◌}
use Rattle.std.specs.Prelude.{length, nat_le}
use Rattle.std.specs.Rc.{rc_value}
use Rattle.arrow_spec.specs.declared.error.IpcError.{IpcError}
use Rattle.arrow_spec.specs.declared.error.IpcError.TheVariants.{TooLarge}
use Rattle.arrow_spec.specs.Features.{chosen_floats, floats_in}
use Rattle.arrow_spec.specs.Flat.{little}
use Rattle.arrow_spec.specs.Kinds.{Fields, Metadata, bare, numbered, uses_in}
use Rattle.arrow_spec.specs.Layout.{up_to}
use Rattle.arrow_spec.specs.Readings.{IsAmong, bind, free_of, refusals, unless}
use Rattle.arrow_spec.specs.Regular.{representable}
use Rattle.arrow_spec.specs.Schema.{uses_agree}
use Rattle.arrow_spec.specs.Sent.{schema_node}
use Rattle.arrow_spec.specs.WrittenSchemas.{SchemaMayBeWritten, own_fields}
use Rattle.arrow_spec.proofs.NumberedFields.{bare_numbered, numbered_may, uses_numbered}
use Rattle.arrow_types.specs.Schemas.{fields_in}
use Rattle.ipc_fields.specs.IpcFields.{Ids, fields_with, have_shapes, ids_of}
use Rattle.schema_writer.specs.Serialized.{serialized, written}
use Rattle.laws_walk.specs.Below.{StreamPairs, stream_text, said_fields, SchemaIsSaid}
use Rattle.ipc_fields.specs.Representable.{all_representable}
use Rattle.ipc_append.proofs.Below.{all_floats, same_numbers, same_representable, can_be_said, fields_own, fields_representable, numberable, chosen_floats_with, plain_fields_with}
use Rattle.schema_writer.specs.Defaults.{IsNumbered}
use Rattle.ipc_append.specs.Below.{WriteOptions, MayBeWritten, stream_schema, StreamMetadata}

-- what a file says of them
pub record AreFileFields (m : StreamMetadata) (own : Ids) : Type 0 where
  pub shapes : have_shapes (fields_in (rc_value m.schema)) own ≡ true
  pub numbers : fields_with (fields_in (rc_value m.schema)) own ≡ numbered (fields_in (rc_value m.schema)) 0
  pub agree : uses_agree [] (uses_in (fields_with (fields_in (rc_value m.schema)) own)) ≡ Ok tt
  pub all : all_representable (fields_in (rc_value m.schema)) ≡ true
  pub sayable : representable (fields_with (fields_in (rc_value m.schema)) own) ≡ true
  pub said : SchemaIsSaid (fields_with (fields_in (rc_value m.schema)) own) (stream_schema m).metadata
  pub fields : bare (said_fields (fields_in (rc_value m.schema)) own) ≡ bare (stream_schema m).fields

pub are_file_fields : (m : StreamMetadata) (own : Ids) → MayBeWritten m → IsNumbered (fields_in (rc_value m.schema)) own → AreFileFields m own
are_file_fields m own w ids =
    let fs = fields_in (rc_value m.schema) in
    let gs = (stream_schema m).fields in
    let pairs = (stream_schema m).metadata in
    let plain = sym (plain_fields_with fs (ids_of m.ipc_schema.fields.items)) in
    let all : all_representable fs ≡ true = same_representable fs gs plain ∙ fields_representable 64 gs w.schema.fit in
    let numbers : fields_with fs own ≡ numbered fs 0 = ids.ids (numberable fs all) in
    let other : numbered fs 0 ≡ numbered gs 0 = same_numbers fs gs plain 0 in
    let both : fields_with fs own ≡ numbered gs 0 = numbers ∙ other in
    let may = numbered_may gs pairs w.schema in
    let same : own_fields (numbered gs 0) ≡ numbered gs 0 = fields_own 64 (numbered gs 0) may.0.fit in
    let said : SchemaIsSaid (numbered gs 0) pairs = record { schema = subst (λ hs. SchemaMayBeWritten hs pairs) (sym same) may.0; ids = rw same may.1 } in
    record {
      shapes = ids.shaped;
      numbers = numbers;
      agree = ap (λ hs. uses_agree [] (uses_in hs)) both ∙ uses_numbered gs;
      all = all;
      sayable = ap representable both ∙ can_be_said gs pairs w.schema;
      said = subst (λ hs. SchemaIsSaid hs pairs) (sym both) said;
      fields = ap (λ hs. bare (own_fields hs)) both ∙ ap bare same ∙ bare_numbered gs 0;
    }

-- ── they are written ──

-- the table of the schema can be written, with whatever pairs
pub serialized_is : (fs : Fields) (own : Ids) (pairs : Metadata) → have_shapes fs own ≡ true → uses_agree [] (uses_in (fields_with fs own)) ≡ Ok tt → representable (fields_with fs own) ≡ true
    → serialized little fs own pairs ≡ Ok (schema_node little (fields_with fs own) pairs)
unfolding serialized bind
serialized_is fs own pairs shapes uses said = rw (shapes, uses, said) refl

one_limit : (b : Bool) (y : List ℕ) (e : IpcError) → IsAmong (refusals (bind (unless b TooLarge) (λ small. Ok y))) e → e ≡ TooLarge
unfolding bind
one_limit true y e h = absurd h
one_limit false y e (inl h) = sym h
one_limit false y e (inr h) = absurd h

two_limits : (a : Bool) (b : List ℕ → Bool) (x y : List ℕ) (e : IpcError) → IsAmong (refusals (bind (bind (unless a TooLarge) (λ small. Ok x)) (λ metadata. bind (unless (b metadata) TooLarge) (λ small. Ok y)))) e → e ≡ TooLarge
unfolding bind
two_limits true b x y e h = one_limit (b x) y e h
two_limits false b x y e (inl h) = sym h
two_limits false b x y e (inr h) = absurd h

kinds_or_limits : (es : List IpcError) (a : Bool) (b : List ℕ → Bool) (x y : List ℕ) (e : IpcError) → IsAmong (refusals (bind (free_of es) (λ free. bind (bind (unless a TooLarge) (λ small. Ok x)) (λ metadata. bind (unless (b metadata) TooLarge) (λ small. Ok y))))) e
    → IsAmong es e ⊎ (e ≡ TooLarge)
unfolding bind
kinds_or_limits [] a b x y e h = inr (two_limits a b x y e h)
kinds_or_limits (z ∷ zs) a b x y e h = inl h

-- its message is refused for a kind that is never read, or as too large
pub message_cause : (options : WriteOptions) (fs : Fields) (own : Ids) (pairs : StreamPairs) (e : IpcError) → options.compression ≡ None → have_shapes fs own ≡ true → uses_agree [] (uses_in (fields_with fs own)) ≡ Ok tt → representable (fields_with fs own) ≡ true
    → IsAmong (refusals (stream_text options fs own pairs)) e → IsAmong (floats_in fs) e ⊎ (e ≡ TooLarge)
unfolding stream_text written serialized bind
message_cause options fs own pairs e plain shapes uses said =
    rw (plain, shapes, uses, said) (kinds_or_limits (floats_in fs) _ (λ metadata. nat_le (up_to 8 (length metadata)) (min options.metadata_limit 2147483647)) _ _ e)

-- the kinds that are never read are those of the stream's fields
pub floats_are : (m : StreamMetadata) → floats_in (fields_in (rc_value m.schema)) ≡ chosen_floats None (stream_schema m).fields 0
floats_are m = sym (all_floats (fields_in (rc_value m.schema)) 0) ∙ sym (chosen_floats_with None (fields_in (rc_value m.schema)) (ids_of m.ipc_schema.fields.items) 0)
