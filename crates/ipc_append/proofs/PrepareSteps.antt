-- A file is looked at, its dictionaries are read, and a stream's batches are encoded under its ids.
use Rattle.std.proofs.Common.{◌≡◌, ◌∙◌, inl, inr, ℕ, ◌≤◌, ℤ, List, [], true, false, true≢false, IsTrue, ◌↔◌, Option, Some, None, Result, Ok, Err, IfSome, Vec, Global, refl, sym, ap, subst}
use Rattle.std.specs.Prelude.{All}
use Rattle.std.specs.BTreeMap.{BTreeMap}
use Rattle.std.specs.Rc.{rc_value}
use Rattle.std.specs.Result.{IsErrAnd}
use Rattle.arrow_spec.specs.declared.error.IpcError.{IpcError}
use Rattle.arrow_spec.specs.declared.error.IpcError.TheVariants.{SchemaMismatch}
use Rattle.arrow_spec.specs.Arrays.{Dictionaries}
use Rattle.arrow_spec.specs.Files.{dictionaries_of}
use Rattle.arrow_spec.specs.Kinds.{bare, have_same_kinds}
use Rattle.arrow_spec.specs.Readings.{Refuses, refusals}
use Rattle.arrow_arrays.specs.Batches.{Batch}
use Rattle.arrow_arrays.specs.declared.array.Array.{Array}
use Rattle.arrow_types.specs.Schemas.{Keyed, fields_in}
use Rattle.ipc_file_writer.specs.Below.{DictionaryTracker}
use Rattle.ipc_fields.specs.IpcFields.{ids_of}
use Rattle.ipc_fields.specs.declared.ipc_field.IpcField.{IpcField}
use Rattle.ipc_streams.specs.Below.{HoldsUses, FileCause, IsNatural, meta_view, FileMetadata, held_in, HoldsCells, WriteOptions}
use Rattle.ipc_streams.specs.Below.FileDictionaries as files
use Rattle.ipc_streams.proofs.Below.{refused_in_file}
use Rattle.ipc_streams.proofs.TakenCalls.{cause_since}
use Rattle.ipc_streams.specs.declared.metadata.StreamMetadata.{StreamMetadata}
use Rattle.ipc_append.specs.Appended.{IsPrepared, NotPrepared}
use Rattle.ipc_append.specs.Encoded.{EncodesAll}
use Rattle.ipc_append.specs.Targets.{DoesNotTake, HaveSameFields, HoldsDictionaries, IsMetadata, LacksDictionaries, ReadsDictionaries, Takes}
use Rattle.ipc_append.specs.declared.encode.EncodedChunk.{EncodedChunk}
use Rattle.ipc_append.specs.declared.stream.WholeStream.{WholeStream}
use Rattle.same_fields.proofs.BareKinds.{fields_with_bare}
use Rattle.ipc_append.proofs.Handed.{handed}

-- ── fields ──

abbrev SameFields : FileMetadata → StreamMetadata → Type 0
SameFields m s = bare (fields_in (rc_value m.schema)) ≡ bare (fields_in (rc_value s.schema))

same_with_ids : (m : FileMetadata) (s : StreamMetadata) → SameFields m s → HaveSameFields m s
same_with_ids m s h = fields_with_bare (fields_in (rc_value m.schema)) (ids_of m.ipc_schema.fields.items) ∙ h ∙ sym (fields_with_bare (fields_in (rc_value s.schema)) (ids_of s.ipc_schema.fields.items))

same_without_ids : (m : FileMetadata) (s : StreamMetadata) → HaveSameFields m s → SameFields m s
same_without_ids m s h = sym (fields_with_bare (fields_in (rc_value m.schema)) (ids_of m.ipc_schema.fields.items)) ∙ h ∙ fields_with_bare (fields_in (rc_value s.schema)) (ids_of s.ipc_schema.fields.items)

pub takes_it : (content : Option (List ℕ)) (m : FileMetadata) (s : StreamMetadata) → IsMetadata content m → SameFields m s → have_same_kinds (fields_in (rc_value m.schema)) (fields_in (rc_value s.schema)) ≡ true → Takes content s m
takes_it content m s i h kinds = record { metadata = i; fields = same_with_ids m s h; kinds = kinds }

pub has_others : (content : Option (List ℕ)) (m : FileMetadata) (s : StreamMetadata) (f g : ℕ) → IsMetadata content m → (SameFields m s → ⊥) → DoesNotTake content SchemaMismatch s f g
has_others content m s f g i h = inr (refl, record { file = m; metadata = i; others = λ k. h (same_without_ids m s k) })

pub takes_of : (content : Option (List ℕ)) (m : FileMetadata) (s : StreamMetadata) → IsMetadata content m → (a b : List Keyed) → a ≡ rc_value m.schema → b ≡ rc_value s.schema → IsTrue true ↔ (bare (fields_in a) ≡ bare (fields_in b)) → (true ≡ true → have_same_kinds (fields_in a) (fields_in b) ≡ true) → Takes content s m
takes_of content m s i a b p q h kinds =
    takes_it content m s i (ap (λ x. bare (fields_in x)) (sym p) ∙ h.0 refl ∙ ap (λ x. bare (fields_in x)) q)
    (subst (λ y. have_same_kinds (fields_in (rc_value m.schema)) (fields_in y) ≡ true) q (subst (λ x. have_same_kinds (fields_in x) (fields_in b) ≡ true) p (kinds refl)))

pub has_others_of : (content : Option (List ℕ)) (m : FileMetadata) (s : StreamMetadata) (f g : ℕ) → IsMetadata content m → (a b : List Keyed) → a ≡ rc_value m.schema → b ≡ rc_value s.schema → IsTrue false ↔ (bare (fields_in a) ≡ bare (fields_in b)) → DoesNotTake content SchemaMismatch s f g
has_others_of content m s f g i a b p q h = has_others content m s f g i (λ k. true≢false (sym (h.1 (ap (λ x. bare (fields_in x)) p ∙ k ∙ ap (λ x. bare (fields_in x)) (sym q)))))

-- ── dictionaries ──

pub tracker_reads : (content : Option (List ℕ)) (asked : WriteOptions) (m : FileMetadata) (held : BTreeMap ℤ (Vec Array Global)) (f g : ℕ) → IfSome content (λ b. files.ReadsDictionaries b (meta_view m) m.dictionaries.items (Ok held)) → HoldsUses (meta_view m) (held_in held)
    → ReadsDictionaries (Ok (record { dictionaries = held; cannot_replace = true; deltas = asked.deltas })) content asked m f g
tracker_reads content asked m held f g h u = record { fixed = refl; deltas = refl; values = by content h; uses = u }
  where
    by : (o : Option (List ℕ)) → IfSome o (λ b. files.ReadsDictionaries b (meta_view m) m.dictionaries.items (Ok held)) → IfSome o (λ b. (d : Dictionaries) × (dictionaries_of b (meta_view m) [] (meta_view m).dictionaries ≡ Ok d) × HoldsCells d (held_in held))
    by None k = tt
    by (Some b) k = k.said

pub tracker_handed : (content : Option (List ℕ)) (asked : WriteOptions) (m : FileMetadata) (e : IpcError) (f g : ℕ) (r : Result DictionaryTracker IpcError) → IsErrAnd r (λ x. x ≡ e) → ReadsDictionaries (Err e) content asked m f g → ReadsDictionaries r content asked m f g
tracker_handed content asked m e f g r is h = handed (λ x. ReadsDictionaries x content asked m f g) r e is h

pub tracker_refused : (content : Option (List ℕ)) (asked : WriteOptions) (m : FileMetadata) (e : IpcError) (f g : ℕ) → All IsNatural m.dictionaries.items → IfSome content (λ b. files.ReadsDictionaries b (meta_view m) m.dictionaries.items (Err e)) → FileCause e f g → ReadsDictionaries (Err e) content asked m f g
tracker_refused content asked m e f g natural h c = record { cause = c; refused = by content h }
  where
    by : (o : Option (List ℕ)) → IfSome o (λ b. files.ReadsDictionaries b (meta_view m) m.dictionaries.items (Err e)) → IfSome o (λ b. Refuses e (refusals (dictionaries_of b (meta_view m) [] (meta_view m).dictionaries)))
    by None k = tt
    by (Some b) k = refused_in_file b (meta_view m) [] m.dictionaries.items e natural k.err

-- ── a stream's batches ──

module _ (old mid : Option (List ℕ)) (asked : WriteOptions) (s : WholeStream) (m : FileMetadata) (same : mid ≡ old) (takes : Takes old s.metadata m) (f g h : ℕ) where
  pub dictionaries_refused : (e : IpcError) → f ≤ g → ReadsDictionaries (Err e) mid asked m g h → NotPrepared old e asked s f h
  dictionaries_refused e less r = by (subst (λ o. LacksDictionaries o e m g h) same r)
    where
      by : LacksDictionaries old e m g h → NotPrepared old e asked s f h
      by k = inr (inl (record { file = m; takes = takes; lacks = record { cause = cause_since e f g h less k.cause; refused = k.refused } }))

  module _ (t t' : DictionaryTracker) (r : ReadsDictionaries (Ok t) mid asked m g h) (fields : List IpcField) (batches : List Batch) (fields_are : fields ≡ m.ipc_schema.fields.items) (batches_are : batches ≡ s.batches.items) where
    held : HoldsDictionaries old asked m t
    held = subst (λ o. HoldsDictionaries o asked m t) same r

    under : (x : Result (Vec EncodedChunk Global) IpcError) → EncodesAll x asked (ids_of fields) t t' batches → EncodesAll x asked (ids_of m.ipc_schema.fields.items) t t' s.batches.items
    under x k = subst (λ bs. EncodesAll x asked (ids_of m.ipc_schema.fields.items) t t' bs) batches_are (subst (λ fs. EncodesAll x asked (ids_of fs) t t' batches) fields_are k)

    pub batches_refused : (e : IpcError) (i : ℕ) → EncodesAll (Err e) asked (ids_of fields) t t' batches → NotPrepared old e asked s f i
    batches_refused e i k = inr (inr (record { file = m; takes = takes; held = t; holds = held; refused = under (Err e) k }))

    pub is_prepared : (v : Vec EncodedChunk Global) → EncodesAll (Ok v) asked (ids_of fields) t t' batches → IsPrepared old asked s m v.items
    is_prepared v k = record { takes = takes; held = t; holds = held; behind = t'; encoded = under (Ok v) k }
