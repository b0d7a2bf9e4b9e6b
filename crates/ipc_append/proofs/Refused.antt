-- What is refused by what bytes, schemas and batches say, in each step.
use Rattle.std.proofs.Common.{◌≡◌, ◌∙◌, ◌⊎◌, inl, inr, ℕ, ℤ, pos, negsuc, List, [], ◌∷◌, Bool, true, false, Option, None, Result, IfErr, refl, sym, ap, subst}
use Rattle.std.specs.Prelude.{⊤}
use Rattle.std.specs.Rc.{rc_value}
use Rattle.std.specs.Result.{IsErrAnd}
use Rattle.std.proofs.lemmas.Bool.{and_from}
use Rattle.arrow_spec.specs.declared.error.IpcError.{IpcError}
use Rattle.arrow_spec.specs.declared.error.IpcError.TheVariants as errors
use Rattle.arrow_spec.specs.declared.error.Feature.TheVariants.{Compression}
use Rattle.arrow_spec.specs.declared.message.Block.{Block}
use Rattle.arrow_spec.specs.Readings.{IsAmong, natural, refusals, unless}
use Rattle.arrow_spec.specs.Flat.{little}
use Rattle.arrow_spec.specs.Kinds.{Fields, Metadata, uses_in}
use Rattle.arrow_spec.specs.Regular.{representable}
use Rattle.arrow_spec.specs.Schema.{uses_agree}
use Rattle.arrow_types.specs.Schemas.{fields_in}
use Rattle.arrow_arrays.specs.Batches.{Batch}
use Rattle.arrow_arrays.specs.Parts.{forest}
use Rattle.ipc_file_writer.proofs.Below.{IsOfChunk, batch_refused, refused_behind, refused_chosen, refused_of, refused_unless}
use Rattle.ipc_append.specs.Appends.{Continues, StopsBefore, cut_place}
use Rattle.ipc_append.specs.Places.{block_end, farthest, last_end}
use Rattle.ipc_file_writer.specs.Below.{columns_fault, columns_of, Options, DictionaryTracker, belong_to, has_meaning, serialized}
use Rattle.ipc_fields.specs.IpcFields.{Ids, fields_with, have_shapes, ids_of}
use Rattle.ipc_file_writer.specs.Calls.{ending_of, file_ids, file_schema}
use Rattle.ipc_file_writer.specs.Ends.{file_ending}
use Rattle.ipc_file_writer.specs.declared.file.FileCore.{FileCore}
use Rattle.ipc_streams.specs.Below.{FileCause, WasRead, meta_view, FileMetadata, block_by, WriteOptions}
use Rattle.ipc_io.specs.Outside.{Rose}
use Rattle.laws_sent.proofs.SayableFields.{may_be_said}
use Rattle.ipc_append.specs.Appended.{BatchesRefused, IsNotAppended, NotContinued, NotPrepared, RefusalSays}
use Rattle.ipc_append.specs.Encoded.{AreEncoded, AreRefused, none_encoded, one_encoded}
use Rattle.ipc_append.specs.Puts.{PutCause}
use Rattle.ipc_append.specs.declared.encode.EncodedChunk.{EncodedChunk}
use Rattle.ipc_append.specs.declared.stream.WholeStream.{WholeStream}
use Rattle.ipc_append.proofs.Handed.{refused}
use Rattle.ipc_append.proofs.RightColumns.{has_no_fault}

-- a refusal of which nothing more is said
abbrev pub IsPlain : IpcError → Type 0
IsPlain errors.ReadFault = ⊥
IsPlain errors.WriteFault = ⊥
IsPlain errors.SchemaMismatch = ⊥
IsPlain errors.NotRepresentable = ⊥
IsPlain (errors.Projection index) = ⊥
IsPlain errors.State = ⊥
IsPlain e = ⊤

-- ── where a file is cut ──

-- a number of a block
number : (z : ℤ) (e : IpcError) → IsAmong (refusals (natural z)) e → IsPlain e
number (pos n) e m = absurd m
number (negsuc n) e (inl is) = subst IsPlain is tt
number (negsuc n) e (inr m) = absurd m

end_refused : (x : Block) (e : IpcError) → IsAmong (refusals (block_end x)) e → IsPlain e
end_refused x e m =
    refused_behind IsPlain (block_by x) _ e (λ n. refused_behind IsPlain (natural x.offset) _ e (number _ e) (λ a o. refused_behind IsPlain (natural x.meta_data_length) _ e (number _ e) (λ b p. refused_behind IsPlain (natural x.body_length) _ e (number _ e) (λ d q. absurd q) p) o) n)
    (λ b n. absurd n) m

blocks_refused : (xs : List Block) (place : ℕ) (e : IpcError) → IsAmong (refusals (farthest place xs)) e → IsPlain e
unfolding farthest
blocks_refused [] place e m = absurd m
blocks_refused (x ∷ xs) place e m = refused_behind IsPlain (block_end x) _ e (end_refused x e) (λ end n. blocks_refused xs _ e n) m

cut_refused : (asked : WriteOptions) (m : FileMetadata) (e : IpcError) → IsAmong (refusals (cut_place asked m)) e → IsPlain e
unfolding cut_place last_end
cut_refused asked m e k =
    refused_behind IsPlain _ _ e (λ n. refused_unless IsPlain _ _ e tt n) (λ a n. refused_behind IsPlain _ _ e (λ o. refused_unless IsPlain _ _ e tt o) (λ b o. refused_behind IsPlain _ _ e (λ p. refused_chosen IsPlain (λ feature. tt) None (meta_view m).schema.fields 0 e (refused_of _ e p))
    (λ d p. refused_behind IsPlain _ _ e (λ q. refused_behind IsPlain _ _ e (λ r. refused_unless IsPlain _ _ e tt r) (λ f r. refused_behind IsPlain _ _ e (blocks_refused _ _ e) (λ g r. refused_behind IsPlain _ _ e (blocks_refused _ _ e) (λ h r. refused_behind IsPlain _ _ e (λ r. refused_unless IsPlain _ _ e tt r) (λ i r. absurd r) r) r) r) q)
    (λ end q. refused_behind IsPlain _ _ e (λ r. refused_unless IsPlain _ _ e tt r) (λ f r. refused_behind IsPlain _ _ e (λ r. refused_unless IsPlain _ _ e tt r) (λ g r. absurd r) r) q) p) o) n) k

-- ── where a file that was read ends ──

never : (b : Bool) (x e : IpcError) → b ≡ true → IsAmong (refusals (unless b x)) e → IsPlain e
never true x e h m = absurd m
never false x e h m = cc

schema_refused : (fs : Fields) (below : Ids) (pairs : Metadata) (e : IpcError) → belong_to below fs ≡ true → representable (fields_with fs below) ≡ true → IsAmong (refusals (serialized little fs below pairs)) e → IsPlain e
unfolding serialized
schema_refused fs below pairs e own said m =
    refused_behind IsPlain _ _ e (λ n. never (belong_to below fs) errors.SchemaMismatch e own n) (λ a n. refused_behind IsPlain _ _ e (λ o. never (representable (fields_with fs below)) errors.NotRepresentable e said o) (λ b o. absurd o) n) m

-- the schema of a file that was read is said under its own ids
own_said : (m : FileMetadata) (fs : Fields) (below : Ids) → WasRead m → fs ≡ fields_in (rc_value m.schema) → below ≡ ids_of m.ipc_schema.fields.items → (belong_to below fs ≡ true) × (representable (fields_with fs below) ≡ true)
own_said m fs below w schema ids =
    let gs = fields_in (rc_value m.schema) in
    let own = ids_of m.ipc_schema.fields.items in
    let belongs : belong_to own gs ≡ true = and_from (have_shapes gs own) (has_meaning (uses_agree [] (uses_in (fields_with gs own)))) w.readable.shapes (ap has_meaning w.readable.agree) in
    let said : representable (fields_with gs own) ≡ true = may_be_said (fields_with gs own) (meta_view m).schema.metadata w.may w.ids in
    rw (schema, ids) (belongs, said)

ending_refused : (asked : WriteOptions) (m : FileMetadata) (place : ℕ) (c : FileCore) (e : IpcError) → WasRead m → Continues asked m place c → IsAmong (refusals (ending_of c)) e → IsPlain e
unfolding file_ending
ending_refused asked m place c e w k n =
    let own = own_said m (fields_in (file_schema c)) (file_ids c) w (ap (λ s. fields_in (rc_value s)) k.schema) k.ids in
    refused_behind IsPlain _ _ e (λ o. schema_refused (fields_in (file_schema c)) (file_ids c) _ e own.0 own.1 o)
    (λ d o. refused_behind IsPlain _ _ e (λ p. refused_unless IsPlain _ _ e tt p) (λ a p. refused_behind IsPlain _ _ e (λ q. refused_unless IsPlain _ _ e tt q) (λ b q. absurd q) p) o) n

-- ── batches ──

still_deltas : (asked : WriteOptions) (below : Ids) (t u : DictionaryTracker) (bs : List Batch) (cs : List EncodedChunk) → AreEncoded asked below t u bs cs → t.deltas ≡ asked.deltas → u.deltas ≡ asked.deltas
still_deltas asked below t u [] [] none_encoded h = h
still_deltas asked below t u [] (c ∷ cs) e h = elim e [ ]
still_deltas asked below t u (b ∷ bs) [] e h = elim e [ ]
still_deltas asked below t u (b ∷ bs) (c ∷ cs) (one_encoded {u = v} e es) h = still_deltas asked below v u bs cs es (ap (λ (o : Options). o.deltas) e.kept ∙ h)

-- ── what each step says ──

module _ (content : Option (List ℕ)) (asked : WriteOptions) (s : WholeStream) (f g : ℕ) where
  plain : (e : IpcError) → IsPlain e → RefusalSays e content asked s f g
  plain errors.ReadFault h = absurd h
  plain errors.WriteFault h = absurd h
  plain errors.SchemaMismatch h = absurd h
  plain errors.NotRepresentable h = absurd h
  plain (errors.Projection x) h = absurd h
  plain errors.State h = absurd h
  plain e h = tt

  as_plain : (e x : IpcError) → e ≡ x → IsPlain x → RefusalSays e content asked s f g
  as_plain e x is h = plain e (subst IsPlain (sym is) h)

  -- reading a file
  of_file : (e : IpcError) → FileCause e f g → RefusalSays e content asked s f g
  of_file errors.ReadFault h = h
  of_file errors.Memory h = tt
  of_file (errors.OutOfSpec x) h = tt
  of_file (errors.Unsupported x) h = tt
  of_file errors.TooDeep h = tt
  of_file (errors.TooMany x) h = tt
  of_file e h = absurd h

  -- putting
  of_put : (e : IpcError) → PutCause e f g → RefusalSays e content asked s f g
  of_put errors.WriteFault h = h
  of_put errors.TooLarge h = tt
  of_put errors.Memory h = tt
  of_put e h = absurd h

  of_chunk : (e : IpcError) → IsOfChunk asked.deltas e → RefusalSays e content asked s f g
  of_chunk errors.NotRepresentable h = h
  of_chunk errors.WriteFault h = absurd h
  of_chunk errors.ReadFault h = absurd h
  of_chunk errors.SchemaMismatch h = absurd h
  of_chunk (errors.Projection x) h = absurd h
  of_chunk errors.State h = absurd h
  of_chunk e h = tt

  of_batches : (e : IpcError) → BatchesRefused content e asked s → RefusalSays e content asked s f g
  of_batches e h = by (ids_of h.file.ipc_schema.fields.items) refl h.refused
    where
      by : (below : Ids) → below ≡ ids_of h.file.ipc_schema.fields.items → AreRefused e asked below h.held s.batches.items → RefusalSays e content asked s f g
      by below same (inl is) = as_plain e errors.Memory is tt
      by below same (inr o) =
          let none = has_no_fault content h.file s o.before o.batch o.behind h.takes o.are in
          let none_below : columns_fault (columns_of (forest o.batch.arrays)) below ≡ None = ap (columns_fault (columns_of (forest o.batch.arrays))) same ∙ none in
          let fixed : o.held.deltas ≡ asked.deltas = still_deltas asked below h.held o.held o.before o.chunks o.encoded h.holds.deltas in
          elim o.refused [
            | inl compressed ↦ as_plain e (errors.Unsupported Compression) compressed.0 tt
            | inr stops ↦
                let why = batch_refused e asked o.held o.batch below stops.1 in
                elim why [ inl fault ↦ cc | inr of ↦ of_chunk e (subst (λ d. IsOfChunk d e) fixed of) ]
          ]

  stops : (e : IpcError) (m : FileMetadata) → WasRead m → StopsBefore content e asked m f g → RefusalSays e content asked s f g
  stops e m w (inl is) = as_plain e errors.Memory is tt
  stops e m w (inr (inl h)) = plain e (cut_refused asked m e h)
  stops e m w (inr (inr (inl h))) = of_file e h.cause
  stops e m w (inr (inr (inr h))) = plain e (ending_refused asked m h.place h.core e w h.continues h.refused)

  of_cut : (e : IpcError) → ((e ≡ errors.WriteFault) × Rose f g) ⊎ (e ≡ errors.Memory) → RefusalSays e content asked s f g
  of_cut e (inl h) = subst (λ x. RefusalSays x content asked s f g) (sym h.0) h.1
  of_cut e (inr is) = as_plain e errors.Memory is tt

  -- ── a stream ──

  pub says_not_prepared : (e : IpcError) → NotPrepared content e asked s f g → RefusalSays e content asked s f g
  says_not_prepared e (inl (inl h)) = of_file e h.cause
  says_not_prepared e (inl (inr h)) = subst (λ x. RefusalSays x content asked s f g) (sym h.0) h.1
  says_not_prepared e (inr (inl h)) = of_file e h.lacks.cause
  says_not_prepared e (inr (inr h)) = of_batches e h

  pub refusal_says : (new : Option (List ℕ)) (e : IpcError) → IsNotAppended content new e asked s f g → RefusalSays e content asked s f g
  refusal_says new e (inl h) = by h.0
    where
      by : NotPrepared content e asked s f g ⊎ NotContinued content e asked s f g → RefusalSays e content asked s f g
      by (inl k) = says_not_prepared e k
      by (inr k) = stops e k.file k.prepared.takes.metadata.read k.stops
  refusal_says new e (inr (inl h)) = of_cut e h.fails.cause
  refusal_says new e (inr (inr h)) = of_put e h.stops.cause

pub says_handed : {X : Type 0} (r : Result X IpcError) (e : IpcError) (content : Option (List ℕ)) (asked : WriteOptions) (s : WholeStream) (f g k : ℕ) → IsErrAnd r (λ x. x ≡ e) → k ≡ g → RefusalSays e content asked s f g → IfErr r (λ x. RefusalSays x content asked s f k)
says_handed r e content asked s f g k is count h = refused (λ x. RefusalSays x content asked s f k) r e is (subst (λ n. RefusalSays e content asked s f n) (sym count) h)
