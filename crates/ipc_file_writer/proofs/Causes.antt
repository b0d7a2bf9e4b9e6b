-- Why a writer of files that compresses nothing refuses: memory is wanted, or something is too large, or its schema or what is found of dictionaries is refused.
use Rattle.std.proofs.Common.{◌≡◌, ◌⊎◌, inl, inr, List, [], ◌∷◌, ℕ, Bool, true, false, Option, None, Some, Result, Ok, Err, refl, sym, subst, arith, nat_le, ◌+◌, ◌<◌, ◌≤◌, ◌^◌, length}
use Rattle.std.specs.Prelude.{IsSome}
use Rattle.std.proofs.lemmas.Bool.{leb-true}
use Rattle.arrow_spec.specs.declared.error.Feature.TheVariants.{Compression}
use Rattle.arrow_spec.specs.declared.error.IpcError.{IpcError}
use Rattle.arrow_spec.specs.declared.error.IpcError.TheVariants.{Memory, TooLarge, Unsupported}
use Rattle.arrow_spec.specs.Flat.{little}
use Rattle.arrow_spec.specs.Kinds.{Fields}
use Rattle.arrow_spec.specs.Layout.{Node}
use Rattle.arrow_spec.specs.Readings.{◌>>=◌, IsAmong, Reading, bind, refusals, unless}
use Rattle.arrow_spec.proofs.Projection.{on}
use Rattle.arrow_spec.proofs.ReadPairs.{same_read, through}
use Rattle.arrow_arrays.specs.Batches.{Batch}
use Rattle.ipc_fields.specs.IpcFields.{Ids, metadata_of}
use Rattle.schema_writer.specs.Serialized.{serialized}
use Rattle.ipc_messages.specs.Below.{Sending, ToSend, WriteOptions}
use Rattle.ipc_messages.specs.Chunks.{RefusesChunk, Stops}
use Rattle.ipc_messages.specs.Schemas.{stream_text}
use Rattle.ipc_file_writer.specs.Calls.{RefusesMore}
use Rattle.ipc_file_writer.specs.Ends.{file_ending, file_start, no_pairs}
use Rattle.ipc_file_writer.specs.declared.blocks.FileBlocks.{FileBlocks}
use Rattle.ipc_file_writer.specs.declared.file.FileCore.{FileCore}
use Rattle.ipc_file_writer.specs.declared.pairs.FilePairs.{FilePairs}

-- memory was wanted, or something is too large
abbrev IsLimit : IpcError → Type 0
IsLimit e = (e ≡ Memory) ⊎ (e ≡ TooLarge)

-- ── begin ──

started_as : (r : Reading (List ℕ)) (f : List ℕ → List ℕ) (e : IpcError) → IsAmong (refusals (r >>= λ x. Ok (f x))) e → IsAmong (refusals r) e
unfolding bind
started_as (Ok x) f e h = h
started_as (Err es) f e h = h

-- a file is refused as the message of its schema is
pub start_cause : (options : WriteOptions) (fs : Fields) (below : Ids) (e : IpcError) → IsAmong (refusals (file_start options fs below)) e → IsAmong (refusals (stream_text options fs below no_pairs)) e
unfolding file_start
start_cause options fs below e h = started_as (stream_text options fs below no_pairs) _ e h

-- ── batches ──

no_way : {A B : Type 0} → (⊥ ⊎ (A × ⊥)) ⊎ (B × ⊥) → ⊥
no_way (inl (inl x)) = x
no_way (inl (inr p)) = p.1
no_way (inr p) = p.1

is_none : {A : Type 0} (o : Option A) → o ≡ None → IsSome o → ⊥
is_none None e h = cc
is_none (Some x) e h = cc

values_limit : (e : IpcError) (options : WriteOptions) (s : ToSend) (b : Batch) → options.compression ≡ None → RefusesChunk e options (s ∷ []) b → IsLimit e
values_limit TooLarge options s b u h = inr refl
values_limit Memory options s b u h = inl refl
values_limit (Unsupported Compression) options s b u (inl (inl x)) = absurd (is_none options.compression u x)
values_limit (Unsupported Compression) options s b u (inl (inr p)) = absurd p.1
values_limit (Unsupported Compression) options s b u (inr p) = absurd (is_none options.compression u p.1)
values_limit e options s b u h = absurd (no_way h)

batch_limit : (e : IpcError) (options : WriteOptions) (b : Batch) → options.compression ≡ None → RefusesChunk e options [] b → IsLimit e
batch_limit TooLarge options b u h = inr refl
batch_limit Memory options b u h = inl refl
batch_limit e options b u (inl x) = absurd x
batch_limit (Unsupported Compression) options b u (inr p) = absurd (is_none options.compression u p.1)
batch_limit e options b u (inr p) = absurd p.1

chunk_limit : (e : IpcError) (options : WriteOptions) (sent : List ToSend) (b : Batch) → options.compression ≡ None → RefusesChunk e options sent b → IsLimit e
chunk_limit e options [] b u h = batch_limit e options b u h
chunk_limit e options (s ∷ ss) b u (inl (inl x)) = values_limit e options s b u (inl (inl x))
chunk_limit e options (s ∷ ss) b u (inl (inr p)) = chunk_limit e options ss b u (inl p.1)
chunk_limit e options (s ∷ ss) b u (inr p) = batch_limit e options b u (inr (refl, p.1))

pub more_limit : (e : IpcError) (c : FileCore) (sent : List ToSend) (b : Batch) → c.options.compression ≡ None → RefusesMore e c sent b → (e ≡ Memory) ⊎ (e ≡ TooLarge)
more_limit e c sent b u (inl h) = chunk_limit e c.options sent b u h
more_limit e c sent b u (inr p) = inr p.0

-- where what is found is not refused
pub stops_limit : (e : IpcError) (step : Result Sending IpcError) (refused : List ToSend → Type 0) → (step ≡ Err e → ⊥) → ((sent : List ToSend) → refused sent → (e ≡ Memory) ⊎ (e ≡ TooLarge)) → Stops e step refused → (e ≡ Memory) ⊎ (e ≡ TooLarge)
stops_limit e step refused well f (inl m) = inl m
stops_limit e step refused well f (inr (inl x)) = absurd (well x)
stops_limit e step refused well f (inr (inr s)) = f s.0.sent s.2

-- ── end ──

pub limits_too_large : {A : Type 0} (a b : Bool) (x : A) (e : IpcError) → IsAmong (refusals (bind (unless a TooLarge) (λ small. bind (unless b TooLarge) (λ placed. Ok x)))) e → e ≡ TooLarge
unfolding bind
limits_too_large true true x e h = absurd h
limits_too_large true false x e (inl p) = sym p
limits_too_large true false x e (inr p) = absurd p
limits_too_large false b x e (inl p) = sym p
limits_too_large false b x e (inr p) = absurd p

-- the end of a file whose schema can be said is refused for its size alone
pub end_too_large : (options : WriteOptions) (fs : Fields) (below : Ids) (pairs : FilePairs) (blocks : FileBlocks) (n : Node) (e : IpcError) → serialized little fs below (metadata_of pairs.schema) ≡ Ok n → IsAmong (refusals (file_ending options fs below pairs blocks)) e → e ≡ TooLarge
unfolding file_ending
end_too_large options fs below pairs blocks n e said h =
    limits_too_large _ _ _ e (subst (λ r. IsAmong (refusals r) e) (on (serialized little fs below (metadata_of pairs.schema)) _ n said) h)

both_passed : (t q : Bool) (x y : List ℕ) → bind (unless t TooLarge) (λ small. bind (unless q TooLarge) (λ placed. Ok x)) ≡ Ok y → (q ≡ true) × (x ≡ y)
unfolding bind
both_passed true true x y h = (refl, same_read x y h)
both_passed true false x y h = cc
both_passed false q x y h = cc

within_places : (n : ℕ) → nat_le n 9223372036854775807 ≡ true → n < 2 ^ 63
within_places n h = let near : n ≤ 9223372036854775807 = leb-true n 9223372036854775807 h in omega (arith, near)

-- an end that is not refused stands below 2^63
pub stands_below : (options : WriteOptions) (fs : Fields) (below : Ids) (pairs : FilePairs) (blocks : FileBlocks) (bytes : List ℕ) → file_ending options fs below pairs blocks ≡ Ok bytes → blocks.end + length bytes < 2 ^ 63
unfolding file_ending
stands_below options fs below pairs blocks bytes h = through (serialized little fs below (metadata_of pairs.schema)) _ bytes h λ s s_is k.
    let p = both_passed _ _ _ bytes k in
    subst (λ x. blocks.end + length x < 2 ^ 63) p.1 (within_places _ p.0)
