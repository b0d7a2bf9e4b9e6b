-- Messages that were encoded before, and are placed and put, or not.
use Rattle.std.proofs.Common.{◌≡◌, ◌⊎◌, inl, inr, ℕ, List, [], ◌∷◌, ◌++◌, Bool, true, false, map, Result, Ok, Err, refl, sym, ap, ◌∙◌, subst}
use Rattle.std.specs.Result.{IsErrAnd}
use Rattle.std.specs.List.{flat_map}
use Rattle.std.specs.Io.KnownBytes.{Appends}
use Rattle.std.proofs.lemmas.List.{map-append}
use Rattle.arrow_spec.specs.declared.error.IpcError.{IpcError}
use Rattle.arrow_spec.specs.declared.error.IpcError.TheVariants.{Memory}
use Rattle.ipc_messages.specs.Below.{Moved, NoneFalls, PutsPart, file_block, EncodedData}
use Rattle.ipc_messages.specs.declared.puts.Stop.{Stop}
use Rattle.ipc_messages.specs.Messages.{Sizes}
use Rattle.ipc_messages.specs.Puts.{Grew, StopsIn}
use Rattle.ipc_messages.specs.States.{is_started, state_behind}
use Rattle.ipc_messages.specs.declared.framed_message.FramedMessage.{FramedMessage}
use Rattle.ipc_messages.specs.Framed.{AreFramed, FramesEach, framed_sizes, framed_text, given_sizes, given_text}
use Rattle.ipc_file_writer.specs.declared.blocks.ChunkBlocks.{ChunkBlocks}
use Rattle.ipc_file_writer.specs.declared.blocks.FileBlocks.{FileBlocks}
use Rattle.ipc_file_writer.specs.declared.file.FileCore.{FileCore}
use Rattle.ipc_file_writer.specs.declared.given.FramedChunk.{FramedChunk}
use Rattle.ipc_file_writer.specs.Blocks.{IsChunkPlaced, PlacesChunk, SameBlocks, are_placed, behind_all, block_at, blocks_at}
use Rattle.ipc_file_writer.specs.Calls.{HasNoMore}
use Rattle.ipc_file_writer.specs.Sending.{IsHeld, IsLeft}
use Rattle.ipc_file_writer.specs.Given.{AreGivenPut, GivenStops, HasGivenBlocks, IsGivenFramed, MayAddGiven, PutsGiven, RefusesGiven, WritesGiven, given_chunk}
use Rattle.ipc_file_writer.proofs.BatchSteps.{then_stays}
use Rattle.ipc_file_writer.proofs.Calling.{same_held, stays}
use Rattle.ipc_file_writer.proofs.Growing.{last_two}
use Rattle.ipc_file_writer.proofs.PlacedBlocks.{blocks_more}

-- ── framed ──

-- a message has too much metadata
pub given_refused : (e : IpcError) (c : FileCore) (ds : List EncodedData) (b : EncodedData) → FramesEach (Err e) c.options.metadata_limit (given_chunk ds b) → (e ≡ Memory) ⊎ RefusesGiven e c ds b
given_refused e c ds b (inl k) = inl k
given_refused e c ds b (inr k) = inr (k.0, inl k.1)

-- the place of one is too large
pub given_far : (e : IpcError) (c : FileCore) (ds : List EncodedData) (b : EncodedData) (xs : List Sizes) (ms : List FramedMessage) → xs ≡ map framed_sizes ms → AreFramed c.options.metadata_limit (given_chunk ds b) ms
    → PlacesChunk (Err e) c.blocks.end xs → (e ≡ Memory) ⊎ RefusesGiven e c ds b
given_far e c ds b xs ms h p (inl k) = inl k
given_far e c ds b xs ms h p (inr k) = inr (k.0, inr (p.short, ap (are_placed c.blocks.end) (sym p.sizes ∙ sym h) ∙ k.1))

pub given_placed : (c : FileCore) (ds : List EncodedData) (b : EncodedData) (xs : List Sizes) (ms : List FramedMessage) (k : ChunkBlocks) → xs ≡ map framed_sizes ms → AreFramed c.options.metadata_limit (given_chunk ds b) ms
    → IsChunkPlaced c.blocks.end xs k → IsChunkPlaced c.blocks.end (map given_sizes (given_chunk ds b)) k
given_placed c ds b xs ms k h p q = subst (λ ys. IsChunkPlaced c.blocks.end ys k) (h ∙ p.sizes) q

-- ── put ──

given_may : (old new : FileCore) (ds : List EncodedData) (b : EncodedData) (f : FramedChunk) → IsGivenFramed old new ds b f → MayAddGiven old ds b
given_may old new ds b f h = record { short = h.framed.short; placed = h.blocks.fit }

given_stops : (s : Bool) (m : Moved) (e : IpcError) (old new : FileCore) (ds : List EncodedData) (b : EncodedData) (f : FramedChunk) (text : List ℕ) → IsGivenFramed old new ds b f → text ≡ flat_map given_text (given_chunk ds b)
    → StopsIn s m e text → GivenStops s m e old ds b
given_stops true m e old new ds b f text h k q = (given_may old new ds b f h, subst (PutsPart m e) k q)
given_stops false m e old new ds b f text h k q = (inl q.0, q.1)

-- a put stopped
pub given_stopped : (r : Result (Unit {0}) Stop) (s : Stop) (m : Moved) (old new : FileCore) (ds : List EncodedData) (b : EncodedData) (f : FramedChunk) (ms : List FramedMessage) → IsErrAnd r (λ t. t ≡ s) → IsGivenFramed old new ds b f
    → ms ≡ f.messages.items → StopsIn s.has_begun m s.error (flat_map framed_text ms) → PutsGiven m r old new ds b
given_stopped (Ok u) s m old new ds b f ms g h e q = absurd g
given_stopped (Err t) s m old new ds b f ms g h e q =
    subst (λ k. PutsGiven m (Err k) old new ds b) (sym g) (given_stops s.has_begun m s.error old new ds b f (flat_map framed_text ms) h (ap (flat_map framed_text) e ∙ h.framed.text) q, h.left)

-- behind a file's blocks are those of the messages
given_grown : (old middle new : FileBlocks) (ds : List EncodedData) (b : EncodedData) (c : ChunkBlocks) → SameBlocks old middle → IsChunkPlaced old.end (map given_sizes (given_chunk ds b)) c
    → new.dictionaries.items ≡ middle.dictionaries.items ++ c.dictionaries.items → new.records.items ≡ middle.records.items ++ c.batch ∷ [] → new.end ≡ c.end → HasGivenBlocks old new ds b
given_grown old middle new ds b c s p d r e =
    let xs = map given_sizes ds in
    let y = given_sizes b in
    let whole : blocks_at old.end (map given_sizes (given_chunk ds b)) ≡ blocks_at old.end xs ++ block_at (behind_all old.end xs) y ∷ [] = ap (blocks_at old.end) (map-append given_sizes ds (b ∷ [])) ∙ blocks_more old.end xs y in
    let parts = last_two (map file_block c.dictionaries.items) (blocks_at old.end xs) (file_block c.batch) (block_at (behind_all old.end xs) y) (p.blocks ∙ whole) in
    record {
      dictionaries = ap (map file_block) (d ∙ ap (λ ys. ys ++ c.dictionaries.items) s.dictionaries) ∙ map-append file_block old.dictionaries.items c.dictionaries.items ∙ ap (λ ys. map file_block old.dictionaries.items ++ ys) parts.0;
      records = ap (map file_block) (r ∙ ap (λ ys. ys ++ c.batch ∷ []) s.records) ∙ map-append file_block old.records.items (c.batch ∷ []) ∙ ap (λ z. map file_block old.records.items ++ z ∷ []) parts.1;
      end = e ∙ p.end;
    }

-- all was put
pub given_put : (m : Moved) (old middle new : FileCore) (ds : List EncodedData) (b : EncodedData) (f : FramedChunk) (ms : List FramedMessage) → IsGivenFramed old middle ds b f → ms ≡ f.messages.items
    → Appends m.old m.new (flat_map framed_text ms) × NoneFalls m → new.blocks.dictionaries.items ≡ middle.blocks.dictionaries.items ++ f.blocks.dictionaries.items
    → new.blocks.records.items ≡ middle.blocks.records.items ++ f.blocks.batch ∷ [] → new.blocks.end ≡ f.blocks.end → new.has_written ≡ true → IsHeld old new → AreGivenPut m old new ds b
given_put m old middle new ds b f ms h e q d r n w k = record {
  may = given_may old middle ds b f h;
  appended = subst (Appends m.old m.new) (ap (flat_map framed_text) e ∙ h.framed.text) q.0;
  counts = q.1;
  blocks = given_grown old.blocks middle.blocks new.blocks ds b f.blocks h.left.blocks h.blocks d r n;
  written = w;
  held = k;
}

-- ── written ──

given_ends : (s : Bool) (e : IpcError) (m : Moved) (old new : FileCore) (ds : List EncodedData) (b : EncodedData) → is_started old.state ≡ true → GivenStops s m e old ds b → (e ≡ Memory → s ≡ true → Grew m.old m.new) → new.state ≡ state_behind s old.state → HasNoMore old new
    → WritesGiven m (Err e) old new ds b
given_ends true e m old new ds b n h w s k = inr (record { started = n; may = h.0; failed = record { put = h.1; behind = λ is. w is refl; state = s; same = k } })
given_ends false e m old new ds b n h w s k = inl (inr (n, h.0), record { untouched = h.1; state = s; same = k })

-- messages are not written
pub not_given : (y : IpcError) (stop : Stop) (m : Moved) (old new : FileCore) (ds : List EncodedData) (b : EncodedData) → y ≡ stop.error → is_started old.state ≡ true → GivenStops stop.has_begun m stop.error old ds b → (stop.error ≡ Memory → stop.has_begun ≡ true → Grew m.old m.new)
    → new.state ≡ state_behind stop.has_begun old.state → HasNoMore old new → WritesGiven m (Err y) old new ds b
not_given y stop m old new ds b g n h w s k = subst (λ z. WritesGiven m (Err z) old new ds b) (sym g) (given_ends stop.has_begun stop.error m old new ds b n h w s k)

-- ── left ──

pub left_same : (c : FileCore) → IsLeft c c
left_same c = record { held = record { state = refl; tracker = refl; stays = stays c }; blocks = record { dictionaries = refl; records = refl; end = refl }; written = refl }

pub left_then : (old middle new : FileCore) → IsLeft old middle → HasNoMore middle new → new.tracker ≡ middle.tracker → HasNoMore old new
left_then old middle new l s t = record {
  held = same_held old.tracker new.tracker (t ∙ l.held.tracker);
  blocks = record { dictionaries = s.blocks.dictionaries ∙ l.blocks.dictionaries; records = s.blocks.records ∙ l.blocks.records; end = s.blocks.end ∙ l.blocks.end };
  written = s.written ∙ l.written;
  stays = then_stays old middle new l.held.stays s.stays;
}
