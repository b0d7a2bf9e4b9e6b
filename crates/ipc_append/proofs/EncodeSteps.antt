-- Record batches that are encoded, one after another.
use Rattle.std.proofs.Common.{◌≡◌, ◌∙◌, inr, Bool, ℕ, suc, ◌+◌, ◌<◌, List, [], ◌∷◌, ◌++◌, length, take, drop, get_or, Err, Vec, Global, refl, sym, ap, subst, add-one}
use Rattle.std.proofs.Math.Seq.{split_at, take-suc}
use Rattle.arrow_spec.specs.declared.error.IpcError.{IpcError}
use Rattle.arrow_arrays.specs.Batches.{Batch}
use Rattle.arrow_arrays.specs.Parts.{forest}
use Rattle.ipc_file_writer.specs.Below.{Options, options_of, DictionaryTracker, IsOfBatch, IsRefused, IsSentBy, RefusesChunk, Stops, found}
use Rattle.ipc_fields.specs.IpcFields.{Ids}
use Rattle.ipc_streams.specs.Below.{EncodedData, WriteOptions}
use Rattle.ipc_append.specs.Encoded.{AreEncoded, EncodesAll, IsEncoded, none_encoded, one_encoded}
use Rattle.ipc_append.specs.declared.encode.EncodedChunk.{EncodedChunk}

abbrev with_options : Bool → Bool → Options
with_options cannot_replace deltas = record { cannot_replace = cannot_replace; deltas = deltas }

-- a batch was encoded, and the tracker's options are as they were
pub is_encoded : (options : WriteOptions) (below : Ids) (t u : DictionaryTracker) (b : Batch) (ds : Vec EncodedData Global) (m : EncodedData) → IsSentBy options t u (forest b.arrays) below ds.items → IsOfBatch options b m
    → (u.cannot_replace ≡ t.cannot_replace) × (u.deltas ≡ t.deltas) → IsEncoded options below t u b (record { dictionaries = ds; batch = m })
is_encoded options below t u b ds m sent is same = record {
  sent = sent;
  batch = is;
  kept = ap (λ x. with_options x u.deltas) same.0 ∙ ap (with_options t.cannot_replace) same.1;
}

one_more : (options : WriteOptions) (below : Ids) (t u v : DictionaryTracker) (bs : List Batch) (cs : List EncodedChunk) (b : Batch) (c : EncodedChunk) → AreEncoded options below t u bs cs → IsEncoded options below u v b c → AreEncoded options below t v (bs ++ b ∷ []) (cs ++ c ∷ [])
one_more options below t u v [] [] b c none_encoded h = one_encoded h none_encoded
one_more options below t u v [] (y ∷ cs) b c k h = elim k [ ]
one_more options below t u v (x ∷ bs) [] b c k h = elim k [ ]
one_more options below t u v (x ∷ bs) (y ∷ cs) b c (one_encoded {u = w} first others) h = one_encoded first (one_more options below w u v bs cs b c others h)

-- so many were encoded, under the same options
pub record AreFront (options : WriteOptions) (below : Ids) (t u : DictionaryTracker) (i : ℕ) (bs : List Batch) (cs : List EncodedChunk) : Type 0 where
  pub encoded : AreEncoded options below t u (take i bs) cs
  pub kept : options_of u ≡ options_of t

pub none_done : (options : WriteOptions) (below : Ids) (t : DictionaryTracker) (bs : List Batch) (cs : List EncodedChunk) → cs ≡ [] → AreFront options below t t 0 bs cs
none_done options below t bs cs is = record { encoded = subst (AreEncoded options below t t []) (sym is) none_encoded; kept = refl }

pub one_done : (options : WriteOptions) (below : Ids) (t u v : DictionaryTracker) (i : ℕ) (bs : List Batch) (cs cs' : List EncodedChunk) (b : Batch) (c : EncodedChunk) → i < length bs → b ≡ get_or bs i b → AreFront options below t u i bs cs → IsEncoded options below u v b c → cs' ≡ cs ++ c ∷ []
    → AreFront options below t v (i + 1) bs cs'
one_done options below t u v i bs cs cs' b c h is a e grown =
    let next : take (i + 1) bs ≡ take i bs ++ b ∷ [] = rw add-one (take-suc bs i b h ∙ ap (λ x. take i bs ++ x ∷ []) (sym is)) in
    record {
      encoded = subst (λ xs. AreEncoded options below t v xs cs') (sym next) (subst (AreEncoded options below t v (take i bs ++ b ∷ [])) (sym grown) (one_more options below t u v (take i bs) cs b c a.encoded e));
      kept = e.kept ∙ a.kept;
    }

pub one_stops : (options : WriteOptions) (below : Ids) (t u w : DictionaryTracker) (i : ℕ) (bs : List Batch) (cs : List EncodedChunk) (b : Batch) (e : IpcError) → i < length bs → b ≡ get_or bs i b → AreFront options below t u i bs cs → IsRefused e options (Stops e (found u (forest b.arrays) below) (λ sent. RefusesChunk e options sent b))
    → EncodesAll (Err e) options below t w bs
one_stops options below t u w i bs cs b e h is a r = inr (record {
  before = take i bs;
  batch = b;
  behind = drop (suc i) bs;
  are = split_at bs i b h ∙ ap (λ x. take i bs ++ x ∷ drop (suc i) bs) (sym is);
  chunks = cs;
  held = u;
  encoded = a.encoded;
  refused = r;
})
