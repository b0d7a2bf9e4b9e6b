-- Dictionaries that are too large refuse their file.
use Rattle.std.proofs.Common.{◌≡◌, List, [], ◌∷◌, take, Some, None, Err, ap, ◌∙◌, true}
use Rattle.arrow_spec.specs.declared.error.IpcError.{IpcError}
use Rattle.arrow_spec.specs.declared.error.IpcError.TheVariants.{TooLarge}
use Rattle.arrow_spec.specs.Files.{FileBlock, batches_of, dictionaries_sent, if_sent, to_send}
use Rattle.laws_transcode.specs.Files.{asked_of}
use Rattle.laws_transcode.specs.Laws.{LargeDictionariesRefuseTheirFile}
use Rattle.laws_transcode.proofs.SentBatches.{first_refused}
use Rattle.laws_transcode.proofs.Readings.{first_batches, on_err}

-- dictionaries of which a message is too large are refused behind the first block
pub large_dictionaries_refuse : LargeDictionariesRefuseTheirFile
large_dictionaries_refuse b r meta custom d block rest x file has parts h large =
    let a = asked_of b meta r d in
    let es : List IpcError = TooLarge ∷ [] in
    let dictionaries : dictionaries_sent true to_send a ≡ Err es = ap (if_sent to_send) large in
    let refused : (behind : List FileBlock) → batches_of to_send b a true (block ∷ behind) r.limit ≡ Err es = λ behind. first_refused to_send b a block behind r.limit x es h dictionaries in
    let whole : batches_of to_send b a true meta.blocks r.limit ≡ Err es = rw parts (refused rest) in
    let part : batches_of to_send b a true (take 1 meta.blocks) r.limit ≡ Err es = rw parts (refused []) in
    (first_batches to_send b r None meta custom d file has ∙ on_err _ _ es whole, first_batches to_send b r (Some 1) meta custom d file has ∙ on_err _ _ es part)
