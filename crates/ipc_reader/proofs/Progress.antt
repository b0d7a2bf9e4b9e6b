-- A reader goes on, block after block.
use Rattle.std.proofs.Common.{◌≡◌, ℕ, ◌+◌, ◌-◌, ◌<◌, List, length, Option, Some, None, Result, sym, ap, subst, arith}
use Rattle.std.specs.Iterator.{MakesProgress, at_most}
use Rattle.arrow_spec.specs.declared.error.IpcError.{IpcError}
use Rattle.arrow_arrays.specs.Batches.{Batch}
use Rattle.ipc_io.specs.Outside.{IsSize}
use Rattle.ipc_files.specs.declared.metadata.FileMetadata.{FileMetadata}
use Rattle.ipc_reader.specs.Reads.{NextBatch}
use Rattle.ipc_reader.specs.declared.reader.FileReader.{FileReader}

pub progress : {S : Type 0} (content_of : S → Option (List ℕ)) (faults_of fetched_of : S → ℕ) (references_of : S → List ℕ) (r r' : FileReader S) (result : Option (Result Batch IpcError))
    → IsSize (content_of r.source) r.cursor.metadata.size → NextBatch content_of faults_of fetched_of references_of r.source r'.source r.cursor r'.cursor result
    → MakesProgress (λ (x : FileReader S). IsSize (content_of x.source) x.cursor.metadata.size) (λ (x : FileReader S). at_most (length x.cursor.metadata.blocks.items - x.cursor.block)) r result r'
progress content_of faults_of fetched_of references_of r r' None can h = record { on = λ ends. tt; keeps = tt; rests = λ ends. tt }
progress content_of faults_of fetched_of references_of r r' (Some x) can h =
    let size : IsSize (content_of r.source) r'.cursor.metadata.size = subst (λ (m : FileMetadata). IsSize (content_of r.source) m.size) (sym h.metadata) can in
    let again : IsSize (content_of r'.source) r'.cursor.metadata.size = subst (λ (o : Option (List ℕ)). IsSize o r'.cursor.metadata.size) (sym h.kept.content) size in
    let blocks : length r'.cursor.metadata.blocks.items ≡ length r.cursor.metadata.blocks.items = ap (λ (m : FileMetadata). length m.blocks.items) h.metadata in
    let next : r'.cursor.block ≡ r.cursor.block + 1 = h.block in
    let here : r.cursor.block < length r.cursor.metadata.blocks.items = h.ended.0 in
    record { on = λ ends. (again, tt, omega (arith, blocks, next, here)); keeps = again; rests = λ ends. tt }
