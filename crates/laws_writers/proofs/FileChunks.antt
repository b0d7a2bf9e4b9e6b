-- A file goes on with the messages of a batch.
use Rattle.std.proofs.Common.{◌≡◌, ◌++◌, List, [], ◌∷◌, None, refl, sym, ap, subst, ◌∙◌}
use Rattle.std.specs.List.{flat_map}
use Rattle.std.proofs.lemmas.List.{append_cancel_left}
use Rattle.arrow_spec.specs.Features.{chosen_floats}
use Rattle.arrow_spec.specs.Kinds.{Fields}
use Rattle.arrow_spec.specs.WrittenSchemas.{IdsMayBeWritten, own_fields}
use Rattle.ipc_messages.specs.Below.{Batch, forest, fields_with, columns_of, ToSend}
use Rattle.laws_files.specs.Below.{Known, batch_in, with_messages, with_values}
use Rattle.ipc_messages.specs.Messages.{chunk_text}
use Rattle.laws_writers.specs.Heard.{cells_held}
use Rattle.laws_writers.proofs.Apart.{agreeing_are_apart, columns_of_kinds}
use Rattle.laws_writers.specs.Chunks.{MayFollow, chunk_of, values_of}
use Rattle.laws_writers.specs.Written.{cells_of, said_fields}
use Rattle.laws_writers.proofs.Chunks.{may_follow}
use Rattle.laws_writers.proofs.OwnFields.{kinds_own, with_own}
use Rattle.laws_writers.proofs.Written.{chunk_batches}
use Rattle.laws_files.specs.Files.{AreDeltasOrFirst, FrontMeans, with_more}
use Rattle.laws_files.proofs.MoreBatches.{may_be_added}
use Rattle.laws_files.proofs.Tables.{front_goes_on, front_same}
use Rattle.laws_writers.specs.Firsts.{AreFirst}
use Rattle.laws_writers.specs.FileChunkLaws.{ChunkGoesIntoFile}
use Rattle.laws_writers.proofs.Firsts.{arrays_firsts}

first_chunk : (fs : Fields) (sent : List ToSend) (b : Batch) (c : Known) → AreFirst c sent → AreDeltasOrFirst c (chunk_of fs sent b)
first_chunk fs [] b c h = tt
first_chunk fs (s ∷ ss) b c h = (h.0, first_chunk fs ss b (with_values (values_of fs s) c) h.1)

pub chunk_goes : ChunkGoesIntoFile
chunk_goes options o fs below b s t sent x bs kept e more may same ids_may free front =
    let gs = said_fields fs below in
    let ps = forest b.arrays in
    let c : Known = λ q. cells_held (s.held q) in
    let is = with_own fs below in
    let kinds = kinds_own fs (columns_of ps) same in
    let ids : IdsMayBeWritten (fields_with (own_fields fs) below) = subst IdsMayBeWritten (sym is) ids_may in
    let floats : chosen_floats None (fields_with (own_fields fs) below) 0 ≡ [] = ap (λ xs. chosen_floats None xs 0) is ∙ free in
    let follow : MayFollow gs c (λ q. cells_held (t.held q)) (chunk_of gs sent b) (chunk_text sent b)
    = subst (λ xs. MayFollow xs c (λ q. cells_held (t.held q)) (chunk_of xs sent b) (chunk_text sent b)) is (may_follow options o (own_fields fs) below b s t sent c e more (λ q. refl) may kinds ids floats) in
    let apart = agreeing_are_apart ps (own_fields fs) below may.batch.whole.sound (columns_of_kinds ps (own_fields fs) kinds) ids.agree in
    let walk = arrays_firsts o kept ps below s t e apart in
    let told : walk.more ≡ sent = append_cancel_left s.sent walk.more sent (sym walk.sent ∙ more) in
    let first : AreFirst c sent = subst (AreFirst c) told (walk.first c (λ q g none. ap cells_held none)) in
    let ms = chunk_of gs sent b in
    let added = may_be_added gs c ms follow.may (first_chunk gs sent b c first) in
    let on = front_goes_on gs x c bs ms front added in
    let batches : bs ++ flat_map batch_in ms ≡ bs ++ cells_of b ∷ [] = ap (λ ys. bs ++ ys) (chunk_batches gs sent b may.batch.means) in
    let said = subst (λ ys. FrontMeans gs (with_more x ms) (with_messages ms c) ys) batches on in
    (front_same gs (with_more x ms) (with_messages ms c) (λ q. cells_held (t.held q)) (bs ++ cells_of b ∷ []) follow.known said, follow.bytes_are)
