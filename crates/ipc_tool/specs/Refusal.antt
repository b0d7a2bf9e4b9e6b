-- What a status other than 0 stands for, and the line that is noted of it.
use Rattle.std.specs.Prelude.{ℕ, List, [], ◌∷◌, ◌++◌, codes, decimal}
use Rattle.arrow_spec.specs.declared.error.IpcError.{IpcError}
use Rattle.arrow_spec.specs.declared.error.IpcError.TheVariants as errors
use Rattle.arrow_spec.specs.Names.{error_name}
use Rattle.ipc_io.specs.declared.outside.PutError.{PutError}
use Rattle.ipc_io.specs.declared.outside.ShelfError.{ShelfError}
use Rattle.ipc_io.specs.declared.outside.ShelfError.TheVariants as shelf
use Rattle.ipc_io.specs.Faults.{put_error}
use Rattle.ipc_words.specs.declared.words_error.WordsError.{WordsError}
use Rattle.ipc_words.specs.declared.words_error.WordsError.TheVariants as words_error
use Rattle.ipc_tool.specs.declared.refusal.Refusal.{Refusal}
use Rattle.ipc_tool.specs.declared.refusal.Refusal.TheVariants.{Ipc, Words, NotHex, InputTooLong, NoName}

abbrev pub error_status : IpcError → ℕ
error_status (errors.OutOfSpec kind) = 1
error_status (errors.Unsupported feature) = 2
error_status errors.TooDeep = 3
error_status (errors.TooMany counted) = 4
error_status (errors.Projection index) = 5
error_status errors.TooLarge = 6
error_status errors.SchemaMismatch = 7
error_status (errors.DictionaryReplaced id) = 8
error_status errors.NotRepresentable = 9
error_status errors.State = 10
error_status errors.ReadFault = 11
error_status errors.WriteFault = 12
error_status errors.Memory = 13

abbrev pub number_of : Refusal → ℕ
number_of (Ipc error) = error_status error
number_of Words = 14
number_of NotHex = 15
number_of InputTooLong = 16
number_of NoName = 17

abbrev pub name_of : Refusal → List ℕ
name_of (Ipc error) = error_name error
name_of Words = codes "Words"
name_of NotHex = codes "NotHex"
name_of InputTooLong = codes "InputTooLong"
name_of NoName = codes "NoName"

abbrev pub put_refusal : PutError → Refusal
put_refusal error = Ipc (put_error error)

abbrev pub shelf_refusal : ShelfError → Refusal
shelf_refusal shelf.Failed = Ipc errors.ReadFault
shelf_refusal shelf.Memory = Ipc errors.Memory
shelf_refusal shelf.Unknown = NoName

abbrev pub words_refusal : WordsError → Refusal
words_refusal words_error.NoRequest = Words
words_refusal words_error.Memory = Ipc errors.Memory

-- the line of a refusal up to the name
unfoldable pub front_of : Refusal → List ℕ
front_of refusal = codes "refused " ++ decimal (number_of refusal) ++ codes " "

-- what is noted of a refusal
abbrev pub line_of : Refusal → List ℕ
line_of refusal = front_of refusal ++ name_of refusal ++ 10 ∷ []
