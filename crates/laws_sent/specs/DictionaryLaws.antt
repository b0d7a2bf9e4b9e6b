-- What a writer sends of dictionaries that were read of a file. Each statement is the contract of a public function without a body (src/lib.rt).
use Rattle.std.specs.Prelude.{◌≡◌, ◌^◌, ◌<◌, ℤ, List, [], map, None, Ok, Err, false, true}
use Rattle.std.specs.List.{AllByRecursion}
use Rattle.arrow_spec.specs.declared.error.IpcError.TheVariants.{DictionaryReplaced}
use Rattle.arrow_spec.specs.Arrays.{Dictionaries}
use Rattle.arrow_spec.specs.Kinds.{Fields, have_same_kinds, numbered, uses_in}
use Rattle.arrow_spec.specs.Schema.{uses_agree}
use Rattle.ipc_files.specs.Below.{are_carried, Forest, fault_each, rows_in, Held, values_message}
use Rattle.ipc_fields.specs.IpcFields.{Ids, fields_with, have_shapes}
use Rattle.laws_writers.specs.Below.{columns_fault, columns_of, Options, Sending, ToSend, arrays_sent, all_representable, plain_fields}
use Rattle.arrow_spec.specs.Sent.{SentMessage, dictionary_messages}
use Rattle.laws_sent.specs.Parts.{AreFileParts, PartTree}
use Rattle.laws_sent.specs.ReadUnder.{AreReadInOrder, AreReadUnder, held_of}

-- columns of a file's dictionaries, which a stream has under ids that count from 0 in preorder
pub record AreFileColumns (fs : Fields) (d : Dictionaries) (ps : List PartTree) (below : Ids) (columns : Forest) : Type 0 where
  pub parts : AreFileParts fs d ps
  pub order : AreReadInOrder fs ps
  pub read : AreReadUnder (held_of ps) fs columns
  pub kinds : have_same_kinds (plain_fields fs) (columns_of columns) ≡ true
  pub carried : are_carried fs ≡ true
  pub sound : fault_each columns ≡ None
  pub ids : fields_with fs below ≡ numbered fs 0

-- the message of values that are sent
abbrev pub sent_message : ToSend → SentMessage
sent_message s = values_message s.id s.is_delta s.part

-- where so much is held, a walk over columns of the file's dictionaries sends nothing
abbrev pub SendsNoMore : Fields → Dictionaries → List PartTree → Ids → Held → Type 0
SendsNoMore fs d ps below held = (o : Options) (columns : Forest) (now : Sending) → o.deltas ≡ true → AreFileColumns fs d ps below columns
    → ((q : ℤ) → now.held q ≡ held q)
    → (t : Sending) × (arrays_sent o columns below now ≡ Ok t) × (t.sent ≡ now.sent) × ((q : ℤ) → t.held q ≡ now.held q)

-- a walk sends the messages of the dictionaries, and behind it none of them is sent again
pub record SendsValues (o : Options) (fs : Fields) (d : Dictionaries) (ps : List PartTree) (below : Ids) (columns : Forest) (s : Sending) : Type 0 where
  pub behind : Sending
  pub is : arrays_sent o columns below s ≡ Ok behind
  pub sent : map sent_message behind.sent ≡ dictionary_messages d fs
  pub few : AllByRecursion (λ m. rows_in m.part < 2 ^ 63) behind.sent
  pub no_more : SendsNoMore fs d ps below behind.held

-- Where nothing is held yet, what is sent of the dictionaries in columns that were read of a file are the messages that are to be sent of the file's dictionaries.
abbrev pub FileDictionariesAreSent : Type 0
FileDictionariesAreSent = (o : Options) (fs : Fields) (d : Dictionaries) (ps : List PartTree) (below : Ids) (columns : Forest) (s : Sending)
    → o.deltas ≡ true → AreFileColumns fs d ps below columns → ((id : ℤ) → s.held id ≡ None) → s.sent ≡ [] → SendsValues o fs d ps below columns s

-- Columns of the kinds of fields, whose ids have the fields' shape and agree, and which the tables of a schema can say, have no fault.
abbrev pub ColumnsAreRight : Type 0
ColumnsAreRight = (fs : Fields) (below : Ids) (columns : Forest) → have_same_kinds fs (columns_of columns) ≡ true → have_shapes fs below ≡ true
    → uses_agree [] (uses_in (fields_with fs below)) ≡ Ok tt → all_representable fs ≡ true → columns_fault (columns_of columns) below ≡ None

-- Where the ids count from 0 in preorder and values may be replaced, no dictionary of such columns is refused for values under its id: none has the id of another, so that the batch has fixed none before.
abbrev pub NoneIsReplaced : Type 0
NoneIsReplaced = (o : Options) (fs : Fields) (below : Ids) (columns : Forest) (s : Sending) (id : ℤ) → o.cannot_replace ≡ false
    → fields_with fs below ≡ numbered fs 0 → have_same_kinds fs (columns_of columns) ≡ true
    → fault_each columns ≡ None → ((q : ℤ) → s.used q ≡ false) → arrays_sent o columns below s ≡ Err (DictionaryReplaced id) → ⊥
