-- The messages of dictionaries' values, one after another. (Arrow Columnar Format, "Dictionary Messages".)
use Rattle.std.specs.Prelude.{◌≡◌, ◌⊎◌, ◌++◌, ◌&&◌, ℤ, List, [], ◌∷◌, Bool, true, nat_eq, if◌then◌else◌, Result, Ok, Err}
use Rattle.std.specs.List.{AllByRecursion}
use Rattle.std.specs.declared.alloc.Global.{Global}
use Rattle.std.specs.declared.vec.Vec.{Vec}
use Rattle.arrow_spec.specs.declared.error.IpcError.{IpcError}
use Rattle.arrow_spec.specs.declared.error.IpcError.TheVariants.{Memory}
use Rattle.arrow_arrays.specs.Parts.{Forest, Parts, none, also, rows_in}
use Rattle.ipc_dictionaries.specs.NewDictionaries.{ToSend, message_of}
use Rattle.ipc_write.specs.Planned.{is_short}
use Rattle.ipc_write.specs.Values.{IsOfValues, MayBeValues, PlansValues, values_message}
use Rattle.ipc_write.specs.declared.encoded.EncodedData.{EncodedData}
use Rattle.ipc_write.specs.declared.options.WriteOptions.{WriteOptions}

-- a part that goes on with others is passed over where it has no rows
abbrev pub is_passed : Bool → Parts → Bool
is_passed is_delta p = is_delta && nat_eq (rows_in p) 0

-- the parts of a dictionary under an id: after the first each that has rows goes on with those before it
abbrev pub messages_of : ℤ → Bool → Forest → List ToSend
messages_of id is_delta none = []
messages_of id is_delta (also p ps) =
    if is_passed is_delta p then messages_of id true ps else message_of id is_delta p ∷ messages_of id true ps

-- it is the message of what is sent, which may be sent
pub record IsMessageOf (options : WriteOptions) (s : ToSend) (m : EncodedData) : Type 0 where
  pub encoded : IsOfValues options s.id s.is_delta s.part m
  pub may : MayBeValues s.part

-- the messages are those of what is sent, one by one
abbrev pub AreMessagesOf : WriteOptions → List ToSend → List EncodedData → Type 0
AreMessagesOf options [] [] = Unit {0}
AreMessagesOf options [] (m ∷ ms) = ⊥
AreMessagesOf options (s ∷ ss) [] = ⊥
AreMessagesOf options (s ∷ ss) (m ∷ ms) = IsMessageOf options s m × AreMessagesOf options ss ms

-- what is sent may be, one by one
abbrev pub AllMayBeValues : List ToSend → Type 0
AllMayBeValues sent = AllByRecursion (λ s. MayBeValues s.part) sent

-- a message is within the limits
abbrev pub fits : WriteOptions → ToSend → Bool
fits options s = is_short options.metadata_limit (rows_in s.part) (values_message s.id s.is_delta s.part)

-- each is
abbrev pub all_fit : WriteOptions → List ToSend → Bool
all_fit options [] = true
all_fit options (s ∷ ss) = fits options s && all_fit options ss

-- why a message is refused
abbrev pub Refuses : IpcError → WriteOptions → ToSend → Type 0
Refuses e options s = PlansValues (Err e) options s.id s.is_delta s.part

-- why one of several is, where those before it are not
abbrev pub RefusesOne : IpcError → WriteOptions → List ToSend → Type 0
RefusesOne e options [] = ⊥
RefusesOne e options (s ∷ ss) = Refuses e options s ⊎ ((fits options s ≡ true) × RefusesOne e options ss)

-- the messages of what is sent, or one is refused
abbrev pub EncodesEach : Result (Vec EncodedData Global) IpcError → WriteOptions → List ToSend → Type 0
EncodesEach (Ok v) options ss = AreMessagesOf options ss v.items
EncodesEach (Err e) options ss = RefusesOne e options ss

-- a message was added to a list
abbrev pub AddsOne : Result (Unit {0}) IpcError → WriteOptions → ToSend → List EncodedData → List EncodedData → Type 0
AddsOne (Ok u) options s was is = (m : EncodedData) × (is ≡ was ++ m ∷ []) × IsMessageOf options s m
AddsOne (Err e) options s was is = Refuses e options s

-- the messages were added behind a list, or it is left
abbrev pub AddsEach : Result (Unit {0}) IpcError → WriteOptions → List ToSend → List EncodedData → List EncodedData → Type 0
AddsEach (Ok u) options ss was is = (more : List EncodedData) × (is ≡ was ++ more) × AreMessagesOf options ss more
AddsEach (Err e) options ss was is = ((e ≡ Memory) ⊎ RefusesOne e options ss) × (is ≡ was)
