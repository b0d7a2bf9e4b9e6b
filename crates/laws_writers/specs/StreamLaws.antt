-- What holds of what is sent before a batch. Each statement is the contract of a public function without a body (src/lib.rt).
use Rattle.std.specs.Prelude.{◌≡◌, ◌++◌, ℤ, List, [], Option, None, Ok, true}
use Rattle.arrow_spec.specs.Kinds.{Fields, Use, have_same_kinds, uses_in}
use Rattle.arrow_spec.specs.Schema.{uses_agree}
use Rattle.arrow_spec.specs.Cells.{Cell}
use Rattle.ipc_messages.specs.Below.{Forest, fault_each, Ids, fields_with, columns_of, Options, Sending, ToSend, arrays_sent}
use Rattle.laws_writers.specs.Heard.{AllAreFixed, AllHaveValuesAt, AllMayStand, AllStand, cells_held, heard}

-- Messages behind those of a state, by which a stream that knew the state's dictionaries knows those of another; and each of them stands where its inner dictionaries are known.
pub record AreTold (o : Options) (us : List Use) (s t : Sending) : Type 0 where
  pub more : List ToSend
  pub sent : t.sent ≡ s.sent ++ more
  pub known : (q : ℤ) → heard q more (cells_held (s.held q)) ≡ cells_held (t.held q)
  pub stand : (c : ℤ → Option (List Cell)) → ((q : ℤ) → c q ≡ cells_held (s.held q)) → AllStand o.deltas us c more

-- What is sent of columns of the fields' kinds, whose uses of dictionaries agree, tells what is held behind them, of every id.
abbrev pub WhatIsSentIsKnown : Type 0
WhatIsSentIsKnown = (o : Options) (fs : Fields) (ps : Forest) (below : Ids) (s t : Sending) → arrays_sent o ps below s ≡ Ok t → fault_each ps ≡ None
    → have_same_kinds fs (columns_of ps) ≡ true → uses_agree [] (uses_in (fields_with fs below)) ≡ Ok tt → AreTold o (uses_in (fields_with fs below)) s t

-- Behind them what is held of each of their dictionaries begins with its values, and is its values where no deltas are sent.
abbrev pub WhatIsSentIsFixed : Type 0
WhatIsSentIsFixed = (o : Options) (ps : Forest) (below : Ids) (s t : Sending) → arrays_sent o ps below s ≡ Ok t → AllAreFixed o.deltas t ps below

-- Where so much is known as is held, each message may stand behind those before it, and behind all of them the values of the columns' dictionaries are known.
abbrev pub WhatIsSentMayStand : Type 0
WhatIsSentMayStand = (o : Options) (fs : Fields) (ps : Forest) (below : Ids) (s t : Sending) (more : List ToSend) (c : ℤ → Option (List Cell))
    → arrays_sent o ps below s ≡ Ok t → t.sent ≡ s.sent ++ more → ((q : ℤ) → c q ≡ cells_held (s.held q)) → fault_each ps ≡ None
    → have_same_kinds fs (columns_of ps) ≡ true → uses_agree [] (uses_in (fields_with fs below)) ≡ Ok tt
    → AllMayStand o.deltas (fields_with fs below) c more × AllHaveValuesAt o.deltas (λ q. heard q more (c q)) (fields_with fs below) ps
