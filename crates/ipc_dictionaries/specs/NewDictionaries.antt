-- What of a batch's dictionaries is sent before the batch. (Arrow Columnar Format, "Dictionary Messages".)
use Rattle.std.specs.Prelude.{◌-◌, ◌++◌, ◌&&◌, ◌||◌, ℕ, zero, suc, ℤ, List, [], ◌∷◌, Bool, true, false, not, Option, Some, None, is_some, Result, Ok, Err, nat_le, if◌then◌else◌}
use Rattle.std.specs.Option.{unwrap_or}
use Rattle.arrow_spec.specs.declared.error.IpcError.{IpcError}
use Rattle.arrow_spec.specs.declared.error.IpcError.TheVariants.{DictionaryReplaced, NotRepresentable}
use Rattle.arrow_spec.specs.Kinds.{same}
use Rattle.arrow_arrays.specs.Heads.{indexed, values_kind}
use Rattle.arrow_arrays.specs.Parts.{Parts, Forest, leaf, nested, none, also, rows_in, part_of}
use Rattle.ipc_fields.specs.IpcFields.{Ids}
use Rattle.ipc_fields.specs.Uses.{id_under, first_id, first_ids, other_ids}
use Rattle.ipc_dictionaries.specs.Standing.{allowed, delta_start, standing}
use Rattle.ipc_dictionaries.specs.Tracker.{Held}

-- whether other values under an id are refused, and whether values that go on are sent as a delta
pub record Options : Type 0 where
  pub cannot_replace : Bool
  pub deltas : Bool

-- a message: its id, whether it goes on with what is held, and its one array
pub record ToSend : Type 0 where
  pub id : ℤ
  pub is_delta : Bool
  pub part : Parts

abbrev pub message_of : ℤ → Bool → Parts → ToSend
message_of id is_delta part = record { id = id; is_delta = is_delta; part = part }

-- what is held under each id, the ids whose values the batch has fixed, and the messages, in order
pub record Sending : Type 0 where
  pub held : Held
  pub used : ℤ → Bool
  pub sent : List ToSend

-- one step after another, until one is refused
abbrev pub then_by : Result Sending IpcError → (Sending → Result Sending IpcError) → Result Sending IpcError
then_by (Ok s) f = f s
then_by (Err e) f = Err e

-- the parts under an id
abbrev pub held_with : ℤ → Forest → Held → Held
held_with id parts held = λ q. if same id q then Some parts else held q

-- an id's values are fixed
abbrev pub fixing : ℤ → Sending → Sending
fixing id s = record { held = s.held; used = λ q. s.used q || same id q; sent = s.sent }

-- the values are held under the id, and fixed
abbrev pub holding : ℤ → Forest → Sending → Sending
holding id parts s = fixing id (record { held = held_with id parts s.held; used = s.used; sent = s.sent })

-- the ids that are fixed are these
abbrev pub scoped : (ℤ → Bool) → Sending → Sending
scoped used s = record { held = s.held; used = used; sent = s.sent }

-- a message more, and the ids that an earlier part fixed
abbrev pub sending : ToSend → (ℤ → Bool) → Sending → Sending
sending message used s = record { held = s.held; used = λ q. used q || s.used q; sent = s.sent ++ message ∷ [] }

-- the rows of a part from a row on
abbrev pub rows_from : ℕ → Parts → Parts
rows_from zero p = p
rows_from (suc n) p = part_of (suc n) (rows_in p - suc n) p

abbrev pub has_several : Forest → Bool
has_several none = false
has_several (also p none) = false
has_several (also p (also q ps)) = true

-- A dictionary: refused, or as it is held, or its parts were walked: from a row on as deltas, or all, which takes deltas where there are several.
abbrev pub dictionary_sent : Options → Option Bool → Option ℕ → ℤ → Forest → Sending → Result Sending IpcError → Result Sending IpcError
dictionary_sent o None start id parts s walked = Err (DictionaryReplaced id)
dictionary_sent o (Some false) start id parts s walked = Ok (fixing id s)
dictionary_sent o (Some true) start id parts s walked =
    if not (is_some start) && not o.deltas && has_several parts then Err NotRepresentable else then_by walked (λ t. Ok (holding id parts t))

-- An array's dictionaries, under the ids of its IPC field. Those in the parts of a dictionary that are sent stand before the part, and
-- may differ from part to part as from batch to batch: each part is seen as if no other part of the same dictionary fixed an id.
abbrev mutual
  pub array_sent : Options → Parts → Option ℤ → Ids → Sending → Result Sending IpcError
  array_sent o (leaf l) id below s = Ok s
  array_sent o (nested (indexed d) parts) id below s =
      let st = standing (s.held (id_under id)) (values_kind d.kind) parts in
      let start = delta_start o.deltas st in
      dictionary_sent o (allowed (o.cannot_replace || s.used (id_under id)) o.deltas st) start (id_under id) parts s
      (parts_sent o s.used (id_under id) below (is_some start) (unwrap_or start 0) parts s)
  array_sent o (nested h children) id below s = arrays_sent o children below s

  -- arrays under IPC fields, in order
  pub arrays_sent : Options → Forest → Ids → Sending → Result Sending IpcError
  arrays_sent o none below s = Ok s
  arrays_sent o (also p ps) below s = then_by (array_sent o p (first_id below) (first_ids below) s) (arrays_sent o ps (other_ids below))

  -- Its parts from a row of them on: a delta has rows.
  pub parts_sent : Options → (ℤ → Bool) → ℤ → Ids → Bool → ℕ → Forest → Sending → Result Sending IpcError
  parts_sent o used id below is_delta n none s = Ok s
  parts_sent o used id below is_delta n (also p ps) s =
      if is_delta && nat_le (rows_in p) n then parts_sent o used id below true (n - rows_in p) ps s
      else then_by (array_sent o p None below (scoped used s))
      (λ t. parts_sent o used id below true 0 ps (sending (message_of id is_delta (rows_from n p)) s.used t))
