-- What is sent before a batch, from nothing on.
use Rattle.std.proofs.Common.{◌≡◌, ◌⊎◌, inl, inr, ◌++◌, ℤ, List, [], ◌∷◌, Bool, false, Some, None, Result, Ok, Err, map, subst, sym, ap, ◌∙◌}
use Rattle.std.proofs.Math.Path.{fun_ext}
use Rattle.arrow_spec.specs.declared.error.IpcError.{IpcError}
use Rattle.arrow_spec.specs.declared.error.IpcError.TheVariants.{Memory}
use Rattle.arrow_arrays.specs.Parts.{Forest, also, none}
use Rattle.arrow_arrays.specs.PartsOf.{parts_of, forest_of}
use Rattle.arrow_arrays.specs.declared.array.Array.{Array}
use Rattle.ipc_fields.specs.IpcFields.{Ids, ids_of}
use Rattle.ipc_fields.specs.declared.ipc_field.IpcField.{IpcField}
use Rattle.ipc_dictionaries.specs.declared.sending.NewDictionaries.{NewDictionaries}
use Rattle.ipc_dictionaries.specs.declared.tracker.DictionaryTracker.{DictionaryTracker}
use Rattle.ipc_dictionaries.specs.declared.walk.Progress.{Progress}
use Rattle.ipc_dictionaries.specs.declared.walk.ToEncode.{ToEncode}
use Rattle.ipc_dictionaries.specs.Batches.{begun, Sends, SendsMore}
use Rattle.arrow_arrays.specs.Columns.{columns_of}
use Rattle.ipc_dictionaries.specs.Columns.{columns_fault, columns_sent, unless_fault}
use Rattle.ipc_dictionaries.specs.NewDictionaries.{Options, Sending, arrays_sent}
use Rattle.ipc_dictionaries.specs.Tracker.{held_by}
use Rattle.ipc_dictionaries.specs.Used.{used_by}
use Rattle.ipc_dictionaries.specs.Walks.{to_send, sending_of}

-- ── columns are refused, or their dictionaries are looked at ──

pub fault_comes_first : (o : Options) (columns : Forest) (below : Ids) (s : Sending) (error : IpcError) → (error ≡ Memory) ⊎ (columns_fault (columns_of columns) below ≡ Some error) → (error ≡ Memory) ⊎ (columns_sent o columns below s ≡ Err error)
fault_comes_first o columns below s error (inl memory) = inl memory
fault_comes_first o columns below s error (inr fault) = inr (ap (λ e. unless_fault e (arrays_sent o columns below s)) fault)

-- ── a walk begins with nothing ──

from_nothing : (t : DictionaryTracker) (p : Progress) → ((q : ℤ) → used_by p.used q ≡ false) → p.messages.items ≡ [] → begun t ≡ sending_of t p
from_nothing t p unused empty =
    sym (ap (λ (v : ℤ → Bool). record { held = held_by t; used = v; sent = map to_send p.messages.items }) (fun_ext unused)
    ∙ ap (λ ms. record { held = held_by t; used = λ q. false; sent = map to_send ms }) empty)

pub sent_from_nothing : (o : Options) (columns : Forest) (below : Ids) (t : DictionaryTracker) (p : Progress) → ((q : ℤ) → used_by p.used q ≡ false) → p.messages.items ≡ [] → columns_fault (columns_of columns) below ≡ None
    → columns_sent o columns below (begun t) ≡ arrays_sent o columns below (sending_of t p)
sent_from_nothing o columns below t p unused empty sound =
    ap (λ e. unless_fault e (arrays_sent o columns below (begun t))) sound ∙ ap (arrays_sent o columns below) (from_nothing t p unused empty)

pub refused_from_nothing : (o : Options) (columns : Forest) (below : Ids) (t : DictionaryTracker) (p : Progress) (error : IpcError) → ((q : ℤ) → used_by p.used q ≡ false) → p.messages.items ≡ [] → columns_fault (columns_of columns) below ≡ None
    → (error ≡ Memory) ⊎ (arrays_sent o columns below (sending_of t p) ≡ Err error) → (error ≡ Memory) ⊎ (columns_sent o columns below (begun t) ≡ Err error)
refused_from_nothing o columns below t p error unused empty sound (inl memory) = inl memory
refused_from_nothing o columns below t p error unused empty sound (inr refused) = inr (sent_from_nothing o columns below t p unused empty sound ∙ refused)

-- ── what one column sends is added to a list ──

pub one_column : (r : Result NewDictionaries IpcError) (old new : DictionaryTracker) (arrays : List Array) (fields : List IpcField) (a : Array) (f : IpcField) → arrays ≡ a ∷ [] → fields ≡ f ∷ [] → Sends r old new (forest_of arrays) (ids_of fields)
    → Sends r old new (also (parts_of a) none) (ids_of (f ∷ []))
one_column r old new arrays fields a f e g h = subst (λ xs. Sends r old new (also (parts_of a) none) (ids_of xs)) g (subst (λ xs. Sends r old new (forest_of xs) (ids_of fields)) e h)

pub more_is_sent : (found : NewDictionaries) (t u : DictionaryTracker) (columns : Forest) (below : Ids) (was is : List ToEncode) → Sends (Ok found) t u columns below → is ≡ was ++ found.messages.items → SendsMore (Ok tt) t was u is columns below
more_is_sent found t u columns below was is s e = (s.0.0, found.messages.items, e, s.0.1)

pub no_more_is_sent : (error : IpcError) (t u : DictionaryTracker) (columns : Forest) (below : Ids) (was is : List ToEncode) → Sends (Err error) t u columns below → is ≡ was → SendsMore (Err error) t was u is columns below
no_more_is_sent error t u columns below was is s e = (s.0, s.1, e)
