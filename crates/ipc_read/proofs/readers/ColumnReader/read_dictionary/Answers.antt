use Rattle.std.proofs.lemmas.Int.{to_z-of_z}
use Rattle.std.proofs.Common.{w64, to_z, of_z, ◌≡◌, Some, None, sym, ap, ◌∙◌}
use Rattle.std.specs.BTreeMap.{get}
use Rattle.std.specs.Ordering.{int_cmp}
use Rattle.std.specs.Prelude.{not, is_some}
use Rattle.arrow_types.specs.KindOf.{kind_of}
use Rattle.arrow_arrays.specs.Heads.{is_dictionary, each_of}
use Rattle.arrow_arrays.specs.Parts.{kind_in, rows_in, kinds_each, fault_each}
use Rattle.arrow_arrays.specs.PartsOf.{forest_of}
use Rattle.ipc_fields.specs.IpcFields.{no_fields, kind_with}
use Rattle.ipc_read_laws.specs.Held.{AreValuesOf, HasKind}
use Rattle.ipc_read_laws.specs.PartsRead.{indexed_read, parts_or_empty}
use Rattle.ipc_read_laws.specs.PlainKinds.{plain_kind}
use Rattle.ipc_read_laws.proofs.PlainTypes.{plain_of, plain_with}
use Rattle.ipc_read.specs.Held.{held_in, ordered_in, id_in}
use Rattle.ipc_read.proofs.Arrays.{if_any}
use Rattle.ipc_read.proofs.ColumnIds.{dictionary_with, carried_with}
use Rattle.ipc_read.proofs.HeldKinds.{dictionary_held, held_dictionary}
use Rattle.ipc_read.proofs.KeysRead.{keys_refused, keys_made, keys_taken, keys_shortened, keys_fetched_by, dictionary_keys, dictionary_values, dictionary_carried, parts_kind, parts_same, held_sound, absent_is}
use Rattle.ipc_read.proofs.ReaderSteps.{if_ok}
use Rattle.ipc_read.proofs.Refusals.{err_from, memory_refuses}
use Rattle.ipc_read.proofs.readers.ColumnReader.read_dictionary.Goals as goal

pub dictionary_parts-requires : goal.dictionary_parts-requires
dictionary_parts-requires g c = record { carried = dictionary_carried (kind_of c.args.dtype.now) c.args.index (kind_of c.args.values.now) c.requires.kind c.requires.held }

pub returns-in_err-keys-clause-parts : goal.returns-in_err-keys-clause-parts
returns-in_err-keys-clause-parts g c = λ m d p a known holds.
    err_from _ _ c.in_err-keys.field-0.0 _ _ _ c.from_residual.ensures.0 c.from_residual.ensures.1 (λ x e. e)
    (keys_refused m d (kind_with (kind_of c.args.dtype.now) (Some c.args.id) no_fields) c.args.index (ordered_in (kind_of c.args.dtype.now)) c.args.id (kind_with (kind_of c.args.values.now) None no_fields) p c.args.rows c.in_err-keys.field-0.0 (dictionary_with (kind_of c.args.dtype.now) (Some c.args.id) no_fields c.args.index (kind_of c.args.values.now) c.requires.kind) (c.in_err-keys.ensures.gives (kind_of c.args.dtype.now) m p a known).err)

pub returns-in_err-parts-clause-parts : goal.returns-in_err-parts-clause-parts
returns-in_err-parts-clause-parts g c = λ m d p a known holds.
    err_from _ _ c.in_err-parts.field-0.0 _ _ _ c.from_residual-in_err-parts.ensures.0 c.from_residual-in_err-parts.ensures.1 (λ x e. e) (memory_refuses c.in_err-parts.field-0.0 _ c.in_err-parts.ensures.memory)

pub make_dictionary-requires : goal.make_dictionary-requires
make_dictionary-requires g c =
    let v = dictionary_held HasKind (held_in c.args.dictionaries.now) (kind_with (kind_of c.args.dtype.now) (Some c.args.id) no_fields) c.args.index (ordered_in (kind_of c.args.dtype.now)) c.args.id (kind_with (kind_of c.args.values.now) None no_fields) (dictionary_with (kind_of c.args.dtype.now) (Some c.args.id) no_fields c.args.index (kind_of c.args.values.now) c.requires.kind) c.requires.kinds in
    let f : forest_of c.in_ok-parts.parts.items ≡ parts_or_empty (held_in c.args.dictionaries.now c.args.id) (kind_with (kind_of c.args.values.now) None no_fields) = c.in_ok-parts.ensures.parts ∙ ap (λ z. parts_or_empty (held_in c.args.dictionaries.now z) (kind_of c.args.values.now)) (to_z-of_z w64 c.args.id c.ranges.id) ∙ parts_same (held_in c.args.dictionaries.now c.args.id) (kind_of c.args.values.now) (kind_with (kind_of c.args.values.now) None no_fields) (sym (plain_with (kind_of c.args.values.now) None no_fields)) in
    let s = held_sound (held_in c.args.dictionaries.now c.args.id) (kind_with (kind_of c.args.values.now) None no_fields) v (ap fault_each (sym f) ∙ c.in_ok-parts.ensures.sound) in
    record {
      keys = ap (λ t. is_dictionary t (kind_of c.args.dtype.now)) c.in_ok-keys.ensures.index ∙ dictionary_keys (kind_of c.args.dtype.now) c.args.index (kind_of c.args.values.now) c.requires.kind;
      values = ap (λ k. each_of k (kinds_each (forest_of c.in_ok-parts.parts.items))) (dictionary_values (kind_of c.args.dtype.now) c.args.index (kind_of c.args.values.now) c.requires.kind ∙ sym (plain_of c.args.values.now) ∙ sym (plain_with (kind_of c.args.values.now) None no_fields))
          ∙ ap (λ cs. each_of (plain_kind (kind_with (kind_of c.args.values.now) None no_fields)) (kinds_each cs)) f ∙ parts_kind (held_in c.args.dictionaries.now c.args.id) (kind_with (kind_of c.args.values.now) None no_fields) v;
      sound = c.in_ok-parts.ensures.sound;
    }

pub returns-clause-parts : goal.returns-clause-parts
returns-clause-parts g c = λ m d p a known holds.
    let v = dictionary_held HasKind (held_in c.args.dictionaries.now) (kind_with (kind_of c.args.dtype.now) (Some c.args.id) no_fields) c.args.index (ordered_in (kind_of c.args.dtype.now)) c.args.id (kind_with (kind_of c.args.values.now) None no_fields) (dictionary_with (kind_of c.args.dtype.now) (Some c.args.id) no_fields c.args.index (kind_of c.args.values.now) c.requires.kind) c.requires.kinds in
    let f : forest_of c.in_ok-parts.parts.items ≡ parts_or_empty (held_in c.args.dictionaries.now c.args.id) (kind_with (kind_of c.args.values.now) None no_fields) = c.in_ok-parts.ensures.parts ∙ ap (λ z. parts_or_empty (held_in c.args.dictionaries.now z) (kind_of c.args.values.now)) (to_z-of_z w64 c.args.id c.ranges.id) ∙ parts_same (held_in c.args.dictionaries.now c.args.id) (kind_of c.args.values.now) (kind_with (kind_of c.args.values.now) None no_fields) (sym (plain_with (kind_of c.args.values.now) None no_fields)) in
    let s = held_sound (held_in c.args.dictionaries.now c.args.id) (kind_with (kind_of c.args.values.now) None no_fields) v (ap fault_each (sym f) ∙ c.in_ok-parts.ensures.sound) in
    let i : to_z w64 (of_z w64 c.args.id) ≡ c.args.id = to_z-of_z w64 c.args.id c.ranges.id in
    let k = (c.in_ok-keys.ensures.gives (kind_of c.args.dtype.now) m p a known).ok in
    let e = k.1 ∙ ap (λ l. indexed_read m l c.args.index p c.args.rows) (sym (plain_with (kind_of c.args.dtype.now) (Some c.args.id) no_fields ∙ plain_of c.args.dtype.now)) in
    keys_made c.make_dictionary.result m d (held_in c.args.dictionaries.now) (kind_with (kind_of c.args.dtype.now) (Some c.args.id) no_fields) c.args.index (ordered_in (kind_of c.args.dtype.now)) c.args.id (kind_with (kind_of c.args.values.now) None no_fields) p c.args.rows _ _ _ _ (dictionary_with (kind_of c.args.dtype.now) (Some c.args.id) no_fields c.args.index (kind_of c.args.values.now) c.requires.kind)
    (carried_with (kind_of c.args.values.now) None no_fields ∙ dictionary_carried (kind_of c.args.dtype.now) c.args.index (kind_of c.args.values.now) c.requires.kind c.requires.held)
    holds s k.0 e f (ap not c.contains_key-is_absent.ensures ∙ ap (λ z. not (is_some (get int_cmp c.args.dictionaries.now z))) i ∙ absent_is (λ v. forest_of v.items) (get int_cmp c.args.dictionaries.now c.args.id)) i c.make_dictionary.ensures.parts c.make_dictionary.ensures.fine c.make_dictionary.ensures.err

pub returns-clause-sound : goal.returns-clause-sound
returns-clause-sound g c =
    let v = dictionary_held HasKind (held_in c.args.dictionaries.now) (kind_with (kind_of c.args.dtype.now) (Some c.args.id) no_fields) c.args.index (ordered_in (kind_of c.args.dtype.now)) c.args.id (kind_with (kind_of c.args.values.now) None no_fields) (dictionary_with (kind_of c.args.dtype.now) (Some c.args.id) no_fields c.args.index (kind_of c.args.values.now) c.requires.kind) c.requires.kinds in
    let f : forest_of c.in_ok-parts.parts.items ≡ parts_or_empty (held_in c.args.dictionaries.now c.args.id) (kind_with (kind_of c.args.values.now) None no_fields) = c.in_ok-parts.ensures.parts ∙ ap (λ z. parts_or_empty (held_in c.args.dictionaries.now z) (kind_of c.args.values.now)) (to_z-of_z w64 c.args.id c.ranges.id) ∙ parts_same (held_in c.args.dictionaries.now c.args.id) (kind_of c.args.values.now) (kind_with (kind_of c.args.values.now) None no_fields) (sym (plain_with (kind_of c.args.values.now) None no_fields)) in
    let s = held_sound (held_in c.args.dictionaries.now c.args.id) (kind_with (kind_of c.args.values.now) None no_fields) v (ap fault_each (sym f) ∙ c.in_ok-parts.ensures.sound) in
    if_any c.make_dictionary.result _ (held_dictionary AreValuesOf (held_in c.args.dictionaries.now) (kind_with (kind_of c.args.dtype.now) (Some c.args.id) no_fields) c.args.index (ordered_in (kind_of c.args.dtype.now)) c.args.id (kind_with (kind_of c.args.values.now) None no_fields) (dictionary_with (kind_of c.args.dtype.now) (Some c.args.id) no_fields c.args.index (kind_of c.args.values.now) c.requires.kind) s)

pub returns-clause-shape : goal.returns-clause-shape
returns-clause-shape g c = if_ok c.make_dictionary.result _ _ c.make_dictionary.ensures.parts (λ x e. (ap kind_in e, ap rows_in e ∙ c.in_ok-keys.ensures.rows))

pub returns-clause-takes : goal.returns-clause-takes
returns-clause-takes g c = if_any c.make_dictionary.result _ (λ m p a. keys_taken m (kind_of c.args.dtype.now) c.args.index (ordered_in (kind_of c.args.dtype.now)) (id_in (kind_of c.args.dtype.now)) (kind_of c.args.values.now) p _ _ c.requires.kind (c.in_ok-keys.ensures.takes m p a))

pub returns-in_err-keys-clause-shortened : goal.returns-in_err-keys-clause-shortened
returns-in_err-keys-clause-shortened g c = λ version vs. keys_shortened (kind_of c.args.dtype.now) c.args.index (ordered_in (kind_of c.args.dtype.now)) (id_in (kind_of c.args.dtype.now)) (kind_of c.args.values.now) version _ _ _ _ vs vs c.requires.kind (c.in_err-keys.ensures.shortened version vs)

pub returns-in_err-keys-clause-fetched : goal.returns-in_err-keys-clause-fetched
returns-in_err-keys-clause-fetched g c = λ m p a. keys_fetched_by m (kind_of c.args.dtype.now) c.args.index (ordered_in (kind_of c.args.dtype.now)) (id_in (kind_of c.args.dtype.now)) (kind_of c.args.values.now) p c.args.rows _ _ c.requires.kind (c.in_err-keys.ensures.fetched m p a)

pub returns-in_err-parts-clause-shortened : goal.returns-in_err-parts-clause-shortened
returns-in_err-parts-clause-shortened g c = λ version vs. keys_shortened (kind_of c.args.dtype.now) c.args.index (ordered_in (kind_of c.args.dtype.now)) (id_in (kind_of c.args.dtype.now)) (kind_of c.args.values.now) version _ _ _ _ vs vs c.requires.kind (c.in_ok-keys.ensures.shortened version vs)

pub returns-in_err-parts-clause-fetched : goal.returns-in_err-parts-clause-fetched
returns-in_err-parts-clause-fetched g c = λ m p a. keys_fetched_by m (kind_of c.args.dtype.now) c.args.index (ordered_in (kind_of c.args.dtype.now)) (id_in (kind_of c.args.dtype.now)) (kind_of c.args.values.now) p c.args.rows _ _ c.requires.kind (c.in_ok-keys.ensures.fetched m p a)

pub returns-clause-shortened : goal.returns-clause-shortened
returns-clause-shortened g c = λ version vs. keys_shortened (kind_of c.args.dtype.now) c.args.index (ordered_in (kind_of c.args.dtype.now)) (id_in (kind_of c.args.dtype.now)) (kind_of c.args.values.now) version _ _ _ _ vs vs c.requires.kind (c.in_ok-keys.ensures.shortened version vs)

pub returns-clause-fetched : goal.returns-clause-fetched
returns-clause-fetched g c = λ m p a. keys_fetched_by m (kind_of c.args.dtype.now) c.args.index (ordered_in (kind_of c.args.dtype.now)) (id_in (kind_of c.args.dtype.now)) (kind_of c.args.values.now) p c.args.rows _ _ c.requires.kind (c.in_ok-keys.ensures.fetched m p a)
