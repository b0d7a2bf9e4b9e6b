use Rattle.std.proofs.Common.{Some, Ok, sym, ap, ◌∙◌, arith, rules, subst, to_z, of_z, w64}
use Rattle.std.proofs.lemmas.Int.{to_z-of_z}
use Rattle.arrow_types.specs.KindOf.{kind_of}
use Rattle.ipc_fields.specs.IpcFields.{ids_of, no_fields}
use Rattle.ipc_read_laws.specs.Faults.{fetched_at_most}
use Rattle.ipc_read_laws.specs.Held.{AllHeld, AreValuesOf, HasKind}
use Rattle.ipc_read_laws.specs.PartsRead.{HaveBytes, parts_read}
use Rattle.ipc_read_laws.proofs.Keys.{held_without}
use Rattle.ipc_read_laws.proofs.PlainKinds.{no_dictionaries}
use Rattle.ipc_read_laws.proofs.TreesSound.{read_plain}
use Rattle.ipc_read.specs.Held.{held_in}
use Rattle.ipc_read.specs.Queues.{AllAt}
use Rattle.ipc_read.proofs.Arrays.{if_any, all_queues, all_shortened}
use Rattle.ipc_read.proofs.ColumnIds.{leaf_with, after_with}
use Rattle.ipc_read.proofs.KeysRead.{shortened_with, keys_held, same_kinds, same_values, keys_reads, keys_parts_read, answers_like, keys_views, keys_bytes, keys_fetched, dictionary_is}
use Rattle.ipc_read.proofs.Nested.{carried_leaf, leaf_reads, tree_bytes}
use Rattle.ipc_read.proofs.Passing.{at_all}
use Rattle.ipc_read.proofs.ReaderSteps.{if_ok}
use Rattle.ipc_read.proofs.Refusals.{err_from}
use Rattle.ipc_read.proofs.readers.ColumnReader.read_childless.Goals as goal

-- ── keys of a dictionary ──

pub read_dictionary-requires-clause-kinds : goal.read_dictionary-requires-clause-kinds
read_dictionary-requires-clause-kinds g c =
    let is = dictionary_is (kind_of c.args.dtype.now) _ _ c.in-Some.ensures.dictionary in
    keys_held HasKind same_kinds (held_in c.args.dictionaries.now) (kind_of c.args.dtype.now) c.args.id (Some (to_z w64 (of_z w64 c.id_or_zero-id.result))) (ids_of c.args.fields.now) no_fields (sym (to_z-of_z w64 c.id_or_zero-id.result (search rules) ∙ c.id_or_zero-id.ensures)) is c.requires.kinds

pub returns-in_err-keys-in-Some-clause-parts : goal.returns-in_err-keys-in-Some-clause-parts
returns-in_err-keys-in-Some-clause-parts g c = λ m d p a known holds.
    let is = dictionary_is (kind_of c.args.dtype.now) _ _ c.in-Some.ensures.dictionary in
    err_from _ _ c.in_err-keys-in-Some.field-0.0 _ _ _ c.from_residual.ensures.0 c.from_residual.ensures.1 (λ x e. e)
    (subst (λ es. Rattle.arrow_spec.specs.Readings.Refuses c.in_err-keys-in-Some.field-0.0 es) (keys_reads m d (kind_of c.args.dtype.now) (Some (to_z w64 (of_z w64 c.id_or_zero-id.result))) c.args.id no_fields (ids_of c.args.fields.now) p c.args.rows (to_z-of_z w64 c.id_or_zero-id.result (search rules) ∙ c.id_or_zero-id.ensures) is) (c.in_err-keys-in-Some.ensures.parts m d p (at_all a.all) known holds).err)

pub returns-in_err-keys-in-Some-clause-shortened : goal.returns-in_err-keys-in-Some-clause-shortened
returns-in_err-keys-in-Some-clause-shortened g c = shortened_with (kind_of c.args.dtype.now) c.args.id (ids_of c.args.fields.now) c.args.self.now.version _ _ _ _ _ _ (all_shortened (kind_of c.args.dtype.now) _ _ _ _ _ _ c.in_err-keys-in-Some.ensures.counts c.in_err-keys-in-Some.ensures.shortened c.args.self.now.version)

pub returns-in_err-keys-in-Some-clause-fetched : goal.returns-in_err-keys-in-Some-clause-fetched
returns-in_err-keys-in-Some-clause-fetched g c = λ m p a.
    let is = dictionary_is (kind_of c.args.dtype.now) _ _ c.in-Some.ensures.dictionary in
    let e = keys_fetched m (kind_of c.args.dtype.now) c.args.id (ids_of c.args.fields.now) p c.args.rows is in
    omega (arith, c.in_err-keys-in-Some.ensures.fetched m p (at_all a.all), e)

pub returns-in_ok-keys-in-Some-clause-takes : goal.returns-in_ok-keys-in-Some-clause-takes
returns-in_ok-keys-in-Some-clause-takes g c = λ m p a.
    let is = dictionary_is (kind_of c.args.dtype.now) _ _ c.in-Some.ensures.dictionary in
    subst (λ q. AllAt m q c.read_dictionary.new.self.nodes.now.items c.read_dictionary.new.self.buffers.queue.now.items c.read_dictionary.new.self.variadic.now.items) (sym (after_with m (kind_of c.args.dtype.now) c.args.id (ids_of c.args.fields.now) p))
    (all_queues (Ok c.in_ok-keys-in-Some.keys) (kind_of c.args.dtype.now) _ _ _ _ _ _ (keys_views (kind_of c.args.dtype.now) is) c.in_ok-keys-in-Some.ensures.counts c.in_ok-keys-in-Some.ensures.takes m p a.all)

pub returns-in_ok-keys-in-Some-clause-parts : goal.returns-in_ok-keys-in-Some-clause-parts
returns-in_ok-keys-in-Some-clause-parts g c = λ m d p a known holds.
    let is = dictionary_is (kind_of c.args.dtype.now) _ _ c.in-Some.ensures.dictionary in
    let x = (c.in_ok-keys-in-Some.ensures.parts m d p (at_all a.all) known holds).ok in
    record { ok = (sym (keys_reads m d (kind_of c.args.dtype.now) (Some (to_z w64 (of_z w64 c.id_or_zero-id.result))) c.args.id no_fields (ids_of c.args.fields.now) p c.args.rows (to_z-of_z w64 c.id_or_zero-id.result (search rules) ∙ c.id_or_zero-id.ensures) is) ∙ x.0, x.1 ∙ keys_parts_read m (held_in c.args.dictionaries.now) (kind_of c.args.dtype.now) (Some (to_z w64 (of_z w64 c.id_or_zero-id.result))) c.args.id no_fields (ids_of c.args.fields.now) p c.args.rows (to_z-of_z w64 c.id_or_zero-id.result (search rules) ∙ c.id_or_zero-id.ensures) is); err = tt }

pub returns-in_ok-keys-in-Some-clause-bytes : goal.returns-in_ok-keys-in-Some-clause-bytes
returns-in_ok-keys-in-Some-clause-bytes g c = λ m p a known.
    let is = dictionary_is (kind_of c.args.dtype.now) _ _ c.in-Some.ensures.dictionary in
    keys_bytes m (kind_of c.args.dtype.now) c.args.id (ids_of c.args.fields.now) p c.args.rows is

pub returns-in_ok-keys-in-Some-clause-sound : goal.returns-in_ok-keys-in-Some-clause-sound
returns-in_ok-keys-in-Some-clause-sound g c =
    let is = dictionary_is (kind_of c.args.dtype.now) _ _ c.in-Some.ensures.dictionary in
    keys_held AreValuesOf same_values (held_in c.args.dictionaries.now) (kind_of c.args.dtype.now) (Some (to_z w64 (of_z w64 c.id_or_zero-id.result))) c.args.id no_fields (ids_of c.args.fields.now) (to_z-of_z w64 c.id_or_zero-id.result (search rules) ∙ c.id_or_zero-id.ensures) is c.in_ok-keys-in-Some.ensures.sound

pub returns-in_ok-keys-in-Some-clause-shortened : goal.returns-in_ok-keys-in-Some-clause-shortened
returns-in_ok-keys-in-Some-clause-shortened g c = shortened_with (kind_of c.args.dtype.now) c.args.id (ids_of c.args.fields.now) c.args.self.now.version _ _ _ _ _ _ (all_shortened (kind_of c.args.dtype.now) _ _ _ _ _ _ c.in_ok-keys-in-Some.ensures.counts c.in_ok-keys-in-Some.ensures.shortened c.args.self.now.version)

pub returns-in_ok-keys-in-Some-clause-fetched : goal.returns-in_ok-keys-in-Some-clause-fetched
returns-in_ok-keys-in-Some-clause-fetched g c = λ m p a.
    let is = dictionary_is (kind_of c.args.dtype.now) _ _ c.in-Some.ensures.dictionary in
    let e = keys_fetched m (kind_of c.args.dtype.now) c.args.id (ids_of c.args.fields.now) p c.args.rows is in
    omega (arith, c.in_ok-keys-in-Some.ensures.fetched m p (at_all a.all), e)

-- ── values ──

pub read_plain-requires-clause-leaf : goal.read_plain-requires-clause-leaf
read_plain-requires-clause-leaf g c = carried_leaf (kind_of c.args.dtype.now) c.requires.held c.requires.counted c.requires.lists c.requires.unions c.in-None.ensures.none

pub returns-in-None-clause-takes : goal.returns-in-None-clause-takes
returns-in-None-clause-takes g c = if_ok c.read_plain.result _ _ c.read_plain.ensures.takes (λ x h m p a.
    subst (λ q. AllAt m q c.read_plain.new.self.nodes.now.items c.read_plain.new.self.buffers.queue.now.items c.read_plain.new.self.variadic.now.items) (sym (after_with m (kind_of c.args.dtype.now) c.args.id (ids_of c.args.fields.now) p)) (h m p a.all))

pub returns-in-None-clause-parts : goal.returns-in-None-clause-parts
returns-in-None-clause-parts g c = λ m d p a known holds.
    let is = carried_leaf (kind_of c.args.dtype.now) c.requires.held c.requires.counted c.requires.lists c.requires.unions c.in-None.ensures.none in
    let e = sym (leaf_with (kind_of c.args.dtype.now) c.args.id (ids_of c.args.fields.now) is) in
    let k = kind_of c.args.dtype.now in
    let h = held_in c.args.dictionaries.now in
    answers_like _ c.read_plain.result _ _ _ _ (leaf_reads m d k p c.args.rows is ∙ ap (λ k. Rattle.ipc_read_laws.specs.Faults.read_faults m d k p c.args.rows) e) (read_plain m h k p c.args.rows is ∙ ap (λ k. parts_read m h k p c.args.rows) e) (c.read_plain.ensures.parts m p a.all known)

pub returns-in-None-clause-bytes : goal.returns-in-None-clause-bytes
returns-in-None-clause-bytes g c =
    let is = carried_leaf (kind_of c.args.dtype.now) c.requires.held c.requires.counted c.requires.lists c.requires.unions c.in-None.ensures.none in
    let e = sym (leaf_with (kind_of c.args.dtype.now) c.args.id (ids_of c.args.fields.now) is) in
    if_ok c.read_plain.result _ _ c.read_plain.ensures.bytes (λ x h m p a known. subst (λ k. HaveBytes m k p c.args.rows) e (tree_bytes m (kind_of c.args.dtype.now) p c.args.rows is (h m p a.all known)))

pub returns-in-None-clause-sound : goal.returns-in-None-clause-sound
returns-in-None-clause-sound g c =
    let is = carried_leaf (kind_of c.args.dtype.now) c.requires.held c.requires.counted c.requires.lists c.requires.unions c.in-None.ensures.none in
    let e = sym (leaf_with (kind_of c.args.dtype.now) c.args.id (ids_of c.args.fields.now) is) in
    if_any c.read_plain.result _ (subst (λ k. AllHeld AreValuesOf (held_in c.args.dictionaries.now) k) e (held_without AreValuesOf (held_in c.args.dictionaries.now) (kind_of c.args.dtype.now) (no_dictionaries (kind_of c.args.dtype.now) is)))

pub returns-in-None-clause-shortened : goal.returns-in-None-clause-shortened
returns-in-None-clause-shortened g c = shortened_with (kind_of c.args.dtype.now) c.args.id (ids_of c.args.fields.now) c.args.self.now.version _ _ _ _ _ _ (c.read_plain.ensures.shortened c.args.self.now.version)

pub returns-in-None-clause-fetched : goal.returns-in-None-clause-fetched
returns-in-None-clause-fetched g c = λ m p a.
    let is = carried_leaf (kind_of c.args.dtype.now) c.requires.held c.requires.counted c.requires.lists c.requires.unions c.in-None.ensures.none in
    let e = ap (λ k. fetched_at_most m k p c.args.rows) (sym (leaf_with (kind_of c.args.dtype.now) c.args.id (ids_of c.args.fields.now) is)) in
    omega (arith, c.read_plain.ensures.fetched m p a.all, e)
