use Rattle.std.proofs.Common.{◌≡◌, ◌∙◌, ◌<◌, [], All, false, get_or, inl, inr, length, map, refl, sym, ap, subst, rules, true}
use Rattle.std.proofs.lemmas.List.Elements.{All-nil}
use Rattle.arrow_types.specs.KindOf.{kind_of}
use Rattle.arrow_types.specs.Schemas.{fields_in}
use Rattle.arrow_arrays.specs.Parts.{forest}
use Rattle.arrow_arrays.specs.PartsOf.{all_parts_of}
use Rattle.arrow_arrays.specs.SameBatches.{holding_of}
use Rattle.laws_unify.specs.Over.{AreOver, Lists}
use Rattle.laws_unify.specs.Single.{AreSingle}
use Rattle.laws_unify.specs.Stands.{AreSound}
use Rattle.laws_unify.specs.United.{all_taken, batch_over, finished, taken_batches, unified, united, values_kinds}
use Rattle.dictionary_places.specs.Lists.{IsKept}
use Rattle.ipc_unify.specs.Steps.{lists_of}
use Rattle.ipc_unify.proofs.OverSteps.{refusal_as, refused_by}
use Rattle.ipc_unify.proofs.Whole.{first_single, fits_of, holds_of, is_unified, keys_of, may_finish, none_unified}
use Rattle.ipc_unify.proofs.unify.Goals as goal

pub returns-then-is_empty-clause-unified : goal.returns-then-is_empty-clause-unified
returns-then-is_empty-clause-unified c =
    let none_there : length c.args.batches.items ≡ 0 = search rules in
    let n = none_unified c.args.schema.now c.args.batches.items none_there in
    n.batches

pub returns-then-is_empty-clause-over : goal.returns-then-is_empty-clause-over
returns-then-is_empty-clause-over c =
    let none_there : length c.args.batches.items ≡ 0 = search rules in
    let n = none_unified c.args.schema.now c.args.batches.items none_there in
    n.over

pub returns-then-is_empty-clause-fits : goal.returns-then-is_empty-clause-fits
returns-then-is_empty-clause-fits c =
    let none_there : length c.args.batches.items ≡ 0 = search rules in
    let n = none_unified c.args.schema.now c.args.batches.items none_there in
    n.small

pub take_batches-requires : goal.take_batches-requires
take_batches-requires c =
    let none_there : c.new-lists.result.items ≡ [] = c.new-lists.ensures.items in
    subst (All IsKept) (sym none_there) (All-nil IsKept)

pub finish_lists-requires-clause-may : goal.finish_lists-requires-clause-may
finish_lists-requires-clause-may c =
    let s = c.args.schema.now in
    let bs = c.args.batches.items in
    let ks = map kind_of c.as_slice-2.result.now in
    let raw : Lists = lists_of c.take_batches.new.lists.items in
    let none_there : c.new-lists.result.items ≡ [] = c.new-lists.ensures.items in
    let kinds : ks ≡ values_kinds (fields_in s) = ap (map kind_of) c.as_slice-2.ensures.value ∙ c.in_ok-types.ensures in
    let taken : raw ≡ all_taken bs = c.in_ok-take_batches.ensures.lists ∙ ap (λ xs. taken_batches xs (lists_of c.new-lists.result.items)) c.as_slice.ensures.value ∙ ap (λ ls. taken_batches bs (lists_of ls)) none_there in
    let sound : AreSound bs = subst AreSound c.as_slice.ensures.value c.in_ok-take_batches.ensures.sound in
    let some_there : 0 < length bs = search rules in
    let single = first_single bs c.index.result.now some_there c.index.ensures (subst (λ ps. AreSingle (forest ps)) c.columns.ensures c.know_each_single.ensures) in
    may_finish s bs ks raw kinds taken c.requires.kinds sound single

pub batches_over-requires-clause-may : goal.batches_over-requires-clause-may
batches_over-requires-clause-may c =
    let s = c.args.schema.now in
    let bs = c.args.batches.items in
    let ks = map kind_of c.as_slice-2.result.now in
    let raw : Lists = lists_of c.take_batches.new.lists.items in
    let none_there : c.new-lists.result.items ≡ [] = c.new-lists.ensures.items in
    let kinds : ks ≡ values_kinds (fields_in s) = ap (map kind_of) c.as_slice-2.ensures.value ∙ c.in_ok-types.ensures in
    let taken : raw ≡ all_taken bs = c.in_ok-take_batches.ensures.lists ∙ ap (λ xs. taken_batches xs (lists_of c.new-lists.result.items)) c.as_slice.ensures.value ∙ ap (λ ls. taken_batches bs (lists_of ls)) none_there in
    let sound : AreSound bs = subst AreSound c.as_slice.ensures.value c.in_ok-take_batches.ensures.sound in
    let some_there : 0 < length bs = search rules in
    let single = first_single bs c.index.result.now some_there c.index.ensures (subst (λ ps. AreSingle (forest ps)) c.columns.ensures c.know_each_single.ensures) in
    let u = is_unified s bs ks raw (lists_of c.finish_lists.new.lists.items) kinds taken c.requires.kinds sound single c.in_ok-finish_lists.ensures.lists in
    u.may

pub returns-in_err-finish_lists-clause-refused : goal.returns-in_err-finish_lists-clause-refused
returns-in_err-finish_lists-clause-refused c =
    let s = c.args.schema.now in
    let bs = c.args.batches.items in
    let ks = map kind_of c.as_slice-2.result.now in
    let raw : Lists = lists_of c.take_batches.new.lists.items in
    let none_there : c.new-lists.result.items ≡ [] = c.new-lists.ensures.items in
    let kinds : ks ≡ values_kinds (fields_in s) = ap (map kind_of) c.as_slice-2.ensures.value ∙ c.in_ok-types.ensures in
    let taken : raw ≡ all_taken bs = c.in_ok-take_batches.ensures.lists ∙ ap (λ xs. taken_batches xs (lists_of c.new-lists.result.items)) c.as_slice.ensures.value ∙ ap (λ ls. taken_batches bs (lists_of ls)) none_there in
    refused_by c.from_residual-in_err-finish_lists.result c.in_err-finish_lists.field-0.0 _ _ c.from_residual-in_err-finish_lists.ensures.1 (keys_of s bs ks raw (finished ks 0 raw) kinds taken refl).lists c.in_err-finish_lists.ensures.refused

pub returns-clause-unified : goal.returns-clause-unified
returns-clause-unified c =
    let s = c.args.schema.now in
    let bs = c.args.batches.items in
    let ks = map kind_of c.as_slice-2.result.now in
    let raw : Lists = lists_of c.take_batches.new.lists.items in
    let none_there : c.new-lists.result.items ≡ [] = c.new-lists.ensures.items in
    let kinds : ks ≡ values_kinds (fields_in s) = ap (map kind_of) c.as_slice-2.ensures.value ∙ c.in_ok-types.ensures in
    let taken : raw ≡ all_taken bs = c.in_ok-take_batches.ensures.lists ∙ ap (λ xs. taken_batches xs (lists_of c.new-lists.result.items)) c.as_slice.ensures.value ∙ ap (λ ls. taken_batches bs (lists_of ls)) none_there in
    let sound : AreSound bs = subst AreSound c.as_slice.ensures.value c.in_ok-take_batches.ensures.sound in
    let some_there : 0 < length bs = search rules in
    let single = first_single bs c.index.result.now some_there c.index.ensures (subst (λ ps. AreSingle (forest ps)) c.columns.ensures c.know_each_single.ensures) in
    let us : Lists = lists_of c.finish_lists.new.lists.items in
    let u = is_unified s bs ks raw (lists_of c.finish_lists.new.lists.items) kinds taken c.requires.kinds sound single c.in_ok-finish_lists.ensures.lists in
    holds_of (λ xs. xs ≡ unified s bs) c.batches_over.result _ (ap (λ ws. map (batch_over ws) bs) u.lists) c.batches_over.ensures.batches

pub returns-clause-same : goal.returns-clause-same
returns-clause-same c =
    let s = c.args.schema.now in
    let bs = c.args.batches.items in
    let ks = map kind_of c.as_slice-2.result.now in
    let raw : Lists = lists_of c.take_batches.new.lists.items in
    let none_there : c.new-lists.result.items ≡ [] = c.new-lists.ensures.items in
    let kinds : ks ≡ values_kinds (fields_in s) = ap (map kind_of) c.as_slice-2.ensures.value ∙ c.in_ok-types.ensures in
    let taken : raw ≡ all_taken bs = c.in_ok-take_batches.ensures.lists ∙ ap (λ xs. taken_batches xs (lists_of c.new-lists.result.items)) c.as_slice.ensures.value ∙ ap (λ ls. taken_batches bs (lists_of ls)) none_there in
    let sound : AreSound bs = subst AreSound c.as_slice.ensures.value c.in_ok-take_batches.ensures.sound in
    let some_there : 0 < length bs = search rules in
    let single = first_single bs c.index.result.now some_there c.index.ensures (subst (λ ps. AreSingle (forest ps)) c.columns.ensures c.know_each_single.ensures) in
    let us : Lists = lists_of c.finish_lists.new.lists.items in
    let u = is_unified s bs ks raw (lists_of c.finish_lists.new.lists.items) kinds taken c.requires.kinds sound single c.in_ok-finish_lists.ensures.lists in
    holds_of (λ xs. map holding_of xs ≡ map holding_of bs) c.batches_over.result _ (ap (λ ws. map holding_of (map (batch_over ws) bs)) u.lists ∙ u.same) c.batches_over.ensures.batches

pub returns-clause-over : goal.returns-clause-over
returns-clause-over c =
    let s = c.args.schema.now in
    let bs = c.args.batches.items in
    let ks = map kind_of c.as_slice-2.result.now in
    let raw : Lists = lists_of c.take_batches.new.lists.items in
    let none_there : c.new-lists.result.items ≡ [] = c.new-lists.ensures.items in
    let kinds : ks ≡ values_kinds (fields_in s) = ap (map kind_of) c.as_slice-2.ensures.value ∙ c.in_ok-types.ensures in
    let taken : raw ≡ all_taken bs = c.in_ok-take_batches.ensures.lists ∙ ap (λ xs. taken_batches xs (lists_of c.new-lists.result.items)) c.as_slice.ensures.value ∙ ap (λ ls. taken_batches bs (lists_of ls)) none_there in
    let sound : AreSound bs = subst AreSound c.as_slice.ensures.value c.in_ok-take_batches.ensures.sound in
    let some_there : 0 < length bs = search rules in
    let single = first_single bs c.index.result.now some_there c.index.ensures (subst (λ ps. AreSingle (forest ps)) c.columns.ensures c.know_each_single.ensures) in
    let us : Lists = lists_of c.finish_lists.new.lists.items in
    let u = is_unified s bs ks raw (lists_of c.finish_lists.new.lists.items) kinds taken c.requires.kinds sound single c.in_ok-finish_lists.ensures.lists in
    holds_of (All (λ b. AreOver (united s bs) (forest b.arrays) 0)) c.batches_over.result _ (subst (λ ws. All (λ b. AreOver (united s bs) (forest b.arrays) 0) (map (batch_over ws) bs)) (sym u.lists) u.over) c.batches_over.ensures.batches

pub returns-clause-fits : goal.returns-clause-fits
returns-clause-fits c =
    let s = c.args.schema.now in
    let bs = c.args.batches.items in
    let ks = map kind_of c.as_slice-2.result.now in
    let raw : Lists = lists_of c.take_batches.new.lists.items in
    let none_there : c.new-lists.result.items ≡ [] = c.new-lists.ensures.items in
    let kinds : ks ≡ values_kinds (fields_in s) = ap (map kind_of) c.as_slice-2.ensures.value ∙ c.in_ok-types.ensures in
    let taken : raw ≡ all_taken bs = c.in_ok-take_batches.ensures.lists ∙ ap (λ xs. taken_batches xs (lists_of c.new-lists.result.items)) c.as_slice.ensures.value ∙ ap (λ ls. taken_batches bs (lists_of ls)) none_there in
    let k = keys_of s bs ks raw (lists_of c.finish_lists.new.lists.items) kinds taken c.in_ok-finish_lists.ensures.lists in
    fits_of c.batches_over.result _ _ (λ small. k.small small c.in_ok-finish_lists.ensures.fits) c.batches_over.ensures.fits

pub returns-clause-refused : goal.returns-clause-refused
returns-clause-refused c =
    let s = c.args.schema.now in
    let bs = c.args.batches.items in
    let ks = map kind_of c.as_slice-2.result.now in
    let raw : Lists = lists_of c.take_batches.new.lists.items in
    let none_there : c.new-lists.result.items ≡ [] = c.new-lists.ensures.items in
    let kinds : ks ≡ values_kinds (fields_in s) = ap (map kind_of) c.as_slice-2.ensures.value ∙ c.in_ok-types.ensures in
    let taken : raw ≡ all_taken bs = c.in_ok-take_batches.ensures.lists ∙ ap (λ xs. taken_batches xs (lists_of c.new-lists.result.items)) c.as_slice.ensures.value ∙ ap (λ ls. taken_batches bs (lists_of ls)) none_there in
    let k = keys_of s bs ks raw (lists_of c.finish_lists.new.lists.items) kinds taken c.in_ok-finish_lists.ensures.lists in
    refusal_as c.batches_over.result _ _ k.batches c.batches_over.ensures.refused
