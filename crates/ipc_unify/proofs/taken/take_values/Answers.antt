use Rattle.std.proofs.Common.{◌≡◌, ◌∙◌, ap}
use Rattle.arrow_arrays.specs.PartsOf.{forest_of}
use Rattle.laws_unify.specs.United.{held_in, with_parts}
use Rattle.dictionary_places.specs.Lists.{parts_in}
use Rattle.ipc_unify.specs.Steps.{lists_of}
use Rattle.ipc_unify.proofs.ListSteps.{kept_at, kept_set, list_at, lists_put}
use Rattle.ipc_unify.proofs.taken.take_values.Goals as goal

pub take-requires : goal.take-requires
take-requires c = kept_at c.grow.new.lists.items c.args.number c.index_mut.result.now c.in_ok-grow.ensures.there c.index_mut.ensures.value c.in_ok-grow.ensures.kept

pub returns-clause-held : goal.returns-clause-held
returns-clause-held c =
    let l = c.index_mut.result.now in
    let own : parts_in l ≡ lists_of c.args.lists.now.items c.args.number = list_at c.grow.new.lists.items c.args.number l c.in_ok-grow.ensures.there c.index_mut.ensures.value ∙ ap (λ us. us c.args.number) c.in_ok-grow.ensures.same in
    c.in_ok-take.ensures.held ∙ ap (λ ps. held_in ps (forest_of c.args.parts.now)) own

pub returns-clause-lists : goal.returns-clause-lists
returns-clause-lists c =
    let l = c.index_mut.result.now in
    let own : parts_in l ≡ lists_of c.args.lists.now.items c.args.number = list_at c.grow.new.lists.items c.args.number l c.in_ok-grow.ensures.there c.index_mut.ensures.value ∙ ap (λ us. us c.args.number) c.in_ok-grow.ensures.same in
    lists_put c.grow.new.lists.items c.args.number c.take.new.self _ _ c.in_ok-grow.ensures.there (c.in_ok-take.ensures.parts ∙ ap (λ ps. with_parts ps (forest_of c.args.parts.now)) own) c.in_ok-grow.ensures.same

pub returns-clause-kept : goal.returns-clause-kept
returns-clause-kept c = kept_set c.grow.new.lists.items c.args.number c.take.new.self c.in_ok-grow.ensures.kept c.in_ok-take.ensures.kept
