use Rattle.std.proofs.Common.{◌≡◌, ◌∙◌, ◌+◌, ◌<◌, ◌^◌, IfSome, length, option_map, refl, set, sym, ap, subst, arith, inr}
use Rattle.std.proofs.lemmas.List.{length-set}
use Rattle.arrow_arrays.specs.Heads.{indexed}
use Rattle.arrow_arrays.specs.KeysOf.{index_in, key_validity_in, keys_in}
use Rattle.arrow_arrays.specs.Parts.{fault_in, forest, nested}
use Rattle.arrow_arrays.specs.PartsOf.{forest_of}
use Rattle.laws_unify.specs.Lists.{StandsAt}
use Rattle.laws_unify.specs.Over.{Lists, is_same_cell, moved, place_in, values_of}
use Rattle.dictionary_keys.specs.Keys.{Moves}
use Rattle.dictionary_places.specs.Lists.{parts_in}
use Rattle.ipc_unify.specs.Steps.{Same, lists_of}
use Rattle.ipc_unify.proofs.ListSteps.{kept_at, list_at, same_set}
use Rattle.ipc_unify.proofs.Moving.{AreKeys, keys_have_room, keys_large, keys_moved, list_there}
use Rattle.ipc_unify.proofs.OverSteps.{fits_as, ok_with, parts_as, refused_memory}
use Rattle.ipc_unify.proofs.over.dictionary_over.Goals as goal

pub index_mut-requires : goal.index_mut-requires
index_mut-requires c =
    let ls = c.args.lists.now.items in
    let us : Lists = lists_of ls in
    let h = c.args.dictionary.now.head in
    let cs = c.args.dictionary.now.children in
    let id = c.args.number in
    let there = list_there ls h cs id c.requires.sound in
    omega (arith, there, c.args.lists.now.ok.0)

pub index-requires : goal.index-requires
index-requires c =
    let ls = c.args.lists.now.items in
    let us : Lists = lists_of ls in
    let h = c.args.dictionary.now.head in
    let cs = c.args.dictionary.now.children in
    let id = c.args.number in
    let there = list_there ls h cs id c.requires.sound in
    omega (arith, there, c.args.lists.now.ok.0)

pub place_of-requires-clause-kept : goal.place_of-requires-clause-kept
place_of-requires-clause-kept c =
    let ls = c.args.lists.now.items in
    let us : Lists = lists_of ls in
    let h = c.args.dictionary.now.head in
    let cs = c.args.dictionary.now.children in
    let id = c.args.number in
    let there = list_there ls h cs id c.requires.sound in
    kept_at ls id c.index_mut.result.now there c.index_mut.ensures.value c.requires.kept

pub place_of-requires-clause-stands : goal.place_of-requires-clause-stands
place_of-requires-clause-stands c =
    let ls = c.args.lists.now.items in
    let us : Lists = lists_of ls in
    let h = c.args.dictionary.now.head in
    let cs = c.args.dictionary.now.children in
    let id = c.args.number in
    let there = list_there ls h cs id c.requires.sound in
    let own = list_at ls id c.index_mut.result.now there c.index_mut.ensures.value in
    subst (λ ps. StandsAt is_same_cell (values_of ps) (values_of (forest_of c.parts.result.now))) (sym own) (subst (λ ps. StandsAt is_same_cell (values_of (us id)) (values_of ps)) (sym c.parts.ensures) c.requires.stands)

pub moved_keys-requires : goal.moved_keys-requires
moved_keys-requires c =
    let d = c.args.dictionary.now in
    keys_have_room (lists_of c.args.lists.now.items) d.head d.children c.args.number c.in_ok-place.place _ _ c.len-rows.ensures.sound c.requires.stands c.keys.ensures.keys c.keys.ensures.validity (subst (λ ps. c.in_ok-place.place + length (values_of ps) < 2 ^ 64) c.parts.ensures c.in_ok-place.ensures.within)

pub returns-in-None-clause-refused : goal.returns-in-None-clause-refused
returns-in-None-clause-refused c =
    let ls = c.args.lists.now.items in
    let us : Lists = lists_of ls in
    let h = c.args.dictionary.now.head in
    let cs = c.args.dictionary.now.children in
    let id = c.args.number in
    let there = list_there ls h cs id c.requires.sound in
    let own = list_at ls id c.index_mut.result.now there c.index_mut.ensures.value in
    let o = place_in (us id) cs in
    let place : c.in_ok-place.place ≡ o = c.in_ok-place.ensures.place ∙ ap (λ ps. place_in ps (forest_of c.parts.result.now)) own ∙ ap (place_in (us id)) c.parts.ensures in
    let keys = c.keys.result.now in
    let are : AreKeys keys h = record { index = c.keys.ensures.index; keys = c.keys.ensures.keys; validity = c.keys.ensures.validity } in
    let moves = subst (λ r. Moves (index_in keys) c.in_ok-place.place (keys_in keys) (key_validity_in keys) (option_map keys_in r)) c.in-None.is c.in_ok-keys.ensures.moves in
    inr (refl, keys_large keys h c.in_ok-place.place o are place moves)

pub keyed_over-requires : goal.keyed_over-requires
keyed_over-requires c =
    let ls = c.args.lists.now.items in
    let us : Lists = lists_of ls in
    let h = c.args.dictionary.now.head in
    let cs = c.args.dictionary.now.children in
    let id = c.args.number in
    let there = list_there ls h cs id c.requires.sound in
    let own = list_at ls id c.index_mut.result.now there c.index_mut.ensures.value in
    let o = place_in (us id) cs in
    let place : c.in_ok-place.place ≡ o = c.in_ok-place.ensures.place ∙ ap (λ ps. place_in ps (forest_of c.parts.result.now)) own ∙ ap (place_in (us id)) c.parts.ensures in
    let keys = c.keys.result.now in
    let are : AreKeys keys h = record { index = c.keys.ensures.index; keys = c.keys.ensures.keys; validity = c.keys.ensures.validity } in
    let moves = subst (λ r. Moves (index_in keys) c.in_ok-place.place (keys_in keys) (key_validity_in keys) (option_map keys_in r)) c.in-Some.is c.in_ok-keys.ensures.moves in
    let index = subst (λ r. IfSome r (λ k. index_in k ≡ index_in keys)) c.in-Some.is c.in_ok-keys.ensures.index in
    let validity = subst (λ r. IfSome r (λ k. key_validity_in k ≡ key_validity_in keys)) c.in-Some.is c.in_ok-keys.ensures.validity in
    let m = keys_moved keys c.in-Some.keys h c.in_ok-place.place o are place moves index validity in
    let same = same_set ls id c.index_mut.result.now c.place_of.new.self there c.index_mut.ensures.value c.requires.kept c.in_ok-place.ensures.kept c.in_ok-place.ensures.parts in
    let inside : id < length (set ls id c.place_of.new.self) = omega (arith, there, length-set ls id c.place_of.new.self) in
    let held : parts_in c.index.result.now ≡ us id = list_at (set ls id c.place_of.new.self) id c.index.result.now inside c.index.ensures ∙ ap (λ ws. ws id) same.lists in
    let new = c.in_ok-parts-in-Some.parts.items in
    let parts : forest_of new ≡ us id = ap forest c.in_ok-parts-in-Some.ensures ∙ c.parts-in-Some.ensures ∙ held in
    ap (λ head. fault_in (nested (indexed head) (forest_of new))) m.head ∙ ap (λ ps. fault_in (nested (indexed (moved o h)) ps)) parts ∙ c.requires.sound

pub returns-in_ok-parts-in-Some-clause-parts : goal.returns-in_ok-parts-in-Some-clause-parts
returns-in_ok-parts-in-Some-clause-parts c =
    let ls = c.args.lists.now.items in
    let us : Lists = lists_of ls in
    let h = c.args.dictionary.now.head in
    let cs = c.args.dictionary.now.children in
    let id = c.args.number in
    let there = list_there ls h cs id c.requires.sound in
    let own = list_at ls id c.index_mut.result.now there c.index_mut.ensures.value in
    let o = place_in (us id) cs in
    let place : c.in_ok-place.place ≡ o = c.in_ok-place.ensures.place ∙ ap (λ ps. place_in ps (forest_of c.parts.result.now)) own ∙ ap (place_in (us id)) c.parts.ensures in
    let keys = c.keys.result.now in
    let are : AreKeys keys h = record { index = c.keys.ensures.index; keys = c.keys.ensures.keys; validity = c.keys.ensures.validity } in
    let moves = subst (λ r. Moves (index_in keys) c.in_ok-place.place (keys_in keys) (key_validity_in keys) (option_map keys_in r)) c.in-Some.is c.in_ok-keys.ensures.moves in
    let index = subst (λ r. IfSome r (λ k. index_in k ≡ index_in keys)) c.in-Some.is c.in_ok-keys.ensures.index in
    let validity = subst (λ r. IfSome r (λ k. key_validity_in k ≡ key_validity_in keys)) c.in-Some.is c.in_ok-keys.ensures.validity in
    let m = keys_moved keys c.in-Some.keys h c.in_ok-place.place o are place moves index validity in
    let same = same_set ls id c.index_mut.result.now c.place_of.new.self there c.index_mut.ensures.value c.requires.kept c.in_ok-place.ensures.kept c.in_ok-place.ensures.parts in
    let inside : id < length (set ls id c.place_of.new.self) = omega (arith, there, length-set ls id c.place_of.new.self) in
    let held : parts_in c.index.result.now ≡ us id = list_at (set ls id c.place_of.new.self) id c.index.result.now inside c.index.ensures ∙ ap (λ ws. ws id) same.lists in
    let new = c.in_ok-parts-in-Some.parts.items in
    let parts : forest_of new ≡ us id = ap forest c.in_ok-parts-in-Some.ensures ∙ c.parts-in-Some.ensures ∙ held in
    parts_as c.keyed_over.result _ _ (ap (λ head. nested (indexed head) (forest_of new)) m.head ∙ ap (nested (indexed (moved o h))) parts) c.keyed_over.ensures.parts

pub returns-in_ok-parts-in-Some-clause-fits : goal.returns-in_ok-parts-in-Some-clause-fits
returns-in_ok-parts-in-Some-clause-fits c =
    let ls = c.args.lists.now.items in
    let us : Lists = lists_of ls in
    let h = c.args.dictionary.now.head in
    let cs = c.args.dictionary.now.children in
    let id = c.args.number in
    let there = list_there ls h cs id c.requires.sound in
    let own = list_at ls id c.index_mut.result.now there c.index_mut.ensures.value in
    let o = place_in (us id) cs in
    let place : c.in_ok-place.place ≡ o = c.in_ok-place.ensures.place ∙ ap (λ ps. place_in ps (forest_of c.parts.result.now)) own ∙ ap (place_in (us id)) c.parts.ensures in
    let keys = c.keys.result.now in
    let are : AreKeys keys h = record { index = c.keys.ensures.index; keys = c.keys.ensures.keys; validity = c.keys.ensures.validity } in
    let moves = subst (λ r. Moves (index_in keys) c.in_ok-place.place (keys_in keys) (key_validity_in keys) (option_map keys_in r)) c.in-Some.is c.in_ok-keys.ensures.moves in
    let index = subst (λ r. IfSome r (λ k. index_in k ≡ index_in keys)) c.in-Some.is c.in_ok-keys.ensures.index in
    let validity = subst (λ r. IfSome r (λ k. key_validity_in k ≡ key_validity_in keys)) c.in-Some.is c.in_ok-keys.ensures.validity in
    let m = keys_moved keys c.in-Some.keys h c.in_ok-place.place o are place moves index validity in
    fits_as c.keyed_over.result _ m.small

pub returns-in_ok-parts-in-Some-clause-same : goal.returns-in_ok-parts-in-Some-clause-same
returns-in_ok-parts-in-Some-clause-same c =
    let ls = c.args.lists.now.items in
    let us : Lists = lists_of ls in
    let h = c.args.dictionary.now.head in
    let cs = c.args.dictionary.now.children in
    let id = c.args.number in
    let there = list_there ls h cs id c.requires.sound in
    let same = same_set ls id c.index_mut.result.now c.place_of.new.self there c.index_mut.ensures.value c.requires.kept c.in_ok-place.ensures.kept c.in_ok-place.ensures.parts in
    ok_with _ c.keyed_over.result same

pub returns-in_ok-parts-in-Some-clause-refused : goal.returns-in_ok-parts-in-Some-clause-refused
returns-in_ok-parts-in-Some-clause-refused c =
    refused_memory c.keyed_over.result _ c.keyed_over.ensures.memory
