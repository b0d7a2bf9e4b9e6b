use Rattle.std.proofs.Common.{◌≡◌, ◌∙◌, ◌+◌, ◌<◌, ◌^◌, length, map, true, sym, ap, arith}
use Rattle.std.proofs.lemmas.List.{length-map}
use Rattle.arrow_spec.specs.Counts.{is_negative, magnitude}
use Rattle.arrow_buffers.specs.Rows.{is_valid}
use Rattle.arrow_arrays.specs.Heads.{number_at}
use Rattle.dictionary_keys.proofs.Moved.{key_is_good, number_there, row_moves}
use Rattle.dictionary_keys.proofs.keys.moved_row.Goals as goal

pub moved_key-requires-clause-natural : goal.moved_key-requires-clause-natural
moved_key-requires-clause-natural g c =
    let number = g.K.DictionaryKey.number in
    let xs = c.args.keys.now.values in
    let valid : is_valid c.args.keys.now.validity c.args.row ≡ true = ap (λ v. is_valid v c.args.row) (sym c.validity.ensures.bits) ∙ sym c.is_valid_in.ensures ∙ c.if-is_valid_in.true in
    (key_is_good c.args.place (map number xs) c.args.keys.now.validity c.args.row (number c.value.result) c.requires.room (omega (arith, length-map xs number, c.requires.below)) valid (number_there number xs c.args.row c.value.result c.value.ensures)).natural

pub moved_key-requires-clause-room : goal.moved_key-requires-clause-room
moved_key-requires-clause-room g c =
    let number = g.K.DictionaryKey.number in
    let xs = c.args.keys.now.values in
    let valid : is_valid c.args.keys.now.validity c.args.row ≡ true = ap (λ v. is_valid v c.args.row) (sym c.validity.ensures.bits) ∙ sym c.is_valid_in.ensures ∙ c.if-is_valid_in.true in
    (key_is_good c.args.place (map number xs) c.args.keys.now.validity c.args.row (number c.value.result) c.requires.room (omega (arith, length-map xs number, c.requires.below)) valid (number_there number xs c.args.row c.value.result c.value.ensures)).room

pub returns-then-is_valid_in : goal.returns-then-is_valid_in
returns-then-is_valid_in g c =
    let number = g.K.DictionaryKey.number in
    let xs = c.args.keys.now.values in
    let at = number_there number xs c.args.row c.value.result c.value.ensures in
    let valid : is_valid c.args.keys.now.validity c.args.row ≡ true = ap (λ v. is_valid v c.args.row) (sym c.validity.ensures.bits) ∙ sym c.is_valid_in.ensures ∙ c.if-is_valid_in.true in
    let good = key_is_good c.args.place (map number xs) c.args.keys.now.validity c.args.row (number c.value.result) c.requires.room (omega (arith, length-map xs number, c.requires.below)) valid at in
    row_moves g.K.DictionaryKey.KEY_TYPE g.K.DictionaryKey.limit c.args.place (map number xs) c.args.keys.now.validity c.args.row (number c.value.result) _ c.requires.ends valid at good.room c.moved_key.ensures
