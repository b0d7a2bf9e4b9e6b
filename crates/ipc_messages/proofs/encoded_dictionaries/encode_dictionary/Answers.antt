use Rattle.std.proofs.Common.{◌≡◌, ◌∙◌, inl, inr, None, sym, refl, subst, true, false, to_z, of_z, w64, rules}
use Rattle.std.specs.Prelude.{IsSome}
use Rattle.std.proofs.lemmas.Int.{to_z-of_z}
use Rattle.arrow_arrays.specs.Parts.{kind_in}
use Rattle.arrow_arrays.specs.PartsOf.{parts_of, forest_of}
use Rattle.ipc_dictionaries.specs.Tracker.{values_in}
use Rattle.ipc_messages.specs.Encoded.{AddsEach, messages_of}
use Rattle.ipc_messages.specs.Chunks.{cannot_be_sent}
use Rattle.ipc_messages.proofs.ChunkSteps.{dictionary_added}
use Rattle.ipc_messages.proofs.encoded_dictionaries.encode_dictionary.Goals as goal

pub returns-then-is_some : goal.returns-then-is_some
returns-then-is_some c =
    let some : IsSome c.args.options.now.compression = search rules in
    (inl (refl, some), refl)

pub returns-then-cannot_be_sent : goal.returns-then-cannot_be_sent
returns-then-cannot_be_sent c =
    let none : c.args.options.now.compression ≡ None = search rules in
    let p = parts_of c.args.array.now in
    let test : cannot_be_sent c.args.options.now (kind_in p) (values_in p) ≡ true = sym c.cannot_be_sent.ensures ∙ c.if-cannot_be_sent.true in
    (inr (none, inl (refl, test)), refl)

pub returns : goal.returns
returns c =
    let none : c.args.options.now.compression ≡ None = search rules in
    let p = parts_of c.args.array.now in
    let test : cannot_be_sent c.args.options.now (kind_in p) (values_in p) ≡ false = sym c.cannot_be_sent.ensures ∙ c.if-cannot_be_sent.false in
    let e : to_z w64 (of_z w64 c.args.id) ≡ c.args.id = to_z-of_z w64 c.args.id c.ranges.id in
    let parts = forest_of c.parts_in.result.now in
    let was = c.args.encoded.now.items in
    let is = c.add_parts.new.encoded.items in
    let adds : AddsEach c.add_parts.result c.args.options.now (messages_of c.args.id false parts) was is = subst (λ z. AddsEach c.add_parts.result c.args.options.now (messages_of z false parts) was is) e c.add_parts.ensures in
    dictionary_added c.add_parts.result c.args.options.now c.args.id (kind_in p) parts (values_in p) was is none c.parts_in.ensures test adds
