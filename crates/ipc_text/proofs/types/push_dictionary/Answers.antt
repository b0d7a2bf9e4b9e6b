use Rattle.std.proofs.Common.{◌≡◌, ◌++◌, ◌∙◌, ap, codes}
use Rattle.std.specs.Int.{w64}
use Rattle.std.specs.Fmt.{signed_decimal}
use Rattle.std.proofs.lemmas.Int.{to_z-of_z}
use Rattle.arrow_spec.specs.SchemaText.{integer_name}
use Rattle.ipc_text.specs.Types.{order_name}
use Rattle.ipc_text.proofs.Growing.{grown_on, grown_last, grown_as}
use Rattle.ipc_text.proofs.types.push_dictionary.Goals as goal

pub returns : goal.returns
returns c =
    let old = c.args.out.now.items in
    let a = c.push_text.new.out.items in
    let b = c.push_text-2.new.out.items in
    let d = c.push_text-3.new.out.items in
    let e = c.push_signed.new.out.items in
    let new = c.push_text-4.new.out.items in
    let name = integer_name c.args.index in
    let s = signed_decimal c.args.id in
    let named : b ≡ a ++ name = c.in_ok-push_text-2.ensures ∙ ap (λ z. a ++ z) c.integer_name.ensures in
    let numbered : e ≡ d ++ s = c.in_ok-push_signed.ensures ∙ ap (λ z. d ++ signed_decimal z) (to_z-of_z w64 c.args.id c.ranges.id) in
    let one = grown_on old a b (codes "dictionary(") name c.in_ok-push_text.ensures named in
    let two = grown_on old b d (codes "dictionary(" ++ name) (codes ",") one c.in_ok-push_text-3.ensures in
    let three = grown_on old d e (codes "dictionary(" ++ name ++ codes ",") s two numbered in
    grown_last c.push_text-4.result old e new (codes "dictionary(" ++ name ++ codes "," ++ s) (order_name c.args.is_ordered) three (grown_as c.push_text-4.result e new _ _ c.order_name.ensures c.push_text-4.ensures)
