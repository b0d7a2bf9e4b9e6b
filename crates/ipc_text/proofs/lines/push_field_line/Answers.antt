use Rattle.std.proofs.Common.{◌≡◌, ◌++◌, ◌∙◌, ap, codes, sym}
use Rattle.arrow_spec.specs.SchemaText.{indent, quoted, nullable_text}
use Rattle.arrow_types.specs.KindOf.{child_of}
use Rattle.ipc_text.specs.Types.{type_text_with}
use Rattle.ipc_text.proofs.Growing.{grown_on, grown_last}
use Rattle.arrow_types.proofs.DataTypes.{child_is}
use Rattle.ipc_text.proofs.lines.push_field_line.Goals as goal

pub returns : goal.returns
returns c =
    let old = c.args.out.now.items in
    let x = child_of c.args.field.now in
    let is = child_is c.args.field.now in
    let a = c.push_indent.new.out.items in
    let b = c.push_quoted.new.out.items in
    let d = c.push_text.new.out.items in
    let e = c.push_type.new.out.items in
    let f = c.push_text-2.new.out.items in
    let new = c.push_text-3.new.out.items in
    let named : b ≡ a ++ quoted x.name = c.in_ok-push_quoted.ensures ∙ ap (λ z. a ++ quoted z) c.as_str.ensures.value ∙ ap (λ z. a ++ quoted z.name) (sym is) in
    let typed : e ≡ d ++ type_text_with x.kind c.args.id = c.in_ok-push_type.ensures ∙ ap (λ z. d ++ type_text_with z.kind c.args.id) (sym is) in
    let ended : f ≡ e ++ nullable_text x.nullable = c.in_ok-push_text-2.ensures ∙ ap (λ z. e ++ z) c.nullable_text.ensures ∙ ap (λ z. e ++ nullable_text z.nullable) (sym is) in
    let one = grown_on old a b (indent c.args.level) (quoted x.name) c.in_ok-push_indent.ensures named in
    let two = grown_on old b d (indent c.args.level ++ quoted x.name) (codes " ") one c.in_ok-push_text.ensures in
    let three = grown_on old d e (indent c.args.level ++ quoted x.name ++ codes " ") (type_text_with x.kind c.args.id) two typed in
    let four = grown_on old e f (indent c.args.level ++ quoted x.name ++ codes " " ++ type_text_with x.kind c.args.id) (nullable_text x.nullable) three ended in
    grown_last c.push_text-3.result old f new (indent c.args.level ++ quoted x.name ++ codes " " ++ type_text_with x.kind c.args.id ++ nullable_text x.nullable) (codes "\n") four c.push_text-3.ensures
