use Rattle.std.proofs.Common.{◌≡◌, Ok, subst}
use Rattle.std.specs.Option.{option_map}
use Rattle.arrow_spec.specs.Schema.{empty_vector, type_at}
use Rattle.arrow_flat.specs.Read.{vector_of}
use Rattle.schema_reader.specs.ReadViews.{encoding_in, extension_of, pairs_in, tag_in, shape_kind}
use Rattle.schema_reader.proofs.Heads.{form_made}
use Rattle.schema_reader.proofs.head.read_form.Goals as goal

pub returns-clause-gives : goal.returns-clause-gives
returns-clause-gives c =
    let b = c.args.table.now.bytes in
    let v = empty_vector (vector_of c.in_ok-children.children) in
    let tag = tag_in c.args.tagged.now.tag in
    let type = c.args.tagged.now.table.table in
    let s = c.in_ok-shape.shape in
    let k : type_at c.args.tagged.now.table.bytes type v.count tag ≡ Ok (shape_kind v.count s) = subst (λ n. type_at c.args.tagged.now.table.bytes type n tag ≡ Ok (shape_kind n s)) c.count_of-count.ensures c.in_ok-shape.ensures.gives in
    let h : type_at b type v.count tag ≡ Ok (shape_kind v.count s) = subst (λ x. type_at x type v.count tag ≡ Ok (shape_kind v.count s)) c.requires.bytes k in
    form_made b c.args.table.now.table type tag c.args.pairs (option_map encoding_in c.in_ok-encoding.encoding) v (pairs_in c.in_ok-read.read) s (option_map extension_of c.take_extension-extension.result) _
    c.in_ok-encoding.ensures.gives c.in_ok-children.ensures.gives c.in_ok-read.ensures.gives h c.take_extension-extension.ensures.extension c.take_extension-extension.ensures.left
