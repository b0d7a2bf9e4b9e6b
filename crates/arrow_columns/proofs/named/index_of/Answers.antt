use Rattle.std.proofs.Common.{◌≡◌, ◌<◌, sym, ap, ◌∙◌, arith, true, false, slice_get, length}
use Rattle.arrow_columns.specs.Named.{is_named}
use Rattle.arrow_columns.proofs.Searches.{named_here, named_behind}
use Rattle.arrow_columns.proofs.named.index_of.Goals as goal

pub returns-then-is_named : goal.returns-then-is_named
returns-then-is_named c =
    let s = c.args.schema.now in
    let i = c.loop-i.i in
    let below : i < length s = omega arith in
    let e : is_named c.args.name.now (slice_get s i) ≡ true = sym (c.is_named.ensures ∙ ap (is_named c.args.name.now) c.get_at_index.ensures) ∙ c.if-is_named.true in
    sym (named_here c.args.name.now s i below e) ∙ c.loop-i.invariant

pub loop-i-preserved : goal.loop-i-preserved
loop-i-preserved c =
    let s = c.args.schema.now in
    let i = c.loop-i.i in
    let below : i < length s = omega arith in
    let e : is_named c.args.name.now (slice_get s i) ≡ false = sym (c.is_named.ensures ∙ ap (is_named c.args.name.now) c.get_at_index.ensures) ∙ c.if-is_named.false in
    sym (named_behind c.args.name.now s i below e) ∙ c.loop-i.invariant
