use Rattle.std.proofs.Common.{◌≡◌, true, false, not, sym, ap, ◌∙◌, arith, rules, SFits, w64}
use Rattle.std.proofs.lemmas.Int.{to_z-of_z}
use Rattle.std.specs.Prelude.{nat_le}
use Rattle.std.proofs.lemmas.Bool.{lt-leb}
use Rattle.arrow_spec.specs.Counts.{is_negative}
use Rattle.arrow_spec.specs.Files.{lengths_sum, none_negative}
use Rattle.ipc_schema.specs.Views.{header_of}
use Rattle.ipc_read.proofs.BatchTables.{refuses_compressed, refuses_length, refuses_buffer, refuses_sum}
use Rattle.ipc_view.proofs.counts.row_count.Goals.{then-is_negative-via-then-is_negative, then-is_negative-via-else-is_negative+then-has_negative}
use Rattle.ipc_view.proofs.counts.row_count.Goals as goal

pub returns-then-header-clause-err : goal.returns-then-header-clause-err
returns-then-header-clause-err c = λ columns limit order fs d version bytes. refuses_compressed columns limit order fs d c.args.most version (header_of c.args.header.now) bytes c.if-header.true

pub returns-then-is_negative-clause-err : goal.returns-then-is_negative-clause-err
returns-then-is_negative-clause-err c = λ columns limit order fs d version bytes.
    let fits : SFits w64 c.args.header.now.length = search rules in
    let sign : is_negative c.args.header.now.length ≡ c.is_negative.result = sym (c.is_negative.ensures ∙ ap is_negative (to_z-of_z w64 _ fits)) in
    elim c.then-is_negative.branch [
      | then-is_negative-via-then-is_negative w ↦ refuses_length columns limit order fs d c.args.most version (header_of c.args.header.now) bytes c.if-header.false (sign ∙ w.if-is_negative.true)
      | then-is_negative-via-else-is_negative+then-has_negative w ↦ refuses_buffer columns limit order fs d c.args.most version (header_of c.args.header.now) bytes c.if-header.false (sign ∙ w.if-is_negative.false) (ap none_negative (sym w.deref.ensures.value) ∙ w.has_negative.ensures ∙ ap not w.if-has_negative.true)
    ]

pub returns-then-buffers_size-most-clause-err : goal.returns-then-buffers_size-most-clause-err
returns-then-buffers_size-most-clause-err c = λ columns limit order fs d version bytes.
    let tables = header_of c.args.header.now in
    let fits : SFits w64 c.args.header.now.length = search rules in
    let sign : is_negative c.args.header.now.length ≡ c.is_negative.result = sym (c.is_negative.ensures ∙ ap is_negative (to_z-of_z w64 _ fits)) in
    let plus : none_negative tables.buffers ≡ true = ap none_negative (sym c.deref.ensures.value) ∙ c.has_negative.ensures ∙ ap not c.if-has_negative.false in
    let sum : c.lengths_sum-buffers_size.result ≡ lengths_sum tables.buffers = c.lengths_sum-buffers_size.ensures ∙ ap lengths_sum c.deref-2.ensures.value in
    let more : nat_le (lengths_sum tables.buffers) c.args.most ≡ false = lt-leb _ _ (omega (arith, sum)) in
    rw sum (refuses_sum columns limit order fs d c.args.most version tables bytes c.if-header.false (sign ∙ c.if-is_negative.false) plus more)
