use Rattle.std.proofs.Common.{◌≡◌, sym, ap, ◌∙◌}
use Rattle.std.specs.Prelude.{Some}
use Rattle.std.proofs.lemmas.List.Sorted.{searched}
use Rattle.arrow_spec.specs.Columns.{is_chosen}
use Rattle.ipc_read_laws.specs.Projection.{columns_of, are_rising}
use Rattle.ipc_read_laws.proofs.Rising.{rises, stands_by_search}
use Rattle.ipc_read.proofs.projection.is_chosen.Goals as goal

pub returns-in-Some : goal.returns-in-Some
returns-in-Some c =
    let cs = c.in-Some.columns.now in
    let rise : are_rising (columns_of c.args.projection) ≡ are_rising (Some cs) = ap (λ p. are_rising (columns_of p)) c.in-Some.is in
    let found = searched cs c.args.column c.binary_search.result c.binary_search.ensures.position (rises 0 cs (sym rise ∙ c.requires.rising)) in
    c.is_ok.ensures.value ∙ stands_by_search cs c.args.column c.binary_search.result found ∙ ap (λ p. is_chosen (columns_of p) c.args.column) (sym c.in-Some.is)
