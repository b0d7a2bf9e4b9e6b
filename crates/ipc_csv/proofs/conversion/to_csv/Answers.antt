use Rattle.laws_walk.specs.Below.{columns_of, asked}
use Rattle.ipc_csv.proofs.Asked.{cause_of, complete_by_cause, part_of, whole_of}
use Rattle.ipc_csv.proofs.conversion.to_csv.Goals as goal

pub returns-clause-whole : goal.returns-clause-whole
returns-clause-whole g c = whole_of (asked (columns_of c.args.columns) c.args.limit) _ _ c.print_file.result (g.S.Source.content c.args.source.now) c.print_file.ensures.prints

pub returns-clause-cause : goal.returns-clause-cause
returns-clause-cause g c = cause_of (asked (columns_of c.args.columns) c.args.limit) _ _ c.print_file.result (g.S.Source.content c.args.source.now) _ _ _ _ c.print_file.ensures.prints c.print_file.ensures.cause

pub returns-clause-part : goal.returns-clause-part
returns-clause-part g c = part_of (asked (columns_of c.args.columns) c.args.limit) _ _ c.print_file.result (g.S.Source.content c.args.source.now) c.print_file.ensures.prints

pub returns-clause-complete : goal.returns-clause-complete
returns-clause-complete g c =
    let r = asked (columns_of c.args.columns) c.args.limit in
    complete_by_cause c.print_file.result (g.S.Source.content c.args.source.now) r _ _ _ _ (cause_of r _ _ c.print_file.result (g.S.Source.content c.args.source.now) _ _ _ _ c.print_file.ensures.prints c.print_file.ensures.cause)
