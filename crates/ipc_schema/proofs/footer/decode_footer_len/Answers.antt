use Rattle.ipc_schema.proofs.Footers.{footer_told}
use Rattle.ipc_schema.proofs.footer.decode_footer_len.Goals as goal

pub returns-clause-footer : goal.returns-clause-footer
returns-clause-footer c = λ b whole end. footer_told c.args.end.now b c.args.size c.length_by_end.result c.length_by_end.ensures.gives c.requires whole end
