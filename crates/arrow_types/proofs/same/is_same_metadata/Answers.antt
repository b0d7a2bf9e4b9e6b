use Rattle.arrow_types.proofs.Sameness.{texts_decided}
use Rattle.arrow_types.proofs.same.is_same_metadata.Goals as goal

pub returns : goal.returns
returns c = rw c.eq.ensures (texts_decided c.args.a.now.entries c.args.b.now.entries)
