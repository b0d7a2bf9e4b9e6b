use Rattle.std.proofs.Common.{rules}
use Rattle.ipc_concat.proofs.Opened.{fits_as, kinds_as}
use Rattle.ipc_concat.proofs.opening.fits_first.Goals as goal

pub returns-in-len1-up-clause-fields : goal.returns-in-len1-up-clause-fields
returns-in-len1-up-clause-fields c = fits_as c.args.readers.now c.first-item.result c.args.reader.now _ _ _ c.in-len1-up.len_at_least c.first-item.is (search rules) (search rules) c.have_same_fields.ensures.same

pub returns-in-len1-up-clause-kinds : goal.returns-in-len1-up-clause-kinds
returns-in-len1-up-clause-kinds c = λ h. kinds_as c.args.readers.now c.first-item.result c.args.reader.now c.deref.result.now c.deref-in-len1-up.result.now c.in-len1-up.len_at_least c.first-item.is (c.have_same_fields.ensures.kinds h) (search rules) (search rules)
