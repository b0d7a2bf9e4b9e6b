use Rattle.std.proofs.Common.{refl, ap, ◌∙◌}
use Rattle.arrow_types.specs.KindOf.{kind_of}
use Rattle.ipc_read.proofs.ColumnKinds.{floats_of, kind_refused, feature_faults}
use Rattle.ipc_read.proofs.tables.check_plain.Goals as goal

pub returns-in-Some-clause-exact : goal.returns-in-Some-clause-exact
returns-in-Some-clause-exact c = record {
  ok = tt;
  err = kind_refused (kind_of c.args.dtype.now) c.unread.result c.in-Some.feature (floats_of (kind_of c.args.dtype.now) c.to_physical_type.result c.unread.result c.requires.plain c.to_physical_type.ensures c.unread.ensures) c.in-Some.is;
}

pub returns-in-None-clause-exact : goal.returns-in-None-clause-exact
returns-in-None-clause-exact c = record {
  ok = (floats_of (kind_of c.args.dtype.now) c.to_physical_type.result c.unread.result c.requires.plain c.to_physical_type.ensures c.unread.ensures ∙ ap feature_faults c.in-None.is, refl);
  err = tt;
}
