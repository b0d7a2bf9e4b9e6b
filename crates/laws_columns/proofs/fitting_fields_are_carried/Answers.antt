use Rattle.laws_columns.proofs.CarriedFields.{fields_carried}
use Rattle.laws_columns.proofs.fitting_fields_are_carried.Goals as goal

pub returns : goal.returns
returns c = fields_carried
