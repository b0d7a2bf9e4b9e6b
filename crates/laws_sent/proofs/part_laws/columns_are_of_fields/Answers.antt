use Rattle.laws_sent.proofs.NextParts.{columns_of_fields}
use Rattle.laws_sent.proofs.part_laws.columns_are_of_fields.Goals as goal

pub returns : goal.returns
returns c = columns_of_fields
