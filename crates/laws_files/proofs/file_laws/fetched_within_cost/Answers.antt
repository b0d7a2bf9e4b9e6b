use Rattle.laws_files.proofs.file_laws.fetched_within_cost.Goals as goal
use Rattle.laws_files.proofs.FetchedParts as law

pub returns : goal.returns
returns c = law.fetched_within_cost
