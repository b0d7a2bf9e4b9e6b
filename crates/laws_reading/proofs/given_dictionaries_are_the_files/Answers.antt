use Rattle.laws_reading.proofs.Called.{given_dictionaries_are_the_files}
use Rattle.laws_reading.proofs.given_dictionaries_are_the_files.Goals as goal

pub returns : goal.returns
returns c = given_dictionaries_are_the_files
