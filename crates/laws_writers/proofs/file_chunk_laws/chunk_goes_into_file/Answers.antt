use Rattle.laws_writers.proofs.FileChunks as law
use Rattle.laws_writers.proofs.file_chunk_laws.chunk_goes_into_file.Goals as goal

pub returns : goal.returns
returns c = law.chunk_goes
