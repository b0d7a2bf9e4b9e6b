use Rattle.ipc_write_laws.specs.Messages.{none_known}
use Rattle.std.proofs.Common.{[]}
use Rattle.laws_files.proofs.Tables as law
use Rattle.laws_files.proofs.written_laws.file_of_messages_means_its_table.Goals as goal
use Rattle.laws_files.specs.Files.{only_begun}

pub returns : goal.returns
returns c = λ fs pairs custom ms w e. c.more_of_a_file_means_its_table.ensures fs pairs custom (only_begun fs) none_known [] ms (law.only_begun_means fs) w e
