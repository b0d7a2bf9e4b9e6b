use Rattle.ipc_system.proofs.Openings.{refused_later}
use Rattle.ipc_system.proofs.folder.FolderShelfVaultShelf.open_vault.Goals as goal

pub returns-in-Err-clause-cause : goal.returns-in-Err-clause-cause
returns-in-Err-clause-cause g c = refused_later _ _ _ c.refused.result c.in_ok-file.ensures.kept c.refused.ensures.later c.refused.ensures.failed c.refused.ensures.unknown
