use Rattle.ipc_tool.proofs.Front.{front_is}
use Rattle.ipc_tool.specs.declared.refusal.Refusal.TheVariants.{Words, NotHex, InputTooLong, NoName}
use Rattle.ipc_tool.proofs.note.front.Goals as goal

pub returns-in-Words : goal.returns-in-Words
returns-in-Words c = rw c.in-Words.is (front_is Words)

pub returns-in-NotHex : goal.returns-in-NotHex
returns-in-NotHex c = rw c.in-NotHex.is (front_is NotHex)

pub returns-in-InputTooLong : goal.returns-in-InputTooLong
returns-in-InputTooLong c = rw c.in-InputTooLong.is (front_is InputTooLong)

pub returns-in-NoName : goal.returns-in-NoName
returns-in-NoName c = rw c.in-NoName.is (front_is NoName)
