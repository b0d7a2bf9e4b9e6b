use Rattle.std.proofs.Common.{◌≡◌, ◌-◌, ◌++◌, ◌∷◌, [], false, length, rules, ◌∙◌, sym}
use Rattle.ipc_log_disk.specs.Histories.{front_by, is_wanted}
use Rattle.ipc_log_disk.specs.declared.change.Change.TheVariants.{Written}
use Rattle.ipc_log_disk.proofs.Noted.{noted}
use Rattle.ipc_log_disk.proofs.memory.write_noted.Goals as goal

pub returns-clause-noted : goal.returns-clause-noted
returns-clause-noted c =
    let more : c.push.new.self.items ≡ c.args.changes.now.items ++ Written c.args.at c.cut_to_front.new.bytes (length c.args.bytes.now) ∷ [] = search rules in
    let never : is_wanted c.write_at-result.result ≡ false = sym c.has_wanted.ensures ∙ c.if-has_wanted.false in
    let copied : c.in-Ok.written.items ≡ c.args.bytes.now = search rules in
    let cut : c.cut_to_front.new.bytes.items ≡ front_by c.write_at-result.result (length c.args.disk.now.source.bytes - c.args.at) c.args.bytes.now = cc (c.cut_to_front.ensures, copied, c.bytes.ensures) in
    noted c.args.disk.now.source.bytes c.write_at-result.new.self.source.bytes c.args.bytes.now c.args.changes.now.items c.push.new.self.items c.args.at c.cut_to_front.new.bytes c.write_at-result.result never c.write_at-result.ensures.bytes c.write_at-result.ensures.in_vain cut more
