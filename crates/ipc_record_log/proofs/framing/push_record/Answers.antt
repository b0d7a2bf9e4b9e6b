use Rattle.std.proofs.Common.{◌≡◌, ◌++◌, ◌∷◌, [], List, ℕ, length, replicate, rules, append_assoc}
use Rattle.ipc_record_log.specs.Records.{length_bytes}
use Rattle.ipc_record_log.proofs.framing.push_record.Goals as goal

pushed : (out z le r i1 i2 i3 i4 : List ℕ) → i1 ≡ out ++ z → i2 ≡ i1 ++ le → i3 ≡ i2 ++ r → i4 ≡ i3 ++ 0 ∷ [] → i4 ≡ out ++ ((z ++ (le ++ r)) ++ 0 ∷ [])
pushed out z le r i1 i2 i3 i4 e1 e2 e3 e4 = rw (e4, e3, e2, e1) (simp append_assoc)

pub returns : goal.returns
unfolding length_bytes
returns c =
    let z : List ℕ = replicate 7 0 in
    let le = length_bytes (length c.args.bytes.now) in
    let e1 : c.extend_from_slice.new.self.items ≡ c.args.out.now.items ++ z = search rules in
    let e2 : c.extend_from_slice-2.new.self.items ≡ c.extend_from_slice.new.self.items ++ le = search rules in
    let e3 : c.extend_from_slice-3.new.self.items ≡ c.extend_from_slice-2.new.self.items ++ c.args.bytes.now = search rules in
    let e4 : c.push.new.self.items ≡ c.extend_from_slice-3.new.self.items ++ 0 ∷ [] = search rules in
    pushed c.args.out.now.items z le c.args.bytes.now _ _ _ _ e1 e2 e3 e4
