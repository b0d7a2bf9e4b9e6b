use Rattle.std.proofs.Common.{◌≡◌, ◌∙◌, ℕ, map, pos, sym, ap}
use Rattle.arrow_buffers.specs.Leaf.{Leaf, leaf_part}
use Rattle.arrow_buffers.specs.Rows.{part}
use Rattle.arrow_buffers.proofs.Parts.{map-part}
use Rattle.arrow_arrays.specs.declared.keys.DictionaryKeys.{DictionaryKeys}
use Rattle.arrow_arrays.specs.KeysOf.{keys_in}
use Rattle.arrow_arrays.proofs.keys.DictionaryKeys.narrow.Goals as goal

-- a part of keys that have no sign
unsigned_part : (k : DictionaryKeys) (o n : ℕ) (f g : Leaf ℕ) → keys_in k ≡ map pos f.values → g ≡ leaf_part o n f → map pos g.values ≡ part o n (keys_in k)
unsigned_part k o n f g e h = ap (λ x. map pos x.values) h ∙ map-part pos o n f.values ∙ ap (part o n) (sym e)

pub returns-in-UInt8-clause-keys : goal.returns-in-UInt8-clause-keys
returns-in-UInt8-clause-keys c =
    unsigned_part c.args.self.now c.args.offset c.args.rows c.in-UInt8.keys c.narrow-in-UInt8.new.self (ap keys_in c.in-UInt8.is) c.narrow-in-UInt8.ensures.parts

pub returns-in-UInt16-clause-keys : goal.returns-in-UInt16-clause-keys
returns-in-UInt16-clause-keys c =
    unsigned_part c.args.self.now c.args.offset c.args.rows c.in-UInt16.keys c.narrow-in-UInt16.new.self (ap keys_in c.in-UInt16.is) c.narrow-in-UInt16.ensures.parts

pub returns-in-UInt32-clause-keys : goal.returns-in-UInt32-clause-keys
returns-in-UInt32-clause-keys c =
    unsigned_part c.args.self.now c.args.offset c.args.rows c.in-UInt32.keys c.narrow-in-UInt32.new.self (ap keys_in c.in-UInt32.is) c.narrow-in-UInt32.ensures.parts

pub returns-in-UInt64-clause-keys : goal.returns-in-UInt64-clause-keys
returns-in-UInt64-clause-keys c =
    unsigned_part c.args.self.now c.args.offset c.args.rows c.in-UInt64.keys c.narrow-in-UInt64.new.self (ap keys_in c.in-UInt64.is) c.narrow-in-UInt64.ensures.parts
