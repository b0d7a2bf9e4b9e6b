use Rattle.std.proofs.Common.{refl}
use Rattle.arrow_spec.specs.declared.types.IntegerType.TheVariants as integers
use Rattle.ipc_read.proofs.KeysRead.{signed_keys_read, unsigned_keys_read}
use Rattle.ipc_read.proofs.readers.ColumnReader.read_keys.Goals as goal

pub returns-in_ok-keys-in-Int8-clause-gives : goal.returns-in_ok-keys-in-Int8-clause-gives
returns-in_ok-keys-in-Int8-clause-gives g c = λ l m p a known. signed_keys_read l c.args.index integers.Int8 m p c.args.rows _ _ c.in-Int8.is refl refl (c.in_ok-keys-in-Int8.ensures.gives m p a known)

pub returns-in_ok-keys-in-Int16-clause-gives : goal.returns-in_ok-keys-in-Int16-clause-gives
returns-in_ok-keys-in-Int16-clause-gives g c = λ l m p a known. signed_keys_read l c.args.index integers.Int16 m p c.args.rows _ _ c.in-Int16.is refl refl (c.in_ok-keys-in-Int16.ensures.gives m p a known)

pub returns-in_ok-keys-in-Int32-clause-gives : goal.returns-in_ok-keys-in-Int32-clause-gives
returns-in_ok-keys-in-Int32-clause-gives g c = λ l m p a known. signed_keys_read l c.args.index integers.Int32 m p c.args.rows _ _ c.in-Int32.is refl refl (c.in_ok-keys-in-Int32.ensures.gives m p a known)

pub returns-in_ok-keys-in-Int64-clause-gives : goal.returns-in_ok-keys-in-Int64-clause-gives
returns-in_ok-keys-in-Int64-clause-gives g c = λ l m p a known. signed_keys_read l c.args.index integers.Int64 m p c.args.rows _ _ c.in-Int64.is refl refl (c.in_ok-keys-in-Int64.ensures.gives m p a known)

pub returns-in_ok-keys-in-Int128-clause-gives : goal.returns-in_ok-keys-in-Int128-clause-gives
returns-in_ok-keys-in-Int128-clause-gives g c = λ l m p a known. signed_keys_read l c.args.index integers.Int128 m p c.args.rows _ _ c.in-Int128.is refl refl (c.in_ok-keys-in-Int128.ensures.gives m p a known)

pub returns-in_ok-keys-in-UInt8-clause-gives : goal.returns-in_ok-keys-in-UInt8-clause-gives
returns-in_ok-keys-in-UInt8-clause-gives g c = λ l m p a known. unsigned_keys_read l c.args.index integers.UInt8 m p c.args.rows _ _ c.in-UInt8.is refl refl (c.in_ok-keys-in-UInt8.ensures.gives m p a known)

pub returns-in_ok-keys-in-UInt16-clause-gives : goal.returns-in_ok-keys-in-UInt16-clause-gives
returns-in_ok-keys-in-UInt16-clause-gives g c = λ l m p a known. unsigned_keys_read l c.args.index integers.UInt16 m p c.args.rows _ _ c.in-UInt16.is refl refl (c.in_ok-keys-in-UInt16.ensures.gives m p a known)

pub returns-in_ok-keys-in-UInt32-clause-gives : goal.returns-in_ok-keys-in-UInt32-clause-gives
returns-in_ok-keys-in-UInt32-clause-gives g c = λ l m p a known. unsigned_keys_read l c.args.index integers.UInt32 m p c.args.rows _ _ c.in-UInt32.is refl refl (c.in_ok-keys-in-UInt32.ensures.gives m p a known)

pub returns-in_ok-keys-in-UInt64-clause-gives : goal.returns-in_ok-keys-in-UInt64-clause-gives
returns-in_ok-keys-in-UInt64-clause-gives g c = λ l m p a known. unsigned_keys_read l c.args.index integers.UInt64 m p c.args.rows _ _ c.in-UInt64.is refl refl (c.in_ok-keys-in-UInt64.ensures.gives m p a known)
