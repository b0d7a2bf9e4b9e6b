use Rattle.std.proofs.Common.{refl}
use Rattle.arrow_types.specs.declared.physical.PrimitiveType.TheVariants as primitives
use Rattle.arrow_arrays.specs.declared.array.Array.TheVariants as arrays
use Rattle.ipc_round_trip.proofs.Numbers.{no_numbers, no_other}
use Rattle.ipc_round_trip.proofs.number.know_numbers.Goals as goal

pub returns-in-Int8 : goal.returns-in-Int8
returns-in-Int8 c = λ h. no_other primitives.Int8 c.args.array.now (arrays.Int8 c.in-Int8.numbers) c.in-Int8.is h c.know_layout.ensures refl

pub returns-in-Int16 : goal.returns-in-Int16
returns-in-Int16 c = λ h. no_other primitives.Int16 c.args.array.now (arrays.Int16 c.in-Int16.numbers) c.in-Int16.is h c.know_layout-in-Int16.ensures refl

pub returns-in-Int32 : goal.returns-in-Int32
returns-in-Int32 c = λ h. no_other primitives.Int32 c.args.array.now (arrays.Int32 c.in-Int32.numbers) c.in-Int32.is h c.know_layout-in-Int32.ensures refl

pub returns-in-Int64 : goal.returns-in-Int64
returns-in-Int64 c = λ h. (c.in-Int64.numbers, c.in-Int64.is)

pub returns-in-Int128 : goal.returns-in-Int128
returns-in-Int128 c = λ h. no_other primitives.Int128 c.args.array.now (arrays.Int128 c.in-Int128.numbers) c.in-Int128.is h c.know_layout-in-Int128.ensures refl

pub returns-in-UInt8 : goal.returns-in-UInt8
returns-in-UInt8 c = λ h. no_other primitives.UInt8 c.args.array.now (arrays.UInt8 c.in-UInt8.numbers) c.in-UInt8.is h c.know_layout-in-UInt8.ensures refl

pub returns-in-UInt16 : goal.returns-in-UInt16
returns-in-UInt16 c = λ h. no_other primitives.UInt16 c.args.array.now (arrays.UInt16 c.in-UInt16.numbers) c.in-UInt16.is h c.know_layout-in-UInt16.ensures refl

pub returns-in-UInt32 : goal.returns-in-UInt32
returns-in-UInt32 c = λ h. no_other primitives.UInt32 c.args.array.now (arrays.UInt32 c.in-UInt32.numbers) c.in-UInt32.is h c.know_layout-in-UInt32.ensures refl

pub returns-in-UInt64 : goal.returns-in-UInt64
returns-in-UInt64 c = λ h. no_other primitives.UInt64 c.args.array.now (arrays.UInt64 c.in-UInt64.numbers) c.in-UInt64.is h c.know_layout-in-UInt64.ensures refl

pub returns-in-DaysMs : goal.returns-in-DaysMs
returns-in-DaysMs c = λ h. no_other primitives.DaysMs c.args.array.now (arrays.DaysMs c.in-DaysMs.numbers) c.in-DaysMs.is h c.know_layout-in-DaysMs.ensures refl

pub returns-in-MonthsDaysNs : goal.returns-in-MonthsDaysNs
returns-in-MonthsDaysNs c = λ h. no_other primitives.MonthDayNano c.args.array.now (arrays.MonthsDaysNs c.in-MonthsDaysNs.numbers) c.in-MonthsDaysNs.is h c.know_layout-in-MonthsDaysNs.ensures refl

pub returns-in_default : goal.returns-in_default
returns-in_default c = λ h. no_numbers c.args.array.now h c.len-rows.ensures.sound c.in_default.not-Int8 c.in_default.not-Int16 c.in_default.not-Int32 c.in_default.not-Int64 c.in_default.not-Int128 c.in_default.not-UInt8 c.in_default.not-UInt16 c.in_default.not-UInt32 c.in_default.not-UInt64 c.in_default.not-DaysMs c.in_default.not-MonthsDaysNs
