use Rattle.std.proofs.Common.{◌<◌, ◌^◌, [], ◌∷◌, ap, sym}
use Rattle.std.specs.Prelude.{FitsSigned}
use Rattle.std.specs.Int.{w8, w16, w32, w64, w128}
use Rattle.arrow_spec.specs.Flat.{order_by}
use Rattle.arrow_types.specs.Numbers.{signed_from_bytes, unsigned_from_bytes}
use Rattle.arrow_arrays.specs.declared.keys.DictionaryKeys.TheVariants.{Int8, Int16, Int32, Int64, Int128, UInt8, UInt16, UInt32, UInt64}
use Rattle.ipc_bodies.proofs.Adding.{appends_as}
use Rattle.ipc_write_arrays.proofs.Fitting.{signed_reads, unsigned_reads}
use Rattle.ipc_write_arrays.proofs.Keys.{below_keys, fit_of, same_bytes, unsigned_keys}
use Rattle.ipc_write_arrays.proofs.dictionaries.add_keys.Goals as goal

pub returns-in-Int8-clause-fit : goal.returns-in-Int8-clause-fit
returns-in-Int8-clause-fit c =
    fit_of c.add_part.result c.args.keys.now (Int8 c.in-Int8.keys) c.args.at c.args.count (FitsSigned w8) (signed_from_bytes w8) c.values.result.now c.in-Int8.keys.values c.in-Int8.is c.values.ensures (signed_reads w8) (λ h. h) c.add_part.ensures.fit

pub returns-in-Int16-clause-fit : goal.returns-in-Int16-clause-fit
returns-in-Int16-clause-fit c =
    fit_of c.add_part-in-Int16.result c.args.keys.now (Int16 c.in-Int16.keys) c.args.at c.args.count (FitsSigned w16) (signed_from_bytes w16) c.values-in-Int16.result.now c.in-Int16.keys.values c.in-Int16.is c.values-in-Int16.ensures (signed_reads w16) (λ h. h) c.add_part-in-Int16.ensures.fit

pub returns-in-Int32-clause-fit : goal.returns-in-Int32-clause-fit
returns-in-Int32-clause-fit c =
    fit_of c.add_part-in-Int32.result c.args.keys.now (Int32 c.in-Int32.keys) c.args.at c.args.count (FitsSigned w32) (signed_from_bytes w32) c.values-in-Int32.result.now c.in-Int32.keys.values c.in-Int32.is c.values-in-Int32.ensures (signed_reads w32) (λ h. h) c.add_part-in-Int32.ensures.fit

pub returns-in-Int64-clause-fit : goal.returns-in-Int64-clause-fit
returns-in-Int64-clause-fit c =
    fit_of c.add_part-in-Int64.result c.args.keys.now (Int64 c.in-Int64.keys) c.args.at c.args.count (FitsSigned w64) (signed_from_bytes w64) c.values-in-Int64.result.now c.in-Int64.keys.values c.in-Int64.is c.values-in-Int64.ensures (signed_reads w64) (λ h. h) c.add_part-in-Int64.ensures.fit

pub returns-in-Int128-clause-fit : goal.returns-in-Int128-clause-fit
returns-in-Int128-clause-fit c =
    fit_of c.add_part-in-Int128.result c.args.keys.now (Int128 c.in-Int128.keys) c.args.at c.args.count (FitsSigned w128) (signed_from_bytes w128) c.values-in-Int128.result.now c.in-Int128.keys.values c.in-Int128.is c.values-in-Int128.ensures (signed_reads w128) (λ h. h) c.add_part-in-Int128.ensures.fit

pub returns-in-UInt8-clause-bytes : goal.returns-in-UInt8-clause-bytes
returns-in-UInt8-clause-bytes c =
    let order = order_by c.args.is_little in
    let e = same_bytes c.args.keys.now (UInt8 c.in-UInt8.keys) order w8 c.args.at c.args.count c.values-in-UInt8.result.now c.in-UInt8.keys.values c.in-UInt8.is c.values-in-UInt8.ensures (unsigned_keys w8 order c.args.at c.args.count c.in-UInt8.keys.values) in
    appends_as c.add_part-in-UInt8.result _ _ _ _ (ap (λ bs. bs ∷ []) (sym e)) c.add_part-in-UInt8.ensures.bytes

pub returns-in-UInt8-clause-fit : goal.returns-in-UInt8-clause-fit
returns-in-UInt8-clause-fit c =
    fit_of c.add_part-in-UInt8.result c.args.keys.now (UInt8 c.in-UInt8.keys) c.args.at c.args.count (λ x. x < 2 ^ 8) (unsigned_from_bytes w8) c.values-in-UInt8.result.now c.in-UInt8.keys.values c.in-UInt8.is c.values-in-UInt8.ensures (unsigned_reads w8) (below_keys (2 ^ 8) c.args.at c.args.count c.in-UInt8.keys.values) c.add_part-in-UInt8.ensures.fit

pub returns-in-UInt16-clause-bytes : goal.returns-in-UInt16-clause-bytes
returns-in-UInt16-clause-bytes c =
    let order = order_by c.args.is_little in
    let e = same_bytes c.args.keys.now (UInt16 c.in-UInt16.keys) order w16 c.args.at c.args.count c.values-in-UInt16.result.now c.in-UInt16.keys.values c.in-UInt16.is c.values-in-UInt16.ensures (unsigned_keys w16 order c.args.at c.args.count c.in-UInt16.keys.values) in
    appends_as c.add_part-in-UInt16.result _ _ _ _ (ap (λ bs. bs ∷ []) (sym e)) c.add_part-in-UInt16.ensures.bytes

pub returns-in-UInt16-clause-fit : goal.returns-in-UInt16-clause-fit
returns-in-UInt16-clause-fit c =
    fit_of c.add_part-in-UInt16.result c.args.keys.now (UInt16 c.in-UInt16.keys) c.args.at c.args.count (λ x. x < 2 ^ 16) (unsigned_from_bytes w16) c.values-in-UInt16.result.now c.in-UInt16.keys.values c.in-UInt16.is c.values-in-UInt16.ensures (unsigned_reads w16) (below_keys (2 ^ 16) c.args.at c.args.count c.in-UInt16.keys.values) c.add_part-in-UInt16.ensures.fit

pub returns-in-UInt32-clause-bytes : goal.returns-in-UInt32-clause-bytes
returns-in-UInt32-clause-bytes c =
    let order = order_by c.args.is_little in
    let e = same_bytes c.args.keys.now (UInt32 c.in-UInt32.keys) order w32 c.args.at c.args.count c.values-in-UInt32.result.now c.in-UInt32.keys.values c.in-UInt32.is c.values-in-UInt32.ensures (unsigned_keys w32 order c.args.at c.args.count c.in-UInt32.keys.values) in
    appends_as c.add_part-in-UInt32.result _ _ _ _ (ap (λ bs. bs ∷ []) (sym e)) c.add_part-in-UInt32.ensures.bytes

pub returns-in-UInt32-clause-fit : goal.returns-in-UInt32-clause-fit
returns-in-UInt32-clause-fit c =
    fit_of c.add_part-in-UInt32.result c.args.keys.now (UInt32 c.in-UInt32.keys) c.args.at c.args.count (λ x. x < 2 ^ 32) (unsigned_from_bytes w32) c.values-in-UInt32.result.now c.in-UInt32.keys.values c.in-UInt32.is c.values-in-UInt32.ensures (unsigned_reads w32) (below_keys (2 ^ 32) c.args.at c.args.count c.in-UInt32.keys.values) c.add_part-in-UInt32.ensures.fit

pub returns-in-UInt64-clause-bytes : goal.returns-in-UInt64-clause-bytes
returns-in-UInt64-clause-bytes c =
    let order = order_by c.args.is_little in
    let e = same_bytes c.args.keys.now (UInt64 c.in-UInt64.keys) order w64 c.args.at c.args.count c.values-in-UInt64.result.now c.in-UInt64.keys.values c.in-UInt64.is c.values-in-UInt64.ensures (unsigned_keys w64 order c.args.at c.args.count c.in-UInt64.keys.values) in
    appends_as c.add_part-in-UInt64.result _ _ _ _ (ap (λ bs. bs ∷ []) (sym e)) c.add_part-in-UInt64.ensures.bytes

pub returns-in-UInt64-clause-fit : goal.returns-in-UInt64-clause-fit
returns-in-UInt64-clause-fit c =
    fit_of c.add_part-in-UInt64.result c.args.keys.now (UInt64 c.in-UInt64.keys) c.args.at c.args.count (λ x. x < 2 ^ 64) (unsigned_from_bytes w64) c.values-in-UInt64.result.now c.in-UInt64.keys.values c.in-UInt64.is c.values-in-UInt64.ensures (unsigned_reads w64) (below_keys (2 ^ 64) c.args.at c.args.count c.in-UInt64.keys.values) c.add_part-in-UInt64.ensures.fit
