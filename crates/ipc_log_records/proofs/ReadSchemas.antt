-- A schema that was read: it is said as it was read, with whatever pairs.
use Rattle.std.proofs.Common.{◌≡◌, ℕ, zero, suc, [], length, arith}
use Rattle.arrow_spec.specs.Kinds as kind
use Rattle.arrow_spec.specs.Kinds.{Kind, Fields, Metadata, none, field}
use Rattle.arrow_spec.specs.WrittenSchemas.{FieldsFit, HaveNoReserved, KindFits, KindHasNoReserved, Part, SchemaMayBeWritten, of_dictionary, of_extension, of_field, own_fields}
use Rattle.arrow_spec.proofs.OwnPairs.{own_fields_same}
use Rattle.arrow_spec.proofs.ReadSchemas.{fields_further}

-- ── reserved keys ──

mutual
  kind_unreserved : (k : Kind) (at : Part) (levels : ℕ) → KindFits at levels k → KindHasNoReserved k
  kind_unreserved (kind.«list» o fs) at levels fit = unreserved fs levels fit.1
  kind_unreserved (kind.fixed_size_list n fs) at levels fit = unreserved fs levels fit.3
  kind_unreserved (kind.struct fs) at levels fit = unreserved fs levels fit
  kind_unreserved (kind.map sorted fs) at levels fit = unreserved fs levels fit.2
  kind_unreserved (kind.union mode stated types fs) at levels fit = unreserved fs levels fit.2
  kind_unreserved (kind.dictionary t ordered id k) of_field levels fit = kind_unreserved k of_dictionary levels fit
  kind_unreserved (kind.dictionary t ordered id k) of_dictionary levels fit = absurd fit
  kind_unreserved (kind.dictionary t ordered id k) of_extension levels fit = absurd fit
  kind_unreserved (kind.extension name metadata k) of_field levels fit = kind_unreserved k of_extension levels fit.2
  kind_unreserved (kind.extension name metadata k) of_dictionary levels fit = kind_unreserved k of_extension levels fit.2
  kind_unreserved (kind.extension name metadata k) of_extension levels fit = absurd fit
  kind_unreserved k at levels fit = tt

  unreserved : (fs : Fields) (levels : ℕ) → FieldsFit levels fs → HaveNoReserved fs
  unreserved none levels fit = tt
  unreserved (field name nullable metadata k others) zero fit = absurd fit
  unreserved (field name nullable metadata k others) (suc levels) fit =
      (fit.1.no_name, fit.1.no_metadata, kind_unreserved k of_field levels fit.2, unreserved others (suc levels) fit.3)

-- fields that may be written are said as they are
pub said_same : (fs : Fields) (levels : ℕ) → FieldsFit levels fs → own_fields fs ≡ fs
said_same fs levels fit = own_fields_same fs (unreserved fs levels fit)

-- ── pairs of the schema ──

-- a schema that may be written may be written without its pairs
pub may_without : (fs : Fields) (pairs : Metadata) → SchemaMayBeWritten fs pairs → SchemaMayBeWritten fs []
may_without fs pairs may =
    let fewer = fields_further fs (record { fields = 0; pairs = 0 }) (record { fields = 0; pairs = length pairs }) (omega arith, omega arith) in
    record { fit = may.fit; ascend = tt; few_fields = omega (arith, fewer.0, may.few_fields); few_pairs = omega (arith, fewer.1, may.few_pairs); distinct = may.distinct }
