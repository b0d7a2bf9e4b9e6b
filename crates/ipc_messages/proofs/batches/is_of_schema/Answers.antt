use Rattle.std.proofs.Common.{◌≡◌, ap, sym, ◌∙◌, true, true≢false}
use Rattle.arrow_spec.specs.Kinds.{have_same_kinds}
use Rattle.arrow_types.specs.Schemas.{fields_in}
use Rattle.arrow_arrays.specs.Parts.{forest}
use Rattle.arrow_arrays.specs.Columns.{columns_of}
use Rattle.ipc_messages.proofs.batches.is_of_schema.Goals as goal

pub returns-then-not-are_of_fields : goal.returns-then-not-are_of_fields
returns-then-not-are_of_fields c =
    let fs = fields_in c.args.schema.now in (
      λ h. absurd (true≢false (sym h)),
      λ s. absurd (true≢false (sym s.types ∙ ap (λ ps. have_same_kinds fs (columns_of (forest ps))) (sym c.arrays.ensures) ∙ sym c.are_of_fields.ensures ∙ c.if-not-are_of_fields.true)),
    )

pub returns : goal.returns
returns c =
    let fs = fields_in c.args.schema.now in
    let types : have_same_kinds fs (columns_of (forest c.args.batch.now.arrays)) ≡ true
    = ap (λ ps. have_same_kinds fs (columns_of (forest ps))) (sym c.arrays.ensures) ∙ sym c.are_of_fields.ensures ∙ c.if-not-are_of_fields.false in (
      λ h. record { types = types; own = c.are_own.ensures.0 h },
      λ s. c.are_own.ensures.1 s.own,
    )
