use Rattle.std.proofs.Common.{◌≡◌, ◌+◌, Ok, SFits, ap, arith, rules, subst, w32, w64, ◌∙◌}
use Rattle.std.proofs.lemmas.Int.{to_z-of_z}
use Rattle.arrow_spec.specs.Readings.{IsAmong, natural, refusals}
use Rattle.ipc_append.proofs.Places.{body_refused, end_is, metadata_refused, offset_refused, widened}
use Rattle.ipc_append.specs.Places.{Tells, block_end}
use Rattle.ipc_file_writer.proofs.Below.{handed}
use Rattle.ipc_append.proofs.ends.block_end.Goals as goal

pub returns-in_err-offset : goal.returns-in_err-offset
returns-in_err-offset c =
    let x = c.args.block.now in
    let e = c.in_err-offset.field-0.0 in
    let fits : SFits w64 x.offset = search rules in
    handed (λ r. Tells r (block_end x)) c.from_residual.result e c.from_residual.ensures.1 (offset_refused x e (subst (λ z. IsAmong (refusals (natural z)) e) (to_z-of_z w64 x.offset fits) c.in_err-offset.ensures))

pub returns-in_err-metadata : goal.returns-in_err-metadata
returns-in_err-metadata c =
    let x = c.args.block.now in
    let e = c.in_err-metadata.field-0.0 in
    let fits : SFits w64 x.offset = search rules in
    let short : SFits w32 x.meta_data_length = search rules in
    let at : natural x.offset ≡ Ok c.in_ok-offset.offset = subst (λ z. natural z ≡ Ok c.in_ok-offset.offset) (to_z-of_z w64 x.offset fits) c.in_ok-offset.ensures in
    handed (λ r. Tells r (block_end x)) c.from_residual-in_err-metadata.result e c.from_residual-in_err-metadata.ensures.1
    (metadata_refused x e c.in_ok-offset.offset at (subst (λ z. IsAmong (refusals (natural z)) e) (widened x.meta_data_length c.from.result short c.from.ensures) c.in_err-metadata.ensures))

pub returns-in_err-body : goal.returns-in_err-body
returns-in_err-body c =
    let x = c.args.block.now in
    let e = c.in_err-body.field-0.0 in
    let fits : SFits w64 x.offset = search rules in
    let short : SFits w32 x.meta_data_length = search rules in
    let long : SFits w64 x.body_length = search rules in
    let at : natural x.offset ≡ Ok c.in_ok-offset.offset = subst (λ z. natural z ≡ Ok c.in_ok-offset.offset) (to_z-of_z w64 x.offset fits) c.in_ok-offset.ensures in
    let m : natural x.meta_data_length ≡ Ok c.in_ok-metadata.metadata =
    subst (λ z. natural z ≡ Ok c.in_ok-metadata.metadata) (widened x.meta_data_length c.from.result short c.from.ensures) c.in_ok-metadata.ensures in
    handed (λ r. Tells r (block_end x)) c.from_residual-in_err-body.result e c.from_residual-in_err-body.ensures.1
    (body_refused x e c.in_ok-offset.offset c.in_ok-metadata.metadata at m (subst (λ z. IsAmong (refusals (natural z)) e) (to_z-of_z w64 x.body_length long) c.in_err-body.ensures))

pub returns : goal.returns
returns c =
    let x = c.args.block.now in
    let o = c.in_ok-offset.offset in
    let p = c.in_ok-metadata.metadata in
    let n = c.in_ok-body.body in
    let fits : SFits w64 x.offset = search rules in
    let short : SFits w32 x.meta_data_length = search rules in
    let long : SFits w64 x.body_length = search rules in
    let at : natural x.offset ≡ Ok o = subst (λ z. natural z ≡ Ok o) (to_z-of_z w64 x.offset fits) c.in_ok-offset.ensures in
    let m : natural x.meta_data_length ≡ Ok p = subst (λ z. natural z ≡ Ok p) (widened x.meta_data_length c.from.result short c.from.ensures) c.in_ok-metadata.ensures in
    let b : natural x.body_length ≡ Ok n = subst (λ z. natural z ≡ Ok n) (to_z-of_z w64 x.body_length long) c.in_ok-body.ensures in
    let sum : o + (p + n) ≡ (o + p) + n = omega arith in
    end_is x o p n at m b ∙ ap (λ k. Ok k) sum
