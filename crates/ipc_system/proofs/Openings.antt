-- Why nothing was opened, behind a step that left the count.
use Rattle.std.proofs.Common.{◌≡◌, ◌∙◌, ◌≤◌, ℕ, Err, arith, refl, subst, sym}
use Rattle.ipc_io.specs.declared.outside.ShelfError.{ShelfError}
use Rattle.ipc_io.specs.declared.outside.ShelfError.TheVariants as shelf
use Rattle.ipc_io.specs.Outside.{OpenHasCause, Rose}

pub refused_later : {F : Type 0} (before mid now : ℕ) (e : ShelfError) → mid ≡ before → mid ≤ now → (e ≡ shelf.Failed → Rose mid now) → (e ≡ shelf.Unknown → now ≡ mid) → OpenHasCause {F = F} before now (Err e)
refused_later before mid now shelf.Failed same later failed unknown = record { later = omega (arith, same, later); failed = λ is. subst (λ n. Rose n now) same (failed refl); unknown = λ is. cc }
refused_later before mid now shelf.Unknown same later failed unknown = record { later = omega (arith, same, later); failed = λ is. cc; unknown = λ is. unknown refl ∙ same }
refused_later before mid now shelf.Memory same later failed unknown = record { later = omega (arith, same, later); failed = λ is. cc; unknown = λ is. cc }
