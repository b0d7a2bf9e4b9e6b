-- The fronts of lines, as texts.
use Rattle.std.proofs.Common.{◌≡◌, ◌<◌, ◌≤◌, ◌+◌, ◌/◌, ◌%◌, ℕ, List, [], ◌∷◌, ◌++◌, ap, ◌∙◌, sym, ◌^◌, lit<, lit≤, arith, codes}
use Rattle.std.specs.Fmt.{decimal}
use Rattle.std.proofs.lemmas.Fmt.{decimal_digit, decimal_step}
use Rattle.arrow_spec.specs.declared.error.IpcError.{IpcError}
use Rattle.arrow_spec.specs.declared.error.IpcError.TheVariants as errors
use Rattle.ipc_tool.specs.Refusal.{front_of}
use Rattle.ipc_tool.specs.declared.refusal.Refusal.{Refusal}
use Rattle.ipc_tool.specs.declared.refusal.Refusal.TheVariants.{Ipc, Words, NotHex, InputTooLong, NoName}

decimal-two : (n : ℕ) → 10 ≤ n → n < 100 → decimal n ≡ (48 + n / 10) ∷ (48 + n % 10) ∷ []
decimal-two n low high =
    let small : n < 2 ^ 64 = omega arith in
    let tens : n / 10 < 10 = omega arith in
    decimal_step n low small ∙ ap (λ l. l ++ (48 + n % 10) ∷ []) (decimal_digit (n / 10) tens)

abbrev after : List ℕ → List ℕ
after digits = codes "refused " ++ digits ++ codes " "

abbrev pub error_text : IpcError → List ℕ
error_text (errors.OutOfSpec kind) = codes "refused 1 "
error_text (errors.Unsupported feature) = codes "refused 2 "
error_text errors.TooDeep = codes "refused 3 "
error_text (errors.TooMany counted) = codes "refused 4 "
error_text (errors.Projection index) = codes "refused 5 "
error_text errors.TooLarge = codes "refused 6 "
error_text errors.SchemaMismatch = codes "refused 7 "
error_text (errors.DictionaryReplaced id) = codes "refused 8 "
error_text errors.NotRepresentable = codes "refused 9 "
error_text errors.State = codes "refused 10 "
error_text errors.ReadFault = codes "refused 11 "
error_text errors.WriteFault = codes "refused 12 "
error_text errors.Memory = codes "refused 13 "

pub error_front_is : (error : IpcError) → error_text error ≡ front_of (Ipc error)
unfolding front_of
error_front_is (errors.OutOfSpec kind) = ap after (sym (decimal_digit 1 (lit< tt)))
error_front_is (errors.Unsupported feature) = ap after (sym (decimal_digit 2 (lit< tt)))
error_front_is errors.TooDeep = ap after (sym (decimal_digit 3 (lit< tt)))
error_front_is (errors.TooMany counted) = ap after (sym (decimal_digit 4 (lit< tt)))
error_front_is (errors.Projection index) = ap after (sym (decimal_digit 5 (lit< tt)))
error_front_is errors.TooLarge = ap after (sym (decimal_digit 6 (lit< tt)))
error_front_is errors.SchemaMismatch = ap after (sym (decimal_digit 7 (lit< tt)))
error_front_is (errors.DictionaryReplaced id) = ap after (sym (decimal_digit 8 (lit< tt)))
error_front_is errors.NotRepresentable = ap after (sym (decimal_digit 9 (lit< tt)))
error_front_is errors.State = ap after (sym (decimal-two 10 (lit≤ tt) (lit< tt)))
error_front_is errors.ReadFault = ap after (sym (decimal-two 11 (lit≤ tt) (lit< tt)))
error_front_is errors.WriteFault = ap after (sym (decimal-two 12 (lit≤ tt) (lit< tt)))
error_front_is errors.Memory = ap after (sym (decimal-two 13 (lit≤ tt) (lit< tt)))

abbrev pub front_text : Refusal → List ℕ
front_text (Ipc error) = error_text error
front_text Words = codes "refused 14 "
front_text NotHex = codes "refused 15 "
front_text InputTooLong = codes "refused 16 "
front_text NoName = codes "refused 17 "

pub front_is : (refusal : Refusal) → front_text refusal ≡ front_of refusal
unfolding front_of
front_is (Ipc error) = error_front_is error
front_is Words = ap after (sym (decimal-two 14 (lit≤ tt) (lit< tt)))
front_is NotHex = ap after (sym (decimal-two 15 (lit≤ tt) (lit< tt)))
front_is InputTooLong = ap after (sym (decimal-two 16 (lit≤ tt) (lit< tt)))
front_is NoName = ap after (sym (decimal-two 17 (lit≤ tt) (lit< tt)))
