-- Words of the command `scan` and what they ask for.
use Rattle.std.proofs.Common.{◌≡◌, [], ◌∷◌, Some, None, codes, refl, true, false}
use Rattle.std.specs.Prelude.{pos, negsuc}
use Rattle.clap.proofs.OnLiterals.{clap_on_literals}
use Rattle.ipc_words.specs.Requests.{request_of, scan}
use Rattle.filter_types.specs.declared.filter.FilterOp.TheVariants.{Equal, NotEqual, Less, LessOrEqual, Greater, GreaterOrEqual}
use Rattle.ipc_words.proofs.WorkedWords.{line}

at_least : request_of (codes "scan" ∷ codes "0>=4" ∷ codes "F4" ∷ []) ≡ Some (scan (record { filter = record { column = 0; op = GreaterOrEqual; number = pos 4 }; columns = None; raw = false; name = Some (codes "F4") }))
unfolding clap_on_literals line
at_least = refl

with_columns : request_of (codes "scan" ∷ codes "0>=5" ∷ codes "--columns" ∷ codes "2" ∷ codes "F3" ∷ []) ≡ Some (scan (record { filter = record { column = 0; op = GreaterOrEqual; number = pos 5 }; columns = Some (2 ∷ []); raw = false; name = Some (codes "F3") }))
unfolding clap_on_literals line
with_columns = refl

less : request_of (codes "scan" ∷ codes "0<3" ∷ []) ≡ Some (scan (record { filter = record { column = 0; op = Less; number = pos 3 }; columns = None; raw = false; name = None }))
unfolding clap_on_literals line
less = refl

equal : request_of (codes "scan" ∷ codes "--raw" ∷ codes "1=0" ∷ codes "-" ∷ []) ≡ Some (scan (record { filter = record { column = 1; op = Equal; number = pos 0 }; columns = None; raw = true; name = None }))
unfolding clap_on_literals line
equal = refl

not_equal : request_of (codes "scan" ∷ codes "1!=0" ∷ []) ≡ Some (scan (record { filter = record { column = 1; op = NotEqual; number = pos 0 }; columns = None; raw = false; name = None }))
unfolding clap_on_literals line
not_equal = refl

greater : request_of (codes "scan" ∷ codes "12>007" ∷ []) ≡ Some (scan (record { filter = record { column = 12; op = Greater; number = pos 7 }; columns = None; raw = false; name = None }))
unfolding clap_on_literals line
greater = refl

at_most : request_of (codes "scan" ∷ codes "0<=-5" ∷ codes "--columns" ∷ [] ∷ []) ≡ Some (scan (record { filter = record { column = 0; op = LessOrEqual; number = negsuc 4 }; columns = Some ([]); raw = false; name = None }))
unfolding clap_on_literals line
at_most = refl

minus_zero : request_of (codes "scan" ∷ codes "0=-0" ∷ []) ≡ Some (scan (record { filter = record { column = 0; op = Equal; number = pos 0 }; columns = None; raw = false; name = None }))
unfolding clap_on_literals line
minus_zero = refl

least_number : request_of (codes "scan" ∷ codes "--raw" ∷ codes "7>=-170141183460469231731687303715884105728" ∷ []) ≡ Some (scan (record { filter = record { column = 7; op = GreaterOrEqual; number = negsuc 170141183460469231731687303715884105727 }; columns = None; raw = true; name = None }))
unfolding clap_on_literals line
least_number = refl

greatest_number : request_of (codes "scan" ∷ codes "7=170141183460469231731687303715884105727" ∷ []) ≡ Some (scan (record { filter = record { column = 7; op = Equal; number = pos 170141183460469231731687303715884105727 }; columns = None; raw = false; name = None }))
unfolding clap_on_literals line
greatest_number = refl

too_great : request_of (codes "scan" ∷ codes "7=170141183460469231731687303715884105728" ∷ []) ≡ None
unfolding clap_on_literals line
too_great = refl

too_small : request_of (codes "scan" ∷ codes "7=-170141183460469231731687303715884105729" ∷ []) ≡ None
unfolding clap_on_literals line
too_small = refl

greatest_column : request_of (codes "scan" ∷ codes "18446744073709551615=0" ∷ []) ≡ Some (scan (record { filter = record { column = 18446744073709551615; op = Equal; number = pos 0 }; columns = None; raw = false; name = None }))
unfolding clap_on_literals line
greatest_column = refl

column_too_great : request_of (codes "scan" ∷ codes "18446744073709551616=0" ∷ []) ≡ None
unfolding clap_on_literals line
column_too_great = refl

no_filter : request_of (codes "scan" ∷ []) ≡ None
unfolding clap_on_literals line
no_filter = refl

no_column : request_of (codes "scan" ∷ codes "=5" ∷ codes "F1" ∷ []) ≡ None
unfolding clap_on_literals line
no_column = refl

no_sign : request_of (codes "scan" ∷ codes "0" ∷ codes "F1" ∷ []) ≡ None
unfolding clap_on_literals line
no_sign = refl

no_number : request_of (codes "scan" ∷ codes "0<" ∷ []) ≡ None
unfolding clap_on_literals line
no_number = refl

no_number_behind_two : request_of (codes "scan" ∷ codes "0<=" ∷ []) ≡ None
unfolding clap_on_literals line
no_number_behind_two = refl

no_sign_of_that_name : request_of (codes "scan" ∷ codes "0==5" ∷ []) ≡ None
unfolding clap_on_literals line
no_sign_of_that_name = refl

exclamation_alone : request_of (codes "scan" ∷ codes "0!5" ∷ []) ≡ None
unfolding clap_on_literals line
exclamation_alone = refl

turned_round : request_of (codes "scan" ∷ codes "0=<5" ∷ []) ≡ None
unfolding clap_on_literals line
turned_round = refl

with_plus : request_of (codes "scan" ∷ codes "0<+5" ∷ []) ≡ None
unfolding clap_on_literals line
with_plus = refl

apart : request_of (codes "scan" ∷ codes "0" ∷ codes "<" ∷ codes "5" ∷ []) ≡ None
unfolding clap_on_literals line
apart = refl

with_space : request_of (codes "scan" ∷ codes "0 <5" ∷ []) ≡ None
unfolding clap_on_literals line
with_space = refl

hyphen_alone : request_of (codes "scan" ∷ codes "0<-" ∷ []) ≡ None
unfolding clap_on_literals line
hyphen_alone = refl

with_limit : request_of (codes "scan" ∷ codes "0<5" ∷ codes "--limit" ∷ codes "1" ∷ []) ≡ None
unfolding clap_on_literals line
with_limit = refl
