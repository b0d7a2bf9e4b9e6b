-- How numbers compare.
use Rattle.std.specs.Prelude.{Bool, true, false}
use Rattle.std.specs.declared.cmp.Ordering.{Ordering}
use Rattle.std.specs.declared.cmp.Ordering.TheVariants as ordering
use Rattle.filter_types.specs.declared.filter.FilterOp.{FilterOp}
use Rattle.filter_types.specs.declared.filter.FilterOp.TheVariants.{Equal, NotEqual, Less, LessOrEqual, Greater, GreaterOrEqual}

-- a comparison holds where a number stands so to the filter's
abbrev pub holds : FilterOp → Ordering → Bool
holds Equal ordering.Equal = true
holds NotEqual ordering.Less = true
holds NotEqual ordering.Greater = true
holds Less ordering.Less = true
holds LessOrEqual ordering.Less = true
holds LessOrEqual ordering.Equal = true
holds Greater ordering.Greater = true
holds GreaterOrEqual ordering.Greater = true
holds GreaterOrEqual ordering.Equal = true
holds op o = false
