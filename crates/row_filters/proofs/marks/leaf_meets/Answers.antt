use Rattle.row_filters.proofs.NoNumbers.{at_binary, at_binary_view, at_boolean, at_days_ms, at_fixed_size_binary, at_large_binary, at_large_utf8, at_months_days_ns, at_null, at_utf8, at_utf8_view}
use Rattle.row_filters.proofs.marks.leaf_meets.Goals as goal

pub returns-in-Null : goal.returns-in-Null
returns-in-Null c = at_null _ _ c.args.filter c.args.row c.in-Null.is

pub returns-in-Boolean : goal.returns-in-Boolean
returns-in-Boolean c = at_boolean _ _ c.args.filter c.args.row c.in-Boolean.is

pub returns-in-Binary : goal.returns-in-Binary
returns-in-Binary c = at_binary _ _ c.args.filter c.args.row c.in-Binary.is

pub returns-in-LargeBinary : goal.returns-in-LargeBinary
returns-in-LargeBinary c = at_large_binary _ _ c.args.filter c.args.row c.in-LargeBinary.is

pub returns-in-Utf8 : goal.returns-in-Utf8
returns-in-Utf8 c = at_utf8 _ _ c.args.filter c.args.row c.in-Utf8.is

pub returns-in-LargeUtf8 : goal.returns-in-LargeUtf8
returns-in-LargeUtf8 c = at_large_utf8 _ _ c.args.filter c.args.row c.in-LargeUtf8.is

pub returns-in-BinaryView : goal.returns-in-BinaryView
returns-in-BinaryView c = at_binary_view _ _ c.args.filter c.args.row c.in-BinaryView.is

pub returns-in-Utf8View : goal.returns-in-Utf8View
returns-in-Utf8View c = at_utf8_view _ _ c.args.filter c.args.row c.in-Utf8View.is

pub returns-in-FixedSizeBinary : goal.returns-in-FixedSizeBinary
returns-in-FixedSizeBinary c = at_fixed_size_binary _ _ c.args.filter c.args.row c.in-FixedSizeBinary.is

pub returns-in-DaysMs : goal.returns-in-DaysMs
returns-in-DaysMs c = at_days_ms _ _ c.args.filter c.args.row c.len.ensures.sound c.in-DaysMs.is

pub returns-in-MonthsDaysNs : goal.returns-in-MonthsDaysNs
returns-in-MonthsDaysNs c = at_months_days_ns _ _ c.args.filter c.args.row c.len-in-MonthsDaysNs.ensures.sound c.in-MonthsDaysNs.is
