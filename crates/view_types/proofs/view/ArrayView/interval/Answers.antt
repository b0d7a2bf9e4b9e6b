use Rattle.std.proofs.Common.{◌≡◌, ◌<◌, sym, subst}
use Rattle.view_types.specs.Tops.{top_in}
use Rattle.view_types.specs.Views.{Interval, View, interval_there, layout_of, place_of, rows_of, top_of, views}
use Rattle.view_types.proofs.Places.{day_time_stands, month_day_nano_stands}
use Rattle.view_types.proofs.view.ArrayView.interval.Goals as goal

pub returns-in-DayTime-clause-stands : goal.returns-in-DayTime-clause-stands
returns-in-DayTime-clause-stands c =
    let row = c.args.row in
    let x = c.day_time.result in
    let below = subst (λ (v : View). row < rows_of v) (sym c.self.view_is) c.requires.row.below in
    subst (λ (v : View). (let p : Interval = record { first = x.0; second = x.1; nanoseconds = x.2 } in p ≡ interval_there (layout_of v) (top_of v) (place_of v row))) c.self.view_is
    (day_time_stands c.self.inside.parts.layout (top_in c.self.inside.parts) (views c.self.inside.children.items) row x.0 x.1 x.2 c.in-DayTime.is c.self.invariant.sound.stands below c.day_time.ensures.days c.day_time.ensures.milliseconds c.day_time.ensures.none)

pub returns-in-MonthDayNano-clause-stands : goal.returns-in-MonthDayNano-clause-stands
returns-in-MonthDayNano-clause-stands c =
    let row = c.args.row in
    let x = c.month_day_nano.result in
    let below = subst (λ (v : View). row < rows_of v) (sym c.self.view_is) c.requires.row.below in
    subst (λ (v : View). (let p : Interval = record { first = x.0; second = x.1; nanoseconds = x.2 } in p ≡ interval_there (layout_of v) (top_of v) (place_of v row))) c.self.view_is
    (month_day_nano_stands c.self.inside.parts.layout (top_in c.self.inside.parts) (views c.self.inside.children.items) row x.0 x.1 x.2 c.in-MonthDayNano.is c.self.invariant.sound.stands below c.month_day_nano.ensures.months c.month_day_nano.ensures.days c.month_day_nano.ensures.nanoseconds)
