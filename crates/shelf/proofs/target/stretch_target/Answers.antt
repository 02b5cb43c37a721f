use Rattle.std.proofs.Common.{pos, Some, sym, ap, ◌∙◌, arith, rules}
use Rattle.std.specs.Option.{option_map}
use Rattle.shelf.proofs.DaySums.{sum_over_none, grains_more, grains_held, stretch_known, stretch_unknown}
use Rattle.shelf.proofs.target.stretch_target.Goals as goal

pub loop-day-init : goal.loop-day-init
loop-day-init g c = record {
  so_far = ap Some c.zero-target.ensures ∙ ap (option_map pos) (sym (sum_over_none _ c.args.from _ (omega arith)));
  within = omega arith;
}

pub add-target-requires : goal.add-target-requires
add-target-requires g c =
    let known = sym c.in_ok-day_sum.ensures.ok_part ∙ c.day_sum.ensures in
    grains_held (g.S.Shelf.meaning c.args.shelf.now) c.args.profile c.args.forecast c.args.from c.loop-day.day _ _ _ c.loop-day.invariant.so_far known c.on_day.ensures (g.met.S.Shelf.lawful c.args.shelf.now) c.if-forecast-gt-LARGEST_FORECAST.false (omega arith)

pub loop-day-preserved : goal.loop-day-preserved
loop-day-preserved g c =
    let known = sym c.in_ok-day_sum.ensures.ok_part ∙ c.day_sum.ensures in
    record {
      so_far = grains_more (g.S.Shelf.meaning c.args.shelf.now) c.args.profile c.args.forecast c.args.from c.loop-day.day _ _ _ c.loop-day.invariant.so_far known c.on_day.ensures _ (omega arith) c.add-target.ensures;
      within = omega arith;
    }

pub returns-in_err-day_sum : goal.returns-in_err-day_sum
returns-in_err-day_sum g c =
    let unknown = sym c.in_err-day_sum.ensures.ok_part ∙ c.day_sum.ensures in
    search (rules, stretch_unknown (g.S.Shelf.meaning c.args.shelf.now) c.args.profile c.args.forecast c.args.from c.args.to c.if-to-gt-LAST_DAY.false c.if-forecast-gt-LARGEST_FORECAST.false c.loop-day.day (omega arith) (omega arith) unknown)

pub returns-in_ok-day_sum : goal.returns-in_ok-day_sum
returns-in_ok-day_sum g c =
    let m = g.S.Shelf.meaning c.args.shelf.now in
    let known = sym c.in_ok-day_sum.ensures.ok_part ∙ c.day_sum.ensures in
    let sum = grains_more m c.args.profile c.args.forecast c.args.from c.loop-day.day _ _ _ c.loop-day.invariant.so_far known c.on_day.ensures _ (omega arith) c.add-target.ensures in
    stretch_known m c.args.profile c.args.forecast c.args.from c.args.to c.if-to-gt-LAST_DAY.false c.if-forecast-gt-LARGEST_FORECAST.false _ _ (omega arith) sum

pub returns-else-forecast-gt-LARGEST_FORECAST : goal.returns-else-forecast-gt-LARGEST_FORECAST
returns-else-forecast-gt-LARGEST_FORECAST g c =
    stretch_known (g.S.Shelf.meaning c.args.shelf.now) c.args.profile c.args.forecast c.args.from c.args.to c.if-to-gt-LAST_DAY.false c.if-forecast-gt-LARGEST_FORECAST.false _ _ (omega arith) c.loop-day.invariant.so_far
