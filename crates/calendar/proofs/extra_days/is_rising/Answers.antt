use Rattle.std.proofs.Common.{rules}
use Rattle.std.proofs.lemmas.List.Sorted.{answers_always}
use borrow.Author.Tests.{tests}
use Rattle.calendar.proofs.ExtraLists.{in_order, rising_by_steps}
use Rattle.calendar.proofs.extra_days.is_rising.Goals as goal

pub returns-then-first-le-LAST_DAY : goal.returns-then-first-le-LAST_DAY
returns-then-first-le-LAST_DAY c =
    rising_by_steps _ _ c.in-len1-up.len_at_least c.if-first-le-LAST_DAY.true
    (c.is_sorted_by.ensures.cases in_order (answers_always _ _ _ (λ f a r f' k. search (rules, tests))))
