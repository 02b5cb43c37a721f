-- What a shelf of load profiles means, what it answers, and what telling it a day does.
--     Meaning          the count of profiles; and per profile its group, per day the row that is known, and per day and number
--                      the row that the number gives, None where it is not taken
--     Capped values    no value is over 9,999
--     Row values       96 values, none over 9,999
--     Fits m p d row   a row, if there is one, is a Row, and profile p and day d exist
--     Lawful m         at most 64 profiles, a group for each and for no other, and every row known or given fits
--     at_quarter       the value of a quarter hour of a row, None from quarter 96 on
--     quarter_of       the same of a row that may be unknown
--     day_sum          the values of a row added up
--     tell_answer      what telling a number for a profile's day answers: the first refusal that applies, or Ok
--     with_day         that profile's day alone has that row
--     tell_after       what the shelf means after a tell
-- Assumes nothing.
use Rattle.std.specs.Prelude.{◌≡◌, ℕ, ◌<◌, ◌≤◌, cond, ◌&&◌, List, length, ℤ, is_some, is_ok, Some, None, Ok, Err, sum, Option, Result, ◌==◌, nat_le, nat_lt, slice_index}
use Rattle.units.specs.declared.refusal.Refusal.{Refusal}
use Rattle.units.specs.declared.refusal.Refusal.TheVariants.{NotFound, NoSuchDate, AlreadyKnown, NumberNotTaken}
use Rattle.shelf.specs.declared.group.Group.{Group}

pub record Meaning : Type 0 where
  pub count : ℕ
  pub group : ℕ → Option Group
  pub known : ℕ → ℕ → Option (List ℕ)
  pub gives : ℕ → ℕ → ℤ → Option (List ℕ)

abbrev pub Capped : List ℕ → Type 0
Capped values = (q : ℕ) → slice_index values q ≤ 9999

pub record Row (values : List ℕ) : Type 0 where
  pub full : length values ≡ 96
  pub capped : Capped values

abbrev pub Fits : Meaning → ℕ → ℕ → Option (List ℕ) → Type 0
Fits m p d None = Unit {0}
Fits m p d (Some values) = (p < m.count) × (d ≤ 14609) × Row values

pub record Lawful (m : Meaning) : Type 0 where
  pub few : m.count ≤ 64
  pub grouped : (p : ℕ) → is_some (m.group p) ≡ nat_lt p m.count
  pub known_fits : (p d : ℕ) → Fits m p d (m.known p d)
  pub given_fits : (p d : ℕ) (n : ℤ) → Fits m p d (m.gives p d n)

abbrev pub at_quarter : List ℕ → ℕ → Option ℕ
at_quarter values q = cond (nat_lt q 96) (Some (slice_index values q)) None

abbrev pub quarter_of : Option (List ℕ) → ℕ → Option ℕ
quarter_of None q = None
quarter_of (Some values) q = at_quarter values q

abbrev pub day_sum : List ℕ → ℕ
day_sum values = sum values

-- where profile and day exist, by what is known of the day and what the number gives
abbrev pub told_answer : Option (List ℕ) → Option (List ℕ) → Result (Unit {0}) Refusal
told_answer (Some values) given = Err AlreadyKnown
told_answer None None = Err NumberNotTaken
told_answer None (Some values) = Ok tt

abbrev pub tell_answer : Meaning → ℕ → ℕ → ℤ → Result (Unit {0}) Refusal
tell_answer m p d n =
    cond (nat_lt p m.count) (cond (nat_le d 14609) (told_answer (m.known p d) (m.gives p d n)) (Err NoSuchDate)) (Err NotFound)

abbrev pub with_day : Meaning → ℕ → ℕ → Option (List ℕ) → Meaning
with_day m p d row = record {
  count = m.count;
  group = m.group;
  known = λ q e. cond (q == p && e == d) row (m.known q e);
  gives = m.gives;
}

abbrev pub tell_after : Meaning → ℕ → ℕ → ℤ → Meaning
tell_after m p d n = cond (is_ok (tell_answer m p d n)) (with_day m p d (m.gives p d n)) m
