-- Two shelves as one.
--     joined n a b p      what a has at p, for the first n numbers p, and else what b has at p - n; nothing from 64 on
--     pair_meaning a b    the second's profiles are numbered after the first's; a 65th profile and those after it do not exist
-- Assumes nothing.
use Rattle.std.specs.Prelude.{ℕ, ◌+◌, ◌-◌, min, cond, None, Option, nat_lt}
use Rattle.shelf.specs.Meaning.{Meaning}

abbrev pub joined : {X : Type 0} → ℕ → (ℕ → Option X) → (ℕ → Option X) → ℕ → Option X
joined n a b p = cond (nat_lt p n) (a p) (cond (nat_lt p 64) (b (p - n)) None)

abbrev pub pair_meaning : Meaning → Meaning → Meaning
pair_meaning a b = record {
  count = min (a.count + b.count) 64;
  group = joined a.count a.group b.group;
  known = λ p d. joined a.count (λ q. a.known q d) (λ q. b.known q d) p;
  gives = λ p d n. joined a.count (λ q. a.gives q d n) (λ q. b.gives q d n) p;
}
