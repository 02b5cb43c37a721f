-- How refusals and prices are written, as the bytes of a text.
--     refusal_text r        the word "refusal" and the number of r
--     make_error_text e     the same, or "no memory"
--     price_text p          p hundredths of a cent in cents, with two places after the point
-- Assumes nothing.
use Rattle.std.specs.Prelude.{ℕ, ◌/◌, ◌%◌, List, ◌++◌, ℤ, pos, negsuc, suc, codes, decimal}
use Rattle.units.specs.declared.refusal.Refusal.{Refusal}
use Rattle.units.specs.declared.make_error.MakeError.{MakeError}
use Rattle.units.specs.declared.make_error.MakeError.TheVariants.{Refused, NoMemory}
use Rattle.units.specs.Refusals.{number}

abbrev pub refusal_text : Refusal → List ℕ
refusal_text r = codes "refusal " ++ decimal (number r)

abbrev pub make_error_text : MakeError → List ℕ
make_error_text (Refused r) = refusal_text r
make_error_text NoMemory = codes "no memory"

abbrev pub in_places : ℕ → List ℕ
in_places n = decimal (n / 100) ++ (codes "." ++ (decimal (n / 10 % 10) ++ decimal (n % 10)))

abbrev pub price_text : ℤ → List ℕ
price_text (pos n) = in_places n
price_text (negsuc n) = codes "-" ++ in_places (suc n)
