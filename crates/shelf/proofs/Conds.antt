-- What a value under a test is either way, and a tell that is refused. Assumes nothing.
use Rattle.std.proofs.Common.{◌≡◌, ℕ, Bool, true, false, cond, ℤ, is_ok, None, Err, Option, sym, refl, ap}
use Rattle.units.specs.declared.refusal.Refusal.{Refusal}
use Rattle.shelf.specs.Meaning.{Meaning, tell_answer, tell_after, with_day}

pub none_either : {X : Type 0} (b : Bool) → ◌≡◌ {A = Option X} (cond b None None) None
none_either true = refl
none_either false = refl

-- what is refused changes nothing
pub refused_after : (m : Meaning) (p d : ℕ) (n : ℤ) (e : Refusal) → tell_answer m p d n ≡ Err e → m ≡ tell_after m p d n
refused_after m p d n e refused = sym (ap (λ a. cond (is_ok a) (with_day m p d (m.gives p d n)) m) refused)
