-- The look-up of records that belong to an owner from a date on.
--     later own date who x best e      e where it is who's, dated not after x and not before the best so far; else the best so far
--     latest own date who x es         of the records es that are who's, the latest dated not after x; of several of one date, the last
--     Latest own date who x es r       what that means: r is one of them, who's, dated not after x, and no other such is dated later;
--                                      None where each of who's is dated after x
--     nearer own date who x next e     the nearer of two dates past x, where e is who's
--     Same own date who es x next      up to the day before next the look-up finds what it finds at x
-- Assumes nothing.
use Rattle.std.specs.Prelude.{◌≡◌, ℕ, ◌<◌, ◌≤◌, min, Bool, true, cond, ◌&&◌, List, Some, None, fold, Option, ◌==◌, nat_le, nat_lt}
use Rattle.std.specs.List.{All, Contains}

abbrev pub no_earlier : {X : Type 0} → (X → ℕ) → Option X → X → Bool
no_earlier date None e = true
no_earlier date (Some b) e = nat_le (date b) (date e)

abbrev pub later : {X : Type 0} → (X → ℕ) → (X → ℕ) → ℕ → ℕ → Option X → X → Option X
later own date who x best e = cond (own e == who && (nat_le (date e) x && no_earlier date best e)) (Some e) best

unfoldable pub latest : {X : Type 0} → (X → ℕ) → (X → ℕ) → ℕ → ℕ → List X → Option X
latest own date who x es = fold (later own date who x) None es

pub record Newest {X : Type 0} (own date : X → ℕ) (who x : ℕ) (es : List X) (r : X) : Type 0 where
  pub one : Contains es r
  pub owned : own r ≡ who
  pub not_after : date r ≤ x
  pub none_later : All (λ e. own e ≡ who → date e ≤ x → date e ≤ date r) es

abbrev pub Latest : {X : Type 0} → (X → ℕ) → (X → ℕ) → ℕ → ℕ → List X → Option X → Type 0
Latest own date who x es None = All (λ e. own e ≡ who → x < date e) es
Latest own date who x es (Some r) = Newest own date who x es r

abbrev pub nearer : {X : Type 0} → (X → ℕ) → (X → ℕ) → ℕ → ℕ → ℕ → X → ℕ
nearer own date who x next e = cond (own e == who && nat_lt x (date e)) (min next (date e)) next

abbrev pub Same : {X : Type 0} → (X → ℕ) → (X → ℕ) → ℕ → List X → ℕ → ℕ → Type 0
Same own date who es x next = (y : ℕ) → x ≤ y → y < next → latest own date who y es ≡ latest own date who x es
