-- What holds of every task: each number is within its size, and none stands both plain and with "not" in one list.
-- Assumes nothing.
use Rattle.std.specs.Prelude.{◌≡◌, Bool, true, false, List, [], ◌∷◌, ℕ, ◌<◌, ◌≤◌, length}
use Rattle.model.specs.Sets.{Literals}
use Rattle.model.specs.Task.{Effect, Move, Task}

-- each of a list
abbrev pub Each : {A : Type 0} → (A → Type 0) → List A → Type 0
Each P [] = Unit {0}
Each P (x ∷ xs) = P x × Each P xs

-- 1 to most
abbrev pub FromOne : ℕ → ℕ → Type 0
FromOne most n = (1 ≤ n) × (n ≤ most)

-- the literals of one list: they name numbers below n, and none both plain and with "not"
pub record Listed (n : ℕ) (l : Literals) : Type 0 where
  pub below : (b : Bool) (k : ℕ) → l b k ≡ true → k < n
  pub once : (k : ℕ) → l true k ≡ true → l false k ≡ false

pub record BoundedEffect (f m : ℕ) (e : Effect) : Type 0 where
  pub conditions : Listed f e.conditions
  pub alongside : Listed m e.alongside
  pub results : Listed f e.results

pub record BoundedMove (n f m : ℕ) (v : Move) : Type 0 where
  pub station : v.station < n
  pub needs : Listed f v.needs
  pub companions : Listed m v.companions
  pub few : length v.effects ≤ 8
  pub effects : Each (BoundedEffect f m) v.effects

pub record Bounded (t : Task) : Type 0 where
  pub stations : FromOne 16 t.stations
  pub fluents : FromOne 128 t.fluents
  pub count : FromOne 64 (length t.moves)
  pub start : (k : ℕ) → t.start k ≡ true → k < t.fluents
  pub goal : Listed t.fluents t.goal
  pub moves : Each (BoundedMove t.stations t.fluents (length t.moves)) t.moves
