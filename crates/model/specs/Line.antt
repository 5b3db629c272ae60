-- What is known of a line, and of a coupling, apart from any file. Assumes nothing.
use Rattle.std.specs.Prelude.{◌≡◌, Bool, true, ℕ, ◌<◌}
use Rattle.model.specs.Sets.{Set}

pub record Line : Type 0 where
  pub stations : ℕ
  pub fluents : ℕ
  pub moves : ℕ
  -- the station of a move
  pub station : ℕ → ℕ
  -- the needs of a move hold on the line
  pub ready : ℕ → Set → Bool
  -- with s before the step S, the move a makes fluent k true (false)
  pub sets : (s S : Set) (a k : ℕ) → Bool
  pub clears : (s S : Set) (a k : ℕ) → Bool
  pub start : Set
  pub goal : Set → Bool

-- the two relations of a coupling between move numbers
pub record Coupling : Type 0 where
  pub needs : ℕ → ℕ → Bool
  pub bars : ℕ → ℕ → Bool

-- a line whose moves have its stations and change its fluents
pub record Sound (L : Line) : Type 0 where
  pub stationed : (a : ℕ) → a < L.moves → L.station a < L.stations
  pub sets_own : (s S : Set) (a k : ℕ) → a < L.moves → L.sets s S a k ≡ true → k < L.fluents
  pub clears_own : (s S : Set) (a k : ℕ) → a < L.moves → L.clears s S a k ≡ true → k < L.fluents
