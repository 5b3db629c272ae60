-- What a step of several moves does. The line is read before the step. Assumes nothing.
use Rattle.std.specs.Prelude.{Bool, true, false, not, ◌&&◌, cond, ℕ}
use Rattle.std.proofs.Math.Option.{Option, none, some}
use Rattle.model.specs.Sets.{Set, any}
use Rattle.model.specs.Line.{Line, Coupling}

module _ (L : Line) where
  -- some move of S makes k true (false)
  abbrev pub made : (s S : Set) → Set
  made s S = λ k. any L.moves (λ a. S a && L.sets s S a k)

  abbrev pub unmade : (s S : Set) → Set
  unmade s S = λ k. any L.moves (λ a. S a && L.clears s S a k)

  -- the results name a fluent both ways
  abbrev pub torn : (s S : Set) → Bool
  torn s S = any L.fluents (λ k. made s S k && unmade s S k)

  -- the needs of some move of S do not hold
  abbrev pub unready : (s S : Set) → Bool
  unready s S = any L.moves (λ a. S a && not (L.ready a s))

  -- the fluents after S: its results hold, the others stay
  abbrev pub after : (s S : Set) → Set
  after s S = λ k. cond (made s S k) true (cond (unmade s S k) false (s k))

module _ (L : Line) (K : Coupling) where
  -- a move that a needs is not in S
  abbrev pub missing : Set → ℕ → Bool
  missing S a = any L.moves (λ b. K.needs a b && not (S b))

  -- a move that a bars is in S
  abbrev pub barred : Set → ℕ → Bool
  barred S a = any L.moves (λ b. K.bars a b && S b)

  -- some move of S lacks one that it needs, or meets one that it bars
  abbrev pub lacking : Set → Bool
  lacking S = any L.moves (λ a. S a && missing S a)

  abbrev pub clashing : Set → Bool
  clashing S = any L.moves (λ a. S a && barred S a)

  -- the number of the first question that is answered no, if one is
  abbrev pub refused : (s S : Set) → Option ℕ
  refused s S =
      cond (unready L s S) (some 12)
      (cond (lacking S) (some 13)
      (cond (clashing S) (some 14)
      (cond (torn L s S) (some 15) none)))
