-- A task within its bounds describes a line whose moves have its stations and change its fluents. Assumes nothing.
use Rattle.std.proofs.Common.{◌≡◌, ℕ, zero, suc, ◌<◌, Bool, true, false, cond, List, [], ◌∷◌, length, get_or, refl, inl, inr, arith}
use Rattle.std.proofs.lemmas.Bool.{or_cases, both_ways}
use Rattle.model.specs.Sets.{Set, no_literals}
use Rattle.model.specs.Line.{Sound}
use Rattle.model.specs.Task.{Effect, Task, triggered, results, line, move_at, no_move}
use Rattle.model.specs.Bounds.{Each, BoundedEffect, BoundedMove, Bounded}

each_at : {A : Type 0} (P : A → Type 0) (xs : List A) (d : A) (a : ℕ) → Each P xs → a < length xs → P (get_or xs a d)
each_at P [] d a h l = absurd (omega arith)
each_at P (x ∷ xs) d zero h l = h.0
each_at P (x ∷ xs) d (suc a) h l = each_at P xs d a h.1 (omega arith)

-- what triggered effects make true or false is among their results
results_below : (f m : ℕ) (es : List Effect) (s S : Set) (b : Bool) (k : ℕ) → Each (BoundedEffect f m) es → results es s S b k ≡ true → k < f
results_below f m [] s S b k h e = absurd (both_ways _ refl e)
results_below f m (x ∷ es) s S b k h e =
    elim (or_cases (cond (triggered x s S) x.results no_literals b k) (results es s S b k) e) [
      | inl q ↦ by (triggered x s S) q
      | inr q ↦ results_below f m es s S b k h.1 q
    ]
  where
    by : (t : Bool) → cond t x.results no_literals b k ≡ true → k < f
    by true q = h.0.results.below b k q
    by false q = absurd (both_ways _ refl q)

pub bounded_sound : (t : Task) → Bounded t → Sound (line t)
bounded_sound t b = record {
  stationed = λ a l. (at a l).station;
  sets_own = λ s S a k l e. results_below t.fluents (length t.moves) _ s S true k (at a l).effects e;
  clears_own = λ s S a k l e. results_below t.fluents (length t.moves) _ s S false k (at a l).effects e;
}
  where
    at : (a : ℕ) → a < length t.moves → BoundedMove t.stations t.fluents (length t.moves) (move_at t.moves a)
    at a l = each_at (BoundedMove t.stations t.fluents (length t.moves)) t.moves no_move a b.moves l
