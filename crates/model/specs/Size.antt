-- How many bytes a task takes in its file: two for each literal, and those of SIZES, MOVE, EFFECT and END. Assumes nothing.
use Rattle.std.specs.Prelude.{true, false, cond, List, [], ◌∷◌, ℕ, zero, suc, ◌+◌, ◌*◌, length}
use Rattle.model.specs.Sets.{Set, Literals}
use Rattle.model.specs.Task.{Effect, Move, Task}

-- how many numbers below n are in p
abbrev pub count : ℕ → Set → ℕ
count zero p = 0
count (suc n) p = cond (p n) 1 0 + count n p

-- how many literals name a number below n
abbrev pub literals : ℕ → Literals → ℕ
literals n l = count n (l true) + count n (l false)

abbrev pub total : {A : Type 0} → (A → ℕ) → List A → ℕ
total w [] = 0
total w (x ∷ xs) = w x + total w xs

abbrev pub effect_bytes : (f m : ℕ) → Effect → ℕ
effect_bytes f m e = 1 + 2 * (literals f e.conditions + literals m e.alongside + literals f e.results)

abbrev pub move_bytes : (f m : ℕ) → Move → ℕ
move_bytes f m v = 2 + 2 * (literals f v.needs + literals m v.companions) + total (effect_bytes f m) v.effects

abbrev pub task_bytes : Task → ℕ
task_bytes t =
    5 + 2 * (count t.fluents t.start + literals t.fluents t.goal) + total (move_bytes t.fluents (length t.moves)) t.moves
