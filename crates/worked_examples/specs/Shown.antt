-- A task written out in numbers, to be held against an example. Assumes nothing.
use Rattle.std.specs.Prelude.{ℕ, zero, suc, ◌+◌, true, false, cond, List, [], ◌∷◌, ◌++◌, map, length}
use Rattle.model.specs.Sets.{Set, Literals}
use Rattle.model.specs.Task.{Effect, Move, Task}

-- the numbers below n that are in p, ascending
abbrev pub numbers : ℕ → Set → List ℕ
numbers zero p = []
numbers (suc n) p = numbers n p ++ cond (p n) (n ∷ []) []

-- the literals of numbers below n as their bytes, ascending: 128 more stands for "not"
abbrev pub literals : ℕ → Literals → List ℕ
literals zero l = []
literals (suc n) l = literals n l ++ (cond (l true n) (n ∷ []) [] ++ cond (l false n) ((128 + n) ∷ []) [])

-- conditions, move conditions and results
abbrev pub EffectShown : Type 0
EffectShown = List ℕ × List ℕ × List ℕ

abbrev pub effect_shown : (f m : ℕ) → Effect → EffectShown
effect_shown f m e = (literals f e.conditions, literals m e.alongside, literals f e.results)

-- station, needs, companions and effects
abbrev pub MoveShown : Type 0
MoveShown = ℕ × List ℕ × List ℕ × List EffectShown

abbrev pub move_shown : (f m : ℕ) → Move → MoveShown
move_shown f m v = (v.station, literals f v.needs, literals m v.companions, map (effect_shown f m) v.effects)

-- stations, fluents, start, goal and moves
abbrev pub TaskShown : Type 0
TaskShown = ℕ × ℕ × List ℕ × List ℕ × List MoveShown

abbrev pub shown : Task → TaskShown
shown t =
    (t.stations, t.fluents, numbers t.fluents t.start, literals t.fluents t.goal, map (move_shown t.fluents (length t.moves)) t.moves)
