-- A task by its lists, and the line that it describes. Assumes nothing.
use Rattle.std.specs.Prelude.{Bool, true, false, cond, ◌&&◌, ltb, leb, List, [], ◌∷◌, ℕ, length, get_or}
use Rattle.model.specs.Sets.{Set, Literals, no_literals, both, holds, within}
use Rattle.model.specs.Line.{Line, Coupling}

-- an effect of a move: what it asks of the line, what it asks of the step's moves, and its results
pub record Effect : Type 0 where
  pub conditions : Literals
  pub alongside : Literals
  pub results : Literals

-- companions: the moves that this one needs in its step (plain) or bars from it ("not")
pub record Move : Type 0 where
  pub station : ℕ
  pub needs : Literals
  pub companions : Literals
  pub effects : List Effect

pub record Task : Type 0 where
  pub stations : ℕ
  pub fluents : ℕ
  pub start : Set
  pub goal : Literals
  pub moves : List Move

-- an effect that asks nothing and does nothing
abbrev pub no_effect : Effect
no_effect = record { conditions = no_literals; alongside = no_literals; results = no_literals }

-- what stands at a number that the task has no move for
abbrev pub no_move : Move
no_move = record { station = 0; needs = no_literals; companions = no_literals; effects = [] }

-- the move with the number a
abbrev pub move_at : List Move → ℕ → Move
move_at ms a = get_or ms a no_move

-- the effect is triggered in the step S, before which s holds
abbrev pub triggered : Effect → (s S : Set) → Bool
triggered e s S = holds e.conditions s && holds e.alongside S

-- the results of the triggered effects
abbrev pub results : List Effect → (s S : Set) → Literals
results [] s S = no_literals
results (e ∷ es) s S = both (cond (triggered e s S) e.results no_literals) (results es s S)

-- the line that a task describes
abbrev pub line : Task → Line
line t = record {
  stations = t.stations;
  fluents = t.fluents;
  moves = length t.moves;
  station = λ a. (move_at t.moves a).station;
  ready = λ a s. holds (move_at t.moves a).needs s;
  sets = λ s S a k. results (move_at t.moves a).effects s S true k;
  clears = λ s S a k. results (move_at t.moves a).effects s S false k;
  start = t.start;
  goal = λ s. holds t.goal s;
}

-- the written coupling: plain companions are needed, those with "not" are barred
abbrev pub written : Task → Coupling
written t = record {
  needs = λ a b. (move_at t.moves a).companions true b;
  bars = λ a b. (move_at t.moves a).companions false b;
}

-- an effect's conditions and results name fluents below f, its move conditions moves below m
abbrev pub effect_fits : (f m : ℕ) → Effect → Bool
effect_fits f m e = within f e.conditions && (within m e.alongside && within f e.results)

abbrev pub effects_fit : (f m : ℕ) → List Effect → Bool
effects_fit f m [] = true
effects_fit f m (e ∷ es) = effect_fits f m e && effects_fit f m es

-- a move has a station below n, names fluents below f and moves below m, and has at most eight effects
abbrev pub move_fits : (n f m : ℕ) → Move → Bool
move_fits n f m v =
    (ltb v.station n && (within f v.needs && within m v.companions))
    && (leb (length v.effects) 8 && effects_fit f m v.effects)

abbrev pub moves_fit : (n f m : ℕ) → List Move → Bool
moves_fit n f m [] = true
moves_fit n f m (v ∷ vs) = move_fits n f m v && moves_fit n f m vs
