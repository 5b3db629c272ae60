-- A task file as it is read: what it has named so far, and what is not complete yet. Assumes nothing.
use Rattle.std.specs.Prelude.{ℕ, suc, cond, ◌&&◌, List, [], ◌∷◌, ◌++◌, length, Ok, Result, ◌==◌, nat_lt}
use Rattle.refusals.specs.declared.Question.TheVariants as Q
use Rattle.refusals.specs.declared.Refusal.{Refusal}
use Rattle.refusals.specs.Answers.{refused, seen}
use Rattle.model.specs.Sets.{Set, Literals, none, no_literals}
use Rattle.model.specs.Task as model
use Rattle.model.specs.Task.{no_effect}
use Rattle.moves.specs.Lists.{added, numbered}
use Rattle.task_command.specs.declared.command.Command.{Command}
use Rattle.task_command.specs.declared.command.Command.TheVariants.{Sizes, Start, Goal, Move, Need, With, Effect, If, IfMove, Then, End}
use Rattle.task_form.specs.Denoted.{Counts}
use Rattle.task_form.specs.Questions.{up_to}

-- what has been named, with the moves that are complete
pub record Named : Type 0 where
  pub sizes : Counts
  pub start : Set
  pub goal : Literals
  pub moves : List model.Move

-- the part that the next command stands in, with the move and the effect that are not complete yet
pub data Stage : Type 0 where
  lists : Stage
  move : model.Move → Stage
  effect : model.Move → model.Effect → Stage
  ended : Stage

abbrev pub Read : Type 0
Read = Result (Named × Stage) Refusal

abbrev pub with_start : Named → Set → Named
with_start n s = record { sizes = n.sizes; start = s; goal = n.goal; moves = n.moves }

abbrev pub with_goal : Named → Literals → Named
with_goal n l = record { sizes = n.sizes; start = n.start; goal = l; moves = n.moves }

abbrev pub with_move : Named → model.Move → Named
with_move n v = record { sizes = n.sizes; start = n.start; goal = n.goal; moves = n.moves ++ (v ∷ []) }

abbrev pub new_move : ℕ → model.Move
new_move s = record { station = s; needs = no_literals; companions = no_literals; effects = [] }

abbrev pub with_needs : model.Move → Literals → model.Move
with_needs v l = record { station = v.station; needs = l; companions = v.companions; effects = v.effects }

abbrev pub with_companions : model.Move → Literals → model.Move
with_companions v l = record { station = v.station; needs = v.needs; companions = l; effects = v.effects }

abbrev pub with_effect : model.Move → model.Effect → model.Move
with_effect v e = record { station = v.station; needs = v.needs; companions = v.companions; effects = v.effects ++ (e ∷ []) }

abbrev pub with_conditions : model.Effect → Literals → model.Effect
with_conditions e l = record { conditions = l; alongside = e.alongside; results = e.results }

abbrev pub with_alongside : model.Effect → Literals → model.Effect
with_alongside e l = record { conditions = e.conditions; alongside = l; results = e.results }

abbrev pub with_results : model.Effect → Literals → model.Effect
with_results e l = record { conditions = e.conditions; alongside = e.alongside; results = l }

-- SIZES, at the front
abbrev pub first_named : Command → Result Named Refusal
first_named (Sizes n f m) =
    cond (up_to 16 n && (up_to 128 f && up_to 64 m)) (Ok (record { sizes = record { stations = n; fluents = f; moves = m }; start = none; goal = no_literals; moves = [] }))
    (refused Q.Range 0)
first_named (Start k) = refused Q.Order 0
first_named (Goal x) = refused Q.Order 0
first_named (Move s) = refused Q.Order 0
first_named (Need x) = refused Q.Order 0
first_named (With x) = refused Q.Order 0
first_named Effect = refused Q.Order 0
first_named (If x) = refused Q.Order 0
first_named (IfMove x) = refused Q.Order 0
first_named (Then x) = refused Q.Order 0
first_named End = refused Q.Order 0

-- MOVE of the station s, with all moves before it complete
abbrev pub begins : Named → (s p : ℕ) → Read
begins n s p =
    cond (nat_lt (length n.moves) n.sizes.moves) (cond (nat_lt s n.sizes.stations) (Ok (n, move (new_move s))) (refused Q.Range p)) (refused Q.Order p)

-- END, with all moves complete
abbrev pub ends : Named → ℕ → Read
ends n p = cond (length n.moves == n.sizes.moves) (Ok (n, ended)) (refused Q.Order p)

-- a command at the place p, in the lists
abbrev pub in_lists : Named → Command → ℕ → Read
in_lists n (Sizes a b c) p = refused Q.Order p
in_lists n (Start k) p = seen (λ s. (with_start n s, lists)) (numbered n.start k n.sizes.fluents p)
in_lists n (Goal x) p = seen (λ l. (with_goal n l, lists)) (added n.goal x n.sizes.fluents p)
in_lists n (Move s) p = begins n s p
in_lists n (Need x) p = refused Q.Order p
in_lists n (With x) p = refused Q.Order p
in_lists n Effect p = refused Q.Order p
in_lists n (If x) p = refused Q.Order p
in_lists n (IfMove x) p = refused Q.Order p
in_lists n (Then x) p = refused Q.Order p
in_lists n End p = ends n p

-- in the move v, before its first effect
abbrev pub in_move : Named → model.Move → Command → ℕ → Read
in_move n v (Sizes a b c) p = refused Q.Order p
in_move n v (Start k) p = refused Q.Order p
in_move n v (Goal x) p = refused Q.Order p
in_move n v (Move s) p = begins (with_move n v) s p
in_move n v (Need x) p = seen (λ l. (n, move (with_needs v l))) (added v.needs x n.sizes.fluents p)
in_move n v (With x) p = seen (λ l. (n, move (with_companions v l))) (added v.companions x n.sizes.moves p)
in_move n v Effect p = Ok (n, effect v no_effect)
in_move n v (If x) p = refused Q.Order p
in_move n v (IfMove x) p = refused Q.Order p
in_move n v (Then x) p = refused Q.Order p
in_move n v End p = ends (with_move n v) p

-- the effect e with one of its own commands
abbrev pub extended : Counts → model.Effect → Command → ℕ → Result model.Effect Refusal
extended z e (Sizes a b c) p = refused Q.Order p
extended z e (Start k) p = refused Q.Order p
extended z e (Goal x) p = refused Q.Order p
extended z e (Move s) p = refused Q.Order p
extended z e (Need x) p = refused Q.Order p
extended z e (With x) p = refused Q.Order p
extended z e Effect p = refused Q.Order p
extended z e (If x) p = seen (with_conditions e) (added e.conditions x z.fluents p)
extended z e (IfMove x) p = seen (with_alongside e) (added e.alongside x z.moves p)
extended z e (Then x) p = seen (with_results e) (added e.results x z.fluents p)
extended z e End p = refused Q.Order p

-- in the effect e of the move v
abbrev pub in_effect : Named → model.Move → model.Effect → Command → ℕ → Read
in_effect n v e (Sizes a b c) p = refused Q.Order p
in_effect n v e (Start k) p = refused Q.Order p
in_effect n v e (Goal x) p = refused Q.Order p
in_effect n v e (Move s) p = begins (with_move n (with_effect v e)) s p
in_effect n v e (Need x) p = refused Q.Order p
in_effect n v e (With x) p = refused Q.Order p
in_effect n v e Effect p = cond (nat_lt (suc (length v.effects)) 8) (Ok (n, effect (with_effect v e) no_effect)) (refused Q.Effects p)
in_effect n v e (If x) p = seen (λ y. (n, effect v y)) (extended n.sizes e (If x) p)
in_effect n v e (IfMove x) p = seen (λ y. (n, effect v y)) (extended n.sizes e (IfMove x) p)
in_effect n v e (Then x) p = seen (λ y. (n, effect v y)) (extended n.sizes e (Then x) p)
in_effect n v e End p = ends (with_move n (with_effect v e)) p

-- the command c at the place p
abbrev pub takes : Named → Stage → Command → ℕ → Read
takes n lists c p = in_lists n c p
takes n (move v) c p = in_move n v c p
takes n (effect v e) c p = in_effect n v e c p
takes n ended c p = refused Q.Order p

-- the task of what has been named
abbrev pub task_named : Named → model.Task
task_named n = record { stations = n.sizes.stations; fluents = n.sizes.fluents; start = n.start; goal = n.goal; moves = n.moves }
