-- The task that the code's task stands for, and its line. Assumes nothing.
use Rattle.std.specs.Prelude.{◌≡◌, ℕ, List, map, Ok, Err, vec_items, Result}
use Rattle.refusals.specs.declared.Refusal.{Refusal}
use Rattle.refusals.specs.declared.Fault.{Fault}
use Rattle.refusals.specs.declared.Fault.TheVariants.{Refused, Memory}
use Rattle.model.specs.Line.{Line}
use Rattle.model.specs.Task as model
use Rattle.sets.specs.Members.{members}
use Rattle.moves.specs.Lists.{literals_of}
use Rattle.moves.specs.Parts.{move_of}
use Rattle.task_form.specs.Grammar.{IsText, NoText}
use Rattle.task.specs.declared.task.Task.{Task}

abbrev pub task_of : Task → model.Task
task_of t = record {
  stations = t.lists.sizes.stations;
  fluents = t.lists.sizes.fluents;
  start = members t.lists.start;
  goal = literals_of t.lists.goal;
  moves = map move_of (vec_items t.lists.moves);
}

abbrev pub line_of : Task → Line
line_of t = model.line (task_of t)

-- the answer to a whole file; want of memory apart
abbrev pub Reads : Result model.Task Refusal → Result Task Fault → Type 0
Reads form (Ok t) = form ≡ Ok (task_of t)
Reads form (Err (Refused e)) = form ≡ Err e
Reads form (Err Memory) = Unit {0}

-- The file bs spells a well formed text that means the task; where it is refused, it spells none. Want of memory apart.
abbrev pub Texts : List ℕ → Result Task Fault → Type 0
Texts bs (Ok t) = IsText bs (task_of t)
Texts bs (Err (Refused e)) = NoText bs
Texts bs (Err Memory) = Unit {0}
