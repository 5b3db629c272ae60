-- The task that the commands of a file denote: each list holds exactly what the commands of that list name. Assumes nothing.
use Rattle.std.specs.Prelude.{ℕ, true, List, [], ◌∷◌, map}
use Rattle.model.specs.Task as model
use Rattle.task_command.specs.declared.command.Command.{Command}
use Rattle.task_command.specs.declared.command.Command.TheVariants.{Sizes, Start, Goal, Move, Need, With, Effect, If, IfMove, Then, End}
use Rattle.task_form.specs.Lists.{Stretch, listed, stretches}

-- how many stations, fluents and moves there are
pub record Counts : Type 0 where
  pub stations : ℕ
  pub fluents : ℕ
  pub moves : ℕ

abbrev pub no_counts : Counts
no_counts = record { stations = 0; fluents = 0; moves = 0 }

-- the operands of SIZES
abbrev pub counts : Command → Counts
counts (Sizes n f m) = record { stations = n; fluents = f; moves = m }
counts (Start k) = no_counts
counts (Goal x) = no_counts
counts (Move s) = no_counts
counts (Need x) = no_counts
counts (With x) = no_counts
counts Effect = no_counts
counts (If x) = no_counts
counts (IfMove x) = no_counts
counts (Then x) = no_counts
counts End = no_counts

-- the sizes: those of the first command
abbrev pub sizes : List Command → Counts
sizes [] = no_counts
sizes (c ∷ cs) = counts c

-- the operand of MOVE
abbrev pub station : Command → ℕ
station (Sizes n f m) = 0
station (Start k) = 0
station (Goal x) = 0
station (Move s) = s
station (Need x) = 0
station (With x) = 0
station Effect = 0
station (If x) = 0
station (IfMove x) = 0
station (Then x) = 0
station End = 0

-- the effect of a stretch that EFFECT begins
abbrev pub effect : Stretch → model.Effect
effect s = record { conditions = listed 0x08 s.1; alongside = listed 0x09 s.1; results = listed 0x0a s.1 }

-- the move of a stretch that MOVE begins
abbrev pub move : Stretch → model.Move
move s = record {
  station = station s.0;
  needs = listed 0x05 s.1;
  companions = listed 0x06 s.1;
  effects = map effect (stretches 0x07 s.1);
}

-- the task that a file's commands denote
abbrev pub denoted : List Command → model.Task
denoted cs = record {
  stations = (sizes cs).stations;
  fluents = (sizes cs).fluents;
  start = listed 0x02 cs true;
  goal = listed 0x03 cs;
  moves = map move (stretches 0x04 cs);
}
