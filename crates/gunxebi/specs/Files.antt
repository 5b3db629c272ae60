-- The verdict on a task file and a plan file under the coupling that the task writes. Assumes nothing.
use Rattle.std.specs.Prelude.{ℕ, ◌⊎◌, List, length, Ok, Err, Result}
use Rattle.refusals.specs.declared.Fault.{Fault}
use Rattle.refusals.specs.declared.Fault.TheVariants.{Refused, Memory}
use Rattle.refusals.specs.Answers.{Within}
use Rattle.model.specs.Task.{line, written}
use Rattle.task_form.specs.Form.{form}
use Rattle.task.specs.Views.{task_of, line_of}
use Rattle.task.specs.declared.task.Task.{Task}
use Rattle.sequencer.specs.Joint.{Verdict, WithTask}

-- the task file is refused by a question of form, or the plan is judged for a task, by the companions that it lists
abbrev pub WrittenVerdict : (task plan : List ℕ) → Result (Unit {0}) Fault → Type 0
WrittenVerdict task plan (Ok u) = (t : Task) × Verdict (line_of t) (written (task_of t)) plan (Ok tt)
WrittenVerdict task plan (Err (Refused e)) = Within (length task) (Refused e) ⊎ ((t : Task) × Verdict (line_of t) (written (task_of t)) plan (Err (Refused e)))
WrittenVerdict task plan (Err Memory) = Unit {0}

-- the task file's refusal, or the verdict for the task that it denotes, by the companions that it lists
abbrev pub WrittenFileVerdict : (task plan : List ℕ) → Result (Unit {0}) Fault → Type 0
WrittenFileVerdict task plan r = WithTask (form task) (λ t. Verdict (line t) (written t) plan) r
