-- The verdict on a joint plan file. Assumes nothing.
use Rattle.std.specs.Prelude.{◌≡◌, ℕ, ◌⊎◌, List, length, Ok, Err, Result}
use Rattle.refusals.specs.declared.Refusal.{Refusal}
use Rattle.refusals.specs.declared.Fault.{Fault}
use Rattle.refusals.specs.declared.Fault.TheVariants.{Refused, Memory}
use Rattle.model.specs.Line.{Line, Coupling}
use Rattle.refusals.specs.Answers.{Within}
use Rattle.model.specs.Task as model
use Rattle.task_form.specs.Form.{form}
use Rattle.task.specs.Views.{line_of}
use Rattle.task.specs.declared.task.Task.{Task}
use Rattle.step.specs.Operands.{named}
use Rattle.step.specs.Joint.{joint_leads, joint_ends}
use Rattle.world.specs.Plans.{Judged}
use Rattle.plan.specs.Form.{joint_form}

-- the judgement on steps that are written as their operands
abbrev pub JudgedRows : Line → Coupling → List (List ℕ) → Result (Unit {0}) Refusal → Type 0
JudgedRows L K rows r = Judged (λ s row. joint_leads L K s (named row)) (joint_ends L) L.start rows r

-- the verdict on a joint plan file: its form refuses it, or its steps are judged; want of memory apart
abbrev pub Verdict : Line → Coupling → List ℕ → Result (Unit {0}) Fault → Type 0
Verdict L K plan (Ok u) = (rows : List (List ℕ)) × (joint_form L plan ≡ Ok rows) × JudgedRows L K rows (Ok tt)
Verdict L K plan (Err (Refused e)) = (joint_form L plan ≡ Err e) ⊎ ((rows : List (List ℕ)) × (joint_form L plan ≡ Ok rows) × JudgedRows L K rows (Err e))
Verdict L K plan (Err Memory) = Unit {0}

-- the verdict where the task comes as a file too: the file is refused by a question of form, or a task is judged
abbrev pub Filed : Coupling → (task plan : List ℕ) → Result (Unit {0}) Fault → Type 0
Filed K task plan (Ok u) = (t : Task) × Verdict (line_of t) K plan (Ok tt)
Filed K task plan (Err (Refused e)) = Within (length task) (Refused e) ⊎ ((t : Task) × Verdict (line_of t) K plan (Err (Refused e)))
Filed K task plan (Err Memory) = Unit {0}

-- the answer r is the refusal e, unless memory is wanting
abbrev pub Refuses : Refusal → Result (Unit {0}) Fault → Type 0
Refuses e (Ok u) = ⊥
Refuses e (Err (Refused f)) = f ≡ e
Refuses e (Err Memory) = Unit {0}

-- the answer r to a call with a task file: the form's refusal, or what P says for the task that the file denotes
abbrev pub WithTask : Result model.Task Refusal → (model.Task → Result (Unit {0}) Fault → Type 0) → Result (Unit {0}) Fault → Type 0
WithTask (Ok t) P r = P t r
WithTask (Err e) P r = Refuses e r

-- the verdict where the task comes as a file too: the task file's refusal, or the verdict for the task that it denotes
abbrev pub FileVerdict : Coupling → (task plan : List ℕ) → Result (Unit {0}) Fault → Type 0
FileVerdict K task plan r = WithTask (form task) (λ t. Verdict (model.line t) K plan) r
