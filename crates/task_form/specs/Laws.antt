-- What holds of every file that is accepted, and of every one that is refused. Assumes nothing.
use Rattle.std.specs.Prelude.{◌≡◌, ℕ, ◌≤◌, List, length, Ok, Err, Result}
use Rattle.refusals.specs.declared.Refusal.{Refusal}
use Rattle.refusals.specs.declared.Layer.TheVariants.{Form}
use Rattle.refusals.specs.Numbers.{layer_of}
use Rattle.model.specs.Line.{Sound}
use Rattle.model.specs.Task.{Task, line}
use Rattle.model.specs.Bounds.{Bounded}
use Rattle.model.specs.Size.{task_bytes}
use Rattle.task_form.specs.Grammar.{IsText, NoText}

-- what holds of the answer to the file bs
abbrev pub Lawful : List ℕ → Result Task Refusal → Type 0
Lawful bs (Ok t) = IsText bs t × Bounded t × Sound (line t) × (length bs ≡ task_bytes t)
Lawful bs (Err e) = NoText bs × (layer_of e.question ≡ Form) × (e.place ≤ length bs)
