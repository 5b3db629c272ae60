-- What the laws of task files say of every task. Assumes nothing.
use mathlib.Core.Logic.{∥∥₁_elim}
use Rattle.std.proofs.Common.{◌≤◌, Ok, arith}
use native.Mathlib.Bridge.{le_prop}
use Rattle.model.specs.Line.{Sound}
use Rattle.model.specs.Size.{task_bytes}
use Rattle.task_form.proofs.Lawful.{lawful}
use Rattle.task.specs.Views.{task_of, line_of}
use Rattle.task.specs.declared.task.Task.{Task}

-- every task is one that some file denotes, so that its line is sound, and it holds no more than a file can carry
pub sound_line : (t : Task) → Sound (line_of t)
sound_line t = record {
  stationed = λ a l. ∥∥₁_elim t.filed le_prop (λ f. (lawful f.0 (Ok (task_of t)) f.1).2.stationed a l);
  sets_own = λ s S a k l e. ∥∥₁_elim t.filed le_prop (λ f. (lawful f.0 (Ok (task_of t)) f.1).2.sets_own s S a k l e);
  clears_own = λ s S a k l e. ∥∥₁_elim t.filed le_prop (λ f. (lawful f.0 (Ok (task_of t)) f.1).2.clears_own s S a k l e);
}

pub carried : (t : Task) → task_bytes (task_of t) ≤ 8192
carried t = ∥∥₁_elim t.filed le_prop (λ f. let all = lawful f.0 (Ok (task_of t)) f.1 in omega (arith, all.3, all.0.small))
