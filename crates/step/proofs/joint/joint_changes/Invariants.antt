use Rattle.std.proofs.Common.{◌≡◌, ℕ, ◌&&◌}
use Rattle.model.specs.Sets.{any, Literals}
use Rattle.model.specs.Task.{move_at, results}
use Rattle.sets.specs.Members.{members}
use Rattle.moves.specs.Lists.{literals_of}
use Rattle.task.specs.Views.{task_of}
use Rattle.step.proofs.joint.joint_changes.Given as goal

-- what the moves below a give
abbrev pub invariant-loop-a : goal.invariant-loop-a
invariant-loop-a l =
    let gives : ℕ → Literals = λ b. results (move_at (task_of l.task).moves b).effects (members l.context.line) (members l.context.moves) in
    literals_of l.changes ≡ (λ s k. any l.a (λ b. members l.context.moves b && gives b s k))
