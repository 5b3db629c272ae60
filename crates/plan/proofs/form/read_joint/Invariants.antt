use Rattle.std.proofs.Common.{◌≤◌, map, length, vec_items}
use Rattle.task.specs.Views.{line_of}
use Rattle.step.specs.Views.{operands_of}
use Rattle.plan.specs.Form as form
use Rattle.plan.proofs.Walks.{Left}
use Rattle.plan.proofs.form.read_joint.Given as goal

abbrev pub invariant-loop-rest : goal.invariant-loop-rest
invariant-loop-rest l =
    (length l.rest ≤ length l.file)
    × Left (line_of l.task) (form.steps (length l.file) (line_of l.task) (length l.file) l.file) (length l.file) (map operands_of (vec_items l.steps)) l.rest

abbrev pub decreases-loop-rest : goal.decreases-loop-rest
decreases-loop-rest l = length l.rest
