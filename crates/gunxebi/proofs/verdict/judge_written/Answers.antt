-- The coupling that is made means the companions of the task, so the verdict under the one is the verdict under the other.
use Rattle.std.proofs.Common.{ℕ, List, Ok, Err, Result, inr, subst}
use Rattle.refusals.specs.declared.Fault.{Fault}
use Rattle.refusals.specs.declared.Fault.TheVariants.{Refused, Memory}
use Rattle.model.specs.Task.{written}
use Rattle.task.specs.Views.{task_of, line_of}
use Rattle.task.specs.declared.task.Task.{Task}
use Rattle.sequencer.specs.Joint.{Verdict}
use Rattle.gunxebi.specs.Files.{WrittenVerdict}
use Rattle.gunxebi.proofs.verdict.judge_written.Goals as goal

-- the verdict for a task that was read is one on its file
filed : (task plan : List ℕ) (t : Task) (r : Result (Unit {0}) Fault) → Verdict (line_of t) (written (task_of t)) plan r → WrittenVerdict task plan r
filed task plan t (Ok u) v = (t, v)
filed task plan t (Err (Refused e)) v = inr (t, v)
filed task plan t (Err Memory) v = tt

pub returns-clause-judged : goal.returns-clause-judged
returns-clause-judged c =
    let t = c.in_ok-read.read in
    let r = c.judge_joint_plan.result in
    filed c.args.task.now c.args.plan.now t r (subst (λ K. Verdict (line_of t) K c.args.plan.now r) c.in_ok-coupling.ensures c.judge_joint_plan.ensures)
