use Rattle.std.proofs.Common.{ℕ, List, Ok, Err, Result, inr}
use Rattle.refusals.specs.declared.Fault.{Fault}
use Rattle.refusals.specs.declared.Fault.TheVariants.{Refused, Memory}
use Rattle.model.specs.Line.{Coupling}
use Rattle.task.specs.Views.{line_of}
use Rattle.task.specs.declared.task.Task.{Task}
use Rattle.sequencer.specs.Joint.{Verdict, Filed}
use Rattle.sequencer.proofs.joint.judge_joint.Goals as goal

-- the verdict on a task that was read is one on its file
filed : (K : Coupling) (task plan : List ℕ) (t : Task) (r : Result (Unit {0}) Fault) → Verdict (line_of t) K plan r → Filed K task plan r
filed K task plan t (Ok u) v = (t, v)
filed K task plan t (Err (Refused e)) v = inr (t, v)
filed K task plan t (Err Memory) v = tt

pub returns-clause-filed : goal.returns-clause-filed
returns-clause-filed g c = filed (g.C.Coupling.relations c.args.coupling.now) c.args.task.now c.args.plan.now c.in_ok-read.read c.judge_joint_plan.result c.judge_joint_plan.ensures
