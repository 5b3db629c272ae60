use Rattle.std.proofs.Common.{map, Ok, sym, ap, ◌∙◌, inr}
use Rattle.std.proofs.lemmas.Result.{err_from_is_err_and}
use Rattle.task.specs.Views.{line_of}
use Rattle.step.specs.Operands.{named}
use Rattle.step.specs.Views.{operands_of}
use Rattle.step.specs.Joint.{joint_leads, joint_ends}
use Rattle.sequencer.proofs.Leading.{judged_map}
use Rattle.sequencer.proofs.joint.judge_joint_plan.Goals as goal

pub returns-in_err-judge_steps : goal.returns-in_err-judge_steps
returns-in_err-judge_steps g c =
    let L = line_of c.args.task.now in
    let K = g.C.Coupling.relations c.args.coupling.now in
    let p = err_from_is_err_and c.from_residual-in_err-judge_steps.result c.from_residual-in_err-judge_steps.ensures.1 in
    rw (p.1, p.2)
    (inr (_, c.in_ok-steps.ensures ∙ ap (λ xs. Ok (map operands_of xs)) (sym c.deref.ensures.value), judged_map (λ s row. joint_leads L K s (named row)) operands_of (joint_ends L) L.start _ _ c.in_err-judge_steps.ensures))

pub returns : goal.returns
returns g c =
    let L = line_of c.args.task.now in
    let K = g.C.Coupling.relations c.args.coupling.now in
    (_, c.in_ok-steps.ensures ∙ ap (λ xs. Ok (map operands_of xs)) (sym c.deref.ensures.value), judged_map (λ s row. joint_leads L K s (named row)) operands_of (joint_ends L) L.start _ _ c.in_ok-judge_steps.ensures)
