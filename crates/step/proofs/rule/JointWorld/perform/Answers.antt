use Rattle.std.proofs.Common.{refl}
use Rattle.std.proofs.lemmas.Result.{err_from_is_err_and}
use Rattle.sets.specs.Members.{members}
use Rattle.task.specs.Views.{line_of}
use Rattle.step.proofs.Leading.{leads_on, leads_off}
use Rattle.step.proofs.rule.JointWorld.perform.Goals as goal

pub returns-in_err-state : goal.returns-in_err-state
returns-in_err-state g c =
    let w = c.args.self.now in
    let p = err_from_is_err_and c.from_residual.result c.from_residual.ensures.1 in
    rw (p.1, p.2)
    (leads_off (line_of w.task.now) (g.C.Coupling.relations w.coupling.now) (members c.args.state.now) (members c.moves.result) _ c.moves.ensures _ c.in_err-state.ensures, refl {a = members c.args.state.now})

pub returns : goal.returns
returns g c =
    let w = c.args.self.now in
    leads_on (line_of w.task.now) (g.C.Coupling.relations w.coupling.now) (members c.args.state.now) (members c.moves.result) _ c.moves.ensures c.in_ok-state.field-0 c.in_ok-state.ensures
