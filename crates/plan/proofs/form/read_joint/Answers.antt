use Rattle.std.proofs.Common.{map, vec_items, ap, ◌∙◌, arith, true-eqb, false-eqb}
use Rattle.std.proofs.lemmas.List.{map_push}
use Rattle.std.proofs.lemmas.Result.{err_from_is_err_and}
use Rattle.task.specs.Views.{line_of}
use Rattle.step.specs.Views.{operands_of}
use Rattle.plan.proofs.Walks.{all_left, none_left, stops_first, stops_step, goes_on, form_from, over_limit}
use Rattle.plan.proofs.form.read_joint.Goals as goal

pub returns-then-file-gt-LIMIT : goal.returns-then-file-gt-LIMIT
returns-then-file-gt-LIMIT c = rw c.into.ensures (over_limit (line_of c.args.task.now) c.args.file.now _ c.if-file-gt-LIMIT.true c.at.ensures)

pub loop-rest-init : goal.loop-rest-init
loop-rest-init c = (omega arith, all_left _ _ _ (ap (map operands_of) c.new-steps.ensures.items))

-- no command: the walk stops there
pub returns-in_err-command : goal.returns-in_err-command
returns-in_err-command c =
    let L = line_of c.args.task.now in
    let p = err_from_is_err_and c.from_residual.result c.from_residual.ensures.1 in
    let stop = stops_first L _ _ _ _ c.loop-rest.invariant.1 _ (omega (arith, false-eqb _ 0 c.loop-rest-test.ensures)) c.in_err-command.ensures.value in
    rw (p.1, p.2) (form_from L c.args.file.now _ (omega arith) stop)

-- the operands of the step are refused
pub returns-in_err-read_step : goal.returns-in_err-read_step
returns-in_err-read_step c =
    let L = line_of c.args.task.now in
    let p = err_from_is_err_and c.from_residual-in_err-read_step.result c.from_residual-in_err-read_step.ensures.1 in
    let got = c.in_ok-command.ensures in
    let stop = stops_step L _ _ _ _ c.loop-rest.invariant.1 _ _ got.value got.shorter _ c.in_err-read_step.ensures in
    rw (p.1, p.2) (form_from L c.args.file.now _ (omega arith) stop)

pub loop-rest-preserved : goal.loop-rest-preserved
loop-rest-preserved c =
    let L = line_of c.args.task.now in
    let got = c.in_ok-command.ensures in (
      omega arith,
      goes_on L _ _ _ _ c.loop-rest.invariant.1 _ _ got.value got.shorter _ _ c.in_ok-read_step.ensures
          (ap (map operands_of) c.in_ok-push.ensures.items ∙ map_push operands_of (vec_items c.loop-rest.steps) _),
    )

pub returns : goal.returns
returns c =
    let L = line_of c.args.task.now in
    let done = none_left L _ _ _ _ c.loop-rest.invariant.1 (true-eqb _ 0 c.loop-rest-test.ensures) in
    form_from L c.args.file.now _ (omega arith) done
