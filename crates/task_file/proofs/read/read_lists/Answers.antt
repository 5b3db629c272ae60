use Rattle.std.proofs.Common.{length, Err, refl, sym, ap, ◌∙◌, arith, true-eqb, false-eqb}
use Rattle.task_form.proofs.Walks.{over, none_left, stops_first, stops_next, goes_on, no_first, wrong_first, begins_on, form_from, over_limit}
use Rattle.task_file.specs.Views.{named_of, stage_of}
use Rattle.task_file.proofs.Endings.{refuses, fails, ends_open}
use Rattle.task_file.proofs.read.read_lists.Goals as goal

pub returns-then-is_too_long-clause-exact : goal.returns-then-is_too_long-clause-exact
returns-then-is_too_long-clause-exact c = rw c.into.ensures (over_limit c.args.file.now _ c.if-is_too_long.true c.at.ensures)

pub returns-in_err-command-clause-exact : goal.returns-in_err-command-clause-exact
returns-in_err-command-clause-exact c =
    refuses c.args.file.now c.if-is_too_long.false _ _ c.from_residual.ensures.1 (no_first c.args.file.now _ c.in_err-command.ensures.value)

pub returns-in_err-lists-clause-exact : goal.returns-in_err-lists-clause-exact
returns-in_err-lists-clause-exact c =
    let got = c.in_ok-command.ensures in
    refuses c.args.file.now c.if-is_too_long.false _ _ c.from_residual-in_err-lists.ensures.1
    (wrong_first c.args.file.now _ _ got.value got.shorter _ (sym c.in_err-lists.ensures.value))

pub loop-rest-init : goal.loop-rest-init
loop-rest-init c =
    let got = c.in_ok-command.ensures in
    record { left = omega (arith, got.shorter); fits = refl; going = begins_on c.args.file.now _ _ got.value got.shorter _ (sym c.in_ok-lists.ensures.value) }

pub returns-in_err-command-2-clause-exact : goal.returns-in_err-command-2-clause-exact
returns-in_err-command-2-clause-exact c =
    refuses c.args.file.now c.if-is_too_long.false _ _ c.from_residual-in_err-command-2.ensures.1
    (stops_first _ _ _ _ _ c.loop-rest.invariant.going _ (omega (arith, false-eqb _ 0 c.loop-rest-test.ensures)) c.in_err-command-2.ensures.value)

pub returns-in_err-part-clause-exact : goal.returns-in_err-part-clause-exact
returns-in_err-part-clause-exact c =
    let got = c.in_ok-command-2.ensures in
    fails c.args.file.now c.if-is_too_long.false _ _ _ c.from_residual-in_err-part.ensures.1 c.in_err-part.ensures.took
    (stops_next _ _ _ _ _ c.loop-rest.invariant.going _ _ got.value got.shorter)

pub loop-rest-preserved : goal.loop-rest-preserved
loop-rest-preserved c =
    let got = c.in_ok-command-2.ensures in
    record { left = omega (arith, got.shorter); fits = c.in_ok-part.ensures.standing; going = goes_on _ _ _ _ _ c.loop-rest.invariant.going _ _ got.value got.shorter _ _ c.in_ok-part.ensures.took }

pub returns-in_default-clause-exact : goal.returns-in_default-clause-exact
returns-in_default-clause-exact c =
    let done = none_left _ _ _ _ _ c.loop-rest.invariant.going (true-eqb _ 0 c.loop-rest-test.ensures) in
    rw c.into-in_default.ensures
    (form_from c.args.file.now _ c.if-is_too_long.false (done ∙ ends_open c.loop-rest.part _ _ c.in_default.not-Ended ∙ ap Err (sym c.at-in_default.ensures)))

pub returns-clause-exact : goal.returns-clause-exact
returns-clause-exact c =
    let done = none_left _ _ _ _ _ c.loop-rest.invariant.going (true-eqb _ 0 c.loop-rest-test.ensures) in
    let last = c.loop-rest in (
      form_from c.args.file.now _ c.if-is_too_long.false (done ∙ ap (λ x. over (stage_of x) (length c.args.file.now) (named_of last.lists)) c.in-Ended.is),
      true-eqb _ _ (sym (rw c.in-Ended.is at last.invariant.fits)),
    )
