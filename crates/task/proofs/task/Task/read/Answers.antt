-- The file that was read denotes the task, and so the laws of task files hold.
use Rattle.std.proofs.Common.{ℕ, List, Ok, Err, arith}
use Rattle.std.proofs.lemmas.Result.{err_from_is_err_and}
use Rattle.refusals.specs.declared.Fault.{Fault}
use Rattle.refusals.specs.declared.Fault.TheVariants.{Refused, Memory}
use Rattle.task_form.specs.Form.{form}
use Rattle.task_form.proofs.Lawful.{lawful}
use Rattle.task_file.specs.Views.{task_in, Reads}
use Rattle.task.specs.Views.{Texts}
use Rattle.task.proofs.task.Task.read.Goals as goal

no_text : (bs : List ℕ) (e : Fault) → Reads (form bs) (Err e) → Texts bs (Err e)
no_text bs (Refused e) h = (lawful bs (Err e) h).0
no_text bs Memory h = tt

pub returns-in_err-lists-clause-text : goal.returns-in_err-lists-clause-text
returns-in_err-lists-clause-text c =
    let p = err_from_is_err_and c.from_residual.result c.from_residual.ensures.1 in
    rw (p.1, p.2) (no_text c.args.file.now c.in_err-lists.field-0.0 c.in_err-lists.ensures.exact)

pub returns : goal.returns
returns c =
    let got = c.in_ok-lists.ensures.exact.0 in
    let all = lawful c.args.file.now (Ok (task_in c.in_ok-lists.lists)) got in
    record { exact = got; text = all.0; bounded = all.1; sound = all.2; carried = (all.3, omega (arith, all.3, all.0.small)); placed = c.in_ok-lists.ensures.placed.1 }
