use Rattle.std.proofs.Common.{refl}
use Rattle.task_form.specs.Form.{form}
use Rattle.worked_examples.proofs.tray_lift.Goals as goal

pub returns : goal.returns
unfolding form
returns c = refl
