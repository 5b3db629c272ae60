use Rattle.task.proofs.task.Task.met.Goals as goal

pub returns : goal.returns
returns c = cc
