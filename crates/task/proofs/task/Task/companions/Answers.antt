use Rattle.std.proofs.Common.{rules}
use Rattle.moves.specs.Lists.{literals_of}
use Rattle.task.specs.Views.{task_of}
use Rattle.task.proofs.Looked.{looked}
use Rattle.task.proofs.task.Task.companions.Goals as goal

pub returns : goal.returns
returns c = looked (λ m. m.companions) literals_of (task_of c.args.self.now).moves c.args.a _ _ c.get.result _ c.get.ensures c.map_or.ensures c.empty.ensures (λ m p. search rules)
