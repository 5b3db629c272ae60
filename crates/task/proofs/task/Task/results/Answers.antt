use Rattle.std.proofs.Common.{rules, ap, true, false}
use Rattle.model.specs.Task.{results}
use Rattle.sets.specs.Members.{members}
use Rattle.moves.specs.Lists.{literals_of}
use Rattle.task.specs.Views.{task_of}
use Rattle.task.proofs.Looked.{looked}
use Rattle.task.proofs.task.Task.results.Goals as goal

pub returns : goal.returns
returns c =
    let e = looked (λ m. results m.effects (members c.args.context.line) (members c.args.context.moves)) literals_of (task_of c.args.self.now).moves c.args.a _ _ c.get.result _ c.get.ensures c.map_or.ensures c.empty.ensures (λ m p. search rules) in
    record { sets = ap (λ l. l true) e; clears = ap (λ l. l false) e }
