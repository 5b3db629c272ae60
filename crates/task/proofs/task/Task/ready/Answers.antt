use Rattle.std.proofs.Common.{rules, sym}
use Rattle.model.specs.Sets.{holds}
use Rattle.sets.specs.Members.{members}
use Rattle.task.specs.Views.{task_of}
use Rattle.task.proofs.Looked.{looked, holds_none}
use Rattle.task.proofs.task.Task.ready.Goals as goal

pub returns : goal.returns
returns c = looked (λ m. holds m.needs (members c.args.line)) (λ b. b) (task_of c.args.self.now).moves c.args.a _ _ c.get.result _ c.get.ensures c.is_none_or.ensures (sym (holds_none (members c.args.line))) (λ m p. search rules)
