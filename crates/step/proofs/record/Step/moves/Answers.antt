use Rattle.std.proofs.Common.{ap, ◌∙◌, refl, rules}
use Rattle.sets.specs.Members.{members}
use Rattle.step.proofs.Gathering.{named_more, named_skip}
use Rattle.step.proofs.record.Step.moves.Goals.{then-a-lt128, else-a-lt128}
use Rattle.step.proofs.record.Step.moves.Goals as goal

pub loop-a-init : goal.loop-a-init
loop-a-init c = rw c.empty-all.ensures refl

pub loop-a-preserved : goal.loop-a-preserved
loop-a-preserved c =
    let bs = c.args.self.now.operands in
    elim c.if-a-lt128.branch [
      | then-a-lt128 w ↦ named_more bs c.loop-a.a-index (search rules) _ _ c.loop-a.invariant _ w.if-a-lt128.true (ap members w.all-is ∙ w.insert-all.ensures)
      | else-a-lt128 w ↦ named_skip bs c.loop-a.a-index (search rules) _ _ c.loop-a.invariant _ w.if-a-lt128.false (ap members w.all-is)
    ]
