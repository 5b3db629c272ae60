use Rattle.std.proofs.Common.{rules, tests}
use Rattle.model.proofs.Counted.{any_below}
use Rattle.step.proofs.joint.some_unready.Goals as goal

pub returns : goal.returns
returns c = any_below _ _ _ _ _ _ c.moves.ensures.value c.any.ensures.ran (λ x b q k. search (rules, tests))
