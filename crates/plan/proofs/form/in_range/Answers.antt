use Rattle.std.proofs.Common.{rules, tests}
use Rattle.std.proofs.lemmas.Iterator.{YieldsList-from_slice}
use Rattle.std.proofs.lemmas.Iterator.Search.{all_from_yields_List}
use Rattle.plan.proofs.Operands.{ranged_all}
use Rattle.plan.proofs.form.in_range.Goals as goal

pub returns : goal.returns
returns c = rw (← ranged_all c.args.moves c.args.operands.now) (all_from_yields_List _ _ _ _ c.all.ensures.ran (YieldsList-from_slice c.args.operands.now cc) (λ x b q k. search (rules, tests)))
