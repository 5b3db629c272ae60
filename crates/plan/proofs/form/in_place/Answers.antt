use Rattle.std.proofs.Common.{ℕ, rules, tests, ◌∙◌}
use Rattle.std.proofs.lemmas.Iterator.{YieldsList-from_slice}
use Rattle.std.proofs.lemmas.Iterator.Consumers.{YieldsList-from_enumerate, YieldsList-at}
use Rattle.std.proofs.lemmas.Iterator.Search.{all_from_yields_List}
use Rattle.task.specs.Views.{line_of}
use Rattle.plan.specs.Form.{own}
use Rattle.plan.proofs.Operands.{placed_all}
use Rattle.plan.proofs.form.in_place.Goals as goal

pub returns : goal.returns
returns c =
    all_from_yields_List (λ (p : ℕ × ℕ). own (line_of c.args.task.now) p.0 p.1) _ _ _ c.all.ensures.ran
    (YieldsList-from_enumerate (YieldsList-at c.enumerate.ensures.source (YieldsList-from_slice c.args.operands.now cc)) c.enumerate.ensures.count) (λ x b q k. search (rules, tests))
    ∙ placed_all (line_of c.args.task.now) 0 c.args.operands.now
