use Rattle.std.proofs.Common.{rules}
use Rattle.std.proofs.lemmas.Result.{err_from_is_err_and}
use Rattle.world.proofs.Walks.{leads_more, goes, stops}
use Rattle.world.proofs.run.Goals as goal

pub loop-i-preserved : goal.loop-i-preserved
loop-i-preserved g c =
    leads_more _ _ _ _ _ _ _ c.loop-i-test.true c.index-steps-i.is c.loop-i.invariant (goes (g.W.World.leads c.args.world.now) (g.W.World.model c.loop-i.state) (g.W.World.model c.perform.new.state) c.index-steps-i.result c.perform.result c.perform.ensures c.in_ok-map_err.ensures.variant)

pub returns-in_err-map_err : goal.returns-in_err-map_err
returns-in_err-map_err g c =
    let p = err_from_is_err_and c.from_residual.result c.from_residual.ensures.1 in
    rw (p.1, p.2)
    (stops _ _ _ _ c.loop-i.i-counter _ _ c.perform.result _ _ c.loop-i-test.true c.index-steps-i.is c.loop-i.invariant c.perform.ensures c.in_err-map_err.ensures.cases (λ e k. search rules))
