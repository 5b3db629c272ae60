use Rattle.std.proofs.Common.{Err, ap, ◌∙◌, inl, rules}
use Rattle.std.proofs.lemmas.Result.{err_from_is_err_and}
use Rattle.world.proofs.Walks.{judged_end, judged_err}
use Rattle.world.proofs.judge.Goals as goal

pub returns-in_err-state : goal.returns-in_err-state
returns-in_err-state g c =
    let p = err_from_is_err_and c.from_residual.result c.from_residual.ensures.1 in
    rw (p.1, p.2) (judged_err _ _ _ _ _ (inl c.in_err-state.ensures))

pub returns : goal.returns
returns g c = judged_end _ _ _ _ _ c.goal.result c.map_err.result _ c.in_ok-state.ensures c.goal.ensures c.map_err.ensures.cases (λ e k. let p = err_from_is_err_and c.map_err.result k in p.1 ∙ ap Err (let told = p.2 in search rules))
