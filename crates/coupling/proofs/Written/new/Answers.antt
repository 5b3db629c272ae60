use Rattle.std.proofs.Common.{ℕ, true, false, Ok, refl, ap, arith, rules, tests}
use Rattle.std.proofs.lemmas.List.{get_or_past}
use Rattle.std.proofs.lemmas.Iterator.{YieldsList-from_range, YieldsList-from_map_by}
use Rattle.std.proofs.lemmas.Iterator.Consumers.{YieldsList-at, map_from_collect}
use Rattle.model.specs.Sets as model
use Rattle.model.specs.Task.{move_at, no_move}
use Rattle.moves.specs.Lists.{literals_of}
use Rattle.task.specs.Views.{task_of}
use Rattle.coupling.proofs.Table.{rows_are}
use Rattle.coupling.proofs.Written.new.Goals as goal

pub returns : goal.returns
returns c =
    let ms = (task_of c.args.task.now).moves in
    let f : ℕ → model.Literals = λ k. (move_at ms k).companions in
    let numbers = YieldsList-from_range 0 c.moves.result c.moves.result refl (omega arith) in
    let filled = map_from_collect {E = Unit {0}} (Ok c.in_ok-rows.rows) c.in_ok-rows.ensures.ran
    (YieldsList-from_map_by _ literals_of f (YieldsList-at c.map.ensures.source numbers) c.map.ensures.closure (λ x r q k. search (rules, tests))) in
    let all = rows_are f c.moves.result _ filled (λ k h. ap (λ m. m.companions) (get_or_past ms k no_move (omega arith))) in
    λ i. record { needs = λ a. all a i true; bars = λ a. all a i false }
