use Rattle.std.proofs.Common.{rules}
use Rattle.std.proofs.lemmas.Bool.{and_from}
use Rattle.task_file.proofs.Fits.{grown_fits, grown_stands, move_now_stands, effect_now_fits, condition_fits, alongside_fits, result_fits}
use Rattle.task_file.proofs.Taken.{after_effect, effects_more}
use Rattle.task_file.proofs.named.Lists.in_effect.Goals as goal

pub add_move-requires : goal.add_move-requires
add_move-requires c =
    let z = c.args.self.now.sizes in
    grown_fits z.stations z.fluents z.moves c.args.current c.args.effect c.requires c.in_ok-complete-in-Move.complete c.in_ok-complete-in-Move.ensures

pub returns-in_ok-add_move-in-Move-clause-took : goal.returns-in_ok-add_move-in-Move-clause-took
returns-in_ok-add_move-in-Move-clause-took c =
    rw (after_effect _ _ _ c.in-Move.is _ c.args.current c.args.effect c.in_ok-complete-in-Move.complete c.in_ok-complete-in-Move.ensures c.in_ok-add_move-in-Move.ensures.joined)
    c.in_lists.ensures.took

pub returns-in_ok-with_effect-in-Effect-2-clause-standing : goal.returns-in_ok-with_effect-in-Effect-2-clause-standing
returns-in_ok-with_effect-in-Effect-2-clause-standing c =
    let z = c.args.self.now.sizes in
    grown_stands z.stations z.fluents z.moves c.args.current c.args.effect c.requires c.in_ok-with_effect-in-Effect-2.field-0 c.in_ok-with_effect-in-Effect-2.ensures _ (search rules) c.empty.ensures

pub returns-in_ok-with_effect-in-Effect-2-clause-took : goal.returns-in_ok-with_effect-in-Effect-2-clause-took
returns-in_ok-with_effect-in-Effect-2-clause-took c =
    rw c.in-Effect-2.is
    (effects_more _ c.args.current c.args.effect c.in_ok-with_effect-in-Effect-2.field-0 c.empty.result _ c.in_ok-with_effect-in-Effect-2.ensures c.empty.ensures (search rules))

pub returns-in_ok-effect-in-If-clause-standing : goal.returns-in_ok-effect-in-If-clause-standing
returns-in_ok-effect-in-If-clause-standing c =
    let z = c.args.self.now.sizes in
    let same = move_now_stands z.stations z.fluents z.moves c.args.current c.args.effect c.requires in
    let fits = effect_now_fits z.stations z.fluents z.moves c.args.current c.args.effect c.requires in
    and_from _ _ same (condition_fits z.fluents z.moves c.args.effect fits c.in-If.literal c.args.place _ c.in_ok-effect-in-If.ensures)

pub returns-in_ok-effect-in-IfMove-clause-standing : goal.returns-in_ok-effect-in-IfMove-clause-standing
returns-in_ok-effect-in-IfMove-clause-standing c =
    let z = c.args.self.now.sizes in
    let same = move_now_stands z.stations z.fluents z.moves c.args.current c.args.effect c.requires in
    let fits = effect_now_fits z.stations z.fluents z.moves c.args.current c.args.effect c.requires in
    and_from _ _ same (alongside_fits z.fluents z.moves c.args.effect fits c.in-IfMove.literal c.args.place _ c.in_ok-effect-in-IfMove.ensures)

pub returns-in_ok-effect-in-Then-clause-standing : goal.returns-in_ok-effect-in-Then-clause-standing
returns-in_ok-effect-in-Then-clause-standing c =
    let z = c.args.self.now.sizes in
    let same = move_now_stands z.stations z.fluents z.moves c.args.current c.args.effect c.requires in
    let fits = effect_now_fits z.stations z.fluents z.moves c.args.current c.args.effect c.requires in
    and_from _ _ same (result_fits z.fluents z.moves c.args.effect fits c.in-Then.literal c.args.place _ c.in_ok-effect-in-Then.ensures)
