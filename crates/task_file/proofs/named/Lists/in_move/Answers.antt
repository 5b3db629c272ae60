use Rattle.std.proofs.Common.{refl}
use Rattle.std.proofs.lemmas.Bool.{and_from}
use Rattle.task_file.proofs.Fits.{need_stands, companion_stands, no_effect_fits}
use Rattle.task_file.proofs.Taken.{after_move}
use Rattle.task_file.proofs.named.Lists.in_move.Goals as goal

pub returns-in_ok-current-in-Need-clause-standing : goal.returns-in_ok-current-in-Need-clause-standing
returns-in_ok-current-in-Need-clause-standing c =
    let z = c.args.self.now.sizes in
    need_stands z.stations z.fluents z.moves c.args.current c.requires c.in-Need.literal c.args.place _ c.in_ok-current-in-Need.ensures

pub returns-in_ok-current-in-With-clause-standing : goal.returns-in_ok-current-in-With-clause-standing
returns-in_ok-current-in-With-clause-standing c =
    let z = c.args.self.now.sizes in
    companion_stands z.stations z.fluents z.moves c.args.current c.requires c.in-With.literal c.args.place _ c.in_ok-current-in-With.ensures

pub returns-in-Effect-clause-standing : goal.returns-in-Effect-clause-standing
returns-in-Effect-clause-standing c = and_from _ _ c.requires (no_effect_fits _ _ _ c.empty.ensures)

pub returns-in-Effect-clause-took : goal.returns-in-Effect-clause-took
returns-in-Effect-clause-took c = rw (c.in-Effect.is, c.empty.ensures) refl

pub returns-in_ok-add_move-in-Move-clause-took : goal.returns-in_ok-add_move-in-Move-clause-took
returns-in_ok-add_move-in-Move-clause-took c = rw (after_move _ _ _ c.in-Move.is _ _ c.in_ok-add_move-in-Move.ensures.joined) c.in_lists.ensures.took
