use Rattle.std.proofs.Common.{◌≡◌, map, drop, vec_items}
use Rattle.model.specs.Sets.{both}
use Rattle.model.specs.Task.{results}
use Rattle.sets.specs.Members.{members}
use Rattle.moves.specs.Lists.{literals_of}
use Rattle.moves.specs.Parts.{effect_of}
use Rattle.moves.proofs.parts.Move.results.Given as goal

-- what is gathered so far, and what the effects left would add, is the whole
abbrev pub invariant-loop-effect : goal.invariant-loop-effect
invariant-loop-effect l =
    let s = members l.context.line in
    let S = members l.context.moves in
    both (literals_of l.all) (results (map effect_of (drop l.effect-index l.effect-items)) s S) ≡ results (map effect_of (vec_items l.self.effects)) s S
