use Rattle.std.proofs.Common.{refl, sym, ap, ◌∙◌}
use Rattle.std.proofs.lemmas.List.{drop_more, drop_all}
use Rattle.moves.specs.Lists.{literals_of}
use Rattle.moves.proofs.Lits.{both_none}
use Rattle.moves.proofs.Gathered.{effects_more, effects_skip}
use Rattle.moves.proofs.parts.Move.results.Goals as goal
use Rattle.moves.proofs.parts.Move.results.Goals.{then-triggered, else-triggered}

pub loop-effect-init : goal.loop-effect-init
loop-effect-init c = rw (c.empty-all.ensures, c.deref-effect-items.ensures.value) refl

pub loop-effect-preserved : goal.loop-effect-preserved
loop-effect-preserved c =
    elim c.if-triggered.branch [
      | then-triggered w ↦
          effects_more _ _ _ _ _ _ _ _ c.loop-effect.invariant (drop_more _ _ _ c.loop-effect-test.true) (sym w.if-triggered.true ∙ c.triggered.ensures)
          (ap literals_of w.all-is ∙ w.union-all.ensures)
      | else-triggered w ↦
          rw w.all-is (effects_skip _ _ _ _ _ _ _ c.loop-effect.invariant (drop_more _ _ _ c.loop-effect-test.true) (sym w.if-triggered.false ∙ c.triggered.ensures))
    ]

pub returns : goal.returns
returns c = sym (both_none _) ∙ (rw (drop_all c.loop-effect.effect-index c.deref-effect-items.result.now c.loop-effect-test.false) at c.loop-effect.invariant)
