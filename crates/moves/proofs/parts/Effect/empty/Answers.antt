use Rattle.moves.proofs.parts.Effect.empty.Goals as goal

pub returns : goal.returns
returns c = λ i. record { conditions = c.empty.ensures i; alongside = c.empty-2.ensures i; results = c.empty-3.ensures i }
