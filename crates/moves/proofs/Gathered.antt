-- The results of triggered effects, gathered one effect at a time: `all` holds those so far, `rest` is what is left of
-- the list. Assumes nothing.
use Rattle.std.proofs.Common.{◌≡◌, true, false, List, ◌∷◌, map}
use Rattle.model.specs.Sets.{Set, Literals, both}
use Rattle.model.specs.Task.{triggered, results}
use Rattle.moves.specs.Parts.{effect_of}
use Rattle.moves.specs.declared.parts.Effect.{Effect}
use Rattle.moves.proofs.Lits.{both_assoc}

module _ (s S : Set) where
  pub effects_more : (all all' : Literals) (rest rest' : List Effect) (e : Effect) (whole : Literals)
      → both all (results (map effect_of rest) s S) ≡ whole → rest ≡ e ∷ rest'
      → true ≡ triggered (effect_of e) s S → all' ≡ both all (effect_of e).results
      → both all' (results (map effect_of rest') s S) ≡ whole
  effects_more all all' rest rest' e whole inv step test more = rw (more, both_assoc) (rw (step, ← test) at inv)

  pub effects_skip : (all : Literals) (rest rest' : List Effect) (e : Effect) (whole : Literals)
      → both all (results (map effect_of rest) s S) ≡ whole → rest ≡ e ∷ rest'
      → false ≡ triggered (effect_of e) s S
      → both all (results (map effect_of rest') s S) ≡ whole
  effects_skip all rest rest' e whole inv step test = rw (step, ← test) at inv
