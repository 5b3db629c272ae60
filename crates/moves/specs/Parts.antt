-- What the code's moves and effects stand for. Assumes nothing.
use Rattle.std.specs.Prelude.{◌≡◌, [], ◌∷◌, ◌++◌, map, vec_items}
use Rattle.model.specs.Task as model
use Rattle.moves.specs.Lists.{literals_of}
use Rattle.moves.specs.declared.parts.Effect.{Effect}
use Rattle.moves.specs.declared.parts.Move.{Move}

abbrev pub effect_of : Effect → model.Effect
effect_of e = record { conditions = literals_of e.conditions; alongside = literals_of e.alongside; results = literals_of e.results }

abbrev pub move_of : Move → model.Move
move_of m = record {
  station = m.station;
  needs = literals_of m.needs;
  companions = literals_of m.companions;
  effects = map effect_of (vec_items m.effects);
}

-- w is the move v with the effect e after its others
abbrev pub Extends : Move → Effect → Move → Type 0
Extends v e w =
    (w.station ≡ v.station) × (w.needs ≡ v.needs) × (w.companions ≡ v.companions) × (vec_items w.effects ≡ vec_items v.effects ++ (e ∷ []))
