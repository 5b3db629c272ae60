-- The questions of a step's operands, asked of all of them in turn. Assumes nothing.
use Rattle.std.proofs.Common.{◌≡◌, ℕ, ◌+◌, ◌&&◌, ◌||◌, eqb, ltb, List, [], ◌∷◌, refl, ap}
use Rattle.std.specs.List.{list_all, enumerate_from}
use Rattle.model.specs.Line.{Line}
use Rattle.plan.specs.Form.{ranged, own, placed}

pub ranged_all : (m : ℕ) (bs : List ℕ) → list_all (λ b. eqb b 255 || ltb b m) bs ≡ ranged m bs
ranged_all m [] = refl
ranged_all m (b ∷ bs) = ap (λ x. (eqb b 255 || ltb b m) && x) (ranged_all m bs)

pub placed_all : (L : Line) (i : ℕ) (bs : List ℕ) → list_all (λ p. own L p.0 p.1) (enumerate_from i bs) ≡ placed L i bs
placed_all L i [] = refl
placed_all L i (b ∷ bs) = ap (λ x. own L i b && x) (placed_all L (i + 1) bs)
