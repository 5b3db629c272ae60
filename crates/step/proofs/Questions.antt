-- Do the results of a step agree, and what does it leave? Assumes nothing.
use Rattle.std.proofs.Common.{◌≡◌, ℕ, Bool, ◌∙◌, ap₂, arith}
use mathlib.Core.Path.{fun_ext}
use Rattle.model.specs.Sets.{Set, any, meet, either, minus}
use Rattle.model.specs.Line.{Line}
use Rattle.model.specs.Joint.{made, unmade, torn, after}

module _ (L : Line) (s S m u : Set) (made_is : m ≡ made L s S) (unmade_is : u ≡ unmade L s S) where
  pub torn_is : (b : Bool) (n : ℕ) (both : Set) → b ≡ any n both → n ≡ L.fluents → both ≡ meet m u → b ≡ torn L s S
  torn_is b n both e fluents meets = e ∙ ap₂ any fluents (meets ∙ ap₂ meet made_is unmade_is)

  -- the old fluents less those made false, with those made true
  pub after_is : (d t : Set) → d ≡ minus s u → t ≡ either d m → t ≡ after L s S
  after_is d t less more = rw (more, less, unmade_is, made_is) (fun_ext (λ k. grind arith))
