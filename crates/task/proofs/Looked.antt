-- A move that is looked up in a task is the one of its line. Assumes nothing.
use Rattle.std.proofs.Common.{◌≡◌, ℕ, ◌<◌, ◌≤◌, true, List, map, length, Some, None, Option, sym, refl, ap, ◌∙◌, arith, Bor, MatchOption}
use lib.ListN.{length-map}
use Rattle.std.specs.Slice.{IsGetResult}
use Rattle.std.proofs.lemmas.List.{get_or-map, get_or_past}
use Rattle.std.proofs.lemmas.Bool.{and_from}
use Rattle.model.specs.Sets.{Set, none, no_literals, holds}
use Rattle.model.specs.Task as model
use Rattle.model.specs.Task.{move_at, no_move}
use Rattle.sets.proofs.Laws.{none_subset, decides_apart}
use Rattle.moves.specs.Parts.{move_of}
use Rattle.moves.specs.declared.parts.Move.{Move}

pub holds_none : (s : Set) → holds no_literals s ≡ true
holds_none s = and_from _ _ (none_subset s) ((decides_apart s none).1 (λ k l e. refl))

-- what a lookup in the task's list finds
pub found_move : (ms vs : List Move) (a : ℕ) (r : Option (Bor Move)) → vs ≡ ms → IsGetResult vs a a r
    → MatchOption r (length (map move_of ms) ≤ a) (λ m. (a < length (map move_of ms)) × (move_of m.now ≡ move_at (map move_of ms) a))
found_move ms vs a None e item = rw (← e) (omega (arith, item.3, length-map vs move_of))
found_move ms vs a (Some x) e item = rw (← e) (omega (arith, item.3.0, length-map vs move_of), ap move_of item.1 ∙ sym (get_or-map move_of vs a x.now _ item.3.0))

-- what a call v says of the move that is looked up, or of no move, it says of the move of the line
module _ {X R : Type 0} (f : model.Move → X) (see : R → X) (ms : List model.Move) (a : ℕ) (v d : R) where
  pub looked : (o : Option (Bor Move)) (post : Bor Move → Type 0) → MatchOption o (length ms ≤ a) (λ m. (a < length ms) × (move_of m.now ≡ move_at ms a))
      → MatchOption o (v ≡ d) post → see d ≡ f no_move → ((m : Bor Move) → post m → see v ≡ f (move_of m.now)) → see v ≡ f (move_at ms a)
  looked None post past e default_is one = ap see e ∙ default_is ∙ sym (ap f (get_or_past ms a no_move past))
  looked (Some m) post found e default_is one = one m e ∙ ap f found.1
