-- What the code holds after a command is what the definitions say. Assumes nothing.
use Rattle.std.proofs.Common.{◌⊎◌, inl, inr, ◌≡◌, ℕ, ◌+◌, ◌<◌, Bool, true, false, cond, ◌&&◌, List, [], map, length, Ok, vec_items, vec_len, Result, sym, ap, ◌∙◌, add-one, arith, lt-ltb}
use lib.ListN.{length-map}
use Rattle.std.proofs.lemmas.List.{map_push}
use Rattle.refusals.specs.declared.Question.TheVariants as Q
use Rattle.refusals.specs.declared.Refusal.{Refusal}
use Rattle.refusals.specs.Answers.{refused}
use Rattle.model.specs.Sets.{Set, Literals, none, no_literals}
use Rattle.model.specs.Task as model
use Rattle.model.specs.Task.{no_effect}
use Rattle.moves.specs.Lists.{literals_of}
use Rattle.moves.specs.Parts.{effect_of, move_of, Extends}
use Rattle.moves.specs.declared.parts.Effect.{Effect}
use Rattle.moves.specs.declared.parts.Move.{Move}
use Rattle.task_command.specs.declared.command.Command.{Command}
use Rattle.task_command.specs.declared.command.Command.TheVariants as C
use Rattle.task_form.specs.Denoted.{Counts}
use Rattle.task_form.specs.Questions.{up_to}
use Rattle.task_form.specs.Reading.{Named, move, effect, with_move, with_effect, first_named, begins, in_lists, in_move, in_effect}
use Rattle.task_file.specs.Views.{named_of, sized}
use Rattle.task_file.specs.declared.named.Lists.{Lists}

pub moves_counted : (l : Lists) → length (named_of l).moves ≡ vec_len l.moves
moves_counted l = length-map (vec_items l.moves) move_of ∙ sym l.moves.ok.0

-- a move that has just begun
pub begins_new : (l : Lists) (s p : ℕ) (a b : Literals) (es : List Effect) → vec_len l.moves < l.sizes.moves → s < l.sizes.stations
    → a ≡ no_literals → b ≡ no_literals → es ≡ []
    → begins (named_of l) s p ≡ Ok (named_of l, move (record { station = s; needs = a; companions = b; effects = map effect_of es }))
begins_new l s p a b es few at x y z =
    rw (moves_counted l, lt-ltb (vec_len l.moves) l.sizes.moves few, lt-ltb s l.sizes.stations at, x, y, z)

-- a move with one effect more, and the lists with one move more
pub extends_means : (v : Move) (e : Effect) (w : Move) → Extends v e w → move_of w ≡ with_effect (move_of v) (effect_of e)
extends_means v e w g =
    (λ i. record { station = g.0 i; needs = literals_of (g.1 i); companions = literals_of (g.2 i); effects = map effect_of (g.3 i) })
    ∙ ap (λ es. record { station = v.station; needs = literals_of v.needs; companions = literals_of v.companions; effects = es }) (map_push effect_of (vec_items v.effects) e)

pub effects_counted : (v : Move) → length (move_of v).effects ≡ vec_len v.effects
effects_counted v = length-map (vec_items v.effects) effect_of ∙ sym v.effects.ok.0

-- one effect more, which is at most the eighth
pub effects_more : (n : Named) (v : Move) (x : Effect) (w : Move) (f : Effect) (p : ℕ) → Extends v x w → effect_of f ≡ no_effect → vec_len v.effects + 1 < 8
    → in_effect n (move_of v) (effect_of x) C.Effect p ≡ Ok (n, effect (move_of w) (effect_of f))
effects_more n v x w f p g b h = rw (effects_counted v, ← add-one (vec_len v.effects), lt-ltb (vec_len v.effects + 1) 8 h, extends_means v x w g, b)

-- MOVE or END after a move, which is complete then: the lists m have it too
module _ (n : Named) (k : Command) (p : ℕ) (at : ((s : ℕ) × (k ≡ C.Move s)) ⊎ (k ≡ C.End)) (m : Named) where
  pub after_move : (v : model.Move) → m ≡ with_move n v → in_move n v k p ≡ in_lists m k p
  after_move v e = elim at [ inl s ↦ rw (s.1, e) | inr q ↦ rw (q, e) ]

  pub after_effect : (v : Move) (x : Effect) (w : Move) → Extends v x w → m ≡ with_move n (move_of w) → in_effect n (move_of v) (effect_of x) k p ≡ in_lists m k p
  after_effect v x w g e = elim at [ inl s ↦ rw (s.1, e, extends_means v x w g) | inr q ↦ rw (q, e, extends_means v x w g) ]

-- the lists after SIZES
pub first_lists : (n f m : ℕ) (z : Counts) (s : Set) (g : Literals) (vs : List Move) → Ok z ≡ sized n f m 0 → s ≡ none → g ≡ no_literals → vs ≡ []
    → ◌≡◌ {A = Result Named Refusal} (Ok (record { sizes = z; start = s; goal = g; moves = map move_of vs })) (first_named (C.Sizes n f m))
first_lists n f m z s g vs e a b d = rw (a, b, d) (by (up_to 16 n && (up_to 128 f && up_to 64 m)) e)
  where
    by : (t : Bool) → Ok z ≡ cond t (Ok (record { stations = n; fluents = f; moves = m })) (refused Q.Range 0)
        → ◌≡◌ {A = Result Named Refusal} (Ok (record { sizes = z; start = none; goal = no_literals; moves = [] }))
        (cond t (Ok (record { sizes = record { stations = n; fluents = f; moves = m }; start = none; goal = no_literals; moves = [] })) (refused Q.Range 0))
    by true q = let same : z ≡ record { stations = n; fluents = f; moves = m } = cc in ap (λ y. Ok (record { sizes = y; start = none; goal = no_literals; moves = [] })) same
    by false q = absurd (let x : ◌≡◌ {A = ℕ} 0 1 = cc in omega arith)
