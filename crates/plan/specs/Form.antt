-- The form of a joint plan: the first question answered no, with its place, or the steps. Assumes nothing.
use Rattle.std.specs.Prelude.{◌≡◌, ℕ, zero, suc, ◌+◌, ◌-◌, Bool, true, cond, ◌&&◌, ◌||◌, List, [], ◌∷◌, map, length, Ok, Err, vec_items, Result, Vec, ◌==◌, nat_lt}
use Rattle.std.specs.declared.alloc.Global.{Global}
use Rattle.refusals.specs.declared.Question.TheVariants.{Limit, Range, Station}
use Rattle.refusals.specs.declared.Refusal.{Refusal}
use Rattle.refusals.specs.declared.Fault.{Fault}
use Rattle.refusals.specs.declared.Fault.TheVariants.{Refused, Memory}
use Rattle.refusals.specs.Answers.{refused, and_then, seen}
use Rattle.model.specs.Line.{Line}
use Rattle.step.specs.Views.{operands_of}
use Rattle.step.specs.declared.record.Step.{Step}
use Rattle.plan.specs.Commands.{first}

-- each operand is none, or a move
abbrev pub ranged : ℕ → List ℕ → Bool
ranged m [] = true
ranged m (b ∷ bs) = (b == 255 || nat_lt b m) && ranged m bs

-- the operand is none, or a move of the station i
abbrev pub own : Line → ℕ → ℕ → Bool
own L i b = b == 255 || (nat_lt b L.moves && L.station b == i)

-- each operand is none, or a move of its station; those of the list count from i
abbrev pub placed : Line → ℕ → List ℕ → Bool
placed L i [] = true
placed L i (b ∷ bs) = own L i b && placed L (i + 1) bs

-- the operands of a STEP at the place p: first the range of all, then the stations of all
abbrev pub formed : Line → ℕ → List ℕ → Result (List ℕ) Refusal
formed L p bs = cond (ranged L.moves bs) (cond (placed L 0 bs) (Ok bs) (refused Station p)) (refused Range p)

-- the operands of the steps in bs, the end of a file of `size` bytes. Each STEP has a byte at least, so that as many
-- turns as bs has bytes are enough
abbrev pub steps : (turns : ℕ) → Line → (size : ℕ) → List ℕ → Result (List (List ℕ)) Refusal
steps zero L size bs = Ok []
steps (suc n) L size [] = Ok []
steps (suc n) L size (b ∷ bs) =
    let place = size - length (b ∷ bs) in
    and_then (first place (b ∷ bs)) (λ t.
    and_then (formed L place t.0) (λ step. seen (λ rest. step ∷ rest) (steps n L size t.1)))

-- the steps of a joint plan file, or the first question answered no
unfoldable pub joint_form : Line → List ℕ → Result (List (List ℕ)) Refusal
joint_form L bs = cond (nat_lt 4352 (length bs)) (refused Limit 0) (steps (length bs) L (length bs) bs)

-- the form's answer, unless memory was wanting
abbrev pub Reads : Result (List (List ℕ)) Refusal → Result (Vec Step Global) Fault → Type 0
Reads form (Ok v) = form ≡ Ok (map operands_of (vec_items v))
Reads form (Err (Refused e)) = form ≡ Err e
Reads form (Err Memory) = Unit {0}
