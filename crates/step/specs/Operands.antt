-- The operands of a step, one a station: its move, or 255 for none. Assumes nothing.
use Rattle.std.specs.Prelude.{ℕ, false, cond, ◌&&◌, ◌||◌, List, [], ◌∷◌, Some, None, Option, ◌==◌, nat_lt, slice_index}
use Rattle.model.specs.Sets.{Set}

-- the move that an operand names
abbrev pub move_named : ℕ → Option ℕ
move_named b = cond (b == 255) None (Some b)

-- the move of a station; there are sixteen
abbrev pub operand : List ℕ → ℕ → Option ℕ
operand bs i = cond (nat_lt i 16) (move_named (slice_index bs i)) None

-- the moves that the operands name; no move has a number from 128 on
abbrev pub named : List ℕ → Set
named [] = λ k. false
named (b ∷ bs) = λ k. (nat_lt b 128 && k == b) || named bs k
