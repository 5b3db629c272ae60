-- The bytes of commands: a command byte, and its operands. Assumes nothing.
use Rattle.std.specs.Prelude.{◌≡◌, ℕ, List, [], ◌∷◌, ◌++◌}
use Rattle.moves.specs.Lists.{literal}
use Rattle.moves.specs.declared.lists.Literal.{Literal}
use Rattle.task_command.specs.declared.command.Command.{Command}
use Rattle.task_command.specs.declared.command.Command.TheVariants.{Sizes, Start, Goal, Move, Need, With, Effect, If, IfMove, Then, End}

-- a command byte and the byte of the literal x
abbrev pub Marked : ℕ → Literal → List ℕ → Type 0
Marked code x bs = (b : ℕ) × (x ≡ literal b) × (bs ≡ code ∷ (b ∷ []))

-- bs is the command with its operands
abbrev pub Spells : Command → List ℕ → Type 0
Spells (Sizes n f m) bs = bs ≡ 0x01 ∷ (n ∷ (f ∷ (m ∷ [])))
Spells (Start k) bs = bs ≡ 0x02 ∷ (k ∷ [])
Spells (Goal x) bs = Marked 0x03 x bs
Spells (Move s) bs = bs ≡ 0x04 ∷ (s ∷ [])
Spells (Need x) bs = Marked 0x05 x bs
Spells (With x) bs = Marked 0x06 x bs
Spells Effect bs = bs ≡ 0x07 ∷ []
Spells (If x) bs = Marked 0x08 x bs
Spells (IfMove x) bs = Marked 0x09 x bs
Spells (Then x) bs = Marked 0x0a x bs
Spells End bs = bs ≡ 0x0f ∷ []

-- bs is these commands, one after the other, and nothing else
abbrev pub Spelled : List Command → List ℕ → Type 0
Spelled [] bs = bs ≡ []
Spelled (c ∷ cs) bs = (own : List ℕ) × (rest : List ℕ) × (bs ≡ own ++ rest) × Spells c own × Spelled cs rest
