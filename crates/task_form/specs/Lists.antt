-- What commands name: the literals of a list, and the stretches of commands that belong to one move or one effect.
-- Assumes nothing.
use Rattle.std.specs.Prelude.{ℕ, Bool, true, cond, List, [], ◌∷◌, ◌==◌}
use Rattle.model.specs.Sets.{Literals, no_literals, both, plus}
use Rattle.task_command.specs.declared.command.Command.{Command}
use Rattle.task_command.specs.declared.command.Command.TheVariants.{Sizes, Start, Goal, Move, Need, With, Effect, If, IfMove, Then, End}

-- the command byte
abbrev pub code : Command → ℕ
code (Sizes n f m) = 0x01
code (Start k) = 0x02
code (Goal x) = 0x03
code (Move s) = 0x04
code (Need x) = 0x05
code (With x) = 0x06
code Effect = 0x07
code (If x) = 0x08
code (IfMove x) = 0x09
code (Then x) = 0x0a
code End = 0x0f

abbrev pub is : ℕ → Command → Bool
is b c = code c == b

-- k alone, plain or with "not"
abbrev pub only : Bool → ℕ → Literals
only b k = plus no_literals b k

-- the literal that a command names, if it names one; START names its fluent plain
abbrev pub says : Command → Literals
says (Sizes n f m) = no_literals
says (Start k) = only true k
says (Goal x) = only x.plain x.number
says (Move s) = no_literals
says (Need x) = only x.plain x.number
says (With x) = only x.plain x.number
says Effect = no_literals
says (If x) = only x.plain x.number
says (IfMove x) = only x.plain x.number
says (Then x) = only x.plain x.number
says End = no_literals

-- the list of the commands with the byte b: what they name, and nothing else
abbrev pub listed : ℕ → List Command → Literals
listed b [] = no_literals
listed b (c ∷ cs) = both (cond (is b c) (says c) no_literals) (listed b cs)

-- the commands before the first with the byte b
abbrev pub until : ℕ → List Command → List Command
until b [] = []
until b (c ∷ cs) = cond (is b c) [] (c ∷ until b cs)

-- a stretch: the command that begins it, and those after it
abbrev pub Stretch : Type 0
Stretch = Command × List Command

-- the stretches that the commands with the byte b begin, each up to the next
abbrev pub stretches : ℕ → List Command → List Stretch
stretches b [] = []
stretches b (c ∷ cs) = cond (is b c) ((c, until b cs) ∷ stretches b cs) (stretches b cs)

-- what belongs to the last stretch, if there is one
abbrev pub last_body : List Stretch → List Command
last_body [] = []
last_body (s ∷ []) = s.1
last_body (s ∷ (t ∷ ts)) = last_body (t ∷ ts)

-- the commands after the last with the byte b
abbrev pub since : ℕ → List Command → List Command
since b cs = last_body (stretches b cs)
