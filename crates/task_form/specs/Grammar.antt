-- The text of a task as a tree: what is written, in which order, what it means, and when it is well formed. A file is
-- accepted exactly when it spells a well formed text in at most 8192 bytes. Assumes nothing.
use Rattle.std.specs.Prelude.{◌≡◌, ℕ, ◌<◌, ◌≤◌, true, cond, ◌||◌, List, [], ◌∷◌, ◌++◌, map, length, ◌≢◌}
use Rattle.std.specs.List.{flat_map}
use Rattle.model.specs.Task as model
use Rattle.model.specs.Bounds.{Each, FromOne}
use Rattle.task_command.specs.declared.command.Command.{Command}
use Rattle.task_command.specs.declared.command.Command.TheVariants.{Sizes, Start, Goal, Move, Need, With, Effect, If, IfMove, Then, End}
use Rattle.task_form.specs.Lists.{is, listed}
use Rattle.task_form.specs.Denoted.{Counts}
use Rattle.task_form.specs.Spelling.{Spelled}

-- ---- what is written

-- an effect: IFs, IFMOVEs and THENs in any order
abbrev pub EffectText : Type 0
EffectText = List Command

-- a move: its station, NEEDs and WITHs in any order, and its effects
pub record MoveText : Type 0 where
  pub station : ℕ
  pub body : List Command
  pub effects : List EffectText

-- a task: its sizes, STARTs and GOALs in any order, and its moves
pub record Text : Type 0 where
  pub sizes : Counts
  pub head : List Command
  pub moves : List MoveText

abbrev pub spell_effect : EffectText → List Command
spell_effect cs = Effect ∷ cs

abbrev pub spell_move : MoveText → List Command
spell_move v = Move v.station ∷ (v.body ++ flat_map spell_effect v.effects)

-- the commands of a text: SIZES, the head, each move as MOVE, its body and each effect after EFFECT, and END
abbrev pub spell : Text → List Command
spell x = Sizes x.sizes.stations x.sizes.fluents x.sizes.moves ∷ (x.head ++ (flat_map spell_move x.moves ++ (End ∷ [])))

-- ---- what it means

abbrev pub effect_meaning : EffectText → model.Effect
effect_meaning cs = record { conditions = listed 0x08 cs; alongside = listed 0x09 cs; results = listed 0x0a cs }

abbrev pub move_meaning : MoveText → model.Move
move_meaning v = record {
  station = v.station;
  needs = listed 0x05 v.body;
  companions = listed 0x06 v.body;
  effects = map effect_meaning v.effects;
}

abbrev pub meaning : Text → model.Task
meaning x = record {
  stations = x.sizes.stations;
  fluents = x.sizes.fluents;
  start = listed 0x02 x.head true;
  goal = listed 0x03 x.head;
  moves = map move_meaning x.moves;
}

-- ---- when it is well formed

-- the number of the fluent or move that a command names
abbrev pub number : Command → ℕ
number (Sizes n f m) = 0
number (Start k) = k
number (Goal x) = x.number
number (Move s) = 0
number (Need x) = x.number
number (With x) = x.number
number Effect = 0
number (If x) = x.number
number (IfMove x) = x.number
number (Then x) = x.number
number End = 0

-- the numbers that the commands with the byte b name, in their order
abbrev pub numbers : ℕ → List Command → List ℕ
numbers b [] = []
numbers b (c ∷ cs) = cond (is b c) (number c ∷ numbers b cs) (numbers b cs)

-- no number stands twice
abbrev pub Apart : List ℕ → Type 0
Apart [] = Unit {0}
Apart (k ∷ ks) = Each (λ j. j ≢ k) ks × Apart ks

-- the list of the commands with the byte b: each number is below n, and none is named twice
pub record WellListed (n b : ℕ) (cs : List Command) : Type 0 where
  pub below : Each (λ k. k < n) (numbers b cs)
  pub apart : Apart (numbers b cs)

pub record WellEffect (f m : ℕ) (cs : EffectText) : Type 0 where
  pub own : Each (λ c. (is 0x08 c || (is 0x09 c || is 0x0a c)) ≡ true) cs
  pub conditions : WellListed f 0x08 cs
  pub alongside : WellListed m 0x09 cs
  pub results : WellListed f 0x0a cs

pub record WellMove (n f m : ℕ) (v : MoveText) : Type 0 where
  pub station : v.station < n
  pub own : Each (λ c. (is 0x05 c || is 0x06 c) ≡ true) v.body
  pub needs : WellListed f 0x05 v.body
  pub companions : WellListed m 0x06 v.body
  pub few : length v.effects ≤ 8
  pub effects : Each (WellEffect f m) v.effects

pub record Well (x : Text) : Type 0 where
  pub stations : FromOne 16 x.sizes.stations
  pub fluents : FromOne 128 x.sizes.fluents
  pub count : FromOne 64 x.sizes.moves
  pub counted : length x.moves ≡ x.sizes.moves
  pub own : Each (λ c. (is 0x02 c || is 0x03 c) ≡ true) x.head
  pub start : WellListed x.sizes.fluents 0x02 x.head
  pub goal : WellListed x.sizes.fluents 0x03 x.head
  pub moves : Each (WellMove x.sizes.stations x.sizes.fluents x.sizes.moves) x.moves

-- ---- the law

-- bs spells a well formed text that means t
pub record IsText (bs : List ℕ) (t : model.Task) : Type 0 where
  pub text : Text
  pub well : Well text
  pub spelled : Spelled (spell text) bs
  pub named : t ≡ meaning text
  pub small : length bs ≤ 8192

-- no well formed text is spelled by bs, if bs is a task file at all
abbrev pub NoText : List ℕ → Type 0
NoText bs = (x : Text) → Well x → Spelled (spell x) bs → length bs ≤ 8192 → ⊥
