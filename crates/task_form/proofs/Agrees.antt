-- Reading command by command asks the questions as they are defined, and holds what the commands so far name. Assumes
-- nothing.
use Rattle.std.proofs.Common.{◌≡◌, ℕ, Bool, true, false, cond, not, ◌||◌, eqb, List, [], ◌∷◌, ◌++◌, map, length, Ok, Err, Result, refl, ap, ◌∙◌, subst}
use mathlib.Core.Option.{Option, none, some}
use Rattle.refusals.specs.declared.Question.{Question}
use Rattle.refusals.specs.declared.Question.TheVariants as Q
use Rattle.refusals.specs.declared.Refusal.{Refusal}
use Rattle.refusals.specs.Answers.{refusal, refused, seen}
use Rattle.model.specs.Sets.{Literals, no_literals, both, plus}
use Rattle.model.specs.Task as model
use Rattle.moves.proofs.Lits.{literals_ext, both_none}
use Rattle.task_command.specs.declared.command.Command.{Command}
use Rattle.task_form.specs.Lists.{is, only, says, listed, Stretch, stretches}
use Rattle.task_form.specs.Denoted.{sizes}
use Rattle.task_form.specs.Denoted as meaning
use Rattle.task_form.specs.Questions.{part, may_stand, first_no}
use Rattle.task_form.specs.Questions as parts
use Rattle.task_form.specs.Reading.{Named, Stage, Read, lists, move, effect, ended}
use Rattle.task_form.proofs.Stretches.{listed_more, stretches_more, grown, grown_last}

-- ---- lists that grow

or_only : (t x : Bool) → (x || cond t true false) ≡ cond t true x
or_only true true = refl
or_only true false = refl
or_only false true = refl
or_only false false = refl

or_false : (x : Bool) → (x || false) ≡ x
or_false true = refl
or_false false = refl

both_only : (l : Literals) (b : Bool) (k : ℕ) → both l (only b k) ≡ plus l b k
both_only l true k = literals_ext _ _ (λ i j. or_only (eqb j k) (l true j) i) (λ i j. or_false (l false j) i)
both_only l false k = literals_ext _ _ (λ i j. or_false (l true j) i) (λ i j. or_only (eqb j k) (l false j) i)

pub kept : (b : ℕ) (cs : List Command) (c : Command) → is b c ≡ false → listed b (cs ++ (c ∷ [])) ≡ listed b cs
kept b cs c h = listed_more b cs c ∙ ap (λ t. both (listed b cs) (cond t (says c) no_literals)) h ∙ both_none _

pub gains : (b : ℕ) (cs : List Command) (c : Command) (s : Bool) (k : ℕ) → is b c ≡ true → says c ≡ only s k → listed b (cs ++ (c ∷ [])) ≡ plus (listed b cs) s k
gains b cs c s k h e =
    listed_more b cs c ∙ ap (λ t. both (listed b cs) (cond t (says c) no_literals)) h ∙ ap (both (listed b cs)) e ∙ both_only (listed b cs) s k

-- ---- what is read so far stands for the commands before

pub record Base (before : List Command) (n : Named) : Type 0 where
  pub head : Command
  pub tail : List Command
  pub whole : before ≡ head ∷ tail
  pub sized : sizes before ≡ n.sizes
  pub start : listed 0x02 before true ≡ n.start
  pub goal : listed 0x03 before ≡ n.goal

-- the last move has the stretch s, those before it are complete
pub record Last (before : List Command) (n : Named) (s : Stretch) : Type 0 where
  pub done : List Stretch
  pub all : stretches 0x04 before ≡ done ++ (s ∷ [])
  pub complete : map meaning.move done ≡ n.moves

-- the move with these effects only
abbrev pub so_far : Stretch → List Stretch → model.Move
so_far s es = record { station = meaning.station s.0; needs = listed 0x05 s.1; companions = listed 0x06 s.1; effects = map meaning.effect es }

pub record InLists (before : List Command) (n : Named) : Type 0 where
  pub place : part before ≡ parts.lists
  pub unmoved : stretches 0x04 before ≡ []
  pub none_yet : n.moves ≡ []

pub record InMove (before : List Command) (n : Named) (v : model.Move) : Type 0 where
  pub place : part before ≡ parts.move
  pub stretch : Stretch
  pub last : Last before n stretch
  pub plain : stretches 0x07 stretch.1 ≡ []
  pub this : so_far stretch [] ≡ v

pub record InEffect (before : List Command) (n : Named) (v : model.Move) (e : model.Effect) : Type 0 where
  pub place : part before ≡ parts.effect
  pub stretch : Stretch
  pub last : Last before n stretch
  pub done : List Stretch
  pub pending : Stretch
  pub all : stretches 0x07 stretch.1 ≡ done ++ (pending ∷ [])
  pub this : so_far stretch done ≡ v
  pub its : meaning.effect pending ≡ e

pub record Ended (before : List Command) (n : Named) : Type 0 where
  pub place : part before ≡ parts.ended
  pub complete : map meaning.move (stretches 0x04 before) ≡ n.moves
  pub counted : length n.moves ≡ n.sizes.moves

abbrev pub At : List Command → Named → Stage → Type 0
At before n lists = InLists before n
At before n (move v) = InMove before n v
At before n (effect v e) = InEffect before n v e
At before n ended = Ended before n

pub record Stands (before : List Command) (n : Named) (st : Stage) : Type 0 where
  pub base : Base before n
  pub at : At before n st

pub sizes_more : (before : List Command) (c h : Command) (t : List Command) → before ≡ h ∷ t → sizes (before ++ (c ∷ [])) ≡ sizes before
sizes_more before c h t e = rw e

-- a command that is neither START nor GOAL
pub base_more : (before : List Command) (n : Named) (c : Command) → is 0x02 c ≡ false → is 0x03 c ≡ false → Base before n → Base (before ++ (c ∷ [])) n
base_more before n c a g b = record {
  head = b.head;
  tail = b.tail ++ (c ∷ []);
  whole = ap (λ cs. cs ++ (c ∷ [])) b.whole;
  sized = sizes_more before c b.head b.tail b.whole ∙ b.sized;
  start = ap (λ l. l true) (kept 0x02 before c a) ∙ b.start;
  goal = kept 0x03 before c g ∙ b.goal;
}

-- what the lists hold does not hang on the moves
pub with_any : (before : List Command) (n : Named) → Base before n → (vs : List model.Move) → Base before (record { sizes = n.sizes; start = n.start; goal = n.goal; moves = vs })
with_any before n b vs = record { head = b.head; tail = b.tail; whole = b.whole; sized = b.sized; start = b.start; goal = b.goal }

-- the stretch of the last move with one command more
pub last_more : (before : List Command) (n : Named) (s : Stretch) (c : Command) → is 0x04 c ≡ false → Last before n s → Last (before ++ (c ∷ [])) n (s.0, s.1 ++ (c ∷ []))
last_more before n s c h l = record {
  done = l.done;
  all = stretches_more 0x04 c h before ∙ ap (λ ss. grown ss c) l.all ∙ grown_last l.done s c;
  complete = l.complete;
}

-- ---- answers that agree

abbrev pub Agree : Option Question → ℕ → (Named × Stage → Type 0) → Read → Type 0
Agree none p P (Ok x) = P x
Agree none p P (Err e) = ⊥
Agree (some q) p P (Ok x) = ⊥
Agree (some q) p P (Err e) = e ≡ refusal q p

abbrev in_turn : (o r d w : Bool) → Option Question
in_turn o r d w = cond o (cond r (cond d (cond w none (some Q.Effects)) (some Q.New)) (some Q.Range)) (some Q.Order)

module _ (p : ℕ) (P : Named × Stage → Type 0) where
  pub out_of_order : (before : List Command) (c : Command) → may_stand c (part before) ≡ false → Agree (first_no before c) p P (refused Q.Order p)
  out_of_order before c h = rw h refl

  -- a command that adds to a list
  pub asked_new : {X : Type 0} (o r r' d d' : Bool) (g : X → Named × Stage) (y : X) → o ≡ true → r ≡ r' → d ≡ d' → P (g y)
      → Agree (in_turn o r (not d) true) p P (seen g (cond r' (cond d' (refused Q.New p) (Ok y)) (refused Q.Range p)))
  asked_new o r r' d d' g y a b e h = rw (a, b, e) (go r' d')
    where
      go : (s t : Bool) → Agree (in_turn true s (not t) true) p P (seen g (cond s (cond t (refused Q.New p) (Ok y)) (refused Q.Range p)))
      go true true = refl
      go true false = h
      go false t = refl

  -- one that adds to a list of the effect that is not complete yet
  pub asked_its : {X Y : Type 0} (o r r' d d' : Bool) (g : X → Y) (h : Y → Named × Stage) (y : X) → o ≡ true → r ≡ r' → d ≡ d' → P (h (g y))
      → Agree (in_turn o r (not d) true) p P (seen h (seen g (cond r' (cond d' (refused Q.New p) (Ok y)) (refused Q.Range p))))
  asked_its {X = X} o r r' d d' g h y a b e q = subst (Agree (in_turn o r (not d) true) p P) (fused _) (asked_new o r r' d d' (λ x. h (g x)) y a b e q)
    where
      fused : (t : Result X Refusal) → seen (λ x. h (g x)) t ≡ seen h (seen g t)
      fused (Ok x) = refl
      fused (Err f) = refl

  -- MOVE
  pub asked_move : (o o' r r' : Bool) (y : Named × Stage) → o ≡ o' → r ≡ r' → P y
      → Agree (in_turn o r true true) p P (cond o' (cond r' (Ok y) (refused Q.Range p)) (refused Q.Order p))
  asked_move o o' r r' y a b h = rw (a, b) (go o' r')
    where
      go : (s t : Bool) → Agree (in_turn s t true true) p P (cond s (cond t (Ok y) (refused Q.Range p)) (refused Q.Order p))
      go true true = h
      go true false = refl
      go false t = refl

  -- END
  pub asked_end : (o o' : Bool) (y : Named × Stage) → o ≡ o' → (o' ≡ true → P y) → Agree (in_turn o true true true) p P (cond o' (Ok y) (refused Q.Order p))
  asked_end o o' y a h = rw a (go o' h)
    where
      go : (s : Bool) → (s ≡ true → P y) → Agree (in_turn s true true true) p P (cond s (Ok y) (refused Q.Order p))
      go true h = h refl
      go false h = refl

  -- EFFECT
  pub asked_effect : (o w w' : Bool) (y : Named × Stage) → o ≡ true → w ≡ w' → P y → Agree (in_turn o true true w) p P (cond w' (Ok y) (refused Q.Effects p))
  asked_effect o w w' y a b h = rw (a, b) (go w')
    where
      go : (s : Bool) → Agree (in_turn true true true s) p P (cond s (Ok y) (refused Q.Effects p))
      go true = h
      go false = refl
