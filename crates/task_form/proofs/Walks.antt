-- Reading a file to its end gives what is defined: some turns, enough for the bytes that are left, give the whole
-- file's answer. Assumes nothing.
use Rattle.std.proofs.Common.{◌≡◌, ℕ, zero, suc, ◌-◌, ◌<◌, ◌≤◌, Bool, true, false, cond, ◌&&◌, List, [], ◌∷◌, ◌++◌, length, Ok, Err, Result, sym, refl, ap, ◌∙◌, subst, arith, le-ltb, lt-ltb}
use mathlib.Core.Option.{Option, none, some}
use Rattle.refusals.specs.declared.Question.{Question}
use Rattle.refusals.specs.declared.Question.TheVariants as Q
use Rattle.refusals.specs.declared.Refusal.{Refusal}
use Rattle.refusals.specs.Answers.{refusal, refused, and_then}
use Rattle.model.specs.Task.{Task}
use Rattle.model.specs.Sets.{no_literals}
use Rattle.model.specs.Sets as sets
use Rattle.task_command.specs.declared.command.Command.{Command}
use Rattle.task_command.specs.declared.command.Command.TheVariants.{Sizes, Start, Goal, Move, Need, With, Effect, If, IfMove, Then, End}
use Rattle.task_command.specs.Commands.{Taken, first}
use Rattle.task_form.specs.Denoted.{denoted}
use Rattle.task_form.specs.Questions.{at_end, first_no, up_to}
use Rattle.task_form.specs.Form.{unless, complete, asked, form}
use Rattle.task_form.specs.Reading.{Named, Stage, lists, move, effect, ended, takes, first_named, task_named}
use Rattle.task_form.proofs.Agrees.{Stands, Agree}
use Rattle.task_form.proofs.Taking.{agrees}

-- one turn, from what was taken at the front
abbrev turn : ℕ → ℕ → List Command → ℕ → Taken → Result Task Refusal
turn n size before place t = and_then t (λ x. unless (first_no before x.0) place (asked n size (before ++ (x.0 ∷ [])) x.1))

-- where what is left holds a byte, a command is asked
turned : (size : ℕ) (before : List Command) (rest : List ℕ) (n : ℕ) → length rest ≤ n → 0 < length rest
    → (m : ℕ) × (length rest ≤ suc m) × (asked n size before rest ≡ turn m size before (size - length rest) (first (size - length rest) rest))
turned size before [] n h z = absurd (omega arith)
turned size before (b ∷ bs) zero h z = absurd (omega arith)
turned size before (b ∷ bs) (suc m) h z = (m, h, refl)

-- what is read so far, and the bytes that are left, give the answer `whole`
pub record Going (whole : Result Task Refusal) (size : ℕ) (n : Named) (st : Stage) (rest : List ℕ) : Type 0 where
  pub before : List Command
  pub stands : Stands before n st
  pub turns : ℕ
  pub enough : length rest ≤ turns
  pub same : asked turns size before rest ≡ whole

-- ---- the end of the file

abbrev pub over : Stage → ℕ → Named → Result Task Refusal
over lists size n = refused Q.Command size
over (move v) size n = refused Q.Command size
over (effect v e) size n = refused Q.Command size
over ended size n = Ok (task_named n)

-- what is read to the end is what the commands denote
pub denotes : (before : List Command) (n : Named) → Stands before n ended → denoted before ≡ task_named n
denotes before n s = λ i. record { stations = (s.base.sized i).stations; fluents = (s.base.sized i).fluents; start = s.base.start i; goal = s.base.goal i; moves = s.at.complete i }

finished : (size : ℕ) (before : List Command) (n : Named) (st : Stage) → Stands before n st → complete size before ≡ over st size n
finished size before n lists s = ap (λ q. cond (at_end q) (Ok (denoted before)) (refused Q.Command size)) s.at.place
finished size before n (move v) s = ap (λ q. cond (at_end q) (Ok (denoted before)) (refused Q.Command size)) s.at.place
finished size before n (effect v e) s = ap (λ q. cond (at_end q) (Ok (denoted before)) (refused Q.Command size)) s.at.place
finished size before n ended s =
    ap (λ q. cond (at_end q) (Ok (denoted before)) (refused Q.Command size)) s.at.place
    ∙ ap Ok (denotes before n s)

module _ (whole : Result Task Refusal) (size : ℕ) (n : Named) (st : Stage) where
  pub none_left : (rest : List ℕ) → Going whole size n st rest → length rest ≡ 0 → whole ≡ over st size n
  none_left [] g z = sym g.same ∙ at g.turns ∙ finished size g.before n st g.stands
    where
      at : (k : ℕ) → asked k size g.before [] ≡ complete size g.before
      at zero = refl
      at (suc k) = refl
  none_left (b ∷ bs) g z = absurd (omega arith)

  module _ (rest : List ℕ) (g : Going whole size n st rest) where
    abbrev place : ℕ
    place = size - length rest

    -- no command stands at the front
    pub stops_first : (e : Refusal) → 0 < length rest → Err e ≡ first place rest → whole ≡ Err e
    stops_first e z taken =
        let t = turned size g.before rest g.turns g.enough z in
        sym g.same ∙ t.2 ∙ ap (turn t.0 size g.before place) (sym taken)

    module _ (c : Command) (after : List ℕ) (taken : Ok (c, after) ≡ first place rest) (less : length after < length rest) where
      abbrev Next : Named × Stage → Type 0
      Next x = Stands (g.before ++ (c ∷ [])) x.0 x.1

      -- the whole answer, by the question that is answered no here
      here : (k : ℕ) × (length after ≤ k) × (whole ≡ unless (first_no g.before c) place (asked k size (g.before ++ (c ∷ [])) after))
      here =
          let t = turned size g.before rest g.turns g.enough (omega arith) in
          (t.0, omega (arith, t.1), sym g.same ∙ t.2 ∙ ap (turn t.0 size g.before place) (sym taken))

      -- the command at the front is refused
      pub stops_next : (e : Refusal) → takes n st c place ≡ Err e → whole ≡ Err e
      stops_next e stop = by (first_no g.before c) (subst (Agree (first_no g.before c) place Next) stop (agrees g.before n st c place g.stands)) here.2
        where
          by : (o : Option Question) → Agree o place Next (Err e) → whole ≡ unless o place (asked here.0 size (g.before ++ (c ∷ [])) after) → whole ≡ Err e
          by none a h = absurd a
          by (some q) a h = h ∙ ap Err (sym a)

      pub goes_on : (n' : Named) (st' : Stage) → takes n st c place ≡ Ok (n', st') → Going whole size n' st' after
      goes_on n' st' on = by (first_no g.before c) (subst (Agree (first_no g.before c) place Next) on (agrees g.before n st c place g.stands)) here.2
        where
          by : (o : Option Question) → Agree o place Next (Ok (n', st')) → whole ≡ unless o place (asked here.0 size (g.before ++ (c ∷ [])) after) → Going whole size n' st' after
          by none a h = record { before = g.before ++ (c ∷ []); stands = a; turns = here.0; enough = here.1; same = sym h }
          by (some q) a h = absurd a

-- ---- the first command

abbrev pub Begun : Command → Option Question → Result Named Refusal → Type 0
Begun c none (Ok n) = Stands (c ∷ []) n lists
Begun c none (Err e) = ⊥
Begun c (some q) (Ok n) = ⊥
Begun c (some q) (Err e) = e ≡ refusal q 0

abbrev pub newly : (n f m : ℕ) → Named
newly n f m = record { sizes = record { stations = n; fluents = f; moves = m }; start = sets.none; goal = no_literals; moves = [] }

pub first_agrees : (c : Command) → Begun c (first_no [] c) (first_named c)
first_agrees (Sizes n f m) = by (up_to 16 n && (up_to 128 f && up_to 64 m))
  where
    by : (t : Bool) → Begun (Sizes n f m) (cond t none (some Q.Range)) (cond t (Ok (newly n f m)) (refused Q.Range 0))
    by true = record {
      base = record { head = Sizes n f m; tail = []; whole = refl; sized = refl; start = refl; goal = refl };
      at = record { place = refl; unmoved = refl; none_yet = refl };
    }
    by false = refl
first_agrees (Start k) = refl
first_agrees (Goal x) = refl
first_agrees (Move s) = refl
first_agrees (Need x) = refl
first_agrees (With x) = refl
first_agrees Effect = refl
first_agrees (If x) = refl
first_agrees (IfMove x) = refl
first_agrees (Then x) = refl
first_agrees End = refl

module _ (bs : List ℕ) where
  abbrev all : Result Task Refusal
  all = asked (length bs) (length bs) [] bs

  at_front : length bs - length bs ≡ 0
  at_front = omega arith

  -- the whole answer, from what was taken at the front
  from_front : 0 < length bs → (k : ℕ) × (length bs ≤ suc k) × (all ≡ turn k (length bs) [] 0 (first 0 bs))
  from_front z =
      let t = turned (length bs) [] bs (length bs) (omega arith) z in
      (t.0, t.1, t.2 ∙ ap (λ p. turn t.0 (length bs) [] p (first p bs)) at_front)

  pub no_first : (e : Refusal) → Err e ≡ first 0 bs → all ≡ Err e
  no_first e taken = at bs refl
    where
      at : (cs : List ℕ) → bs ≡ cs → all ≡ Err e
      at [] q =
          let none_there : ◌≡◌ {A = Taken} (Err e) (refused Q.Command 0) = taken ∙ ap (first 0) q in
          let why : e ≡ refusal Q.Command 0 = cc in
          ap (λ xs. asked (length xs) (length xs) [] xs) q ∙ ap Err (sym why)
      at (b ∷ cs) q =
          let l = ap length q in
          let t = from_front (omega arith) in
          t.2 ∙ ap (turn t.0 (length bs) [] 0) (sym taken)

  module _ (c : Command) (after : List ℕ) (taken : Ok (c, after) ≡ first 0 bs) (less : length after < length bs) where
    first_here : (k : ℕ) × (length after ≤ k) × (all ≡ unless (first_no [] c) 0 (asked k (length bs) (c ∷ []) after))
    first_here =
        let t = from_front (omega arith) in
        (t.0, omega (arith, t.1), t.2 ∙ ap (turn t.0 (length bs) [] 0) (sym taken))

    pub wrong_first : (e : Refusal) → first_named c ≡ Err e → all ≡ Err e
    wrong_first e stop = by (first_no [] c) (subst (Begun c (first_no [] c)) stop (first_agrees c)) first_here.2
      where
        by : (o : Option Question) → Begun c o (Err e) → all ≡ unless o 0 (asked first_here.0 (length bs) (c ∷ []) after) → all ≡ Err e
        by none a h = absurd a
        by (some q) a h = h ∙ ap Err (sym a)

    pub begins_on : (n : Named) → first_named c ≡ Ok n → Going all (length bs) n lists after
    begins_on n on = by (first_no [] c) (subst (Begun c (first_no [] c)) on (first_agrees c)) first_here.2
      where
        by : (o : Option Question) → Begun c o (Ok n) → all ≡ unless o 0 (asked first_here.0 (length bs) (c ∷ []) after) → Going all (length bs) n lists after
        by none a h = record { before = c ∷ []; stands = a; turns = first_here.0; enough = first_here.1; same = sym h }
        by (some q) a h = absurd a

-- a file within the limit gives what its commands give
pub form_from : (bs : List ℕ) (r : Result Task Refusal) → length bs ≤ 8192 → asked (length bs) (length bs) [] bs ≡ r → form bs ≡ r
unfolding form
form_from bs r h e = ap (λ t. cond t (refused Q.Limit 0) (asked (length bs) (length bs) [] bs)) (le-ltb 8192 (length bs) h) ∙ e

pub over_limit : (bs : List ℕ) (e : Refusal) → 8192 < length bs → e ≡ refusal Q.Limit 0 → form bs ≡ Err e
unfolding form
over_limit bs e h r = ap (λ t. cond t (refused Q.Limit 0) (asked (length bs) (length bs) [] bs)) (lt-ltb 8192 (length bs) h) ∙ ap Err (sym r)
