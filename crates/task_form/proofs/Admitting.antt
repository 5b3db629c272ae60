-- A file that is accepted is a sequence of commands of which none has a question answered no; one that is refused is
-- refused by a question of form, at a place in the file. Assumes nothing.
use Rattle.std.proofs.Common.{◌≡◌, ℕ, zero, suc, ◌-◌, ◌≤◌, Bool, true, false, cond, ltb, List, [], ◌∷◌, ◌++◌, length, Ok, Err, Result, refl, ap, ◌∙◌, append_assoc, append-nil, arith, length-append}
use mathlib.Core.Option.{Option, none, some}
use Rattle.std.proofs.lemmas.Bool.{ltb-false}
use Rattle.refusals.specs.declared.Question.{Question}
use Rattle.refusals.specs.declared.Question.TheVariants as Q
use Rattle.refusals.specs.declared.Refusal.{Refusal}
use Rattle.refusals.specs.declared.Layer.TheVariants.{Form}
use Rattle.refusals.specs.Numbers.{layer_of}
use Rattle.refusals.specs.Answers.{refused, and_then}
use Rattle.model.specs.Task.{Task}
use Rattle.task_command.specs.declared.command.Command.{Command}
use Rattle.task_command.specs.Commands.{Taken, first}
use Rattle.task_form.specs.Denoted.{denoted, sizes}
use Rattle.task_form.specs.Questions.{part, at_end, first_no, in_order, in_range, is_new, is_few}
use Rattle.task_form.specs.Form.{unless, complete, asked, form}
use Rattle.task_form.specs.Spelling.{Spelled}
use Rattle.task_form.proofs.Spelling.{Begins, Took, first_took, width_positive, spells_width}

-- no question is answered no of any of the commands cs, after those before
abbrev pub Admits : List Command → List Command → Type 0
Admits before [] = Unit {0}
Admits before (c ∷ cs) = (first_no before c ≡ none) × Admits (before ++ (c ∷ [])) cs

-- the bytes bs, after the commands before, are commands that are all admitted and END the file
pub record Admitted (before : List Command) (bs : List ℕ) (t : Task) : Type 0 where
  pub commands : List Command
  pub spelled : Spelled commands bs
  pub admitted : Admits before commands
  pub over : at_end (part (before ++ commands)) ≡ true
  pub named : t ≡ denoted (before ++ commands)

abbrev pub Blames : ℕ → Refusal → Type 0
Blames size e = (layer_of e.question ≡ Form) × (e.place ≤ size)

abbrev pub Answered : ℕ → List Command → List ℕ → Result Task Refusal → Type 0
Answered size before bs (Ok t) = Admitted before bs t
Answered size before bs (Err e) = Blames size e

-- the questions of a command are of form
abbrev OfForm : Option Question → Type 0
OfForm none = Unit {0}
OfForm (some q) = layer_of q ≡ Form

first_no_of_form : (before : List Command) (c : Command) → OfForm (first_no before c)
first_no_of_form before c = by (in_order before c) (in_range (sizes before) c) (is_new before c) (is_few before c)
  where
    by : (o r d w : Bool) → OfForm (cond o (cond r (cond d (cond w none (some Q.Effects)) (some Q.New)) (some Q.Range)) (some Q.Order))
    by true true true true = tt
    by true true true false = refl
    by true true false w = refl
    by true false d w = refl
    by false r d w = refl

complete_answered : (size : ℕ) (before : List Command) → Answered size before [] (complete size before)
complete_answered size before = by (at_end (part before)) refl
  where
    by : (t : Bool) → at_end (part before) ≡ t → Answered size before [] (cond t (Ok (denoted before)) (refused Q.Command size))
    by true e = record { commands = []; spelled = refl; admitted = tt; over = rw append-nil e; named = rw append-nil refl }
    by false e = (refl, omega arith)

asked_answered : (turns size : ℕ) (before : List Command) (bs : List ℕ) → length bs ≤ turns → Answered size before bs (asked turns size before bs)
asked_answered zero size before [] h = complete_answered size before
asked_answered zero size before (b ∷ bs) h = absurd (omega arith)
asked_answered (suc n) size before [] h = complete_answered size before
asked_answered (suc n) size before (b ∷ bs) h =
    from (first (size - length (b ∷ bs)) (b ∷ bs)) (first_took (size - length (b ∷ bs)) (b ∷ bs)) (λ c rest l. asked_answered n size (before ++ (c ∷ [])) rest l)
  where
    all : List ℕ
    all = b ∷ bs

    place : ℕ
    place = size - length all

    after : (c : Command) (rest : List ℕ) (o : Option Question) → first_no before c ≡ o → OfForm o → Begins all c rest
        → (r : Result Task Refusal) → Answered size (before ++ (c ∷ [])) rest r → Answered size before all (unless o place r)
    after c rest none e f g (Ok t) a = record {
      commands = c ∷ a.commands;
      spelled = (g.0, rest, g.1, g.2, a.spelled);
      admitted = (e, a.admitted);
      over = rw append_assoc at a.over;
      named = a.named ∙ ap denoted (append_assoc before (c ∷ []) a.commands);
    }
    after c rest none e f g (Err x) a = a
    after c rest (some q) e f g r a = (f, omega arith)

    from : (t : Taken) → Took place all t → ((c : Command) (rest : List ℕ) → length rest ≤ n → Answered size (before ++ (c ∷ [])) rest (asked n size (before ++ (c ∷ [])) rest))
        → Answered size before all (and_then t (λ x. unless (first_no before x.0) place (asked n size (before ++ (x.0 ∷ [])) x.1)))
    from (Ok x) k more =
        let w = spells_width x.0 k.0 k.2 in
        let p = width_positive x.0 in
        let l = ap length k.1 in
        let m = length-append k.0 x.1 in
        after x.0 x.1 (first_no before x.0) refl (first_no_of_form before x.0) k _ (more x.0 x.1 (omega arith))
    from (Err e) k more = rw k (refl, omega arith)

-- what the answer to a whole file says
abbrev pub Told : List ℕ → Result Task Refusal → Type 0
Told bs (Ok t) = Admitted [] bs t × (length bs ≤ 8192)
Told bs (Err e) = Blames (length bs) e

pub form_told : (bs : List ℕ) → Told bs (form bs)
unfolding form
form_told bs = by (ltb 8192 (length bs)) refl
  where
    told : (r : Result Task Refusal) → length bs ≤ 8192 → Answered (length bs) [] bs r → Told bs r
    told (Ok t) h a = (a, h)
    told (Err e) h a = a

    by : (t : Bool) → ltb 8192 (length bs) ≡ t → Told bs (cond t (refused Q.Limit 0) (asked (length bs) (length bs) [] bs))
    by true e = (refl, omega arith)
    by false e = told _ (ltb-false 8192 (length bs) e) (asked_answered (length bs) (length bs) [] bs (omega arith))
