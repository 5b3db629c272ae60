-- What is read of a whole file that is accepted. Assumes nothing.
use Rattle.std.proofs.Common.{◌≡◌, ℕ, ◌≤◌, true, List, [], ◌∷◌, length, Ok, refl, ap, ◌∙◌, subst}
use Rattle.std.proofs.lemmas.Bool.{both_ways}
use Rattle.model.specs.Task.{Task}
use Rattle.task_command.specs.declared.command.Command.{Command}
use Rattle.task_form.specs.Denoted.{denoted}
use Rattle.task_form.specs.Questions.{part, at_end}
use Rattle.task_form.specs.Form.{form}
use Rattle.task_form.specs.Reading.{Named, Stage, lists, move, effect, ended, first_named}
use Rattle.task_form.specs.Spelling.{Spelled}
use Rattle.task_form.proofs.Agrees.{Stands}
use Rattle.task_form.proofs.Admitting.{Admits, Admitted, Told, form_told}
use Rattle.task_form.proofs.ReadThrough.{reads, admits_whole}

pub record ReadIn (bs : List ℕ) (t : Task) : Type 0 where
  pub head : Command
  pub tail : List Command
  pub spelled : Spelled (head ∷ tail) bs
  pub named : t ≡ denoted (head ∷ tail)
  pub at_first : Named
  pub is_first : first_named head ≡ Ok at_first
  pub at_last : Named
  pub is_read : reads at_first lists tail ≡ Ok (at_last, ended)
  pub stands : Stands (head ∷ tail) at_last ended

ended_only : (before : List Command) (n : Named) (st : Stage) → Stands before n st → at_end (part before) ≡ true → st ≡ ended
ended_only before n lists s e = absurd (both_ways _ (ap at_end s.at.place) e)
ended_only before n (move v) s e = absurd (both_ways _ (ap at_end s.at.place) e)
ended_only before n (effect v f) s e = absurd (both_ways _ (ap at_end s.at.place) e)
ended_only before n ended s e = refl

admitted_read : (bs : List ℕ) (t : Task) → Admitted [] bs t → ReadIn bs t
admitted_read bs t a = by a.commands a.spelled a.admitted a.over a.named
  where
    by : (cs : List Command) → Spelled cs bs → Admits [] cs → at_end (part cs) ≡ true → t ≡ denoted cs → ReadIn bs t
    by [] s d o n = absurd (both_ways _ refl o)
    by (c ∷ cs) s d o n =
        let w = admits_whole c cs d in
        let r = w.to_end in
        let k = ended_only (c ∷ cs) r.after.0 r.after.1 r.stands o in
        record {
          head = c;
          tail = cs;
          spelled = s;
          named = n;
          at_first = w.at_first;
          is_first = w.is_first;
          at_last = r.after.0;
          is_read = r.is_read ∙ ap (λ x. Ok (r.after.0, x)) k;
          stands = subst (Stands (c ∷ cs) r.after.0) k r.stands;
        }

pub form_read : (bs : List ℕ) (t : Task) → form bs ≡ Ok t → ReadIn bs t × (length bs ≤ 8192)
form_read bs t e = let a = subst (Told bs) e (form_told bs) in (admitted_read bs t a.0, a.1)
