-- How the reading of a file ends. Assumes nothing.
use Rattle.std.proofs.Common.{◌≡◌, ℕ, ◌≤◌, List, [], length, Err, Result, refl}
use Rattle.std.specs.Prelude.{IsErrAnd}
use Rattle.std.proofs.lemmas.Result.{err_from_is_err_and}
use Rattle.refusals.specs.declared.Question.TheVariants as Q
use Rattle.refusals.specs.declared.Refusal.{Refusal}
use Rattle.refusals.specs.declared.Fault.{Fault}
use Rattle.refusals.specs.declared.Fault.TheVariants.{Refused, Memory}
use Rattle.refusals.specs.Answers.{refused}
use Rattle.model.specs.Task as model
use Rattle.task_form.specs.Form.{form, asked}
use Rattle.task_form.specs.Reading.{Named, Read}
use Rattle.task_form.proofs.Walks.{over, form_from}
use Rattle.task_file.specs.Views.{stage_of, Faulted, Reads}
use Rattle.task_file.specs.declared.named.Lists.{Lists}
use Rattle.task_file.specs.declared.form.Part as code
use Rattle.task_file.specs.declared.form.Part.TheVariants as P

module _ (bs : List ℕ) (short : length bs ≤ 8192) (r : Result Lists Fault) where
  abbrev whole : Result model.Task Refusal
  whole = asked (length bs) (length bs) [] bs

  -- a question is answered no
  pub refuses : (e : Refusal) → IsErrAnd r (λ y. y ≡ Refused e) → whole ≡ Err e → Reads (form bs) r
  refuses e gives stop = let p = err_from_is_err_and r gives in rw (p.1, p.2) (form_from bs _ short stop)

  -- a command is refused, or memory is wanting
  pub fails : (want : Read) (e : Fault) → IsErrAnd r (λ y. y ≡ e) → Faulted want e → ((x : Refusal) → want ≡ Err x → whole ≡ Err x) → Reads (form bs) r
  fails want (Refused x) gives took stop = refuses x gives (stop x took)
  fails want Memory gives took stop = let p = err_from_is_err_and r gives in rw (p.1, p.2) tt

-- the file ends before END
pub ends_open : (x : code.Part) (size : ℕ) (n : Named) → (x ≡ P.Ended → ⊥) → over (stage_of x) size n ≡ refused Q.Command size
ends_open P.Lists size n h = refl
ends_open (P.Move v) size n h = refl
ends_open (P.Effect v e) size n h = refl
ends_open P.Ended size n h = absurd (h refl)
