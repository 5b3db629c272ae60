-- What a step answers is what it leads to in the world of whole steps. Assumes nothing.
use Rattle.std.proofs.Common.{◌≡◌, Ok, Err, sym, ap, ◌∙◌, ap₂}
use Rattle.refusals.specs.declared.Question.{Question}
use Rattle.refusals.proofs.Distinct.{question_number}
use Rattle.model.specs.Sets.{Set}
use Rattle.model.specs.Line.{Line, Coupling}
use Rattle.model.specs.Joint.{after}
use Rattle.sets.specs.Members.{members}
use Rattle.sets.specs.declared.IndexSet.{IndexSet}
use Rattle.step.specs.Outcome.{Performed}
use Rattle.step.specs.Joint.{answered, joint_leads}

module _ (L : Line) (K : Coupling) (s S S' : Set) (same : S ≡ S') where
  pub leads_on : (t : IndexSet) → Performed L K s S (Ok t) → joint_leads L K s S' ≡ Ok (members t)
  leads_on t p = rw (← same) (ap₂ answered p.0 (sym p.1))

  pub leads_off : (q : Question) → Performed L K s S (Err q) → joint_leads L K s S' ≡ Err q
  leads_off q p = rw (← same) (ap (λ o. answered o (after L s S)) p ∙ ap Err (question_number q))
