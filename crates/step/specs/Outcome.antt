-- What a step answers, and what it leaves. Assumes nothing.
use Rattle.std.specs.Prelude.{◌≡◌, Ok, Err, Result}
use Rattle.std.proofs.Math.Option.{none, some}
use Rattle.refusals.specs.declared.Question.{Question}
use Rattle.refusals.specs.Numbers.{number_of}
use Rattle.model.specs.Sets.{Set}
use Rattle.model.specs.Line.{Line, Coupling}
use Rattle.model.specs.Joint.{refused, after}
use Rattle.sets.specs.Members.{members}
use Rattle.sets.specs.declared.IndexSet.{IndexSet}

-- allowed, the step leaves the fluents after it; otherwise the first question answered no is told
abbrev pub Performed : Line → Coupling → (s S : Set) → Result IndexSet Question → Type 0
Performed L K s S (Ok t) = (refused L K s S ≡ none) × (members t ≡ after L s S)
Performed L K s S (Err q) = refused L K s S ≡ some (number_of q)
