-- What it means to run a list of steps, and to judge it. Assumes nothing.
use Rattle.std.specs.Prelude.{◌≡◌, ◌⊎◌, List, [], ◌∷◌, length, take, drop, Ok, Err, Result}
use Rattle.refusals.specs.declared.Question.{Question}
use Rattle.refusals.specs.declared.Refusal.{Refusal}

-- next: which step may be performed where, and what it leads to
module _ {S A : Type 0} (next : S → A → Result S Question) where
  -- each step of the list may be performed where it is reached, and the last leads to t
  abbrev pub Leads : S → List A → S → Type 0
  Leads s [] t = s ≡ t
  Leads s (a ∷ xs) t = (u : S) × (next s a ≡ Ok u) × Leads u xs t

  -- the steps before the refusal's place may be performed, and the one there is refused as it says
  abbrev pub Stops : S → List A → Refusal → Type 0
  Stops s xs f =
      (t : S) × (a : A) × (rest : List A) × Leads s (take f.place xs) t × (drop f.place xs ≡ a ∷ rest) × (next t a ≡ Err f.question)

  -- what one call of perform answers and leaves
  abbrev pub Performs : S → A → Result (Unit {0}) Question → S → Type 0
  Performs s a (Ok _) t = next s a ≡ Ok t
  Performs s a (Err e) t = (next s a ≡ Err e) × (t ≡ s)

  -- what a run of the list answers, in the state T, of which `model` tells
  abbrev pub Ran : {T : Type 0} → (T → S) → S → List A → Result T Refusal → Type 0
  Ran model s xs (Ok t) = Leads s xs (model t)
  Ran model s xs (Err f) = Stops s xs f

  -- ends: whether the state after the last step will do
  module _ (ends : S → Result (Unit {0}) Question) where
    -- the list leads to a state that will do
    abbrev pub Solves : S → List A → Type 0
    Solves s xs = (t : S) × Leads s xs t × (ends t ≡ Ok tt)

    -- a step of the list is refused as f says, or the state after the last is, at the count of steps
    abbrev pub Fails : S → List A → Refusal → Type 0
    Fails s xs f = Stops s xs f ⊎ ((t : S) × Leads s xs t × (ends t ≡ Err f.question) × (f.place ≡ length xs))

    -- the answer is Ok exactly when the list solves, and Err f exactly when it fails as f says
    pub record Judged (s : S) (xs : List A) (r : Result (Unit {0}) Refusal) : Type 0 where
      pub accepted : r ≡ Ok tt → Solves s xs
      pub accepts : Solves s xs → r ≡ Ok tt
      pub refused : (f : Refusal) → r ≡ Err f → Fails s xs f
      pub refuses : (f : Refusal) → Fails s xs f → r ≡ Err f
