-- Answers that are a value or a refusal. Assumes nothing.
use Rattle.std.specs.Prelude.{◌≡◌, ℕ, ◌≤◌, Ok, Err, Result}
use Rattle.refusals.specs.declared.Question.{Question}
use Rattle.refusals.specs.declared.Refusal.{Refusal}
use Rattle.refusals.specs.declared.Fault.{Fault}
use Rattle.refusals.specs.declared.Fault.TheVariants.{Refused, Memory}
use Rattle.refusals.specs.declared.Layer.TheVariants.{Form}
use Rattle.refusals.specs.Numbers.{layer_of}

-- the question q is answered no at the place p
abbrev pub refusal : Question → ℕ → Refusal
refusal q p = record { question = q; place = p }

abbrev pub refused : {T : Type 0} → Question → ℕ → Result T Refusal
refused q p = Err (refusal q p)

-- the answer f to the value, where there is one
abbrev pub and_then : {T U E : Type 0} → Result T E → (T → Result U E) → Result U E
and_then (Ok x) f = f x
and_then (Err e) f = Err e

-- the answer with what its value stands for in place of the value
abbrev pub seen : {T U E : Type 0} → (T → U) → Result T E → Result U E
seen view (Ok x) = Ok (view x)
seen view (Err e) = Err e

-- a refusal, if it is one, is by a question of form at the place p
abbrev pub Asked : {T : Type 0} → ℕ → Result T Refusal → Type 0
Asked p (Ok x) = Unit {0}
Asked p (Err e) = (layer_of e.question ≡ Form) × (e.place ≡ p)

abbrev pub Blamed : ℕ → Fault → Type 0
Blamed p (Refused e) = (layer_of e.question ≡ Form) × (e.place ≡ p)
Blamed p Memory = Unit {0}

-- a refusal is by a question of form, at a place up to n
abbrev pub Within : ℕ → Fault → Type 0
Within n (Refused e) = (layer_of e.question ≡ Form) × (e.place ≤ n)
Within n Memory = Unit {0}
