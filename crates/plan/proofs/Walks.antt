-- What a turn of the reader keeps: the steps so far, with those of what is left, are the whole file's.
use Rattle.std.proofs.Common.{◌≡◌, ℕ, zero, suc, ◌-◌, ◌<◌, ◌≤◌, List, [], ◌∷◌, ◌++◌, length, Ok, Err, Result, sym, refl, ap, ◌∙◌, append_assoc, append-nil, arith, le-ltb, lt-ltb}
use Rattle.refusals.specs.declared.Question.TheVariants.{Limit}
use Rattle.refusals.specs.declared.Refusal.{Refusal}
use Rattle.refusals.specs.Answers.{refusal, and_then, seen}
use Rattle.model.specs.Line.{Line}
use Rattle.plan.specs.Commands.{first}
use Rattle.plan.specs.Form.{formed, steps, joint_form}

abbrev Steps : Type 0
Steps = List (List ℕ)

abbrev after_those : Steps → Result Steps Refusal → Result Steps Refusal
after_those done r = seen (λ rest. done ++ rest) r

-- some number of turns, enough for what is left, gives what the whole file gives
pub record Left (L : Line) (whole : Result Steps Refusal) (size : ℕ) (done : Steps) (rest : List ℕ) : Type 0 where
  pub turns : ℕ
  pub enough : length rest ≤ turns
  pub same : after_those done (steps turns L size rest) ≡ whole

after_none : (r : Result Steps Refusal) → after_those [] r ≡ r
after_none (Ok x) = refl
after_none (Err e) = refl

after_one : (done : Steps) (s : List ℕ) (r : Result Steps Refusal) → after_those (done ++ (s ∷ [])) r ≡ after_those done (seen (λ rest. s ∷ rest) r)
after_one done s (Ok x) = ap Ok (append_assoc done (s ∷ []) x)
after_one done s (Err e) = refl

-- one turn, from what was taken at the front
abbrev turn : ℕ → Line → ℕ → ℕ → Result (List ℕ × List ℕ) Refusal → Result Steps Refusal
turn n L size place t = and_then t (λ p. and_then (formed L place p.0) (λ s. seen (λ rest. s ∷ rest) (steps n L size p.1)))

-- where what is left holds a byte, the walk takes a turn
turned : (L : Line) (size : ℕ) (rest : List ℕ) (n : ℕ) → length rest ≤ n → 0 < length rest
    → (m : ℕ) × (length rest ≤ suc m) × (steps n L size rest ≡ turn m L size (size - length rest) (first (size - length rest) rest))
turned L size [] n h z = absurd (omega arith)
turned L size (b ∷ bs) zero h z = absurd (omega arith)
turned L size (b ∷ bs) (suc m) h z = (m, h, refl)

pub all_left : (L : Line) (bs : List ℕ) (done : Steps) → done ≡ [] → Left L (steps (length bs) L (length bs) bs) (length bs) done bs
all_left L bs done e = record { turns = length bs; enough = omega arith; same = rw e (after_none _) }

module _ (L : Line) (whole : Result Steps Refusal) (size : ℕ) (done : Steps) where
  pub none_left : (rest : List ℕ) → Left L whole size done rest → length rest ≡ 0 → whole ≡ Ok done
  none_left [] l z = at l.turns l.same
    where
      at : (n : ℕ) → after_those done (steps n L size []) ≡ whole → whole ≡ Ok done
      at zero e = sym e ∙ ap Ok (append-nil done)
      at (suc n) e = sym e ∙ ap Ok (append-nil done)
  none_left (b ∷ bs) l z = absurd (omega arith)

  module _ (rest : List ℕ) (l : Left L whole size done rest) where
    -- no command stands at the front
    pub stops_first : (e : Refusal) → 0 < length rest → Err e ≡ first (size - length rest) rest → whole ≡ Err e
    stops_first e z taken =
        let t = turned L size rest l.turns l.enough z in
        sym l.same ∙ rw (t.2, ← taken) refl

    module _ (ops after : List ℕ) (taken : Ok (ops, after) ≡ first (size - length rest) rest) (less : length after < length rest) where
      -- the operands of the step at the front are refused
      pub stops_step : (e : Refusal) → Err e ≡ formed L (size - length rest) ops → whole ≡ Err e
      stops_step e stop =
          let t = turned L size rest l.turns l.enough (omega arith) in
          sym l.same ∙ rw (t.2, ← taken, ← stop) refl

      pub goes_on : (s : List ℕ) (done' : Steps) → Ok s ≡ formed L (size - length rest) ops → done' ≡ done ++ (s ∷ []) → Left L whole size done' after
      goes_on s done' on more =
          let t = turned L size rest l.turns l.enough (omega arith) in
          record {
            turns = t.0;
            enough = omega (arith, t.1);
            same = rw more (after_one done s (steps t.0 L size after) ∙ (rw (t.2, ← taken, ← on) at l.same));
          }

-- a file within the limit gives what its walk gives
pub form_from : (L : Line) (bs : List ℕ) (r : Result Steps Refusal) → length bs ≤ 4352 → steps (length bs) L (length bs) bs ≡ r → joint_form L bs ≡ r
unfolding joint_form
form_from L bs r h e = rw (le-ltb 4352 (length bs) h) e

pub over_limit : (L : Line) (bs : List ℕ) (e : Refusal) → 4352 < length bs → e ≡ refusal Limit 0 → joint_form L bs ≡ Err e
unfolding joint_form
over_limit L bs e h r = rw (lt-ltb 4352 (length bs) h, r) refl
