-- Steps are judged as their operands are. Assumes nothing.
use Rattle.std.proofs.Common.{List, [], ◌∷◌, map, take, Ok, Err, Result, sym, refl, ap, ◌∙◌, inl, inr}
use Rattle.std.proofs.lemmas.List.{length-map, take-map, drop-map}
use Rattle.refusals.specs.declared.Question.{Question}
use Rattle.refusals.specs.declared.Refusal.{Refusal}
use Rattle.world.specs.Plans.{Leads, Solves, Fails, Judged}
use Rattle.world.proofs.Walks.{judged_ok, judged_err}

-- a plan judged by what its steps stand for
module _ {S A B : Type 0} (next : S → B → Result S Question) (f : A → B) where
  abbrev by : S → A → Result S Question
  by s a = next s (f a)

  there : (s : S) (xs : List A) (t : S) → Leads by s xs t → Leads next s (map f xs) t
  there s [] t l = l
  there s (x ∷ xs) t l = (l.0, l.1, there l.0 xs t l.2)

  module _ (ends : S → Result (Unit {0}) Question) (s : S) (xs : List A) where
    solves_map : Solves by ends s xs → Solves next ends s (map f xs)
    solves_map h = (h.0, there s xs h.0 h.1, h.2)

    fails_map : (e : Refusal) → Fails by ends s xs e → Fails next ends s (map f xs) e
    fails_map e (inl h) =
        inl (
          h.0,
          f h.1,
          map f h.2,
          rw (take-map f e.place xs) (there s (take e.place xs) h.0 h.3),
          drop-map f e.place xs ∙ ap (map f) h.4,
          h.5,
        )
    fails_map e (inr h) = inr (h.0, there s xs h.0 h.1, h.2, h.3 ∙ sym (length-map xs f))

    pub judged_map : (r : Result (Unit {0}) Refusal) → Judged by ends s xs r → Judged next ends s (map f xs) r
    judged_map (Ok u) j = judged_ok next ends s (map f xs) (solves_map (j.accepted refl))
    judged_map (Err e) j = judged_err next ends s (map f xs) e (fails_map e (j.refused e refl))
