-- Commands that are all admitted are read to their end, and what is read stands for them; and the other way round.
-- Assumes nothing.
use Rattle.std.proofs.Common.{◌≡◌, ℕ, List, [], ◌∷◌, ◌++◌, Ok, Err, Result, refl, ap, ◌∙◌, subst, append_assoc, append-nil, arith}
use mathlib.Core.Option.{Option, none, some}
use Rattle.refusals.specs.declared.Question.{Question}
use Rattle.refusals.specs.declared.Refusal.{Refusal}
use Rattle.refusals.specs.Answers.{and_then}
use Rattle.task_command.specs.declared.command.Command.{Command}
use Rattle.task_form.specs.Questions.{first_no}
use Rattle.task_form.specs.Reading.{Named, Stage, Read, lists, takes, first_named}
use Rattle.task_form.proofs.Agrees.{Stands, Agree}
use Rattle.task_form.proofs.Taking.{agrees}
use Rattle.task_form.proofs.Walks.{Begun, first_agrees}
use Rattle.task_form.proofs.Admitting.{Admits}

pub never_read : {X : Type 0} (e : Refusal) (x : X) → ◌≡◌ {A = Result X Refusal} (Err e) (Ok x) → ⊥
never_read e x h = let z : ◌≡◌ {A = ℕ} 0 1 = cc in omega arith

-- the commands one after the other; the place bears on refusals only, so that 0 does for all
abbrev pub reads : Named → Stage → List Command → Read
reads n st [] = Ok (n, st)
reads n st (c ∷ cs) = and_then (takes n st c 0) (λ x. reads x.0 x.1 cs)

-- what has been read after the commands cs, beginning with n and st
pub record ReadTo (before : List Command) (n : Named) (st : Stage) (cs : List Command) : Type 0 where
  pub after : Named × Stage
  pub is_read : reads n st cs ≡ Ok after
  pub stands : Stands (before ++ cs) after.0 after.1

pub admits_reads : (before cs : List Command) (n : Named) (st : Stage) → Stands before n st → Admits before cs → ReadTo before n st cs
admits_reads before [] n st s a = record { after = (n, st); is_read = refl; stands = rw append-nil s }
admits_reads before (c ∷ cs) n st s a =
    from (takes n st c 0) refl (subst (λ o. Agree o 0 (λ x. Stands (before ++ (c ∷ [])) x.0 x.1) (takes n st c 0)) a.0 (agrees before n st c 0 s))
    (λ x z. admits_reads (before ++ (c ∷ [])) cs x.0 x.1 z a.1)
  where
    from : (r : Read) → takes n st c 0 ≡ r → Agree none 0 (λ x. Stands (before ++ (c ∷ [])) x.0 x.1) r
        → ((x : Named × Stage) → Stands (before ++ (c ∷ [])) x.0 x.1 → ReadTo (before ++ (c ∷ [])) x.0 x.1 cs) → ReadTo before n st (c ∷ cs)
    from (Ok x) e g more =
        let m = more x g in
        record {
          after = m.after;
          is_read = ap (λ r. and_then r (λ y. reads y.0 y.1 cs)) e ∙ m.is_read;
          stands = rw append_assoc at m.stands;
        }
    from (Err e) q g more = absurd g

-- and the other way round
pub reads_admits : (before cs : List Command) (n : Named) (st : Stage) (x : Named × Stage) → Stands before n st → reads n st cs ≡ Ok x
    → Admits before cs × Stands (before ++ cs) x.0 x.1
reads_admits before [] n st x s e =
    let p : (n, st) ≡ x = cc in
    (tt, rw append-nil (subst (λ y. Stands before y.0 y.1) p s))
reads_admits before (c ∷ cs) n st x s e =
    from (takes n st c 0) e (first_no before c) refl (agrees before n st c 0 s)
    (λ y z q. reads_admits (before ++ (c ∷ [])) cs y.0 y.1 x z q)
  where
    from : (r : Read) → and_then r (λ y. reads y.0 y.1 cs) ≡ Ok x → (o : Option Question) → first_no before c ≡ o → Agree o 0 (λ y. Stands (before ++ (c ∷ [])) y.0 y.1) r
        → ((y : Named × Stage) → Stands (before ++ (c ∷ [])) y.0 y.1 → reads y.0 y.1 cs ≡ Ok x → Admits (before ++ (c ∷ [])) cs × Stands ((before ++ (c ∷ [])) ++ cs) x.0 x.1)
        → Admits before (c ∷ cs) × Stands (before ++ (c ∷ cs)) x.0 x.1
    from (Ok y) q none o g more = let m = more y g q in ((o, m.0), rw append_assoc at m.1)
    from (Ok y) q (some f) o g more = absurd g
    from (Err f) q o r g more = absurd (never_read f x q)

-- ---- from the front

pub record ReadWhole (c : Command) (cs : List Command) : Type 0 where
  pub at_first : Named
  pub is_first : first_named c ≡ Ok at_first
  pub to_end : ReadTo (c ∷ []) at_first lists cs

pub admits_whole : (c : Command) (cs : List Command) → Admits [] (c ∷ cs) → ReadWhole c cs
admits_whole c cs a = from (first_named c) refl (subst (λ o. Begun c o (first_named c)) a.0 (first_agrees c))
  where
    from : (r : Result Named Refusal) → first_named c ≡ r → Begun c none r → ReadWhole c cs
    from (Ok n) e b = record { at_first = n; is_first = e; to_end = admits_reads (c ∷ []) cs n lists b a.1 }
    from (Err f) e b = absurd b

pub whole_admits : (c : Command) (cs : List Command) (n : Named) (x : Named × Stage) → first_named c ≡ Ok n → reads n lists cs ≡ Ok x
    → Admits [] (c ∷ cs) × Stands (c ∷ cs) x.0 x.1
whole_admits c cs n x f e = from (first_no [] c) refl (subst (Begun c (first_no [] c)) f (first_agrees c))
  where
    from : (o : Option Question) → first_no [] c ≡ o → Begun c o (Ok n) → Admits [] (c ∷ cs) × Stands (c ∷ cs) x.0 x.1
    from none o b = let m = reads_admits (c ∷ []) cs n lists x b e in ((o, m.0), m.1)
    from (some q) o b = absurd b
