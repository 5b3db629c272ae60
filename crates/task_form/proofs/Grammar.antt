-- A well formed text is accepted, with its meaning. Assumes nothing.
use Rattle.std.proofs.Common.{◌≡◌, ℕ, ◌≤◌, List, length, Ok, ap, ◌∙◌}
use Rattle.task_form.specs.Questions.{at_end}
use Rattle.task_form.specs.Form.{form}
use Rattle.task_form.specs.Reading.{ended}
use Rattle.task_form.specs.Spelling.{Spelled}
use Rattle.task_form.specs.Grammar.{Text, spell, meaning, Well}
use Rattle.task_form.proofs.ReadThrough.{whole_admits}
use Rattle.task_form.proofs.GrammarMeaning.{spell_means}
use Rattle.task_form.proofs.GrammarAsked.{admitted_form}
use Rattle.task_form.proofs.GrammarRead.{sizes_of, begun_of, first_read, text_read}

pub text_is_accepted : (bs : List ℕ) (x : Text) → Well x → Spelled (spell x) bs → length bs ≤ 8192 → form bs ≡ Ok (meaning x)
text_is_accepted bs x w s h =
    let r = text_read x w in
    let a = whole_admits (sizes_of x) _ (begun_of x) (r.0, ended) (first_read x w) r.1 in
    admitted_form (spell x) bs s a.0 (ap at_end a.1.at.place) h ∙ ap Ok (spell_means x w.own w.moves)
