-- A file that is accepted spells a well formed text, and its task is what the text means. Assumes nothing.
use Rattle.std.proofs.Common.{◌≡◌, ℕ, Bool, true, false, cond, ◌&&◌, List, ◌∷◌, ◌++◌, length, Ok, sym, ap, ◌∙◌, subst}
use lib.ListN.{length-map}
use Rattle.refusals.specs.declared.Question.TheVariants as Q
use Rattle.refusals.specs.Answers.{refused}
use Rattle.model.specs.Task.{Task}
use Rattle.task_command.specs.declared.command.Command.{Command}
use Rattle.task_command.specs.declared.command.Command.TheVariants.{Sizes, Start, Goal, Move, Need, With, Effect, If, IfMove, Then, End}
use Rattle.task_form.specs.Denoted.{counts, denoted}
use Rattle.task_form.specs.Questions.{up_to}
use Rattle.task_form.specs.Form.{form}
use Rattle.task_form.specs.Reading.{Named, first_named, task_named}
use Rattle.task_form.specs.Spelling.{Spelled}
use Rattle.task_form.specs.Grammar.{Text, spell, move_meaning, meaning, IsText}
use Rattle.task_form.proofs.Walks.{newly, denotes}
use Rattle.task_form.proofs.Fitting.{first_fits}
use Rattle.task_form.proofs.ReadThrough.{never_read}
use Rattle.task_form.proofs.ReadIn.{form_read}
use Rattle.task_form.proofs.GrammarNew.{new_well}
use Rattle.task_form.proofs.GrammarParsed.{reads_head}
use Rattle.task_form.proofs.GrammarMeaning.{spell_means}

-- the first command is SIZES
first_command : (c : Command) (n : Named) → first_named c ≡ Ok n → c ≡ Sizes n.sizes.stations n.sizes.fluents n.sizes.moves
first_command (Sizes i j k) n e = by (up_to 16 i && (up_to 128 j && up_to 64 k)) e
  where
    by : (t : Bool) → cond t (Ok (newly i j k)) (refused Q.Range 0) ≡ Ok n → Sizes i j k ≡ Sizes n.sizes.stations n.sizes.fluents n.sizes.moves
    by true q =
        let s : newly i j k ≡ n = cc in
        ap (λ m. Sizes m.sizes.stations m.sizes.fluents m.sizes.moves) s
    by false q = absurd (never_read _ n q)
first_command (Start k) n e = absurd (never_read _ n e)
first_command (Goal x) n e = absurd (never_read _ n e)
first_command (Move s) n e = absurd (never_read _ n e)
first_command (Need x) n e = absurd (never_read _ n e)
first_command (With x) n e = absurd (never_read _ n e)
first_command Effect n e = absurd (never_read _ n e)
first_command (If x) n e = absurd (never_read _ n e)
first_command (IfMove x) n e = absurd (never_read _ n e)
first_command (Then x) n e = absurd (never_read _ n e)
first_command End n e = absurd (never_read _ n e)

pub accepted_is_text : (bs : List ℕ) (t : Task) → form bs ≡ Ok t → IsText bs t
accepted_is_text bs t e =
    let a = form_read bs t e in
    let r = a.0 in
    let n = r.at_first in
    let m = r.at_last in
    let f = (first_fits r.head n r.is_first).0.0 in
    let h = reads_head n m r.tail r.is_read in
    let x : Text = record { sizes = n.sizes; head = h.head; moves = h.moves.moves } in
    let c = first_command r.head n r.is_first in
    let whole : r.head ∷ r.tail ≡ spell x = ap (λ d. d ∷ r.tail) c ∙ ap (λ ds. Sizes n.sizes.stations n.sizes.fluents n.sizes.moves ∷ ds) (h.whole ∙ ap (λ ds. h.head ++ ds) h.moves.whole) in
    let named : t ≡ meaning x = r.named ∙ ap denoted whole ∙ spell_means x h.own h.moves.well in
    let sizes_kept : n.sizes ≡ m.sizes = ap counts (sym c) ∙ r.stands.base.sized in
    let told : t ≡ task_named m = r.named ∙ denotes (r.head ∷ r.tail) m r.stands in
    let in_number : length h.moves.moves ≡ n.sizes.moves =
    sym (length-map h.moves.moves move_meaning) ∙ ap (λ (u : Task). length u.moves) (sym named ∙ told) ∙ r.stands.at.counted ∙ ap (λ z. z.moves) (sym sizes_kept) in
    record {
      text = x;
      well = record {
        stations = f.stations;
        fluents = f.fluents;
        count = f.count;
        counted = in_number;
        own = h.own;
        start = new_well _ 0x02 _ h.head h.start;
        goal = new_well _ 0x03 _ h.head h.goal;
        moves = h.moves.well;
      };
      spelled = subst (λ cs. Spelled cs bs) whole r.spelled;
      named = named;
      small = a.1;
    }
