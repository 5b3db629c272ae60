-- Every answer to a task file is lawful. Assumes nothing.
use Rattle.std.proofs.Common.{◌≡◌, ℕ, List, ◌∷◌, length, Ok, Err, Result, sym, ap, ◌∙◌, subst, arith}
use Rattle.refusals.specs.declared.Refusal.{Refusal}
use Rattle.model.specs.Task.{Task}
use Rattle.model.specs.Bounds.{Bounded}
use Rattle.model.specs.Size.{task_bytes}
use Rattle.task_form.specs.Form.{form}
use Rattle.task_form.specs.Reading.{Named, lists, ended, task_named}
use Rattle.task_form.specs.Laws.{Lawful}
use Rattle.task_form.proofs.Walks.{denotes}
use Rattle.task_form.proofs.Spelling.{spelled_width}
use Rattle.task_form.proofs.Admitting.{Told, form_told}
use Rattle.task_form.proofs.SoundLine.{bounded_sound}
use Rattle.task_form.proofs.Fitting.{FitNamed, bytes, reads_grows, first_fits}
use Rattle.task_form.proofs.ReadIn.{ReadIn, form_read}
use Rattle.task_form.proofs.ReadThrough.{never_read}
use Rattle.task_form.proofs.GrammarAccepted.{accepted_is_text}
use Rattle.task_form.proofs.Grammar.{text_is_accepted}

module _ (n : Named) (f : FitNamed n) (counted : length n.moves ≡ n.sizes.moves) where
  fit_bounded : Bounded (task_named n)
  fit_bounded = record {
    stations = f.stations;
    fluents = f.fluents;
    count = rw counted f.count;
    start = f.start;
    goal = f.goal;
    moves = rw counted f.moves;
  }

  bytes_task : bytes n ended ≡ task_bytes (task_named n)
  bytes_task = rw counted (omega arith)

within_bounds : (bs : List ℕ) (t : Task) → ReadIn bs t → Bounded t × (length bs ≡ task_bytes t)
within_bounds bs t r =
    let f = first_fits r.head r.at_first r.is_first in
    let g = reads_grows r.at_first lists r.tail (r.at_last, ended) f.0 r.is_read in
    let named : t ≡ task_named r.at_last = r.named ∙ denotes (r.head ∷ r.tail) r.at_last r.stands in
    let first_bytes = f.1 in
    let all_bytes = g.1 in
    let size = spelled_width (r.head ∷ r.tail) bs r.spelled in
    let last : bytes r.at_last ended ≡ task_bytes t = bytes_task r.at_last g.0.0 r.stands.at.counted ∙ ap task_bytes (sym named) in
    (subst Bounded (sym named) (fit_bounded r.at_last g.0.0 r.stands.at.counted), omega arith)

pub lawful : (bs : List ℕ) (r : Result Task Refusal) → form bs ≡ r → Lawful bs r
lawful bs (Ok t) e =
    let w = within_bounds bs t (form_read bs t e).0 in
    (accepted_is_text bs t e, w.0, bounded_sound t w.0, w.1)
lawful bs (Err x) e =
    let told = subst (Told bs) e (form_told bs) in
    (λ y w s h. never_read x _ (sym e ∙ text_is_accepted bs y w s h), told.0, told.1)
