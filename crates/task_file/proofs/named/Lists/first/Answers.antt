use Rattle.std.proofs.Common.{sym, ap, ◌∙◌, vec_items}
use Rattle.sets.specs.Members.{members}
use Rattle.moves.specs.Lists.{literals_of}
use Rattle.moves.proofs.Bounds.{empty_subset, empty_within}
use Rattle.task_form.specs.Reading.{first_named}
use Rattle.task_file.specs.Views.{counts_of}
use Rattle.task_file.proofs.Taken.{first_lists}
use Rattle.task_file.proofs.named.Lists.first.Goals as goal

pub invariant_of-result : goal.invariant_of-result
invariant_of-result c = record {
  begun = empty_subset _ _ c.empty.ensures;
  aimed = empty_within _ _ c.empty-2.ensures;
  fitting = rw c.new.ensures.items;
}

pub returns-clause-value : goal.returns-clause-value
returns-clause-value c =
    let z = c.in-Sizes in
    first_lists z.stations z.fluents z.moves (counts_of c.in_ok-named.field-0) (members c.empty.result) (literals_of c.empty-2.result) (vec_items c.new.result)
    c.in_ok-named.ensures.value c.empty.ensures c.empty-2.ensures c.new.ensures.items
    ∙ sym (ap first_named z.is)
