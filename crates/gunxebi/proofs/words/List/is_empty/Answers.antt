-- The members of the two sets together are those of their union.
use Rattle.std.proofs.Common.{not, ap, ◌∙◌}
use Rattle.model.specs.Sets.{any}
use Rattle.gunxebi.proofs.words.List.is_empty.Goals as goal

pub returns : goal.returns
returns c = ap not (c.any_below.ensures ∙ ap (any 128) c.union.ensures)
