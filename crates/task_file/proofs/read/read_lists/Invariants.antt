-- What is read so far, with the bytes that are left, gives what the whole file gives.
use Rattle.std.proofs.Common.{◌≡◌, ◌≤◌, true, [], length}
use Rattle.task_form.specs.Form.{asked}
use Rattle.task_form.proofs.Walks.{Going}
use Rattle.task_file.specs.Form.{stands}
use Rattle.task_file.specs.Views.{named_of, stage_of}
use Rattle.task_file.proofs.read.read_lists.Given as goal

abbrev pub invariant-loop-rest : goal.invariant-loop-rest
invariant-loop-rest l = record {
  left : length l.rest ≤ length l.file;
  fits : stands l.lists l.part ≡ true;
  going : Going (asked (length l.file) (length l.file) [] l.file) (length l.file) (named_of l.lists) (stage_of l.part) l.rest;
}

abbrev pub decreases-loop-rest : goal.decreases-loop-rest
decreases-loop-rest l = length l.rest
