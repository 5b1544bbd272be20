use Rattle.std.proofs.Common.{◌≡◌, ◌++◌, take}
use Rattle.ft_items.specs.Texts.{PartsFit}
use Rattle.ft_export.specs.Parts.{parts_text, numbers}
use Rattle.ft_export.proofs.steps.push_numbers.Given as goal

abbrev pub invariant-loop-j : goal.invariant-loop-j
invariant-loop-j l = record {
  out : l.out ≡ l.fn.out ++ parts_text (numbers (take l.j-index l.items));
  fits : PartsFit (numbers (take l.j-index l.items));
}
